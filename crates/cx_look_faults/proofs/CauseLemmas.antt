-- The marked part of an operand has the fault by itself.
use Rattle.std.proofs.Common.{◌≡◌, inl, inr, ℕ, Bool, true, false, cond, Option, Some, None, List, refl}
use Rattle.std.specs.Prelude.{◌⊎◌}
use Rattle.std.specs.List.{find}
use Rattle.std.specs.Option.{option_or}
use Rattle.cx_ebcdic.specs.Facts.Lookup.{find_passes}
use Rattle.cx_look_faults.specs.Judging.{has_fault}
use Rattle.cx_look_faults.specs.Laws.Marks.{ConstantsAreCauses, IsCause, PartsAreCauses}
use Rattle.cx_look_faults.specs.Operands.{alone_in, is_alone, is_term, last_part, whole_part}
use Rattle.cx_look_faults.specs.Spans.{span, span_text, spans_of}
use Rattle.cx_look_faults.specs.declared.spans.Cut.{Cut}
use Rattle.cx_look_faults.specs.declared.spans.Cut.TheVariants.{Operands, Subfields, Terms}
use Rattle.cx_look_faults.specs.declared.spans.Span.{Span}

either : {A : Type 0} (first second : Option A) (x : A) → option_or first second ≡ Some x → (first ≡ Some x) ⊎ (second ≡ Some x)
either None second x e = inr e
either (Some y) second x e = inl e

alone_is : (has : List ℕ → Bool) (operand : List ℕ) (cut : Cut) (part : Span) → alone_in has operand cut ≡ Some part → IsCause has operand cut part
alone_is has operand cut part e = go (is_alone has cut operand (span 0 0)) refl e
  where
    go : (b : Bool) → is_alone has cut operand (span 0 0) ≡ b → cond b None (find (is_alone has cut operand) (spans_of cut operand)) ≡ Some part
        → IsCause has operand cut part
    go true g h = absurd (cc)
    go false g h = record { has_it = find_passes (is_alone has cut operand) (spans_of cut operand) part h; goes = g }

pub parts_are_causes : PartsAreCauses
parts_are_causes whole bases statements at s kind operation part e =
    let has = has_fault whole bases s kind in let text = s.stmt.operand in
    elim (either _ (last_part statements at text operation kind) part e) [
      | inl h ↦ elim (either (alone_in has text Terms) _ part h) [
        | inl term ↦ inl (alone_is has text Terms part term)
        | inr k ↦ elim (either (alone_in has text Subfields) _ part k) [
          | inl subfield ↦ inr (inl (alone_is has text Subfields part subfield))
          | inr l ↦ elim (either (alone_in has text Operands) (whole_part has text) part l) [
            | inl operand ↦ inr (inr (inl (alone_is has text Operands part operand)))
            | inr all ↦ inr (inr (inr (inl all)))
          ]
        ]
      ]
      | inr last ↦ inr (inr (inr (inr last)))
    ]

pub constants_are_causes : ConstantsAreCauses
constants_are_causes whole bases s kind part e = elim (either (find (is_term whole s kind) (spans_of Terms s.stmt.operand)) _ part e) [
  | inl term ↦ inl (find_passes (is_term whole s kind) (spans_of Terms s.stmt.operand) part term)
  | inr item ↦ inr (find_passes (λ part. has_fault whole bases s kind (span_text part s.stmt.operand)) (spans_of Operands s.stmt.operand) part item)
]
