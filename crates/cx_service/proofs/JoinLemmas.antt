-- The lines of a text, joined, are its parts.
use Rattle.std.proofs.Common.{◌≡◌, ℕ, zero, suc, ◌+◌, ◌<◌, Option, Some, None, List, [], ◌∷◌, ◌++◌, length, take, drop, slice_get, refl, sym, ap, inl, inr, arith, length-take, nat_le}
use Rattle.std.proofs.lemmas.Bool.{cases_Bool, leb-false, MatchBool-at_true, MatchBool-at_false}
use Rattle.std.proofs.lemmas.List.{take-append-drop}
use Rattle.cx_service.specs.Lines.{blank, columns, parts_of, IsLastBreak, line_before, left_after, Breaks, ArePartLines, AreLines}
use Rattle.cx_service.specs.Laws.Lines.{IsBrokenOff, JoinTo, AllJoinTo, LinesJoin}

-- a part around one of its bytes
around : (part : List ℕ) (k byte : ℕ) → slice_get part k ≡ Some byte → (part ≡ take k part ++ byte ∷ drop (k + 1) part) × (length (take k part) ≡ k)
around [] k byte at = cc
around (b ∷ bs) zero byte at = let same : b ≡ byte = cc in (ap (λ (x : ℕ). x ∷ bs) same, refl)
around (b ∷ bs) (suc k) byte at =
    let rest = around bs k byte at in
    let next : suc k + 1 ≡ suc (k + 1) = omega arith in
    (rw next (ap (λ (l : List ℕ). b ∷ l) rest.0), ap suc rest.1)

broken_off : (part line left : List ℕ) → columns < length part → Breaks part line left → IsBrokenOff part line left
broken_off part line left long breaks = by_place breaks.place breaks.last breaks.before breaks.after
  where
    by_place : (place : Option ℕ) → IsLastBreak part place → line ≡ line_before part place → left ≡ left_after part place → IsBrokenOff part line left
    by_place None last before after =
        let full : length (take columns part) ≡ columns = rw length-take (omega (arith, long)) in
        rw (before, after) (inl (sym (take-append-drop columns part), full))
    by_place (Some k) last before after =
        let parts = around part k blank last.0.at_blank in
        let from = last.0.from in
        let to = last.0.to in
        rw (before, after) (inr (parts.0, rw (parts.1) from, rw (parts.1) to))

part_joins : (part : List ℕ) (lines : List (List ℕ)) → ArePartLines part lines → JoinTo part lines
unfolding ArePartLines JoinTo
part_joins part [] are = absurd are
part_joins part (line ∷ []) are = elim (cases_Bool (nat_le (length part) columns)) [
  | inl short ↦ (MatchBool-at_true _ _ short are).0
  | inr long ↦ absurd ((MatchBool-at_false _ _ long are).2)
]
part_joins part (line ∷ next ∷ lines) are = elim (cases_Bool (nat_le (length part) columns)) [
  | inl short ↦ let never : next ∷ lines ≡ [] = (MatchBool-at_true _ _ short are).1 in cc
  | inr long ↦
      let broken = MatchBool-at_false _ _ long are in
      (broken.0, broken_off part line broken.0 (leb-false _ _ long) broken.1, part_joins broken.0 (next ∷ lines) broken.2)
]

parts_join : (parts lines : List (List ℕ)) → AreLines parts lines → AllJoinTo parts lines
unfolding AreLines AllJoinTo
parts_join [] lines are = are
parts_join (part ∷ parts) lines are = (are.0, are.1, are.2, part_joins part are.0 are.3, parts_join parts are.1 are.4)

pub lines_join : LinesJoin
lines_join text lines are = parts_join (parts_of text) lines are
