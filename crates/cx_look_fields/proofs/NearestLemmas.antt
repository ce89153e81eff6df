-- The nearest is the first of the least distance.
use Rattle.std.proofs.Common.{◌≡◌, ℕ, ◌+◌, ◌-◌, ◌<◌, ◌≤◌, drop, get_or, length, Bool, true, false, Option, Some, None, is_none, List, [], ◌∷◌, option_and_then, refl, sym, subst, ap, ◌∙◌, arith}
use Rattle.std.specs.Prelude.{nat_lt, if◌then◌else◌}
use Rattle.std.specs.Option.{option_map, option_map_or}
use Rattle.std.proofs.lemmas.Bool.{lt-ltb, ltb-true, ltb-false}
use Rattle.std.proofs.lemmas.List.{drop_more}
use Rattle.std.proofs.lemmas.Option.{same_Some}
use Rattle.std.specs.List.{AllByRecursion, cons_option, filter_map}
use Rattle.cx_storage.specs.Address.{distance}
use Rattle.cx_source.specs.declared.source.Source.{Source}
use Rattle.cx_asm_expressions.specs.declared.values.Value.{Value}
use Rattle.cx_asm_operands.specs.Bases.{Bases}
use Rattle.cx_asm_pass1.specs.Locations.{final_state}
use Rattle.cx_asm_pass1.specs.declared.place.LineFault.{LineFault}
use Rattle.cx_look_symbols.specs.Laws.{AreLookedUp, SymbolsAreLookedUp}
use Rattle.cx_look_symbols.specs.Placed.{placed_in, placed_source, translated_in}
use Rattle.cx_look_symbols.specs.Symbols.{Rows, symbols_of}
use Rattle.cx_look_symbols.specs.declared.rows.Symbol.{Symbol}
use Rattle.cx_look_fields.specs.Fields.{LevelFields, bases_at_offset, field_by, fields_in, is_field, own_offset}
use Rattle.cx_look_fields.specs.declared.fields.Field.{Field}
use Rattle.cx_look_fields.specs.Laws.{FieldHasByte, field_in, IsLabel, MatchNearest, NearestFieldIs, NearestLabelIs}
use Rattle.cx_look_fields.specs.Addresses.{near_field, near_in, near_label, nearest_by, nearest_label}
use Rattle.cx_look_fields.proofs.FieldLemmas.{looked_up}
use Rattle.cx_look_fields.specs.Nearest.{near, nearer_symbol, nearest}
use Rattle.cx_look_fields.specs.declared.nearest.Near.{Near}

abbrev Test : Type 1
Test = List ℕ × Symbol → ℕ → Type 0

abbrev Finds : Type 0
Finds = List ℕ × Symbol → Option Near

-- What says that a name is there says the same as what finds how far it is.
record Agrees (Has : Test) (h : Finds) (row : List ℕ × Symbol) : Type 0 where
  finds : (n : ℕ) → Has row n → h row ≡ Some (near row.0 n)
  named : (it : Near) → h row ≡ Some it → it ≡ near row.0 it.distance
  has : (it : Near) → h row ≡ Some it → Has row it.distance

-- what is found is no further than any of the names
abbrev Within : Option Near → ℕ → Type 0
Within None n = ⊥
Within (Some it) n = it.distance ≤ n

abbrev Bounds : Test → Option Near → Rows → Type 0
Bounds Has found rows = AllByRecursion (λ row. (n : ℕ) → Has row n → Within found n) rows

record Found (Has : Test) (rows : Rows) (found : Option Near) : Type 0 where
  is : MatchNearest Has rows found
  bounds : Bounds Has found rows

further : (Has : Test) (one other : Option Near) → ((n : ℕ) → Within one n → Within other n) → (rows : Rows) → Bounds Has one rows → Bounds Has other rows
further Has one other less [] all = tt
further Has one other less (row ∷ rows) all = ((λ n has. less n (all.0 n has)), further Has one other less rows all.1)

-- ---- one row more in front
none_here : (Has : Test) (h : Finds) (row : List ℕ × Symbol) → Agrees Has h row → h row ≡ None → (n : ℕ) → Has row n → ⊥
none_here Has h row agrees e n has =
    let finds = agrees.finds n has in
    cc

distance_is : (Has : Test) (h : Finds) (row : List ℕ × Symbol) → Agrees Has h row → (it : Near) → h row ≡ Some it → (n : ℕ) → Has row n → it.distance ≡ n
distance_is Has h row agrees it e n has =
    let same : it ≡ near row.0 n = same_Some _ _ (sym e ∙ agrees.finds n has) in
    ap (λ (one : Near). one.distance) same

skips : (Has : Test) (h : Finds) (row : List ℕ × Symbol) (rows : Rows) → Agrees Has h row → h row ≡ None → (found : Option Near) → Found Has rows found
    → Found Has (row ∷ rows) found
unfolding MatchNearest
skips Has h row rows agrees e None all =
    record {
      is = ((λ n has. none_here Has h row agrees e n has), all.is);
      bounds = ((λ n has. absurd (none_here Has h row agrees e n has)), all.bounds);
    }
skips Has h row rows agrees e (Some later) all =
    record {
      is =
          record {
            before = row ∷ all.is.before;
            symbol = all.is.symbol;
            after = all.is.after;
            among = ap (λ (l : Rows). row ∷ l) all.is.among;
            has = all.is.has;
            nearer = ((λ n has. absurd (none_here Has h row agrees e n has)), all.is.nearer);
            as_near = all.is.as_near;
          };
      bounds = ((λ n has. absurd (none_here Has h row agrees e n has)), all.bounds);
    }

here : (Has : Test) (h : Finds) (row : List ℕ × Symbol) (rows : Rows) → Agrees Has h row → (it : Near) → h row ≡ Some it → Bounds Has (Some it) rows
    → Found Has (row ∷ rows) (Some it)
unfolding MatchNearest
here Has h row rows agrees it e all =
    let named : it.name ≡ row.0 = ap (λ (one : Near). one.name) (agrees.named it e) in
    record {
      is =
          record {
            before = [];
            symbol = row.1;
            after = rows;
            among = rw named refl;
            has = rw named (agrees.has it e);
            nearer = tt;
            as_near = all;
          };
      bounds = (
        (λ n has.
            let far = distance_is Has h row agrees it e n has in
            omega (arith, far)),
        all,
      );
    }

takes : (Has : Test) (h : Finds) (row : List ℕ × Symbol) (rows : Rows) → Agrees Has h row → (it : Near) → h row ≡ Some it → (found : Option Near)
    → Found Has rows found → Found Has (row ∷ rows) (Some (option_map_or (nearer_symbol it) found it))
unfolding MatchNearest
takes Has h row rows agrees it e None all = here Has h row rows agrees it e (further Has None (Some it) (λ n none. absurd none) rows all.bounds)
takes Has h row rows agrees it e (Some later) all = by (nat_lt later.distance it.distance) refl
  where
    by : (test : Bool) → nat_lt later.distance it.distance ≡ test → Found Has (row ∷ rows) (Some (if test then later else it))
    by true lt =
        let less = ltb-true later.distance it.distance lt in
        record {
          is =
              record {
                before = row ∷ all.is.before;
                symbol = all.is.symbol;
                after = all.is.after;
                among = ap (λ (l : Rows). row ∷ l) all.is.among;
                has = all.is.has;
                nearer = (
                  (λ n has.
                      let far = distance_is Has h row agrees it e n has in
                      omega (arith, far, less)),
                  all.is.nearer,
                );
                as_near = all.is.as_near;
              };
          bounds = (
            (λ n has.
                let far = distance_is Has h row agrees it e n has in
                omega (arith, far, less)),
            all.bounds,
          );
        }
    by false ge =
        let few : it.distance ≤ later.distance = ltb-false later.distance it.distance ge in
        here Has h row rows agrees it e (further Has (Some later) (Some it) (λ n more. omega (arith, few, more)) rows all.bounds)

step_found : (Has : Test) (h : Finds) (row : List ℕ × Symbol) (rows : Rows) → Agrees Has h row → (o : Option Near) → h row ≡ o
    → Found Has rows (nearest (filter_map h rows)) → Found Has (row ∷ rows) (nearest (cons_option o (filter_map h rows)))
unfolding nearest
step_found Has h row rows agrees None e all = skips Has h row rows agrees e (nearest (filter_map h rows)) all
step_found Has h row rows agrees (Some it) e all = takes Has h row rows agrees it e (nearest (filter_map h rows)) all

found_of : (Has : Test) (h : Finds) (rows : Rows) → AllByRecursion (Agrees Has h) rows → Found Has rows (nearest (filter_map h rows))
unfolding MatchNearest nearest
found_of Has h [] agree = record { is = tt; bounds = tt }
found_of Has h (row ∷ rows) agree = step_found Has h row rows agree.0 (h row) refl (found_of Has h rows agree.1)

-- one name more in front, of names by their numbers
pub nearest_more : (nears : List Near) (left : ℕ) (one result : Near) (found : Option Near) → 0 < left → left ≤ length nears
    → one ≡ get_or nears (left - 1) one → found ≡ nearest (drop left nears) → result ≡ option_map_or (nearer_symbol one) found one
    → Some result ≡ nearest (drop (left - 1) nears)
unfolding nearest
nearest_more nears left one result found some within is so_far here =
    let after : left - 1 + 1 ≡ left = omega (arith, some) in
    let whole : drop (left - 1) nears ≡ one ∷ drop left nears =
    drop_more nears (left - 1) one (omega (arith, some, within)) ∙ ap (λ (x : Near). x ∷ drop (left - 1 + 1) nears) (sym is)
    ∙ ap (λ k. one ∷ drop k nears) after in
    let first : nearest (drop (left - 1) nears) ≡ Some (option_map_or (nearer_symbol one) (nearest (drop left nears)) one) = ap nearest whole in
    ap (λ (r : Near). Some r) (here ∙ ap (λ (f : Option Near). option_map_or (nearer_symbol one) f one) so_far) ∙ sym first

-- ---- labels
label_named : (o : Option ℕ) (offset : ℕ) (name : List ℕ) (it : Near) → option_map (λ at. near name (offset - at)) o ≡ Some it → it ≡ near name it.distance
label_named (Some at) offset name it e =
    let same : near name (offset - at) ≡ it = same_Some _ _ e in
    sym same ∙ ap (λ d. near name d) (ap (λ (one : Near). one.distance) same)
label_named None offset name it e = absurd (cc)

labels_agree : (offset : ℕ) (control : Option (List ℕ)) (rows : Rows) → AllByRecursion (Agrees (IsLabel offset control) (near_label offset control)) rows
labels_agree offset control [] = tt
labels_agree offset control ((name, symbol) ∷ rows) = (
  record {
    finds = λ n has. has;
    named = λ it e. label_named _ offset name it e;
    has = λ it e. e ∙ ap (λ (one : Near). Some one) (label_named _ offset name it e);
  },
  labels_agree offset control rows,
)

pub nearest_label_is : NearestLabelIs
nearest_label_is lines offset named e =
    let path : nearest_label offset lines ≡ nearest (filter_map (near_label offset named.control) named.rows) = rw e refl in
    subst (MatchNearest (IsLabel offset named.control) named.rows) (sym path)
    (found_of (IsLabel offset named.control) (near_label offset named.control) named.rows (labels_agree offset named.control named.rows)).is

-- ---- fields
record Back (address : ℕ) (name : List ℕ) (test : Bool) (f : Option Field) (it : Near) : Type 0 where
  is_true : test ≡ true
  field : Field
  by_base : f ≡ Some field
  is : it ≡ near name (distance field.address address)
  within : distance field.address address < field.length

back : (address : ℕ) (name : List ℕ) (test : Bool) (f : Option Field) (it : Near)
    → (if test then option_and_then (near_in address name) f else None) ≡ Some it → Back address name test f it
back address name false f it e = absurd (cc)
back address name true None it e = absurd (cc)
back address name true (Some field) it e = go (nat_lt (distance field.address address) field.length) refl e
  where
    go : (test : Bool) → nat_lt (distance field.address address) field.length ≡ test
        → (if test then Some (near name (distance field.address address)) else None) ≡ Some it → Back address name true (Some field) it
    go true lt e =
        record {
          is_true = refl;
          field = field;
          by_base = refl;
          is = sym (same_Some _ _ e);
          within = ltb-true (distance field.address address) field.length lt;
        }
    go false lt e = absurd (cc)

there : (address : ℕ) (name : List ℕ) (field : Field) (test : Bool) (f : Option Field) → test ≡ true → f ≡ Some field
    → distance field.address address < field.length
    → (if test then option_and_then (near_in address name) f else None) ≡ Some (near name (distance field.address address))
there address name field test f e1 e2 has = rw (e1, e2, lt-ltb (distance field.address address) field.length has) refl

-- where these bases are in use
module _ (source : Source) (regs : List ℕ) (offset : ℕ) (control : Option (List ℕ)) (address : ℕ) (bases : Bases) (known : AreLookedUp source (symbols_of source))
    (used : bases_at_offset source offset ≡ Some bases) where
  by_find : (name : List ℕ) (symbol : Symbol) → (final_state source).symbols name ≡ Some symbol.value
      → field_in source regs offset name ≡ field_by regs bases symbol.value
  by_find name symbol value =
      looked_up source regs offset name bases used known ∙ ap (λ (v : Option Value). option_and_then (field_by regs bases) v) value

  field_agrees : (name : List ℕ) (symbol : Symbol) → (final_state source).symbols name ≡ Some symbol.value
      → Agrees (FieldHasByte source regs offset control address) (near_field address regs bases control) (name, symbol)
  field_agrees name symbol value =
      record {
        finds = λ n has.
            let by_base = sym (by_find name symbol value) ∙ has.found in
            let place = has.place in let within = has.within in
            there address name has.field (is_field control symbol.value) (field_by regs bases symbol.value) has.dummy by_base (omega (arith, place, within))
            ∙ ap (λ d. Some (near name d)) has.place;
        named = λ it e.
            let it_is = back address name (is_field control symbol.value) (field_by regs bases symbol.value) it e in
            it_is.is ∙ ap (λ d. near name d) (sym (ap (λ (one : Near). one.distance) it_is.is));
        has = λ it e.
            let it_is = back address name (is_field control symbol.value) (field_by regs bases symbol.value) it e in
            let place : distance it_is.field.address address ≡ it.distance = sym (ap (λ (one : Near). one.distance) it_is.is) in
            let within = it_is.within in
            record {
              dummy = it_is.is_true;
              field = it_is.field;
              found = by_find name symbol value ∙ it_is.by_base;
              place = place;
              within = omega (arith, place, within);
            };
      }

  fields_agree : (rows : Rows) → AllByRecursion (λ row. (final_state source).symbols row.0 ≡ Some row.1.value) rows
      → AllByRecursion (Agrees (FieldHasByte source regs offset control address) (near_field address regs bases control)) rows
  fields_agree [] all = tt
  fields_agree ((name, symbol) ∷ rows) all = (field_agrees name symbol all.0, fields_agree rows all.1)

-- where no bases are known, no field is found
none_has : (source : Source) (regs : List ℕ) (offset : ℕ) (control : Option (List ℕ)) (address : ℕ)
    → bases_at_offset source offset ≡ None → (rows : Rows) → MatchNearest (FieldHasByte source regs offset control address) rows None
unfolding MatchNearest
none_has source regs offset control address used [] = tt
none_has source regs offset control address used (row ∷ rows) = (
  (λ n has.
      let nothing : field_in source regs offset row.0 ≡ None = rw used refl in
      let found = has.found in
      cc),
  none_has source regs offset control address used rows,
)

no_fault : (read : Option Source) (source : Source) → option_and_then placed_source read ≡ Some source → (final_state source).fault ≡ None
no_fault None source e = absurd (cc)
no_fault (Some one) source e = go (final_state one).fault refl e
  where
    go : (fault : Option LineFault) → (final_state one).fault ≡ fault → (if is_none fault then Some one else None) ≡ Some source → (final_state source).fault ≡ None
    go None none is = subst (λ (it : Source). (final_state it).fault ≡ None) (same_Some _ _ is) none
    go (Some fault) none is = absurd (cc)

by_parts : (address : ℕ) (fields : ℕ → Source → Option LevelFields) (o : Option ℕ) (s : Option Source) (offset : ℕ) (source : Source)
    → o ≡ Some offset → s ≡ Some source
    → option_and_then (nearest_by address) (option_and_then (λ offset. option_and_then (fields offset) s) o)
    ≡ option_and_then (nearest_by address) (fields offset source)
by_parts address fields o s offset source e1 e2 = rw (e1, e2) refl

pub nearest_field_is : SymbolsAreLookedUp → NearestFieldIs
unfolding nearest
nearest_field_is looked lines standing offset source address at read =
    subst (MatchNearest (FieldHasByte source standing.regs offset (symbols_of source).control address) (symbols_of source).rows)
    (sym (by_parts address (fields_in standing.regs) (own_offset standing) (placed_in lines) offset source at read))
    (go (bases_at_offset source offset) refl)
  where
    known : AreLookedUp source (symbols_of source)
    known = looked source (no_fault (translated_in lines) source read)

    go : (bases : Option Bases) → bases_at_offset source offset ≡ bases
        → MatchNearest (FieldHasByte source standing.regs offset (symbols_of source).control address) (symbols_of source).rows
        (option_and_then (nearest_by address) (fields_in standing.regs offset source))
    go None used = rw used (none_has source standing.regs offset (symbols_of source).control address used (symbols_of source).rows)
    go (Some bases) used =
        rw used
        (found_of (FieldHasByte source standing.regs offset (symbols_of source).control address)
        (near_field address standing.regs bases (symbols_of source).control) (symbols_of source).rows
        (fields_agree source standing.regs offset (symbols_of source).control address bases known used (symbols_of source).rows known.values)).is
