-- The fields of the EXEC interface block, statement by statement.
use Rattle.std.specs.Prelude.{option_and_then, pos, codes, decimal, reverse, is_some, slice_get, ⊤}
use Rattle.std.proofs.Common.{◌≡◌, ◌≤◌, ℕ, ◌+◌, ◌-◌, ◌*◌, ◌/◌, Bool, true, false, cond, ◌||◌, Option, Some, None, Ok, List, [], ◌∷◌, ◌++◌, map, take, drop, refl, sym, ◌∙◌, ap, subst, ⊎_elim, arith}
use Rattle.std.specs.Fmt.{digits}
use Rattle.std.specs.Option.{option_map_or}
use Rattle.std.specs.List.{list_any, position, position_from}
use Rattle.std.proofs.lemmas.Bool.{cases_Bool}
use Rattle.std.proofs.lemmas.Iterator.Adapters.{position_from-zero}
use Rattle.std.proofs.lemmas.List.{append_assoc, reverse-append}
use Rattle.cx_code.specs.Table.{ops, operation_row}
use Rattle.cx_base.specs.declared.eib.EibField.{EibField}
use Rattle.cx_base.specs.declared.eib.EibField.TheVariants.{Time, Date, Trnid, Taskn, Trmid, Calen, Aid, Fn, Rcode, Rsrce, Resp}
use Rattle.cx_base.specs.declared.eib.EibPiece.{EibPiece}
use Rattle.cx_base.specs.Eib.{eib_field, eib_len, eib_pieces}
use Rattle.cx_ebcdic.specs.Facts.Names.{is_name-decides, is_name-laws}
use Rattle.cx_ebcdic.specs.Characters.{code_of, table}
use Rattle.cx_ebcdic.specs.Names.{padded_name, name_code, is_name_character}
use Rattle.cx_asm_operations.specs.Operations.{branches, directives, operation_named, operations, register_branches}
use Rattle.cx_source.specs.Lines.{is_symbol_name, is_letter}
use Rattle.cx_source.specs.Lines.{is_symbol_name_character as is_written_in_names}
use Rattle.cx_source.specs.Marks.{parts, within_after}
use Rattle.cx_source.specs.declared.marks.Delimiter.TheVariants.{TopComma}
use Rattle.cx_source.specs.declared.source.Item.{Item}
use Rattle.cx_source.specs.declared.source.Stmt.{Stmt}
use Rattle.cx_asm_expressions.specs.Digits.{bound, digit}
use Rattle.cx_asm_expressions.specs.Items.{constant, constant_in, length_of}
use Rattle.cx_asm_expressions.specs.Kinds.{kind_of}
use Rattle.cx_asm_expressions.specs.Names.{symbol_name}
use Rattle.cx_asm_expressions.specs.Weights.{stands_in}
use Rattle.cx_asm_expressions.specs.declared.faults.FaultKind.TheVariants.{DuplicateSymbol}
use Rattle.cx_asm_expressions.specs.declared.kinds.ConstantKind.TheVariants.{Hexadecimal}
use Rattle.cx_asm_expressions.specs.declared.values.Value.{Value}
use Rattle.cx_asm_pools.specs.Pools.{cap, pool_extent}
use Rattle.cx_translate.specs.Expansion.{made_item, stmt}
use Rattle.cx_translate.specs.Sections.{field, is_end, lines, with_bases, with_eib, with_storage}
use Rattle.cx_translate.specs.Translation.{expanded_items, translation}
use Rattle.cx_translate.specs.Facts.AllFaults.{translated_so}
use Rattle.cx_asm_pass1.specs.Facts.Faults.{none_before, sound_statement}
use Rattle.cx_asm_pass1.specs.Facts.Kept.{value_kept}
use Rattle.cx_asm_pass1.specs.Facts.StatementExtents.{capped_same}
use Rattle.cx_asm_pass1.specs.Given.{duplicate}
use Rattle.cx_asm_pass1.specs.PassState.{PassState, next_state, after_line, definitions_in, state_after, extent_in, length_of_section, parts_in, role_in}
use Rattle.cx_asm_pass1.specs.Layout.{fault_beyond, extent_of, extent_at}
use Rattle.cx_asm_pass1.specs.declared.roles.Role.TheVariants.{Storage, Dummy}
use Rattle.cx_translate.specs.Facts.Found.{eib_before, eib_section, listed_line}
use Rattle.cx_asm_execution.specs.FieldLayouts.{EibIsLaidOut, LaysOut}

-- ---- what is to be shown
abbrev block_name : Option (List ℕ)
block_name = symbol_name (codes "DFHEIBLK")

abbrev field_value : EibField → Value
field_value f = record { section = symbol_name (codes "DFHEIBLK"); number = pos (eib_field f).offset; length = (eib_field f).len }

abbrev IsLaidOut : (List ℕ → Option Value) → Type 0
IsLaidOut find = (f : EibField) → option_and_then find (symbol_name (eib_field f).name) ≡ Some (field_value f)

abbrev HasBlock : List Item → Type 0
HasBlock items = LaysOut (codes "DFHEIBLK") (map field eib_pieces) eib_field (λ f. (eib_field f).len) eib_len items

-- ---- texts
pub role_ds : (name operand : List ℕ) → role_in (stmt name (codes "DS") operand) ≡ Storage true
unfolding operation_named operations ops operation_row branches register_branches directives
role_ds name operand = refl

pub role_dsect : (name operand : List ℕ) → role_in (stmt name (codes "DSECT") operand) ≡ Dummy
unfolding operation_named operations ops operation_row branches register_branches directives
role_dsect name operand = refl

-- n bytes, as hexadecimal digits would give them
abbrev bytes_text : ℕ → List ℕ
bytes_text len = codes "XL" ++ decimal len

record Fits (len : ℕ) : Type 0 where
  part : parts TopComma (bytes_text len) ≡ bytes_text len ∷ []
  item : constant_in true (bytes_text len) ≡ Ok (constant 1 Hexadecimal (Some len) None)

fits_1 : Fits 1
unfolding constant_in kind_of digit within_after digits
fits_1 = record { part = refl; item = refl }

fits_2 : Fits 2
unfolding constant_in kind_of digit within_after digits
fits_2 = record { part = refl; item = refl }

fits_4 : Fits 4
unfolding constant_in kind_of digit within_after digits
fits_4 = record { part = refl; item = refl }

fits_6 : Fits 6
unfolding constant_in kind_of digit within_after digits
fits_6 = record { part = refl; item = refl }

fits_8 : Fits 8
unfolding constant_in kind_of digit within_after digits
fits_8 = record { part = refl; item = refl }

fits_16 : Fits 16
unfolding constant_in kind_of digit within_after digits
fits_16 = record { part = refl; item = refl }

fits_17 : Fits 17
unfolding constant_in kind_of digit within_after digits
fits_17 = record { part = refl; item = refl }

-- ---- names
pub record Named (text : List ℕ) : Type 0 where
  pub name : List ℕ
  pub is : symbol_name text ≡ Some name

field_named : (f : EibField) → Named (eib_field f).name
unfolding symbol_name padded_name is_symbol_name is_letter name_code is_name_character code_of table is_written_in_names
field_named Time = record { name = _; is = refl }
field_named Date = record { name = _; is = refl }
field_named Trnid = record { name = _; is = refl }
field_named Taskn = record { name = _; is = refl }
field_named Trmid = record { name = _; is = refl }
field_named Calen = record { name = _; is = refl }
field_named Aid = record { name = _; is = refl }
field_named Fn = record { name = _; is = refl }
field_named Rcode = record { name = _; is = refl }
field_named Rsrce = record { name = _; is = refl }
field_named Resp = record { name = _; is = refl }

block_named : Named (codes "DFHEIBLK")
unfolding symbol_name padded_name is_symbol_name is_letter name_code is_name_character code_of table is_written_in_names
block_named = record { name = _; is = refl }

-- ---- a field
laid_bytes : (len at : ℕ) (extent : Option ℕ) → Fits len → at ≤ bound → extent_of (Storage true) (parts TopComma (bytes_text len)) extent at ≡ extent_at at (at ∷ []) (at + cap len) len (fault_beyond (at + cap len))
unfolding extent_of length_of
laid_bytes len at extent fits within =
    rw (fits.part, fits.item, capped_same at within)
    (let same : (at + (1 - 1)) / 1 * 1 ≡ at = omega arith in
    let once : 1 * len ≡ len = omega arith in
    rw (same, once) refl)

abbrev block : List ℕ
block = block_named.name

-- where a field of the block begins
record Begun (state : PassState) (o : ℕ) : Type 0 where
  section : state.section ≡ Some block
  size : state.lengths block ≡ o

laid_field : (piece : EibPiece) (state : PassState) (o : ℕ) → Fits piece.len → o ≤ bound → Begun state o
    → extent_in (field piece) state ≡ extent_at o (o ∷ []) (o + cap piece.len) piece.len (fault_beyond (o + cap piece.len))
laid_field piece state o fits within begun =
    rw (role_ds (option_map_or (λ (f : EibField). (eib_field f).name) piece.field []) (bytes_text piece.len), begun.section, begun.size, capped_same o within) (laid_bytes piece.len o _ fits within)

own_section : stands_in block (Some block) ≡ true
own_section = is_name-laws.refl block

-- the section goes on after it
goes_on : (line : ℕ) (piece : EibPiece) (state : PassState) (o : ℕ) → Fits piece.len → o ≤ bound → piece.len ≤ bound → Begun state o → Begun (next_state line (field piece) state) (o + piece.len)
unfolding next_state
goes_on line piece state o fits within small begun =
    record {
      section = rw (role_ds (option_map_or (λ (f : EibField). (eib_field f).name) piece.field []) (bytes_text piece.len), begun.section) refl;
      size = rw (laid_field piece state o fits within begun, begun.section, own_section, capped_same piece.len small) refl;
    }

pub none_known : (find : List ℕ → Option Value) (name : List ℕ) (value : Value) → duplicate find ((name, value) ∷ []) ≡ None → find name ≡ None
none_known find name value e = go (find name) e
  where
    go : (o : Option Value) → cond (is_some o || false) (Some DuplicateSymbol) None ≡ None → o ≡ None
    go None e = refl
    go (Some v) e = absurd (cc)

-- and its name stands for its place
field_stands : (line : ℕ) (f : EibField) (state : PassState) (o : ℕ) → Fits (eib_field f).len → o ≤ bound → o ≡ (eib_field f).offset → Begun state o
    → (next_state line (field (record { field = Some f; len = (eib_field f).len })) state).fault ≡ None
    → (next_state line (field (record { field = Some f; len = (eib_field f).len })) state).symbols (field_named f).name ≡ Some (field_value f)
unfolding next_state
field_stands line f state o fits within place begun sound =
    let piece : EibPiece = record { field = Some f; len = (eib_field f).len } in
    let given : definitions_in (field piece) state ≡ ((field_named f).name, field_value f) ∷ [] =
    rw (laid_field piece state o fits within begun, role_ds (eib_field f).name (bytes_text piece.len), (field_named f).is, begun.section, block_named.is, capped_same o within, place) refl in
    let unknown : state.symbols (field_named f).name ≡ None =
    none_known state.symbols (field_named f).name (field_value f) (ap (duplicate state.symbols) (sym given) ∙ (sound_statement line (field piece) state sound).definitions) in
    rw (given, unknown, is_name-laws.refl (field_named f).name) refl

-- ---- one after the other
pub fault_kept : (more before : List Item) → (state_after (more ++ before)).fault ≡ None → (state_after before).fault ≡ None
fault_kept [] before e = e
fault_kept (item ∷ more) before e = fault_kept more before (fault_line item.line item.stmt (state_after (more ++ before)) e)
  where
    fault_line : (line : ℕ) (statement : Option Stmt) (state : PassState) → (after_line line statement state).fault ≡ None → state.fault ≡ None
    fault_line line None state e = e
    fault_line line (Some s) state e = none_before line s state e

pub reverse_cons : (x : Item) (xs : List Item) → reverse (x ∷ xs) ≡ reverse xs ++ x ∷ []
reverse_cons x xs = reverse-append (x ∷ []) xs

-- pieces with the offsets and lengths of their fields
abbrev At : ℕ → Option EibField → ℕ → Type 0
At from None len = ⊤
At from (Some f) len = (from ≡ (eib_field f).offset) × (len ≡ (eib_field f).len)

abbrev AreFit : ℕ → List EibPiece → Type 0
AreFit from [] = ⊤
AreFit from (p ∷ ps) = Fits p.len × At from p.field p.len × (from ≤ bound) × (p.len ≤ bound) × AreFit (from + p.len) ps

abbrev Stands : (List ℕ → Option Value) → Option EibField → Type 0
Stands find None = ⊤
Stands find (Some f) = find (field_named f).name ≡ Some (field_value f)

abbrev AllStand : (List ℕ → Option Value) → List EibPiece → Type 0
AllStand find [] = ⊤
AllStand find (p ∷ ps) = Stands find p.field × AllStand find ps

piece_stands : (line : ℕ) (field_of : Option EibField) (len o : ℕ) (before more : List Item) → Fits len → At o field_of len → o ≤ bound → Begun (state_after before) o
    → (state_after (more ++ (made_item line (field (record { field = field_of; len = len })) ∷ before))).fault ≡ None
    → Stands (state_after (more ++ (made_item line (field (record { field = field_of; len = len })) ∷ before))).symbols field_of
unfolding made_item
piece_stands line None len o before more fits at within begun sound = tt
piece_stands line (Some f) len o before more fits at within begun sound =
    rw at.1 (
    value_kept more (made_item line (field (record { field = Some f; len = (eib_field f).len })) ∷ before) (field_named f).name (field_value f)
    (field_stands line f (state_after before) o (subst Fits at.1 fits) within at.0 begun (fault_kept more (made_item line (field (record { field = Some f; len = (eib_field f).len })) ∷ before) (rw (← at.1) sound))))

all_stand : (line : ℕ) (ps : List EibPiece) (o : ℕ) (before more : List Item) → AreFit o ps → Begun (state_after before) o
    → (state_after (more ++ (reverse (lines line (map field ps)) ++ before))).fault ≡ None
    → AllStand (state_after (more ++ (reverse (lines line (map field ps)) ++ before))).symbols ps
unfolding made_item
all_stand line [] o before more fit begun sound = tt
all_stand line (p ∷ ps) o before more fit begun sound =
    let item = made_item line (field p) in
    let rest = lines line (map field ps) in
    let there : more ++ (reverse (item ∷ rest) ++ before) ≡ (more ++ reverse rest) ++ (item ∷ before) =
    ap (λ k. more ++ (k ++ before)) (reverse_cons item rest) ∙ ap (λ k. more ++ k) (append_assoc (reverse rest) (item ∷ []) before) ∙ sym (append_assoc more (reverse rest) (item ∷ before)) in
    let again : (more ++ reverse rest) ++ (item ∷ before) ≡ more ++ (reverse rest ++ (item ∷ before)) = append_assoc more (reverse rest) (item ∷ before) in
    let next = goes_on line p (state_after before) o fit.0 fit.2 fit.3 begun in (
      subst (λ k. Stands (state_after k).symbols p.field) (sym there)
          (piece_stands line p.field p.len o before (more ++ reverse rest) fit.0 fit.1 fit.2 begun (subst (λ k. (state_after k).fault ≡ None) there sound)),
      subst (λ k. AllStand (state_after k).symbols ps) (sym (there ∙ again))
          (all_stand line ps (o + p.len) (item ∷ before) more fit.4 next (subst (λ k. (state_after k).fault ≡ None) (there ∙ again) sound)),
    )

-- where pieces end
abbrev end_from : ℕ → List EibPiece → ℕ
end_from o [] = o
end_from o (p ∷ ps) = end_from (o + p.len) ps

all_end : (line : ℕ) (ps : List EibPiece) (o : ℕ) (before : List Item) → AreFit o ps → Begun (state_after before) o
    → Begun (state_after (reverse (lines line (map field ps)) ++ before)) (end_from o ps)
unfolding made_item
all_end line [] o before fit begun = begun
all_end line (p ∷ ps) o before fit begun =
    let item = made_item line (field p) in
    let rest = lines line (map field ps) in
    subst (λ k. Begun (state_after k) (end_from (o + p.len) ps)) (sym (ap (λ k. k ++ before) (reverse_cons item rest) ∙ append_assoc (reverse rest) (item ∷ []) before))
    (all_end line ps (o + p.len) (item ∷ before) fit.4 (goes_on line p (state_after before) o fit.0 fit.2 fit.3 begun))

pieces_fit : AreFit 0 eib_pieces
pieces_fit = (fits_4, (refl, refl), omega arith, omega arith, (fits_4, (refl, refl), omega arith, omega arith, (fits_4, (refl, refl), omega arith, omega arith, (fits_4, (refl, refl), omega arith, omega arith, (fits_4, (refl, refl), omega arith, omega arith, (fits_4, tt, omega arith, omega arith, (fits_2, (refl, refl), omega arith, omega arith, (fits_1, (refl, refl), omega arith, omega arith, (fits_2, (refl, refl), omega arith, omega arith, (fits_6, (refl, refl), omega arith, omega arith, (fits_16, tt, omega arith, omega arith, (fits_8, (refl, refl), omega arith, omega arith, (fits_17, tt, omega arith, omega arith, (fits_4, (refl, refl), omega arith, omega arith, (fits_8, tt, omega arith, omega arith, tt)))))))))))))))

-- each field's name
named_field : (find : List ℕ → Option Value) (f : EibField) → find (field_named f).name ≡ Some (field_value f) → option_and_then find (symbol_name (eib_field f).name) ≡ Some (field_value f)
named_field find f e = rw (field_named f).is e

laid_out : (find : List ℕ → Option Value) → AllStand find eib_pieces → IsLaidOut find
laid_out find all Time = named_field find Time all.0
laid_out find all Date = named_field find Date all.1.0
laid_out find all Trnid = named_field find Trnid all.1.1.0
laid_out find all Taskn = named_field find Taskn all.1.1.1.0
laid_out find all Trmid = named_field find Trmid all.1.1.1.1.0
laid_out find all Calen = named_field find Calen all.1.1.1.1.1.1.0
laid_out find all Aid = named_field find Aid all.1.1.1.1.1.1.1.0
laid_out find all Fn = named_field find Fn all.1.1.1.1.1.1.1.1.0
laid_out find all Rcode = named_field find Rcode all.1.1.1.1.1.1.1.1.1.0
laid_out find all Rsrce = named_field find Rsrce all.1.1.1.1.1.1.1.1.1.1.1.0
laid_out find all Resp = named_field find Resp all.1.1.1.1.1.1.1.1.1.1.1.1.1.0

-- ---- the block in a translated source
begins : (line : ℕ) (state : PassState) → length_of_section block_name state.lengths ≡ 0 → Begun (next_state line (stmt (codes "DFHEIBLK") (codes "DSECT") []) state) 0
unfolding next_state extent_of block_named
begins line state empty =
    let none : state.lengths block ≡ 0 = subst (λ n. length_of_section n state.lengths ≡ 0) block_named.is empty in
    record {
      section = rw (role_dsect (codes "DFHEIBLK") [], block_named.is) refl;
      size = go state.section none;
    }
  where
    go : (section : Option (List ℕ)) → state.lengths block ≡ 0
        → cond (stands_in block section) (extent_of (role_in (stmt (codes "DFHEIBLK") (codes "DSECT") [])) (parts_in (stmt (codes "DFHEIBLK") (codes "DSECT") [])) (pool_extent state.pool) (cap (length_of_section section state.lengths))).end (state.lengths block) ≡ 0
    go None none = none
    go (Some s) none = ⊎_elim
        (λ yes. rw (yes, role_dsect (codes "DFHEIBLK") []) (let same : s ≡ block = sym ((is_name-decides block s).0 yes) in rw (same, none) refl))
        (λ no. rw no none)
        (cases_Bool (stands_in block (Some s)))

-- what stands for lines that have the block
has_block : (before rest : List Item) (line : ℕ) → HasBlock (before ++ lines line eib_section ++ rest)
unfolding made_item block_named
has_block before rest line =
    record {
      before = before;
      first = first;
      more = [];
      line = line;
      after = rest;
      begins = refl;
      follow = tt;
      is = refl;
      extent = λ sound empty. (laid_out _ (placed sound empty), ended empty);
    }
  where
    first : Item
    first = made_item line (stmt (codes "DFHEIBLK") (codes "DSECT") [])

    fields : List Item
    fields = lines line (map field eib_pieces)

    front : reverse (before ++ (first ∷ fields)) ≡ reverse fields ++ (first ∷ reverse before)
    front = reverse-append before (first ∷ fields) ∙ ap (λ k. k ++ reverse before) (reverse_cons first fields) ∙ append_assoc (reverse fields) (first ∷ []) (reverse before)

    turned : reverse (before ++ lines line eib_section ++ rest) ≡ reverse rest ++ (reverse fields ++ (first ∷ reverse before))
    turned = reverse-append (before ++ (first ∷ fields)) rest ∙ ap (λ k. reverse rest ++ k) front

    placed : (state_after (reverse (before ++ lines line eib_section ++ rest))).fault ≡ None → length_of_section block_name (state_after (reverse before)).lengths ≡ 0
        → AllStand (state_after (reverse (before ++ lines line eib_section ++ rest))).symbols eib_pieces
    placed sound empty =
        subst (λ k. AllStand (state_after k).symbols eib_pieces) (sym turned)
        (all_stand line eib_pieces 0 (first ∷ reverse before) (reverse rest) pieces_fit (begins line (state_after (reverse before)) empty) (subst (λ k. (state_after k).fault ≡ None) turned sound))

    ended : length_of_section block_name (state_after (reverse before)).lengths ≡ 0
        → length_of_section block_name (state_after (reverse (before ++ (first ∷ fields)))).lengths ≡ eib_len
    ended empty =
        let end = all_end line eib_pieces 0 (first ∷ reverse before) pieces_fit (begins line (state_after (reverse before)) empty) in
        subst (λ k. length_of_section block_name (state_after k).lengths ≡ eib_len) (sym front) (rw block_named.is end.size)

pub none_from : {X : Type 0} (p : X → Bool) (k : ℕ) (xs : List X) → position_from p k xs ≡ None → list_any p xs ≡ false
none_from p k [] e = refl
none_from p k (x ∷ xs) e = go (p x) (λ f. none_from p (k + 1) xs f) e
  where
    go : (b : Bool) → (position_from p (k + 1) xs ≡ None → list_any p xs ≡ false) → cond b (Some k) (position_from p (k + 1) xs) ≡ None → (b || list_any p xs) ≡ false
    go true f e = absurd (cc)
    go false f e = f e

pub none_found : (xs : List Item) → position is_end xs ≡ None → list_any is_end xs ≡ false
none_found xs e = none_from is_end 0 xs (sym (position_from-zero is_end xs) ∙ e)

put_there : (xs : List Item) → list_any is_end (with_eib xs) ≡ true → HasBlock (with_eib xs)
unfolding with_eib
put_there xs e = go (position is_end xs) refl e
  where
    go : (place : Option ℕ) → position is_end xs ≡ place → list_any is_end (eib_before place xs) ≡ true → HasBlock (eib_before place xs)
    go None none e = (let no = none_found xs none in absurd (cc))
    go (Some place) found e = has_block (take place xs) (drop place xs) (listed_line (slice_get xs place))

pub eib_laid_out : EibIsLaidOut
unfolding translation
eib_laid_out source made has e end =
    let same = (translated_so source made has e).1 in
    subst HasBlock same (put_there (with_bases (with_storage (expanded_items false source.items))) (subst (λ k. list_any is_end k ≡ true) (sym same) end))
