-- Where the assembler places the fields of the EXEC interface block and of the head of DFHEISTG (Application
-- Programmer's Reference Manual, SC33-0077, "EXEC Interface Block"; the layouts are this product's own).
use Rattle.std.specs.Prelude.{◌≡◌, ℕ, pos, ◌⊎◌, ◌&&◌, Ok, Option, Some, None, option_and_then, List, ◌∷◌, ◌++◌, codes, map, reverse, true}
use Rattle.std.specs.List.{AllByRecursion, list_any}
use Rattle.cx_base.specs.Eib.{eib_field, eib_len, eib_pieces}
use Rattle.cx_base.specs.Eistg.{eistg_field, eistg_head}
use Rattle.cx_base.specs.Layout.{Field}
use Rattle.cx_source.specs.declared.source.Item.{Item}
use Rattle.cx_source.specs.declared.source.Source.{Source}
use Rattle.cx_source.specs.declared.source.Stmt.{Stmt}
use Rattle.cx_asm_expressions.specs.Names.{symbol_name}
use Rattle.cx_asm_pass1.specs.PassState.{state_after, length_of_section}
use Rattle.cx_translate.specs.Sections.{begins_exec, begins_section, begins_storage, field as eib_stmt, has_name, has_operation, is_end, lines, storage_fields}
use Rattle.cx_translate.specs.Translation.{translation_of}

-- a section ends at an offset after the first lines of a source
abbrev pub Ends : Option (List ℕ) → List Item → ℕ → Type 0
Ends section first at = length_of_section section (state_after (reverse first)).lengths ≡ at

-- Lines of a translated source: a DSECT of this name, the lines that continue it, and the statements made of its
-- fields. Where nothing is in the section before them, the name of each field stands for its offset, with its length,
-- and they end at an offset.
pub record LaysOut {F : Type 0} (name : List ℕ) (made : List Stmt) (field : F → Field) (length : F → ℕ) (end : ℕ)
    (items : List Item) : Type 0 where
  pub before : List Item
  pub first : Item
  pub more : List Item
  pub line : ℕ
  pub after : List Item
  pub begins : (has_name name first.stmt && has_operation (codes "DSECT") first.stmt) ≡ true
  pub follow : AllByRecursion (λ item. item.stmt ≡ None) more
  pub is : items ≡ before ++ (first ∷ more ++ lines line made) ++ after
  pub extent : (state_after (reverse items)).fault ≡ None → Ends (symbol_name name) before 0
      → ((f : F) → option_and_then (state_after (reverse items)).symbols (symbol_name (field f).name)
      ≡ Some (record { section = symbol_name name; number = pos (field f).offset; length = length f }))
      × Ends (symbol_name name) (before ++ (first ∷ more ++ lines line made)) end

-- Each source that has an EXEC statement has the block when it is translated, if END ends it.
abbrev pub EibIsLaidOut : Type 0
EibIsLaidOut = (source made : Source) → list_any begins_exec source.items ≡ true → translation_of source ≡ Ok made
    → list_any is_end made.items ≡ true
    → LaysOut (codes "DFHEIBLK") (map eib_stmt eib_pieces) eib_field (λ f. (eib_field f).len) eib_len made.items

-- It has the head, if it has a control section or a DFHEISTG. Each of the head's names has the length of a word.
abbrev pub HeadIsLaidOut : Type 0
HeadIsLaidOut = (source made : Source) → list_any begins_exec source.items ≡ true → translation_of source ≡ Ok made
    → (list_any begins_section made.items ≡ true) ⊎ (list_any begins_storage made.items ≡ true)
    → LaysOut (codes "DFHEISTG") storage_fields eistg_field (λ f. 4) eistg_head made.items
