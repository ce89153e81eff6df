-- What looks write of programs (own).
use Rattle.std.specs.Prelude.{ℕ, if◌then◌else◌, List, [], ◌∷◌, ◌++◌, codes}
use Rattle.std.specs.List.{flat_map}
use Rattle.std.specs.Str.{byte}
use Rattle.cx_ebcdic.specs.Names.{is_name}
use Rattle.cx_base.specs.Digits.{digits}
use Rattle.cx_base.specs.Texts.{shown_name}
use Rattle.cx_load.specs.declared.program.Loaded.{Loaded}
use Rattle.cx_look_lines.specs.Words.{look_line, or_none, Lines}

-- a transaction after a blank, where it begins with the program
abbrev pub transaction_word : List ℕ → List ℕ × List ℕ → List ℕ
transaction_word program (tran, of) = if is_name of program then byte " " ∷ shown_name tran else []

-- a program: its place, its length, its entry's address, the length of its working storage, its transactions
abbrev pub program_line : List (List ℕ × List ℕ) → List ℕ × Loaded → Lines
program_line transactions (name, loaded) =
    look_line
    (codes "PROGRAM" ∷ shown_name name ∷ codes "AT" ∷ digits 16 6 loaded.at ∷ codes "LENGTH"
    ∷ digits 16 6 loaded.len
    ∷ codes "ENTRY" ∷ digits 16 6 loaded.entry ∷ codes "STORAGE" ∷ digits 16 6 loaded.stg_len
    ∷ (codes "TRANSACTIONS" ++ flat_map (transaction_word name) transactions) ∷ [])

unfoldable pub programs_text : List (List ℕ × Loaded) → List (List ℕ × List ℕ) → Lines
programs_text programs transactions = or_none (codes "PROGRAMS") (flat_map (program_line transactions) programs)
