-- The statements made of one EXEC statement (this product's own; the columns are those of OS/VS-DOS/VSE-VM/370
-- Assembler Language, GC33-4010, "Assembler Language Coding Conventions").
use Rattle.std.specs.Prelude.{ℕ, ◌+◌, ◌-◌, ◌*◌, ◌==◌, if◌then◌else◌, List, [], ◌∷◌, ◌++◌, Some, codes, decimal, drop, length, map, replicate}
use Rattle.std.specs.Option.{option_map_or}
use Rattle.std.specs.Str.{byte}
use Rattle.cx_base.specs.declared.commands.Command.{Command}
use Rattle.cx_base.specs.Commands.{row_of}
use Rattle.cx_source.specs.declared.source.Item.{Item}
use Rattle.cx_source.specs.declared.source.Stmt.{Stmt}
use Rattle.cx_source.specs.Lines.{text_of}
use Rattle.cx_translate.specs.declared.words.Word.{Word}
use Rattle.cx_translate.specs.Refusals.{command_in}
use Rattle.cx_translate.specs.Call.{list_of, pointers_of}

abbrev pub stmt : List ℕ → List ℕ → List ℕ → Stmt
stmt name operation operand = record { name = name; operation = operation; operand = operand }

-- the addresses of arguments, stored as the words of the list from word k on
abbrev pub stores : ℕ → List (List ℕ) → List Stmt
stores k [] = []
stores k (argument ∷ rest) =
    stmt [] (codes "LA") (codes "0," ++ argument) ∷ stmt [] (codes "ST") (codes "0,DFHEIPL+" ++ decimal (4 * k))
    ∷ stores (k + 1) rest

-- word k is marked as the last, and the command is called with the list's address in register 1
abbrev pub call : ℕ → List Stmt
call k =
    stmt [] (codes "OI") (codes "DFHEIPL+" ++ decimal (4 * k) ++ codes ",X'80'")
    ∷ stmt [] (codes "LA") (codes "1,DFHEIPL") ∷ stmt [] (codes "L") (codes "15,=V(DFHEI1)")
    ∷ stmt [] (codes "BALR") (codes "14,15") ∷ []

-- a pointer loaded into a register
abbrev pub load : List ℕ → Stmt
load register = stmt [] (codes "L") (register ++ codes ",DFHEITP")

-- the statement's name, where it has one
abbrev pub label : List ℕ → List Stmt
label name = if length name == 0 then [] else stmt name (codes "DS") (codes "0H") ∷ []

unfoldable pub made_in : List ℕ → Command → List Word → List Stmt
made_in name command words =
    label name ++ stores 0 (list_of command words) ++ call (length (list_of command words) - 1)
    ++ map load (pointers_of (row_of command).options words)

-- the statements made of the EXEC statement of this name, of which these are the words
unfoldable pub made_of : List ℕ → List Word → List Stmt
made_of name words =
    option_map_or (λ found. made_in name found.0 (drop found.1 (drop 1 words))) (command_in words) []

-- a text filled with blanks up to a column
abbrev pub fill_to_column : ℕ → List ℕ → List ℕ
fill_to_column columns text = text ++ replicate (columns - length text) (byte " ")

-- A made line: name, operation and operand in columns 1, 10 and 16, as far as column 72.
unfoldable pub made_item : ℕ → Stmt → Item
made_item line made =
    record {
      line = line;
      text = text_of (fill_to_column 15 (fill_to_column 9 made.name ++ made.operation) ++ made.operand);
      stmt = Some made;
    }
