-- An accepted statement's block is that of a legal call.
use Rattle.std.specs.Prelude.{◌≤◌, IsTrue, MatchBool, count_by, if◌then◌else◌}
use Rattle.std.proofs.Common.{◌≡◌, ℕ, ◌+◌, Bool, true, false, None, List, [], ◌∷◌, length, refl, arith}
use Rattle.cx_asm_execution.specs.Expansion.{Statement, resolved_block_bytes as statement_bytes, words_of_list}
use Rattle.cx_asm_execution.specs.Stands.{IsLegal}
use Rattle.cx_region_state.specs.Call.{has_label, has_resp}
use Rattle.cx_base.specs.Arguments.{arguments_in}
use Rattle.cx_base.specs.Commands.{row_of}
use Rattle.cx_base.specs.Legal.{is_legal, is_legal_list, lists_conditions}
use Rattle.cx_base.specs.declared.commands.Command.{Command}
use Rattle.cx_base.specs.declared.legal.ListedCondition.{ListedCondition}
use Rattle.cx_source.specs.declared.source.Item.{Item}
use Rattle.cx_translate.specs.Call.{block_bytes, list_of, listed_of}
use Rattle.cx_translate.specs.Laws.Read.{words_read}
use Rattle.cx_translate.specs.Refusals.{fault_in, first_byte, second_byte}
use Rattle.cx_translate.specs.declared.words.Word.{Word}
use Rattle.cx_asm_operands.specs.Bases.{Bases}
use Rattle.cx_asm_pass2.specs.Whole.{Whole}
use Rattle.cx_asm_execution.proofs.Commands.{IsStatementOf}
use Rattle.cx_asm_execution.proofs.PlaceLemmas.{same_count}

-- what is known of statements that the translator accepts
pub record Accepts : Type 0 where
  pub bytes : (line : ℕ) (command : Command) (cics named words : List Word) → fault_in line command cics named words ≡ None
      → is_legal command (first_byte command words) (second_byte words) ≡ true
  pub conditions : (line : ℕ) (command : Command) (cics named words : List Word) → lists_conditions command ≡ true
      → fault_in line command cics named words ≡ None → is_legal_list command (listed_of words) ≡ true
  pub number : (command : Command) (words : List Word) → lists_conditions command ≡ true → first_byte command words ≡ length (listed_of words)
  pub none : (line : ℕ) (command : Command) (cics named words : List Word) → lists_conditions command ≡ false
      → fault_in line command cics named words ≡ None → length (listed_of words) ≡ 0
  pub room : (line : ℕ) (command : Command) (cics named words : List Word) → fault_in line command cics named words ≡ None
      → length (list_of command words) ≤ 18
  pub read : (line : ℕ) (command : Command) (cics named words : List Word) → fault_in line command cics named words ≡ None
      → length (list_of command words) ≡ words_read command (first_byte command words) (second_byte words) (listed_of words)

is_none : (xs : List ListedCondition) → length xs ≡ 0 → xs ≡ []
is_none [] e = refl
is_none (x ∷ xs) e = absurd (omega (arith, e))

listed_so : Accepts → (line : ℕ) (command : Command) (cics named words : List Word) → fault_in line command cics named words ≡ None → (lists : Bool) → lists_conditions command ≡ lists
    → MatchBool lists ((first_byte command words ≡ length (listed_of words)) × IsTrue (is_legal_list command (listed_of words))) (listed_of words ≡ [])
listed_so known line command cics named words accepted true e = (known.number command words e, known.conditions line command cics named words e accepted)
listed_so known line command cics named words accepted false e = is_none (listed_of words) (known.none line command cics named words e accepted)

abbrev counts : Command → ℕ → ℕ → List ListedCondition → ℕ
counts command first second conditions = length (arguments_in (row_of command).options first) + count_by has_label conditions + (if has_resp second then 1 else 0)

counted_so : Accepts → (line : ℕ) (command : Command) (cics named words : List Word) → fault_in line command cics named words ≡ None
    → length (list_of command words) ≡ 1 + counts command (first_byte command words) (second_byte words) (listed_of words)
unfolding words_read
counted_so known line command cics named words accepted = (let all = known.read line command cics named words accepted in omega (arith, all))

pub legal_so : Accepts → (whole : Whole) (bases : Bases) (line : ℕ) (before : List Item) (command : Command) (cics named words : List Word) (s : Statement)
    → fault_in line command cics named words ≡ None → IsStatementOf whole bases line before command words s → IsLegal s
legal_so known whole bases line before command cics named words s accepted is =
    let listed = listed_so known line command cics named words accepted (lists_conditions command) refl in
    let count = counted_so known line command cics named words accepted in
    let same = same_count whole bases line before 0 (list_of command words) (words_of_list s) is.arguments in
    record {
      options = rw (is.for_command, is.first, is.second) (known.bytes line command cics named words accepted);
      conditions = rw (is.for_command, is.first, is.conditions) listed;
      count = rw (is.for_command, is.first, is.second, is.conditions) (omega (arith, count, same));
    }

-- ---- the block's bytes
pub same_bytes : (whole : Whole) (bases : Bases) (line : ℕ) (before : List Item) (command : Command) (words : List Word) (s : Statement) → IsStatementOf whole bases line before command words s
    → statement_bytes s ≡ block_bytes command words
unfolding statement_bytes block_bytes
same_bytes whole bases line before command words s is =
    rw (is.for_command, is.first, is.second, is.conditions) refl

-- ---- how many words
pub same_words : Accepts → (whole : Whole) (bases : Bases) (line : ℕ) (before : List Item) (command : Command) (cics named words : List Word) (s : Statement)
    → fault_in line command cics named words ≡ None → IsStatementOf whole bases line before command words s
    → (length (list_of command words) ≡ length (words_of_list s)) × (length (words_of_list s) ≤ 18)
same_words known whole bases line before command cics named words s accepted is =
    let same = same_count whole bases line before 0 (list_of command words) (words_of_list s) is.arguments in
    let room = known.room line command cics named words accepted in
    (omega (arith, same), omega (arith, same, room))
