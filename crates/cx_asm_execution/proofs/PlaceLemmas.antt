-- Where DFHEIPL, its words and a place in the control section are reached.
use Rattle.std.specs.Prelude.{ℤ, slice_index, ◌≢◌}
use Rattle.std.proofs.Common.{map, ◌≡◌, ◌≤◌, ℕ, suc, ◌+◌, ◌*◌, false, ◌==◌, List, [], ◌∷◌, length, refl, sym, ◌∙◌, ap, arith}
use Rattle.std.specs.List.{AllByRecursion, enumerate_from}
use Rattle.std.proofs.lemmas.Bool.Decides.{nat_tests}
use Rattle.cx_asm_execution.specs.Expansion.{Argument, ImpliedAddress, address_reached}
use Rattle.cx_asm_execution.specs.Stands.{IsWord}
use Rattle.cx_exec.specs.Machine.{effective}
use Rattle.cx_source.specs.declared.source.Item.{Item}
use Rattle.cx_storage.specs.Address.{address_in, address_after}
use Rattle.cx_asm_operands.specs.Addresses.{address}
use Rattle.cx_asm_operands.specs.Bases.{Bases}
use Rattle.cx_asm_operands.specs.Context.{Context}
use Rattle.cx_asm_operands.specs.declared.addresses.Address.{Address}
use Rattle.cx_asm_pass2.specs.Whole.{Whole}
use Rattle.cx_translate.specs.Expansion.{made_item}
use Rattle.cx_asm_execution.specs.Arguments.{HoldsBase, Sections}
use Rattle.cx_asm_execution.proofs.Commands.{AreArguments}
use Rattle.cx_asm_execution.proofs.Stores.{context_of, load_of, store_of}
use Rattle.cx_asm_execution.proofs.Words.{HasList, LiesAfter, WordsLie}

-- ---- a base that isn't 0
pub reached_is : (regs : List ℕ) (b d : ℕ) → b ≢ 0 → effective regs 0 b d ≡ address_reached regs (record { base = b; displacement = d })
unfolding effective
reached_is regs b d some =
    let other : (b == 0) ≡ false = grind (arith, nat_tests, some) in
    rw other (modulo (slice_index regs b) d)
  where
    modulo : (n d : ℕ) → address_in (n + 0 + d) ≡ address_in (n + d)
    modulo n d = omega arith

-- an implied address has a base register, which holds its USING's base
abbrev pub HasBase : Sections → List ℕ → Bases → ImpliedAddress → Type 0
HasBase sections regs bases place = (place.base ≢ 0) × HoldsBase sections regs bases place.base

pub lies_at : (c : Context) (section : List ℕ) (offset : ℤ) (n : ℕ) (at : Address) (sections : Sections) (regs : List ℕ) → LiesAfter c section offset n at
    → HasBase sections regs c.bases (record { base = at.base; displacement = at.displacement })
    → address_reached regs (record { base = at.base; displacement = at.displacement }) ≡ address_after (sections.place section offset) n
lies_at c section offset n at sections regs lies has = sym (reached_is regs at.base at.displacement has.0) ∙ lies sections regs has.1

-- ---- the words of DFHEIPL
abbrev AreBased : Sections → List ℕ → Bases → List Argument → Type 0
AreBased sections regs bases arguments = AllByRecursion (HasBase sections regs bases) (map (λ a. a.word) arguments)

-- each has its own word, from word k on
abbrev pub HaveWords : List ℕ → ℕ → ℕ → List Argument → Type 0
HaveWords regs list k arguments = AllByRecursion (λ e. IsWord regs list e.0 e.1.word) (enumerate_from k arguments)

word_again : (place k : ℕ) → address_after place (4 * k) ≡ address_after (address_after place 0) (4 * k)
word_again place k = omega arith

pub have_words : WordsLie → (sections : Sections) (regs : List ℕ) (whole : Whole) (bases : Bases) (line : ℕ) (before : List Item) (k : ℕ) (list : List (List ℕ)) (arguments : List Argument)
    → (section : List ℕ) (offset : ℤ) → HasList whole.find section offset → k + length list ≤ 18
    → AreArguments whole bases line before k list arguments → AreBased sections regs bases arguments
    → HaveWords regs (address_after (sections.place section offset) 0) k arguments
unfolding AreArguments
have_words lie sections regs whole bases line before k [] [] section offset has room are based = tt
have_words lie sections regs whole bases line before k [] (a ∷ arguments) section offset has room are based = absurd are
have_words lie sections regs whole bases line before k (text ∷ list) [] section offset has room are based = absurd are
have_words lie sections regs whole bases line before k (text ∷ list) (a ∷ arguments) section offset has room are based =
    let own = context_of whole bases line (made_item line (load_of text) ∷ before) (store_of k) in
    let at = address a.word.base a.word.displacement in
    let lies = ((lie own section offset k (omega (arith, room)) has).indexed 0 at are.1).1 in
    let rest = have_words lie sections regs whole bases line (made_item line (store_of k) ∷ made_item line (load_of text) ∷ before) (k + 1) list arguments section offset has (omega (arith, room)) are.2 based.1 in
    ((based.0.0, lies_at own section offset (4 * k) at sections regs lies based.0 ∙ word_again (sections.place section offset) k), rest)

-- as many arguments as words
pub same_count : (whole : Whole) (bases : Bases) (line : ℕ) (before : List Item) (k : ℕ) (list : List (List ℕ)) (arguments : List Argument) → AreArguments whole bases line before k list arguments
    → length list ≡ length arguments
unfolding AreArguments
same_count whole bases line before k [] [] are = refl
same_count whole bases line before k [] (a ∷ arguments) are = absurd are
same_count whole bases line before k (text ∷ list) [] are = absurd are
same_count whole bases line before k (text ∷ list) (a ∷ arguments) are =
    ap suc (same_count whole bases line (made_item line (store_of k) ∷ made_item line (load_of text) ∷ before) (k + 1) list arguments are.2)
