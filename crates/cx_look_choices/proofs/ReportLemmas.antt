-- Lines of words that are added one after another.
use Rattle.std.proofs.Common.{◌≡◌, ℕ, List, ◌∷◌, ◌++◌, [], Bool, true, false, true≢false, Option, Some, None, ap, refl, sym, ◌∙◌, append_assoc}
use Rattle.std.specs.Prelude.{codes, if◌then◌else◌, is_some, not, slice_get, unwrap_or}
use Rattle.std.proofs.lemmas.Bool.{eq-eqb}
use Rattle.std.proofs.lemmas.Grind.{flat_map-append}
use Rattle.std.specs.Str.{byte}
use Rattle.cx_look_lines.specs.Words.{Lines, joined_line, with_blanks}
use Rattle.cx_look_choices.specs.Report.{number_words, screen_lines}

one_more : (first one two : List ℕ) (words others : List (List ℕ)) → one ≡ first ++ with_blanks words → two ≡ one ++ with_blanks others
    → two ≡ first ++ with_blanks (words ++ others)
one_more first one two words others e f =
    f ∙ ap (λ t. t ++ with_blanks others) e ∙ append_assoc first (with_blanks words) (with_blanks others)
    ∙ ap (λ t. first ++ t) (sym (flat_map-append (λ (word : List ℕ). byte " " ∷ word) words others))

pub three_added : (first line one two three : List ℕ) (words screens number : List (List ℕ)) → line ≡ first → one ≡ line ++ with_blanks words
    → two ≡ one ++ with_blanks screens → three ≡ two ++ with_blanks number → three ≡ joined_line (first ∷ (words ++ screens ++ number))
three_added first line one two three words screens number d e f g =
    one_more first two three (words ++ screens) number (one_more first one two words screens (e ∙ ap (λ t. t ++ with_blanks words) d) f) g

pub four_added : (first line one two three four : List ℕ) (words screens number closed : List (List ℕ)) → line ≡ first → one ≡ line ++ with_blanks words
    → two ≡ one ++ with_blanks screens → three ≡ two ++ with_blanks number → four ≡ three ++ with_blanks closed
    → four ≡ joined_line (first ∷ (words ++ screens ++ number ++ closed))
four_added first line one two three four words screens number closed d e f g h =
    one_more first three four (words ++ screens ++ number) closed (three_added first line one two three words screens number d e f g) h

-- a text is written where it comes first
pub screen_is : (texts : List Lines) (came screen : ℕ) → screen ≡ came → screen_lines texts came screen ≡ unwrap_or (slice_get texts screen) []
screen_is texts came screen is = ap (λ b. if b then unwrap_or (slice_get texts screen) [] else []) (eq-eqb screen came is)

-- the words where each move begins with one number, and numbers show
pub words_show : (one_number : Option ℕ) (none shows : Bool) → is_some one_number ≡ not none → none ≡ false → shows ≡ true
    → codes "ONE NUMBER" ∷ codes "NUMBERS SHOW" ∷ [] ≡ number_words one_number shows
words_show None none shows is has show = absurd (true≢false (sym (is ∙ ap not has)))
words_show (Some number) none true is has show = refl
words_show (Some number) none false is has show = absurd (true≢false (sym show))
