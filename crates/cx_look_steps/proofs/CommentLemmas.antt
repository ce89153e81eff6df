-- Texts on lines of comments.
use Rattle.std.proofs.Common.{◌≡◌, ℕ, List, [], ◌∷◌, ◌++◌, true, false, codes, length, ap, refl, sym, ◌∙◌, append_assoc}
use Rattle.std.specs.Prelude.{if◌then◌else◌, nat_le}
use Rattle.cx_look_lines.specs.Words.{Lines}
use Rattle.cx_look_steps.specs.Script.{comments_on, with_text}

-- a text that fits goes on with the line
pub fitting : (report : Lines) (line longer text : List ℕ) (texts : List (List ℕ)) → nat_le (length (with_text line text)) 100 ≡ true
    → longer ≡ with_text line text → report ++ comments_on longer texts ≡ report ++ comments_on line (text ∷ texts)
unfolding comments_on
fitting report line longer text texts fits is =
    ap (λ l. report ++ comments_on l texts) is
    ∙ ap (λ b. report ++ (if b then comments_on (with_text line text) texts else line ∷ comments_on (codes "* " ++ text) texts)) (sym fits)

-- or else begins another
pub beginning : (report after : Lines) (line next text : List ℕ) (texts : List (List ℕ)) → nat_le (length (with_text line text)) 100 ≡ false
    → after ≡ report ++ line ∷ [] → next ≡ codes "* " ++ text → after ++ comments_on next texts ≡ report ++ comments_on line (text ∷ texts)
unfolding comments_on
beginning report after line next text texts long pushed is =
    ap (λ ls. ls ++ comments_on next texts) pushed ∙ ap (λ l. (report ++ line ∷ []) ++ comments_on l texts) is
    ∙ append_assoc report (line ∷ []) (comments_on (codes "* " ++ text) texts)
    ∙ ap (λ b. report ++ (if b then comments_on (with_text line text) texts else line ∷ comments_on (codes "* " ++ text) texts)) (sym long)

pub none_left : (line : List ℕ) → comments_on line [] ≡ line ∷ []
unfolding comments_on
none_left line = refl
