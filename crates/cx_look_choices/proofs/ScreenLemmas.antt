-- The number of a text among those that came.
use Rattle.std.proofs.Common.{◌≡◌, ℕ, Bool, true, false, List, [], ◌∷◌, ◌++◌, length, Option, Some, None, inl, inr, ap, refl, sym, subst, ◌∙◌}
use Rattle.std.specs.Prelude.{MatchBool, MatchOption, not, slice_get}
use Rattle.std.proofs.lemmas.Option.{none-some, same_Some}
use Rattle.cx_search.specs.Facts.Items.{item_last}
use Rattle.cx_look_lines.specs.Words.{Lines}
use Rattle.cx_look_choices.specs.Parts.Ways.{Numbers}

-- whether it isn't at rest, by whether it is
pub not_still : (Still Runs : Type 0) (still : Bool) → MatchBool still Still Runs → MatchBool (not still) Runs Still
not_still Still Runs true is = is
not_still Still Runs false is = is

-- what is added one after another to nothing
pub three_parts : {X : Type 0} (r s t u a b d : List X) → r ≡ [] → s ≡ r ++ a → t ≡ s ++ b → u ≡ t ++ d → u ≡ a ++ b ++ d
three_parts r s t u a b d e f g h = h ∙ ap (λ x. x ++ d) (g ∙ ap (λ x. x ++ b) (f ∙ ap (λ x. x ++ a) e))

module _ (texts slice : List Lines) (text : Lines) (same : slice ≡ texts) where
  abbrev pub IsNumber : Option ℕ → Type 0
  IsNumber found =
      MatchOption found ((number : ℕ) → slice_get slice number ≡ Some text → ⊥) (λ number. slice_get slice number ≡ Some text)

  pub number_known : (found : Option ℕ) (number : ℕ) → found ≡ Some number → IsNumber found → Numbers texts texts text number
  number_known None number is known = absurd (none-some number is)
  number_known (Some other) number is known = record {
    is = subst (λ ts. slice_get ts number ≡ Some text) same (subst (λ n. slice_get slice n ≡ Some text) (same_Some other number is) known);
    how = inl refl;
  }

  pub number_new : (found : Option ℕ) (after : List Lines) (number : ℕ) → found ≡ None → IsNumber found → number ≡ length texts → after ≡ texts ++ text ∷ []
      → Numbers texts after text number
  number_new (Some other) after number is known last added = absurd (none-some other (sym is))
  number_new None after number is never last added = record {
    is = subst (λ n. slice_get after n ≡ Some text) (sym last) (subst (λ ts. slice_get ts (length texts) ≡ Some text) (sym added) (item_last texts text));
    how = inr (record {
      first = last;
      added = added;
      new = λ other at. never other (subst (λ ts. slice_get ts other ≡ Some text) (sym same) at);
    });
  }
