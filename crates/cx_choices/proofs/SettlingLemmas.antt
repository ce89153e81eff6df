-- Turns that are made until no terminal can act.
use Rattle.std.proofs.Common.{◌≡◌, ℕ, zero, suc, ◌≤◌, List, [], ◌∷◌, ◌++◌, length, ◌⊎◌, inl, inr, ap, sym, subst, refl, ◌∙◌, arith}
use Rattle.std.specs.Prelude.{slice_get}
use Rattle.std.proofs.lemmas.Bool.{cases_order}
use Rattle.std.proofs.lemmas.Option.{same_Some}
use Rattle.cx_region.specs.State.{RegionState, TerminalState}
use Rattle.cx_region.specs.Turn.{TakesTurn}
use Rattle.cx_region_laws.specs.Laws.Regions.{TurnsDecide}
use Rattle.cx_choices.specs.Laws.{SettlingDecides}
use Rattle.cx_choices.specs.Settling.{CanAct, IsAtRest, IsFirstToAct, MakesTurn, MakesTurns}
use Rattle.cx_choices.specs.declared.states.TurnMade.{TurnMade}

-- no turn
pub makes_none : (from : RegionState) → MakesTurns from [] from
unfolding MakesTurns
makes_none from = refl

-- one turn more
pub makes_on : (from : RegionState) (made : List TurnMade) (between : RegionState) (turn : TurnMade) (name : List ℕ) (after : RegionState)
    → MakesTurns from made between → IsFirstToAct between turn.number name → TakesTurn between name turn.reply after
    → MakesTurns from (made ++ turn ∷ []) after
unfolding MakesTurns
makes_on from [] between turn name after is first takes = record {
  name = name;
  first = subst (λ s. IsFirstToAct s turn.number name) is first;
  between = after;
  takes = subst (λ s. TakesTurn s name turn.reply after) is takes;
  rest = refl;
}
makes_on from (t ∷ made) between turn name after is first takes = record {
  name = is.name;
  first = is.first;
  between = is.between;
  takes = is.takes;
  rest = makes_on is.between made between turn name after is.rest first takes;
}

module _ (turns : TurnsDecide) where
  -- two that are the first to act are one
  one_number : (region : RegionState) (one other : ℕ) (name another : List ℕ) → IsFirstToAct region one name → IsFirstToAct region other another → one ≡ other
  one_number region one other name another is also = elim (cases_order one other) [
    | inl e ↦ e
    | inr (inl l) ↦ absurd (also.first one name l is.acts)
    | inr (inr l) ↦ absurd (is.first other another l also.acts)
  ]

  one_name : (region : RegionState) (one other : ℕ) (name another : List ℕ) → one ≡ other → CanAct region one name → CanAct region other another → name ≡ another
  one_name region one other name another same is also =
      ap (λ (e : List ℕ × TerminalState). e.0)
      (same_Some (name, is.terminal) (another, also.terminal) (sym is.at ∙ ap (slice_get region.terminals) same ∙ also.at))

  same_turns : (one other : TurnMade) → one.number ≡ other.number → one.reply ≡ other.reply → one ≡ other
  same_turns one other p q = λ i. record { number = p i; reply = q i }

  -- the first of two lists of turns: it is one turn, to one region
  one_turn : (from : RegionState) (t u : TurnMade) (P Q : RegionState → Type 0) (is : MakesTurn P from t) (also : MakesTurn Q from u)
      → (t ≡ u) × (is.between ≡ also.between)
  one_turn from t u P Q is also =
      let number = one_number from t.number u.number is.name also.name is.first also.first in
      let name = one_name from t.number u.number is.name also.name number is.first.acts also.first.acts in
      let both = turns from also.name t.reply u.reply is.between also.between (subst (λ n. TakesTurn from n t.reply is.between) name is.takes) also.takes in
      (same_turns t u number both.0, both.1)

  decides : (most : ℕ) (from one other : RegionState) (made others : List TurnMade) → MakesTurns from made one → MakesTurns from others other
      → length made ≤ most → length others ≤ most → IsAtRest one ⊎ (length made ≡ most) → IsAtRest other ⊎ (length others ≡ most)
      → (made ≡ others) × (one ≡ other)
  unfolding MakesTurns
  decides most from one other [] [] is also few less ends stops = (refl, is ∙ sym also)
  decides most from one other [] (u ∷ others) is also few less (inl rest) stops =
      absurd (rest u.number also.name (subst (λ r. CanAct r u.number also.name) (sym is) also.first.acts))
  decides most from one other [] (u ∷ others) is also few less (inr full) stops = absurd (omega (arith, full, less))
  decides most from one other (t ∷ made) [] is also few less ends (inl rest) =
      absurd (rest t.number is.name (subst (λ r. CanAct r t.number is.name) (sym also) is.first.acts))
  decides most from one other (t ∷ made) [] is also few less ends (inr full) = absurd (omega (arith, full, few))
  decides zero from one other (t ∷ made) (u ∷ others) is also few less ends stops = absurd (omega (arith, few))
  decides (suc most) from one other (t ∷ made) (u ∷ others) is also few less ends stops =
      let first = one_turn from t u (λ between. MakesTurns between made one) (λ between. MakesTurns between others other) is also in
      let rest = decides most also.between one other made others (subst (λ r. MakesTurns r made one) first.1 is.rest) also.rest
      (omega (arith, few)) (omega (arith, less)) (fewer most t made (IsAtRest one) ends) (fewer most u others (IsAtRest other) stops) in
      (ap (λ x. x ∷ made) first.0 ∙ ap (λ xs. u ∷ xs) rest.0, rest.1)
    where
      fewer : (most : ℕ) (t : TurnMade) (made : List TurnMade) (Rest : Type 0) → Rest ⊎ (length (t ∷ made) ≡ suc most) → Rest ⊎ (length made ≡ most)
      fewer most t made Rest (inl rest) = inl rest
      fewer most t made Rest (inr full) = inr (omega (arith, full))

  pub settling_decides : SettlingDecides
  settling_decides most from one other made others is also =
      decides most from one other made others is.turns also.turns is.few also.few is.ends also.ends
