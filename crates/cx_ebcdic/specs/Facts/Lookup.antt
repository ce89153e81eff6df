-- What is known of a row that was found in a table.
use Rattle.std.specs.Prelude.{◌≡◌, Bool, true, false, ◌&&◌, ◌⊎◌, Option, Some, List, [], ◌∷◌, cond, refl}
use Rattle.std.specs.List.{find, list_all}
use Rattle.std.proofs.Common.{sym, ◌∙◌, ap, inl, inr, ⊎_elim}

-- which way a test went
went : {X : Type 0} (b : Bool) (y x : X) (rest : Option X) → cond b (Some y) rest ≡ Some x → ((b ≡ true) × (y ≡ x)) ⊎ ((b ≡ false) × (rest ≡ Some x))
went true y x rest e = inl (refl, cc)
went false y x rest e = inr (refl, e)

both : (a b : Bool) → (a && b) ≡ true → (a ≡ true) × (b ≡ true)
both true b e = (refl, e)
both false b e = cc

-- what is found passes the test, and every test that all rows pass
pub find_meets : {X : Type 0} (test all : X → Bool) (xs : List X) (x : X) → list_all all xs ≡ true → find test xs ≡ Some x → (test x ≡ true) × (all x ≡ true)
find_meets test all [] x h e = cc
find_meets test all (y ∷ ys) x h e =
    let parts : (all y ≡ true) × (list_all all ys ≡ true) = both (all y) (list_all all ys) h in
    ⊎_elim (λ w. (ap test (sym w.1) ∙ w.0, ap all (sym w.1) ∙ parts.0)) (λ w. find_meets test all ys x parts.1 w.1) (went (test y) y x (find test ys) e)

-- what is found passes the test
pub find_passes : {X : Type 0} (test : X → Bool) (xs : List X) (x : X) → find test xs ≡ Some x → test x ≡ true
find_passes test [] x e = cc
find_passes test (y ∷ ys) x e =
    ⊎_elim (λ w. ap test (sym w.1) ∙ w.0) (λ w. find_passes test ys x w.1) (went (test y) y x (find test ys) e)
