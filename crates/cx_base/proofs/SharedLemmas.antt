-- When two lists of shared values are one.
use Rattle.std.proofs.Common.{◌≡◌, ℕ, ◌+◌, ◌<◌, sym, ap, ◌∙◌, List, length, take, get_or}
use Rattle.std.specs.Global.{Global}
use Rattle.std.specs.declared.rc.Rc.{Rc}
use Rattle.std.proofs.lemmas.List.{take_more_same, get_or-map, length-map}
use Rattle.cx_base.specs.Shared.{values}

pub value_at : {X : Type 0} (xs ys : List (Rc X Global)) (i : ℕ) (x y : Rc X Global) → i < length xs → i < length ys → x ≡ get_or xs i x → y ≡ get_or ys i y → values xs ≡ values ys → x.value ≡ y.value
value_at xs ys i x y lx ly ex ey e =
    ap (λ c. c.value) ex ∙ sym (get_or-map (λ c. c.value) xs i x x.value lx) ∙ ap (λ vs. get_or vs i x.value) e ∙ get_or-map (λ c. c.value) ys i y x.value ly ∙ sym (ap (λ c. c.value) ey)

pub values_more : {X : Type 0} (xs ys : List (Rc X Global)) (i : ℕ) (x y : Rc X Global) → i < length xs → i < length ys → x ≡ get_or xs i x → y ≡ get_or ys i y → x.value ≡ y.value
    → take i (values xs) ≡ take i (values ys) → take (i + 1) (values xs) ≡ take (i + 1) (values ys)
values_more xs ys i x y lx ly ex ey same so =
    take_more_same (values xs) (values ys) i x.value (rw length-map lx) (rw length-map ly) so
    (get_or-map (λ c. c.value) xs i x x.value lx ∙ sym (ap (λ c. c.value) ex) ∙ same ∙ ap (λ c. c.value) ey ∙ sym (get_or-map (λ c. c.value) ys i y x.value ly))
