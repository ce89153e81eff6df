-- What is said of an error holds where there is one, and what is said of a value where there is none.
use Rattle.std.proofs.Common.{◌≡◌, true, false, Result, Ok, Err, OnOk, OnErr, is_err}

pub on_err : {A E X : Type 0} (r : Result A E) → is_err r ≡ true → OnErr r X → X
on_err (Ok a) e h = cc
on_err (Err f) e h = h

pub on_ok : {A E X : Type 0} (r : Result A E) → is_err r ≡ false → OnOk r X → X
on_ok (Ok a) e h = h
on_ok (Err f) e h = cc
