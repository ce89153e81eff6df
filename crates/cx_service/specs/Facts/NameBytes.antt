-- A resource's name gives back how it is kept.
use Rattle.std.specs.Prelude.{◌≡◌, ◌-◌, ◌≤◌, ◌++◌, length, take, replicate}
use Rattle.std.proofs.Common.{◌∙◌, ap, sym, arith}
use Rattle.std.proofs.lemmas.List.{length-take-le, take-append-drop}
use Rattle.cx_service.specs.declared.resources.NameBytes.TheInside.{Inside}
use Rattle.cx_service.specs.Parts.NameBytes.{IsPadded, kept}

pub padded_back : (name : Inside) → IsPadded name.bytes name.len → kept (take name.len name.bytes) ≡ name
padded_back name padded =
    let within : name.len ≤ length name.bytes = (let w = padded.whole in let f = padded.few in omega arith) in
    let as_long : length (take name.len name.bytes) ≡ name.len = length-take-le name.len name.bytes within in
    let same : take name.len name.bytes ++ replicate (255 - length (take name.len name.bytes)) 0 ≡ name.bytes =
    ap (λ n. take name.len name.bytes ++ replicate (255 - n) 0) as_long
    ∙ ap (λ l. take name.len name.bytes ++ l) (sym padded.zeros)
    ∙ take-append-drop name.len name.bytes in
    λ i. record { bytes = same i; len = as_long i }
