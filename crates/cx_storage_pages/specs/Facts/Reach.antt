-- What counts say of the granules that they go past is a proposition.
use Rattle.std.specs.Prelude.{◌+◌, ◌*◌, ◌≤◌, ℕ, List, slice_index}
use Rattle.std.specs.Coded.{Π_prop, le_prop}
use Rattle.cx_storage_pages.specs.Parts.Reach.{Reaches}

pub Reaches-prop : (counts : List ℕ) → IsProp (Reaches counts)
Reaches-prop counts =
    let rows : IsProp ((g j : ℕ) → 16 * (j + 1) ≤ slice_index counts g → 16 ≤ slice_index counts (g + j)) = Π_prop (λ _. Π_prop (λ _. Π_prop (λ _. le_prop))) in
    let bound : IsProp ((g : ℕ) → slice_index counts g ≤ 255) = Π_prop (λ _. le_prop) in
    hlevel (rows, bound)
