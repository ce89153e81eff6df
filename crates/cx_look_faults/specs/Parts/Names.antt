-- Names with OR between them, and where characters stand.
use Rattle.std.specs.Prelude.{ℕ, Bool, true, false, Option, List, ◌++◌, codes, drop, flat_map, length, take}
use Rattle.std.specs.List.{join_by}
use Rattle.std.specs.Option.{option_map_or}
use Rattle.cx_base.specs.Options.{option_name}
use Rattle.cx_base.specs.declared.options.CommandOption.{CommandOption}
use Rattle.cx_source.specs.declared.source.Stmt.{Stmt}
use Rattle.cx_look_faults.specs.Marks.{skip_unwritten, spot, spot_at}
use Rattle.cx_look_faults.specs.declared.positions.Position.{Position}
use Rattle.cx_look_faults.specs.declared.positions.Spot.{Spot}
use Rattle.cx_look_faults.specs.declared.spans.Span.{Span}

-- a name, after OR if it isn't the first
abbrev pub name_among : Bool → List ℕ → List ℕ
name_among true name = name
name_among false name = codes " OR " ++ name

-- the names of options, of which the first is the first of all or not
abbrev pub names_from : Bool → List CommandOption → List ℕ
names_from true options = join_by (λ (o : CommandOption). option_name o.name) (codes " OR ") options
names_from false options = flat_map (λ (o : CommandOption). codes " OR " ++ option_name o.name) options

-- a character of a line, by its column
abbrev pub position_at : ℕ → ℕ × ℕ → Position
position_at line c = record { line = line; column = c.0; byte = c.1 }

-- where a part is of a statement that has these characters
abbrev pub spot_in : ℕ → Stmt → Option Span → List Position → Spot
spot_in line stmt part all =
    let name = take (length stmt.name) all in let after = skip_unwritten (drop (length stmt.name) all) in
    let operand = skip_unwritten (drop (length stmt.operation) after) in
    let here = option_map_or (λ (it : Span). drop it.start (take it.end operand)) part name in
    spot_at here (spot_at (take (length stmt.operation) after) (spot_at name (spot line 1 0)))
