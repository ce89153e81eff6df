-- A row is named as WHERE names its first byte.
use Rattle.std.proofs.Common.{refl, length}
use Rattle.std.proofs.lemmas.Bool.{eq-eqb}
use Rattle.cx_program.specs.Levels.{all_levels}
use Rattle.cx_look_fields.specs.Fields.{standing_in}
use Rattle.cx_look_ahead.specs.Laws.{NamesAreOfWhere}

pub names_are_of_where : NamesAreOfWhere
unfolding standing_in
names_are_of_where sources region name task address live =
    let n = length (all_levels task.levels) in
    rw (live, eq-eqb n n refl) refl
