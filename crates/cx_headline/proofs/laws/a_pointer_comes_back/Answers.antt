-- A pointer from its EXEC to its load.
use Rattle.cx_headline.proofs.PointerLemmas.{Laws, pointers_are_given}
use Rattle.cx_headline.proofs.laws.a_pointer_comes_back.Goals as goal

pub returns : goal.returns
returns c =
    let laws : Laws = record {
      go_on = c.a_pointer_stays.ensures.program;
      stay = c.a_pointer_stays.ensures.outputs;
      found = c.arguments_are_found_by_name.ensures;
    } in
    pointers_are_given laws
