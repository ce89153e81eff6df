-- Commands that are reached.
use Rattle.cx_asm_execution.proofs.ArgumentLemmas.{operands_address}
use Rattle.cx_asm_execution.proofs.Arguments.{OperandsAddress}
use Rattle.cx_asm_execution.proofs.ArrivingLemmas.{Laws, commands_arrive}
use Rattle.cx_asm_execution.proofs.CallLemmas.{mark_resolved}
use Rattle.cx_asm_execution.proofs.CodeInStorage.{CodeIsLoaded}
use Rattle.cx_asm_execution.proofs.CodeLemmas.{code_loaded}
use Rattle.cx_asm_execution.proofs.HandedLemmas.{block_stands, entry_stands, literals_loaded}
use Rattle.cx_asm_execution.proofs.InStorage.{TextsAreMade}
use Rattle.cx_asm_execution.proofs.LegalLemmas.{Accepts}
use Rattle.cx_asm_execution.proofs.LiteralLemmas.{Knows, literals_stand}
use Rattle.cx_asm_execution.proofs.Literals.{LiteralsStand}
use Rattle.cx_asm_execution.proofs.MadeLemmas.{calls_made}
use Rattle.cx_asm_execution.proofs.PointerLemmas.{loads_are_resolved}
use Rattle.cx_asm_execution.proofs.ReturnedLemmas.{Laws as ReturnLaws}
use Rattle.cx_asm_execution.proofs.StandingLemmas.{texts_are_made}
use Rattle.cx_asm_execution.proofs.StoreLemmas.{branch_resolved, stores_resolved}
use Rattle.cx_asm_execution.proofs.WordLemmas.{list_lies, list_placed, words_lie}
use Rattle.cx_asm_execution.proofs.laws.commands_arrive.Goals as goal

pub returns : goal.returns
returns c =
    let near = c.an_implied_address_is_nearest.ensures in
    let spans = c.span_is_bytes.ensures in
    let bytes = c.accepted_bytes_are_legal.ensures in
    let apart = c.an_assembly_stands_apart.ensures in
    let accepts : Accepts = record {
      bytes = bytes;
      conditions = c.accepted_conditions_are_legal.ensures;
      number = c.accepted_conditions_are_counted.ensures.number;
      none = c.accepted_conditions_are_counted.ensures.others;
      room = c.accepted_lists_have_room.ensures;
      read = c.accepted_lists_are_read.ensures;
    } in
    let addresses : OperandsAddress = operands_address near in
    let texts : TextsAreMade = texts_are_made apart.within_section apart.size apart.lines in
    let knows : Knows = record { addresses = addresses; size = apart.size; short = apart.within_section; apart = apart.lines } in
    let literals : LiteralsStand = literals_stand knows in
    let code : CodeIsLoaded = code_loaded c.what_is_resolved_is_well_formed.ensures c.every_spelling.ensures.length c.lines_are_loaded.ensures c.no_code_is_relocated.ensures in
    let laws : Laws = record {
      accepts = accepts;
      addresses = addresses;
      placed = list_placed;
      list = list_lies addresses;
      words = words_lie addresses;
      block = block_stands bytes literals;
      entry = entry_stands literals;
      loaded = literals_loaded c.lines_are_loaded.ensures;
      code = code;
      texts = texts;
      spans = spans;
      counted = c.made_are_counted.ensures;
      reaches = c.reaches_entry.ensures;
    } in
    let returns : ReturnLaws = record { nearest = near; resolved = loads_are_resolved; code = code; texts = texts; spans = spans; gives = c.loads_give_words.ensures } in
    commands_arrive laws returns (calls_made stores_resolved (mark_resolved branch_resolved))
