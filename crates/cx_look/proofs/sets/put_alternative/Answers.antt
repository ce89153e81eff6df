use Rattle.std.proofs.Common.{◌/◌, length}
use Rattle.cx_look.proofs.SetLemmas.{AtCharacter, all_put, at_character, full_at, no_room, put_more}
use Rattle.cx_look.proofs.sets.put_alternative.Goals as goal

pub nonzero_div-number : goal.nonzero_div-number
nonzero_div-number c =
    (at_character c.args.text.now c.loop-c.c-index c.loop-c.count c.loop-c.number c.count_of_character-count.result c.loop-c-test.true
    c.loop-c.invariant.count c.loop-c.invariant.number c.count_of_character-count.ensures).positive

pub character_of-requires : goal.character_of-requires
character_of-requires c =
    (at_character c.args.text.now c.loop-c.c-index c.loop-c.count c.loop-c.number c.count_of_character-count.result c.loop-c-test.true
    c.loop-c.invariant.count c.loop-c.invariant.number c.count_of_character-count.ensures).within

pub nonzero_rem-number : goal.nonzero_rem-number
nonzero_rem-number c =
    (at_character c.args.text.now c.loop-c.c-index c.loop-c.count c.loop-c.number c.count_of_character-count.result c.loop-c-test.true
    c.loop-c.invariant.count c.loop-c.invariant.number c.count_of_character-count.ensures).positive

pub returns-then-is_full : goal.returns-then-is_full
returns-then-is_full c =
    no_room c.loop-c.line.items c.args.line.now.items _ c.args.text.now c.loop-c.c-index c.loop-c.number
    (c.loop-c.count / c.count_of_character-count.result)
    (at_character c.args.text.now c.loop-c.c-index c.loop-c.count c.loop-c.number c.count_of_character-count.result c.loop-c-test.true
    c.loop-c.invariant.count c.loop-c.invariant.number c.count_of_character-count.ensures)
    c.loop-c.invariant.put (full_at (length c.loop-c.line.items) c.is_full.result c.is_full.ensures.value c.if-is_full.true)

pub loop-c-preserved : goal.loop-c-preserved
loop-c-preserved c =
    let m = c.loop-c.count / c.count_of_character-count.result in
    let at : AtCharacter c.args.text.now c.loop-c.c-index c.loop-c.number m =
    at_character c.args.text.now c.loop-c.c-index c.loop-c.count c.loop-c.number c.count_of_character-count.result c.loop-c-test.true
    c.loop-c.invariant.count c.loop-c.invariant.number c.count_of_character-count.ensures in
    record {
      count = at.rest;
      number = at.left;
      put = put_more c.loop-c.line.items c.push.new.self.items _ c.args.text.now c.loop-c.c-index c.loop-c.number m c.character_of.result at
          c.loop-c.invariant.put c.character_of.ensures c.push.ensures.items;
    }

pub returns : goal.returns
returns c =
    all_put c.loop-c.line.items c.args.text.now _ c.loop-c.c-index c.loop-c.count c.loop-c.number c.loop-c-test.false
    c.loop-c.invariant.count c.loop-c.invariant.number c.loop-c.invariant.put
