use Rattle.std.proofs.Common.{[], arith, subst, sym}
use Rattle.cx_look_choices.specs.Parts.Ways.{AreFirstRows}
use Rattle.cx_look_choices.proofs.RowLemmas.{rows_none}
use Rattle.cx_look_choices.proofs.rows.first_rows.Goals as goal

pub loop-place-init : goal.loop-place-init
loop-place-init g c =
    let first = AreFirstRows (g.V.Seen.shows c.args.seen.now) c.args.searched.now.choices.now.choices.items c.args.searched.now.choices.now.one_number
    c.args.searched.now.region.now c.args.searched.now.found.now.states.entries c.args.searched.now.many 0 in (
      subst (λ texts. first texts c.new-2.result.items) (sym c.new.ensures.items)
          (subst (first []) (sym c.new-2.ensures.items)
          (rows_none (g.V.Seen.shows c.args.seen.now) c.args.searched.now.choices.now.choices.items c.args.searched.now.choices.now.one_number
          c.args.searched.now.region.now c.args.searched.now.found.now.states.entries c.args.searched.now.many)),
      omega arith,
    )
