use Rattle.std.proofs.Common.{◌≡◌, ◌<◌, length, get_or, arith, sym}
use Rattle.cx_asm_operands.specs.Bases.{none_in_use}
use Rattle.cx_asm_pass2.specs.Whole.{whole_by}
use Rattle.cx_asm.specs.Resolving.{empty_section, standing_from}
use Rattle.cx_asm.proofs.AllFaultsLemmas.{bases_more, first_more}
use Rattle.cx_asm.proofs.FitLemmas.{kept_fits}
use Rattle.cx_asm.proofs.JoinLemmas.{kept_more, standing_next}
use Rattle.cx_asm.proofs.section.second_pass.Goals as goal

pub pass_line-requires : goal.pass_line-requires
pass_line-requires c =
    let whole = whole_by c.args.places.now in
    let next = standing_next whole c.args.statements.now c.loop-number.bases c.args.statements.now c.index-statements-number.result c.loop-number.number c.loop-number-test.true in
    kept_fits c.args.keeps c.loop-number.standing _ _ _ empty_section (standing_from whole c.args.statements.now none_in_use c.args.statements.now) 65536
    (rw (sym c.index-statements-number.is) at next) c.loop-number.invariant.standing c.requires

pub loop-number-preserved : goal.loop-number-preserved
loop-number-preserved c =
    let whole = whole_by c.args.places.now in
    let within : c.loop-number.number < length c.args.statements.now = omega arith in
    let s = c.index-statements-number.result in
    let is : s ≡ get_or c.args.statements.now c.loop-number.number s = c.index-statements-number.is in
    let next = standing_next whole c.args.statements.now c.loop-number.bases c.args.statements.now s c.loop-number.number within in
    record {
      bases = bases_more whole c.args.statements.now s c.loop-number.number c.loop-number.bases c.pass_line.new.bases within is c.loop-number.invariant.bases
          c.in_ok-fault.ensures.bases;
      first = first_more whole c.args.statements.now s c.loop-number.number c.loop-number.bases c.loop-number.first c.first_fault_after-first.result c.in_ok-fault.fault
          within is c.loop-number.invariant.bases c.loop-number.invariant.first c.in_ok-fault.ensures.fault
          (rw (sym c.line.ensures) c.first_fault_after-first.ensures);
      standing =
          rw c.in_ok-fault.ensures.bases
          (kept_more c.args.keeps c.loop-number.standing _ _ _ _ _ c.in_ok-fault.ensures.standing (rw (sym c.index-statements-number.is) at next) c.loop-number.invariant.standing);
    }
