use Rattle.std.proofs.Common.{◌≡◌, ◌<◌, length, get_or, arith, sym}
use Rattle.cx_asm_pass2.specs.Whole.{whole_by}
use Rattle.cx_asm.proofs.AllFaultsLemmas.{bases_more, faults_more}
use Rattle.cx_asm.proofs.section.second_faults.Goals as goal

pub loop-number-preserved : goal.loop-number-preserved
loop-number-preserved c =
    let whole = whole_by c.args.places.now in
    let within : c.loop-number.number < length c.args.statements.now = omega arith in
    let s = c.index-statements-number.result in
    let is : s ≡ get_or c.args.statements.now c.loop-number.number s = c.index-statements-number.is in
    record {
      bases = bases_more whole c.args.statements.now s c.loop-number.number c.loop-number.bases c.pass_line.new.bases within is c.loop-number.invariant.bases
          c.in_ok-fault.ensures.bases;
      faults = faults_more whole c.args.statements.now s c.loop-number.number c.loop-number.bases c.loop-number.faults c.add.new.self c.in_ok-fault.fault within is
          c.loop-number.invariant.bases c.loop-number.invariant.faults c.in_ok-fault.ensures.fault
          (rw (sym c.line.ensures) c.in_ok-add.ensures);
    }
