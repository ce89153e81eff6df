use Rattle.std.proofs.Common.{◌≡◌, ◌<◌, Some, None, get_or, length, rules, arith}
use Rattle.std.proofs.lemmas.Grind.{common_steps}
use Rattle.cx_ebcdic.specs.Names.{name_code, padded_name}
use Rattle.cx_ebcdic.proofs.CodedLemmas.{coded_more, uncoded, blanks_more}
use Rattle.cx_ebcdic.proofs.names.padded_name.Goals as goal

pub returns-in_err-bytes : goal.returns-in_err-bytes
unfolding padded_name
returns-in_err-bytes g c =
    let none : name_code (get_or c.args.text.now c.loop-i.i 0) ≡ None = search rules in
    let gone = uncoded name_code c.args.text.now c.loop-i.i (omega arith) none in
    grind (arith, common_steps)

pub loop-i-preserved : goal.loop-i-preserved
loop-i-preserved g c =
    let has : name_code (get_or c.args.text.now c.loop-i.i 0) ≡ Some c.in_ok-bytes.field-0 = search rules in
    let in_bytes : c.loop-i.i < length c.loop-i.bytes = omega (arith, c.loop-i.invariant.size) in
    record {
      size = search rules;
      codes = coded_more name_code c.args.text.now c.loop-i.bytes c.loop-i.i c.in_ok-bytes.field-0 (omega arith) in_bytes has c.loop-i.invariant.codes;
      blanks = blanks_more c.loop-i.bytes c.loop-i.i c.in_ok-bytes.field-0 g.row.WIDTH in_bytes c.loop-i.invariant.blanks;
    }
