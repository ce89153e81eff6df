use Rattle.std.proofs.Common.{rules}
use Rattle.cx_asm_pass1.proofs.TableLemmas.{fault_added}
use Rattle.cx_asm_pass1.proofs.all_faults.LineFaults.add.Goals as goal

pub returns : goal.returns
returns c =
    fault_added c.args.line c.in-Some.kind c.args.fault c.args.self.now c.self.inside.lowest.entries c.insert.new.self.entries c.lowest_with-lowest.result
    (search rules) (search rules) (search rules) (search rules)
