use Rattle.std.proofs.Common.{arith, ap, ◌∙◌}
use Rattle.std.specs.List.{repeat}
use Rattle.cx_asm.specs.Resolving.{data_line, relocated_offsets, standing}
use Rattle.cx_asm.proofs.FitLemmas.{data_fits, some_bytes, words_fit}
use Rattle.cx_asm.proofs.pass.SecondPass.push_data.Goals as goal

pub push_relocated-requires : goal.push_relocated-requires
push_relocated-requires c =
    rw (c.is_relocated.ensures)
    (words_fit c.args.standing.now (standing (data_line c.args.at (repeat c.args.count c.args.made.now.bytes)) (relocated_offsets c.args.at c.args.count c.args.made.now.is_relocated)) 65536 (c.requires c.if-not-self.false))

pub overflow_cast-at : goal.overflow_cast-at
overflow_cast-at c =
    let bytes = repeat c.args.count c.args.made.now.bytes in
    let some = some_bytes c.in_ok-bytes.bytes.items bytes _ c.is_empty.result
    (c.in_ok-bytes.ensures ∙ ap (λ bs. repeat c.args.count bs) c.as_slice.ensures) c.in_ok-bytes.bytes.ok.0 c.is_empty.ensures c.if-is_empty.false in
    omega (arith, data_fits 0 c.args.standing.now.lines c.args.at bytes 65536 some (c.requires c.if-not-self.false).lines)
