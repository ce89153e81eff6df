use Rattle.std.proofs.Common.{◌≡◌, ℕ, List, Some, map, rules}
use denote.Ref.{Bor}
use Rattle.cx_asm_expressions.specs.Items.{values_in}
use Rattle.cx_asm_expressions.specs.Kinds.{row_of_kind}
use Rattle.cx_asm_expressions.proofs.ByteLemmas.{made_fault, values_fault}
use Rattle.cx_asm_expressions.proofs.bytes.plain_bytes.Goals as goal

pub returns-in-Some : goal.returns-in-Some
returns-in-Some c =
    let values = map (λ (value : Bor (List ℕ)). value.now) c.as_slice.result.now in
    let all : values ≡ values_in (row_of_kind c.args.kind).style c.args.body.now = search rules in
    let wrong : values_fault c.args.kind c.args.modifier values ≡ Some c.in-Some.fault = search rules in
    made_fault c.args.kind c.args.modifier c.args.body.now values c.in-Some.fault all wrong
