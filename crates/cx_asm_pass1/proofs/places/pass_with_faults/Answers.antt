use Rattle.std.proofs.Common.{◌≡◌, ◌<◌, ◌+◌, ◌∷◌, [], length, get_or, take, reverse, ap, sym, ◌∙◌, arith, rules}
use Rattle.std.specs.Prelude.{option_and_then}
use Rattle.std.proofs.lemmas.List.{reverse-append, take_more}
use Rattle.cx_source.specs.declared.source.Item.{Item}
use Rattle.cx_source.specs.declared.source.Stmt.{Stmt}
use Rattle.cx_asm_pass1.specs.AllFaults.{faults_after, with_fault}
use Rattle.cx_asm_pass1.specs.PassState.{PassState, after_line, statement_fault_in, state_after}
use Rattle.cx_asm_pass1.specs.Parts.Passing.{state_of}
use Rattle.cx_asm_pass1.proofs.places.pass_with_faults.Goals as goal

pub loop-item-preserved : goal.loop-item-preserved
loop-item-preserved c =
    let item = c.item-item.result in
    let i = c.loop-item.item-index in
    let before = reverse (take i c.args.items.now) in
    let within : i < length c.args.items.now = omega arith in
    let here : get_or c.args.items.now i item ≡ item = search rules in
    let more : reverse (take (i + 1) c.args.items.now) ≡ item ∷ before =
    ap reverse (take_more c.args.items.now i item within) ∙ reverse-append (take i c.args.items.now) (get_or c.args.items.now i item ∷ []) ∙ ap (λ (x : Item). x ∷ before) here in
    let listed : state_of c.take_line.new.self ≡ after_line item.line item.stmt (state_of c.loop-item.pass) = search rules in
    let found : c.in_ok-fault.fault ≡ option_and_then (λ (stmt : Stmt). statement_fault_in stmt (state_of c.loop-item.pass)) item.stmt = c.in_ok-fault.ensures.fault in
    let put : c.add.new.self ≡ with_fault item.line c.in_ok-fault.fault c.loop-item.faults = search rules in
    let same = ap (λ (state : PassState). option_and_then (λ (stmt : Stmt). statement_fault_in stmt state) item.stmt) c.loop-item.invariant.pass in
    record {
      pass = listed ∙ ap (after_line item.line item.stmt) c.loop-item.invariant.pass ∙ sym (ap state_after more);
      faults =
          put ∙ ap (λ fault. with_fault item.line fault c.loop-item.faults) (found ∙ same)
          ∙ ap (with_fault item.line (option_and_then (λ (stmt : Stmt). statement_fault_in stmt (state_after before)) item.stmt)) c.loop-item.invariant.faults
          ∙ sym (ap faults_after more);
    }
