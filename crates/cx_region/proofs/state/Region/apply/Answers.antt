use Rattle.std.proofs.Common.{Err, ap, sym, subst, ◌∙◌}
use Rattle.cx_region.specs.Events.{MayTakeMemory}
use Rattle.cx_region.proofs.EventLemmas.{not_done, terminal_memory, transaction_memory}
use Rattle.cx_region.proofs.state.Region.apply.Goals as goal

pub returns-in-Err-Memory-clause-done : goal.returns-in-Err-Memory-clause-done
returns-in-Err-Memory-clause-done g c =
    let is = c.in-Err-Memory.is ∙ ap Err c.in-Err-Memory.field-0-is in
    not_done _ _ _ _ _ is (subst (MayTakeMemory c.args.self.now) (sym c.in-Program.is) (c.define_program.ensures.memory is)) c.define_program.ensures.err

pub returns-in-Err-Memory-define_transaction-clause-done : goal.returns-in-Err-Memory-define_transaction-clause-done
returns-in-Err-Memory-define_transaction-clause-done g c =
    let is = c.in-Err-Memory-define_transaction.is ∙ ap Err c.in-Err-Memory-define_transaction.field-0-is in
    not_done _ _ _ _ _ is (subst (MayTakeMemory c.args.self.now) (sym c.in-Transaction.is) (transaction_memory _ _ _ _ c.define_transaction.ensures.refused is)) c.define_transaction.ensures.err

pub returns-in-Err-Memory-define_terminal-clause-done : goal.returns-in-Err-Memory-define_terminal-clause-done
returns-in-Err-Memory-define_terminal-clause-done g c =
    let is = c.in-Err-Memory-define_terminal.is ∙ ap Err c.in-Err-Memory-define_terminal.field-0-is in
    not_done _ _ _ _ _ is (subst (MayTakeMemory c.args.self.now) (sym c.in-Terminal.is) (terminal_memory _ _ _ c.define_terminal.ensures.refused is)) c.define_terminal.ensures.err
