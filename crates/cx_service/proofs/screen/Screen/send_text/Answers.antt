use Rattle.std.proofs.Common.{subst, sym, false}
use Rattle.cx_service.specs.Screen.{IsScreen}
use Rattle.cx_service.proofs.ScreenLemmas.{IsScreen-blank, IsScreen-shown}
use Rattle.cx_service.proofs.screen.Screen.send_text.Goals as goal
use Rattle.cx_service.proofs.screen.Screen.send_text.Goals.{then-erase, else-erase}

pub invariant_of-self : goal.invariant_of-self
invariant_of-self c =
    let sound : IsScreen c.if-erase.self-inside.cells = elim c.if-erase.branch [
      | then-erase w ↦ subst (λ s. IsScreen s.cells) (sym w.self-inside-is) IsScreen-blank
      | else-erase w ↦ subst (λ s. IsScreen s.cells) (sym w.self-inside-is) c.self.invariant
    ] in
    IsScreen-shown _ c.args.text.now false _ sound c.show_lines.ensures
