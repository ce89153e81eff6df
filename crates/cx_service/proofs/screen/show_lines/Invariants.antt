use Rattle.std.specs.Option.{option_map}
use Rattle.cx_service.proofs.ScreenLemmas.{HasShown}
use Rattle.cx_service.proofs.screen.show_lines.Given as goal

abbrev pub invariant-loop-i : goal.invariant-loop-i
invariant-loop-i l = HasShown l.initial.rows l.rows l.text (option_map (λ left. left.now) l.left) l.i
