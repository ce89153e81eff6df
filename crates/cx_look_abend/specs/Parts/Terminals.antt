-- Which events define a terminal.
use Rattle.std.specs.Prelude.{Bool, true, false}
use Rattle.cx_region.specs.declared.replies.Event.TheVariants as event
use Rattle.cx_edf.specs.declared.answers.EdfEvent.{EdfEvent}
use Rattle.cx_edf.specs.declared.answers.EdfEvent.TheVariants as edf_event

abbrev pub defines_terminal : EdfEvent → Bool
defines_terminal (edf_event.Plain (event.Terminal name)) = true
defines_terminal _ = false
