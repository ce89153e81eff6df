-- The text that a command hands over (this product's own).
use Rattle.std.specs.Prelude.{ℕ, List, [], unwrap_or}
use Rattle.std.specs.Option.{option_map_or}
use Rattle.cx_service.specs.Queues.{item_of}
use Rattle.cx_region_state.specs.declared.verdict.TaskChange.{TaskChange}
use Rattle.cx_region_state.specs.declared.verdict.TaskChange.TheVariants.{After}
use Rattle.cx_region_state.specs.declared.verdict.AfterOutputs.TheVariants.{TakesInput, MarksRead}
use Rattle.cx_region_state.specs.State.{TaskContext}

-- that of what it takes: the held input, or the item
unfoldable pub handed_over : TaskChange → TaskContext → List ℕ
handed_over (After TakesInput) r = option_map_or (λ input. input.bytes) r.terminal_entry.input []
handed_over (After (MarksRead name reading)) r = unwrap_or (item_of r.shared.queues name reading.number) []
handed_over _ r = []
