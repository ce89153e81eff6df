use Rattle.std.proofs.Common.{◌≡◌, ◌-◌, ◌<◌, ◌^◌, length}
use Rattle.cx_region_state.specs.Call.{words_from}
use Rattle.cx_region_state.proofs.CallLemmas.{followed}
use Rattle.cx_region_state.proofs.call.read_words.Given as goal

-- the words read, and those in the rest of the list
abbrev pub invariant-loop-k : goal.invariant-loop-k
invariant-loop-k g l =
    (l.at < 2 ^ 24) × (length l.words.items ≡ l._k)
    × (followed l.words.items (words_from (g.S.Store.storage l.store) l.at (l.count - l._k)) ≡ words_from (g.S.Store.storage l.store) l.list l.count)
