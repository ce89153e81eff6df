-- An item that goes last in a queue that is there.
use Rattle.std.proofs.Common.{◌≡◌, ℕ, Some, List, [], ◌∷◌, ◌++◌, ◌∙◌, ap}
use Rattle.std.specs.Prelude.{unwrap_or}
use Rattle.std.specs.Map.{set_value}
use Rattle.indexmap.specs.IndexMap.{insert_entry}
use Rattle.cx_ebcdic.specs.Names.{is_name}
use Rattle.cx_service.specs.Queues.{Queue, Queues, queue_of, with_item}
use Rattle.cx_base.specs.Facts.Tables.{insert_entry_present}

pub with_item_present : (queues : Queues) (name bytes : List ℕ) (old : Queue) → queue_of queues name ≡ Some old → with_item queues name bytes ≡ set_value (is_name name) queues (record old { items = old.items ++ bytes ∷ [] })
unfolding with_item
with_item_present queues name bytes old there =
    ap (λ o. insert_entry is_name queues name (record (unwrap_or o (record { items = []; last_read = 0 })) { items = (unwrap_or o (record { items = []; last_read = 0 })).items ++ bytes ∷ [] })) there
    ∙ insert_entry_present is_name queues name (record old { items = old.items ++ bytes ∷ [] }) old there
