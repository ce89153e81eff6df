-- Definitions, and the clock. The limits and the order of refusals are this product's own.
use Rattle.std.specs.Prelude.{◌≡◌, ℕ, ◌+◌, Bool, nat_le, if◌then◌else◌, List, [], ◌∷◌, length, Option, Some, None, is_some, is_none, Result, Ok, Err, MatchOption}
use Rattle.indexmap.specs.IndexMap.{insert_entry}
use Rattle.cx_code.specs.declared.image.Image.{Image}
use Rattle.cx_storage.specs.declared.areas.Kind.TheVariants.{Fixed}
use Rattle.cx_storage.specs.Storage.{zeros}
use Rattle.cx_load.specs.declared.program.Loaded.{Loaded}
use Rattle.cx_load.specs.Program.{IsLoaded, IsProgramPlace}
use Rattle.cx_region.specs.declared.replies.DefineFault.{DefineFault}
use Rattle.cx_region.specs.declared.replies.DefineFault.TheVariants.{Duplicate, Full, NoProgram, NoRoom}
use Rattle.cx_region.specs.State.{RegionState}
use Rattle.cx_ebcdic.specs.Names.{is_name}
use Rattle.cx_region.specs.Tables.{fresh_terminal, program_of, transaction_of, terminal_of}

-- the first refusal: the name is defined, the table is full, or any other
abbrev pub entry_fault : Bool → ℕ → ℕ → Option DefineFault → Option DefineFault
entry_fault defined count most other =
    if defined then Some Duplicate else if nat_le most count then Some Full else other

-- ---- programs
unfoldable pub program_fault : RegionState → List ℕ → Option DefineFault
program_fault region name = entry_fault (is_some (program_of region name)) (length region.shared.programs) 64 None

-- loading it: it is put in storage and is defined; or storage has no place for it, and all is as before
abbrev pub LoadsProgram : RegionState → List ℕ → Image → Result Loaded DefineFault → RegionState → Type 0
LoadsProgram old name image (Ok loaded) new =
    let storage = new.shared.storage in
    let programs = insert_entry is_name old.shared.programs name loaded in
    IsLoaded old.shared.storage image loaded storage
    × (new ≡ record old { shared = record old.shared { storage = storage; programs = programs } })
LoadsProgram old name image (Err NoRoom) new = IsProgramPlace old.shared.storage (length image.text) None × (new ≡ old)
LoadsProgram old name image (Err _) new = ⊥

-- a program is refused by its name or the limit, and all is as before; else it is loaded
unfoldable pub DefinesProgram : RegionState → List ℕ → Image → Result Loaded DefineFault → RegionState → Type 0
DefinesProgram old name image result new =
    MatchOption (program_fault old name) (LoadsProgram old name image result new)
    (λ fault. (result ≡ Err fault) × (new ≡ old))

-- ---- transactions
unfoldable pub transaction_fault : RegionState → List ℕ → List ℕ → Option DefineFault
transaction_fault region tran program =
    entry_fault (is_some (transaction_of region tran)) (length region.transactions) 64
    (if is_none (program_of region program) then Some NoProgram else None)

unfoldable pub DefinesTransaction : RegionState → List ℕ → List ℕ → Result (Unit {0}) DefineFault → RegionState → Type 0
DefinesTransaction old tran program result new =
    MatchOption (transaction_fault old tran program)
    ((result ≡ Ok tt) × (new ≡ record old { transactions = insert_entry is_name old.transactions tran program }))
    (λ fault. (result ≡ Err fault) × (new ≡ old))

-- ---- terminals: a new one has the next position, a blank screen, and nothing else
unfoldable pub terminal_fault : RegionState → List ℕ → Option DefineFault
terminal_fault region name = entry_fault (is_some (terminal_of region name)) (length region.terminals) 16 None

unfoldable pub DefinesTerminal : RegionState → List ℕ → Result (Unit {0}) DefineFault → RegionState → Type 0
DefinesTerminal old name result new =
    MatchOption (terminal_fault old name)
    ((result ≡ Ok tt)
    × (new ≡ record old {
      terminals = insert_entry is_name old.terminals name (fresh_terminal (length old.terminals + 1));
    }))
    (λ fault. (result ≡ Err fault) × (new ≡ old))

-- ---- a region as it begins: there is the common work area, 512 bytes of the region's own, and nothing is defined
abbrev pub fresh_region : RegionState
fresh_region =
    record {
      shared = record {
        storage = zeros 0x001000 512 (record { slot = 0; kind = Fixed }) ∷ [];
        programs = [];
        queues = [];
        resources = [];
      };
      time = 0;
      date = 0;
      transactions = [];
      terminals = [];
      counter = 0;
    }
