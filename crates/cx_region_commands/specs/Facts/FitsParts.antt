-- What the lemmas on rows have in common.
use Rattle.std.proofs.Common.{◌≡◌, ◌≢◌, ◌<◌, ◌^◌, Bool, true, false, Option, Some, None, refl, arith, unwrap_or}
use Rattle.std.specs.Prelude.{MatchBool, MatchOption}
use Rattle.std.specs.List.{AllByRecursion}
use Rattle.cx_base.specs.declared.conditions.Condition.TheVariants.{Normal, Error, Invreq, Lengerr, Pgmiderr, Itemerr, Nospace, Qiderr, Enqbusy, Nostg}
use Rattle.cx_base.specs.declared.options.OptionName.{OptionName}
use Rattle.cx_storage.specs.Storage.{Storage, span}
use Rattle.cx_region_state.specs.Call.{Call}
use Rattle.cx_region_state.specs.Inputs.{are_inputs_there, piece_of}
use Rattle.cx_region_state.specs.Facts.Inputs.{IsMeasuredInput, measured_there, piece_below, piece_few}
use Rattle.cx_region_state.specs.declared.inputs.StorageSpan.{StorageSpan}
use Rattle.cx_region_state.specs.Parts.Fits.{IsThere}
use Rattle.cx_region_commands.specs.Common.{piece_at}

-- ---- the parts of a row

pub by_test : {A B C : Type 0} (b : Bool) → MatchBool b A B → (b ≡ true → A → C) → (b ≡ false → B → C) → C
by_test true m f g = f refl m
by_test false m f g = g refl m

pub by_option : {X A C : Type 0} {B : X → Type 0} (o : Option X) → MatchOption o A B → (A → C) → ((x : X) → o ≡ Some x → B x → C) → C
by_option None m f g = f m
by_option (Some x) m f g = g x refl m

pub normal_fits : Normal ≢ Error
normal_fits = λ e. cc

pub lengerr_fits : Lengerr ≢ Error
lengerr_fits = λ e. cc

pub invreq_fits : Invreq ≢ Error
invreq_fits = λ e. cc

pub pgmiderr_fits : Pgmiderr ≢ Error
pgmiderr_fits = λ e. cc

pub itemerr_fits : Itemerr ≢ Error
itemerr_fits = λ e. cc

pub nospace_fits : Nospace ≢ Error
nospace_fits = λ e. cc

pub qiderr_fits : Qiderr ≢ Error
qiderr_fits = λ e. cc

pub enqbusy_fits : Enqbusy ≢ Error
enqbusy_fits = λ e. cc

pub nostg_fits : Nostg ≢ Error
nostg_fits = λ e. cc

-- a piece that LENGTH measures is there
pub piece_there : (s : Storage) (call : Call) (name : OptionName) (piece : StorageSpan) → AllByRecursion (λ place. place < 2 ^ 24) call.places
    → are_inputs_there s call ≡ true → IsMeasuredInput call.command name → piece_of s call name ≡ Some piece → IsThere s piece
piece_there s call name piece low there row at =
    record {
      below = piece_below s call name piece low at;
      few = piece_few s call name piece at;
      bytes = measured_there s call name piece there row at;
    }

-- and so is that at an argument that is always there, which has no byte where it isn't
pub piece_at_there : (s : Storage) (call : Call) (name : OptionName) → AllByRecursion (λ place. place < 2 ^ 24) call.places
    → are_inputs_there s call ≡ true → IsMeasuredInput call.command name → IsThere s (piece_at s call name)
unfolding piece_at span
piece_at_there s call name low there row = go (piece_of s call name) refl
  where
    go : (o : Option StorageSpan) → piece_of s call name ≡ o → IsThere s (unwrap_or o (record { place = 0; len = 0 }))
    go None at = record { below = omega arith; few = omega arith; bytes = refl }
    go (Some piece) at = piece_there s call name piece low there row at
