-- What a front of a script asks stays, however the script goes on.
use Rattle.std.specs.Prelude.{◌≡◌, ◌⊎◌, ℕ, List, ◌++◌, length, take, Some}
use Rattle.cx_script_actions.specs.Language.{Language}
use Rattle.cx_script.specs.Script.{Script, script_in}
use Rattle.cx_script_blocks.specs.declared.faults.RunFault.TheVariants.{Read}
use Rattle.cx_script_io.specs.declared.input.Ending.{Ending}
use Rattle.cx_script_io.specs.declared.input.Ending.TheVariants.{Failed}

-- The actions of the front are the first of the whole; and if the front has a fault that was met in it, the whole asks
-- nothing else.
pub record IsFrontOf {A : Type 0} (front whole : Script A) : Type 0 where
  pub actions : take (length front.actions) whole.actions ≡ front.actions
  pub fault : (front.fault ≡ Some Read) ⊎ (whole ≡ front)

-- the script of bytes after which no more could be read is a front of each that goes on after them
abbrev pub FrontsAreScripts : {A H : Type 0} → Language A H → Type 0
FrontsAreScripts language = (ending : Ending) (seen rest : List ℕ)
    → IsFrontOf (script_in language Failed seen) (script_in language ending (seen ++ rest))
