-- CHOICES: what is written (own).
use Rattle.std.specs.Prelude.{◌≡◌, ℕ, if◌then◌else◌, List, Option, Some, None}
use Rattle.cx_edf.specs.State.{EdfState}
use Rattle.cx_region.specs.State.{RegionState}
use Rattle.cx_look.specs.declared.choices.ChoicesBlock.{ChoicesBlock}
use Rattle.cx_look.specs.declared.look.Look.{Look}
use Rattle.cx_look_choices.specs.Report.{ChoicesText}
use Rattle.cx_look_script.specs.Orders.{AreSeen, names_with_edf, sights_of}
use Rattle.cx_look_lines.specs.Words.{Lines, marked}

-- with ONE NUMBER each key is pressed with the number of the last task as it is at the block
abbrev pub number_of : ChoicesBlock → RegionState → Option ℕ
number_of block region = if block.asked.one_number then Some region.counter else None

-- What is written for a block of CHOICES, where `Says` is what looks at a region have to say.
pub record IsChoicesText (Says : RegionState → Look → Lines → Type 0) (block : ChoicesBlock) (state : EdfState)
    (text : List ℕ) : Type 0 where
  pub lines : Lines
  pub are : let sights = sights_of block.sights state.region in
      ChoicesText (λ region. AreSeen (Says region) region sights) block.choices (number_of block state.region)
      state.region (names_with_edf state) block.asked.keys block.asked.most lines
  pub is : text ≡ marked lines
