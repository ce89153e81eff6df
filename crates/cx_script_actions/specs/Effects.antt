-- What an action does to the region, and what is written for it (own).
use Rattle.std.specs.Prelude.{◌≡◌, ℕ, ◌++◌, List, [], map, codes, Option, Some, None}
use Rattle.std.specs.Option.{option_and_then, option_map}
use Rattle.cx_base.specs.Texts.{shown_text}
use Rattle.cx_code.specs.declared.image.Image.{Image}
use Rattle.cx_load.specs.Fault.{fault_name, image_fault}
use Rattle.cx_load.specs.declared.fault.ImageFault.{ImageFault}
use Rattle.cx_region.specs.Defining.{fresh_region}
use Rattle.cx_region.specs.State.{RegionState}
use Rattle.cx_region.specs.Tables.{terminal_of}
use Rattle.cx_region.specs.declared.replies.Event.TheVariants as event
use Rattle.cx_edf.specs.declared.displays.Display.{Display}
use Rattle.cx_edf.specs.declared.answers.Answer.{Answer}
use Rattle.cx_edf.specs.declared.answers.EdfEvent.{EdfEvent}
use Rattle.cx_edf.specs.declared.answers.EdfEvent.TheVariants as edf_event
use Rattle.cx_edf.specs.declared.modes.PageName.{PageName}
use Rattle.cx_edf.specs.declared.modes.PageName.TheVariants as page
use Rattle.cx_edf.specs.Sessions.{nth_back, shown_of}
use Rattle.cx_edf.specs.State.{EdfState, session_at}
use Rattle.cx_edf.specs.Steps.{DisplayMaker, EdfApplies}
use Rattle.cx_script_actions.specs.Texts.{answer_text, page_lines, refused_text}
use Rattle.cx_script_actions.specs.declared.actions.Action.{Action}
use Rattle.cx_script_actions.specs.declared.actions.Action.TheVariants as action

-- a region as a script begins it, with EDF Off at each terminal
abbrev pub fresh_state : EdfState
fresh_state = record { region = fresh_region; sessions = [] }

-- an event, where displays are made so: some answer, and its text
unfoldable pub Replies : DisplayMaker → EdfState → EdfEvent → List ℕ → EdfState → Type 0
Replies make old event text new =
    (given : Answer) × EdfApplies make old event given new × (text ≡ answer_text event given)

-- an image without a fault is defined as a program; for any other its lowest fault is reported
abbrev pub ByFault : DisplayMaker → Option ImageFault → EdfState → List ℕ → Image → List ℕ → EdfState → Type 0
ByFault make None old name image text new = Replies make old (edf_event.Plain (event.Program name image)) text new
ByFault make (Some fault) old name _ text new =
    (text ≡ refused_text (codes "PROGRAM") name (fault_name fault)) × (new ≡ old)

-- what SCREEN writes: the screen of a terminal, as it is shown
abbrev pub screen_text : RegionState → List ℕ → List ℕ
screen_text region name =
    let shown = option_map (map shown_text) (option_map (λ t. t.entry.screen) (terminal_of region name)) in
    page_lines (codes "SCREEN") name shown

-- the page of a display that has this name
abbrev pub page_of : Display → PageName → List (List ℕ)
page_of display page.Main = display.main
page_of display page.Storage = display.storage
page_of display page.User = display.user

-- the page that EDF shows at a terminal, in Stopped
abbrev pub shown_page : EdfState → List ℕ → Option (List (List ℕ))
shown_page state name = option_map (λ s. page_of s.0 s.1.page) (option_and_then shown_of (session_at state name))

-- the main page of the display a given number before the newest one of a terminal's session
abbrev pub main_page_back : EdfState → List ℕ → ℕ → Option (List (List ℕ))
main_page_back state name k =
    option_map (λ display. display.main) (option_and_then (λ s. nth_back s.displays k) (session_at state name))

-- One action, where displays are made so: the region under EDF before, the action, what is written for it, and the
-- region after. What is written of a source comes before what its image gives.
unfoldable pub Performs : DisplayMaker → EdfState → Action → List ℕ → EdfState → Type 0
Performs make old (action.Image name image) text new = ByFault make (image_fault image) old name image text new
Performs make old (action.Source name before image) text new =
    (own : List ℕ) × ByFault make (image_fault image) old name image own new × (text ≡ before ++ own)
Performs make old (action.Event event) text new = Replies make old event text new
Performs make old (action.Screen name) text new = (text ≡ screen_text old.region name) × (new ≡ old)
Performs make old (action.Display name) text new =
    (text ≡ page_lines (codes "DISPLAY") name (shown_page old name)) × (new ≡ old)
Performs make old (action.Previous name k) text new =
    (text ≡ page_lines (codes "DISPLAY") name (main_page_back old name k)) × (new ≡ old)
