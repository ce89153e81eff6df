-- An action performed, by what the region answered.
use Rattle.std.proofs.Common.{◌≡◌, ℕ, ◌++◌, List, Option, Some, codes, subst, sym}
use Rattle.cx_code.specs.declared.image.Image.{Image}
use Rattle.cx_load.specs.Fault.{IsFit, fault_name, image_fault}
use Rattle.cx_load.specs.declared.fault.ImageFault.{ImageFault}
use Rattle.cx_region.specs.declared.replies.Event.TheVariants as event
use Rattle.cx_edf.specs.declared.answers.Answer.{Answer}
use Rattle.cx_edf.specs.declared.answers.EdfEvent.{EdfEvent}
use Rattle.cx_edf.specs.declared.answers.EdfEvent.TheVariants as edf_event
use Rattle.cx_edf.specs.State.{EdfState}
use Rattle.cx_edf.specs.Steps.{EdfApplies, DisplayMaker}
use Rattle.cx_script_actions.specs.Texts.{answer_text, page_lines, refused_text}
use Rattle.cx_script_actions.specs.Effects.{ByFault, Performs, Replies, main_page_back, screen_text, shown_page}
use Rattle.cx_script_actions.specs.declared.actions.Action.TheVariants as action

pub event_replied : (make : DisplayMaker) (old new : EdfState) (event : EdfEvent) (given : Answer) (text : List ℕ) → EdfApplies make old event given new → text ≡ answer_text event given → Replies make old event text new
unfolding Replies
event_replied make old new event given text h t = (given, h, t)

pub image_refused : (make : DisplayMaker) (old new : EdfState) (name : List ℕ) (image : Image) (fault : ImageFault) (text : List ℕ)
    → image_fault image ≡ Some fault → text ≡ refused_text (codes "PROGRAM") name (fault_name fault) → new ≡ old → Performs make old (action.Image name image) text new
unfolding Performs
image_refused make old new name image fault text is t n =
    subst (λ (due : Option ImageFault). ByFault make due old name image text new) (sym is) (t, n)

pub image_defined : (make : DisplayMaker) (old new : EdfState) (name : List ℕ) (image : Image) (text : List ℕ)
    → IsFit image → Replies make old (edf_event.Plain (event.Program name image)) text new → Performs make old (action.Image name image) text new
unfolding Performs
image_defined make old new name image text fit d = subst (λ (due : Option ImageFault). ByFault make due old name image text new) (sym fit.none) d

pub event_done : (make : DisplayMaker) (old new : EdfState) (event : EdfEvent) (text : List ℕ) → Replies make old event text new → Performs make old (action.Event event) text new
unfolding Performs
event_done make old new event text h = h

pub screen_shown : (make : DisplayMaker) (old new : EdfState) (name : List ℕ) (text : List ℕ) → new ≡ old
    → text ≡ screen_text old.region name → Performs make old (action.Screen name) text new
unfolding Performs
screen_shown make old new name text n t = (t, n)

pub display_shown : (make : DisplayMaker) (old new : EdfState) (name : List ℕ) (text : List ℕ) → new ≡ old
    → text ≡ page_lines (codes "DISPLAY") name (shown_page old name) → Performs make old (action.Display name) text new
unfolding Performs
display_shown make old new name text n t = (t, n)

pub previous_shown : (make : DisplayMaker) (old new : EdfState) (name : List ℕ) (k : ℕ) (text : List ℕ) → new ≡ old
    → text ≡ page_lines (codes "DISPLAY") name (main_page_back old name k) → Performs make old (action.Previous name k) text new
unfolding Performs
previous_shown make old new name k text n t = (t, n)

pub source_defined : (make : DisplayMaker) (old new : EdfState) (name before : List ℕ) (image : Image) (own text : List ℕ)
    → Performs make old (action.Image name image) own new → text ≡ before ++ own → Performs make old (action.Source name before image) text new
unfolding Performs
source_defined make old new name before image own text checks written = (own, checks, written)
