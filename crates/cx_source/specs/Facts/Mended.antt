-- A source whose lines have no fault is read as it is.
use Rattle.std.proofs.Common.{◌≡◌, ◌+◌, ℕ, Bool, true, false, cond, Option, Some, None, List, [], ◌∷◌, ◌++◌, map, slice_get, refl, sym, ◌∙◌, ap}
use Rattle.std.specs.Prelude.{◌&&◌, not}
use Rattle.std.specs.Option.{option_to_list}
use Rattle.cx_source.specs.Faults.{source_fault, goes_on, line_faults, source_from}
use Rattle.cx_source.specs.Lines.{text_of}
use Rattle.cx_source.specs.Mended.{is_cut_off, source_read, text_kept, texts_read}
use Rattle.cx_source.specs.Statements.{is_continued, is_last, up_to_end}
use Rattle.cx_source.specs.declared.source.SourceFault.{SourceFault}

no_more : (continues : Bool) → (continues && not (goes_on continues None)) ≡ false
no_more true = refl
no_more false = refl

-- one line
never : (fault : Option SourceFault) (rest : List SourceFault) → option_to_list fault ++ rest ≡ [] → fault ≡ None
never None rest e = refl
never (Some fault) rest e = cc

sound_line : (continues : Bool) (number : ℕ) (line : List ℕ) (more : List (List ℕ)) → line_faults continues number (line ∷ more) ≡ [] → source_fault continues number line ≡ None
sound_line continues number line more e = never (source_fault continues number line) _ e

goes_together : (continues : Bool) (number : ℕ) (all : List (List ℕ)) → line_faults continues number all ≡ [] → is_cut_off continues number (slice_get all 0) ≡ false
goes_together continues number [] e = refl
goes_together continues number (line ∷ more) e =
    ap (λ fault. continues && not (goes_on continues fault)) (sound_line continues number line more e) ∙ no_more continues

-- the line's text, and those after it
at_line : (continues last : Bool) (number : ℕ) (text : List ℕ) (more : List (List ℕ))
    → cond last [] (line_faults (is_continued continues text) (number + 1) more) ≡ []
    → (line_faults (is_continued continues text) (number + 1) more ≡ [] → texts_read (is_continued continues text) (number + 1) more ≡ up_to_end (is_continued continues text) (map text_of more))
    → cond last (text ∷ []) (text_kept (is_cut_off (is_continued continues text) (number + 1) (slice_get more 0)) text ∷ texts_read (is_continued continues text) (number + 1) more)
    ≡ text ∷ cond last [] (up_to_end (is_continued continues text) (map text_of more))
at_line continues true number text more e h = refl
at_line continues false number text more e h =
    ap (λ cut_off. text_kept cut_off text ∷ texts_read (is_continued continues text) (number + 1) more) (goes_together (is_continued continues text) (number + 1) more e)
    ∙ ap (λ texts. text ∷ texts) (h e)

pub texts_whole : (continues : Bool) (number : ℕ) (all : List (List ℕ)) → line_faults continues number all ≡ [] → texts_read continues number all ≡ up_to_end continues (map text_of all)
texts_whole continues number [] e = cc
texts_whole continues number (line ∷ more) e =
    let text = text_of line in
    let sound : source_fault continues number line ≡ None = sound_line continues number line more e in
    let rest : cond (is_last continues text) [] (line_faults (is_continued continues text) (number + 1) more) ≡ [] =
    ap (λ fault. option_to_list fault ++ cond (is_last (goes_on continues fault) text) [] (line_faults (is_continued (goes_on continues fault) text) (number + 1) more)) (sym sound) ∙ e in
    ap (λ fault. cond (is_last (goes_on continues fault) text) (text ∷ [])
    (text_kept (is_cut_off (is_continued (goes_on continues fault) text) (number + 1) (slice_get more 0)) text ∷ texts_read (is_continued (goes_on continues fault) text) (number + 1) more)) sound
    ∙ at_line continues (is_last continues text) number text more rest (texts_whole (is_continued continues text) (number + 1) more)

pub source_whole : (all : List (List ℕ)) → line_faults false 1 all ≡ [] → source_read all ≡ source_from (up_to_end false (map text_of all))
unfolding source_read
source_whole all e = ap source_from (texts_whole false 1 all e)
