-- Which words clap takes.
use Rattle.std.proofs.Common.{ap, ap₂, refl, codes, true, false, List, ℕ, Option, Some, None, is_some, [], ◌∷◌, ◌≡◌, ◌∙◌, ◌==◌, ◌&&◌, inl, inr, Bool}
use Rattle.std.specs.List.{list_all}
use Rattle.std.proofs.lemmas.Bool.{cases_Bool, eqb-true}
use Rattle.clap.specs.Simple.{built, names_of, entered}
use Rattle.clap.specs.Takes.{walk_passes, entered_passes, settle_passes, default_passes, is_valid}
use Rattle.clap.specs.Walk.{Walk, idle, walk_from, walk, nothing_held, finished}
use Rattle.clap.specs.Words.{App, Rule, Text, is_simple, new_app, new_rule, takes, with_rule}
use Rattle.clap.specs.declared.builder.ArgAction.TheVariants.{Set}
use Rattle.clap.specs.declared.error.kind.ErrorKind.{ErrorKind}
use Rattle.clap.specs.declared.error.kind.ErrorKind.TheVariants.{OutOfMemory}
use Rattle.clap.proofs.OnLiterals.{clap_on_literals}
use Rattle.cx_script_main.specs.Words.{is_option_word, file_of}

abbrev pub file_rule : Rule
file_rule = record (new_rule (codes "FILE")) { action = Some Set }

abbrev pub script : App
script = with_rule (new_app (codes "script")) file_rule

takes_none : takes script [] ≡ true
unfolding clap_on_literals
takes_none = refl

takes_own : (own : Text) → takes script (own ∷ []) ≡ true
unfolding clap_on_literals
takes_own own = refl

takes_empty : (own : Text) → takes script (own ∷ [] ∷ []) ≡ true
unfolding clap_on_literals
takes_empty own = refl

takes_hyphen : (own : Text) → takes script (own ∷ (0x2D ∷ []) ∷ []) ≡ true
unfolding clap_on_literals
takes_hyphen own = refl

-- the walk over one word that is no option
end_of : Text → Walk
end_of word = record { held = record { rows = []; pending = Some (codes "FILE", word ∷ []); skip = 0 }; waiting = idle; position = 2; is_trailing = false; stopped = None }

walk_one : (c : ℕ) (more : Text) → (c == 45) ≡ false
    → walk (built script).top.rules (names_of (built script)) nothing_held ((c ∷ more) ∷ []) ≡ end_of (c ∷ more)
unfolding clap_on_literals end_of
walk_one c more e = rw (e, e) refl

passes_one : (c : ℕ) (more : Text) → (c == 45) ≡ false
    → walk_passes (built script).top (names_of (built script)) (walk_from nothing_held) ((c ∷ more) ∷ []) ≡ true
unfolding clap_on_literals
passes_one c more e = rw (e, e) refl

takes_by : Walk → Bool → Bool
takes_by w passed =
    is_simple script && (entered_passes (built script) w.stopped
    && (passed && (settle_passes (built script).top.rules (built script).top.args_override_self w.held
    && (list_all default_passes (built script).top.rules
    && is_valid (built script).top (finished (built script).top.rules w.held) (is_some (entered (built script) w.stopped))))))

by_end : (word : Text) → takes_by (end_of word) true ≡ true
unfolding clap_on_literals end_of takes_by
by_end word = refl

takes_other : (own : Text) (c : ℕ) (more : Text) → (c == 45) ≡ false → takes script (own ∷ (c ∷ more) ∷ []) ≡ true
unfolding takes_by
takes_other own c more e = ap₂ takes_by (walk_one c more e) (passes_one c more e) ∙ by_end (c ∷ more)

takes_second : (own word : Text) → is_option_word word ≡ false → takes script (own ∷ word ∷ []) ≡ true
takes_second own [] free = takes_empty own
takes_second own (c ∷ []) free = elim (cases_Bool (c == 45)) [
  | inl e ↦ let same : c ≡ 45 = eqb-true c 45 e in rw same (takes_hyphen own)
  | inr e ↦ takes_other own c [] e
]
takes_second own (c ∷ d ∷ more) free = takes_other own c (d ∷ more) free

-- words that clap does not take name no file, and not none
pub takes_named : (words : List Text) → is_some (file_of words) ≡ true → takes script words ≡ true
takes_named [] named = takes_none
takes_named (own ∷ []) named = takes_own own
takes_named (own ∷ file ∷ []) named = elim (cases_Bool (is_option_word file)) [
  | inl e ↦ let never : false ≡ true = rw e at named in absurd (cc)
  | inr e ↦ takes_second own file e
]
takes_named (own ∷ file ∷ more ∷ rest) named = absurd (cc)

pub refused_words : (app : App) (words : List Text) (kind : ErrorKind) → app ≡ script → (takes app words ≡ true → kind ≡ OutOfMemory) → (kind ≡ OutOfMemory → ⊥)
    → file_of words ≡ None
refused_words app words kind is passes other = go (file_of words) refl
  where
    go : (due : Option (Option Text)) → file_of words ≡ due → due ≡ None
    go None e = refl
    go (Some file) e = absurd (other (passes (rw is (takes_named words (ap is_some e)))))
