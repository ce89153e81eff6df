use Rattle.std.proofs.Common.{◌≡◌, ◌∙◌, ap, arith, length}
use Rattle.std.specs.Prelude.{codes}
use Rattle.std.specs.Option.{option_map_or}
use Rattle.cx_base.specs.Digits.{digits}
use Rattle.cx_base.specs.Eistg.{eistg_field}
use Rattle.cx_base.specs.declared.eistg.EistgField.TheVariants.{Eicap}
use Rattle.cx_storage.specs.Address.{address_after}
use Rattle.cx_storage.specs.Word.{word_at}
use Rattle.cx_region_state.specs.State.{SharedState}
use Rattle.cx_look_symbols.specs.Places.{address_word, place_at_address}
use Rattle.cx_look_fields.specs.Levels.{level_line}
use Rattle.cx_look_fields.proofs.levels.level_line.Goals as goal

pub returns : goal.returns
unfolding level_line
returns g c =
    let programs = ap (λ (s : SharedState). s.programs) c.shared.view_is in
    let storage = ap (λ (s : SharedState). s.storage) c.shared.view_is in
    let program = c.deref.ensures.value ∙ c.in_ok-program.ensures in
    let place =
    c.deref-2.ensures.value ∙ c.in_ok-place.ensures
    ∙ ap (λ place. address_word place)
    (c.place_at_address-goes_on.ensures ∙ ap (λ p. place_at_address p c.address_in.result) programs
    ∙ ap (λ next. place_at_address c.args.shared.now.programs next) c.address_in.ensures.value) in
    let cap = c.deref-3.ensures.value ∙ c.in_ok-cap.ensures ∙ ap (λ s. option_map_or (digits 16 8) (word_at s (address_after c.args.level.now.stg (eistg_field Eicap).offset)) (codes "--")) storage in
    let calen : c.hexadecimal-calen.result ≡ digits 16 4 c.args.level.now.calen = c.hexadecimal-calen.ensures ∙ ap (λ n. digits 16 4 n) c.from.ensures in
    let pushed : c.decimal-pushed.result ≡ digits 10 2 (length c.args.level.now.handles.kept) =
    c.decimal-pushed.ensures ∙ ap (λ n. digits 10 2 n) (omega (arith, c.pushed.ensures.value, c.pushed.ensures.bound)) in
    rw (← program, ← place, ← cap, ← c.decimal-number.ensures, ← c.hexadecimal-stg.ensures, ← c.hexadecimal-len.ensures, ← calen, ← pushed) c.line.ensures
