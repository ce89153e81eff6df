use Rattle.std.proofs.Common.{◌≡◌, ℕ, ◌+◌, ◌/◌, ◌%◌, ◌≤◌, ◌<◌, List, [], ap, drop, get_or, length, refl, subst, sym, ◌∙◌}
use Rattle.cx_look.specs.Parts.{texts_behind}
use Rattle.cx_look.specs.Sets.{piece_texts}
use Rattle.cx_look.proofs.SetLemmas.{at_piece, behind_none, first_full, first_put, put_after, put_as}
use Rattle.cx_look.proofs.sets.+put_behind.Goals as goal

before : (xs rest : List ℕ) (t : ℕ) → length rest < length xs → length xs ≡ t → length rest < t
before xs rest t less is = subst (λ n. length rest < n) is less

pub put_piece-requires-clause-few : goal.put_piece-requires-clause-few
put_piece-requires-clause-few t c =
    subst (λ n. n ≤ 10000) (c.requires.count ∙ ap length (behind_none c.args.text.now (sym c.place_of.ensures ∙ c.in_default.is))) c.requires.few

pub put_piece-requires-clause-number : goal.put_piece-requires-clause-number
put_piece-requires-clause-number t c =
    subst (λ n. c.args.number < n) (c.requires.count ∙ ap length (behind_none c.args.text.now (sym c.place_of.ensures ∙ c.in_default.is)))
    c.requires.number

pub returns-in_default : goal.returns-in_default
returns-in_default t c =
    put_as c.args.line.now.items (get_or (piece_texts c.args.text.now) c.args.number [])
    (get_or (texts_behind c.args.text.now) c.args.number []) c.put_piece.new.line.items c.put_piece.result
    (ap (λ texts. get_or texts c.args.number []) (behind_none c.args.text.now (sym c.place_of.ensures ∙ c.in_default.is)))
    c.put_piece.ensures

pub nonzero_div-count : goal.nonzero_div-count
nonzero_div-count t c =
    subst (λ n. 0 < n) (sym c.count_of_piece.ensures)
    (at_piece c.args.text.now c.split_at.result.0.now (drop (c.in-Some.place + 1) c.args.text.now) c.in-Some.place c.args.number c.args.count
    c.count_of_piece.result (sym c.place_of.ensures ∙ c.in-Some.is) c.split_at.ensures.front refl c.requires.count c.requires.few
    c.requires.number c.count_of_piece.ensures).some

pub nonzero_div-number : goal.nonzero_div-number
nonzero_div-number t c =
    (at_piece c.args.text.now c.split_at.result.0.now (drop (c.in-Some.place + 1) c.args.text.now) c.in-Some.place c.args.number c.args.count
    c.count_of_piece.result (sym c.place_of.ensures ∙ c.in-Some.is) c.split_at.ensures.front refl c.requires.count c.requires.few
    c.requires.number c.count_of_piece.ensures).positive

pub put_piece-requires-2-clause-few : goal.put_piece-requires-2-clause-few
put_piece-requires-2-clause-few t c =
    (at_piece c.args.text.now c.split_at.result.0.now (drop (c.in-Some.place + 1) c.args.text.now) c.in-Some.place c.args.number c.args.count
    c.count_of_piece.result (sym c.place_of.ensures ∙ c.in-Some.is) c.split_at.ensures.front refl c.requires.count c.requires.few
    c.requires.number c.count_of_piece.ensures).piece_few

pub put_piece-requires-2-clause-number : goal.put_piece-requires-2-clause-number
put_piece-requires-2-clause-number t c =
    (at_piece c.args.text.now c.split_at.result.0.now (drop (c.in-Some.place + 1) c.args.text.now) c.in-Some.place c.args.number c.args.count
    c.count_of_piece.result (sym c.place_of.ensures ∙ c.in-Some.is) c.split_at.ensures.front refl c.requires.count c.requires.few
    c.requires.number c.count_of_piece.ensures).piece_number

pub returns-then-not-put_piece : goal.returns-then-not-put_piece
returns-then-not-put_piece t c =
    let m = c.args.count / c.count_of_piece.result in
    first_full c.args.line.now.items (get_or (piece_texts c.split_at.result.0.now) (c.args.number / m) [])
    (get_or (texts_behind (drop (c.in-Some.place + 1) c.args.text.now)) (c.args.number % m) [])
    (get_or (texts_behind c.args.text.now) c.args.number []) c.put_piece-2.new.line.items c.put_piece-2.result c.if-not-put_piece.true
    (at_piece c.args.text.now c.split_at.result.0.now (drop (c.in-Some.place + 1) c.args.text.now) c.in-Some.place c.args.number c.args.count
    c.count_of_piece.result (sym c.place_of.ensures ∙ c.in-Some.is) c.split_at.ensures.front refl c.requires.count c.requires.few
    c.requires.number c.count_of_piece.ensures).text_is
    c.put_piece-2.ensures

pub nonzero_rem-number : goal.nonzero_rem-number
nonzero_rem-number t c =
    (at_piece c.args.text.now c.split_at.result.0.now (drop (c.in-Some.place + 1) c.args.text.now) c.in-Some.place c.args.number c.args.count
    c.count_of_piece.result (sym c.place_of.ensures ∙ c.in-Some.is) c.split_at.ensures.front refl c.requires.count c.requires.few
    c.requires.number c.count_of_piece.ensures).positive

pub put_behind-requires : goal.put_behind-requires
put_behind-requires t c =
    let at = at_piece c.args.text.now c.split_at.result.0.now c.split_at-2.result.1.now c.in-Some.place c.args.number c.args.count
    c.count_of_piece.result (sym c.place_of.ensures ∙ c.in-Some.is) c.split_at.ensures.front c.split_at-2.ensures.back c.requires.count
    c.requires.few c.requires.number c.count_of_piece.ensures in
    let shorter : length c.split_at-2.result.1.now < t = before c.args.text.now _ t at.shorter c.decreases in
    (shorter, (at.rest_is, (at.rest_few, at.left)))

pub returns : goal.returns
returns t c =
    let m = c.args.count / c.count_of_piece.result in
    put_after c.args.line.now.items (get_or (piece_texts c.split_at.result.0.now) (c.args.number / m) [])
    (get_or (texts_behind c.split_at-2.result.1.now) (c.args.number % m) []) (get_or (texts_behind c.args.text.now) c.args.number [])
    c.put_piece-2.new.line.items c.put_behind.new.line.items c.put_behind.result
    (at_piece c.args.text.now c.split_at.result.0.now c.split_at-2.result.1.now c.in-Some.place c.args.number c.args.count
    c.count_of_piece.result (sym c.place_of.ensures ∙ c.in-Some.is) c.split_at.ensures.front c.split_at-2.ensures.back c.requires.count
    c.requires.few c.requires.number c.count_of_piece.ensures).text_is
    (first_put c.args.line.now.items (get_or (piece_texts c.split_at.result.0.now) (c.args.number / m) []) c.put_piece-2.new.line.items
    c.put_piece-2.result c.if-not-put_piece.false c.put_piece-2.ensures)
    c.put_behind.ensures
