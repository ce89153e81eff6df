use Rattle.std.proofs.Common.{◌+◌, ◌≤◌, ◌<◌, [], drop, get_or, refl, subst, sym, ◌∙◌}
use Rattle.cx_look.specs.Sets.{piece_texts, set_texts}
use Rattle.cx_look.proofs.SetLemmas.{first_full, first_put, piece_at, piece_empty, put_after}
use Rattle.cx_look.proofs.sets.put_piece.Goals as goal

pub returns-in_default : goal.returns-in_default
returns-in_default c = absurd (piece_empty c.args.piece.now c.args.number (sym c.place_of.ensures ∙ c.in_default.is) c.requires.number)

pub put_set-requires-clause-few : goal.put_set-requires-clause-few
put_set-requires-clause-few c =
    subst (λ n. n ≤ 10000) (piece_at c.args.piece.now c.split_at.result.0.now (drop (c.in-Some.place + 1) c.args.piece.now) c.in-Some.place
    c.args.number (sym c.place_of.ensures ∙ c.in-Some.is) c.split_at.ensures.front refl c.requires.number).0 c.requires.few

pub put_set-requires-clause-number : goal.put_set-requires-clause-number
put_set-requires-clause-number c =
    subst (λ n. c.args.number < n) (piece_at c.args.piece.now c.split_at.result.0.now (drop (c.in-Some.place + 1) c.args.piece.now)
    c.in-Some.place c.args.number (sym c.place_of.ensures ∙ c.in-Some.is) c.split_at.ensures.front refl c.requires.number).0 c.requires.number

pub returns-then-not-put_set : goal.returns-then-not-put_set
returns-then-not-put_set c =
    first_full c.args.line.now.items (get_or (set_texts c.split_at.result.0.now) c.args.number [])
    (drop (c.in-Some.place + 1) c.args.piece.now) (get_or (piece_texts c.args.piece.now) c.args.number []) c.put_set.new.line.items
    c.put_set.result c.if-not-put_set.true
    (piece_at c.args.piece.now c.split_at.result.0.now (drop (c.in-Some.place + 1) c.args.piece.now) c.in-Some.place c.args.number
    (sym c.place_of.ensures ∙ c.in-Some.is) c.split_at.ensures.front refl c.requires.number).1
    c.put_set.ensures

pub returns : goal.returns
returns c =
    put_after c.args.line.now.items (get_or (set_texts c.split_at.result.0.now) c.args.number []) c.split_at-2.result.1.now
    (get_or (piece_texts c.args.piece.now) c.args.number []) c.put_set.new.line.items c.put.new.line.items c.put.result
    (piece_at c.args.piece.now c.split_at.result.0.now c.split_at-2.result.1.now c.in-Some.place c.args.number
    (sym c.place_of.ensures ∙ c.in-Some.is) c.split_at.ensures.front c.split_at-2.ensures.back c.requires.number).1
    (first_put c.args.line.now.items (get_or (set_texts c.split_at.result.0.now) c.args.number []) c.put_set.new.line.items c.put_set.result
    c.if-not-put_set.false c.put_set.ensures)
    c.put.ensures
