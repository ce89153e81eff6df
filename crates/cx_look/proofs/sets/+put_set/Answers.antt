use Rattle.std.proofs.Common.{◌≡◌, ℕ, ◌+◌, ◌-◌, ◌<◌, List, [], ap, arith, drop, get_or, length, refl, subst, sym, ◌∙◌}
use Rattle.cx_look.specs.Sets.{alternative_texts, set_texts}
use Rattle.cx_look.proofs.SetLemmas.{at_alternative, only_alternative, put_as, set_none}
use Rattle.cx_look.proofs.sets.+put_set.Goals as goal

before : (xs rest : List ℕ) (t : ℕ) → length rest < length xs → length xs ≡ t → length rest < t
before xs rest t less is = subst (λ n. length rest < n) is less

pub put_alternative-requires-clause-count : goal.put_alternative-requires-clause-count
put_alternative-requires-clause-count t c =
    (only_alternative c.args.inside.now c.args.number c.count_of_alternative.result (sym c.place_of.ensures ∙ c.in_default.is) c.requires.few
    c.requires.number c.count_of_alternative.ensures).0

pub put_alternative-requires-clause-number : goal.put_alternative-requires-clause-number
put_alternative-requires-clause-number t c =
    (only_alternative c.args.inside.now c.args.number c.count_of_alternative.result (sym c.place_of.ensures ∙ c.in_default.is) c.requires.few
    c.requires.number c.count_of_alternative.ensures).1

pub returns-in_default : goal.returns-in_default
returns-in_default t c =
    put_as c.args.line.now.items (get_or (alternative_texts c.args.inside.now) c.args.number [])
    (get_or (set_texts c.args.inside.now) c.args.number []) c.put_alternative.new.line.items c.put_alternative.result
    (ap (λ texts. get_or texts c.args.number []) (set_none c.args.inside.now (sym c.place_of.ensures ∙ c.in_default.is)))
    c.put_alternative.ensures

pub put_alternative-requires-then-number-count-clause-count :
    goal.put_alternative-requires-then-number-count-clause-count
put_alternative-requires-then-number-count-clause-count t c =
    (at_alternative c.args.inside.now c.split_at.result.0.now (drop (c.in-Some.place + 1) c.args.inside.now) c.in-Some.place c.args.number
    c.count_of_alternative-count.result (sym c.place_of.ensures ∙ c.in-Some.is) c.split_at.ensures.front refl c.requires.few
    c.count_of_alternative-count.ensures).count_is

pub put_set-requires : goal.put_set-requires
put_set-requires t c =
    let at = at_alternative c.args.inside.now c.split_at.result.0.now c.split_at-else-number-count.result.1.now c.in-Some.place c.args.number
    c.count_of_alternative-count.result (sym c.place_of.ensures ∙ c.in-Some.is) c.split_at.ensures.front
    c.split_at-else-number-count.ensures.back c.requires.few c.count_of_alternative-count.ensures in
    let long = at.long in
    let shorter : length c.split_at-else-number-count.result.1.now < t = before c.args.inside.now _ t at.shorter c.decreases in
    (shorter, (omega (arith, long, c.requires.few), omega (arith, long, c.requires.number, c.if-number-count.false)))

pub returns-then-number-count : goal.returns-then-number-count
returns-then-number-count t c =
    put_as c.args.line.now.items (get_or (alternative_texts c.split_at.result.0.now) c.args.number [])
    (get_or (set_texts c.args.inside.now) c.args.number []) c.put_alternative-then-number-count.new.line.items
    c.put_alternative-then-number-count.result
    ((at_alternative c.args.inside.now c.split_at.result.0.now (drop (c.in-Some.place + 1) c.args.inside.now) c.in-Some.place c.args.number
    c.count_of_alternative-count.result (sym c.place_of.ensures ∙ c.in-Some.is) c.split_at.ensures.front refl c.requires.few
    c.count_of_alternative-count.ensures).here c.if-number-count.true)
    c.put_alternative-then-number-count.ensures

pub returns-else-number-count : goal.returns-else-number-count
returns-else-number-count t c =
    put_as c.args.line.now.items
    (get_or (set_texts c.split_at-else-number-count.result.1.now) (c.args.number - c.count_of_alternative-count.result) [])
    (get_or (set_texts c.args.inside.now) c.args.number []) c.put_set.new.line.items c.put_set.result
    ((at_alternative c.args.inside.now c.split_at.result.0.now c.split_at-else-number-count.result.1.now c.in-Some.place c.args.number
    c.count_of_alternative-count.result (sym c.place_of.ensures ∙ c.in-Some.is) c.split_at.ensures.front
    c.split_at-else-number-count.ensures.back c.requires.few c.count_of_alternative-count.ensures).behind c.if-number-count.false)
    c.put_set.ensures
