use Rattle.std.proofs.Common.{◌≡◌, ◌≤◌, ◌++◌, ◌∷◌, [], ◌+◌, ◌∙◌, ap, arith, length, false, rules, List, ℕ}
use Rattle.std.proofs.lemmas.List.{drop_all}
use Rattle.std.specs.Prelude.{codes}
use Rattle.cx_source.specs.Mended.{texts_read}
use Rattle.cx_source.proofs.all_faults.texts_read.Goals as goal

pub returns-clause-texts : goal.returns-clause-texts
returns-clause-texts c =
    let past : length c.args.lines.now ≤ c.loop-index.index = omega arith in
    let so_far : c.loop-index.texts.items ++ texts_read c.loop-index.continues (c.loop-index.index + 1) [] ≡ texts_read false 1 c.args.lines.now =
    rw (drop_all c.loop-index.index c.args.lines.now past) at c.loop-index.invariant.texts in
    let put : c.push_back-2.new.self.items ≡ c.loop-index.texts.items ++ c.in_ok-from_slice-3.field-0 ∷ [] = search rules in
    let text : c.in_ok-from_slice-3.field-0 ≡ codes "         END" = search rules in
    put ∙ ap (λ (t : List ℕ). c.loop-index.texts.items ++ t ∷ []) text ∙ so_far
