use Rattle.std.proofs.Common.{◌≡◌, ◌∙◌, ◌++◌, ◌∷◌}
use Rattle.std.proofs.lemmas.Bool.Decides.{Decides-eqb}
use Rattle.std.proofs.lemmas.Slice.Eq.{strip_prefix_is}
use Rattle.cx_base.proofs.JoinedLemmas.{begun, blank_after, no_blank_after, not_begun}
use Rattle.cx_base.proofs.commands.is_joined.Goals as goal

pub returns-in_default : goal.returns-in_default
returns-in_default c =
    let parts = strip_prefix_is Decides-eqb c.args.text.now c.args.first.now c.strip_prefix.result c.strip_prefix.ensures.cases in
    not_begun c.args.text.now c.args.first.now c.args.second.now (rw c.in_default.is at parts)

pub returns-then-blank-eq32 : goal.returns-then-blank-eq32
returns-then-blank-eq32 c =
    let parts = strip_prefix_is Decides-eqb c.args.text.now c.args.first.now c.strip_prefix.result c.strip_prefix.ensures.cases in
    let text : c.args.text.now ≡ c.args.first.now ++ c.in-Some.rest.now = rw c.in-Some.is at parts in
    let after : c.in-Some.rest.now ≡ c.in-Some-split_first.blank.now ∷ c.in-Some-split_first.last.now = c.in-Some-split_first.ensures.cases.0 in
    c.eq.ensures ∙ blank_after c.in-Some.rest.now c.in-Some-split_first.last.now c.args.second.now c.in-Some-split_first.blank.now after c.if-blank-eq32.true
    ∙ begun c.args.text.now c.args.first.now c.args.second.now c.in-Some.rest.now text

pub returns-else-blank-eq32 : goal.returns-else-blank-eq32
returns-else-blank-eq32 c =
    let parts = strip_prefix_is Decides-eqb c.args.text.now c.args.first.now c.strip_prefix.result c.strip_prefix.ensures.cases in
    let text : c.args.text.now ≡ c.args.first.now ++ c.in-Some.rest.now = rw c.in-Some.is at parts in
    let after : c.in-Some.rest.now ≡ c.in-Some-split_first.blank.now ∷ c.in-Some-split_first.last.now = c.in-Some-split_first.ensures.cases.0 in
    no_blank_after c.in-Some.rest.now c.in-Some-split_first.last.now c.args.second.now c.in-Some-split_first.blank.now after c.if-blank-eq32.false
    ∙ begun c.args.text.now c.args.first.now c.args.second.now c.in-Some.rest.now text
