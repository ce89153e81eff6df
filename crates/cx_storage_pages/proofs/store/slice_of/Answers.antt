use Rattle.cx_storage_pages.proofs.SpanLemmas.{part_span, together_all, some_three}
use Rattle.cx_storage_pages.proofs.store.slice_of.Goals as goal

pub returns-clause-bytes : goal.returns-clause-bytes
returns-clause-bytes c =
    some_three c.part_in.result _ _ _ _ (λ part each len fits. part_span c.args.areas.now.items c.args.pages.now.items c.args.a c.args.n part.now c.requires.shown c.requires.address fits len each)
    c.part_in.ensures.there c.part_in.ensures.len c.part_in.ensures.together

pub returns-clause-together : goal.returns-clause-together
returns-clause-together c = λ together.
    let all = together_all c.args.areas.now.items c.args.pages.now.items c.args.a c.args.n c.requires.shown c.requires.address together in
    c.part_in.ensures.gap all.0 all.1 all.2
