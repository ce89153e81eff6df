use Rattle.cx_storage_pages.proofs.SpanLemmas.{part_span, some_three}
use Rattle.cx_storage_pages.proofs.store.slice_fast_of.Goals as goal

pub returns : goal.returns
returns c =
    record {
      bytes =
          some_three c.part_fast_in.result _ _ _ _ (λ part each len fits. part_span c.args.areas.now.items c.args.pages.now.items c.args.a c.args.n part.now c.requires.shown c.requires.address fits len each)
          c.part_fast_in.ensures.there c.part_fast_in.ensures.len c.part_fast_in.ensures.together;
    }
