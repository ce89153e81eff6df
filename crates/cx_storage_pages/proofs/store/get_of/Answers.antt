use Rattle.std.proofs.Common.{◌≡◌, ◌/◌, ◌<◌, ◌∙◌, Some, refl, arith}
use Rattle.cx_storage.specs.Facts.Places.{place_decides}
use Rattle.cx_storage.specs.Storage.{with_area}
use Rattle.cx_storage_pages.proofs.ChangeLemmas.{same_shows, made_shows}
use Rattle.cx_storage_pages.proofs.ScanLemmas.{placed_even, placed_fits, placed_some, on_err}
use Rattle.cx_storage_pages.proofs.store.get_of.Goals as goal

pub returns-in_default-clause-after : goal.returns-in_default-clause-after
unfolding with_area
returns-in_default-clause-after c = refl

pub returns-in_err-make_in-clause-no_place : goal.returns-in_err-make_in-clause-no_place
returns-in_err-make_in-clause-no_place c = λ none. absurd (placed_some _ _ _ _ _ c.in-Some.ensures none)

pub returns-in_err-make_in-clause-err : goal.returns-in_err-make_in-clause-err
returns-in_err-make_in-clause-err c = on_err c.from_residual.result _ (same_shows c.args.areas.now.items c.args.pages.now.items c.make_in.new.pages.items c.requires.shown (λ x. c.make_in.ensures.same x ∙ c.sum_in.ensures.bytes x)).is

pub returns-in_err-make_in-clause-shown : goal.returns-in_err-make_in-clause-shown
returns-in_err-make_in-clause-shown c = (same_shows c.args.areas.now.items c.args.pages.now.items c.make_in.new.pages.items c.requires.shown (λ x. c.make_in.ensures.same x ∙ c.sum_in.ensures.bytes x)).shown

pub returns-in_err-insert-clause-no_place : goal.returns-in_err-insert-clause-no_place
returns-in_err-insert-clause-no_place c = λ none. absurd (placed_some _ _ _ _ _ c.in-Some.ensures none)

pub returns-in_err-insert-clause-err : goal.returns-in_err-insert-clause-err
returns-in_err-insert-clause-err c =
    on_err c.from_residual-in_err-insert.result _ (rw c.in_err-insert.ensures.items (same_shows c.args.areas.now.items c.args.pages.now.items c.make_in.new.pages.items c.requires.shown (λ x. c.make_in.ensures.same x ∙ c.sum_in.ensures.bytes x)).is)

pub returns-in_err-insert-clause-shown : goal.returns-in_err-insert-clause-shown
returns-in_err-insert-clause-shown c = rw c.in_err-insert.ensures.items (same_shows c.args.areas.now.items c.args.pages.now.items c.make_in.new.pages.items c.requires.shown (λ x. c.make_in.ensures.same x ∙ c.sum_in.ensures.bytes x)).shown

pub zero_in-requires-clause-granule : goal.zero_in-requires-clause-granule
zero_in-requires-clause-granule c = placed_even _ _ _ _ _ c.in-Some.ensures

pub zero_in-requires-clause-low : goal.zero_in-requires-clause-low
zero_in-requires-clause-low c = let fits = placed_fits _ _ _ _ _ c.in-Some.ensures in omega (arith, fits, c.requires.last)

pub returns-clause-after : goal.returns-clause-after
returns-clause-after c =
    (made_shows c.args.areas.now.items c.insert.new.self.items c.args.pages.now.items c.make_in.new.pages.items c.zero_in.new.pages.items c.spot_of-i.result c.args.first c.args.last c.args.len c.in-Some.start c.args.owner
    c.requires.shown c.requires.last c.requires.len c.in-Some.ensures c.spot_of-i.ensures.value c.in_ok-insert.ensures.items (λ x. c.make_in.ensures.same x ∙ c.sum_in.ensures.bytes x) c.zero_in.ensures.filled).is

pub returns-clause-no_place : goal.returns-clause-no_place
returns-clause-no_place c = λ none. absurd (placed_some _ _ _ _ _ c.in-Some.ensures none)

pub returns-clause-shown : goal.returns-clause-shown
returns-clause-shown c =
    (made_shows c.args.areas.now.items c.insert.new.self.items c.args.pages.now.items c.make_in.new.pages.items c.zero_in.new.pages.items c.spot_of-i.result c.args.first c.args.last c.args.len c.in-Some.start c.args.owner
    c.requires.shown c.requires.last c.requires.len c.in-Some.ensures c.spot_of-i.ensures.value c.in_ok-insert.ensures.items (λ x. c.make_in.ensures.same x ∙ c.sum_in.ensures.bytes x) c.zero_in.ensures.filled).shown

pub returns-in_err-make_in-clause-pages : goal.returns-in_err-make_in-clause-pages
returns-in_err-make_in-clause-pages c = λ a i least low.
    let same : Some a ≡ Some c.in-Some.start = place_decides _ _ _ _ _ _ least c.in-Some.ensures in
    let one : a ≡ c.in-Some.start = cc in
    let early : i < c.in-Some.start / 4096 = omega (arith, one, low) in
    c.make_in.ensures.before i early ∙ c.sum_in.ensures.pages i

pub returns-in_err-insert-clause-pages : goal.returns-in_err-insert-clause-pages
returns-in_err-insert-clause-pages c = λ a i least low.
    let same : Some a ≡ Some c.in-Some.start = place_decides _ _ _ _ _ _ least c.in-Some.ensures in
    let one : a ≡ c.in-Some.start = cc in
    let early : i < c.in-Some.start / 4096 = omega (arith, one, low) in
    c.make_in.ensures.before i early ∙ c.sum_in.ensures.pages i

pub returns-clause-pages : goal.returns-clause-pages
returns-clause-pages c = λ a i least low.
    let same : Some a ≡ Some c.in-Some.start = place_decides _ _ _ _ _ _ least c.in-Some.ensures in
    let one : a ≡ c.in-Some.start = cc in
    let early : i < c.in-Some.start / 4096 = omega (arith, one, low) in
    c.zero_in.ensures.pages i ∙ (c.make_in.ensures.before i early ∙ c.sum_in.ensures.pages i)
