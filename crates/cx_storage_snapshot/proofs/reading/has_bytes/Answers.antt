use Rattle.std.proofs.Common.{◌≡◌, ◌++◌, ◌+◌, ◌-◌, ◌∙◌, length, ap, arith, take}
use Rattle.std.specs.Prelude.{slice_range}
use Rattle.std.proofs.lemmas.Bool.{false≢true}
use Rattle.std.proofs.lemmas.Bool.Decides.{Decides-eqb}
use Rattle.std.proofs.lemmas.Slice.Eq.{slice_eq-Decides}
use Rattle.cx_storage_snapshot.proofs.CopyLemmas.{no_span, span_part, span_piece, take_piece}
use Rattle.cx_storage_snapshot.proofs.reading.has_bytes.Goals as goal

pub loop-at-init : goal.loop-at-init
loop-at-init g c =
    let area = c.args.area in
    let none : area.start - area.start ≡ 0 = omega arith in
    (omega arith, omega arith, rw none (no_span (g.S.Store.storage c.args.store.now) area.start 0 (omega arith)))

pub loop-at-preserved : goal.loop-at-preserved
loop-at-preserved g c =
    let s = g.S.Store.storage c.args.store.now in
    let area = c.args.area in
    let bytes = c.args.bytes.now in
    let part = c.part_at-part.result.now in
    let at = c.loop-at.at in
    let here = c.area_is_present.ensures s area.start area c.store_is_sound.ensures c.requires.there in
    let below = here.below in
    let so = c.loop-at.invariant in
    let same : part ≡ slice_range bytes (at - area.start) (at - area.start + length part) = (slice_eq-Decides Decides-eqb _ _ _ c.eq-is_same.ensures).0 c.if-not-is_same.false in
    let whole : take (at - area.start) bytes ++ part ≡ take (at - area.start + length part) bytes =
    ap (λ p. take (at - area.start) bytes ++ p) same ∙ take_piece bytes (at - area.start) (length part) in
    let all : at + length part - area.start ≡ at - area.start + length part = omega (arith, so.0) in
    let joined = span_piece s area.start at (take (at - area.start) bytes) part so.0 (omega (arith, below)) so.2 c.part_at-part.ensures.bytes in
    (omega (arith, so.0), c.part_at-part.ensures.within, rw (all, ← whole) (rw all at joined))

pub returns-then-not-is_same : goal.returns-then-not-is_same
returns-then-not-is_same g c =
    let s = g.S.Store.storage c.args.store.now in
    let area = c.args.area in
    let bytes = c.args.bytes.now in
    let part = c.part_at-part.result.now in
    let at = c.loop-at.at in
    let here = c.area_is_present.ensures s area.start area c.store_is_sound.ensures c.requires.there in
    let below = here.below in (
      (λ no. absurd (false≢true no)),
      λ whole.
          let same = span_part s area.start at area.len bytes part c.loop-at.invariant.0 (omega (arith, below)) c.part_at-part.ensures.within whole c.part_at-part.ensures.bytes in
          let yes = (slice_eq-Decides Decides-eqb _ _ _ c.eq-is_same.ensures).1 same in
          let not = c.if-not-is_same.true in
          cc,
    )
