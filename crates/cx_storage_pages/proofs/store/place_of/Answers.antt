use Rattle.std.proofs.Common.{◌≡◌, ◌+◌, ◌*◌, ◌<◌, ◌/◌, arith, ◌-◌, ◌⊎◌, inl, inr, ◌≤◌}
use Rattle.std.proofs.lemmas.Bool.{cases_lt}
use Rattle.cx_storage_pages.specs.Parts.Shown.{stored}
use Rattle.cx_storage_pages.proofs.ScanLemmas.{scan_start, scan_free, scan_taken, scan_found, scan_none, scan_skip}
use Rattle.cx_storage_pages.proofs.store.place_of.Goals as goal

pub loop-from-init : goal.loop-from-init
loop-from-init c = (omega arith, scan_start (stored c.args.areas.now c.args.pages.now) c.args.first c.args.last c.args.len)

pub returns-then-need-g : goal.returns-then-need-g
returns-then-need-g c =
    let scan = c.loop-from.invariant.1 in
    scan_found c.args.areas.now.items c.args.pages.now.items c.args.first c.args.last c.args.len c.loop-from.from c.loop-from.g c.requires.shown c.place_is_free.ensures c.requires.len scan
    (omega (arith, scan.order)) (omega arith)

pub loop-from-preserved-then-free-g : goal.loop-from-preserved-then-free-g
loop-from-preserved-then-free-g c =
    let scan = c.loop-from.invariant.1 in
    let more : c.loop-from.g < c.loop-from.from + (c.args.len + 15) / 16 = omega (arith, scan.order) in (
      omega (arith, more, c.used_in-g.ensures.near),
      scan_taken c.args.areas.now.items c.args.pages.now.items c.args.first c.args.last c.args.len c.loop-from.from c.loop-from.g c.used_in-g.result c.requires.shown c.place_is_free.ensures c.requires.len scan more c.used_in-g.ensures.order c.used_in-g.ensures.taken,
    )

pub loop-from-preserved : goal.loop-from-preserved
loop-from-preserved c =
    let scan = c.loop-from.invariant.1 in
    let free = c.free_in-free in (
      c.loop-from.invariant.0,
      scan_free c.args.areas.now.items c.args.pages.now.items c.args.first c.args.last c.args.len c.loop-from.from c.loop-from.g free.result c.requires.shown scan free.ensures.order (omega (arith, free.ensures.within)) free.ensures.free,
    )

pub returns : goal.returns
returns c =
    scan_none (stored c.args.areas.now c.args.pages.now) c.args.first c.args.last c.args.len c.loop-from.from c.loop-from.g c.loop-from.invariant.1 (omega arith)

pub loop-from-preserved-in-Some : goal.loop-from-preserved-in-Some
loop-from-preserved-in-Some c =
    let scan = c.loop-from.invariant.1 in
    let skips = c.in-Some.ensures in
    let from = c.loop-from.from in
    let end = c.loop-from.g / 256 * 256 + 256 in
    let more : from ≤ c.max-from.result = omega (arith, c.max-from.ensures) in
    let high : end ≤ c.max-from.result + c.in-Some.tail = omega (arith, c.max-from.ensures, skips.within) in
    let which : (c.max-from.result ≡ from) ⊎ (c.max-from.result + c.in-Some.tail ≡ end) = elim (cases_lt from (end - c.in-Some.tail)) [
      | inl lt ↦ inr (omega (arith, c.max-from.ensures, skips.within, lt))
      | inr ge ↦ inl (omega (arith, c.max-from.ensures, skips.within, ge))
    ] in (
      elim which [ inl e ↦ omega (arith, e, c.loop-from.invariant.0) | inr e ↦ omega (arith, e, scan.short, c.requires.last) ],
      scan_skip c.args.areas.now.items c.args.pages.now.items c.args.first c.args.last c.args.len from c.loop-from.g c.in-Some.tail c.max-from.result c.requires.shown c.place_is_free.ensures c.requires.len scan
          (omega arith) skips more high which,
    )
