use Rattle.std.proofs.Common.{◌≡◌, map, take}
use Rattle.cx_asm_pass2.specs.Whole.{whole_by}
use Rattle.cx_asm.specs.Listing.{item_listing}
use Rattle.cx_asm.proofs.listing.listing_of.Given as goal

abbrev pub invariant-loop-line : goal.invariant-loop-line
invariant-loop-line l = l.lines.items ≡ map (item_listing (whole_by l.places) l.text) (take l.line-index l.placed)
