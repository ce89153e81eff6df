-- What is there with a part after it, where the part is kept.
use Rattle.std.specs.Prelude.{◌≡◌, Bool, true, false}
use Rattle.cx_asm.specs.Laws.SectionLines.{IsWithin}
use Rattle.cx_asm.specs.Resolving.{Standing, join_sections}

abbrev pub kept : Bool → Standing → Standing → Standing
kept true old part = join_sections old part
kept false old part = old

-- where it is kept it fits in the largest text
abbrev pub FitsSection : Bool → Standing → Standing → Type 0
FitsSection keeps old part = keeps ≡ true → IsWithin 0 (join_sections old part) 65536
