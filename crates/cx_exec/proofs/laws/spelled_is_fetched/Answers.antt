use Rattle.std.proofs.Common.{◌≡◌, [], length, slice_index, Some, sym, ◌∙◌, ap, append-nil}
use Rattle.cx_code.specs.Table.{length_of_code}
use Rattle.cx_code.specs.Reading.{reading}
use Rattle.cx_exec.proofs.FetchLemmas.{code_there, reads_as, length_some}
use Rattle.cx_exec.proofs.laws.spelled_is_fetched.Goals as goal

pub returns : goal.returns
returns c s a i bytes even spells there =
    let reads = c.spelled_reads.ensures i bytes spells in
    let whole : reading bytes ≡ Some i = ap reading (sym (append-nil bytes)) ∙ c.read_before_rest.ensures bytes [] i reads in
    let first = (c.read_by_first_byte.ensures.only bytes i whole).0 in
    let size = c.length_read.ensures bytes i reads in
    let long : length_of_code (slice_index bytes 0) ≡ length bytes = ap length_of_code first ∙ c.first_bits.ensures i.op ∙ sym size in
    (code_there s a bytes even (length_some bytes i.op size) long there, reads_as bytes i whole)
