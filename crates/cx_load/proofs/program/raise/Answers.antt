use Rattle.std.proofs.Common.{◌≡◌, ◌+◌, ◌-◌, ◌%◌, ◌^◌, ◌∙◌, arith}
use Rattle.byteorder.specs.Endian.{big_bytes, big_from}
use Rattle.cx_load.specs.Relocation.{relocate_word}
use Rattle.cx_load.proofs.RelocateLemmas.{put_word, word_of_part}
use Rattle.cx_load.proofs.program.raise.Goals as goal

pub returns : goal.returns
unfolding relocate_word
returns c =
    let bytes = c.args.bytes.now in
    let r = c.args.r in
    let four : r + 4 - r ≡ 4 = omega arith in
    let read : c.read_u32.result ≡ big_from r 4 bytes = c.read_u32.ensures ∙ word_of_part bytes r (r + 4 - r) four in
    put_word bytes (big_bytes 4 ((big_from r 4 bytes + c.args.at) % 2 ^ 32)) c.write_u32.new.buf r (r + 4 - r) four (rw read at c.write_u32.ensures)
