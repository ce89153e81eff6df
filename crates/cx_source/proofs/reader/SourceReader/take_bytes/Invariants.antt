use Rattle.std.proofs.Common.{◌≡◌, fold, take}
use Rattle.cx_source.specs.Reader.{take_byte}
use Rattle.cx_source.proofs.reader.SourceReader.take_bytes.Given as goal

abbrev pub invariant-loop-byte : goal.invariant-loop-byte
invariant-loop-byte l = l.self ≡ fold take_byte l.fn.self (take l.byte-index l.piece)
