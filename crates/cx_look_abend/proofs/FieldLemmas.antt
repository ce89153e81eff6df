-- The fields of a DFHEISTG that is kept are those of its storage.
use Rattle.std.proofs.Common.{◌≡◌, ◌≤◌, ◌+◌, ℕ, Option, Some, None, List, length, refl, ap, arith}
use Rattle.std.specs.Prelude.{min}
use Rattle.std.specs.Option.{option_map}
use Rattle.cx_storage.specs.Address.{address_in}
use Rattle.cx_storage.specs.Facts.Spans.{span_length}
use Rattle.cx_storage.specs.Storage.{span}
use Rattle.cx_look_fields.specs.FieldTexts.{field_line, typed}
use Rattle.cx_look_fields.specs.KeptFields.{kept_field, kept_line}
use Rattle.cx_look_fields.specs.Laws.{KeptFieldsAreOfStorage}
use Rattle.cx_look_abend.specs.Dumps.{Dump, dump_in}
use Rattle.cx_look_abend.specs.Laws.{FieldsAreOfDumps}

pub fields_are_of_dumps : KeptFieldsAreOfStorage → FieldsAreOfDumps
unfolding dump_in
fields_are_of_dumps law s level dump term name readings value offset is within = by_span (span s at count) refl is
  where
    at : ℕ
    at = address_in level.stg

    count : ℕ
    count = min level.stg_len 65520

    by_span : (o : Option (List ℕ)) → span s at count ≡ o
        → Some dump ≡ option_map (λ bytes. record { program = level.program; at = at; bytes = bytes }) o
        → kept_line term readings dump.at dump.bytes name value offset ≡ field_line s term name (typed readings name (kept_field dump.at offset value))
    by_span None e d = cc
    by_span (Some bytes) e d =
        let same : dump ≡ record { program = level.program; at = at; bytes = bytes } = cc in
        let long : length bytes ≡ count = span_length s at count bytes e in
        let inside : offset + min 32 value.length ≤ count = omega (arith, ap (λ (x : Dump). length x.bytes) same, long, within) in
        rw same (law s at count bytes term readings name value offset (omega arith) e inside)
