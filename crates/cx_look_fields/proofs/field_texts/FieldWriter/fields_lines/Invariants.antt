use Rattle.std.proofs.Common.{◌≡◌, ◌++◌}
use Rattle.std.specs.List.{flat_map}
use Rattle.cx_look_fields.specs.FieldTexts.{symbol_field_line}
use Rattle.cx_look_fields.proofs.field_texts.FieldWriter.fields_lines.Given as goal

abbrev pub invariant-loop-name : goal.invariant-loop-name
invariant-loop-name g l =
    let line = symbol_field_line l.self.wanted.now (g.S.Store.storage l.self.store.now) l.self.term l.fields in
    l.report ++ flat_map line l.name-iterator ≡ l.initial.report ++ flat_map line l.fields.named.rows
