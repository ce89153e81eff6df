-- The names of a source, as they are kept (own).
use Rattle.cx_look_symbols.specs.Symbols.{SourceSymbols}
use Rattle.cx_look_symbols.specs.declared.symbols.Names.{Names}

abbrev pub symbols_named : Names → SourceSymbols
symbols_named names = record { control = names.control; rows = names.symbols.entries }
