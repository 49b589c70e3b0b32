use Rattle.std.proofs.Common.{◌≡◌, take}
use Rattle.smv_language.specs.Trace.{Each}
use Rattle.fault_extend.specs.NumberedFaults.{AreSymbols, KnowsSymbol}
use Rattle.fault_extend.proofs.list.SymbolNumbers.of_names.Given as goal

abbrev pub invariant-loop-place : goal.invariant-loop-place
invariant-loop-place l = record {
  own : l.symbols.names.now ≡ l.names;
  symbols : AreSymbols l.symbols;
  known : Each (KnowsSymbol l.symbols) (take l.place l.names);
}
