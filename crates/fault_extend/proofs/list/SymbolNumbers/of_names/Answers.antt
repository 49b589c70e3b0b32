use Rattle.std.proofs.Common.{◌≡◌, ◌+◌, ◌<◌, ◌++◌, ◌∷◌, [], ◌∙◌, sym, ap, subst, take, length}
use Rattle.std.proofs.lemmas.List.{take_more}
use Rattle.smv_language.specs.Trace.{Each}
use Rattle.fault_extend.specs.NumberedFaults.{KnowsSymbol}
use Rattle.fault_extend.proofs.NumberLaws.{each_kept, each_last}
use Rattle.fault_extend.proofs.list.SymbolNumbers.of_names.Goals as goal

pub loop-place-preserved : goal.loop-place-preserved
loop-place-preserved c =
    let names = c.args.names.now in
    let place = c.loop-place.place in
    let below : place < length names = c.loop-place-test.true in
    let more : take (place + 1) names ≡ take place names ++ c.index-names-place.result ∷ [] =
    take_more names place c.index-names-place.result below ∙ ap (λ x. take place names ++ x ∷ []) (sym c.index-names-place.is) in
    let before : Each (KnowsSymbol c.add.new.self) (take place names) = each_kept (KnowsSymbol c.loop-place.symbols) (KnowsSymbol c.add.new.self) (take place names) c.in_ok-add.ensures.kept c.loop-place.invariant.known in
    record {
      own = ap (λ b. b.now) c.in_ok-add.ensures.own ∙ c.loop-place.invariant.own;
      symbols = c.in_ok-add.ensures.symbols;
      known = subst (Each (KnowsSymbol c.add.new.self)) (sym more) (each_last (KnowsSymbol c.add.new.self) (take place names) c.index-names-place.result before c.in_ok-add.ensures.added);
    }
