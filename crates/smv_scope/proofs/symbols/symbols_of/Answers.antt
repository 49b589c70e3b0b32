-- The symbols of one module more.
use Rattle.std.proofs.Common.{rules, ◌≡◌, ◌<◌, length, get_or, ap, ◌∙◌, sym}
use Rattle.smv_flat_laws.specs.Model.{first_appearances}
use Rattle.smv_scope.specs.Symbols.{symbols_in}
use Rattle.smv_language.specs.BorrowedTexts.{texts}
use Rattle.smv_scope.proofs.SymbolLaws.{appear_more}
use Rattle.smv_scope.proofs.symbols.symbols_of.Goals as goal

pub loop-names-preserved : goal.loop-names-preserved
loop-names-preserved c =
    let within : c.loop-names.names-index < length c.args.modules.now.list.items = search rules in
    let item : get_or c.args.modules.now.list.items c.loop-names.names-index c.names-item.result ≡ c.names-item.result = search rules in
    let step : texts c.add_of_items.new.symbols.keys ≡ first_appearances (texts c.loop-names.symbols.keys) (symbols_in c.names-item.result) = search rules in
    sym (appear_more symbols_in (texts c.loop-names.symbols.keys) (texts c.add_of_items.new.symbols.keys) c.args.modules.now.list.items c.loop-names.names-index c.names-item.result within
    (step ∙ ap (λ n. first_appearances (texts c.loop-names.symbols.keys) (symbols_in n)) (sym item)))
    ∙ c.loop-names.invariant
