-- The symbols of one item more.
use Rattle.std.proofs.Common.{rules, ◌≡◌, ◌<◌, length, get_or, ap, ◌∙◌, sym}
use Rattle.smv_flat_laws.specs.Model.{first_appearances}
use Rattle.smv_scope.specs.Symbols.{symbols_of_numbered}
use Rattle.smv_language.specs.BorrowedTexts.{texts}
use Rattle.smv_scope.proofs.SymbolLaws.{appear_more}
use Rattle.smv_scope.proofs.symbols.add_of_items.Goals as goal

pub loop-numbered-preserved : goal.loop-numbered-preserved
loop-numbered-preserved c =
    let within : c.loop-numbered.numbered-index < length c.args.items.now = search rules in
    let item : get_or c.args.items.now c.loop-numbered.numbered-index c.numbered-item.result ≡ c.numbered-item.result = search rules in
    let step : texts c.add_of_item.new.symbols.keys ≡ first_appearances (texts c.loop-numbered.symbols.keys) (symbols_of_numbered c.numbered-item.result) = search rules in
    sym (appear_more symbols_of_numbered (texts c.loop-numbered.symbols.keys) (texts c.add_of_item.new.symbols.keys) c.args.items.now c.loop-numbered.numbered-index c.numbered-item.result within
    (step ∙ ap (λ n. first_appearances (texts c.loop-numbered.symbols.keys) (symbols_of_numbered n)) (sym item)))
    ∙ c.loop-numbered.invariant
