use Rattle.std.proofs.Common.{◌≡◌, ◌∙◌, ap, sym, Some, arith}
use Rattle.smv_types.specs.SymbolNumbering.{number_from}
use Rattle.smv_types.proofs.NumberingLaws.{number_told, number_after}
use Rattle.smv_types.proofs.numbers.TextNumbers.symbol.Goals as goal

pub returns-in-Some : goal.returns-in-Some
returns-in-Some c =
    let texts = c.args.self.now.texts.now in
    let found : number_from 0 texts c.args.text.now ≡ Some c.in-Some.place.now =
    ap (number_from 0 texts) (sym c.text.ensures) ∙ sym (c.args.self.now.numbered c.text.result) ∙ sym c.in-Some.ensures.value in
    omega (arith, number_told 0 texts c.args.text.now c.in-Some.place.now found)

pub returns-in-None : goal.returns-in-None
returns-in-None c =
    let texts = c.args.self.now.texts.now in
    number_after 0 texts c.args.text.now (ap (number_from 0 texts) (sym c.text.ensures) ∙ sym (c.args.self.now.numbered c.text.result) ∙ sym c.in-None.ensures.value)
