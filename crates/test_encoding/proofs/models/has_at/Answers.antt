use Rattle.std.proofs.Common.{arith, IsTrue}
use Rattle.test_encoding.proofs.Laws.{value_at}
use Rattle.test_encoding.proofs.models.has_at.Goals as goal

pub returns-then-has : goal.returns-then-has
returns-then-has c = λ e.
    let is : IsTrue c.has.result = grind arith in
    value_at c.args.t.now.model c.requires.encodable c.args.i c.domain.result.now c.args.value c.domain.ensures.values (c.has.ensures.0 is) (c.is_known_symbol.ensures.0 e)
