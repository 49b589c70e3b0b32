use Rattle.std.proofs.Common.{◌<◌, ap, arith}
use Rattle.sat_clauses.specs.Literal.{Literal}
use Rattle.sat_expressions.proofs.SignalLaws.{fitted_word}
use Rattle.sat_expressions.proofs.signal.Signal.fitted.Goals as goal

pub returns-in_ok-word-in-Word : goal.returns-in_ok-word-in-Word
returns-in_ok-word-in-Word c =
    let least : 1 < c.args.g.now.free = omega (arith, c.constant.ensures.below, ap (λ (l : Literal). l.var) c.constant.ensures.literal) in
    fitted_word c.args.g.now c.args.width c.args.self c.in-Word.w c.in_ok-word-in-Word.word c.in-Word.is c.in_ok-word-in-Word.ensures c.requires.some least c.requires.usable
