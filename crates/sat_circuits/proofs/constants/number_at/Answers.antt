use Rattle.std.proofs.Common.{List, length, sym, ◌∙◌, ap, subst, arith, w64}
use Rattle.std.proofs.lemmas.Int.{to_z-of_z}
use Rattle.sat_clauses.specs.Literal.{Literal}
use Rattle.sat_circuits.specs.Numbers.{number_word}
use Rattle.sat_circuits.specs.Words.{IsWordOf, fit}
use Rattle.sat_circuits.proofs.WordMeans.{AllBelow-fit, length-fit}
use Rattle.sat_circuits.proofs.constants.number_at.Goals as goal

pub returns-clause-exact : goal.returns-clause-exact
returns-clause-exact c =
    c.in_ok-word.ensures ∙ ap (fit c.args.width) c.in_ok-shortest.ensures.exact ∙ ap (λ z. fit c.args.width (number_word z)) (to_z-of_z w64 c.args.n c.ranges.n)

pub returns-clause-word : goal.returns-clause-word
returns-clause-word c =
    subst (λ (w : List Literal). IsWordOf c.args.g.now w) (sym c.in_ok-word.ensures)
    (record {
      signed = omega (arith, length-fit c.args.width c.in_ok-shortest.shortest, c.requires);
      below =
          AllBelow-fit c.args.width c.args.g.now.free c.in_ok-shortest.shortest (omega (arith, c.constant.ensures.below, ap (λ (l : Literal). l.var) c.constant.ensures.literal))
          c.in_ok-shortest.ensures.word.below;
    })

pub returns-clause-long : goal.returns-clause-long
returns-clause-long c = ap length c.in_ok-word.ensures ∙ length-fit c.args.width c.in_ok-shortest.shortest
