use Rattle.std.proofs.Common.{sym, subst, ap, arith}
use Rattle.sat_clauses.specs.Literal.{Literal}
use Rattle.smv_language.specs.ModelTree.{leaf_of}
use Rattle.sat_encoding_laws.specs.Meanings.{IsSignal, IsReady}
use Rattle.sat_encoding_laws.proofs.NameMeans.{leaf_usable}
use Rattle.sat_expressions.specs.BuiltSignals.{signals_of}
use Rattle.sat_expressions.specs.ModelNames.{model_of}
use Rattle.sat_expressions.proofs.part.named_part.Goals as goal

pub returns-clause-usable : goal.returns-clause-usable
returns-clause-usable c =
    let ready : IsReady c.args.g.now = record { truth = c.constant.ensures.truth; least = omega (arith, c.constant.ensures.below, ap (λ (l : Literal). l.var) c.constant.ensures.literal) } in
    subst (IsSignal c.args.g.now) (sym c.in_ok-signal.ensures.value)
    (leaf_usable (model_of c.args.names.now) c.args.g.now ready (signals_of c.args.names.now.current.now.variables) (signals_of c.args.names.now.current.now.definitions)
    c.requires.now.variables c.requires.now.definitions (leaf_of c.args.name))
