use Rattle.std.proofs.Common.{ap, arith}
use Rattle.sat_clauses.specs.Literal.{Literal}
use Rattle.sat_expressions.specs.BuiltSignals.{signals_of}
use Rattle.sat_encoding.specs.Copies.{source_model}
use Rattle.sat_encoding.proofs.CopyLaws.{variables_usable, copy_is}
use Rattle.sat_encoding.proofs.lists.copied.Goals as goal

pub definitions-requires-clause-usable : goal.definitions-requires-clause-usable
definitions-requires-clause-usable c =
    variables_usable (source_model c.args.source.now) c.requires.encodable c.args.g.now c.args.places.state c.args.places.input c.constant.ensures.truth (omega (arith, c.constant.ensures.below, ap (λ (l : Literal). l.var) c.constant.ensures.literal))
    c.requires.placed (signals_of c.in_ok-variables.variables) c.in_ok-variables.ensures

pub returns-clause-copy : goal.returns-clause-copy
returns-clause-copy c =
    copy_is (source_model c.args.source.now) c.args.all _ (signals_of c.in_ok-variables.variables) c.args.g.now c.definitions.new.g c.moment.new.g c.in_ok-copy.copy c.in_ok-variables.ensures c.in_ok-copy.ensures c.in_ok-moment.ensures
