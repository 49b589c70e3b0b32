use Rattle.std.proofs.Common.{◌∙◌, ap, sym, subst}
use Rattle.std.specs.Prelude.{All}
use Rattle.std.specs.List.{list_any}
use Rattle.smv_language.specs.ModelTree.{model_tree}
use Rattle.smv_flat_laws.specs.FaultModes.{mode_of}
use Rattle.smv_evaluation.specs.SymbolTests.{has_symbol, HasVariable}
use Rattle.smv_evaluation.proofs.FailedLaws.{failed_law}
use Rattle.smv_evaluation.proofs.FilledLaws.{all_have, variable_of}
use Rattle.smv_evaluation.proofs.failed.has_failed.Goals as goal

pub stands_in_some-requires : goal.stands_in_some-requires
stands_in_some-requires c =
    subst (All (HasVariable c.args.fault.now.variable)) (sym c.as_slice.ensures)
    (all_have (model_tree c.args.t.now.model) c.args.fault.now.variable (variable_of c.args.t.now.model c.args.fault.now.variable c.requires.variable) c.args.trace.now c.requires.lawful)

pub returns : goal.returns
returns c =
    c.stands_in_some.ensures ∙ ap (list_any (has_symbol c.args.fault.now.variable c.args.fault.now.symbol)) c.as_slice.ensures
    ∙ failed_law (model_tree c.args.t.now.model) c.requires.model (mode_of c.args.fault.now) (variable_of c.args.t.now.model c.args.fault.now.variable c.requires.variable) c.requires.symbol c.args.trace.now c.requires.lawful
