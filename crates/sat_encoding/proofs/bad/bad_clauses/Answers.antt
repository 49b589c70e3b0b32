use Rattle.std.proofs.Common.{◌++◌, ◌∙◌, List, map, ap}
use Rattle.sat_clauses.specs.Literal.{Literal}
use Rattle.smv_language.specs.declared.model.FlatModel.{FlatModel as Model}
use Rattle.smv_language.specs.ModelTree.{model_tree, flat_tree}
use Rattle.sat_encoding_laws.specs.Lists.{unlisted_clause, bad_list}
use Rattle.sat_encoding.specs.History.{last_numbers}
use Rattle.sat_encoding.proofs.bad.bad_clauses.Goals as goal

pub returns : goal.returns
returns c = record {
  exact =
      c.in_ok-bad.ensures ∙ ap (λ (h : List Literal). c.in_ok-clauses.clauses ++ map (unlisted_clause h) c.args.listed.now) c.as_slice.ensures ∙ (λ i. c.in_ok-clauses.ensures.clauses i ++ map (unlisted_clause (c.in_ok-clauses.ensures.history i)) c.args.listed.now)
      ∙ ap (λ (m : Model). bad_list (model_tree m) (flat_tree c.args.top.now) (last_numbers (model_tree m) c.args.faults) c.args.listed.now c.args.size) c.in_ok-source.ensures.model;
}
