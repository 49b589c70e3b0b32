-- The definitions of a model, one after the other.
use Rattle.std.specs.Prelude.{◌≡◌, [], List, map}
use Rattle.smv_language.specs.declared.model.Formula.{Formula}
use Rattle.smv_language.specs.ModelTree.{formula_tree}
use Rattle.smv_type_laws.specs.ExpressionKinds.{Judged}
use Rattle.smv_type_laws.specs.FirstBreach.{first_of}
use Rattle.smv_type_laws.specs.Models.{judged_after, definition_breaches}
use Rattle.smv_types.specs.Sites.{told_first_site}
use Rattle.smv_types.specs.KeptKinds.{AreKept}
use Rattle.smv_types.specs.declared.definitions.JudgedDefinitions.{JudgedDefinitions}

-- What is found of these definitions, over variables that were judged so.
pub record AreDefined (variables : List Judged) (fs : List Formula) (d : JudgedDefinitions) : Type 0 where
  pub kept : AreKept variables (judged_after variables [] (map formula_tree fs)) d.sorts
  pub first : d.first ≡ told_first_site
      (first_of (definition_breaches (map formula_tree fs) (judged_after variables [] (map formula_tree fs))))
