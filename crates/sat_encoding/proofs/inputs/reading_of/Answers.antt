use Rattle.std.proofs.Common.{◌+◌, ◌∙◌, Bool, ap, arith, drop, map, List}
use Rattle.smv_language.specs.declared.model.Variable.{Variable}
use Rattle.smv_language.specs.ModelTree.{flat_tree, variable_tree, formula_tree}
use Rattle.sat_encoding_laws.specs.Inputs.{names_input, reading_after}
use Rattle.sat_encoding.specs.Reading.{tree_any}
use Rattle.sat_encoding.proofs.ModelParts.{got_in}
use Rattle.sat_encoding.proofs.ListLaws.{reading_next}
use Rattle.sat_encoding.proofs.inputs.reading_of.Goals as goal

pub loop-definition-preserved : goal.loop-definition-preserved
loop-definition-preserved c = (
  ap (λ (bs : List Bool). reading_after (map variable_tree c.args.m.now.variables) bs (map formula_tree (drop (c.loop-definition.definition-index + 1) c.args.m.now.definitions))) c.in_ok-push.ensures.items
      ∙ reading_next (map variable_tree c.args.m.now.variables) c.loop-definition.reading.definitions.items c.args.m.now.definitions c.loop-definition.definition-index c.definition-item.result c.reads_input-reads.result _
      (got_in _ c.args.m.now.definitions c.loop-definition.definition-index c.definition-item.result c.as_slice-definition-items.ensures (omega arith) c.definition-item.is)
      (c.reads_input-reads.ensures ∙ ap (λ (vs : List Variable). tree_any (names_input (map variable_tree vs) c.loop-definition.reading.definitions.items) (flat_tree c.definition-item.result.value)) c.loop-definition.invariant.1)
      c.loop-definition.invariant.0,
  c.loop-definition.invariant.1,
)
