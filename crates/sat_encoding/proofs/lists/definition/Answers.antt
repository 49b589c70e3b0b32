use Rattle.std.proofs.Common.{◌≡◌, ◌∙◌, Bool, false, true, not, ◌&&◌, sym, ap, arith}
use Rattle.smv_language.specs.ModelTree.{flat_tree, formula_tree}
use Rattle.sat_encoding_laws.specs.Inputs.{reads_input}
use Rattle.sat_expressions.specs.BuiltSignals.{signals_of}
use Rattle.sat_expressions.specs.ModelNames.{model_of, names_in}
use Rattle.sat_encoding.specs.Copies.{source_model}
use Rattle.sat_encoding.proofs.ListLaws.{read_is, both_true, both_false, first_false, definition_left, definition_is}
use Rattle.sat_encoding.proofs.lists.definition.Goals as goal
use Rattle.sat_encoding.proofs.lists.definition.Goals.{else-reads_input-via-then-reads_input+else-not-all, else-reads_input-via-else-reads_input}

pub returns-then-not-all : goal.returns-then-not-all
returns-then-not-all c =
    let reads : reads_input (source_model c.args.source.now) (flat_tree c.args.d.now.value) ≡ true = sym (read_is c.args.source.now c.requires.source (flat_tree c.args.d.now.value)) ∙ sym c.reads_input.ensures ∙ c.if-reads_input.true in
    record {
      exact =
          definition_left (source_model c.args.source.now) (signals_of c.args.copy.now.variables) (signals_of c.args.copy.now.definitions) c.args.all (formula_tree c.args.d.now) c.args.g.now c.constant.result
          (both_true (reads_input (source_model c.args.source.now) (flat_tree c.args.d.now.value)) c.args.all reads c.if-not-all.true) c.constant.ensures.literal;
      usable = c.constant.ensures.below;
      grows = omega arith;
    }

pub returns : goal.returns
returns c =
    let same : c.reads_input.result ≡ reads_input (source_model c.args.source.now) (flat_tree c.args.d.now.value) = c.reads_input.ensures ∙ read_is c.args.source.now c.requires.source (flat_tree c.args.d.now.value) in
    let kept : (c.reads_input.result && not c.args.all) ≡ false =
    elim c.else-reads_input.branch [ else-reads_input-via-then-reads_input+else-not-all w ↦ both_false c.reads_input.result c.args.all w.if-not-all.false | else-reads_input-via-else-reads_input w ↦ first_false c.reads_input.result c.args.all w.if-reads_input.false ] in
    definition_is (source_model c.args.source.now) c.at-names.result c.args.copy.now c.args.all (formula_tree c.args.d.now) c.args.g.now c.expression.new.g c.in_ok-part.part (ap names_in c.at-names.ensures) (ap model_of c.at-names.ensures)
    (sym (ap (λ (b : Bool). b && not c.args.all) same) ∙ kept) c.requires.right c.in_ok-part.ensures
