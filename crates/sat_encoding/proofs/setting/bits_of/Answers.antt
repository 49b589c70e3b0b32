use Rattle.std.proofs.Common.{None, ◌∙◌, length, sym, ap, subst, arith}
use Rattle.std.specs.Prelude.{slice_index_or}
use Rattle.sat_clauses.specs.Assignment.{Assignment}
use Rattle.smv_language.specs.ModelTree.{model_tree}
use Rattle.sat_encoding_laws.specs.Layout.{input_place}
use Rattle.sat_encoding_laws.specs.Bits.{state_of, inputs_of}
use Rattle.sat_encoding_laws.proofs.MomentMeans.{model_types}
use Rattle.sat_encoding.specs.Values.{Gives}
use Rattle.sat_encoding.proofs.SettingLaws.{set_keeps, set_long, set_gives}
use Rattle.sat_encoding.proofs.setting.bits_of.Goals as goal

pub returns-clause-same : goal.returns-clause-same
returns-clause-same c = ap length c.set_all.ensures ∙ set_long c.args.t.now.model.symbols c.args.t.now.model.variables c.args.v.now c.args.into.now 2 (input_place (model_tree c.args.t.now.model))

pub returns-clause-kept : goal.returns-clause-kept
returns-clause-kept c = λ x out.
    let m = model_tree c.args.t.now.model in
    ap (λ (a : Assignment). slice_index_or a x None) c.set_all.ensures ∙ set_keeps m.symbols c.args.t.now.model.variables (model_types m c.requires.encodable) c.args.v.now c.args.into.now 2 (input_place m) x out

pub returns-clause-state : goal.returns-clause-state
returns-clause-state c = λ values inside stand.
    let m = model_tree c.args.t.now.model in
    subst (λ (a : Assignment). Gives a 2 (state_of m values)) (sym c.set_all.ensures)
    (set_gives m.symbols c.args.t.now.model.variables (model_types m c.requires.encodable) c.args.v.now values stand c.args.into.now 2 (input_place m) (omega arith) (omega (arith, c.requires.places))).state

pub returns-clause-inputs : goal.returns-clause-inputs
returns-clause-inputs c = λ values inside stand.
    let m = model_tree c.args.t.now.model in
    subst (λ (a : Assignment). Gives a (input_place m) (inputs_of m values)) (sym c.set_all.ensures)
    (set_gives m.symbols c.args.t.now.model.variables (model_types m c.requires.encodable) c.args.v.now values stand c.args.into.now 2 (input_place m) (omega arith) (omega (arith, c.requires.places))).inputs
