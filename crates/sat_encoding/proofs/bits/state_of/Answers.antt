use Rattle.std.proofs.Common.{◌∙◌, true, length, sym, ap, arith}
use Rattle.smv_language.specs.ModelTree.{model_tree}
use Rattle.sat_encoding_laws.specs.Layout.{input_place}
use Rattle.sat_encoding.proofs.ReadModels.{values_long, state_read}
use Rattle.sat_encoding.proofs.bits.state_of.Goals as goal

pub returns-clause-same : goal.returns-clause-same
returns-clause-same c = ap length c.read_into.ensures ∙ values_long c.args.t.now.model.symbols true c.args.a.now 2 (input_place (model_tree c.args.t.now.model)) c.args.t.now.model.variables ∙ sym c.requires.long

pub returns-clause-values : goal.returns-clause-values
returns-clause-values c = state_read c.args.t.now.model c.requires.encodable c.args.a.now (omega arith) c.read_into.new.into c.read_into.ensures
