use Rattle.std.proofs.Common.{◌≡◌, IsTrue, false, All, length, subst}
use Rattle.smv_language.specs.declared.model.FlatModel.{FlatModel}
use Rattle.smv_language.specs.ModelTree.{role_of}
use Rattle.sat_encoding_laws.specs.Inputs.{is_input}
use Rattle.test_encoding.proofs.bad.is_plain.Goals as goal

pub returns-clause-definitions : goal.returns-clause-definitions
returns-clause-definitions c = subst (λ (m : FlatModel). IsTrue c.is_plain_model.result → length m.definitions ≡ 0) c.model.ensures.model c.is_plain_model.ensures.definitions

pub returns-clause-inputs : goal.returns-clause-inputs
returns-clause-inputs c = subst (λ (m : FlatModel). IsTrue c.is_plain_model.result → All (λ x. is_input (role_of x.role) ≡ false) m.variables) c.model.ensures.model c.is_plain_model.ensures.inputs
