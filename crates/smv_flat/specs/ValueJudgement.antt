-- What is judged of a value at an instance.
use Rattle.std.specs.Prelude.{◌≡◌, ◌↔◌, true}
use Rattle.smv_language.specs.Language.{Formula, ProgramTree, Place, AtSome}
use Rattle.smv_flat_laws.specs.NameResolution.{leaves_in, has_next}
use Rattle.smv_flat_laws.specs.Rules.{SomeHasNoValue, GivesInput, next_under_next, leaves_under}
use Rattle.smv_flat.specs.declared.values.JudgedValue.{JudgedValue}

-- what is judged of an expression is true of it
pub record IsJudged (p : ProgramTree) (at : Place) (e : Formula) (j : JudgedValue) : Type 0 where
  pub no_value : (j.no_value ≡ true) ↔ SomeHasNoValue p at e
  pub next : j.next ≡ has_next e
  pub nested_next : j.nested_next ≡ next_under_next e
  pub input : (j.input ≡ true) ↔ AtSome (GivesInput p at) (leaves_in e)
  pub next_input : (j.next_input ≡ true) ↔ AtSome (GivesInput p at) (leaves_under e)
