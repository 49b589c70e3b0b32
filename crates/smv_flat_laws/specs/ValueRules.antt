-- Which rules an expression breaks as the value of a DEFINE of an instance.
use Rattle.std.specs.Prelude.{◌≡◌, ◌<◌, Bool, true, false}
use Rattle.smv_language.specs.Language.{Formula, ProgramTree, Place, AtSome}
use Rattle.smv_flat_laws.specs.NameResolution.{leaves_in, has_next}
use Rattle.smv_flat_laws.specs.Rules.{Rule, number_of, no_such_name, next_here, input_here, SomeHasNoValue, GivesInput}

-- the expression breaks a rule as the value of a DEFINE, which may read inputs or not
abbrev pub BreaksValue : ProgramTree → Place → Bool → Formula → Rule → Type 0
BreaksValue p at inputs e no_such_name = SomeHasNoValue p at e
BreaksValue p at inputs e next_here = has_next e ≡ true
BreaksValue p at inputs e input_here = (inputs ≡ false) × AtSome (GivesInput p at) (leaves_in e)
BreaksValue p at inputs e _ = ⊥

-- the expression breaks no rule as the value of a DEFINE, which may read inputs or not
abbrev pub KeepsValue : ProgramTree → Place → Bool → Formula → Type 0
KeepsValue p at inputs e = (rule : Rule) → BreaksValue p at inputs e rule → ⊥

-- the rule is broken, and none of a lower number
pub record IsLeastBroken (p : ProgramTree) (at : Place) (inputs : Bool) (e : Formula) (rule : Rule) : Type 0 where
  pub broken : BreaksValue p at inputs e rule
  pub lowest : (other : Rule) → number_of other < number_of rule → BreaksValue p at inputs e other → ⊥
