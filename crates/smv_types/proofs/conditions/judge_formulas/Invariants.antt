use Rattle.std.proofs.Common.{◌≡◌, take}
use Rattle.smv_type_laws.specs.FirstBreach.{first_of}
use Rattle.smv_types.specs.KeptKinds.{formula_breaches}
use Rattle.smv_types.specs.Names.{name_kind}
use Rattle.smv_types.specs.Sites.{told_first_site}
use Rattle.smv_types.proofs.conditions.judge_formulas.Given as goal

abbrev pub invariant-loop-formula : goal.invariant-loop-formula
invariant-loop-formula l = l.first ≡ told_first_site (first_of (formula_breaches (name_kind l.sorts) (take l.formula-index l.formulas)))
