-- What is said of a program and its flat model where both are at hand, as the rules on expressions are tried.
use Rattle.std.specs.Prelude.{ℕ, ◌+◌, List, Option, map, flat_map}
use Rattle.std.specs.Option.{option_map, option_copied}
use Rattle.std.specs.Borrow.{Bor}
use Rattle.smv_language.specs.Language.{Path, Formula, declared_tree, Each, tree_of, FlatInstance, flat_tree}
use Rattle.smv_language.specs.declared.expr.Expr.{Expr}
use Rattle.smv_language.specs.declared.model.Flat.{Flat}
use Rattle.fault_instructions.specs.Instructions.{mode_tree}
use Rattle.smv_flat_laws.specs.Rules.{IsAccepted}
use Rattle.smv_flat_laws.specs.Model.{IsFlatOf}
use Rattle.smv_flat.specs.ResolvedAt.{IsAt}
use Rattle.fault_rules.specs.PlacedSlices.{PlacedSlice}
use Rattle.fault_rules.specs.declared.placed.Placed.{Placed}
use Rattle.fault_extend_laws.specs.Uses.{Use}
use Rattle.fault_extend_laws.specs.SliceUses.{modes_from, uses_of_slices}
use Rattle.fault_extend_laws.specs.Expressions.{UseRule, IsForm, KeepsUse, IsBrokenAt}
use Rattle.fault_extend.specs.GuardJudgement.{program_in, model_in}
use Rattle.fault_extend.specs.FirstRefusal.{IsFirstFault}
use Rattle.fault_extend.specs.declared.fault.WeaveFault.{WeaveFault}
use Rattle.fault_extend.specs.declared.guards.Nominal.{Nominal}

-- this holds where the program breaks no rule and has this flat model
abbrev pub WhereFlat : Nominal → Type 0 → Type 0
WhereFlat n P = IsAccepted (program_in n) → IsFlatOf (program_in n) (model_in n) → P

-- the instance has this number in the flat model
abbrev pub IsInstanceAt : Nominal → ℕ → FlatInstance → Type 0
IsInstanceAt n number at = IsAt (program_in n) (model_in n) number at

-- the uses of slices at all instances
abbrev pub all_uses : Nominal → List PlacedSlice → List Use
all_uses n slices = flat_map (uses_of_slices slices) (model_in n).instances

-- the uses of the modes of a slice at an instance of its module
abbrev pub uses_of_placed : Placed → FlatInstance → List Use
uses_of_placed placed at = modes_from at.place (declared_tree placed.declared.now) (placed.item + 1) (map mode_tree placed.slice.now.modes)

-- the use breaks no rule
abbrev pub IsUseKept : Nominal → Use → Type 0
IsUseKept n u = KeepsUse (program_in n) (model_in n) u

-- each of these uses breaks no rule
abbrev pub AreUsesKept : Nominal → List Use → Type 0
AreUsesKept n us = Each (KeepsUse (program_in n) (model_in n)) us

-- the rule is the first that the use breaks
abbrev pub IsUseBroken : Nominal → Use → UseRule → Type 0
IsUseBroken n u r = IsBrokenAt (program_in n) (model_in n) u r

-- the fault is the first of these uses, or want of memory
abbrev pub IsFirstOfUses : Nominal → List Use → WeaveFault → Type 0
IsFirstOfUses n us fault = IsFirstFault (program_in n) (model_in n) us fault

-- an expression of the code, where there is one
abbrev pub written : Option (Bor (Expr Path)) → Option Formula
written e = option_map tree_of (option_copied e)

-- the flat form, where there is one, is that of the expression at the instance
abbrev pub IsFormAt : Nominal → FlatInstance → Option Formula → Option (Expr Flat) → Type 0
IsFormAt n at e form = IsForm (program_in n) (model_in n) at.place e (option_map flat_tree form)
