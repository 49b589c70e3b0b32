-- A top event of a program, which is read over the program and again over what is woven of it.
use Rattle.std.specs.Prelude.{◌≡◌, ◌≤◌, Bool, false}
use Rattle.base_values.specs.declared.limits.TheConstants.{MOST_TOP_COST}
use Rattle.smv_language.specs.Language.{Tree, Formula, ProgramTree, Place, FlatLeaf, FlatModel}
use Rattle.fault_instructions.specs.Instructions.{InstructionTree}
use Rattle.fault_weave.specs.WovenProgram.{woven}
use Rattle.fault_instructions.specs.Weavable.{IsWeavable}
use Rattle.smv_flat_laws.specs.Model.{IsFlatOf}
use Rattle.smv_flat_laws.specs.NameResolution.{has_next}
use Rattle.smv_flat_laws.specs.ResolvedAt.{IsResolvedAt}
use Rattle.smv_flat_laws.specs.Rules.{IsWalkable}
use Rattle.smv_type_laws.specs.Costs.{cost_of}
use Rattle.smv_type_laws.specs.Models.{judged_in, top_fault}
use Rattle.sat_encoding_laws.specs.Encodable.{IsFitTop}

-- a program and instructions that a weave takes, with the flat models of the program and of what is woven
pub record HaveFlatModels (p : ProgramTree) (m : FlatModel) (i : InstructionTree) (w : FlatModel) : Type 0 where
  pub weavable : IsWeavable p i
  pub program : IsWalkable p
  pub flat : IsFlatOf p m
  pub woven_program : IsWalkable (woven p i)
  pub woven_flat : IsFlatOf (woven p i) w

-- what an expression at an instance is over the one model and over the other
pub record IsReadAs (p : ProgramTree) (m : FlatModel) (i : InstructionTree) (w : FlatModel) (at : Place) (e : Formula)
    (tree woven_tree : Tree FlatLeaf) : Type 0 where
  pub before : IsResolvedAt p m at e tree
  pub after : IsResolvedAt (woven p i) w at e woven_tree

-- an expression of one model has the kind of one of another, breaks the rules that it breaks, and costs as much
pub record IsJudgedAlike (m : FlatModel) (e : Tree FlatLeaf) (n : FlatModel) (f : Tree FlatLeaf) : Type 0 where
  pub judged : (sets : Bool) → judged_in n sets f ≡ judged_in m sets e
  pub cost : cost_of f ≡ cost_of e
  pub fault : top_fault n f ≡ top_fault m e

-- A top event of a model: its clauses can be written, it has one value, it speaks of one moment, and it is small.
pub record IsTopOf (m : FlatModel) (top : Tree FlatLeaf) : Type 0 where
  pub fits : IsFitTop m top
  pub one_value : (judged_in m false top).is_set ≡ false
  pub no_next : has_next top ≡ false
  pub small : cost_of top ≤ MOST_TOP_COST
