-- What a program and instructions must be for the woven program to be their extension.
use Rattle.std.specs.Prelude.{◌≡◌, ◌≢◌, ℕ, Bool, false, List, [], ◌∷◌, Option, Some, None, codes}
use Rattle.smv_language.specs.declared.program.Member.{Member}
use Rattle.smv_language.specs.declared.program.Member.TheVariants as member
use Rattle.smv_language.specs.Tree.{Tree, Trees, Branches, truth as is_truth, number as is_number, leaf, not_of, negate, next_of, binary, choice, case_of, set_of, span, no_tree, tree_then, no_branch, branch_then}
use Rattle.smv_language.specs.ProgramTree.{Text, Path, Formula, DeclaredTree, members, instance, DeclTree, AssignmentTree, IsType, SectionTree, var, ivar, frozen as frozen_section, assign, init, invar, trans, ModuleTree, ProgramTree}
use Rattle.smv_language.specs.Values.{truth, one}
use Rattle.smv_language.specs.Evaluate.{evaluate}
use Rattle.smv_language.specs.Laws.{AllLeaves}
use Rattle.smv_language.specs.Scope.{Place, Role, state, input, frozen_role, a_variable, a_define, an_instance, undeclared, kind_declared, kind_in, nth_formula, is_symbol, Meaning, Means}
use Rattle.smv_language.specs.May.{Valuation, name_values}
use Rattle.smv_language.specs.Trace.{IsInstance, Each, AtSome, InDomains}
use Rattle.fault_instructions.specs.Instructions.{EffectTree, ModeTree, SliceTree, InstructionTree, slices_of, EachArgument}
use Rattle.fault_instructions.specs.Types.{IsUniform, IsKnown}
use Rattle.fault_instructions.specs.AddedNames.{ModeState, own_name, mode_variable, mode_symbol}
use Rattle.fault_instructions.specs.EffectLaw.{MayStand}

-- `next` does not stand in it
abbrev mutual
  pub NoNext : {L : Type 0} → Tree L → Type 0
  NoNext (is_truth b) = Unit {0}
  NoNext (is_number n) = Unit {0}
  NoNext (leaf l) = Unit {0}
  NoNext (not_of a) = NoNext a
  NoNext (negate a) = NoNext a
  NoNext (next_of a) = ⊥
  NoNext (binary o a b) = NoNext a × NoNext b
  NoNext (choice c a b) = NoNext c × NoNext a × NoNext b
  NoNext (case_of bs) = NoNextInBranches bs
  NoNext (set_of ts) = NoNextInTrees ts
  NoNext (span lo hi) = Unit {0}

  pub NoNextInTrees : {L : Type 0} → Trees L → Type 0
  NoNextInTrees no_tree = Unit {0}
  NoNextInTrees (tree_then t ts) = NoNext t × NoNextInTrees ts

  pub NoNextInBranches : {L : Type 0} → Branches L → Type 0
  NoNextInBranches no_branch = Unit {0}
  NoNextInBranches (branch_then c a bs) = NoNext c × NoNext a × NoNextInBranches bs

-- the value is one of the list
abbrev pub Among : {A : Type 0} → List A → A → Type 0
Among xs x = AtSome (λ y. y ≡ x) xs

-- no symbol of the type is a formal or declared name of the module
abbrev pub IsFreeMember : ModuleTree → Member → Type 0
IsFreeMember m (member.Number n) = Unit {0}
IsFreeMember m (member.Symbol x) = kind_in m x ≡ undeclared

-- no symbol of the type is a name of the module
abbrev pub SymbolsAreFree : ModuleTree → DeclaredTree → Type 0
SymbolsAreFree m (members ms) = Each (IsFreeMember m) ms
SymbolsAreFree m _ = Unit {0}

module _ (p : ProgramTree) (at : Place) where
  -- the name means something at the instance
  abbrev pub HasMeaning : Path → Type 0
  HasMeaning name = (meaning : Meaning) × Means p at name meaning

  -- the names of a formula mean something
  abbrev pub IsReadable : Formula → Type 0
  IsReadable e = AllLeaves HasMeaning e

  -- the names of what an effect follows mean something
  abbrev pub IsReadableEffect : EffectTree → Type 0
  IsReadableEffect e = EachArgument (λ c. Unit {0}) IsReadable (λ n. Unit {0}) e

module _ (p : ProgramTree) (at : Place) (m : ModuleTree) where
  -- a target without dots is a variable of the module
  abbrev pub IsLawfulTarget : Path → Type 0
  IsLawfulTarget (x ∷ []) = (role : Role) × (type : DeclaredTree) × (kind_in m x ≡ a_variable role type)
  IsLawfulTarget _ = Unit {0}

  -- its target is lawful, and its value readable
  abbrev pub IsLawfulAssignment : AssignmentTree → Type 0
  IsLawfulAssignment a = IsLawfulTarget a.target × IsReadable p at a.value

  -- the first declaration of its name, and no formal
  abbrev pub IsLawfulDecl : Role → DeclTree → Type 0
  IsLawfulDecl role d = kind_in m d.name ≡ kind_declared role d.what

  -- each item of the section is lawful
  abbrev pub IsLawfulSection : SectionTree → Type 0
  IsLawfulSection (var ds) = Each (IsLawfulDecl state) ds
  IsLawfulSection (ivar ds) = Each (IsLawfulDecl input) ds
  IsLawfulSection (frozen_section ds) = Each (IsLawfulDecl frozen_role) ds
  IsLawfulSection (assign list) = Each IsLawfulAssignment list
  IsLawfulSection (init e) = IsReadable p at e
  IsLawfulSection (invar e) = IsReadable p at e
  IsLawfulSection (trans e) = IsReadable p at e
  IsLawfulSection _ = Unit {0}

  -- what the weave uses of a lawful program, at one instance
  pub record IsLawfulInstance : Type 0 where
    pub defines : (x : Text) (e : Formula) → kind_in m x ≡ a_define e → IsReadable p at e × NoNext e
    pub actuals : (x n : Text) (es : List Formula) (k : ℕ) (e : Formula) → kind_in m x ≡ an_instance n es → nth_formula es k ≡ Some e →
        IsReadable p at e × NoNext e
    pub sections : Each IsLawfulSection m.sections

  -- in each valuation of the domains the guard has one truth value
  abbrev pub IsDecided : Formula → Type 0
  IsDecided g = (v : Valuation) → InDomains p v →
      (n : ℕ) × (b : Bool) × (evaluate (name_values n p at v v) (name_values n p at v v) g ≡ Some (one (truth b)))

  -- a guard is readable and decided, with no `next`
  abbrev pub IsLawfulGuard : Option Formula → Type 0
  IsLawfulGuard None = Unit {0}
  IsLawfulGuard (Some g) = IsReadable p at g × NoNext g × IsDecided g

  -- the effect is allowed at a variable of the type, and what it follows is readable
  abbrev pub IsAllowed : EffectTree → DeclaredTree → Type 0
  IsAllowed e type = MayStand e type × IsReadableEffect p at e

  -- a mode whose name, effect and guard are lawful
  pub record IsLawfulMode (type : DeclaredTree) (mode : ModeTree) : Type 0 where
    pub not_nominal : mode.name ≢ codes "nominal"
    pub effect_allowed : IsAllowed mode.effect type
    pub guard_lawful : IsLawfulGuard mode.guard

  -- a slice of a state variable whose added names are new
  pub record IsLawfulSlice (s : SliceTree) : Type 0 where
    pub type : DeclaredTree
    pub target_kind : kind_in m s.target ≡ a_variable state type
    pub finite : IsType type
    pub uniform : IsUniform type
    pub symbols_free : SymbolsAreFree m type
    pub own_new : kind_in m (own_name s.target) ≡ undeclared
    pub own_no_symbol : is_symbol p (own_name s.target) ≡ false
    pub mode_new : kind_in m (mode_variable s.name) ≡ undeclared
    pub mode_no_symbol : is_symbol p (mode_variable s.name) ≡ false
    pub symbol_new : (st : ModeState) → IsKnown s st → kind_in m (mode_symbol s.name st) ≡ undeclared
    pub modes : Each (IsLawfulMode type) s.modes
    pub modes_differ : (a b : ModeTree) → Among s.modes a → Among s.modes b → a.name ≡ b.name → a ≡ b

-- a program and instructions that a weave takes
pub record IsWeavable (p : ProgramTree) (i : InstructionTree) : Type 0 where
  pub instances : (at : Place) (m : ModuleTree) → IsInstance p at m → IsLawfulInstance p at m
  pub slices : (at : Place) (m : ModuleTree) (s : SliceTree) → IsInstance p at m → Among (slices_of i m.name) s → IsLawfulSlice p at m s
  pub targets_differ : (m : ModuleTree) (s t : SliceTree) → Among (slices_of i m.name) s → Among (slices_of i m.name) t →
      s.target ≡ t.target → s ≡ t
  pub names_differ : (m : ModuleTree) (s t : SliceTree) → Among (slices_of i m.name) s → Among (slices_of i m.name) t → s.name ≡ t.name →
      s ≡ t
  pub symbol_not_own : (m : ModuleTree) (s t : SliceTree) (st : ModeState) → Among (slices_of i m.name) s → Among (slices_of i m.name) t →
      IsKnown s st → mode_symbol s.name st ≢ own_name t.target
  pub symbol_not_mode : (m : ModuleTree) (s t : SliceTree) (st : ModeState) → Among (slices_of i m.name) s → Among (slices_of i m.name) t →
      IsKnown s st → mode_symbol s.name st ≢ mode_variable t.name
