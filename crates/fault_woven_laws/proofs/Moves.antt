-- What the cases of a slice are judged as: how its mode moves, and what is read.
use Rattle.std.proofs.Common.{◌≡◌, true, false, map, List, [], ◌∷◌, Option, Some, None, refl}
use Rattle.smv_language.specs.declared.expr.Op.TheVariants as op
use Rattle.smv_language.specs.Language.{Branches, binary, choice, case_of, no_branch, branch_then, trees_from, AllLeaves, AllLeavesOfTrees, AllLeavesOfBranches, Text, Path, Formula, DeclaredTree, Each}
use Rattle.fault_instructions.specs.declared.instructions.Dynamics.{Dynamics}
use Rattle.fault_instructions.specs.declared.instructions.Dynamics.TheVariants.{Permanent, Transient}
use Rattle.fault_instructions.specs.declared.instructions.Start.{Start}
use Rattle.fault_instructions.specs.declared.instructions.Start.TheVariants.{Nominal, Any}
use Rattle.fault_instructions.specs.Instructions.{ModeTree, SliceTree}
use Rattle.fault_instructions.specs.AddedNames.{mode_symbol, own_name}
use Rattle.fault_instructions.specs.Types.{IsKnown}
use Rattle.fault_instructions.specs.Templates.{named, branch}
use Rattle.smv_type_laws.specs.ExpressionKinds.{Class, truth_class, symbol_class, Kind, ends_in_true, judge, judge_trees, judge_conditions, judge_values}
use Rattle.fault_weave.specs.WovenProgram.{start_tree, mode_branches, set_one, guard_formula, entries_from, entries, stay_branch, moves_tree, read_tree}
use Rattle.fault_woven_laws.proofs.Rightly.{Rightly, set_right, union_right, choice_right, case_right}
use Rattle.fault_woven_laws.proofs.Effects.{SliceKinds, ModeKinds, own_right, symbol_right, stands_right, branch_right}
use Rattle.smv_type_laws.specs.DeclaredKinds.{class_declared}

branches_end : (slice : Text) (f : ModeTree → Formula) (last : Formula) (ms : List ModeTree) → ends_in_true (mode_branches slice f last ms) ≡ true
branches_end slice f last [] = refl
branches_end slice f last (m ∷ []) = refl
branches_end slice f last (m ∷ n ∷ ms) = branches_end slice f last (n ∷ ms)

module _ (K : Path → Kind) (P : Path → Type 0) where
  case_of_right : (c : Class) (bs : Branches Path) → ends_in_true bs ≡ true → Each (Rightly truth_class) (judge_conditions K bs) → Each (Rightly c) (judge_values K true bs) → Rightly c (judge K true (case_of bs))
  case_of_right c no_branch e g h = cc
  case_of_right c (branch_then p a bs) e g h = case_right c (ends_in_true (branch_then p a bs)) (judge_conditions K (branch_then p a bs)) (judge_values K true (branch_then p a bs)) e g h h.0.class

  -- the modes of a slice are known, and each is judged
  abbrev pub ModesJudged : SliceTree → DeclaredTree → List ModeTree → Type 0
  ModesJudged s type ms = Each (λ m. IsKnown s (Some m.name) × ModeKinds K P type m) ms

  module _ (s : SliceTree) (type : DeclaredTree) (kinds : SliceKinds K P s type) where
    conditions_right : (f : ModeTree → Formula) (last : Formula) (ms : List ModeTree) → ModesJudged s type ms → AllLeavesOfBranches P (mode_branches s.name f last ms) →
        Each (Rightly truth_class) (judge_conditions K (mode_branches s.name f last ms))
    conditions_right f last [] j h = (record { kept = refl; class = refl }, tt)
    conditions_right f last (m ∷ ms) j h = (stands_right K P s type kinds m.name j.0.0 h.0, conditions_right f last ms j.1 h.2)

    values_right : (c : Class) (f : ModeTree → Formula) (last : Formula) (ms : List ModeTree) → ModesJudged s type ms →
        ((m : ModeTree) → IsKnown s (Some m.name) → ModeKinds K P type m → AllLeaves P (f m) → Rightly c (judge K true (f m))) → (AllLeaves P last → Rightly c (judge K true last)) →
        AllLeavesOfBranches P (mode_branches s.name f last ms) → Each (Rightly c) (judge_values K true (mode_branches s.name f last ms))
    values_right c f last [] j each final h = (final h.1, tt)
    values_right c f last (m ∷ ms) j each final h = (each m j.0.0 j.0.1 h.1, values_right c f last ms j.1 each final h.2)

    one_right : (x : Text) → Rightly symbol_class (judge K false (named x)) → Rightly symbol_class (judge K true (set_one x))
    one_right x r = set_right symbol_class (judge K false (named x) ∷ []) (r, tt) r.class

    stay_right : (m : ModeTree) → IsKnown s (Some m.name) → (d : Dynamics) → AllLeaves P (stay_branch s.name d m.name) → Rightly symbol_class (judge K true (stay_branch s.name d m.name))
    stay_right m known Permanent h = symbol_right K P s type kinds true (Some m.name) known h
    stay_right m known Transient h =
        let first = symbol_right K P s type kinds false (Some m.name) known h.0 in
        set_right symbol_class (judge K false (named (mode_symbol s.name (Some m.name))) ∷ judge K false (named (mode_symbol s.name None)) ∷ [])
        (first, (symbol_right K P s type kinds false None tt h.1.0, tt)) first.class

    guard_right : (m : ModeTree) → ModeKinds K P type m → (g : Option Formula) → m.guard ≡ g → AllLeaves P (guard_formula g) → Rightly truth_class (judge K false (guard_formula g))
    guard_right m judged None e h = record { kept = refl; class = refl }
    guard_right m judged (Some g) e h = judged.guard g e h

    entries_right : (so_far : Formula) (ms : List ModeTree) → ModesJudged s type ms → (AllLeaves P so_far → Rightly symbol_class (judge K true so_far)) →
        AllLeaves P (entries_from s.name so_far ms) → Rightly symbol_class (judge K true (entries_from s.name so_far ms))
    entries_right so_far [] j first h = first h
    entries_right so_far (m ∷ ms) j first h =
        entries_right (binary op.Union so_far (choice (guard_formula m.guard) (set_one (mode_symbol s.name (Some m.name))) (set_one (mode_symbol s.name None)))) ms j.1
        (λ a. union_right symbol_class (judge K true so_far) _ (first a.0)
        (choice_right symbol_class (judge K false (guard_formula m.guard)) (judge K true (set_one (mode_symbol s.name (Some m.name)))) (judge K true (set_one (mode_symbol s.name None)))
        (guard_right m j.0.1 m.guard refl a.1.0)
        (one_right (mode_symbol s.name (Some m.name)) (symbol_right K P s type kinds false (Some m.name) j.0.0 a.1.1.0))
        (one_right (mode_symbol s.name None) (symbol_right K P s type kinds false None tt a.1.2.0)))) h

    symbols_right : (ms : List ModeTree) → ModesJudged s type ms → AllLeavesOfTrees P (trees_from (map (λ m. named (mode_symbol s.name (Some m.name))) ms)) →
        Each (Rightly symbol_class) (judge_trees K (trees_from (map (λ m. named (mode_symbol s.name (Some m.name))) ms)))
    symbols_right [] j h = tt
    symbols_right (m ∷ ms) j h = (symbol_right K P s type kinds false (Some m.name) j.0.0 h.0, symbols_right ms j.1 h.1)

    -- where the mode starts is a symbol
    pub start_state_right : (start : Start) → ModesJudged s type s.modes → AllLeaves P (start_tree s.name start s.modes) → Rightly symbol_class (judge K true (start_tree s.name start s.modes))
    start_state_right Nominal j h = symbol_right K P s type kinds true None tt h
    start_state_right Any j h =
        let first = symbol_right K P s type kinds false None tt h.0 in
        set_right symbol_class (judge K false (named (mode_symbol s.name None)) ∷ judge_trees K (trees_from (map (λ m. named (mode_symbol s.name (Some m.name))) s.modes)))
        (first, symbols_right s.modes j h.1) first.class

    -- how the mode moves is a symbol
    pub moves_right : ModesJudged s type s.modes → AllLeaves P (moves_tree s) → Rightly symbol_class (judge K true (moves_tree s))
    moves_right j h =
        let f : ModeTree → Formula = λ m. stay_branch s.name m.dynamics m.name in
        let last = entries s.name s.modes in
        case_of_right symbol_class (mode_branches s.name f last s.modes) (branches_end s.name f last s.modes) (conditions_right f last s.modes j h)
        (values_right symbol_class f last s.modes j (λ m known judged a. stay_right m known m.dynamics a)
        (λ a. entries_right (set_one (mode_symbol s.name None)) s.modes j (λ b. one_right (mode_symbol s.name None) (symbol_right K P s type kinds false None tt b.0)) a) h)

    -- what is read has the class of the variable
    pub read_right : ModesJudged s type s.modes → AllLeaves P (read_tree type s) → Rightly (class_declared type) (judge K true (read_tree type s))
    read_right j h =
        let f : ModeTree → Formula = λ m. branch m.effect type s.target in
        let last = named (own_name s.target) in
        case_of_right (class_declared type) (mode_branches s.name f last s.modes) (branches_end s.name f last s.modes) (conditions_right f last s.modes j h)
        (values_right (class_declared type) f last s.modes j (λ m known judged a. branch_right K P m.effect s type kinds judged.allowed judged.following a) (λ a. own_right K P s type kinds true a) h)
