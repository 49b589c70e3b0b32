-- The kinds of single names, and of expressions with their occurrences renamed.
use Rattle.std.proofs.Common.{◌≡◌, ℕ, zero, suc, Bool, true, false, [], ◌∷◌, Some, None, refl, ap, ◌∙◌, subst}
use Rattle.std.specs.Prelude.{if◌then◌else◌}
use Rattle.smv_language.specs.Language.{Tree, Trees, Branches, leaf, not_of, negate, next_of, binary, choice, case_of, set_of, span, no_tree, tree_then, no_branch, branch_then, AllLeaves, AllLeavesOfTrees, AllLeavesOfBranches, Text, DeclaredTree, ProgramTree, Place, Role, a_variable, undeclared, kind_at as name_kind_at, module_at, Meaning, a_variable_at, means_in, is_symbol, FlatModel}
use Rattle.smv_language.specs.Tree.{truth as is_truth, number as is_number}
use Rattle.smv_language.specs.Scope.{a_symbol}
use Rattle.fault_weave.specs.WovenProgram.{tree_map_both, trees_map_both, branches_map_both}
use Rattle.smv_flat_laws.specs.NameResolution.{StandsFor, IsLeafOf, Resolver, IsSound}
use Rattle.smv_flat_laws.specs.Rules.{IsWalkable}
use Rattle.smv_flat_laws.specs.Model.{IsFlatOf}
use Rattle.smv_type_laws.specs.ExpressionKinds.{Kind, symbol_class, is_word_true, ends_in_true, judge, judge_trees, judge_conditions, judge_values}
use Rattle.smv_type_laws.specs.DeclaredKinds.{judged_declared}
use Rattle.smv_type_laws.specs.Models.{kind_of_leaf}
use Rattle.smv_type_laws.proofs.Leaves.{kind_given, HasLeaf, variable_kind}
use Rattle.smv_type_laws.proofs.StandFor.{variable_there, for_variable, for_symbol}

-- What a single name means.
means_variable : (n : ℕ) (q : ProgramTree) (at : Place) (x : Text) (role : Role) (type : DeclaredTree) (meaning : Meaning) → name_kind_at (module_at q at) x ≡ a_variable role type →
    means_in n q at (x ∷ []) ≡ Some meaning → meaning ≡ a_variable_at at x
means_variable zero q at x role type meaning e h = cc
means_variable (suc n) q at x role type meaning e h = let same : Some (a_variable_at at x) ≡ Some meaning = rw e at h in cc

means_symbol : (n : ℕ) (q : ProgramTree) (at : Place) (x : Text) (meaning : Meaning) → name_kind_at (module_at q at) x ≡ undeclared → means_in n q at (x ∷ []) ≡ Some meaning → meaning ≡ a_symbol x
means_symbol zero q at x meaning e h = cc
means_symbol (suc n) q at x meaning e h = by (is_symbol q x) (rw e at h)
  where
    by : (b : Bool) → (if b then Some (a_symbol x) else None) ≡ Some meaning → meaning ≡ a_symbol x
    by true g = cc
    by false g = cc

module _ (q : ProgramTree) (m : FlatModel) (walkable : IsWalkable q) (is : IsFlatOf q m) (r : Resolver) (sound : IsSound q m is.written r) where
  -- a variable's name has the kind of its type
  pub name_variable : (at : Place) (x : Text) (role : Role) (type : DeclaredTree) → name_kind_at (module_at q at) x ≡ a_variable role type → HasLeaf (r at) (x ∷ []) → kind_given m (r at (x ∷ [])) ≡ (judged_declared type).kind
  name_variable at x role type e g =
      let a : IsLeafOf q m is.written at (x ∷ []) g.0 = sound at (x ∷ []) g.0 g.1 in
      let same : a.0 ≡ a_variable_at at x = means_variable a.1.0 q at x role type a.0 e a.1.1 in
      let b = for_variable m is.written g.0 at x (subst (StandsFor m is.written g.0) same a.2) in
      ap (kind_given m) g.1 ∙ ap (kind_of_leaf m) b.1 ∙ variable_kind q m walkable is at x role type b.0 (variable_there q at x role type e) b.2

  -- an undeclared name that is resolved is a symbol
  pub name_symbol : (at : Place) (x : Text) → name_kind_at (module_at q at) x ≡ undeclared → HasLeaf (r at) (x ∷ []) → (kind_given m (r at (x ∷ []))).class ≡ symbol_class
  name_symbol at x e g =
      let a : IsLeafOf q m is.written at (x ∷ []) g.0 = sound at (x ∷ []) g.0 g.1 in
      let same : a.0 ≡ a_symbol x = means_symbol a.1.0 q at x a.0 e a.1.1 in
      let b = for_symbol m is.written g.0 x (subst (StandsFor m is.written g.0) same a.2) in
      ap (λ o. (kind_given m o).class) g.1 ∙ ap (λ l. (kind_of_leaf m l).class) b.1

-- A tree with its leaves changed is judged as it was where the kinds of the changed leaves are those of the leaves.
word_both : {L M : Type 0} (f g : L → M) (c : Tree L) → is_word_true (tree_map_both f g c) ≡ is_word_true c
word_both f g (is_truth b) = refl
word_both f g (is_number n) = refl
word_both f g (leaf l) = refl
word_both f g (not_of a) = refl
word_both f g (negate a) = refl
word_both f g (next_of a) = refl
word_both f g (binary o a b) = refl
word_both f g (choice c a b) = refl
word_both f g (case_of bs) = refl
word_both f g (set_of ts) = refl
word_both f g (span lo hi) = refl

end_both : {L M : Type 0} (f g : L → M) (bs : Branches L) → ends_in_true (branches_map_both f g bs) ≡ ends_in_true bs
end_both f g no_branch = refl
end_both f g (branch_then c a no_branch) = word_both f g c
end_both f g (branch_then c a (branch_then d b bs)) = end_both f g (branch_then d b bs)

-- the changed leaf has the kind of the leaf, where both are known
abbrev pub KeepsKinds : {L M : Type 0} → (L → Kind) → (M → Kind) → (L → Type 0) → (M → Type 0) → (L → M) → Type 0
KeepsKinds {L} {M} k k' P Q f = (l : L) → P l → Q (f l) → k' (f l) ≡ k l

mutual
  pub judge_both : {L M : Type 0} (k : L → Kind) (k' : M → Kind) (P : L → Type 0) (Q : M → Type 0) (f g : L → M) → KeepsKinds k k' P Q f → KeepsKinds k k' P Q g → (sets : Bool) (t : Tree L) →
      AllLeaves P t → AllLeaves Q (tree_map_both f g t) → judge k' sets (tree_map_both f g t) ≡ judge k sets t
  judge_both k k' P Q f g u v sets (is_truth b) h j = refl
  judge_both k k' P Q f g u v sets (is_number n) h j = refl
  judge_both k k' P Q f g u v sets (leaf l) h j = ap (λ (kind : Kind). record { kind = kind; is_set = false; broken = [] }) (u l h j)
  judge_both k k' P Q f g u v sets (not_of a) h j = rw (judge_both k k' P Q f g u v false a h j) refl
  judge_both k k' P Q f g u v sets (negate a) h j = rw (judge_both k k' P Q f g u v false a h j) refl
  judge_both k k' P Q f g u v sets (next_of a) h j = judge_both k k' P Q g g v v false a h j
  judge_both k k' P Q f g u v sets (binary o a b) h j = rw (judge_both k k' P Q f g u v _ a h.0 j.0, judge_both k k' P Q f g u v _ b h.1 j.1) refl
  judge_both k k' P Q f g u v sets (choice c a b) h j =
      rw (judge_both k k' P Q f g u v false c h.0 j.0, judge_both k k' P Q f g u v sets a h.1 j.1, judge_both k k' P Q f g u v sets b h.2 j.2) refl
  judge_both k k' P Q f g u v sets (case_of bs) h j =
      rw (end_both f g bs, conditions_both k k' P Q f g u v bs h j, values_both k k' P Q f g u v sets bs h j) refl
  judge_both k k' P Q f g u v sets (set_of ts) h j = rw (trees_both k k' P Q f g u v ts h j) refl
  judge_both k k' P Q f g u v sets (span lo hi) h j = refl

  trees_both : {L M : Type 0} (k : L → Kind) (k' : M → Kind) (P : L → Type 0) (Q : M → Type 0) (f g : L → M) → KeepsKinds k k' P Q f → KeepsKinds k k' P Q g → (ts : Trees L) →
      AllLeavesOfTrees P ts → AllLeavesOfTrees Q (trees_map_both f g ts) → judge_trees k' (trees_map_both f g ts) ≡ judge_trees k ts
  trees_both k k' P Q f g u v no_tree h j = refl
  trees_both k k' P Q f g u v (tree_then t ts) h j = rw (judge_both k k' P Q f g u v false t h.0 j.0, trees_both k k' P Q f g u v ts h.1 j.1) refl

  conditions_both : {L M : Type 0} (k : L → Kind) (k' : M → Kind) (P : L → Type 0) (Q : M → Type 0) (f g : L → M) → KeepsKinds k k' P Q f → KeepsKinds k k' P Q g → (bs : Branches L) →
      AllLeavesOfBranches P bs → AllLeavesOfBranches Q (branches_map_both f g bs) → judge_conditions k' (branches_map_both f g bs) ≡ judge_conditions k bs
  conditions_both k k' P Q f g u v no_branch h j = refl
  conditions_both k k' P Q f g u v (branch_then c a bs) h j = rw (judge_both k k' P Q f g u v false c h.0 j.0, conditions_both k k' P Q f g u v bs h.2 j.2) refl

  values_both : {L M : Type 0} (k : L → Kind) (k' : M → Kind) (P : L → Type 0) (Q : M → Type 0) (f g : L → M) → KeepsKinds k k' P Q f → KeepsKinds k k' P Q g → (sets : Bool) (bs : Branches L) →
      AllLeavesOfBranches P bs → AllLeavesOfBranches Q (branches_map_both f g bs) → judge_values k' sets (branches_map_both f g bs) ≡ judge_values k sets bs
  values_both k k' P Q f g u v sets no_branch h j = refl
  values_both k k' P Q f g u v sets (branch_then c a bs) h j = rw (judge_both k k' P Q f g u v sets a h.1 j.1, values_both k k' P Q f g u v sets bs h.2 j.2) refl
