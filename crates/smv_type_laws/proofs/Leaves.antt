-- The kinds of a program's names, by what resolves them in its flat model.
use Rattle.std.proofs.Common.{◌≡◌, ℕ, zero, suc, ◌+◌, arith, Bool, false, List, [], ◌∷◌, ◌++◌, length, Option, Some, None, refl, sym, ap, ◌∙◌, subst}
use Rattle.std.specs.Prelude.{slice_get, codes}
use Rattle.smv_language.specs.Language.{Tree, Trees, Branches, leaf, not_of, negate, next_of, binary, choice, case_of, set_of, span, no_tree, tree_then, no_branch, branch_then, AllLeaves, AllLeavesOfTrees, AllLeavesOfBranches, Text, Path, Formula, DeclaredTree, ModuleTree, ProgramTree, Place, Role, find_module, Each, IsVariable, FlatLeaf, flat_variable, flat_symbol, flat_definition, FlatVariable, FlatFormula, FlatModel}
use Rattle.smv_language.specs.Tree.{truth as is_truth, number as is_number}
use Rattle.smv_flat_laws.specs.Items.{Visit, visits, variables_of}
use Rattle.smv_flat_laws.specs.NameResolution.{leaves_in, IsResolved, IsBefore}
use Rattle.smv_flat_laws.specs.Rules.{IsWalkable}
use Rattle.smv_flat_laws.specs.Model.{IsVariableOf, IsVariableNumber, IsFlatOf}
use Rattle.smv_flat_laws.proofs.Conditions.{each_at}
use Rattle.smv_flat_laws.proofs.Lists.{each_more, get_end, length_end}
use Rattle.smv_flat_laws.proofs.Places.{has_main}
use Rattle.smv_flat_laws.proofs.Resolving.{Known, names_known, each_leaf}
use Rattle.smv_flat_laws.proofs.Variables.{both_at_second, RealVariable, real_variables}
use Rattle.smv_flat_laws.proofs.Walkable.{main_is_there}
use Rattle.smv_type_laws.specs.ExpressionKinds.{Kind, Judged, truth_class, judge}
use Rattle.smv_type_laws.specs.DeclaredKinds.{judged_declared}
use Rattle.smv_type_laws.specs.Models.{kind_at, leaf_kind, judged_variables, judged_after, judged_definitions, kind_of_leaf, judged_in}
use Rattle.smv_type_laws.proofs.ClosedLaws.{all_leaves}
use Rattle.smv_type_laws.proofs.Mapped.{judge_mapped}
use Rattle.smv_type_laws.proofs.ModelLaws.{after_keeps, judge_agrees}
use Rattle.smv_type_laws.proofs.TraceLaws.{one_type}
use Rattle.smv_language.proofs.ListLaws.{get_map}
use Rattle.base_values.proofs.ListLaws.{get_within}

-- the kind of what is given for a name
abbrev pub kind_given : FlatModel → Option FlatLeaf → Kind
kind_given m None = record { class = truth_class; interval = None }
kind_given m (Some l) = kind_of_leaf m l

-- a leaf is given for the name
abbrev pub HasLeaf : (Path → Option FlatLeaf) → Path → Type 0
HasLeaf q name = (l : FlatLeaf) × (q name ≡ Some l)

-- a flat expression is judged as the written one over the kinds of what is given for its names
pub resolved_judged : (m : FlatModel) (q : Path → Option FlatLeaf) (e : Formula) (flat : Tree FlatLeaf) (sets : Bool) → IsResolved q e flat →
    judged_in m sets flat ≡ judge (λ name. kind_given m (q name)) sets e
resolved_judged m q e flat sets is = sym (judge_mapped Some (kind_given m) sets flat) ∙ ap (judge (kind_given m) sets) is ∙ judge_mapped q (kind_given m) sets e

-- a leaf with what is known of it
abbrev pub HasKnown : (FlatLeaf → Type 0) → (Path → Option FlatLeaf) → Path → Type 0
HasKnown P q name = (l : FlatLeaf) × (q name ≡ Some l) × P l

pub known_leaves : (P : FlatLeaf → Type 0) (q : Path → Option FlatLeaf) (e : Formula) (flat : Tree FlatLeaf) → IsResolved q e flat → Each P (leaves_in flat) → AllLeaves (HasKnown P q) e
known_leaves P q e flat is h =
    all_leaves (HasKnown P q) e (each_more (λ name. Known P (q name)) (HasKnown P q) (leaves_in e) (λ name k. (k.found, k.is, k.known)) (names_known P q e flat is h))

-- a leaf is given for each name of a resolved expression
pub has_leaves : (q : Path → Option FlatLeaf) (e : Formula) (flat : Tree FlatLeaf) → IsResolved q e flat → AllLeaves (HasLeaf q) e
has_leaves q e flat is =
    all_leaves (HasLeaf q) e (each_more (λ name. Known (λ l. Unit {0}) (q name)) (HasLeaf q) (leaves_in e) (λ name k. (k.found, k.is)) (names_known (λ l. Unit {0}) q e flat is (each_leaf (leaves_in flat))))

module _ (p : ProgramTree) (m : FlatModel) (walkable : IsWalkable p) (is : IsFlatOf p m) where
  -- a numbered variable is declared with its role and type
  pub declared_so : (i : ℕ) (v : FlatVariable) → slice_get m.variables i ≡ Some v → IsVariable p v.place v.name v.role v.declared
  declared_so i v e =
      let main : (n : ModuleTree) × (find_module p (codes "main") ≡ Some n) = main_is_there p walkable in
      let from : (w : Visit) × (slice_get (variables_of p) i ≡ Some w) × IsVariableOf m w v = both_at_second (IsVariableOf m) (variables_of p) m.variables i v is.variables e in
      let real : RealVariable p from.0 = each_at (RealVariable p) (variables_of p) i from.0 (real_variables p (visits p) (has_main p walkable main.0 main.1)) from.1 in
      let by = from.2 in
      subst (λ at. IsVariable p at v.name v.role v.declared) (sym by.place)
      (subst (λ x. IsVariable p from.0.place x v.role v.declared) (sym by.name)
      (subst (λ r. IsVariable p from.0.place from.0.decl.name r v.declared) (sym by.role)
      (subst (λ t. IsVariable p from.0.place from.0.decl.name from.0.role t) (sym by.declared) real)))

  -- the number of a variable has the kind of the variable's type
  pub variable_kind : (at : Place) (x : Text) (role : Role) (type : DeclaredTree) (i : ℕ) → IsVariable p at x role type → IsVariableNumber m at x i →
      kind_of_leaf m (flat_variable i) ≡ (judged_declared type).kind
  variable_kind at x role type i there n =
      let v = n.variable in
      let so = declared_so i v n.is in
      let here : IsVariable p at x v.role v.declared = subst (λ a. IsVariable p a x v.role v.declared) n.same_place (subst (λ y. IsVariable p v.place y v.role v.declared) n.same_name so) in
      ap kind_at (get_map (λ (y : FlatVariable). judged_declared y.declared) m.variables i v n.is) ∙ ap (λ t. (judged_declared t).kind) (one_type p at x v.role role v.declared type here there)

-- Definitions.
-- what is judged at a place of the list
after_at : (vs : List Judged) (ds : List FlatFormula) (js : List Judged) (k : ℕ) (d : FlatFormula) → slice_get ds k ≡ Some d →
    (before : List Judged) × (length before ≡ length js + k) × (slice_get (judged_after vs js ds) (length js + k) ≡ Some (judge (leaf_kind vs before) false d.value))
    × ((i : ℕ) (j : Judged) → slice_get before i ≡ Some j → slice_get (judged_after vs js ds) i ≡ Some j)
after_at vs [] js k d e = cc
after_at vs (f ∷ ds) js zero d e =
    let same : f ≡ d = cc in
    let j = judge (leaf_kind vs js) false f.value in
    let none : length js ≡ length js + 0 = omega arith in (
      js,
      none,
      subst (λ n. slice_get (judged_after vs js (f ∷ ds)) n ≡ Some (judge (leaf_kind vs js) false d.value)) none
          (after_keeps vs (js ++ j ∷ []) ds (length js) (judge (leaf_kind vs js) false d.value) (get_end js j ∙ ap (λ (g : FlatFormula). Some (judge (leaf_kind vs js) false g.value)) same)),
      after_keeps vs js (f ∷ ds),
    )
after_at vs (f ∷ ds) js (suc k) d e =
    let j = judge (leaf_kind vs js) false f.value in
    let more = after_at vs ds (js ++ j ∷ []) k d e in
    let longer = length_end js j in
    let same : length (js ++ j ∷ []) + k ≡ length js + suc k = omega arith in
    (more.0, more.1 ∙ same, subst (λ n. slice_get (judged_after vs js (f ∷ ds)) n ≡ Some (judge (leaf_kind vs more.0) false d.value)) same more.2, more.3)

-- a definition is judged as an expression of the model
pub definition_judged : (m : FlatModel) (k : ℕ) (f : FlatFormula) → slice_get m.definitions k ≡ Some f → Each (IsBefore k) (leaves_in f.value) →
    slice_get (judged_definitions m) k ≡ Some (judged_in m false f.value)
definition_judged m k f e before =
    let vs = judged_variables m.variables in
    let there = after_at vs m.definitions [] k f e in
    let place : 0 + k ≡ k = omega arith in
    let many : length there.0 ≡ k = there.1 ∙ place in
    subst (λ n. slice_get (judged_definitions m) n ≡ Some (judge (leaf_kind vs there.0) false f.value)) place there.2
    ∙ ap Some (judge_agrees (leaf_kind vs there.0) (kind_of_leaf m) false f.value (all_leaves (λ l. leaf_kind vs there.0 l ≡ kind_of_leaf m l) f.value (each_more (IsBefore k) (λ l. leaf_kind vs there.0 l ≡ kind_of_leaf m l) (leaves_in f.value) (same vs there.0 many there.3) before)))
  where
    same : (vs js : List Judged) → length js ≡ k → ((i : ℕ) (j : Judged) → slice_get js i ≡ Some j → slice_get (judged_definitions m) i ≡ Some j) → (l : FlatLeaf) → IsBefore k l → leaf_kind (judged_variables m.variables) js l ≡ kind_of_leaf m l
    same vs js many keeps (flat_variable i) h = refl
    same vs js many keeps (flat_symbol i) h = refl
    same vs js many keeps (flat_definition i) h =
        let x : (j : Judged) × (slice_get js i ≡ Some j) = get_within js i (omega arith) in
        ap kind_at (x.1 ∙ sym (keeps i x.0 x.1))

mutual
  -- two facts of each leaf
  pub all_both : {L : Type 0} (P Q : L → Type 0) (t : Tree L) → AllLeaves P t → AllLeaves Q t → AllLeaves (λ l. P l × Q l) t
  all_both P Q (is_truth b) h g = tt
  all_both P Q (is_number n) h g = tt
  all_both P Q (leaf l) h g = (h, g)
  all_both P Q (not_of a) h g = all_both P Q a h g
  all_both P Q (negate a) h g = all_both P Q a h g
  all_both P Q (next_of a) h g = all_both P Q a h g
  all_both P Q (binary o a b) h g = (all_both P Q a h.0 g.0, all_both P Q b h.1 g.1)
  all_both P Q (choice c a b) h g = (all_both P Q c h.0 g.0, all_both P Q a h.1 g.1, all_both P Q b h.2 g.2)
  all_both P Q (case_of bs) h g = branches_both P Q bs h g
  all_both P Q (set_of ts) h g = trees_both P Q ts h g
  all_both P Q (span lo hi) h g = tt

  trees_both : {L : Type 0} (P Q : L → Type 0) (ts : Trees L) → AllLeavesOfTrees P ts → AllLeavesOfTrees Q ts → AllLeavesOfTrees (λ l. P l × Q l) ts
  trees_both P Q no_tree h g = tt
  trees_both P Q (tree_then t ts) h g = (all_both P Q t h.0 g.0, trees_both P Q ts h.1 g.1)

  branches_both : {L : Type 0} (P Q : L → Type 0) (bs : Branches L) → AllLeavesOfBranches P bs → AllLeavesOfBranches Q bs → AllLeavesOfBranches (λ l. P l × Q l) bs
  branches_both P Q no_branch h g = tt
  branches_both P Q (branch_then c a bs) h g = (all_both P Q c h.0 g.0, all_both P Q a h.1 g.1, branches_both P Q bs h.2 g.2)
