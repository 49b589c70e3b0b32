-- A top event that keeps every rule over the program is one of the extension's model with history.
use Rattle.std.proofs.Common.{◌≡◌, ℕ, ◌≤◌, ◌+◌, Bool, true, false, List, [], ◌∷◌, ◌++◌, length, Option, Some, None, refl, sym, ap, ◌∙◌, arith}
use Rattle.std.specs.Prelude.{nat_lt}
use Rattle.std.proofs.lemmas.Bool.{ltb-false, false_from_ne_true as not_true}
use Rattle.std.proofs.lemmas.List.{length-append}
use Rattle.base_values.specs.declared.limits.TheConstants.{MOST_TOP_COST}
use Rattle.smv_language.specs.Language.{Tree, Trees, Branches, leaf, not_of, negate, next_of, binary, choice, case_of, set_of, span, no_tree, tree_then, no_branch, branch_then, tree_map, trees_map, branches_map, Path, Formula, ProgramTree, Place, FlatLeaf, FlatVariable, FlatModel}
use Rattle.smv_language.specs.Tree.{truth as is_truth, number as is_number}
use Rattle.smv_flat_laws.specs.History.{Mode, bit_variables, with_history}
use Rattle.smv_flat_laws.specs.NameResolution.{leaves_in, has_next, trees_have_next, branches_have_next, Resolver, IsSound, IsResolved}
use Rattle.smv_flat_laws.specs.Rules.{next_here, input_here, IsAccepted, GivesInput}
use Rattle.smv_flat_laws.specs.Model.{IsFlatOf}
use Rattle.smv_flat_laws.proofs.Lists.{leaves_map}
use Rattle.smv_type_laws.specs.Costs.{cost_of}
use Rattle.smv_type_laws.specs.ExpressionKinds.{truth_class, Judged, KindRule, not_boolean, unless_class}
use Rattle.smv_type_laws.specs.Laws.{IsKnown, ReadsOwn, IsClosed}
use Rattle.smv_type_laws.specs.Models.{kind_of_leaf, judged_in, broken_condition, least_after, least, size_fault, top_fault}
use Rattle.smv_type_laws.proofs.ClosedLaws.{models_closed}
use Rattle.smv_type_laws.proofs.ModelLaws.{all_leaves_more}
use Rattle.smv_type_laws.proofs.Parts.{none_second}
use Rattle.smv_type_laws.proofs.TreeLaws.{no_set}
use Rattle.fault_weave.specs.WovenProgram.{woven}
use Rattle.sat_encoding_laws.specs.Inputs.{names_input, reading_after, reads_input}
use Rattle.sat_encoding_laws.specs.Encodable.{is_input_name}
use Rattle.sat_encoding_laws.proofs.FlatInputs.{none_any, given_each, leaf_input}
use Rattle.sat_encoding_laws.proofs.HistoryEncodable.{known_wider, same_name, same_reading}
use Rattle.sat_encoding_laws.proofs.NameMeans.{each_leaf, same_any}
use Rattle.fault_woven_laws.specs.Tops.{IsJudgedAlike, IsTopOf}
use Rattle.fault_woven_laws.specs.WovenTopsLaws.{TopsFitModels}
use Rattle.fault_woven_laws.proofs.Names.{values_kept}
use Rattle.fault_woven_laws.proofs.Judging.{woven_alike, woven_own, whole_alike}
use Rattle.smv_flat_laws.specs.ValueRules.{KeepsValue}
use Rattle.smv_language.proofs.EachLaws.{each_not}

-- `next` stands where it stood in a tree with its leaves changed
mutual
  next_mapped : {L M : Type 0} (f : L → M) (t : Tree L) → has_next (tree_map f t) ≡ has_next t
  next_mapped f (is_truth b) = refl
  next_mapped f (is_number n) = refl
  next_mapped f (leaf l) = refl
  next_mapped f (not_of a) = next_mapped f a
  next_mapped f (negate a) = next_mapped f a
  next_mapped f (next_of a) = refl
  next_mapped f (binary o a b) = rw (next_mapped f a, next_mapped f b) refl
  next_mapped f (choice c a b) = rw (next_mapped f c, next_mapped f a, next_mapped f b) refl
  next_mapped f (case_of bs) = branches_next f bs
  next_mapped f (set_of ts) = trees_next f ts
  next_mapped f (span lo hi) = refl

  trees_next : {L M : Type 0} (f : L → M) (ts : Trees L) → trees_have_next (trees_map f ts) ≡ trees_have_next ts
  trees_next f no_tree = refl
  trees_next f (tree_then t ts) = rw (next_mapped f t, trees_next f ts) refl

  branches_next : {L M : Type 0} (f : L → M) (bs : Branches L) → branches_have_next (branches_map f bs) ≡ branches_have_next bs
  branches_next f no_branch = refl
  branches_next f (branch_then c a bs) = rw (next_mapped f c, next_mapped f a, branches_next f bs) refl

-- the least rule that is broken, and else that of the size
abbrev told_of : Option KindRule → ℕ → Option KindRule
told_of o cost = elim o [ Some r ↦ Some r | None ↦ size_fault (nat_lt MOST_TOP_COST cost) ]

-- a condition for which nothing is told breaks no rule, and is small
none_told : (rs : List KindRule) (cost : ℕ) → told_of (least rs) cost ≡ None → (rs ≡ []) × (cost ≤ MOST_TOP_COST)
none_told [] cost e = (refl, by (nat_lt MOST_TOP_COST cost) refl e)
  where
    by : (b : Bool) → nat_lt MOST_TOP_COST cost ≡ b → size_fault b ≡ None → cost ≤ MOST_TOP_COST
    by true t h = cc
    by false t h = ltb-false MOST_TOP_COST cost t
none_told (r ∷ rs) cost e = by (least rs) e
  where
    by : (o : Option KindRule) → told_of (least_after r o) cost ≡ None → (r ∷ rs ≡ []) × (cost ≤ MOST_TOP_COST)
    by None h = cc
    by (Some q) h = cc

-- Inputs.
module _ (p : ProgramTree) (accepted : IsAccepted p) (m : FlatModel) (is : IsFlatOf p m) (r : Resolver) (sound : IsSound p m is.written r) where
  -- a name that gives no input is resolved to no input
  quiet_leaf : (at : Place) (name : Path) (l : FlatLeaf) → r at name ≡ Some l → (GivesInput p at name → ⊥) → is_input_name m l ≡ false
  quiet_leaf at name l e none = not_true (is_input_name m l) (λ flag. none (leaf_input p accepted m is at name l (sound at name l e) flag))

  quiet_tree : (at : Place) (e : Formula) (tree : Tree FlatLeaf) → IsResolved (r at) e tree → KeepsValue p at false e → reads_input m tree ≡ false
  quiet_tree at e tree resolved kept =
      none_any (is_input_name m) (leaves_in tree)
      (given_each (λ l. is_input_name m l ≡ false) (λ name. GivesInput p at name → ⊥) (r at) (quiet_leaf at) (leaves_in tree) (leaves_in e)
      (sym (leaves_map Some tree) ∙ ap leaves_in resolved ∙ leaves_map (r at) e) (each_not (GivesInput p at) (leaves_in e) (λ gives. kept input_here (refl, gives))))

-- What reads a model's own names does so with history, and reads no input where it read none.
module _ (m : FlatModel) (fs : List Mode) (closed : IsClosed m) where
  wider : length m.variables ≤ length (m.variables ++ bit_variables 0 fs)
  wider = let all : length (m.variables ++ bit_variables 0 fs) ≡ length m.variables + length (bit_variables 0 fs) = length-append {A = FlatVariable} m.variables (bit_variables 0 fs) in omega (arith, all)

  own_whole : (e : Tree FlatLeaf) → ReadsOwn m e → ReadsOwn (with_history m fs) e
  own_whole e own =
      all_leaves_more (IsKnown (length m.variables) (length m.symbols) (length m.definitions)) (IsKnown (length (m.variables ++ bit_variables 0 fs)) (length m.symbols) (length m.definitions))
      (known_wider (length m.variables) (length (m.variables ++ bit_variables 0 fs)) (length m.symbols) (length m.definitions) wider) e own

  same_input : (l : FlatLeaf) → IsKnown (length m.variables) (length m.symbols) (length m.definitions) l → is_input_name (with_history m fs) l ≡ is_input_name m l
  same_input l known =
      ap (λ flags. names_input (m.variables ++ bit_variables 0 fs) flags l) (same_reading m.variables (bit_variables 0 fs) [] (length m.symbols) 0 m.definitions closed.definitions)
      ∙ same_name m.variables (bit_variables 0 fs) (reading_after m.variables [] m.definitions) (length m.symbols) (length m.definitions) l known

  reads_whole : (e : Tree FlatLeaf) → ReadsOwn m e → reads_input (with_history m fs) e ≡ reads_input m e
  reads_whole e own =
      same_any (is_input_name (with_history m fs)) (is_input_name m) (leaves_in e)
      (each_leaf (λ l. is_input_name (with_history m fs) l ≡ is_input_name m l) e
      (all_leaves_more (IsKnown (length m.variables) (length m.symbols) (length m.definitions)) (λ l. is_input_name (with_history m fs) l ≡ is_input_name m l) same_input e own))

-- what is judged over the model as over the program is a top event of it, where it reads no input
top_made : (m n : FlatModel) (tree other : Tree FlatLeaf) → IsJudgedAlike m tree n other → top_fault m tree ≡ None → ReadsOwn n other → reads_input n other ≡ false → has_next other ≡ false → IsTopOf n other
top_made m n tree other alike told own quiet now =
    let j : Judged = judged_in n false other in
    let none : (broken_condition j ≡ []) × (cost_of other ≤ MOST_TOP_COST) = none_told (broken_condition j) (cost_of other) (alike.fault ∙ told) in
    record {
      fits = record { own = own; no_input = quiet; right = none.0 };
      one_value = no_set (kind_of_leaf n) other (none_second (unless_class truth_class not_boolean j.kind) j.broken none.0);
      no_next = now;
      small = none.1;
    }

pub tops_fit : TopsFitModels
tops_fit p m i w have accepted at top tree woven_tree read kept told =
    let q = woven p i in
    let s : (s : Resolver) × IsSound q w have.woven_flat.written s × IsResolved (s at) top woven_tree = read.after have.woven_flat in
    let closed : IsClosed w = models_closed q w have.woven_flat in
    let own : ReadsOwn w woven_tree = woven_own p m i w have at top tree woven_tree read in
    let quiet : reads_input w woven_tree ≡ false = quiet_tree q accepted w have.woven_flat s.0 s.1 at top woven_tree s.2 (values_kept p i have.weavable at false top kept) in
    let now : has_next woven_tree ≡ false = sym (next_mapped Some woven_tree) ∙ ap has_next s.2 ∙ next_mapped (s.0 at) top ∙ not_true (has_next top) (kept next_here) in (
      top_made m w tree woven_tree (woven_alike p m i w have at top tree woven_tree read) told own quiet now,
      (λ fs. top_made m (with_history w fs) tree woven_tree (whole_alike p m i w have at top tree woven_tree read fs) told (own_whole w fs closed woven_tree own)
          (reads_whole w fs closed woven_tree own ∙ quiet) now),
    )
