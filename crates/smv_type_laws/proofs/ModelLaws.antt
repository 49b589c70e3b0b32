-- In a typed model the names have values of their kinds, and so have its expressions.
use Rattle.std.proofs.Common.{◌≡◌, ℕ, zero, suc, ◌+◌, ◌<◌, arith, Bool, false, List, [], ◌∷◌, ◌++◌, length, Option, Some, refl, sym, ap, ◌∙◌, subst}
use Rattle.std.specs.Prelude.{slice_get}
use Rattle.smv_language.specs.Language.{Tree, Trees, Branches, leaf, not_of, negate, next_of, binary, choice, case_of, set_of, span, no_tree, tree_then, no_branch, branch_then, Text, Each, EachBoth, Value, symbol, Values, one, evaluate, AllLeaves, AllLeavesOfTrees, AllLeavesOfBranches, FlatLeaf, flat_variable, flat_symbol, flat_definition, FlatFormula, flat_leaves, definition_gives, table_after}
use Rattle.smv_language.specs.Tree.{truth as is_truth, number as is_number}
use Rattle.smv_flat_laws.proofs.Lists.{length_end}
use Rattle.smv_type_laws.specs.ExpressionKinds.{Kind, Judged, judge, judge_trees, judge_conditions, judge_values}
use Rattle.smv_type_laws.specs.Models.{leaf_kind, judged_after}
use Rattle.smv_type_laws.specs.Laws.{IsKnown, AreInOrder}
use Rattle.smv_type_laws.proofs.Parts.{Alone}
use Rattle.smv_type_laws.proofs.TreeLaws.{AtLeaf, Hold, sound, single}
use Rattle.smv_flat_laws.proofs.BothLaws.{both_push}
use Rattle.base_values.proofs.ListLaws.{get_left, get_within}

-- Lists by place.
pub record Both {A B : Type 0} (R : A → B → Type 0) (as' : List A) (bs : List B) (i : ℕ) : Type 0 where
  pub left : A
  pub right : B
  pub is_left : slice_get as' i ≡ Some left
  pub is_right : slice_get bs i ≡ Some right
  pub related : R left right

both_at : {A B : Type 0} (R : A → B → Type 0) (as' : List A) (bs : List B) (i : ℕ) → EachBoth R as' bs → i < length as' → Both R as' bs i
both_at R [] bs i h l = absurd (omega (arith, l))
both_at R (a ∷ as') [] i h l = absurd h
both_at R (a ∷ as') (b ∷ bs) zero h l = record { left = a; right = b; is_left = refl; is_right = refl; related = h.0 }
both_at R (a ∷ as') (b ∷ bs) (suc i) h l =
    let more = both_at R as' bs i h.1 (omega (arith, l)) in
    record { left = more.left; right = more.right; is_left = more.is_left; is_right = more.is_right; related = more.related }

pub each_end : {A : Type 0} (P : A → Type 0) (xs : List A) (x : A) → Each P (xs ++ x ∷ []) → Each P xs × P x
each_end P [] x h = (tt, h.0)
each_end P (y ∷ xs) x h = let more = each_end P xs x h.1 in ((h.0, more.0), more.1)

-- What is judged so far stays.
pub after_keeps : (vs js : List Judged) (ds : List FlatFormula) (i : ℕ) (j : Judged) → slice_get js i ≡ Some j → slice_get (judged_after vs js ds) i ≡ Some j
after_keeps vs js [] i j e = e
after_keeps vs js (d ∷ ds) i j e = after_keeps vs (js ++ judge (leaf_kind vs js) false d.value ∷ []) ds i j (get_left js _ i j e)

pub each_before : (P : Judged → Type 0) (vs js : List Judged) (ds : List FlatFormula) → Each P (judged_after vs js ds) → Each P js
each_before P vs js [] h = h
each_before P vs js (d ∷ ds) h = let j = judge (leaf_kind vs js) false d.value in (each_end P js j (each_before P vs (js ++ j ∷ []) ds h)).0

pub after_length : (vs js : List Judged) (ds : List FlatFormula) → length (judged_after vs js ds) ≡ length js + length ds
after_length vs js [] = omega arith
after_length vs js (d ∷ ds) =
    let j = judge (leaf_kind vs js) false d.value in
    let e = length_end js j in
    after_length vs (js ++ j ∷ []) ds ∙ ap (λ n. n + length ds) e ∙ omega arith

-- A tree is judged by the kinds of its own leaves.
mutual
  pub judge_agrees : {L : Type 0} (k k' : L → Kind) (sets : Bool) (t : Tree L) → AllLeaves (λ l. k l ≡ k' l) t → judge k sets t ≡ judge k' sets t
  judge_agrees k k' sets (is_truth b) h = refl
  judge_agrees k k' sets (is_number n) h = refl
  judge_agrees k k' sets (leaf l) h = ap (λ (kind : Kind). record { kind = kind; is_set = false; broken = [] }) h
  judge_agrees k k' sets (not_of a) h = rw (judge_agrees k k' false a h) refl
  judge_agrees k k' sets (negate a) h = rw (judge_agrees k k' false a h) refl
  judge_agrees k k' sets (next_of a) h = judge_agrees k k' false a h
  judge_agrees k k' sets (binary o a b) h = rw (judge_agrees k k' _ a h.0, judge_agrees k k' _ b h.1) refl
  judge_agrees k k' sets (choice c a b) h = rw (judge_agrees k k' false c h.0, judge_agrees k k' sets a h.1, judge_agrees k k' sets b h.2) refl
  judge_agrees k k' sets (case_of bs) h = rw (conditions_agree k k' bs h, values_agree k k' sets bs h) refl
  judge_agrees k k' sets (set_of ts) h = rw (trees_agree k k' ts h) refl
  judge_agrees k k' sets (span lo hi) h = refl

  trees_agree : {L : Type 0} (k k' : L → Kind) (ts : Trees L) → AllLeavesOfTrees (λ l. k l ≡ k' l) ts → judge_trees k ts ≡ judge_trees k' ts
  trees_agree k k' no_tree h = refl
  trees_agree k k' (tree_then t ts) h = rw (judge_agrees k k' false t h.0, trees_agree k k' ts h.1) refl

  conditions_agree : {L : Type 0} (k k' : L → Kind) (bs : Branches L) → AllLeavesOfBranches (λ l. k l ≡ k' l) bs → judge_conditions k bs ≡ judge_conditions k' bs
  conditions_agree k k' no_branch h = refl
  conditions_agree k k' (branch_then c a bs) h = rw (judge_agrees k k' false c h.0, conditions_agree k k' bs h.2) refl

  values_agree : {L : Type 0} (k k' : L → Kind) (sets : Bool) (bs : Branches L) → AllLeavesOfBranches (λ l. k l ≡ k' l) bs → judge_values k sets bs ≡ judge_values k' sets bs
  values_agree k k' sets no_branch h = refl
  values_agree k k' sets (branch_then c a bs) h = rw (judge_agrees k k' sets a h.1, values_agree k k' sets bs h.2) refl

mutual
  pub all_leaves_more : {L : Type 0} (P Q : L → Type 0) → ((l : L) → P l → Q l) → (t : Tree L) → AllLeaves P t → AllLeaves Q t
  all_leaves_more P Q f (is_truth b) h = tt
  all_leaves_more P Q f (is_number n) h = tt
  all_leaves_more P Q f (leaf l) h = f l h
  all_leaves_more P Q f (not_of a) h = all_leaves_more P Q f a h
  all_leaves_more P Q f (negate a) h = all_leaves_more P Q f a h
  all_leaves_more P Q f (next_of a) h = all_leaves_more P Q f a h
  all_leaves_more P Q f (binary o a b) h = (all_leaves_more P Q f a h.0, all_leaves_more P Q f b h.1)
  all_leaves_more P Q f (choice c a b) h = (all_leaves_more P Q f c h.0, all_leaves_more P Q f a h.1, all_leaves_more P Q f b h.2)
  all_leaves_more P Q f (case_of bs) h = branches_more P Q f bs h
  all_leaves_more P Q f (set_of ts) h = trees_more P Q f ts h
  all_leaves_more P Q f (span lo hi) h = tt

  trees_more : {L : Type 0} (P Q : L → Type 0) → ((l : L) → P l → Q l) → (ts : Trees L) → AllLeavesOfTrees P ts → AllLeavesOfTrees Q ts
  trees_more P Q f no_tree h = tt
  trees_more P Q f (tree_then t ts) h = (all_leaves_more P Q f t h.0, trees_more P Q f ts h.1)

  branches_more : {L : Type 0} (P Q : L → Type 0) → ((l : L) → P l → Q l) → (bs : Branches L) → AllLeavesOfBranches P bs → AllLeavesOfBranches Q bs
  branches_more P Q f no_branch h = tt
  branches_more P Q f (branch_then c a bs) h = (all_leaves_more P Q f c h.0, all_leaves_more P Q f a h.1, branches_more P Q f bs h.2)

-- Names have values of their kinds.
abbrev pub ValueHolds : Judged → Value → Type 0
ValueHolds j x = AtLeaf j.kind (Some (one x))

abbrev pub GivenHolds : Judged → Option Values → Type 0
GivenHolds j r = AtLeaf j.kind r

abbrev pub IsRight : Judged → Type 0
IsRight j = j.broken ≡ []

pub names_hold : (symbols : List Text) (v : List Value) (vs js : List Judged) (table : List (Option Values)) → EachBoth ValueHolds vs v → EachBoth GivenHolds js table →
    Hold FlatLeaf (leaf_kind vs js) (IsKnown (length vs) (length symbols) (length js)) (flat_leaves symbols v table)
names_hold symbols v vs js table hv hj (flat_variable i) known =
    let b = both_at ValueHolds vs v i hv known in
    rw (b.is_left, b.is_right) b.related
names_hold symbols v vs js table hv hj (flat_symbol i) known =
    let x = get_within symbols i known in
    rw x.1 (record { bounded = tt; gives = record { value = symbol x.0; is = refl; of_kind = record { class = tt; lies = tt } } })
names_hold symbols v vs js table hv hj (flat_definition i) known =
    let b = both_at GivenHolds js table i hj known in
    rw (b.is_left, b.is_right) b.related

at_leaf : (j : Judged) (given : Option Values) → Alone j given → AtLeaf j.kind given
at_leaf j given a = record { bounded = a.bounded; gives = a.gives }

pub table_holds : (symbols : List Text) (v : List Value) (vs : List Judged) → EachBoth ValueHolds vs v → (ds : List FlatFormula) (js : List Judged) (table : List (Option Values)) →
    EachBoth GivenHolds js table → Each IsRight (judged_after vs js ds) → AreInOrder (length vs) (length symbols) (length js) ds →
    EachBoth GivenHolds (judged_after vs js ds) (table_after symbols v table ds)
table_holds symbols v vs hv [] js table hj r o = hj
table_holds symbols v vs hv (d ∷ ds) js table hj r o =
    let k = leaf_kind vs js in
    let j = judge k false d.value in
    let leaves = flat_leaves symbols v table in
    let right = (each_end IsRight js j (each_before IsRight vs (js ++ j ∷ []) ds r)).1 in
    let hold = names_hold symbols v vs js table hv hj in
    let good = IsKnown (length vs) (length symbols) (length js) in
    let given = single k d.value (evaluate leaves leaves d.value) (sound FlatLeaf k good leaves leaves hold hold false d.value o.0) right in
    table_holds symbols v vs hv ds (js ++ j ∷ []) (table ++ definition_gives symbols v table d ∷ []) (both_push GivenHolds js table j (evaluate leaves leaves d.value) hj (at_leaf j _ given)) r
    (subst (λ n. AreInOrder (length vs) (length symbols) n ds) (sym (length_end js j)) o.1)
