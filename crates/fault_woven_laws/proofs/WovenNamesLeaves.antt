-- Leaves and `next` in trees whose leaves are changed, and in trees with no `next`.
use Rattle.std.proofs.Common.{◌≡◌, false, ◌||◌, List, [], ◌++◌, refl}
use Rattle.smv_language.specs.Tree.{Tree, Trees, Branches, truth as is_truth, number as is_number, leaf, not_of, negate, next_of, binary, choice, case_of, set_of, span, no_tree, tree_then, no_branch, branch_then}
use Rattle.smv_language.specs.Trace.{Each}
use Rattle.smv_flat_laws.specs.NameResolution.{leaves_in, trees_leaves, branches_leaves, has_next, trees_have_next, branches_have_next}
use Rattle.smv_flat_laws.specs.Rules.{next_under_next, trees_next_under, branches_next_under, leaves_under, trees_leaves_under, branches_leaves_under}
use Rattle.smv_flat_laws.proofs.Reaches.{each_left, each_right}
use Rattle.smv_flat_laws.proofs.Conditions.{each_join}
use Rattle.smv_flat_laws.proofs.Lists.{each_more}
use Rattle.fault_weave.specs.WovenProgram.{tree_map_both, trees_map_both, branches_map_both}
use Rattle.std.proofs.lemmas.Bool.{or_parts as neither}

-- of three parts
pub join_three : {A : Type 0} (P : A → Type 0) (xs ys zs : List A) → Each P xs → Each P ys → Each P zs → Each P (xs ++ (ys ++ zs))
join_three P xs ys zs h k l = each_join P xs (ys ++ zs) h (each_join P ys zs k l)

parts_three : {A : Type 0} (P : A → Type 0) (xs ys zs : List A) → Each P (xs ++ (ys ++ zs)) → Each P xs × (Each P ys × Each P zs)
parts_three P xs ys zs h =
    let more : Each P (ys ++ zs) = each_right P xs (ys ++ zs) h in (each_left P xs (ys ++ zs) h, (each_left P ys zs more, each_right P ys zs more))

-- what holds of each leaf by either change
module _ {L M : Type 0} (R : M → Type 0) where
  abbrev Both : (L → M) → (L → M) → L → Type 0
  Both f g l = R (f l) × R (g l)

  mutual
    pub both_leaves : (f g : L → M) (t : Tree L) → Each (Both f g) (leaves_in t) → Each R (leaves_in (tree_map_both f g t))
    both_leaves f g (is_truth b) h = tt
    both_leaves f g (is_number n) h = tt
    both_leaves f g (leaf l) h = (h.0.0, tt)
    both_leaves f g (not_of a) h = both_leaves f g a h
    both_leaves f g (negate a) h = both_leaves f g a h
    both_leaves f g (next_of a) h = both_leaves g g a (each_more (Both f g) (Both g g) (leaves_in a) (λ l k. (k.1, k.1)) h)
    both_leaves f g (binary o a b) h =
        each_join R (leaves_in (tree_map_both f g a)) (leaves_in (tree_map_both f g b)) (both_leaves f g a (each_left (Both f g) (leaves_in a) (leaves_in b) h)) (both_leaves f g b (each_right (Both f g) (leaves_in a) (leaves_in b) h))
    both_leaves f g (choice c a b) h =
        let k = parts_three (Both f g) (leaves_in c) (leaves_in a) (leaves_in b) h in
        join_three R (leaves_in (tree_map_both f g c)) (leaves_in (tree_map_both f g a)) (leaves_in (tree_map_both f g b)) (both_leaves f g c k.0) (both_leaves f g a k.1.0) (both_leaves f g b k.1.1)
    both_leaves f g (case_of bs) h = both_branches f g bs h
    both_leaves f g (set_of ts) h = both_trees f g ts h
    both_leaves f g (span lo hi) h = tt

    both_trees : (f g : L → M) (ts : Trees L) → Each (Both f g) (trees_leaves ts) → Each R (trees_leaves (trees_map_both f g ts))
    both_trees f g no_tree h = tt
    both_trees f g (tree_then t ts) h =
        each_join R (leaves_in (tree_map_both f g t)) (trees_leaves (trees_map_both f g ts)) (both_leaves f g t (each_left (Both f g) (leaves_in t) (trees_leaves ts) h)) (both_trees f g ts (each_right (Both f g) (leaves_in t) (trees_leaves ts) h))

    both_branches : (f g : L → M) (bs : Branches L) → Each (Both f g) (branches_leaves bs) → Each R (branches_leaves (branches_map_both f g bs))
    both_branches f g no_branch h = tt
    both_branches f g (branch_then c a bs) h =
        let k = parts_three (Both f g) (leaves_in c) (leaves_in a) (branches_leaves bs) h in
        join_three R (leaves_in (tree_map_both f g c)) (leaves_in (tree_map_both f g a)) (branches_leaves (branches_map_both f g bs)) (both_leaves f g c k.0) (both_leaves f g a k.1.0) (both_branches f g bs k.1.1)

  mutual
    pub under_leaves : (f g : L → M) (t : Tree L) → Each (λ l. R (g l)) (leaves_under t) → Each R (leaves_under (tree_map_both f g t))
    under_leaves f g (is_truth b) h = tt
    under_leaves f g (is_number n) h = tt
    under_leaves f g (leaf l) h = tt
    under_leaves f g (not_of a) h = under_leaves f g a h
    under_leaves f g (negate a) h = under_leaves f g a h
    under_leaves f g (next_of a) h = both_leaves g g a (each_more (λ l. R (g l)) (Both g g) (leaves_in a) (λ l k. (k, k)) h)
    under_leaves f g (binary o a b) h =
        each_join R (leaves_under (tree_map_both f g a)) (leaves_under (tree_map_both f g b)) (under_leaves f g a (each_left (λ l. R (g l)) (leaves_under a) (leaves_under b) h)) (under_leaves f g b (each_right (λ l. R (g l)) (leaves_under a) (leaves_under b) h))
    under_leaves f g (choice c a b) h =
        let k = parts_three (λ l. R (g l)) (leaves_under c) (leaves_under a) (leaves_under b) h in
        join_three R (leaves_under (tree_map_both f g c)) (leaves_under (tree_map_both f g a)) (leaves_under (tree_map_both f g b)) (under_leaves f g c k.0) (under_leaves f g a k.1.0) (under_leaves f g b k.1.1)
    under_leaves f g (case_of bs) h = under_branches f g bs h
    under_leaves f g (set_of ts) h = under_trees f g ts h
    under_leaves f g (span lo hi) h = tt

    under_trees : (f g : L → M) (ts : Trees L) → Each (λ l. R (g l)) (trees_leaves_under ts) → Each R (trees_leaves_under (trees_map_both f g ts))
    under_trees f g no_tree h = tt
    under_trees f g (tree_then t ts) h =
        each_join R (leaves_under (tree_map_both f g t)) (trees_leaves_under (trees_map_both f g ts)) (under_leaves f g t (each_left (λ l. R (g l)) (leaves_under t) (trees_leaves_under ts) h)) (under_trees f g ts (each_right (λ l. R (g l)) (leaves_under t) (trees_leaves_under ts) h))

    under_branches : (f g : L → M) (bs : Branches L) → Each (λ l. R (g l)) (branches_leaves_under bs) → Each R (branches_leaves_under (branches_map_both f g bs))
    under_branches f g no_branch h = tt
    under_branches f g (branch_then c a bs) h =
        let k = parts_three (λ l. R (g l)) (leaves_under c) (leaves_under a) (branches_leaves_under bs) h in
        join_three R (leaves_under (tree_map_both f g c)) (leaves_under (tree_map_both f g a)) (branches_leaves_under (branches_map_both f g bs)) (under_leaves f g c k.0) (under_leaves f g a k.1.0) (under_branches f g bs k.1.1)

-- `next` stands where it stood
mutual
  pub next_same : {L M : Type 0} (f g : L → M) (t : Tree L) → has_next (tree_map_both f g t) ≡ has_next t
  next_same f g (is_truth b) = refl
  next_same f g (is_number n) = refl
  next_same f g (leaf l) = refl
  next_same f g (not_of a) = next_same f g a
  next_same f g (negate a) = next_same f g a
  next_same f g (next_of a) = refl
  next_same f g (binary o a b) = λ j. next_same f g a j || next_same f g b j
  next_same f g (choice c a b) = λ j. next_same f g c j || (next_same f g a j || next_same f g b j)
  next_same f g (case_of bs) = branches_next_same f g bs
  next_same f g (set_of ts) = trees_next_same f g ts
  next_same f g (span lo hi) = refl

  trees_next_same : {L M : Type 0} (f g : L → M) (ts : Trees L) → trees_have_next (trees_map_both f g ts) ≡ trees_have_next ts
  trees_next_same f g no_tree = refl
  trees_next_same f g (tree_then t ts) = λ j. next_same f g t j || trees_next_same f g ts j

  branches_next_same : {L M : Type 0} (f g : L → M) (bs : Branches L) → branches_have_next (branches_map_both f g bs) ≡ branches_have_next bs
  branches_next_same f g no_branch = refl
  branches_next_same f g (branch_then c a bs) = λ j. next_same f g c j || (next_same f g a j || branches_next_same f g bs j)

mutual
  pub under_same : {L M : Type 0} (f g : L → M) (t : Tree L) → next_under_next (tree_map_both f g t) ≡ next_under_next t
  under_same f g (is_truth b) = refl
  under_same f g (is_number n) = refl
  under_same f g (leaf l) = refl
  under_same f g (not_of a) = under_same f g a
  under_same f g (negate a) = under_same f g a
  under_same f g (next_of a) = next_same g g a
  under_same f g (binary o a b) = λ j. under_same f g a j || under_same f g b j
  under_same f g (choice c a b) = λ j. under_same f g c j || (under_same f g a j || under_same f g b j)
  under_same f g (case_of bs) = branches_under_same f g bs
  under_same f g (set_of ts) = trees_under_same f g ts
  under_same f g (span lo hi) = refl

  trees_under_same : {L M : Type 0} (f g : L → M) (ts : Trees L) → trees_next_under (trees_map_both f g ts) ≡ trees_next_under ts
  trees_under_same f g no_tree = refl
  trees_under_same f g (tree_then t ts) = λ j. under_same f g t j || trees_under_same f g ts j

  branches_under_same : {L M : Type 0} (f g : L → M) (bs : Branches L) → branches_next_under (branches_map_both f g bs) ≡ branches_next_under bs
  branches_under_same f g no_branch = refl
  branches_under_same f g (branch_then c a bs) = λ j. under_same f g c j || (under_same f g a j || branches_under_same f g bs j)

-- with no `next` at all nothing stands under one
mutual
  pub none_under : {L : Type 0} (t : Tree L) → has_next t ≡ false → (next_under_next t ≡ false) × (leaves_under t ≡ [])
  none_under (is_truth b) h = (refl, refl)
  none_under (is_number n) h = (refl, refl)
  none_under (leaf l) h = (refl, refl)
  none_under (not_of a) h = none_under a h
  none_under (negate a) h = none_under a h
  none_under (next_of a) h = cc
  none_under (binary o a b) h =
      let s = neither (has_next a) (has_next b) h in
      let x = none_under a s.0 in
      let y = none_under b s.1 in ((λ j. x.0 j || y.0 j), (λ j. x.1 j ++ y.1 j))
  none_under (choice c a b) h =
      let s = neither (has_next c) (has_next a || has_next b) h in
      let r = neither (has_next a) (has_next b) s.1 in
      let x = none_under c s.0 in
      let y = none_under a r.0 in
      let z = none_under b r.1 in ((λ j. x.0 j || (y.0 j || z.0 j)), (λ j. x.1 j ++ (y.1 j ++ z.1 j)))
  none_under (case_of bs) h = none_under_branches bs h
  none_under (set_of ts) h = none_under_trees ts h
  none_under (span lo hi) h = (refl, refl)

  none_under_trees : {L : Type 0} (ts : Trees L) → trees_have_next ts ≡ false → (trees_next_under ts ≡ false) × (trees_leaves_under ts ≡ [])
  none_under_trees no_tree h = (refl, refl)
  none_under_trees (tree_then t ts) h =
      let s = neither (has_next t) (trees_have_next ts) h in
      let x = none_under t s.0 in
      let y = none_under_trees ts s.1 in ((λ j. x.0 j || y.0 j), (λ j. x.1 j ++ y.1 j))

  none_under_branches : {L : Type 0} (bs : Branches L) → branches_have_next bs ≡ false → (branches_next_under bs ≡ false) × (branches_leaves_under bs ≡ [])
  none_under_branches no_branch h = (refl, refl)
  none_under_branches (branch_then c a bs) h =
      let s = neither (has_next c) (has_next a || branches_have_next bs) h in
      let r = neither (has_next a) (branches_have_next bs) s.1 in
      let x = none_under c s.0 in
      let y = none_under a r.0 in
      let z = none_under_branches bs r.1 in ((λ j. x.0 j || (y.0 j || z.0 j)), (λ j. x.1 j ++ (y.1 j ++ z.1 j)))
