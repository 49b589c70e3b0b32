-- The flagged names of an expression are its names, and those with the flag stand under `next`.
use Rattle.std.proofs.Common.{◌≡◌, Bool, true, false, List, [], ◌∷◌, ◌++◌, refl, ◌∙◌, ap}
use Rattle.std.proofs.lemmas.List.{map-append}
use Rattle.smv_language.specs.Tree.{Tree, Trees, Branches, truth, number, leaf, not_of, negate, next_of, binary, choice, case_of, set_of, span, no_tree, tree_then, no_branch, branch_then}
use Rattle.smv_flat_laws.specs.NameResolution.{leaves_in, trees_leaves, branches_leaves}
use Rattle.smv_flat_laws.specs.Rules.{leaves_under, trees_leaves_under, branches_leaves_under}
use Rattle.smv_scope.specs.NextFlags.{flagged, trees_flagged, branches_flagged}
use Rattle.smv_flat.specs.Verdicts.{names_in, names_under}

names_joined : {L : Type 0} (us vs : List (L × Bool)) → names_in (us ++ vs) ≡ names_in us ++ names_in vs
names_joined us vs = map-append (λ u. u.0) us vs

both : {L : Type 0} (us vs : List (L × Bool)) (xs ys : List L) → names_in us ≡ xs → names_in vs ≡ ys → names_in (us ++ vs) ≡ xs ++ ys
both us vs xs ys e f = names_joined us vs ∙ ap (λ zs. zs ++ names_in vs) e ∙ ap (λ zs. xs ++ zs) f

mutual
  pub flagged_names : {L : Type 0} (b : Bool) (t : Tree L) → names_in (flagged b t) ≡ leaves_in t
  flagged_names b (truth x) = refl
  flagged_names b (number n) = refl
  flagged_names b (leaf l) = refl
  flagged_names b (not_of t) = flagged_names b t
  flagged_names b (negate t) = flagged_names b t
  flagged_names b (next_of t) = flagged_names true t
  flagged_names b (binary o t u) = both (flagged b t) (flagged b u) _ _ (flagged_names b t) (flagged_names b u)
  flagged_names b (choice c t u) =
      both (flagged b c) (flagged b t ++ flagged b u) _ _ (flagged_names b c) (both (flagged b t) (flagged b u) _ _ (flagged_names b t) (flagged_names b u))
  flagged_names b (case_of bs) = branches_names b bs
  flagged_names b (set_of ts) = trees_names b ts
  flagged_names b (span lo hi) = refl

  trees_names : {L : Type 0} (b : Bool) (ts : Trees L) → names_in (trees_flagged b ts) ≡ trees_leaves ts
  trees_names b no_tree = refl
  trees_names b (tree_then t ts) = both (flagged b t) (trees_flagged b ts) _ _ (flagged_names b t) (trees_names b ts)

  branches_names : {L : Type 0} (b : Bool) (bs : Branches L) → names_in (branches_flagged b bs) ≡ branches_leaves bs
  branches_names b no_branch = refl
  branches_names b (branch_then c t bs) =
      both (flagged b c) (flagged b t ++ branches_flagged b bs) _ _ (flagged_names b c) (both (flagged b t) (branches_flagged b bs) _ _ (flagged_names b t) (branches_names b bs))

pub under_joined : {L : Type 0} (us vs : List (L × Bool)) → names_under (us ++ vs) ≡ names_under us ++ names_under vs
under_joined [] vs = refl
under_joined ((l, true) ∷ us) vs = ap (λ ls. l ∷ ls) (under_joined us vs)
under_joined ((l, false) ∷ us) vs = under_joined us vs

under : {L : Type 0} (us vs : List (L × Bool)) (xs ys : List L) → names_under us ≡ xs → names_under vs ≡ ys → names_under (us ++ vs) ≡ xs ++ ys
under us vs xs ys e f = under_joined us vs ∙ ap (λ zs. zs ++ names_under vs) e ∙ ap (λ zs. xs ++ zs) f

-- under `next` each name stands under it
mutual
  all_under : {L : Type 0} (t : Tree L) → names_under (flagged true t) ≡ leaves_in t
  all_under (truth x) = refl
  all_under (number n) = refl
  all_under (leaf l) = refl
  all_under (not_of t) = all_under t
  all_under (negate t) = all_under t
  all_under (next_of t) = all_under t
  all_under (binary o t u) = under (flagged true t) (flagged true u) _ _ (all_under t) (all_under u)
  all_under (choice c t u) =
      under (flagged true c) (flagged true t ++ flagged true u) _ _ (all_under c) (under (flagged true t) (flagged true u) _ _ (all_under t) (all_under u))
  all_under (case_of bs) = branches_all_under bs
  all_under (set_of ts) = trees_all_under ts
  all_under (span lo hi) = refl

  trees_all_under : {L : Type 0} (ts : Trees L) → names_under (trees_flagged true ts) ≡ trees_leaves ts
  trees_all_under no_tree = refl
  trees_all_under (tree_then t ts) = under (flagged true t) (trees_flagged true ts) _ _ (all_under t) (trees_all_under ts)

  branches_all_under : {L : Type 0} (bs : Branches L) → names_under (branches_flagged true bs) ≡ branches_leaves bs
  branches_all_under no_branch = refl
  branches_all_under (branch_then c t bs) =
      under (flagged true c) (flagged true t ++ branches_flagged true bs) _ _ (all_under c) (under (flagged true t) (branches_flagged true bs) _ _ (all_under t) (branches_all_under bs))

mutual
  pub flagged_under : {L : Type 0} (t : Tree L) → names_under (flagged false t) ≡ leaves_under t
  flagged_under (truth x) = refl
  flagged_under (number n) = refl
  flagged_under (leaf l) = refl
  flagged_under (not_of t) = flagged_under t
  flagged_under (negate t) = flagged_under t
  flagged_under (next_of t) = all_under t
  flagged_under (binary o t u) = under (flagged false t) (flagged false u) _ _ (flagged_under t) (flagged_under u)
  flagged_under (choice c t u) =
      under (flagged false c) (flagged false t ++ flagged false u) _ _ (flagged_under c) (under (flagged false t) (flagged false u) _ _ (flagged_under t) (flagged_under u))
  flagged_under (case_of bs) = branches_under bs
  flagged_under (set_of ts) = trees_under ts
  flagged_under (span lo hi) = refl

  trees_under : {L : Type 0} (ts : Trees L) → names_under (trees_flagged false ts) ≡ trees_leaves_under ts
  trees_under no_tree = refl
  trees_under (tree_then t ts) = under (flagged false t) (trees_flagged false ts) _ _ (flagged_under t) (trees_under ts)

  branches_under : {L : Type 0} (bs : Branches L) → names_under (branches_flagged false bs) ≡ branches_leaves_under bs
  branches_under no_branch = refl
  branches_under (branch_then c t bs) =
      under (flagged false c) (flagged false t ++ branches_flagged false bs) _ _ (flagged_under c) (under (flagged false t) (branches_flagged false bs) _ _ (flagged_under t) (branches_under bs))
