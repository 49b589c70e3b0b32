-- The names of an expression, with whether each stands under `next`.
use Rattle.std.proofs.Common.{◌≡◌, Bool, true, false, ◌||◌, List, [], ◌∷◌, ◌++◌, map, refl, ap, ◌∙◌, sym}
use Rattle.std.proofs.lemmas.List.{append-nil, append_assoc, map-append}
use Rattle.smv_language.specs.Tree.{Tree, Trees, Branches, truth, number, leaf, not_of, negate, next_of, binary, choice, case_of, set_of, span, no_tree, tree_then, no_branch, branch_then}
use Rattle.smv_language.specs.ProgramTree.{Path}
use Rattle.smv_flat_laws.specs.NameResolution.{leaves_in, trees_leaves, branches_leaves, has_next, trees_have_next, branches_have_next}
use Rattle.smv_flat_laws.specs.Rules.{leaves_under, trees_leaves_under, branches_leaves_under, next_under_next, trees_next_under, branches_next_under}
use Rattle.smv_scope.specs.NextFlags.{flagged, trees_flagged, branches_flagged}
use Rattle.smv_scope.specs.SeenNames.{Seen, seen_after, seen_after_trees, seen_after_branches}
use Rattle.smv_language.proofs.BoolLaws.{or_assoc}

four : {A : Type 0} (xs ys zs ws : List A) → ((xs ++ ys) ++ zs) ++ ws ≡ xs ++ (ys ++ (zs ++ ws))
four xs ys zs ws = append_assoc (xs ++ ys) zs ws ∙ append_assoc xs ys (zs ++ ws)

pub or_false : (a : Bool) → a ≡ (a || false)
or_false true = refl
or_false false = refl

or_four : (a b c d : Bool) → (((a || b) || c) || d) ≡ (a || (b || (c || d)))
or_four true b c d = refl
or_four false b c d = or_assoc b c d

-- the names that are seen are those that are flagged
mutual
  pub names_seen : (under : Bool) (t : Tree Path) (s : Seen) → (seen_after under t s).names ≡ s.names ++ flagged under t
  names_seen under (truth b) s = sym (append-nil s.names)
  names_seen under (number n) s = sym (append-nil s.names)
  names_seen under (leaf l) s = refl
  names_seen under (not_of a) s = names_seen under a s
  names_seen under (negate a) s = names_seen under a s
  names_seen under (next_of a) s = names_seen true a (record { names = s.names; next = true; nested = s.nested || under })
  names_seen under (binary o a b) s =
      names_seen under b (seen_after under a s)
      ∙ ap (λ xs. xs ++ flagged under b) (names_seen under a s)
      ∙ append_assoc s.names (flagged under a) (flagged under b)
  names_seen under (choice c a b) s =
      names_seen under b (seen_after under a (seen_after under c s))
      ∙ ap (λ xs. xs ++ flagged under b) (names_seen under a (seen_after under c s) ∙ ap (λ xs. xs ++ flagged under a) (names_seen under c s))
      ∙ four s.names (flagged under c) (flagged under a) (flagged under b)
  names_seen under (case_of bs) s = names_seen_branches under bs s
  names_seen under (set_of ts) s = names_seen_trees under ts s
  names_seen under (span lo hi) s = sym (append-nil s.names)

  names_seen_trees : (under : Bool) (ts : Trees Path) (s : Seen) → (seen_after_trees under ts s).names ≡ s.names ++ trees_flagged under ts
  names_seen_trees under no_tree s = sym (append-nil s.names)
  names_seen_trees under (tree_then t ts) s =
      names_seen_trees under ts (seen_after under t s)
      ∙ ap (λ xs. xs ++ trees_flagged under ts) (names_seen under t s)
      ∙ append_assoc s.names (flagged under t) (trees_flagged under ts)

  names_seen_branches : (under : Bool) (bs : Branches Path) (s : Seen) → (seen_after_branches under bs s).names ≡ s.names ++ branches_flagged under bs
  names_seen_branches under no_branch s = sym (append-nil s.names)
  names_seen_branches under (branch_then c a bs) s =
      names_seen_branches under bs (seen_after under a (seen_after under c s))
      ∙ ap (λ xs. xs ++ branches_flagged under bs) (names_seen under a (seen_after under c s) ∙ ap (λ xs. xs ++ flagged under a) (names_seen under c s))
      ∙ four s.names (flagged under c) (flagged under a) (branches_flagged under bs)

true_right : (a : Bool) → true ≡ (a || true)
true_right true = refl
true_right false = refl

-- `next` is seen where it stands
mutual
  pub next_seen : (under : Bool) (t : Tree Path) (s : Seen) → (seen_after under t s).next ≡ (s.next || has_next t)
  next_seen under (truth b) s = or_false s.next
  next_seen under (number n) s = or_false s.next
  next_seen under (leaf l) s = or_false s.next
  next_seen under (not_of a) s = next_seen under a s
  next_seen under (negate a) s = next_seen under a s
  next_seen under (next_of a) s = next_seen true a (record { names = s.names; next = true; nested = s.nested || under }) ∙ true_right s.next
  next_seen under (binary o a b) s =
      next_seen under b (seen_after under a s)
      ∙ ap (λ x. x || has_next b) (next_seen under a s)
      ∙ or_assoc s.next (has_next a) (has_next b)
  next_seen under (choice c a b) s =
      next_seen under b (seen_after under a (seen_after under c s))
      ∙ ap (λ x. x || has_next b) (next_seen under a (seen_after under c s) ∙ ap (λ x. x || has_next a) (next_seen under c s))
      ∙ or_four s.next (has_next c) (has_next a) (has_next b)
  next_seen under (case_of bs) s = next_seen_branches under bs s
  next_seen under (set_of ts) s = next_seen_trees under ts s
  next_seen under (span lo hi) s = or_false s.next

  next_seen_trees : (under : Bool) (ts : Trees Path) (s : Seen) → (seen_after_trees under ts s).next ≡ (s.next || trees_have_next ts)
  next_seen_trees under no_tree s = or_false s.next
  next_seen_trees under (tree_then t ts) s =
      next_seen_trees under ts (seen_after under t s)
      ∙ ap (λ x. x || trees_have_next ts) (next_seen under t s)
      ∙ or_assoc s.next (has_next t) (trees_have_next ts)

  next_seen_branches : (under : Bool) (bs : Branches Path) (s : Seen) → (seen_after_branches under bs s).next ≡ (s.next || branches_have_next bs)
  next_seen_branches under no_branch s = or_false s.next
  next_seen_branches under (branch_then c a bs) s =
      next_seen_branches under bs (seen_after under a (seen_after under c s))
      ∙ ap (λ x. x || branches_have_next bs) (next_seen under a (seen_after under c s) ∙ ap (λ x. x || has_next a) (next_seen under c s))
      ∙ or_four s.next (has_next c) (has_next a) (branches_have_next bs)

-- under `next` each further one is nested
mutual
  nested_under : (t : Tree Path) (s : Seen) → (seen_after true t s).nested ≡ (s.nested || has_next t)
  nested_under (truth b) s = or_false s.nested
  nested_under (number n) s = or_false s.nested
  nested_under (leaf l) s = or_false s.nested
  nested_under (not_of a) s = nested_under a s
  nested_under (negate a) s = nested_under a s
  nested_under (next_of a) s =
      nested_under a (record { names = s.names; next = true; nested = s.nested || true })
      ∙ ap (λ x. x || has_next a) (sym (true_right s.nested)) ∙ true_right s.nested
  nested_under (binary o a b) s =
      nested_under b (seen_after true a s)
      ∙ ap (λ x. x || has_next b) (nested_under a s)
      ∙ or_assoc s.nested (has_next a) (has_next b)
  nested_under (choice c a b) s =
      nested_under b (seen_after true a (seen_after true c s))
      ∙ ap (λ x. x || has_next b) (nested_under a (seen_after true c s) ∙ ap (λ x. x || has_next a) (nested_under c s))
      ∙ or_four s.nested (has_next c) (has_next a) (has_next b)
  nested_under (case_of bs) s = nested_under_branches bs s
  nested_under (set_of ts) s = nested_under_trees ts s
  nested_under (span lo hi) s = or_false s.nested

  nested_under_trees : (ts : Trees Path) (s : Seen) → (seen_after_trees true ts s).nested ≡ (s.nested || trees_have_next ts)
  nested_under_trees no_tree s = or_false s.nested
  nested_under_trees (tree_then t ts) s =
      nested_under_trees ts (seen_after true t s)
      ∙ ap (λ x. x || trees_have_next ts) (nested_under t s)
      ∙ or_assoc s.nested (has_next t) (trees_have_next ts)

  nested_under_branches : (bs : Branches Path) (s : Seen) → (seen_after_branches true bs s).nested ≡ (s.nested || branches_have_next bs)
  nested_under_branches no_branch s = or_false s.nested
  nested_under_branches (branch_then c a bs) s =
      nested_under_branches bs (seen_after true a (seen_after true c s))
      ∙ ap (λ x. x || branches_have_next bs) (nested_under a (seen_after true c s) ∙ ap (λ x. x || has_next a) (nested_under c s))
      ∙ or_four s.nested (has_next c) (has_next a) (branches_have_next bs)

false_right : (a b : Bool) → ((a || false) || b) ≡ (a || b)
false_right true b = refl
false_right false b = refl

mutual
  pub nested_seen : (t : Tree Path) (s : Seen) → (seen_after false t s).nested ≡ (s.nested || next_under_next t)
  nested_seen (truth b) s = or_false s.nested
  nested_seen (number n) s = or_false s.nested
  nested_seen (leaf l) s = or_false s.nested
  nested_seen (not_of a) s = nested_seen a s
  nested_seen (negate a) s = nested_seen a s
  nested_seen (next_of a) s = nested_under a (record { names = s.names; next = true; nested = s.nested || false }) ∙ false_right s.nested (has_next a)
  nested_seen (binary o a b) s =
      nested_seen b (seen_after false a s)
      ∙ ap (λ x. x || next_under_next b) (nested_seen a s)
      ∙ or_assoc s.nested (next_under_next a) (next_under_next b)
  nested_seen (choice c a b) s =
      nested_seen b (seen_after false a (seen_after false c s))
      ∙ ap (λ x. x || next_under_next b) (nested_seen a (seen_after false c s) ∙ ap (λ x. x || next_under_next a) (nested_seen c s))
      ∙ or_four s.nested (next_under_next c) (next_under_next a) (next_under_next b)
  nested_seen (case_of bs) s = nested_seen_branches bs s
  nested_seen (set_of ts) s = nested_seen_trees ts s
  nested_seen (span lo hi) s = or_false s.nested

  nested_seen_trees : (ts : Trees Path) (s : Seen) → (seen_after_trees false ts s).nested ≡ (s.nested || trees_next_under ts)
  nested_seen_trees no_tree s = or_false s.nested
  nested_seen_trees (tree_then t ts) s =
      nested_seen_trees ts (seen_after false t s)
      ∙ ap (λ x. x || trees_next_under ts) (nested_seen t s)
      ∙ or_assoc s.nested (next_under_next t) (trees_next_under ts)

  nested_seen_branches : (bs : Branches Path) (s : Seen) → (seen_after_branches false bs s).nested ≡ (s.nested || branches_next_under bs)
  nested_seen_branches no_branch s = or_false s.nested
  nested_seen_branches (branch_then c a bs) s =
      nested_seen_branches bs (seen_after false a (seen_after false c s))
      ∙ ap (λ x. x || branches_next_under bs) (nested_seen a (seen_after false c s) ∙ ap (λ x. x || next_under_next a) (nested_seen c s))
      ∙ or_four s.nested (next_under_next c) (next_under_next a) (branches_next_under bs)

-- the flagged names are the leaves
firsts_join : {L : Type 0} (xs ys : List (L × Bool)) (as' bs : List L) → map (λ u. u.0) xs ≡ as' → map (λ u. u.0) ys ≡ bs → map (λ u. u.0) (xs ++ ys) ≡ as' ++ bs
firsts_join xs ys as' bs e f = map-append (λ u. u.0) xs ys ∙ rw (e, f) refl

mutual
  pub flagged_leaves : {L : Type 0} (under : Bool) (t : Tree L) → map (λ u. u.0) (flagged under t) ≡ leaves_in t
  flagged_leaves under (truth b) = refl
  flagged_leaves under (number n) = refl
  flagged_leaves under (leaf l) = refl
  flagged_leaves under (not_of a) = flagged_leaves under a
  flagged_leaves under (negate a) = flagged_leaves under a
  flagged_leaves under (next_of a) = flagged_leaves true a
  flagged_leaves under (binary o a b) = firsts_join (flagged under a) (flagged under b) (leaves_in a) (leaves_in b) (flagged_leaves under a) (flagged_leaves under b)
  flagged_leaves under (choice c a b) =
      firsts_join (flagged under c) (flagged under a ++ flagged under b) (leaves_in c) (leaves_in a ++ leaves_in b) (flagged_leaves under c)
      (firsts_join (flagged under a) (flagged under b) (leaves_in a) (leaves_in b) (flagged_leaves under a) (flagged_leaves under b))
  flagged_leaves under (case_of bs) = flagged_leaves_branches under bs
  flagged_leaves under (set_of ts) = flagged_leaves_trees under ts
  flagged_leaves under (span lo hi) = refl

  flagged_leaves_trees : {L : Type 0} (under : Bool) (ts : Trees L) → map (λ u. u.0) (trees_flagged under ts) ≡ trees_leaves ts
  flagged_leaves_trees under no_tree = refl
  flagged_leaves_trees under (tree_then t ts) = firsts_join (flagged under t) (trees_flagged under ts) (leaves_in t) (trees_leaves ts) (flagged_leaves under t) (flagged_leaves_trees under ts)

  flagged_leaves_branches : {L : Type 0} (under : Bool) (bs : Branches L) → map (λ u. u.0) (branches_flagged under bs) ≡ branches_leaves bs
  flagged_leaves_branches under no_branch = refl
  flagged_leaves_branches under (branch_then c a bs) =
      firsts_join (flagged under c) (flagged under a ++ branches_flagged under bs) (leaves_in c) (leaves_in a ++ branches_leaves bs) (flagged_leaves under c)
      (firsts_join (flagged under a) (branches_flagged under bs) (leaves_in a) (branches_leaves bs) (flagged_leaves under a) (flagged_leaves_branches under bs))

-- the names that are flagged
abbrev pub kept_if : {L : Type 0} → Bool → L → List L
kept_if true l = l ∷ []
kept_if false l = []

abbrev pub flagged_only : {L : Type 0} → List (L × Bool) → List L
flagged_only [] = []
flagged_only (u ∷ us) = kept_if u.1 u.0 ++ flagged_only us

only_join : {L : Type 0} (xs ys : List (L × Bool)) → flagged_only (xs ++ ys) ≡ flagged_only xs ++ flagged_only ys
only_join [] ys = refl
only_join (u ∷ xs) ys = ap (λ ws. kept_if u.1 u.0 ++ ws) (only_join xs ys) ∙ sym (append_assoc (kept_if u.1 u.0) (flagged_only xs) (flagged_only ys))

only_both : {L : Type 0} (xs ys : List (L × Bool)) (as' bs : List L) → flagged_only xs ≡ as' → flagged_only ys ≡ bs → flagged_only (xs ++ ys) ≡ as' ++ bs
only_both xs ys as' bs e f = only_join xs ys ∙ rw (e, f) refl

-- under `next` all names are flagged
mutual
  pub flagged_under : {L : Type 0} (t : Tree L) → flagged_only (flagged true t) ≡ leaves_in t
  flagged_under (truth b) = refl
  flagged_under (number n) = refl
  flagged_under (leaf l) = refl
  flagged_under (not_of a) = flagged_under a
  flagged_under (negate a) = flagged_under a
  flagged_under (next_of a) = flagged_under a
  flagged_under (binary o a b) = only_both (flagged true a) (flagged true b) (leaves_in a) (leaves_in b) (flagged_under a) (flagged_under b)
  flagged_under (choice c a b) =
      only_both (flagged true c) (flagged true a ++ flagged true b) (leaves_in c) (leaves_in a ++ leaves_in b) (flagged_under c)
      (only_both (flagged true a) (flagged true b) (leaves_in a) (leaves_in b) (flagged_under a) (flagged_under b))
  flagged_under (case_of bs) = flagged_under_branches bs
  flagged_under (set_of ts) = flagged_under_trees ts
  flagged_under (span lo hi) = refl

  flagged_under_trees : {L : Type 0} (ts : Trees L) → flagged_only (trees_flagged true ts) ≡ trees_leaves ts
  flagged_under_trees no_tree = refl
  flagged_under_trees (tree_then t ts) = only_both (flagged true t) (trees_flagged true ts) (leaves_in t) (trees_leaves ts) (flagged_under t) (flagged_under_trees ts)

  flagged_under_branches : {L : Type 0} (bs : Branches L) → flagged_only (branches_flagged true bs) ≡ branches_leaves bs
  flagged_under_branches no_branch = refl
  flagged_under_branches (branch_then c a bs) =
      only_both (flagged true c) (flagged true a ++ branches_flagged true bs) (leaves_in c) (leaves_in a ++ branches_leaves bs) (flagged_under c)
      (only_both (flagged true a) (branches_flagged true bs) (leaves_in a) (branches_leaves bs) (flagged_under a) (flagged_under_branches bs))

-- the flagged names of a whole expression are those under its `next`
mutual
  pub flagged_are_under : {L : Type 0} (t : Tree L) → flagged_only (flagged false t) ≡ leaves_under t
  flagged_are_under (truth b) = refl
  flagged_are_under (number n) = refl
  flagged_are_under (leaf l) = refl
  flagged_are_under (not_of a) = flagged_are_under a
  flagged_are_under (negate a) = flagged_are_under a
  flagged_are_under (next_of a) = flagged_under a
  flagged_are_under (binary o a b) = only_both (flagged false a) (flagged false b) (leaves_under a) (leaves_under b) (flagged_are_under a) (flagged_are_under b)
  flagged_are_under (choice c a b) =
      only_both (flagged false c) (flagged false a ++ flagged false b) (leaves_under c) (leaves_under a ++ leaves_under b) (flagged_are_under c)
      (only_both (flagged false a) (flagged false b) (leaves_under a) (leaves_under b) (flagged_are_under a) (flagged_are_under b))
  flagged_are_under (case_of bs) = flagged_are_under_branches bs
  flagged_are_under (set_of ts) = flagged_are_under_trees ts
  flagged_are_under (span lo hi) = refl

  flagged_are_under_trees : {L : Type 0} (ts : Trees L) → flagged_only (trees_flagged false ts) ≡ trees_leaves_under ts
  flagged_are_under_trees no_tree = refl
  flagged_are_under_trees (tree_then t ts) =
      only_both (flagged false t) (trees_flagged false ts) (leaves_under t) (trees_leaves_under ts) (flagged_are_under t) (flagged_are_under_trees ts)

  flagged_are_under_branches : {L : Type 0} (bs : Branches L) → flagged_only (branches_flagged false bs) ≡ branches_leaves_under bs
  flagged_are_under_branches no_branch = refl
  flagged_are_under_branches (branch_then c a bs) =
      only_both (flagged false c) (flagged false a ++ branches_flagged false bs) (leaves_under c) (leaves_under a ++ branches_leaves_under bs) (flagged_are_under c)
      (only_both (flagged false a) (branches_flagged false bs) (leaves_under a) (branches_leaves_under bs) (flagged_are_under a) (flagged_are_under_branches bs))
