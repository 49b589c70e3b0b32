-- Lists by place, and the leaves of a tree that was changed.
use Rattle.std.proofs.Common.{◌≡◌, suc, List, [], ◌∷◌, ◌++◌, length, Some, refl, sym, ap}
use Rattle.std.specs.Prelude.{slice_get, map}
use Rattle.smv_language.specs.Language.{Tree, Trees, Branches, leaf, not_of, negate, next_of, binary, choice, case_of, set_of, span, no_tree, tree_then, no_branch, branch_then, tree_map, trees_map, branches_map, Each}
use Rattle.smv_language.specs.Tree.{truth as is_truth, number as is_number}
use Rattle.smv_flat_laws.specs.NameResolution.{leaves_in, trees_leaves, branches_leaves}

pub get_end : {A : Type 0} (xs : List A) (x : A) → slice_get (xs ++ x ∷ []) (length xs) ≡ Some x
get_end [] x = refl
get_end (y ∷ xs) x = get_end xs x

pub length_end : {A : Type 0} (xs : List A) (x : A) → length (xs ++ x ∷ []) ≡ suc (length xs)
length_end [] x = refl
length_end (y ∷ xs) x = ap suc (length_end xs x)

pub map_joined : {A B : Type 0} (f : A → B) (xs ys : List A) → map f (xs ++ ys) ≡ map f xs ++ map f ys
map_joined f [] ys = refl
map_joined f (x ∷ xs) ys = ap (λ zs. f x ∷ zs) (map_joined f xs ys)

pub each_of_map : {A B : Type 0} (P : B → Type 0) (f : A → B) (xs : List A) → Each P (map f xs) → Each (λ x. P (f x)) xs
each_of_map P f [] h = tt
each_of_map P f (x ∷ xs) h = (h.0, each_of_map P f xs h.1)

pub each_map : {A B : Type 0} (P : B → Type 0) (f : A → B) (xs : List A) → Each (λ x. P (f x)) xs → Each P (map f xs)
each_map P f [] h = tt
each_map P f (x ∷ xs) h = (h.0, each_map P f xs h.1)

pub each_more : {A : Type 0} (P Q : A → Type 0) (xs : List A) → ((x : A) → P x → Q x) → Each P xs → Each Q xs
each_more P Q [] g h = tt
each_more P Q (x ∷ xs) g h = (g x h.0, each_more P Q xs g h.1)

mutual
  pub leaves_map : {L M : Type 0} (f : L → M) (t : Tree L) → leaves_in (tree_map f t) ≡ map f (leaves_in t)
  leaves_map f (is_truth b) = refl
  leaves_map f (is_number n) = refl
  leaves_map f (leaf l) = refl
  leaves_map f (not_of a) = leaves_map f a
  leaves_map f (negate a) = leaves_map f a
  leaves_map f (next_of a) = leaves_map f a
  leaves_map f (binary o a b) = rw (leaves_map f a, leaves_map f b) (sym (map_joined f (leaves_in a) (leaves_in b)))
  leaves_map f (choice c a b) =
      rw (leaves_map f c, leaves_map f a, leaves_map f b, map_joined f (leaves_in c) (leaves_in a ++ leaves_in b), map_joined f (leaves_in a) (leaves_in b)) refl
  leaves_map f (case_of bs) = branches_leaves_map f bs
  leaves_map f (set_of ts) = trees_leaves_map f ts
  leaves_map f (span lo hi) = refl

  pub trees_leaves_map : {L M : Type 0} (f : L → M) (t : Trees L) → trees_leaves (trees_map f t) ≡ map f (trees_leaves t)
  trees_leaves_map f no_tree = refl
  trees_leaves_map f (tree_then a b) = rw (leaves_map f a, trees_leaves_map f b) (sym (map_joined f (leaves_in a) (trees_leaves b)))

  pub branches_leaves_map : {L M : Type 0} (f : L → M) (t : Branches L) → branches_leaves (branches_map f t) ≡ map f (branches_leaves t)
  branches_leaves_map f no_branch = refl
  branches_leaves_map f (branch_then c a b) =
      rw (leaves_map f c, leaves_map f a, branches_leaves_map f b, map_joined f (leaves_in c) (leaves_in a ++ branches_leaves b), map_joined f (leaves_in a) (branches_leaves b)) refl
