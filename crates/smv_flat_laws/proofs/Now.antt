-- What an expression gives depends on its leaves alone, and on those now alone where it has no `next`.
use Rattle.std.proofs.Common.{◌≡◌, false, ◌||◌, Option, Some, None, refl, sym, ◌∙◌}
use Rattle.smv_language.specs.Language.{Tree, Trees, Branches, leaf, not_of, negate, next_of, binary, choice, case_of, set_of, span, no_tree, tree_then, no_branch, branch_then, Values, Leaves, evaluate, evaluate_trees, evaluate_branches, Each}
use Rattle.smv_language.specs.Tree.{truth as is_truth, number as is_number}
use Rattle.smv_language.proofs.Monotone.{Below}
use Rattle.smv_flat_laws.specs.NameResolution.{leaves_in, has_next, trees_have_next, branches_have_next}
use Rattle.smv_flat_laws.proofs.Reaches.{BothReach, tree_reaches}
use Rattle.smv_flat_laws.proofs.Lists.{each_more}
use Rattle.std.proofs.lemmas.Bool.{or_parts as neither}

mutual
  pub without_next : {L : Type 0} (t : Tree L) (f g g' : Leaves L) → has_next t ≡ false → evaluate f g t ≡ evaluate f g' t
  without_next (is_truth b) f g g' h = refl
  without_next (is_number n) f g g' h = refl
  without_next (leaf l) f g g' h = refl
  without_next (not_of a) f g g' h = rw (without_next a f g g' h) refl
  without_next (negate a) f g g' h = rw (without_next a f g g' h) refl
  without_next (next_of a) f g g' h = cc
  without_next (binary o a b) f g g' h = let s : (has_next a ≡ false) × (has_next b ≡ false) = neither _ _ h in
      rw (without_next a f g g' s.0, without_next b f g g' s.1) refl
  without_next (choice c a b) f g g' h =
      let s : (has_next c ≡ false) × ((has_next a || has_next b) ≡ false) = neither _ _ h in
      let u : (has_next a ≡ false) × (has_next b ≡ false) = neither _ _ s.1 in
      rw (without_next c f g g' s.0, without_next a f g g' u.0, without_next b f g g' u.1) refl
  without_next (case_of bs) f g g' h = branches_without_next bs f g g' h
  without_next (set_of ts) f g g' h = trees_without_next ts f g g' h
  without_next (span lo hi) f g g' h = refl

  pub trees_without_next : {L : Type 0} (t : Trees L) (f g g' : Leaves L) → trees_have_next t ≡ false → evaluate_trees f g t ≡ evaluate_trees f g' t
  trees_without_next no_tree f g g' h = refl
  trees_without_next (tree_then a b) f g g' h = let s : (has_next a ≡ false) × (trees_have_next b ≡ false) = neither _ _ h in
      rw (without_next a f g g' s.0, trees_without_next b f g g' s.1) refl

  pub branches_without_next : {L : Type 0} (t : Branches L) (f g g' : Leaves L) → branches_have_next t ≡ false → evaluate_branches f g t ≡ evaluate_branches f g' t
  branches_without_next no_branch f g g' h = refl
  branches_without_next (branch_then c a b) f g g' h =
      let s : (has_next c ≡ false) × ((has_next a || branches_have_next b) ≡ false) = neither _ _ h in
      let u : (has_next a ≡ false) × (branches_have_next b ≡ false) = neither _ _ s.1 in
      rw (without_next c f g g' s.0, without_next a f g g' u.0, branches_without_next b f g g' u.1) refl

-- the leaves g give what f gives at a leaf, and g' what f' gives
pub record BothBelow (L : Type 0) (f f' g g' : Leaves L) (l : L) : Type 0 where
  pub now : Below (f l) (g l)
  pub next : Below (f' l) (g' l)

pub below_on : {L : Type 0} (t : Tree L) (f f' g g' : Leaves L) → Each (BothBelow L f f' g g') (leaves_in t) → Below (evaluate f f' t) (evaluate g g' t)
below_on {L = L} t f f' g g' h vs e =
    (tree_reaches L t f f' (λ n. g) (λ n. g') (λ n l ws q. q) (λ n l ws q. q)
    (each_more (BothBelow L f f' g g') (BothReach L f f' (λ n. g) (λ n. g')) (leaves_in t)
    (λ l b. record { now = λ ws q. (0, b.now ws q); next = λ ws q. (0, b.next ws q) }) h) vs e).1

below_same : (a b : Option Values) → Below a b → Below b a → a ≡ b
below_same None None h k = refl
below_same None (Some y) h k = let bad : None ≡ Some y = k y refl in cc
below_same (Some x) b h k = sym (h x refl)

-- both pairs of leaves give the same at a leaf
pub record BothSame (L : Type 0) (f f' g g' : Leaves L) (l : L) : Type 0 where
  pub now : f l ≡ g l
  pub next : f' l ≡ g' l

pub same_on : {L : Type 0} (t : Tree L) (f f' g g' : Leaves L) → Each (BothSame L f f' g g') (leaves_in t) → evaluate f f' t ≡ evaluate g g' t
same_on {L = L} t f f' g g' h =
    below_same _ _
    (below_on t f f' g g' (each_more (BothSame L f f' g g') (BothBelow L f f' g g') (leaves_in t) (λ l s. record { now = λ vs e. sym s.now ∙ e; next = λ vs e. sym s.next ∙ e }) h))
    (below_on t g g' f f' (each_more (BothSame L f f' g g') (BothBelow L g g' f f') (leaves_in t) (λ l s. record { now = λ vs e. s.now ∙ e; next = λ vs e. s.next ∙ e }) h))
