-- What a tree gives over leaves that are reached by a chain, it gives at some member of the chain.
use Rattle.std.proofs.Common.{◌≡◌, ℕ, zero, suc, ◌+◌, arith, true, false, List, [], ◌∷◌, ◌++◌, Option, Some, None, refl, sym, ◌∙◌, ap, subst}
use Rattle.smv_language.specs.declared.expr.Op.{Op}
use Rattle.smv_language.specs.declared.expr.Op.TheVariants as op
use Rattle.smv_language.specs.Language.{Tree, Trees, Branches, leaf, not_of, negate, next_of, binary, choice, case_of, set_of, span, no_tree, tree_then, no_branch, branch_then, symbol, Values, no_value, one, from_to, either, Leaves, gives_not, gives_negative, gives_either, gives_within, gives_applied, gives_binary, gives_choice, evaluate, evaluate_trees, evaluate_branches, Each}
use Rattle.smv_language.specs.Tree.{truth as is_truth, number as is_number}
use Rattle.smv_language.specs.Values.{truth, number}
use Rattle.smv_language.proofs.Monotone.{Extends, evaluate_below, trees_below, branches_below}
use Rattle.smv_flat_laws.specs.NameResolution.{leaves_in, trees_leaves, branches_leaves}

pub each_left : {A : Type 0} (P : A → Type 0) (xs ys : List A) → Each P (xs ++ ys) → Each P xs
each_left P [] ys h = tt
each_left P (x ∷ xs) ys h = (h.0, each_left P xs ys h.1)

pub each_right : {A : Type 0} (P : A → Type 0) (xs ys : List A) → Each P (xs ++ ys) → Each P ys
each_right P [] ys h = h
each_right P (x ∷ xs) ys h = each_right P xs ys h.1

-- answers that stay, once given
abbrev pub Stays : (ℕ → Option Values) → Type 0
Stays s = (n : ℕ) (vs : Values) → s n ≡ Some vs → s (suc n) ≡ Some vs

abbrev pub Reaches : Option Values → (ℕ → Option Values) → Type 0
Reaches a s = (vs : Values) → a ≡ Some vs → (n : ℕ) × (s n ≡ Some vs)

pub stays_on : (s : ℕ → Option Values) → Stays s → (d n m : ℕ) (vs : Values) → n + d ≡ m → s n ≡ Some vs → s m ≡ Some vs
stays_on s h zero n m vs e q = let same : n ≡ m = omega arith in subst (λ k. s k ≡ Some vs) same q
stays_on s h (suc d) n m vs e q = stays_on s h d (suc n) m vs (omega arith) (h n vs q)

-- two are given at once
both_given : (s t : ℕ → Option Values) → Stays s → Stays t → (x y : Values) → (n : ℕ) × (s n ≡ Some x) → (n : ℕ) × (t n ≡ Some y) →
    (n : ℕ) × (s n ≡ Some x) × (t n ≡ Some y)
both_given s t hs ht x y a b = (a.0 + b.0, stays_on s hs b.0 a.0 (a.0 + b.0) x refl a.1, stays_on t ht a.0 b.0 (a.0 + b.0) y (omega arith) b.1)

not_reaches : (a : Option Values) (s : ℕ → Option Values) → Reaches a s → Reaches (gives_not a) (λ n. gives_not (s n))
not_reaches None s h vs e = cc
not_reaches (Some x) s h vs e = let g : (n : ℕ) × (s n ≡ Some x) = h x refl in (g.0, ap gives_not g.1 ∙ e)

negative_reaches : (a : Option Values) (s : ℕ → Option Values) → Reaches a s → Reaches (gives_negative a) (λ n. gives_negative (s n))
negative_reaches None s h vs e = cc
negative_reaches (Some x) s h vs e = let g : (n : ℕ) × (s n ≡ Some x) = h x refl in (g.0, ap gives_negative g.1 ∙ e)

-- a function of two answers that gives nothing where either is missing
two_reach : (f : Option Values → Option Values → Option Values) → ((b : Option Values) → f None b ≡ None) → ((x : Values) → f (Some x) None ≡ None) →
    (a b : Option Values) (s t : ℕ → Option Values) → Stays s → Stays t → Reaches a s → Reaches b t → Reaches (f a b) (λ n. f (s n) (t n))
two_reach f p q None b s t hs ht h k vs e = let bad : None ≡ Some vs = sym (p b) ∙ e in cc
two_reach f p q (Some x) None s t hs ht h k vs e = let bad : None ≡ Some vs = sym (q x) ∙ e in cc
two_reach f p q (Some x) (Some y) s t hs ht h k vs e =
    let g : (n : ℕ) × (s n ≡ Some x) × (t n ≡ Some y) = both_given s t hs ht x y (h x refl) (k y refl) in
    (g.0, ap (λ o. f o (t g.0)) g.1 ∙ ap (f (Some x)) g.2 ∙ e)

either_none : (x : Values) → gives_either (Some x) None ≡ None
either_none x = refl

within_none : (x : Values) → gives_within (Some x) None ≡ None
within_none no_value = refl
within_none (one v) = refl
within_none (from_to lo hi) = refl
within_none (either a b) = refl

applied_none : (o : Op) (x : Values) → gives_applied o (Some x) None ≡ None
applied_none o no_value = refl
applied_none o (one v) = refl
applied_none o (from_to lo hi) = refl
applied_none o (either a b) = refl

either_reaches : (a b : Option Values) (s t : ℕ → Option Values) → Stays s → Stays t → Reaches a s → Reaches b t →
    Reaches (gives_either a b) (λ n. gives_either (s n) (t n))
either_reaches = two_reach gives_either (λ b. refl) either_none

binary_reaches : (o : Op) (a b : Option Values) (s t : ℕ → Option Values) → Stays s → Stays t → Reaches a s → Reaches b t →
    Reaches (gives_binary o a b) (λ n. gives_binary o (s n) (t n))
binary_reaches op.Union = either_reaches
binary_reaches op.Within = two_reach gives_within (λ b. refl) within_none
binary_reaches o = two_reach (gives_applied o) (λ b. refl) (applied_none o)

choice_reaches : (c a b : Option Values) (r s t : ℕ → Option Values) → Stays r → Stays s → Stays t → Reaches c r → Reaches a s → Reaches b t →
    Reaches (gives_choice c a b) (λ n. gives_choice (r n) (s n) (t n))
choice_reaches None a b r s t hr hs ht g h k vs e = cc
choice_reaches (Some no_value) a b r s t hr hs ht g h k vs e = cc
choice_reaches (Some (from_to lo hi)) a b r s t hr hs ht g h k vs e = cc
choice_reaches (Some (either x y)) a b r s t hr hs ht g h k vs e = cc
choice_reaches (Some (one (number n))) a b r s t hr hs ht g h k vs e = cc
choice_reaches (Some (one (symbol x))) a b r s t hr hs ht g h k vs e = cc
choice_reaches (Some (one (truth true))) a b r s t hr hs ht g h k vs e =
    let both : (n : ℕ) × (r n ≡ Some (one (truth true))) × (s n ≡ Some vs) = both_given r s hr hs _ vs (g (one (truth true)) refl) (h vs e) in
    (both.0, ap (λ o. gives_choice o (s both.0) (t both.0)) both.1 ∙ both.2)
choice_reaches (Some (one (truth false))) a b r s t hr hs ht g h k vs e =
    let both : (n : ℕ) × (r n ≡ Some (one (truth false))) × (t n ≡ Some vs) = both_given r t hr ht _ vs (g (one (truth false)) refl) (k vs e) in
    (both.0, ap (λ o. gives_choice o (s both.0) (t both.0)) both.1 ∙ both.2)

-- leaves that grow with the number
abbrev pub IsChain : {L : Type 0} → (ℕ → Leaves L) → Type 0
IsChain g = (n : ℕ) → Extends (g n) (g (suc n))

abbrev pub ReachesAt : {L : Type 0} → Leaves L → (ℕ → Leaves L) → L → Type 0
ReachesAt f g l = Reaches (f l) (λ n. g n l)

pub tree_stays : {L : Type 0} (t : Tree L) (g g' : ℕ → Leaves L) → IsChain g → IsChain g' → Stays (λ n. evaluate (g n) (g' n) t)
tree_stays t g g' c c' n = evaluate_below t (g n) (g (suc n)) (g' n) (g' (suc n)) (c n) (c' n)

pub trees_stay : {L : Type 0} (t : Trees L) (g g' : ℕ → Leaves L) → IsChain g → IsChain g' → Stays (λ n. evaluate_trees (g n) (g' n) t)
trees_stay t g g' c c' n = trees_below t (g n) (g (suc n)) (g' n) (g' (suc n)) (c n) (c' n)

pub branches_stay : {L : Type 0} (t : Branches L) (g g' : ℕ → Leaves L) → IsChain g → IsChain g' → Stays (λ n. evaluate_branches (g n) (g' n) t)
branches_stay t g g' c c' n = branches_below t (g n) (g (suc n)) (g' n) (g' (suc n)) (c n) (c' n)

module _ (L : Type 0) where
  -- both leaves now and leaves next reach their chains at a leaf
  pub record BothReach (f f' : Leaves L) (g g' : ℕ → Leaves L) (l : L) : Type 0 where
    pub now : ReachesAt f g l
    pub next : ReachesAt f' g' l

  only_next : (ls : List L) (f f' : Leaves L) (g g' : ℕ → Leaves L) → Each (BothReach f f' g g') ls → Each (BothReach f' f' g' g') ls
  only_next [] f f' g g' h = tt
  only_next (l ∷ ls) f f' g g' h = (record { now = h.0.next; next = h.0.next }, only_next ls f f' g g' h.1)

  mutual
    pub tree_reaches : (t : Tree L) (f f' : Leaves L) (g g' : ℕ → Leaves L) → IsChain g → IsChain g' →
        Each (BothReach f f' g g') (leaves_in t) → Reaches (evaluate f f' t) (λ n. evaluate (g n) (g' n) t)
    tree_reaches (is_truth b) f f' g g' c c' h = λ vs e. (0, e)
    tree_reaches (is_number n) f f' g g' c c' h = λ vs e. (0, e)
    tree_reaches (leaf l) f f' g g' c c' h = h.0.now
    tree_reaches (not_of a) f f' g g' c c' h = not_reaches _ _ (tree_reaches a f f' g g' c c' h)
    tree_reaches (negate a) f f' g g' c c' h = negative_reaches _ _ (tree_reaches a f f' g g' c c' h)
    tree_reaches (next_of a) f f' g g' c c' h = tree_reaches a f' f' g' g' c' c' (only_next _ f f' g g' h)
    tree_reaches (binary o a b) f f' g g' c c' h =
        binary_reaches o _ _ _ _ (tree_stays a g g' c c') (tree_stays b g g' c c')
        (tree_reaches a f f' g g' c c' (each_left (BothReach f f' g g') (leaves_in a) _ h)) (tree_reaches b f f' g g' c c' (each_right (BothReach f f' g g') (leaves_in a) _ h))
    tree_reaches (choice d a b) f f' g g' c c' h =
        choice_reaches _ _ _ _ _ _ (tree_stays d g g' c c') (tree_stays a g g' c c') (tree_stays b g g' c c')
        (tree_reaches d f f' g g' c c' (each_left (BothReach f f' g g') (leaves_in d) _ h))
        (tree_reaches a f f' g g' c c' (each_left (BothReach f f' g g') (leaves_in a) _ (each_right (BothReach f f' g g') (leaves_in d) _ h)))
        (tree_reaches b f f' g g' c c' (each_right (BothReach f f' g g') (leaves_in a) _ (each_right (BothReach f f' g g') (leaves_in d) _ h)))
    tree_reaches (case_of bs) f f' g g' c c' h = branches_reach bs f f' g g' c c' h
    tree_reaches (set_of ts) f f' g g' c c' h = trees_reach ts f f' g g' c c' h
    tree_reaches (span lo hi) f f' g g' c c' h = λ vs e. (0, e)

    pub trees_reach : (t : Trees L) (f f' : Leaves L) (g g' : ℕ → Leaves L) → IsChain g → IsChain g' →
        Each (BothReach f f' g g') (trees_leaves t) → Reaches (evaluate_trees f f' t) (λ n. evaluate_trees (g n) (g' n) t)
    trees_reach no_tree f f' g g' c c' h = λ vs e. (0, e)
    trees_reach (tree_then a b) f f' g g' c c' h =
        either_reaches _ _ _ _ (tree_stays a g g' c c') (trees_stay b g g' c c')
        (tree_reaches a f f' g g' c c' (each_left (BothReach f f' g g') (leaves_in a) _ h)) (trees_reach b f f' g g' c c' (each_right (BothReach f f' g g') (leaves_in a) _ h))

    pub branches_reach : (t : Branches L) (f f' : Leaves L) (g g' : ℕ → Leaves L) → IsChain g → IsChain g' →
        Each (BothReach f f' g g') (branches_leaves t) → Reaches (evaluate_branches f f' t) (λ n. evaluate_branches (g n) (g' n) t)
    branches_reach no_branch f f' g g' c c' h = λ vs e. cc
    branches_reach (branch_then d a b) f f' g g' c c' h =
        choice_reaches _ _ _ _ _ _ (tree_stays d g g' c c') (tree_stays a g g' c c') (branches_stay b g g' c c')
        (tree_reaches d f f' g g' c c' (each_left (BothReach f f' g g') (leaves_in d) _ h))
        (tree_reaches a f f' g g' c c' (each_left (BothReach f f' g g') (leaves_in a) _ (each_right (BothReach f f' g g') (leaves_in d) _ h)))
        (branches_reach b f f' g g' c c' (each_right (BothReach f f' g g') (leaves_in a) _ (each_right (BothReach f f' g g') (leaves_in d) _ h)))
