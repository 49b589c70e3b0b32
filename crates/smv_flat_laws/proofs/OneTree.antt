-- Two flat expressions that resolve one written expression are one, where their leaves are.
use Rattle.std.proofs.Common.{◌≡◌, Option, Some, None, refl, sym, ◌∙◌, ap}
use Rattle.smv_language.specs.Language.{Tree, Trees, Branches, leaf, not_of, negate, next_of, binary, choice, case_of, set_of, span, no_tree, tree_then, no_branch, branch_then, tree_map, trees_map, branches_map, Path, Formula, Each, FlatLeaf, flat_symbol}
use Rattle.smv_language.specs.Tree.{truth, number}
use Rattle.smv_flat_laws.specs.NameResolution.{leaves_in, trees_leaves, branches_leaves, IsResolved}
use Rattle.smv_flat_laws.proofs.Reaches.{each_left, each_right}
use Rattle.smv_flat_laws.proofs.Resolving.{Known, names_known, each_leaf}
use Rattle.smv_flat_laws.proofs.KindLaws.{with_both}

-- maps that agree on the leaves of a tree make one tree of it
mutual
  pub map_same : {L M : Type 0} (f g : L → M) (t : Tree L) → Each (λ l. f l ≡ g l) (leaves_in t) → tree_map f t ≡ tree_map g t
  map_same f g (truth b) h = refl
  map_same f g (number n) h = refl
  map_same f g (leaf l) h = ap leaf h.0
  map_same f g (not_of a) h = ap not_of (map_same f g a h)
  map_same f g (negate a) h = ap negate (map_same f g a h)
  map_same f g (next_of a) h = ap next_of (map_same f g a h)
  map_same f g (binary o a b) h =
      ap (λ x. binary o x (tree_map f b)) (map_same f g a (each_left (λ l. f l ≡ g l) (leaves_in a) (leaves_in b) h))
      ∙ ap (binary o (tree_map g a)) (map_same f g b (each_right (λ l. f l ≡ g l) (leaves_in a) (leaves_in b) h))
  map_same f g (choice c a b) h =
      let more = each_right (λ l. f l ≡ g l) (leaves_in c) _ h in
      ap (λ x. choice x (tree_map f a) (tree_map f b)) (map_same f g c (each_left (λ l. f l ≡ g l) (leaves_in c) _ h))
      ∙ ap (λ x. choice (tree_map g c) x (tree_map f b)) (map_same f g a (each_left (λ l. f l ≡ g l) (leaves_in a) (leaves_in b) more))
      ∙ ap (choice (tree_map g c) (tree_map g a)) (map_same f g b (each_right (λ l. f l ≡ g l) (leaves_in a) (leaves_in b) more))
  map_same f g (case_of bs) h = ap case_of (branches_same f g bs h)
  map_same f g (set_of ts) h = ap set_of (trees_same f g ts h)
  map_same f g (span lo hi) h = refl

  trees_same : {L M : Type 0} (f g : L → M) (ts : Trees L) → Each (λ l. f l ≡ g l) (trees_leaves ts) → trees_map f ts ≡ trees_map g ts
  trees_same f g no_tree h = refl
  trees_same f g (tree_then t ts) h =
      ap (λ x. tree_then x (trees_map f ts)) (map_same f g t (each_left (λ l. f l ≡ g l) (leaves_in t) (trees_leaves ts) h))
      ∙ ap (tree_then (tree_map g t)) (trees_same f g ts (each_right (λ l. f l ≡ g l) (leaves_in t) (trees_leaves ts) h))

  branches_same : {L M : Type 0} (f g : L → M) (bs : Branches L) → Each (λ l. f l ≡ g l) (branches_leaves bs) → branches_map f bs ≡ branches_map g bs
  branches_same f g no_branch h = refl
  branches_same f g (branch_then c a bs) h =
      let more = each_right (λ l. f l ≡ g l) (leaves_in c) _ h in
      ap (λ x. branch_then x (tree_map f a) (branches_map f bs)) (map_same f g c (each_left (λ l. f l ≡ g l) (leaves_in c) _ h))
      ∙ ap (λ x. branch_then (tree_map g c) x (branches_map f bs)) (map_same f g a (each_left (λ l. f l ≡ g l) (leaves_in a) (branches_leaves bs) more))
      ∙ ap (branch_then (tree_map g c) (tree_map g a)) (branches_same f g bs (each_right (λ l. f l ≡ g l) (leaves_in a) (branches_leaves bs) more))

-- a leaf that is there, and another one where there is none
abbrev pub leaf_or : Option FlatLeaf → FlatLeaf
leaf_or None = flat_symbol 0
leaf_or (Some l) = l

mutual
  back : (t : Tree FlatLeaf) → tree_map leaf_or (tree_map Some t) ≡ t
  back (truth b) = refl
  back (number n) = refl
  back (leaf l) = refl
  back (not_of a) = ap not_of (back a)
  back (negate a) = ap negate (back a)
  back (next_of a) = ap next_of (back a)
  back (binary o a b) = ap (λ x. binary o x (tree_map leaf_or (tree_map Some b))) (back a) ∙ ap (binary o a) (back b)
  back (choice c a b) =
      ap (λ x. choice x (tree_map leaf_or (tree_map Some a)) (tree_map leaf_or (tree_map Some b))) (back c)
      ∙ ap (λ x. choice c x (tree_map leaf_or (tree_map Some b))) (back a) ∙ ap (choice c a) (back b)
  back (case_of bs) = ap case_of (branches_back bs)
  back (set_of ts) = ap set_of (trees_back ts)
  back (span lo hi) = refl

  trees_back : (ts : Trees FlatLeaf) → trees_map leaf_or (trees_map Some ts) ≡ ts
  trees_back no_tree = refl
  trees_back (tree_then t ts) = ap (λ x. tree_then x (trees_map leaf_or (trees_map Some ts))) (back t) ∙ ap (tree_then t) (trees_back ts)

  branches_back : (bs : Branches FlatLeaf) → branches_map leaf_or (branches_map Some bs) ≡ bs
  branches_back no_branch = refl
  branches_back (branch_then c a bs) =
      ap (λ x. branch_then x (tree_map leaf_or (tree_map Some a)) (branches_map leaf_or (branches_map Some bs))) (back c)
      ∙ ap (λ x. branch_then c x (branches_map leaf_or (branches_map Some bs))) (back a) ∙ ap (branch_then c a) (branches_back bs)

-- one written expression has one flat one over resolvers that never give two leaves to a name
pub one_tree : (q r : Path → Option FlatLeaf) (e : Formula) (flat other : Tree FlatLeaf) → ((name : Path) (l k : FlatLeaf) → q name ≡ Some l → r name ≡ Some k → l ≡ k) →
    IsResolved q e flat → IsResolved r e other → flat ≡ other
one_tree q r e flat other agree h g =
    let some : FlatLeaf → Type 0 = λ l. Unit {0} in
    let mapped : tree_map q e ≡ tree_map r e =
    map_same q r e (with_both (λ name. Known some (q name)) (λ name. Known some (r name)) (λ name. q name ≡ r name) (leaves_in e)
    (λ name a b. a.is ∙ ap Some (agree name a.found b.found a.is b.is) ∙ sym b.is)
    (names_known some q e flat h (each_leaf (leaves_in flat))) (names_known some r e other g (each_leaf (leaves_in other)))) in
    sym (back flat) ∙ ap (tree_map leaf_or) (h ∙ mapped ∙ sym g) ∙ back other
