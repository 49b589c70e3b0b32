-- Asked node by node, an expression has a name that passes the test where some name of it does.
use Rattle.std.proofs.Common.{◌≡◌, Bool, ◌||◌, List, [], ◌∷◌, ◌++◌, refl, sym, ◌∙◌, ap}
use Rattle.std.specs.List.{list_any}
use Rattle.smv_language.specs.Language.{Tree, Trees, Branches, leaf, not_of, negate, next_of, binary, choice, case_of, set_of, span, no_tree, tree_then, no_branch, branch_then, flat_tree, FlatLeaf}
use Rattle.smv_language.specs.Tree.{truth, number}
use Rattle.std.specs.declared.boxed.Box.{Box}
use Rattle.std.specs.declared.alloc.Global.{Global}
use Rattle.smv_language.specs.declared.expr.Expr.{Expr}
use Rattle.smv_language.specs.declared.expr.Expr.TheVariants.{Choice}
use Rattle.smv_language.specs.declared.model.Flat.{Flat}
use Rattle.sat_expressions.proofs.Forms.{form_choice}
use Rattle.smv_flat_laws.specs.NameResolution.{leaves_in, trees_leaves, branches_leaves}
use Rattle.sat_encoding.specs.Reading.{tree_any, trees_any, branches_any}
use Rattle.smv_types.proofs.ListLaws.{or_again as or_within, or_false}

any_append : {L : Type 0} (test : L → Bool) (xs ys : List L) → list_any test (xs ++ ys) ≡ list_any test xs || list_any test ys
any_append test [] ys = refl
any_append test (x ∷ xs) ys = ap (λ b. test x || b) (any_append test xs ys) ∙ sym (or_within (test x) (list_any test xs) (list_any test ys))

both : {L : Type 0} (test : L → Bool) (xs ys : List L) (a b : Bool) → a ≡ list_any test xs → b ≡ list_any test ys → a || b ≡ list_any test (xs ++ ys)
both test xs ys a b e f = (λ i. e i || f i) ∙ sym (any_append test xs ys)

mutual
  pub tree_any_is : {L : Type 0} (test : L → Bool) (t : Tree L) → tree_any test t ≡ list_any test (leaves_in t)
  tree_any_is test (truth b) = refl
  tree_any_is test (number n) = refl
  tree_any_is test (leaf l) = sym (or_false (test l))
  tree_any_is test (not_of a) = tree_any_is test a
  tree_any_is test (negate a) = tree_any_is test a
  tree_any_is test (next_of a) = tree_any_is test a
  tree_any_is test (binary o a b) = both test (leaves_in a) (leaves_in b) (tree_any test a) (tree_any test b) (tree_any_is test a) (tree_any_is test b)
  tree_any_is test (choice c a b) =
      both test (leaves_in c) (leaves_in a ++ leaves_in b) (tree_any test c) (tree_any test a || tree_any test b) (tree_any_is test c)
      (both test (leaves_in a) (leaves_in b) (tree_any test a) (tree_any test b) (tree_any_is test a) (tree_any_is test b))
  tree_any_is test (case_of bs) = branches_any_is test bs
  tree_any_is test (set_of ts) = trees_any_is test ts
  tree_any_is test (span lo hi) = refl

  pub trees_any_is : {L : Type 0} (test : L → Bool) (ts : Trees L) → trees_any test ts ≡ list_any test (trees_leaves ts)
  trees_any_is test no_tree = refl
  trees_any_is test (tree_then t ts) = both test (leaves_in t) (trees_leaves ts) (tree_any test t) (trees_any test ts) (tree_any_is test t) (trees_any_is test ts)

  pub branches_any_is : {L : Type 0} (test : L → Bool) (bs : Branches L) → branches_any test bs ≡ list_any test (branches_leaves bs)
  branches_any_is test no_branch = refl
  branches_any_is test (branch_then c a bs) =
      both test (leaves_in c) (leaves_in a ++ branches_leaves bs) (tree_any test c) (tree_any test a || branches_any test bs) (tree_any_is test c)
      (both test (leaves_in a) (branches_leaves bs) (tree_any test a) (branches_any test bs) (tree_any_is test a) (branches_any_is test bs))

-- a choice has the names of its parts
pub choice_any : (test : FlatLeaf → Bool) (e d d' d'' : Expr Flat) (c a b : Box (Expr Flat) Global) (r r' r'' : Bool) → d ≡ c.value → d' ≡ a.value → d'' ≡ b.value → e ≡ Choice c a b → r ≡ tree_any test (flat_tree d)
    → r' ≡ tree_any test (flat_tree d') → r'' ≡ tree_any test (flat_tree d'') → (r || (r' || r'')) ≡ tree_any test (flat_tree e)
choice_any test e d d' d'' c a b r r' r'' f g h is x y z = (λ i. x i || (y i || z i)) ∙ sym (ap (tree_any test) (form_choice e d d' d'' c a b f g h is))
