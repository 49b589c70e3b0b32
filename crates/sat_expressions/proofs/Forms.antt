-- The flat tree of each kind of expression, from those of its parts.
use Rattle.std.proofs.Common.{◌≡◌, ℤ, Bool, List, ap, sym, ◌∙◌}
use Rattle.std.specs.declared.boxed.Box.{Box}
use Rattle.std.specs.declared.alloc.Global.{Global}
use Rattle.smv_language.specs.declared.expr.Op.{Op}
use Rattle.smv_language.specs.declared.expr.Expr.{Expr, fold-roll-Expr}
use Rattle.smv_language.specs.declared.expr.Expr.TheVariants.{Truth, Number, Leaf, Not, Negate, Next, Binary, Choice, Case, SetOf, Span, rolls-Truth, rolls-Number, rolls-Leaf, rolls-Negate, rolls-Next, rolls-Binary, rolls-Choice, rolls-Span}
use Rattle.smv_language.specs.declared.expr.Expr.TheOpen as open_
use Rattle.smv_language.specs.Language.{Tree, leaf, not_of, negate, next_of, binary, choice, case_of, set_of, span, tree_map, trees_map, branches_map, tree_of, trees_of, branches_of, node_tree, leaf_of, flat_tree}
use Rattle.smv_language.specs.Tree.{truth, number}
use Rattle.smv_language.proofs.WrittenLaws.{tree_of_case, tree_of_set, tree_of_not}
use Rattle.smv_language.specs.declared.model.Flat.{Flat}

-- a node, and then its names
pub form_truth : (e : Expr Flat) (b : Bool) → e ≡ Truth b → flat_tree e ≡ truth b
form_truth e b is = ap flat_tree is ∙ ap (tree_map leaf_of) (ap tree_of (sym (rolls-Truth b)) ∙ fold-roll-Expr Flat (Tree Flat) node_tree (open_.Truth b))

pub form_leaf : (e : Expr Flat) (l : Flat) → e ≡ Leaf l → flat_tree e ≡ leaf (leaf_of l)
form_leaf e l is = ap flat_tree is ∙ ap (tree_map leaf_of) (ap tree_of (sym (rolls-Leaf l)) ∙ fold-roll-Expr Flat (Tree Flat) node_tree (open_.Leaf l))

pub form_number : (e : Expr Flat) (z : ℤ) → e ≡ Number z → flat_tree e ≡ number z
form_number e z is = ap flat_tree is ∙ ap (tree_map leaf_of) (ap tree_of (sym (rolls-Number z)) ∙ fold-roll-Expr Flat (Tree Flat) node_tree (open_.Number z))

pub form_span : (e : Expr Flat) (lo hi : ℤ) → e ≡ Span lo hi → flat_tree e ≡ span lo hi
form_span e lo hi is = ap flat_tree is ∙ ap (tree_map leaf_of) (ap tree_of (sym (rolls-Span lo hi)) ∙ fold-roll-Expr Flat (Tree Flat) node_tree (open_.Span lo hi))

pub form_not : (e d : Expr Flat) (a : Box (Expr Flat) Global) → d ≡ a.value → e ≡ Not a → flat_tree e ≡ not_of (flat_tree d)
form_not e d a f is = ap flat_tree is ∙ ap (tree_map leaf_of) (tree_of_not a) ∙ ap (λ x. not_of (flat_tree x)) (sym f)

pub form_negate : (e d : Expr Flat) (a : Box (Expr Flat) Global) → d ≡ a.value → e ≡ Negate a → flat_tree e ≡ negate (flat_tree d)
form_negate e d a f is =
    ap flat_tree is ∙ ap (tree_map leaf_of) (ap tree_of (sym (rolls-Negate a)) ∙ fold-roll-Expr Flat (Tree Flat) node_tree (open_.Negate a)) ∙ ap (λ x. negate (flat_tree x)) (sym f)

pub form_next : (e d : Expr Flat) (a : Box (Expr Flat) Global) → d ≡ a.value → e ≡ Next a → flat_tree e ≡ next_of (flat_tree d)
form_next e d a f is =
    ap flat_tree is ∙ ap (tree_map leaf_of) (ap tree_of (sym (rolls-Next a)) ∙ fold-roll-Expr Flat (Tree Flat) node_tree (open_.Next a)) ∙ ap (λ x. next_of (flat_tree x)) (sym f)

pub form_binary : (e d d' : Expr Flat) (o : Op) (a b : Box (Expr Flat) Global) → d ≡ a.value → d' ≡ b.value → e ≡ Binary o a b → flat_tree e ≡ binary o (flat_tree d) (flat_tree d')
form_binary e d d' o a b f g is =
    ap flat_tree is ∙ ap (tree_map leaf_of) (ap tree_of (sym (rolls-Binary o a b)) ∙ fold-roll-Expr Flat (Tree Flat) node_tree (open_.Binary o a b))
    ∙ ap (λ x. binary o (flat_tree x) (flat_tree b.value)) (sym f) ∙ ap (λ x. binary o (flat_tree d) (flat_tree x)) (sym g)

pub form_choice : (e d d' d'' : Expr Flat) (c a b : Box (Expr Flat) Global) → d ≡ c.value → d' ≡ a.value → d'' ≡ b.value → e ≡ Choice c a b → flat_tree e ≡ choice (flat_tree d) (flat_tree d') (flat_tree d'')
form_choice e d d' d'' c a b f g h is =
    ap flat_tree is ∙ ap (tree_map leaf_of) (ap tree_of (sym (rolls-Choice c a b)) ∙ fold-roll-Expr Flat (Tree Flat) node_tree (open_.Choice c a b))
    ∙ ap (λ x. choice (flat_tree x) (flat_tree a.value) (flat_tree b.value)) (sym f) ∙ ap (λ x. choice (flat_tree d) (flat_tree x) (flat_tree b.value)) (sym g)
    ∙ ap (λ x. choice (flat_tree d) (flat_tree d') (flat_tree x)) (sym h)

pub form_case : (e : Expr Flat) (bs cs : List (Expr Flat × Expr Flat)) → cs ≡ bs → e ≡ Case bs → flat_tree e ≡ case_of (branches_map leaf_of (branches_of cs))
form_case e bs cs f is = ap flat_tree is ∙ ap (tree_map leaf_of) (tree_of_case bs) ∙ ap (λ x. case_of (branches_map leaf_of (branches_of x))) (sym f)

pub form_set : (e : Expr Flat) (ts us : List (Expr Flat)) → us ≡ ts → e ≡ SetOf ts → flat_tree e ≡ set_of (trees_map leaf_of (trees_of us))
form_set e ts us f is = ap flat_tree is ∙ ap (tree_map leaf_of) (tree_of_set ts) ∙ ap (λ x. set_of (trees_map leaf_of (trees_of x))) (sym f)
