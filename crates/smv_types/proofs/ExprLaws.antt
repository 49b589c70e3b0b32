-- How the code judges each kind of expression.
use Rattle.std.proofs.Common.{◌≡◌, ℤ, Bool, false, List, Option, None, ap, sym, ◌∙◌}
use Rattle.std.specs.declared.boxed.Box.{Box}
use Rattle.std.specs.declared.alloc.Global.{Global}
use Rattle.smv_language.specs.declared.expr.Op.{Op}
use Rattle.smv_language.specs.declared.expr.Expr.{Expr, fold-roll-Expr}
use Rattle.smv_language.specs.declared.expr.Expr.TheVariants.{Not, Negate, Binary, Choice, Case, SetOf, Span, rolls-Not, rolls-Negate, rolls-Binary, rolls-Choice, rolls-Span}
use Rattle.smv_language.specs.declared.expr.Expr.TheOpen as open_
use Rattle.smv_language.specs.Language.{Tree, tree_of, trees_of, branches_of, node_tree}
use Rattle.smv_type_laws.specs.ExpressionKinds.{Kind, judge, judge_trees, judge_values, sets_on_left, sets_on_right}
use Rattle.smv_types.specs.Rows.{row_not, row_negative, row_binary, row_choice, row_span}
use Rattle.smv_types.specs.declared.sort.JudgedExpr.{JudgedExpr}
use Rattle.smv_types.specs.declared.several.Several.{Several}
use Rattle.smv_types.specs.declared.several.Guards.{Guards}
use Rattle.smv_types.specs.Answers.{told}
use Rattle.smv_types.specs.ListKinds.{add_all, guard_all, no_guards, row_set, row_case}
use Rattle.smv_types.proofs.NodeLaws.{told_not, told_negative, told_binary, told_choice, told_span}
use Rattle.smv_types.proofs.ListLaws.{told_set, told_case}
use Rattle.smv_language.proofs.WrittenLaws.{tree_of_case, tree_of_set}

pub judged_not_is : {L : Type 0} (k : L → Kind) (sets : Bool) (a : Box (Expr L) Global) → row_not (told (judge k false (tree_of a.value))) ≡ told (judge k sets (tree_of (Not a)))
judged_not_is {L = L} k sets a =
    told_not (judge k false (tree_of a.value)) ∙ sym (ap (λ t. told (judge k sets t)) (ap tree_of (sym (rolls-Not a)) ∙ fold-roll-Expr L (Tree L) node_tree (open_.Not a)))

pub judged_negative_is : {L : Type 0} (k : L → Kind) (sets : Bool) (a : Box (Expr L) Global) → row_negative (told (judge k false (tree_of a.value))) ≡ told (judge k sets (tree_of (Negate a)))
judged_negative_is {L = L} k sets a =
    told_negative (judge k false (tree_of a.value)) ∙ sym (ap (λ t. told (judge k sets t)) (ap tree_of (sym (rolls-Negate a)) ∙ fold-roll-Expr L (Tree L) node_tree (open_.Negate a)))

pub judged_binary_is : {L : Type 0} (k : L → Kind) (sets : Bool) (o : Op) (a b : Box (Expr L) Global) →
    row_binary sets o (told (judge k (sets_on_left o) (tree_of a.value))) (told (judge k (sets_on_right o) (tree_of b.value))) ≡ told (judge k sets (tree_of (Binary o a b)))
judged_binary_is {L = L} k sets o a b =
    told_binary sets o (judge k (sets_on_left o) (tree_of a.value)) (judge k (sets_on_right o) (tree_of b.value))
    ∙ sym (ap (λ t. told (judge k sets t)) (ap tree_of (sym (rolls-Binary o a b)) ∙ fold-roll-Expr L (Tree L) node_tree (open_.Binary o a b)))

pub judged_choice_is : {L : Type 0} (k : L → Kind) (sets : Bool) (c a b : Box (Expr L) Global) →
    row_choice sets (told (judge k false (tree_of c.value))) (told (judge k sets (tree_of a.value))) (told (judge k sets (tree_of b.value))) ≡ told (judge k sets (tree_of (Choice c a b)))
judged_choice_is {L = L} k sets c a b =
    told_choice sets (judge k false (tree_of c.value)) (judge k sets (tree_of a.value)) (judge k sets (tree_of b.value))
    ∙ sym (ap (λ t. told (judge k sets t)) (ap tree_of (sym (rolls-Choice c a b)) ∙ fold-roll-Expr L (Tree L) node_tree (open_.Choice c a b)))

pub judged_case_is : {L : Type 0} (k : L → Kind) (sets : Bool) (bs : List (Expr L × Expr L)) →
    row_case sets (guard_all k no_guards (branches_of bs)) (add_all None (judge_values k sets (branches_of bs))) ≡ told (judge k sets (tree_of (Case bs)))
judged_case_is k sets bs = told_case k sets (branches_of bs) ∙ sym (ap (λ t. told (judge k sets t)) (tree_of_case bs))

pub judged_set_is : {L : Type 0} (k : L → Kind) (sets : Bool) (ts : List (Expr L)) → row_set sets (add_all None (judge_trees k (trees_of ts))) ≡ told (judge k sets (tree_of (SetOf ts)))
judged_set_is k sets ts = told_set sets (judge_trees k (trees_of ts)) ∙ sym (ap (λ t. told (judge k sets t)) (tree_of_set ts))

pub judged_span_is : {L : Type 0} (k : L → Kind) (sets : Bool) (lo hi : ℤ) → row_span sets lo hi ≡ told (judge k sets (tree_of {L = L} (Span lo hi)))
judged_span_is {L = L} k sets lo hi =
    told_span sets lo hi ∙ sym (ap (λ t. told (judge k sets t)) (ap tree_of (sym (rolls-Span lo hi)) ∙ fold-roll-Expr L (Tree L) node_tree (open_.Span lo hi)))

-- The same, of an expression that is known to be of this kind, and of parts that are known to be these.
pub link_not : {L : Type 0} (k : L → Kind) (sets : Bool) {e d : Expr L} (a : Box (Expr L) Global) {r x : JudgedExpr} →
    r ≡ row_not x → x ≡ told (judge k false (tree_of d)) → d ≡ a.value → e ≡ Not a → r ≡ told (judge k sets (tree_of e))
link_not k sets a p q f g =
    p ∙ ap row_not (q ∙ ap (λ y. told (judge k false (tree_of y))) f) ∙ judged_not_is k sets a ∙ sym (ap (λ y. told (judge k sets (tree_of y))) g)

pub link_negative : {L : Type 0} (k : L → Kind) (sets : Bool) {e d : Expr L} (a : Box (Expr L) Global) {r x : JudgedExpr} →
    r ≡ row_negative x → x ≡ told (judge k false (tree_of d)) → d ≡ a.value → e ≡ Negate a → r ≡ told (judge k sets (tree_of e))
link_negative k sets a p q f g =
    p ∙ ap row_negative (q ∙ ap (λ y. told (judge k false (tree_of y))) f) ∙ judged_negative_is k sets a ∙ sym (ap (λ y. told (judge k sets (tree_of y))) g)

pub link_binary : {L : Type 0} (k : L → Kind) (sets : Bool) (o : Op) {e d d' : Expr L} (a b : Box (Expr L) Global) {r x y : JudgedExpr} {m n : Bool} →
    r ≡ row_binary sets o x y → x ≡ told (judge k m (tree_of d)) → m ≡ sets_on_left o → d ≡ a.value → y ≡ told (judge k n (tree_of d')) → n ≡ sets_on_right o → d' ≡ b.value → e ≡ Binary o a b →
    r ≡ told (judge k sets (tree_of e))
link_binary k sets o {d = d} {d' = d'} a b {x = x} {y = y} p q l f q' l' f' g =
    p ∙ ap (λ z. row_binary sets o z y) (q ∙ ap (λ w. told (judge k w (tree_of d))) l ∙ ap (λ w. told (judge k (sets_on_left o) (tree_of w))) f)
    ∙ ap (λ z. row_binary sets o (told (judge k (sets_on_left o) (tree_of a.value))) z) (q' ∙ ap (λ w. told (judge k w (tree_of d'))) l' ∙ ap (λ w. told (judge k (sets_on_right o) (tree_of w))) f')
    ∙ judged_binary_is k sets o a b ∙ sym (ap (λ w. told (judge k sets (tree_of w))) g)

pub link_choice : {L : Type 0} (k : L → Kind) (sets : Bool) {e d d' d'' : Expr L} (c a b : Box (Expr L) Global) {r x y z : JudgedExpr} →
    r ≡ row_choice sets x y z → x ≡ told (judge k false (tree_of d)) → d ≡ c.value → y ≡ told (judge k sets (tree_of d')) → d' ≡ a.value → z ≡ told (judge k sets (tree_of d'')) → d'' ≡ b.value → e ≡ Choice c a b →
    r ≡ told (judge k sets (tree_of e))
link_choice k sets c a b {y = y} {z = z} p q f q' f' q'' f'' g =
    p ∙ ap (λ v. row_choice sets v y z) (q ∙ ap (λ w. told (judge k false (tree_of w))) f)
    ∙ ap (λ v. row_choice sets (told (judge k false (tree_of c.value))) v z) (q' ∙ ap (λ w. told (judge k sets (tree_of w))) f')
    ∙ ap (λ v. row_choice sets (told (judge k false (tree_of c.value))) (told (judge k sets (tree_of a.value))) v) (q'' ∙ ap (λ w. told (judge k sets (tree_of w))) f'')
    ∙ judged_choice_is k sets c a b ∙ sym (ap (λ w. told (judge k sets (tree_of w))) g)

pub link_case : {L : Type 0} (k : L → Kind) (sets : Bool) {e : Expr L} (bs : List (Expr L × Expr L)) {s s' : List (Expr L × Expr L)} {r : JudgedExpr} {g : Guards} {v : Option Several} →
    r ≡ row_case sets g v → g ≡ guard_all k no_guards (branches_of s) → s ≡ bs → v ≡ add_all None (judge_values k sets (branches_of s')) → s' ≡ bs → e ≡ Case bs → r ≡ told (judge k sets (tree_of e))
link_case k sets bs {v = v} p q f q' f' g =
    p ∙ ap (λ w. row_case sets w v) (q ∙ ap (λ w. guard_all k no_guards (branches_of w)) f)
    ∙ ap (λ w. row_case sets (guard_all k no_guards (branches_of bs)) w) (q' ∙ ap (λ w. add_all None (judge_values k sets (branches_of w))) f')
    ∙ judged_case_is k sets bs ∙ sym (ap (λ w. told (judge k sets (tree_of w))) g)

pub link_set : {L : Type 0} (k : L → Kind) (sets : Bool) {e : Expr L} (ts : List (Expr L)) {s : List (Expr L)} {r : JudgedExpr} {v : Option Several} →
    r ≡ row_set sets v → v ≡ add_all None (judge_trees k (trees_of s)) → s ≡ ts → e ≡ SetOf ts → r ≡ told (judge k sets (tree_of e))
link_set k sets ts p q f g =
    p ∙ ap (row_set sets) (q ∙ ap (λ w. add_all None (judge_trees k (trees_of w))) f) ∙ judged_set_is k sets ts ∙ sym (ap (λ w. told (judge k sets (tree_of w))) g)
