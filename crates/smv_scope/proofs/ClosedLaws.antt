-- Lists of closed expressions grow by closed ones.
use Rattle.std.proofs.Common.{◌≡◌, ℕ, suc, ◌+◌, ◌≤◌, ◌<◌, Bool, true, false, not, ◌&&◌, List, [], ◌∷◌, ◌++◌, length, refl, ap, ◌∙◌, sym, subst, arith}
use Rattle.std.specs.List.{list_all}
use Rattle.std.proofs.lemmas.List.{length-append}
use Rattle.std.proofs.lemmas.List.Folds.{list_all-append}
use Rattle.smv_language.specs.declared.expr.Expr.{Expr}
use Rattle.smv_language.specs.declared.expr.Expr.TheVariants.{Case, SetOf}
use Rattle.smv_language.specs.declared.expr.Op.TheVariants as op
use Rattle.smv_language.specs.Language.{Tree, binary, tree_of, trees_of, branches_of}
use Rattle.smv_language.proofs.WrittenLaws.{tree_of_case, tree_of_set}
use Rattle.smv_language.specs.declared.model.Flat.{Flat}
use Rattle.smv_language.specs.declared.model.Formula.{Formula}
use Rattle.smv_language.specs.declared.model.Variable.{Variable}
use Rattle.smv_scope.specs.declared.bounds.Bounds.{Bounds}
use Rattle.smv_scope.specs.ClosedModels.{is_within, tree_all, trees_all, branches_all, is_closed, is_branch_closed, are_closed, are_earlier, AreVariables, is_variable, is_instance}
use Rattle.std.proofs.lemmas.Bool.{and_from as both_true}
use Rattle.base_values.specs.declared.limits.TheConstants.{MOST_VARIABLES}
use Rattle.smv_language.proofs.BoolLaws.{left_true, right_true}

and_more : (a b c : Bool) → ((a && b) && c) ≡ (a && (b && c))
and_more true b c = refl
and_more false b c = refl

trees_closed : (b : Bounds) (ts : List (Expr Flat)) → trees_all (is_within b) (trees_of ts) ≡ list_all (is_closed b) ts
trees_closed b [] = refl
trees_closed b (t ∷ ts) = ap (λ rest. is_closed b t && rest) (trees_closed b ts)

branches_closed : (b : Bounds) (bs : List (Expr Flat × Expr Flat)) → branches_all (is_within b) (branches_of bs) ≡ list_all (is_branch_closed b) bs
branches_closed b [] = refl
branches_closed b (p ∷ ps) =
    ap (λ rest. is_closed b p.0 && (is_closed b p.1 && rest)) (branches_closed b ps)
    ∙ sym (and_more (is_closed b p.0) (is_closed b p.1) (list_all (is_branch_closed b) ps))

pub closed_set : (b : Bounds) (ts : List (Expr Flat)) → is_closed b (SetOf ts) ≡ list_all (is_closed b) ts
closed_set b ts = ap (tree_all (is_within b)) (tree_of_set ts) ∙ trees_closed b ts

pub closed_case : (b : Bounds) (bs : List (Expr Flat × Expr Flat)) → is_closed b (Case bs) ≡ list_all (is_branch_closed b) bs
closed_case b bs = ap (tree_all (is_within b)) (tree_of_case bs) ∙ branches_closed b bs

pub all_push : {X : Type 0} (p : X → Bool) (xs : List X) (x : X) → list_all p xs ≡ true → p x ≡ true → list_all p (xs ++ x ∷ []) ≡ true
all_push p xs x all one =
    list_all-append p xs (x ∷ []) ∙ both_true (list_all p xs) (list_all p (x ∷ [])) all (both_true (p x) true one refl)

earlier_after : (v s k : ℕ) (ds : List Formula) (d : Formula) → are_earlier v s k ds ≡ true →
    is_closed (record { variables = v; symbols = s; definitions = k + length ds }) d.value ≡ true → are_earlier v s k (ds ++ d ∷ []) ≡ true
earlier_after v s k [] d before one =
    let same : k + 0 ≡ k = omega arith in
    both_true (is_closed (record { variables = v; symbols = s; definitions = k }) d.value) true
    (subst (λ n. is_closed (record { variables = v; symbols = s; definitions = n }) d.value ≡ true) same one) refl
earlier_after v s k (e ∷ ds) d before one =
    let same : k + length (e ∷ ds) ≡ suc k + length ds = omega arith in
    let first : Bool = is_closed (record { variables = v; symbols = s; definitions = k }) e.value in
    both_true first (are_earlier v s (suc k) (ds ++ d ∷ [])) (left_true first (are_earlier v s (suc k) ds) before)
    (earlier_after v s (suc k) ds d (right_true first (are_earlier v s (suc k) ds) before)
    (subst (λ n. is_closed (record { variables = v; symbols = s; definitions = n }) d.value ≡ true) same one))

pub earlier_push : (b : Bounds) (ds : List Formula) (d : Formula) → are_earlier b.variables b.symbols 0 ds ≡ true → b.definitions ≡ length ds →
    is_closed b d.value ≡ true → are_earlier b.variables b.symbols 0 (ds ++ d ∷ []) ≡ true
earlier_push b ds d before next one =
    let same : b.definitions ≡ 0 + length ds = omega arith in
    earlier_after b.variables b.symbols 0 ds d before
    (subst (λ n. is_closed (record { variables = b.variables; symbols = b.symbols; definitions = n }) d.value ≡ true) same one)

pub formulas_push : (b : Bounds) (fs : List Formula) (f : Formula) → are_closed b fs ≡ true → is_closed b f.value ≡ true → are_closed b (fs ++ f ∷ []) ≡ true
formulas_push b fs f all one = all_push (λ g. is_closed b g.value) fs f all one

pub variables_push : (vs : List Variable) (v : Variable) → AreVariables vs → length vs < MOST_VARIABLES → is_instance v.declared ≡ false → AreVariables (vs ++ v ∷ [])
variables_push vs v known few plain =
    let longer : length (vs ++ v ∷ []) ≡ length vs + length (v ∷ []) = length-append vs (v ∷ []) in
    record { few = subst (λ n. n ≤ MOST_VARIABLES) (sym longer) (omega arith); each = all_push is_variable vs v known.each (ap not plain) }

pub closed_within : (b : Bounds) (made value : Expr Flat) (target : Tree Flat) → tree_of made ≡ binary op.Within target (tree_of value) →
    tree_all (is_within b) target ≡ true → is_closed b value ≡ true → is_closed b made ≡ true
closed_within b made value target is left right =
    ap (tree_all (is_within b)) is ∙ both_true (tree_all (is_within b) target) (is_closed b value) left right
