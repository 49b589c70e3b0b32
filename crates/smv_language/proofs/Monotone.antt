-- More depth finds no other meaning and no other values.
use Rattle.std.proofs.Common.{◌≡◌, ℕ, zero, suc, ◌+◌, arith, true, false, [], ◌∷◌, ◌++◌, Option, Some, None, refl, sym, ◌∙◌, subst}
use Rattle.smv_language.specs.declared.expr.Op.{Op}
use Rattle.smv_language.specs.declared.expr.Op.TheVariants as op
use Rattle.smv_language.specs.Tree.{Tree, Trees, Branches, truth as is_truth, number as is_number, leaf, not_of, negate, next_of, binary, choice, case_of, set_of, span, no_tree, tree_then, no_branch, branch_then}
use Rattle.smv_language.specs.ProgramTree.{Text, Path, Formula, ProgramTree}
use Rattle.smv_language.specs.Values.{truth, number, symbol, Values, no_value, one, from_to, either}
use Rattle.smv_language.specs.Evaluate.{Leaves, gives_not, gives_negative, gives_either, gives_within, gives_applied, gives_binary, gives_choice, evaluate, evaluate_trees, evaluate_branches}
use Rattle.smv_language.specs.Scope.{Place, Key, actual_key, Kind, a_formal, a_variable, a_define, an_instance, undeclared, Meaning, a_variable_at, an_expression_at, an_instance_at, a_symbol, LookUp, plain_name, through_plain, through_actual, through_formal, by_kind, means_in}
use Rattle.smv_language.specs.May.{Valuation, values_of_meaning, name_values}

-- g gives all that f gives
abbrev pub Extends : {L : Type 0} → Leaves L → Leaves L → Type 0
Extends f g = (l : _) (vs : Values) → f l ≡ Some vs → g l ≡ Some vs

abbrev pub Below : Option Values → Option Values → Type 0
Below a b = (vs : Values) → a ≡ Some vs → b ≡ Some vs

not_below : (a b : Option Values) → Below a b → Below (gives_not a) (gives_not b)
not_below None b h vs e = cc
not_below (Some x) b h vs e = rw (h x refl) e

negative_below : (a b : Option Values) → Below a b → Below (gives_negative a) (gives_negative b)
negative_below None b h vs e = cc
negative_below (Some x) b h vs e = rw (h x refl) e

either_below : (a a' b b' : Option Values) → Below a a' → Below b b' → Below (gives_either a b) (gives_either a' b')
either_below None a' None b' h k vs e = cc
either_below None a' (Some y) b' h k vs e = cc
either_below (Some x) a' None b' h k vs e = cc
either_below (Some x) a' (Some y) b' h k vs e = rw (h x refl, k y refl) e

within_below : (a a' b b' : Option Values) → Below a a' → Below b b' → Below (gives_within a b) (gives_within a' b')
within_below None a' b b' h k vs e = cc
within_below (Some no_value) a' b b' h k vs e = cc
within_below (Some (from_to lo hi)) a' b b' h k vs e = cc
within_below (Some (either x y)) a' b b' h k vs e = cc
within_below (Some (one v)) a' None b' h k vs e = cc
within_below (Some (one v)) a' (Some y) b' h k vs e = rw (h (one v) refl, k y refl) e

applied_below : (o : Op) (a a' b b' : Option Values) → Below a a' → Below b b' → Below (gives_applied o a b) (gives_applied o a' b')
applied_below o None a' b b' h k vs e = cc
applied_below o (Some no_value) a' b b' h k vs e = cc
applied_below o (Some (from_to lo hi)) a' b b' h k vs e = cc
applied_below o (Some (either x y)) a' b b' h k vs e = cc
applied_below o (Some (one v)) a' None b' h k vs e = cc
applied_below o (Some (one v)) a' (Some y) b' h k vs e = rw (h (one v) refl, k y refl) e

binary_below : (o : Op) (a a' b b' : Option Values) → Below a a' → Below b b' → Below (gives_binary o a b) (gives_binary o a' b')
binary_below op.Union a a' b b' h k = either_below a a' b b' h k
binary_below op.Within a a' b b' h k = within_below a a' b b' h k
binary_below o a a' b b' h k = applied_below o a a' b b' h k

choice_below : (c c' a a' b b' : Option Values) → Below c c' → Below a a' → Below b b' → Below (gives_choice c a b) (gives_choice c' a' b')
choice_below None c' a a' b b' g h k vs e = cc
choice_below (Some no_value) c' a a' b b' g h k vs e = cc
choice_below (Some (from_to lo hi)) c' a a' b b' g h k vs e = cc
choice_below (Some (either x y)) c' a a' b b' g h k vs e = cc
choice_below (Some (one (number n))) c' a a' b b' g h k vs e = cc
choice_below (Some (one (symbol s))) c' a a' b b' g h k vs e = cc
choice_below (Some (one (truth true))) c' a a' b b' g h k vs e = rw (g (one (truth true)) refl) (h vs e)
choice_below (Some (one (truth false))) c' a a' b b' g h k vs e = rw (g (one (truth false)) refl) (k vs e)

mutual
  pub evaluate_below : {L : Type 0} (t : Tree L) (now now' next next' : Leaves L) → Extends now now' → Extends next next' →
      Below (evaluate now next t) (evaluate now' next' t)
  evaluate_below (is_truth b) now now' next next' h k = λ vs e. e
  evaluate_below (is_number n) now now' next next' h k = λ vs e. e
  evaluate_below (leaf l) now now' next next' h k = h l
  evaluate_below (not_of a) now now' next next' h k = not_below _ _ (evaluate_below a now now' next next' h k)
  evaluate_below (negate a) now now' next next' h k = negative_below _ _ (evaluate_below a now now' next next' h k)
  evaluate_below (next_of a) now now' next next' h k = evaluate_below a next next' next next' k k
  evaluate_below (binary o a b) now now' next next' h k =
      binary_below o _ _ _ _ (evaluate_below a now now' next next' h k) (evaluate_below b now now' next next' h k)
  evaluate_below (choice c a b) now now' next next' h k =
      choice_below _ _ _ _ _ _ (evaluate_below c now now' next next' h k) (evaluate_below a now now' next next' h k) (evaluate_below b now now' next next' h k)
  evaluate_below (case_of bs) now now' next next' h k = branches_below bs now now' next next' h k
  evaluate_below (set_of ts) now now' next next' h k = trees_below ts now now' next next' h k
  evaluate_below (span lo hi) now now' next next' h k = λ vs e. e

  pub trees_below : {L : Type 0} (ts : Trees L) (now now' next next' : Leaves L) → Extends now now' → Extends next next' →
      Below (evaluate_trees now next ts) (evaluate_trees now' next' ts)
  trees_below no_tree now now' next next' h k = λ vs e. e
  trees_below (tree_then t ts) now now' next next' h k =
      either_below _ _ _ _ (evaluate_below t now now' next next' h k) (trees_below ts now now' next next' h k)

  pub branches_below : {L : Type 0} (bs : Branches L) (now now' next next' : Leaves L) → Extends now now' → Extends next next' →
      Below (evaluate_branches now next bs) (evaluate_branches now' next' bs)
  branches_below no_branch now now' next next' h k = λ vs e. e
  branches_below (branch_then c a bs) now now' next next' h k =
      choice_below _ _ _ _ _ _ (evaluate_below c now now' next next' h k) (evaluate_below a now now' next next' h k) (branches_below bs now now' next next' h k)

-- a look-up that finds all that another finds
abbrev pub Finds : LookUp → LookUp → Type 0
Finds look look' = (at : Place) (name : Path) (m : Meaning) → look at name ≡ Some m → look' at name ≡ Some m

plain_finds : (look look' : LookUp) (key : Key) (caller : Place) (e : Formula) (o : Option Path) (rest : Path) (m : Meaning) → Finds look look' →
    through_plain look key caller e o rest ≡ Some m → through_plain look' key caller e o rest ≡ Some m
plain_finds look look' key caller e (Some []) rest m h q = q
plain_finds look look' key caller e (Some (x ∷ name)) rest m h q = h caller (x ∷ (name ++ rest)) m q
plain_finds look look' key caller e None rest m h q = q

actual_finds : (look look' : LookUp) (key : Key) (caller : Place) (o : Option Formula) (rest : Path) (m : Meaning) → Finds look look' →
    through_actual look key caller o rest ≡ Some m → through_actual look' key caller o rest ≡ Some m
actual_finds look look' key caller None rest m h q = q
actual_finds look look' key caller (Some e) rest m h q = plain_finds look look' key caller e (plain_name e) rest m h q

formal_finds : (look look' : LookUp) (p : ProgramTree) (at : Place) (i : ℕ) (rest : Path) (m : Meaning) → Finds look look' →
    through_formal look p at i rest ≡ Some m → through_formal look' p at i rest ≡ Some m
formal_finds look look' p [] i rest m h q = q
formal_finds look look' p (own ∷ caller) i rest m h q = actual_finds look look' (actual_key (own ∷ caller) i) caller _ rest m h q

kind_finds : (look look' : LookUp) (p : ProgramTree) (at : Place) (k : Kind) (x : Text) (rest : Path) (m : Meaning) → Finds look look' →
    by_kind look p at k x rest ≡ Some m → by_kind look' p at k x rest ≡ Some m
kind_finds look look' p at (a_formal i) x rest m h q = formal_finds look look' p at i rest m h q
kind_finds look look' p at (a_variable role what) x [] m h q = q
kind_finds look look' p at (a_variable role what) x (y ∷ rest) m h q = q
kind_finds look look' p at (a_define e) x [] m h q = q
kind_finds look look' p at (a_define e) x (y ∷ rest) m h q = q
kind_finds look look' p at (an_instance n actuals) x [] m h q = q
kind_finds look look' p at (an_instance n actuals) x (y ∷ rest) m h q = h (x ∷ at) (y ∷ rest) m q
kind_finds look look' p at undeclared x [] m h q = q
kind_finds look look' p at undeclared x (y ∷ rest) m h q = q

pub means_more : (n : ℕ) (p : ProgramTree) → Finds (means_in n p) (means_in (suc n) p)
means_more zero p at name m e = cc
means_more (suc n) p at [] m e = cc
means_more (suc n) p at (x ∷ rest) m e = kind_finds (means_in n p) (means_in (suc n) p) p at _ x rest m (means_more n p) e

-- what a meaning gives, when its expression gives more and it is found
meaning_below : (give give' : Place → Formula → Option Values) (now : Valuation) (o o' : Option Meaning) →
    ((at : Place) (e : Formula) → Below (give at e) (give' at e)) → ((m : Meaning) → o ≡ Some m → o' ≡ Some m) →
    Below (values_of_meaning give now o) (values_of_meaning give' now o')
meaning_below give give' now None o' h k vs e = cc
meaning_below give give' now (Some (a_variable_at at x)) o' h k vs e = rw (k _ refl) e
meaning_below give give' now (Some (an_expression_at key at f)) o' h k vs e = rw (k _ refl) (h at f vs e)
meaning_below give give' now (Some (an_instance_at at)) o' h k vs e = cc
meaning_below give give' now (Some (a_symbol x)) o' h k vs e = rw (k _ refl) e

pub name_values_more : (n : ℕ) (p : ProgramTree) (at : Place) (now next : Valuation) → Extends (name_values n p at now next) (name_values (suc n) p at now next)
name_values_more zero p at now next name = λ vs e. cc
name_values_more (suc n) p at now next name =
    meaning_below _ _ now _ _
    (λ at' e. evaluate_below e _ _ _ _ (name_values_more n p at' now next) (name_values_more n p at' next next))
    (means_more (suc n) p at name)

pub raised : (d n m : ℕ) (p : ProgramTree) (at : Place) (now next : Valuation) → n + d ≡ m → Extends (name_values n p at now next) (name_values m p at now next)
raised zero n m p at now next e name vs h = let same : n ≡ m = omega arith in subst (λ k. name_values k p at now next name ≡ Some vs) same h
raised (suc d) n m p at now next e name vs h = raised d (suc n) m p at now next (omega arith) name vs (name_values_more n p at now next name vs h)

-- an expression has the same values at every depth at which it has any
pub same_values : (n m : ℕ) (p : ProgramTree) (at : Place) (now next : Valuation) (e : Formula) (vs ws : Values) →
    evaluate (name_values n p at now next) (name_values n p at next next) e ≡ Some vs →
    evaluate (name_values m p at now next) (name_values m p at next next) e ≡ Some ws → vs ≡ ws
same_values n m p at now next e vs ws h k =
    let a : evaluate (name_values (n + m) p at now next) (name_values (n + m) p at next next) e ≡ Some vs =
    evaluate_below e _ _ _ _ (raised m n (n + m) p at now next refl) (raised m n (n + m) p at next next refl) vs h in
    let b : evaluate (name_values (n + m) p at now next) (name_values (n + m) p at next next) e ≡ Some ws =
    evaluate_below e _ _ _ _ (raised n m (n + m) p at now next (omega arith)) (raised n m (n + m) p at next next (omega arith)) ws k in
    let both : Some vs ≡ Some ws = sym a ∙ b in cc

-- more steps find what fewer find
pub means_raised : (n d : ℕ) (p : ProgramTree) (at : Place) (name : Path) (m : Meaning) → means_in n p at name ≡ Some m → means_in (n + d) p at name ≡ Some m
means_raised n zero p at name m h = let same : n + zero ≡ n = omega arith in subst (λ k. means_in k p at name ≡ Some m) (sym same) h
means_raised n (suc d) p at name m h =
    let same : suc (n + d) ≡ n + suc d = omega arith in
    subst (λ k. means_in k p at name ≡ Some m) same (means_more (n + d) p at name m (means_raised n d p at name m h))

-- what an expression gives at some depth it gives at each greater one
pub values_raised : (n d : ℕ) (p : ProgramTree) (at : Place) (now next : Valuation) (e : Formula) (vs : Values) →
    evaluate (name_values n p at now next) (name_values n p at next next) e ≡ Some vs →
    evaluate (name_values (n + d) p at now next) (name_values (n + d) p at next next) e ≡ Some vs
values_raised n d p at now next e vs h =
    evaluate_below e _ _ _ _ (raised d n (n + d) p at now next refl) (raised d n (n + d) p at next next refl) vs h
