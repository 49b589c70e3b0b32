-- The values of literals, clauses and lists of clauses where every variable has a value.
use Rattle.std.proofs.Common.{◌≡◌, ℕ, ◌||◌, ◌&&◌, Bool, true, false, not, List, [], ◌∷◌, ◌++◌, All, refl, sym, ◌∙◌, ap}
use Rattle.std.proofs.lemmas.Bool.{and_parts, and_from}
use Rattle.std.proofs.lemmas.List.Elements.{All-head, All-tail}
use Rattle.std.proofs.lemmas.List.Folds.{list_all-append}
use Rattle.std.proofs.lemmas.List.Sums.{AllPass-from_list_all, list_all-from_AllPass}
use Rattle.sat_clauses.specs.Literal.{Literal, plain, opposite, signed}
use Rattle.sat_clauses.specs.Models.{TotalAssignment, literal_value, clause_value, all_true, Satisfies, SameBelow, IsBelow, ClauseBelow, ClausesBelow}

-- the clause -1 or 2 is true where 1 is false
example : clause_value (λ x. false) (opposite (plain 1) ∷ plain 2 ∷ []) ≡ true
example = refl

pub signed-not : (n b : Bool) → signed (not n) b ≡ not (signed n b)
signed-not true true = refl
signed-not true false = refl
signed-not false b = refl

-- a literal's opposite has the contrary value, and the same variable
pub literal_value-opposite : (v : TotalAssignment) (l : Literal) → literal_value v (opposite l) ≡ not (literal_value v l)
literal_value-opposite v l = signed-not l.negated (v l.var)

-- where two assignments agree below n, they agree on what has only variables below n
pub literal_value-same : (n : ℕ) (v w : TotalAssignment) (l : Literal) → SameBelow n v w → IsBelow n l → literal_value w l ≡ literal_value v l
literal_value-same n v w l same below = ap (signed l.negated) (same l.var below)

pub clause_value-same : (n : ℕ) (v w : TotalAssignment) (c : List Literal) → SameBelow n v w → ClauseBelow n c → clause_value w c ≡ clause_value v c
clause_value-same n v w [] same below = refl
clause_value-same n v w (l ∷ c) same below =
    ap (λ b. b || clause_value w c) (literal_value-same n v w l same (All-head (IsBelow n) l c below))
    ∙ ap (λ b. literal_value v l || b) (clause_value-same n v w c same (All-tail (IsBelow n) l c below))

pub all_true-same : (n : ℕ) (v w : TotalAssignment) (clauses : List (List Literal)) → SameBelow n v w → ClausesBelow n clauses → all_true w clauses ≡ all_true v clauses
all_true-same n v w [] same below = refl
all_true-same n v w (c ∷ clauses) same below =
    ap (λ b. b && all_true w clauses) (clause_value-same n v w c same (All-head (ClauseBelow n) c clauses below))
    ∙ ap (λ b. clause_value v c && b) (all_true-same n v w clauses same (All-tail (ClauseBelow n) c clauses below))

-- a model of a list is one of its parts, and the other way round
pub Satisfies-front : (v : TotalAssignment) (cs ds : List (List Literal)) → Satisfies v (cs ++ ds) → Satisfies v cs
Satisfies-front v cs ds h = (and_parts _ _ (sym (list_all-append (clause_value v) cs ds) ∙ h)).0

pub Satisfies-back : (v : TotalAssignment) (cs ds : List (List Literal)) → Satisfies v (cs ++ ds) → Satisfies v ds
Satisfies-back v cs ds h = (and_parts _ _ (sym (list_all-append (clause_value v) cs ds) ∙ h)).1

pub Satisfies-append : (v : TotalAssignment) (cs ds : List (List Literal)) → Satisfies v cs → Satisfies v ds → Satisfies v (cs ++ ds)
Satisfies-append v cs ds h k = list_all-append (clause_value v) cs ds ∙ and_from _ _ h k

-- a model makes each clause true, and what makes each clause true is a model
pub All-from_Satisfies : (v : TotalAssignment) (clauses : List (List Literal)) → Satisfies v clauses → All (λ c. clause_value v c ≡ true) clauses
All-from_Satisfies v clauses h = AllPass-from_list_all (clause_value v) clauses h

pub Satisfies-from_All : (v : TotalAssignment) (clauses : List (List Literal)) → All (λ c. clause_value v c ≡ true) clauses → Satisfies v clauses
Satisfies-from_All v clauses each = list_all-from_AllPass (clause_value v) clauses each
