-- What clauses are under assignments that agree with a state.
use Rattle.std.proofs.Common.{◌≡◌, ℕ, zero, suc, ◌+◌, ◌<◌, true, false, ◌||◌, List, [], ◌∷◌, length, map, refl, sym, ◌∙◌, ap, arith}
use Rattle.std.specs.Prelude.{All, slice_index_or}
use Rattle.std.proofs.lemmas.List.Elements.{All-head, All-tail}
use Rattle.sat_clauses.specs.Literal.{Literal}
use Rattle.sat_clauses.specs.Models.{TotalAssignment, literal_value, clause_value, Satisfies}
use Rattle.sat_clauses.specs.States.{State, Agrees}
use Rattle.std.proofs.lemmas.Bool.{and_from as both_true}
use Rattle.std.proofs.Math.Nat.{add-zero}
use Rattle.base_values.proofs.NumberLaws.{next_place}

pub satisfies_one : (v : TotalAssignment) (c : List Literal) → clause_value v c ≡ true → Satisfies v (c ∷ [])
satisfies_one v c e = both_true (clause_value v c) true e refl

pub agrees_at : (v : TotalAssignment) (n i : ℕ) (s : State) → Agrees v n s → i < length s → v (n + i) ≡ slice_index_or s i false
agrees_at v n i [] g lt = absurd (omega (arith, lt))
agrees_at v n zero (b ∷ s) g lt = ap v (add-zero n) ∙ g.0
agrees_at v n (suc i) (b ∷ s) g lt = ap v (sym (next_place n i)) ∙ agrees_at v (n + 1) i s g.1 (omega (arith, lt))

-- clauses whose literals have the same values have the same value
pub same_clause : (v w : TotalAssignment) (f : Literal → Literal) (c : List Literal) → All (λ l. literal_value v (f l) ≡ literal_value w l) c → clause_value v (map f c) ≡ clause_value w c
same_clause v w f [] h = refl
same_clause v w f (l ∷ ls) h =
    let here : literal_value v (f l) ≡ literal_value w l = All-head (λ l. literal_value v (f l) ≡ literal_value w l) l ls h in
    let rest : clause_value v (map f ls) ≡ clause_value w ls = same_clause v w f ls (All-tail (λ l. literal_value v (f l) ≡ literal_value w l) l ls h) in
    ap (λ b. b || clause_value v (map f ls)) here ∙ ap (λ b. literal_value w l || b) rest

pub map_same : (c : List Literal) → map (λ l. l) c ≡ c
map_same [] = refl
map_same (l ∷ ls) = ap (λ ks. l ∷ ks) (map_same ls)
