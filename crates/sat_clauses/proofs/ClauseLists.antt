-- Members of lists of clauses, and what they are worth.
use Rattle.std.proofs.Common.{◌≡◌, ℕ, zero, suc, ◌<◌, List, [], ◌∷◌, length, map, ap, arith, refl, true}
use Rattle.std.specs.Prelude.{Contains, slice_index_or, All, Any}
use Rattle.sat_clauses.specs.Literal.{Literal}
use Rattle.std.proofs.lemmas.List.Elements.{All-contains}
use Rattle.sat_clauses.specs.Models.{TotalAssignment, clause_value, Satisfies, literal_value}
use Rattle.sat_clauses.proofs.ModelLemmas.{All-from_Satisfies as each_true}
use Rattle.std.proofs.lemmas.List.Folds.{Any-from_list_any, list_any-from_Any}

pub map_contains : (f : List Literal → List Literal) (cs : List (List Literal)) (c : List Literal) → Contains cs c → Contains (map f cs) (f c)
map_contains f cs c m = by_place cs m.0 m.1 m.2
  where
    by_place : (cs : List (List Literal)) (i : ℕ) → i < length cs → slice_index_or cs i c ≡ c → Contains (map f cs) (f c)
    by_place [] i h e = absurd (omega (arith, h))
    by_place (d ∷ cs) zero h e = (zero, omega arith, ap f e)
    by_place (d ∷ cs) (suc i) h e =
        let rest : Contains (map f cs) (f c) = by_place cs i (omega (arith, h)) e in (suc rest.0, omega (arith, rest.1), rest.2)

pub from_mapped : (f : List Literal → List Literal) (cs : List (List Literal)) (x : List Literal) → Contains (map f cs) x → (c : List Literal) × Contains cs c × (f c ≡ x)
from_mapped f [] x m = absurd (omega (arith, m.1))
from_mapped f (d ∷ cs) x m = by_place m.0 m.1 m.2 (λ r. from_mapped f cs x r)
  where
    by_place : (i : ℕ) → i < length (map f (d ∷ cs)) → slice_index_or (map f (d ∷ cs)) i x ≡ x → (Contains (map f cs) x → (c : List Literal) × Contains cs c × (f c ≡ x)) → (c : List Literal) × Contains (d ∷ cs) c × (f c ≡ x)
    by_place zero lt e more = (d, (0, grind arith, refl), e)
    by_place (suc i) lt e more = let m = more (i, grind arith, e) in (m.0, (suc m.1.0, (let r = m.1.1 in grind (arith, r)), m.1.2), m.2)

pub member_true : (v : TotalAssignment) (cs : List (List Literal)) (c : List Literal) → Satisfies v cs → Contains cs c → clause_value v c ≡ true
member_true v cs c h m = All-contains (λ c. clause_value v c ≡ true) cs c (each_true v cs h) m

-- a clause whose literals are all in another makes that true
pub covered_true : (v : TotalAssignment) (c needed : List Literal) → All (Contains needed) c → clause_value v c ≡ true → clause_value v needed ≡ true
covered_true v c needed inside e =
    let some : Any (λ l. literal_value v l ≡ true) c = Any-from_list_any (literal_value v) c e in
    let there : Contains needed some.1 = All-contains (Contains needed) c some.1 inside (some.0, some.2, some.3) in
    list_any-from_Any (literal_value v) needed (there.0, some.1, there.1, there.2, some.4)
