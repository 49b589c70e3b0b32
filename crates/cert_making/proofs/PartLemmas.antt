-- What the parts of an invariant's derivations are to show follows from what is given for them.
use Rattle.std.proofs.Common.{◌≡◌, ℕ, zero, suc, ◌+◌, ◌<◌, List, [], ◌∷◌, ◌++◌, length, map, get_or, refl, sym, ◌∙◌, ap, subst, arith}
use Rattle.std.specs.Prelude.{Contains, All, slice_index_or}
use Rattle.std.proofs.lemmas.List.Elements.{All-nil, All-cons, All-head, All-tail, All-contains, Contains-get_or}
use Rattle.sat_clauses.specs.Literal.{Literal, opposite}
use Rattle.sat_clauses.specs.Models.{FollowsFrom}
use Rattle.sat_clauses.specs.Hints.{HasNoOpposites, LacksOpposite}
use Rattle.sat_clauses.specs.States.{moved_on, IsOverBits, IsInvariant}
use Rattle.sat_clauses.specs.declared.system.System.{System}
use Rattle.cert_laws.specs.Certificate.{Certificate, Part, part_first, part_next, part_bad}
use Rattle.cert_laws.specs.Acceptance.{Subject, givens, goals}
use Rattle.cert_laws.proofs.Made.{goals_follow}

module _ (system : System) (invariant bad : List (List Literal)) (over : All (IsOverBits system) invariant) (is_one : IsInvariant system bad invariant) where
  -- a certificate of no set, judged about these clauses
  abbrev of : Certificate
  of = record { bits = 0; faults = 0; size = 0; sets = []; traces = []; invariant = invariant; first = []; next = []; bad = [] }

  abbrev about : Subject
  about = record { system = system; faults = 0; bad = λ sets size. bad }

  follow_in : (part : Part) → All (FollowsFrom (givens about of part)) (goals about of part)
  follow_in part k d within = goals_follow about of over is_one part (get_or (goals about of part) k d) (Contains-get_or (goals about of part) k d within)

  pub first_follow : All (FollowsFrom system.first) invariant
  first_follow = follow_in part_first

  pub next_follow : All (FollowsFrom (system.step ++ invariant)) (map (map (moved_on system.state_bits)) invariant)
  next_follow = follow_in part_next

  pub bad_follow : All (FollowsFrom (bad ++ invariant)) ([] ∷ [])
  bad_follow = follow_in part_bad

-- What all clauses of a list have, clauses that are among them have.
pub all_among : (P : List Literal → Type 0) (list clauses : List (List Literal)) → All P list → All (Contains list) clauses → All P clauses
all_among P list clauses all among k d within = All-contains P list (get_or clauses k d) all (among k d within)

-- A clause over the state next has no opposites where it had none.
module _ (bits : ℕ) where
  contains_back : (c : List Literal) (l : Literal) → Contains (map (moved_on bits) c) l → (k : Literal) × Contains c k × (moved_on bits k ≡ l)
  contains_back c l m = by_place c m.0 m.1 m.2
    where
      by_place : (c : List Literal) (i : ℕ) → i < length (map (moved_on bits) c) → slice_index_or (map (moved_on bits) c) i l ≡ l → (k : Literal) × Contains c k × (moved_on bits k ≡ l)
      by_place [] i h e = absurd (omega (arith, h))
      by_place (k ∷ c) zero h e = (k, (0, omega arith, refl), e)
      by_place (k ∷ c) (suc i) h e =
          let rest : (k : Literal) × Contains c k × (moved_on bits k ≡ l) = by_place c i (omega (arith, h)) e in
          (rest.0, (suc rest.1.0, omega (arith, rest.1.1), rest.1.2), rest.2)

  same_moved : (k l : Literal) → moved_on bits k ≡ moved_on bits l → k ≡ l
  same_moved k l e =
      let vars : k.var + bits ≡ l.var + bits = ap (λ (x : Literal). x.var) e in
      let signs : k.negated ≡ l.negated = ap (λ (x : Literal). x.negated) e in
      let same : k.var ≡ l.var = omega (arith, vars) in
      ap (λ n. let r : Literal = record { var = n; negated = k.negated } in r) same ∙ ap (λ b. let r : Literal = record { var = l.var; negated = b } in r) signs

  moved_lacks : (c : List Literal) → HasNoOpposites c → (l : Literal) → Contains (map (moved_on bits) c) l → LacksOpposite (map (moved_on bits) c) l
  moved_lacks c apart l m = record {
    absent = λ n.
        let this : (k : Literal) × Contains c k × (moved_on bits k ≡ l) = contains_back c l m in
        let other : (k : Literal) × Contains c k × (moved_on bits k ≡ opposite l) = contains_back c (opposite l) n in
        let same : other.0 ≡ opposite this.0 = same_moved other.0 (opposite this.0) (other.2 ∙ ap opposite (sym this.2)) in
        (All-contains (LacksOpposite c) c this.0 apart this.1).absent (subst (Contains c) same other.1);
  }

  moved_clause_apart : (c : List Literal) → HasNoOpposites c → HasNoOpposites (map (moved_on bits) c)
  moved_clause_apart c apart k d within = moved_lacks c apart (get_or (map (moved_on bits) c) k d) (Contains-get_or (map (moved_on bits) c) k d within)

  pub moved_apart : (cs : List (List Literal)) → All HasNoOpposites cs → All HasNoOpposites (map (map (moved_on bits)) cs)
  moved_apart [] all = All-nil HasNoOpposites
  moved_apart (c ∷ cs) all =
      All-cons HasNoOpposites (map (moved_on bits) c) (map (map (moved_on bits)) cs) (moved_clause_apart c (All-head HasNoOpposites c cs all)) (moved_apart cs (All-tail HasNoOpposites c cs all))
