-- The values that the roles of variables give where some guards are asked about, and what renamed clauses say.
use Rattle.std.proofs.Common.{◌≡◌, ◌⊎◌, inl, inr, ◌≤◌, ◌<◌, ℕ, suc, ◌+◌, ◌-◌, nat_le, Bool, true, false, not, List, [], ◌∷◌, refl, ap, arith}
use Rattle.std.specs.Prelude.{Contains}
use Rattle.std.proofs.lemmas.Bool.{le-leb, lt-leb}
use Rattle.std.proofs.lemmas.Bool.Decides.{leb_tells}
use Rattle.sat_clauses.specs.Literal.{Literal, plain, opposite}
use Rattle.sat_clauses.specs.Models.{TotalAssignment, literal_value, clause_value}
use Rattle.cut_frames.specs.Roles.{Listed, Role, place, frame_guard, list_guard, gate, retired, unused, renamed, renamed_clause, under_guard}
use Rattle.sat_simplify.proofs.ClauseLaws.{true_literal, true_by}

pub order : (i j : ℕ) → (i ≤ j) ⊎ (j < i)
order i j = by_test (leb_tells i j) where
  by_test : ((nat_le i j ≡ true) × (i ≤ j)) ⊎ ((nat_le i j ≡ false) × (j < i)) → (i ≤ j) ⊎ (j < i)
  by_test (inl t) = inl t.1
  by_test (inr t) = inr t.1

pub first_in : (l : Literal) (c : List Literal) → Contains (l ∷ c) l
first_in l c = (0, grind arith, refl)

pub later_in : (l k : Literal) (c : List Literal) → Contains c k → Contains (l ∷ c) k
later_in l k c m = (suc m.0, (let lt = m.1 in grind (arith, lt)), m.2)

-- the places keep their numbers, and those above them get others
pub renamed_low : (places base x : ℕ) → x ≤ places → renamed places base x ≡ x
renamed_low places base x le = let e : nat_le x places ≡ true = le-leb x places le in rw e refl

pub renamed_high : (places base x : ℕ) → places < x → renamed places base x ≡ x - places + base
renamed_high places base x lt = let e : nat_le x places ≡ false = lt-leb x places lt in rw e refl

-- a renamed clause says what the clause does where each variable has the value of its renamed one
pub renamed_value : (v : TotalAssignment) (places base : ℕ) (c : List Literal) → clause_value v (renamed_clause places base c) ≡ clause_value (λ x. v (renamed places base x)) c
renamed_value v places base [] = refl
renamed_value v places base (l ∷ c) = let more = renamed_value v places base c in rw more refl

-- a clause whose guard is true
pub unguards : (v : TotalAssignment) (x : ℕ) (c : List Literal) → v x ≡ true → clause_value v (under_guard x c) ≡ true → clause_value v c ≡ true
unguards v x c g u = let off : literal_value v (opposite (plain x)) ≡ false = ap not g in rw off at u

-- a clause whose guard is false
pub unasked : (v : TotalAssignment) (x : ℕ) (c : List Literal) → v x ≡ false → clause_value v (under_guard x c) ≡ true
unasked v x c g = let on : literal_value v (opposite (plain x)) ≡ true = ap not g in rw on refl

-- a clause that is true whatever its guard is
pub anyway : (v : TotalAssignment) (x : ℕ) (c : List Literal) → clause_value v c ≡ true → clause_value v (under_guard x c) ≡ true
anyway v x c t = let m = true_literal v c t in true_by v (under_guard x c) m.0 (later_in (opposite (plain x)) m.0 c m.1) m.2

-- what is asked: whether the guard of a frame is true, whether that of a list is, and the values of the gates of each list
pub record Asked : Type 0 where
  pub frame : ℕ → Bool
  pub list : Listed → Bool
  pub values : Listed → TotalAssignment

-- the value of a variable by its role
abbrev pub by_role : Asked → TotalAssignment → ℕ → Role → Bool
by_role q v x place = v x
by_role q v x (frame_guard j) = q.frame j
by_role q v x (list_guard which) = q.list which
by_role q v x (gate which n) = q.values which n
by_role q v x retired = false
by_role q v x unused = false

abbrev pub spread : Asked → (ℕ → Role) → TotalAssignment → TotalAssignment
spread q role v x = by_role q v x (role x)

pub spread_at : (q : Asked) (role : ℕ → Role) (v : TotalAssignment) (x : ℕ) (r : Role) → role x ≡ r → spread q role v x ≡ by_role q v x r
spread_at q role v x r e = ap (by_role q v x) e
