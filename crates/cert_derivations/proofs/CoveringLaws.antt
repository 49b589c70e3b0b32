-- Which clauses cover, by their places.
use Rattle.std.proofs.Common.{eqb, cond, Bool, true, false, ◌≡◌, ◌⊎◌, inl, inr, ℕ, suc, ◌+◌, ◌-◌, ◌<◌, arith, List, Some, None, All, Contains, sym, ap, subst, ◌∙◌}
use Rattle.std.specs.Prelude.{slice_get}
use Rattle.std.proofs.lemmas.Bool.{cases_eq}
use Rattle.std.proofs.lemmas.Option.{slice_get_within, get_or_from_slice_get}
use Rattle.sat_clauses.specs.Literal.{Literal}
use Rattle.sat_clauses.specs.Hints.{clause_at}
use Rattle.cert_laws.specs.Acceptance.{Covers}
use Rattle.cert_derivations.specs.Covering.{CoversNoneIn}

-- The clause of a number, from 1, by its place, from 0.
at_number : (cs : List (List Literal)) (n i : ℕ) (x : List Literal) → n ≡ suc i → clause_at cs n ≡ Some x → slice_get cs i ≡ Some x
at_number cs n i x p e = subst (λ k. slice_get cs k ≡ Some x) (less p) (by_test (eqb n 0) e)
  where
    less : n ≡ suc i → n - 1 ≡ i
    less p = omega (arith, p)

    nothing : None ≡ Some x → ⊥
    nothing e = cc

    by_test : (b : Bool) → cond b None (slice_get cs (n - 1)) ≡ Some x → slice_get cs (n - 1) ≡ Some x
    by_test true e = absurd (nothing e)
    by_test false e = e

pub at_place : (cs : List (List Literal)) (i : ℕ) (x : List Literal) → clause_at cs (i + 1) ≡ Some x → slice_get cs i ≡ Some x
at_place cs i x e = at_number cs (i + 1) i x (next i) e
  where
    next : (i : ℕ) → i + 1 ≡ suc i
    next i = omega arith

-- A clause of these whose literals are among those needed covers them.
pub covered_at : (cs : List (List Literal)) (needed : List Literal) (i : ℕ) (x : List Literal) → slice_get cs i ≡ Some x → All (Contains needed) x → Covers cs needed
covered_at cs needed i x e h = (i, x, slice_get_within cs i x e, get_or_from_slice_get cs i x x e, h)

-- and where none before a place does, and not the one there, none up to it does
pub not_later : (cs : List (List Literal)) (needed : List Literal) (start i : ℕ) (x : List Literal) → slice_get cs i ≡ Some x →
    CoversNoneIn cs needed start i → (All (Contains needed) x → ⊥) → CoversNoneIn cs needed start (i + 1)
not_later cs needed start i x e before here j clause from l at h = by_place (cases_eq j i)
  where
    strict : (j : ℕ) → (j ≡ i → ⊥) → j < i + 1 → j < i
    strict j n l = grind (arith, n, l)

    same : Some x ≡ Some clause → clause ≡ x
    same f = cc

    by_place : (j ≡ i) ⊎ (j ≡ i → ⊥) → ⊥
    by_place (inl p) = here (subst (All (Contains needed)) (same (sym e ∙ sym (ap (slice_get cs) p) ∙ at)) h)
    by_place (inr n) = before j clause from (strict j n l) at h
