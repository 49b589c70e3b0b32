-- Steps that come after steps, and what clauses cover.
use Rattle.std.proofs.Common.{◌≡◌, ℕ, zero, suc, List, [], ◌∷◌, ◌++◌, length, map, take, Some, refl, sym, ◌∙◌, ap, subst, append_assoc}
use Rattle.std.specs.Prelude.{Contains, All, slice_get}
use Rattle.std.proofs.lemmas.List.Elements.{Contains-append_left}
use Rattle.sat_clauses.specs.Literal.{Literal}
use Rattle.sat_clauses.specs.Models.{FollowsFrom}
use Rattle.sat_clauses.specs.Steps.{IsStep, AreSteps, with_steps}
use Rattle.sat_clauses.specs.declared.step.Step.{Step}
use Rattle.cert_laws.specs.Acceptance.{known_before, Covers}
use Rattle.std.proofs.lemmas.List.{append-nil as append_none}
use Rattle.sat_clauses.proofs.ModelLemmas.{Satisfies-front}
use Rattle.std.proofs.Math.Seq.{take-length}

-- steps, and then more
pub steps_joined : (vars : ℕ) (cs : List (List Literal)) (xs ys : List Step) → AreSteps vars cs xs → AreSteps vars (with_steps cs xs) ys → AreSteps vars cs (xs ++ ys)
steps_joined vars cs [] ys h k = k
steps_joined vars cs (x ∷ xs) ys h k = (h.0, steps_joined vars (cs ++ x.clause ∷ []) xs ys h.1 k)

pub with_joined : (cs : List (List Literal)) (xs ys : List Step) → with_steps cs (xs ++ ys) ≡ with_steps (with_steps cs xs) ys
with_joined cs [] ys = refl
with_joined cs (x ∷ xs) ys = with_joined (cs ++ x.clause ∷ []) xs ys

-- the clauses with steps are the clauses, and others after them
pub with_more : (cs : List (List Literal)) (xs : List Step) → with_steps cs xs ≡ cs ++ map (λ (s : Step). s.clause) xs
with_more cs [] = sym (append_none cs)
with_more cs (x ∷ xs) = with_more (cs ++ x.clause ∷ []) xs ∙ append_assoc cs (x.clause ∷ []) (map (λ (s : Step). s.clause) xs)

pub all_known : (cs : List (List Literal)) (xs : List Step) → known_before cs xs (length xs) ≡ with_steps cs xs
all_known cs xs = ap (λ ys. cs ++ map (λ (s : Step). s.clause) ys) (take-length xs) ∙ sym (with_more cs xs)

-- each step follows from what stands before it
pub step_at : (vars : ℕ) (cs : List (List Literal)) (xs : List Step) (k : ℕ) (s : Step) → AreSteps vars cs xs → slice_get xs k ≡ Some s → IsStep vars (known_before cs xs k) s
step_at vars cs [] k s h e = cc
step_at vars cs (x ∷ xs) zero s h e = subst (λ ds. IsStep vars ds s) (sym (append_none cs)) (subst (IsStep vars cs) (same x s e) h.0)
  where
    same : (x s : Step) → Some x ≡ Some s → x ≡ s
    same x s e = cc
step_at vars cs (x ∷ xs) (suc k) s h e =
    subst (λ ds. IsStep vars ds s) (append_assoc cs (x.clause ∷ []) (map (λ (t : Step). t.clause) (take k xs))) (step_at vars (cs ++ x.clause ∷ []) xs k s h.1 e)

-- Covering.
pub covers_by : (cs : List (List Literal)) (needed core : List Literal) → Contains cs core → All (Contains needed) core → Covers cs needed
covers_by cs needed core m inside = (m.0, core, m.1, m.2, inside)

pub covers_more : (cs ds : List (List Literal)) (needed : List Literal) → Covers cs needed → Covers (cs ++ ds) needed
covers_more cs ds needed h = let m : Contains (cs ++ ds) h.1 = Contains-append_left cs ds h.1 (h.0, h.2, h.3) in covers_by (cs ++ ds) needed h.1 m h.4

pub covers_with : (cs : List (List Literal)) (xs : List Step) (needed : List Literal) → Covers cs needed → Covers (with_steps cs xs) needed
covers_with cs xs needed h = subst (λ ds. Covers ds needed) (sym (with_more cs xs)) (covers_more cs (map (λ (s : Step). s.clause) xs) needed h)

-- what follows from clauses follows from more
pub follows_with : (cs : List (List Literal)) (xs : List Step) (c : List Literal) → FollowsFrom cs c → FollowsFrom (with_steps cs xs) c
follows_with cs xs c h = λ v model. h v (Satisfies-front v cs (map (λ (s : Step). s.clause) xs) (subst (λ ds. Rattle.sat_clauses.specs.Models.Satisfies v ds) (with_more cs xs) model))
