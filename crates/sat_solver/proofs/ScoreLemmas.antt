-- The score of a trail rises.
use Rattle.std.proofs.Common.{◌≡◌, ℕ, zero, suc, ◌+◌, ◌<◌, ◌≤◌, List, [], ◌∷◌, ◌++◌, length, refl, ap, arith}
use Rattle.sat_solver.specs.declared.trail.TrailEntry.{TrailEntry}
use Rattle.sat_solver.specs.declared.trail.Reason.{Reason}
use Rattle.sat_solver.specs.declared.trail.Reason.TheVariants.{Assumed, Chosen, Implied}
use Rattle.sat_solver.specs.Search.{IsDecision}
use Rattle.sat_solver.specs.Score.{tripled, points, score, left}

some_tripled : (n : ℕ) → 1 ≤ tripled n
some_tripled zero = omega arith
some_tripled (suc n) = omega (arith, some_tripled n)

points_most : (q : Reason) (k : ℕ) → points q k ≤ k + k
points_most (Implied x) k = omega arith
points_most (Assumed c) k = omega arith
points_most Chosen k = omega arith

points_least : (q : Reason) (k : ℕ) → k ≤ points q k
points_least (Implied x) k = omega arith
points_least (Assumed c) k = omega arith
points_least Chosen k = omega arith

points_decision : (q : Reason) (k : ℕ) → IsDecision q → points q k ≡ k
points_decision (Implied x) k is = absurd is
points_decision (Assumed c) k is = refl
points_decision Chosen k is = refl

pub score_below : (n : ℕ) (es : List TrailEntry) → score n es + 1 ≤ tripled n
score_below zero es = omega arith
score_below (suc n) [] = omega (arith, some_tripled (suc n))
score_below (suc n) (e ∷ es) = omega (arith, score_below n es, points_most e.reason (tripled n))

-- one more entry
pub score_push : (n : ℕ) (es : List TrailEntry) (e : TrailEntry) → length es < n → score n es + 1 ≤ score n (es ++ e ∷ [])
score_push zero es e lt = absurd (omega arith)
score_push (suc n) [] e lt = omega (arith, points_least e.reason (tripled n), some_tripled n)
score_push (suc n) (d ∷ es) e lt = omega (arith, score_push n es e (omega arith))

-- an implied literal in place of a decision and all after it
pub score_turn : (n : ℕ) (front after : List TrailEntry) (d : TrailEntry) (e : TrailEntry) (number : ℕ) → IsDecision d.reason → e.reason ≡ Implied number → length front < n → score n ((front ++ d ∷ []) ++ after) + 1 ≤ score n (front ++ e ∷ [])
score_turn zero front after d e number is implied lt = absurd (omega arith)
score_turn (suc n) [] after d e number is implied lt =
    omega (arith, points_decision d.reason (tripled n) is, ap (λ q. points q (tripled n)) implied, score_below n after)
score_turn (suc n) (f ∷ front) after d e number is implied lt = omega (arith, score_turn n front after d e number is implied (omega arith))

-- what is left falls
pub left_falls : (n restarts : ℕ) (old new : List TrailEntry) → score n old + 1 ≤ score n new → left n restarts new < left n restarts old
left_falls n restarts old new h = omega (arith, score_below n old, score_below n new)

pub left_restarts : (n restarts : ℕ) (old new : List TrailEntry) → left n restarts new < left n (restarts + 1) old
left_restarts n restarts old new = omega (arith, score_below n old, score_below n new)
