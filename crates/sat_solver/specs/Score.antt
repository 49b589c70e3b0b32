-- How far a search has come, as one number: a number in base 3, in which each place of the trail is a digit.
use Rattle.std.specs.Prelude.{zero, suc, ℕ, ◌+◌, ◌-◌, ◌*◌, List, [], ◌∷◌}
use Rattle.sat_solver.specs.declared.trail.TrailEntry.{TrailEntry}
use Rattle.sat_solver.specs.declared.trail.Reason.{Reason}
use Rattle.sat_solver.specs.declared.trail.Reason.TheVariants.{Assumed, Chosen, Implied}

-- 3 to the power of n
abbrev pub tripled : ℕ → ℕ
tripled zero = 1
tripled (suc n) = tripled n + tripled n + tripled n

-- a decision counts once, and what a clause implied twice
abbrev pub points : Reason → ℕ → ℕ
points (Implied number) each = each + each
points (Assumed count) each = each
points Chosen each = each

-- of the entries, the oldest first, the first counts most
abbrev pub score : ℕ → List TrailEntry → ℕ
score zero es = 0
score (suc n) [] = 0
score (suc n) (e ∷ es) = points e.reason (tripled n) + score n es

-- what is left to a search over n places that may restart so many times
abbrev pub left : ℕ → ℕ → List TrailEntry → ℕ
left n restarts es = restarts * tripled n + (tripled n - score n es)
