-- What is left to do on a way over definitions by their numbers: each turn makes it less.
use Rattle.std.specs.Prelude.{ℕ, zero, suc, ◌+◌, Bool, true, false, List, [], ◌∷◌, length, if◌then◌else◌}
use Rattle.smv_scope.specs.declared.needs.WalkMark.{WalkMark}
use Rattle.smv_scope.specs.declared.needs.WalkMark.TheVariants.{Unmet, Begun, Ended}
use Rattle.smv_scope.specs.Links.{Graph, Spread}
use Rattle.smv_scope.specs.DefinitionOrder.{Lay}
use Rattle.smv_language.specs.Values.{opposite}

-- the work of all numbers whose marks are open
abbrev pub open_work : {M : Type 0} → (M → Bool) → (ℕ → ℕ) → List M → ℕ
open_work is_open work [] = 0
open_work is_open work (mark ∷ marks) = (if is_open mark then work zero else 0) + open_work is_open (λ k. work (suc k)) marks

-- the numbers that wait, and the links of those that are not marked yet
abbrev pub left_to_spread : Graph → Spread → ℕ
left_to_spread g s = length s.waiting + open_work opposite (λ k. length (g k)) s.reached

-- the number is still to be visited
abbrev pub is_unmet : WalkMark → Bool
is_unmet Unmet = true
is_unmet Begun = false
is_unmet Ended = false

-- the tasks, and those to come: of each number that is not met yet the end of its visit and a visit a link
abbrev pub left_to_lay : Graph → Lay → ℕ
left_to_lay g s = length s.tasks + open_work is_unmet (λ k. suc (length (g k))) s.marks
