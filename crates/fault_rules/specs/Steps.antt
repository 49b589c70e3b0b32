-- Trees of texts: each beginning of a text has a place, and steps by a byte lead from place to place.
use Rattle.std.specs.Prelude.{◌≡◌, ℕ, ◌+◌, ◌≤◌, ◌<◌, ◌^◌, Bool, false, List, [], ◌∷◌, ◌++◌, Option, Some, None, ◌&&◌, nat_eq, length, map}
use Rattle.std.specs.Prelude.{option_map, position, slice_index_or, if◌then◌else◌}
use Rattle.std.specs.List.{list_any, AllByRecursion, IsDistinct}
use Rattle.smv_language.specs.ProgramTree.{Text}
use Rattle.fault_instructions.specs.Instructions.{ModeTree}

-- both are the same place and byte
abbrev pub is_step : ℕ × ℕ → ℕ × ℕ → Bool
is_step s t = nat_eq s.0 t.0 && nat_eq s.1 t.1

-- the place to which a byte leads, if a step is there: steps lead to the places 1, 2 and so on
abbrev pub step_to : List (ℕ × ℕ) → ℕ → ℕ → Option ℕ
step_to steps place byte = option_map (λ i. i + 1) (position (is_step (place, byte)) steps)

-- the same from a place that may lack
abbrev pub step_from : List (ℕ × ℕ) → Option ℕ → ℕ → Option ℕ
step_from steps None byte = None
step_from steps (Some place) byte = step_to steps place byte

-- the place to which bytes lead, if there is one
abbrev pub walk_on : List (ℕ × ℕ) → Option ℕ → Text → Option ℕ
walk_on steps at [] = at
walk_on steps at (b ∷ bs) = walk_on steps (step_from steps at b) bs

-- the place to which bytes lead from a place: walk ((0, 97) ∷ []) 0 (97 ∷ []) is Some 1
abbrev pub walk : List (ℕ × ℕ) → ℕ → Text → Option ℕ
walk steps place text = walk_on steps (Some place) text

-- the texts of places, and of one place more for each step
abbrev pub texts_from : List Text → List (ℕ × ℕ) → List Text
texts_from texts [] = texts
texts_from texts (s ∷ ss) = texts_from (texts ++ (slice_index_or texts s.0 [] ++ s.1 ∷ []) ∷ []) ss

-- the text of a place; that of place 0 is empty
abbrev pub text_at : List (ℕ × ℕ) → ℕ → Text
text_at steps place = slice_index_or (texts_from ([] ∷ []) steps) place []

-- the texts of places
abbrev pub texts_in : List (ℕ × ℕ) → List ℕ → List Text
texts_in steps ends = map (text_at steps) ends

-- the texts of modes' names after a beginning
abbrev pub texts_after : Text → List ModeTree → List Text
texts_after begin ms = map (λ m. begin ++ m.name) ms

-- ends, and one more where it is not among them
abbrev pub with_end : List ℕ → ℕ → List ℕ
with_end ends place = if list_any (nat_eq place) ends then ends else ends ++ place ∷ []

-- the place is there and among the ends
abbrev pub is_end_of : List ℕ → Option ℕ → Bool
is_end_of ends None = false
is_end_of ends (Some place) = list_any (nat_eq place) ends

-- no step is there twice, and each leads on from a place that is there before it
pub record AreSteps (steps : List (ℕ × ℕ)) : Type 0 where
  pub few : length steps < 2 ^ 32
  pub apart : IsDistinct is_step steps
  pub back : (i : ℕ) → i < length steps → (slice_index_or steps i (0, 0)).0 ≤ i

-- steps and ends that make a set of texts
pub record IsTree (steps : List (ℕ × ℕ)) (ends : List ℕ) : Type 0 where
  pub steps_are : AreSteps steps
  pub ends_are : AllByRecursion (λ place. place ≤ length steps) ends

-- steps were added at the end alone
pub record IsBeginning (old new : List (ℕ × ℕ)) : Type 0 where
  pub more : List (ℕ × ℕ)
  pub is : new ≡ old ++ more

-- bytes lead from a place to another, after steps were added
pub record Reaches (old new : List (ℕ × ℕ)) (place : ℕ) (text : Text) (there : ℕ) : Type 0 where
  pub leads : walk new place text ≡ Some there
  pub within : there ≤ length new
