-- A vector of frames as a stack.
use Rattle.std.proofs.Common.{◌≡◌, ◌∙◌, ℕ, ◌+◌, ◌≤◌, ◌<◌, false, List, [], ◌∷◌, ◌++◌, length, refl, ap, arith}
use Rattle.std.specs.Prelude.{nat_eq}
use Rattle.std.proofs.lemmas.Bool.Decides.{nat_tests}
use Rattle.smv_expression_reader.specs.declared.frames.OpenFrame.{OpenFrame}
use Rattle.smv_expression_reader.specs.Depth.{groups}
use Rattle.smv_expression_reader.specs.Views.{stack_onto, stack_of, has_no_frame}
use Rattle.smv_expression_reader.specs.declared.frames.OpenFrame.TheVariants as frame

onto : (s : List OpenFrame) (xs : List OpenFrame) (x : OpenFrame) → stack_onto s (xs ++ x ∷ []) ≡ x ∷ stack_onto s xs
onto s [] x = refl
onto s (y ∷ xs) x = onto (y ∷ s) xs x

pub pushed : (xs : List OpenFrame) (x : OpenFrame) → stack_of (xs ++ x ∷ []) ≡ x ∷ stack_of xs
unfolding stack_of
pushed xs x = onto [] xs x

pub no_frames : stack_of [] ≡ []
unfolding stack_of
no_frames = refl

-- one frame more
pub groups_more : (f : OpenFrame) (s : List OpenFrame) → groups (f ∷ s) ≡ groups s + groups (f ∷ [])
groups_more frame.Group s = omega arith
groups_more frame.Moment s = omega arith
groups_more frame.Members s = omega arith
groups_more frame.FirstChoice s = omega arith
groups_more frame.Condition s = omega arith
groups_more frame.Outcome s = omega arith

some_onto : (f : OpenFrame) (s : List OpenFrame) (xs : List OpenFrame) → has_no_frame (stack_onto (f ∷ s) xs) ≡ false
some_onto f s [] = refl
some_onto f s (x ∷ xs) = some_onto x (f ∷ s) xs

empty_onto : (xs : List OpenFrame) → has_no_frame (stack_onto [] xs) ≡ nat_eq (length xs) 0
empty_onto [] = refl
empty_onto (x ∷ xs) = some_onto x [] xs ∙ no_zero (length (x ∷ xs)) (omega arith)
  where
    no_zero : (n : ℕ) → 0 < n → false ≡ nat_eq n 0
    no_zero n h = grind (arith, nat_tests)

pub empty_stack : (xs : List OpenFrame) → has_no_frame (stack_of xs) ≡ nat_eq (length xs) 0
unfolding stack_of
empty_stack xs = empty_onto xs

-- the frame that was pushed last
pub groups_popped : (xs : List OpenFrame) (x : OpenFrame) → groups (stack_of (xs ++ x ∷ [])) ≡ groups (stack_of xs) + groups (x ∷ [])
groups_popped xs x = ap groups (pushed xs x) ∙ groups_more x (stack_of xs)

-- no more groups are open than frames
groups_onto : (s : List OpenFrame) (xs : List OpenFrame) → groups (stack_onto s xs) ≤ groups s + length xs
groups_onto s [] = omega arith
groups_onto s (x ∷ xs) = let rest = groups_onto (x ∷ s) xs in let one = groups_more x s in let small = one_group x in omega (arith, rest, one, small)
  where
    one_group : (f : OpenFrame) → groups (f ∷ []) ≤ 1
    one_group frame.Group = omega arith
    one_group frame.Moment = omega arith
    one_group frame.Members = omega arith
    one_group frame.FirstChoice = omega arith
    one_group frame.Condition = omega arith
    one_group frame.Outcome = omega arith

pub groups_within : (xs : List OpenFrame) → groups (stack_of xs) ≤ length xs
unfolding stack_of
groups_within xs = let most = groups_onto [] xs in omega (arith, most)
