-- Where lines stand, and how many moments have begun there.
use Rattle.std.proofs.Common.{◌≡◌, ◌≢◌, ◌⊎◌, inl, inr, ℕ, suc, ◌<◌, ◌≤◌, List, [], ◌∷◌, ◌++◌, refl, sym, ◌∙◌, ap, subst, arith}
use Rattle.std.specs.List.{AllByRecursion}
use Rattle.smv_language.specs.Flat.{FlatModel}
use Rattle.cut_text_laws.specs.Lines.{Line, IsLine}
use Rattle.cut_text_laws.specs.TraceOfText.{IsPrintable}
use Rattle.cut_text_laws.specs.TraceText.{variable_text, moment_line, equation}
use Rattle.cut_text_laws.specs.TraceFaults.{LineFault, moments_after, Breaks, AreSound, Lacks}
use Rattle.cut_text_laws.proofs.OneTrace.{no_items, head_of, tail_of, both_of, no_moment}
use Rattle.cut_text_laws.proofs.Moments.{after_both, no_fewer, next_begins, other_line}
use Rattle.cut_text_laws.proofs.LineJudged.{AllAre, Stops}
use Rattle.cut_text_laws.proofs.LinesJudged.{judge_lines}

-- A line of lines with one more at the end is one of them, or the last.
pub last_or_in : (lines : List Line) (l : Line) (front : List Line) (k : Line) (back : List Line) → lines ++ l ∷ [] ≡ front ++ k ∷ back →
    ((more : List Line) × (lines ≡ front ++ k ∷ more) × (back ≡ more ++ l ∷ [])) ⊎ ((front ≡ lines) × (k ≡ l) × (back ≡ []))
last_or_in [] l [] k back e = inr (refl, sym (head_of l k [] back e), sym (tail_of l k [] back e))
last_or_in [] l (y ∷ front) k back e = absurd (in_none front (tail_of l y [] (front ++ k ∷ back) e))
  where
    in_none : (front : List Line) → [] ≡ front ++ k ∷ back → ⊥
    in_none [] e = no_items k back [] refl e
    in_none (z ∷ front) e = no_items z (front ++ k ∷ back) [] refl e
last_or_in (x ∷ lines) l [] k back e = inl (lines, ap (λ z. z ∷ lines) (head_of x k (lines ++ l ∷ []) back e), sym (tail_of x k (lines ++ l ∷ []) back e))
last_or_in (x ∷ lines) l (y ∷ front) k back e = joined (last_or_in lines l front k back (tail_of x y (lines ++ l ∷ []) (front ++ k ∷ back) e))
  where
    first : x ≡ y
    first = head_of x y (lines ++ l ∷ []) (front ++ k ∷ back) e

    joined : ((more : List Line) × (lines ≡ front ++ k ∷ more) × (back ≡ more ++ l ∷ [])) ⊎ ((front ≡ lines) × (k ≡ l) × (back ≡ [])) →
        ((more : List Line) × ((x ∷ lines) ≡ (y ∷ front) ++ k ∷ more) × (back ≡ more ++ l ∷ [])) ⊎ (((y ∷ front) ≡ (x ∷ lines)) × (k ≡ l) × (back ≡ []))
    joined (inl h) = inl (h.0, both_of x y lines (front ++ k ∷ h.0) first h.1, h.2)
    joined (inr h) = inr (both_of y x front lines (sym first) h.0, h.1, h.2)

-- a sound line after sound lines
pub sound_more : (m : FlatModel) (lines : List Line) (l : Line) → AreSound m lines → ((f : LineFault) → Breaks m lines l f → ⊥) → AreSound m (lines ++ l ∷ [])
sound_more m lines l sound h front k back f e b = by_side (last_or_in lines l front k back e)
  where
    by_side : ((more : List Line) × (lines ≡ front ++ k ∷ more) × (back ≡ more ++ l ∷ [])) ⊎ ((front ≡ lines) × (k ≡ l) × (back ≡ [])) → ⊥
    by_side (inl i) = sound front k i.0 f i.1 b
    by_side (inr i) = h f (subst (λ d. Breaks m d l f) i.0 (subst (λ x. Breaks m front x f) i.1 b))

-- sound lines are each as they should be
pub sound_are : (m : FlatModel) → IsPrintable m → (lines : List Line) → AllByRecursion IsLine lines → AreSound m lines → AllAre m [] lines
sound_are m p lines ls sound = by_side (judge_lines m p [] lines ls)
  where
    by_side : AllAre m [] lines ⊎ Stops m [] lines → AllAre m [] lines
    by_side (inl are) = are
    by_side (inr s) = absurd (sound s.front s.line s.back s.fault s.lie s.is_least.breaks)

-- no moment begins with a line that is none of its
pub still : (lines : List Line) (l : Line) → l ≢ moment_line (moments_after 0 lines) → moments_after 0 (lines ++ l ∷ []) ≡ moments_after 0 lines
still lines l n = after_both 0 lines (l ∷ []) ∙ other_line (moments_after 0 lines) l [] n

-- and one begins with its line
pub one_begins : (lines : List Line) (l : Line) → l ≡ moment_line (moments_after 0 lines) → moments_after 0 (lines ++ l ∷ []) ≡ suc (moments_after 0 lines)
one_begins lines l e = after_both 0 lines (l ∷ []) ∙ ap (λ k. moments_after (moments_after 0 lines) (k ∷ [])) e ∙ next_begins (moments_after 0 lines) []

-- a front of lines has no more moments
pub front_begun : (lines front : List Line) (k : Line) (back : List Line) → lines ≡ front ++ k ∷ back → moments_after 0 front ≤ moments_after 0 lines
front_begun lines front k back e =
    subst (λ n. moments_after 0 front ≤ n) (sym (ap (moments_after 0) e ∙ after_both 0 front (k ∷ back))) (no_fewer (moments_after 0 front) (k ∷ back))

-- what a moment that has ended lacks it lacks for good
pub lacks_more : (m : FlatModel) (lines : List Line) (l : Line) (k : ℕ) → Lacks m lines k → suc k < moments_after 0 lines → Lacks m (lines ++ l ∷ []) k
lacks_more m lines l k lacks past = record { place = lacks.place; variable = lacks.variable; is_variable = lacks.is_variable; elsewhere = elsewhere }
  where
    elsewhere : (before : List Line) (value : Line) (after : List Line) → lines ++ l ∷ [] ≡ before ++ equation (variable_text lacks.variable) value ∷ after → moments_after 0 before ≢ suc k
    elsewhere before value after e there = by_side (last_or_in lines l before (equation (variable_text lacks.variable) value) after e)
      where
        by_side : ((more : List Line) × (lines ≡ before ++ equation (variable_text lacks.variable) value ∷ more) × (after ≡ more ++ l ∷ [])) ⊎ ((before ≡ lines) × (equation (variable_text lacks.variable) value ≡ l) × (after ≡ [])) → ⊥
        by_side (inl i) = lacks.elsewhere before value i.0 i.1 there
        by_side (inr i) = let same : moments_after 0 before ≡ moments_after 0 lines = ap (moments_after 0) i.0 in omega (arith, same, there, past)

-- nor does the line of a moment say what the moments before it lack
pub lacks_at_moment : (m : FlatModel) → IsPrintable m → (lines : List Line) (l : Line) (n k : ℕ) → Lacks m lines k → l ≡ moment_line n → Lacks m (lines ++ l ∷ []) k
lacks_at_moment m p lines l n k lacks is = record { place = lacks.place; variable = lacks.variable; is_variable = lacks.is_variable; elsewhere = elsewhere }
  where
    elsewhere : (before : List Line) (value : Line) (after : List Line) → lines ++ l ∷ [] ≡ before ++ equation (variable_text lacks.variable) value ∷ after → moments_after 0 before ≢ suc k
    elsewhere before value after e there = by_side (last_or_in lines l before (equation (variable_text lacks.variable) value) after e)
      where
        by_side : ((more : List Line) × (lines ≡ before ++ equation (variable_text lacks.variable) value ∷ more) × (after ≡ more ++ l ∷ [])) ⊎ ((before ≡ lines) × (equation (variable_text lacks.variable) value ≡ l) × (after ≡ [])) → ⊥
        by_side (inl i) = lacks.elsewhere before value i.0 i.1 there
        by_side (inr i) = no_moment (variable_text lacks.variable) value n (p.words lacks.place lacks.variable lacks.is_variable) (i.1 ∙ is)
