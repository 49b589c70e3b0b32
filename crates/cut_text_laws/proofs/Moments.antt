-- How many moments have begun after lines.
use Rattle.std.proofs.Common.{◌≡◌, ◌≢◌, ℕ, suc, ◌≤◌, Bool, true, false, List, [], ◌∷◌, ◌++◌, refl, sym, ◌∙◌, ap, subst, arith}
use Rattle.std.specs.Prelude.{if◌then◌else◌}
use Rattle.smv_language.specs.Texts.{same_text}
use Rattle.cut_text_laws.specs.Lines.{Line}
use Rattle.cut_text_laws.specs.TraceText.{moment_line}
use Rattle.cut_text_laws.specs.TraceFaults.{moments_after}
use Rattle.cut_text_laws.proofs.OneTrace.{HasNoMoment}
use Rattle.cut_text_laws.proofs.Plain.{same_text_then}
use Rattle.smv_language.proofs.ValueLaws.{same_text_refl as same_text_itself}

pub next_begins : (n : ℕ) (lines : List Line) → moments_after n (moment_line n ∷ lines) ≡ moments_after (suc n) lines
next_begins n lines = ap (λ b. moments_after (if b then suc n else n) lines) (same_text_itself (moment_line n))

pub other_line : (n : ℕ) (line : Line) (lines : List Line) → line ≢ moment_line n → moments_after n (line ∷ lines) ≡ moments_after n lines
other_line n line lines h = by_test (same_text line (moment_line n)) refl
  where
    by_test : (b : Bool) → same_text line (moment_line n) ≡ b → moments_after (if same_text line (moment_line n) then suc n else n) lines ≡ moments_after n lines
    by_test true e = absurd (h (same_text_then line (moment_line n) e))
    by_test false e = ap (λ b. moments_after (if b then suc n else n) lines) e

pub after_both : (n : ℕ) (xs ys : List Line) → moments_after n (xs ++ ys) ≡ moments_after (moments_after n xs) ys
after_both n [] ys = refl
after_both n (x ∷ xs) ys = after_both (if same_text x (moment_line n) then suc n else n) xs ys

pub none_begins : (n : ℕ) (lines : List Line) → HasNoMoment lines → moments_after n lines ≡ n
none_begins n [] h = refl
none_begins n (line ∷ lines) h = other_line n line lines (h.0 n) ∙ none_begins n lines h.1

pub no_fewer : (n : ℕ) (lines : List Line) → n ≤ moments_after n lines
no_fewer n [] = omega arith
no_fewer n (line ∷ lines) = by_test (same_text line (moment_line n)) (no_fewer (suc n) lines) (no_fewer n lines)
  where
    by_test : (b : Bool) → suc n ≤ moments_after (suc n) lines → n ≤ moments_after n lines → n ≤ moments_after (if b then suc n else n) lines
    by_test true h g = omega (arith, h)
    by_test false h g = g

-- no more have begun after the front of lines
pub front_fewer : (xs ys : List Line) → moments_after 0 xs ≤ moments_after 0 (xs ++ ys)
front_fewer xs ys = subst (λ k. moments_after 0 xs ≤ k) (sym (after_both 0 xs ys)) (no_fewer (moments_after 0 xs) ys)
