-- Text that is appended piece by piece.
use Rattle.std.proofs.Common.{◌≡◌, ℕ, zero, suc, ◌+◌, List, [], ◌∷◌, ◌++◌, map, length, drop, Some, refl, ap, sym, ◌∙◌, arith, append_assoc, append-nil}
use Rattle.std.specs.Prelude.{slice_get, codes, OnOk, Result, Ok, Err}
use Rattle.sat_clauses.specs.declared.step.Step.{Step}
use Rattle.cut_text_laws.specs.Lines.{Line}
use Rattle.cert_laws.specs.Certificate.{Certificate}
use Rattle.cut_text_laws.specs.Lines.{spaced, fed}
use Rattle.cert_laws.specs.CertificateText.{version_line, version_two, numbers_line, set_lines, step_line, part_lines, lines_of}
use Rattle.cut_text_laws.proofs.Cuts.{fed_joined}
use Rattle.cert_text.specs.Pieces.{after_spaces, head_text, listed_lines, invariant_lines, derived_lines}
use Rattle.std.proofs.lemmas.Option.{same_Some as some_same}

-- words with spaces between are the first one, and a space before each other
pub spaced_after : (w : Line) (ws : List Line) → spaced (w ∷ ws) ≡ w ++ after_spaces ws
spaced_after w [] = sym (append-nil w)
spaced_after w (x ∷ ws) = ap (λ rest. w ++ 32 ∷ rest) (spaced_after x ws)

pub after_spaces_joined : (xs ys : List Line) → after_spaces (xs ++ ys) ≡ after_spaces xs ++ after_spaces ys
after_spaces_joined [] ys = refl
after_spaces_joined (x ∷ xs) ys = ap (λ rest. 32 ∷ x ++ rest) (after_spaces_joined xs ys) ∙ sym (append_assoc (32 ∷ x) (after_spaces xs) (after_spaces ys))

-- the first two lines are those of the certificate
head_same : (c : Certificate) → fed (version_line version_two ∷ numbers_line version_two c ∷ []) ≡ head_text c.bits c.faults c.size
head_same c = search (append_assoc, append-nil)

-- lines in four pieces
in_four : (a b c d : List Line) → fed (a ++ (b ++ (c ++ d))) ≡ fed a ++ (fed b ++ (fed c ++ fed d))
in_four a b c d = fed_joined a (b ++ (c ++ d)) ∙ ap (λ t. fed a ++ t) (fed_joined b (c ++ d) ∙ ap (λ t. fed b ++ t) (fed_joined c d))

joined_four : (old a b c d : List ℕ) → (((old ++ a) ++ b) ++ c) ++ d ≡ old ++ (a ++ (b ++ (c ++ d)))
joined_four old a b c d = search (append_assoc)

-- the pieces are the whole text
pub whole_text : (old : List ℕ) (c : Certificate) →
    (((old ++ head_text c.bits c.faults c.size) ++ fed (listed_lines c.sets c.traces)) ++ fed (invariant_lines c.invariant)) ++ fed (derived_lines c.first c.next c.bad) ≡ old ++ fed (lines_of version_two c)
whole_text old c =
    let numbers : List Line = version_line version_two ∷ numbers_line version_two c ∷ [] in
    let listed : List Line = listed_lines c.sets c.traces in
    let clauses : List Line = invariant_lines c.invariant in
    let derived : List Line = derived_lines c.first c.next c.bad in
    joined_four old (head_text c.bits c.faults c.size) (fed listed) (fed clauses) (fed derived)
    ∙ ap (λ t. old ++ t) (ap (λ h. h ++ (fed listed ++ (fed clauses ++ fed derived))) (sym (head_same c)) ∙ sym (in_four numbers listed clauses derived))

-- the derivations and the last line
pub derived_text : (old : List ℕ) (first next bad : List Step) →
    (((old ++ fed (part_lines (codes "first") first)) ++ fed (part_lines (codes "next") next)) ++ fed (part_lines (codes "bad") bad)) ++ codes "end\n" ≡ old ++ fed (derived_lines first next bad)
derived_text old first next bad =
    let one : List Line = part_lines (codes "first") first in
    let two : List Line = part_lines (codes "next") next in
    let three : List Line = part_lines (codes "bad") bad in
    joined_four old (fed one) (fed two) (fed three) (codes "end\n") ∙ ap (λ t. old ++ t) (sym (in_four one two three (codes "end" ∷ [])))

-- a text, a number and more
pub named_joined : (old name number more : List ℕ) → (old ++ (name ++ number)) ++ more ≡ old ++ (name ++ (number ++ more))
named_joined old name number more = search (append_assoc)

-- what holds where a call succeeds
pub on_ok : {A E : Type 0} (P Q : Type 0) (r : Result A E) → (P → Q) → OnOk r P → OnOk r Q
on_ok P Q (Ok x) f h = f h
on_ok P Q (Err e) f h = tt

one_on : (i : ℕ) → suc (i + 1) ≡ suc i + 1
one_on i = omega arith

-- what is left of steps, one step on
pub steps_more : (steps : List Step) (i : ℕ) (s : Step) → slice_get steps i ≡ Some s → fed (map step_line (drop i steps)) ≡ (step_line s ++ 10 ∷ []) ++ fed (map step_line (drop (i + 1) steps))
steps_more [] i s e = cc
steps_more (t ∷ steps) zero s e = let same : t ≡ s = some_same t s e in ap (λ x. (step_line x ++ 10 ∷ []) ++ fed (map step_line steps)) same
steps_more (t ∷ steps) (suc i) s e = steps_more steps i s e ∙ ap (λ n. (step_line s ++ 10 ∷ []) ++ fed (map step_line (drop n (t ∷ steps)))) (one_on i)

-- sets without texts have no lines
pub none_left : (text all : List ℕ) (sets : List (List ℕ)) (texts : List (List Line)) → length texts ≡ 0 → text ++ fed (set_lines sets texts) ≡ all → text ≡ all
none_left text all [] texts e f = sym (append-nil text) ∙ f
none_left text all (set ∷ sets) [] e f = sym (append-nil text) ∙ f
none_left text all (set ∷ sets) (t ∷ texts) e f = absurd (omega (arith, e))

pub ruleset piece_rules = (append_assoc, append-nil, spaced_after, after_spaces_joined, fed_joined)
