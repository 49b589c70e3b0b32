-- An assignment in which each free variable is made false makes true what would be.
use Rattle.std.proofs.Common.{◌≡◌, ⊎_elim, ℕ, ◌+◌, Bool, true, false, List, [], length, get_or, unwrap_or, Option, Some, None, All, refl, sym, ap, ◌∙◌, subst, arith}
use Rattle.std.specs.Option.{option_map}
use Rattle.std.proofs.lemmas.Bool.{cases_lt}
use Rattle.std.proofs.lemmas.List.{get_or_default}
use Rattle.sat_clauses.specs.Literal.{Literal, signed}
use Rattle.sat_clauses.specs.Assignment.{Assignment, value_of}
use Rattle.sat_clauses.proofs.TruthLemmas.{truth_of-True}
use Rattle.sat_solver.specs.ClauseFindings.{IsTrueIn}
use Rattle.sat_solver.specs.Complete.{WouldBeTrue, WouldHold, WouldHoldBetween, IsFilled}

true_literal : (a b : Assignment) → IsFilled a b → (l : Literal) → WouldBeTrue a l → value_of b l ≡ Some true
true_literal a b filled l would = by_value (get_or a l.var None) refl
  where
    turned : (n : Bool) → n ≡ true → signed n false ≡ true
    turned true e = refl
    turned false e = cc

    by_value : (o : Option Bool) → get_or a l.var None ≡ o → value_of b l ≡ Some true
    by_value None is =
        ap (option_map (signed l.negated)) (filled.rest l.var would.positive would.in_range is)
        ∙ ap Some (turned l.negated (sym (ap (λ o. unwrap_or (option_map (signed l.negated) o) l.negated) is) ∙ would.holds))
    by_value (Some v) is =
        ap (option_map (signed l.negated)) (filled.kept l.var v is)
        ∙ ap Some (sym (ap (λ o. unwrap_or (option_map (signed l.negated) o) l.negated) is) ∙ would.holds)

true_clause : (a b : Assignment) → IsFilled a b → (c : List Literal) → WouldHold a c → IsTrueIn b c
true_clause a b filled c would = (truth_of-True b c).1 (would.0, would.1, would.2, would.3, true_literal a b filled would.1 would.4)

-- so that all clauses are true which would be
pub all_true : (a b : Assignment) → IsFilled a b → (clauses : List (List Literal)) → All (WouldHold a) clauses → All (IsTrueIn b) clauses
all_true a b filled clauses all = λ k d lt. true_clause a b filled (get_or clauses k d) (all k d lt)

-- one clause more would hold
pub between_more : (a : Assignment) (clauses : List (List Literal)) (from i : ℕ) (c : List Literal) → WouldHoldBetween a clauses from i → get_or clauses i [] ≡ c → WouldHold a c → WouldHoldBetween a clauses from (i + 1)
between_more a clauses from i c before is here = λ k above lt.
    ⊎_elim
    (λ less. before k above less)
    (λ over. let same : k ≡ i = omega (arith, lt, over) in subst (WouldHold a) (sym (ap (λ j. get_or clauses j []) same ∙ is)) here)
    (cases_lt k i)

-- those up to one place and those from there on are all
pub between_all : (a : Assignment) (clauses : List (List Literal)) (from : ℕ) → WouldHoldBetween a clauses from (length clauses) → WouldHoldBetween a clauses 0 from → All (WouldHold a) clauses
between_all a clauses from above below = λ k d lt.
    subst (WouldHold a) (get_or_default clauses k [] d lt)
    (⊎_elim (λ less. below k (omega arith) less) (λ over. above k over lt) (cases_lt k from))
