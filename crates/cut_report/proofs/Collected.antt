-- The trace of the lines of a text, from the valuations whose values are said in its moments.
use Rattle.std.proofs.Common.{◌≡◌, ◌⊎◌, inl, inr, ℕ, zero, suc, ◌+◌, ◌≤◌, List, [], ◌∷◌, ◌++◌, length, refl, sym, ◌∙◌, ap, subst, arith, append_assoc, length-append, Some}
use Rattle.std.specs.Prelude.{slice_get}
use Rattle.smv_language.specs.Language.{Value, value_text, FlatVariable, FlatModel}
use Rattle.smv_flat_laws.specs.FlatTrace.{AreInDomains}
use Rattle.cut_text_laws.specs.Lines.{Line}
use Rattle.cut_text_laws.specs.TraceText.{variable_text, moment_line, equation, value_line}
use Rattle.cut_text_laws.specs.TraceOfText.{IsLineWord, IsPrintable, GivesMoments}
use Rattle.cut_text_laws.specs.TraceFaults.{moments_after}
use Rattle.cut_text_laws.proofs.OneTrace.{HasNoMoment, head_of, no_items, no_moment}
use Rattle.cut_text_laws.proofs.Moments.{next_begins, after_both, none_begins, no_fewer}
use Rattle.cut_text_laws.proofs.LineJudged.{AllAre}
use Rattle.cut_text_laws.proofs.GivenHasNone.{fewer_before}
use Rattle.cut_text_laws.proofs.TextJudged.{Own, cut_own, Valued, moment_given, place_of}
use Rattle.cut_report.specs.TraceReading.{IsGiven}

-- The values lie in their types, and each is said in the moment of this number.
pub record IsTold (m : FlatModel) (lines : List Line) (v : List Value) (k : ℕ) : Type 0 where
  pub domains : AreInDomains m.variables v
  pub each : (i : ℕ) (x : FlatVariable) (w : Value) → slice_get m.variables i ≡ Some x → slice_get v i ≡ Some w → IsGiven lines x w k

-- what is said in a moment stands among the lines of that moment
own_place : (start own rest : List Line) (n : ℕ) → moments_after 0 start ≡ suc n → HasNoMoment own → (rest ≡ []) ⊎ ((more : List Line) × (rest ≡ moment_line (suc n) ∷ more)) →
    ((earlier more : List Line) (name value : Line) → IsLineWord name → start ≡ earlier ++ equation name value ∷ more → moments_after 0 earlier ≤ n) →
    (name value : Line) → IsLineWord name → (earlier later : List Line) → start ++ (own ++ rest) ≡ earlier ++ equation name value ∷ later → moments_after 0 earlier ≡ suc n →
    (before : List Line) × (after : List Line) × (own ≡ before ++ equation name value ∷ after)
own_place start own rest n count quiet at fewer name value word earlier later lie there = by_start (place_of start (own ++ rest) earlier (equation name value) later lie)
  where
    late : (mid : List Line) → rest ≡ mid ++ equation name value ∷ later → earlier ≡ start ++ (own ++ mid) → (rest ≡ []) ⊎ ((more : List Line) × (rest ≡ moment_line (suc n) ∷ more)) → ⊥
    late [] e f (inl h) = no_items (equation name value) later rest h e
    late (y ∷ mid) e f (inl h) = no_items y (mid ++ equation name value ∷ later) rest h e
    late [] e f (inr h) = no_moment name value (suc n) word (head_of (equation name value) (moment_line (suc n)) later h.0 (sym e ∙ h.1))
    late (y ∷ mid) e f (inr h) =
        let first : y ≡ moment_line (suc n) = head_of y (moment_line (suc n)) (mid ++ equation name value ∷ later) h.0 (sym e ∙ h.1) in
        let many : moments_after 0 earlier ≡ moments_after (suc (suc n)) mid =
        ap (moments_after 0) f ∙ after_both 0 start (own ++ y ∷ mid) ∙ ap (λ k. moments_after k (own ++ y ∷ mid)) count ∙ after_both (suc n) own (y ∷ mid) ∙ ap (λ k. moments_after k (y ∷ mid)) (none_begins (suc n) own quiet)
        ∙ ap (λ z. moments_after (suc n) (z ∷ mid)) first ∙ next_begins (suc n) mid in
        let high : suc (suc n) ≤ moments_after (suc (suc n)) mid = no_fewer (suc (suc n)) mid in
        omega (arith, many, high, there)

    by_own : (mid : List Line) → earlier ≡ start ++ mid → ((mid2 : List Line) × (rest ≡ mid2 ++ equation name value ∷ later) × (mid ≡ own ++ mid2)) ⊎ ((more : List Line) × (own ≡ mid ++ equation name value ∷ more)) →
        (before : List Line) × (after : List Line) × (own ≡ before ++ equation name value ∷ after)
    by_own mid f (inr h) = (mid, h.0, h.1)
    by_own mid f (inl h) = absurd (late h.0 h.1 (f ∙ ap (λ ls. start ++ ls) h.2) at)

    by_start : ((mid : List Line) × ((own ++ rest) ≡ mid ++ equation name value ∷ later) × (earlier ≡ start ++ mid)) ⊎ ((more : List Line) × (start ≡ earlier ++ equation name value ∷ more)) →
        (before : List Line) × (after : List Line) × (own ≡ before ++ equation name value ∷ after)
    by_start (inr h) = let few : moments_after 0 earlier ≤ n = fewer earlier h.0 name value word h.1 in absurd (omega (arith, few, there))
    by_start (inl h) = by_own h.0 h.2 (place_of own rest h.0 (equation name value) later h.1)

-- lines from a moment on give the valuations that are said in its moments
pub moments_collected : (m : FlatModel) → IsPrintable m → (fuel : ℕ) (whole done lines : List Line) (n : ℕ) → whole ≡ done ++ lines → length lines ≤ fuel → moments_after 0 done ≡ n → AllAre m done lines →
    (lines ≡ []) ⊎ ((more : List Line) × (lines ≡ moment_line n ∷ more)) → (trace : List (List Value)) → n + length trace ≡ moments_after 0 whole →
    ((k : ℕ) (v : List Value) → slice_get trace k ≡ Some v → IsTold m whole v (suc (n + k))) → GivesMoments m n lines trace
moments_collected m p fuel whole done lines n w short e are (inl none) [] count told = none
moments_collected m p fuel whole done lines n w short e are (inl none) (v ∷ trace) count told =
    let all : moments_after 0 whole ≡ n = ap (moments_after 0) (w ∙ ap (λ ls. done ++ ls) none) ∙ after_both 0 done [] ∙ e in
    absurd (omega (arith, count, all))
moments_collected m p zero whole done lines n w short e are (inr h) trace count told = let long : length lines ≡ suc (length h.0) = ap (length {A = Line}) h.1 in absurd (omega (arith, short, long))
moments_collected m p (suc fuel) whole done lines n w short e are (inr h) [] count told =
    let all : moments_after 0 whole ≡ moments_after (suc n) h.0 = ap (moments_after 0) (w ∙ ap (λ ls. done ++ ls) h.1) ∙ after_both 0 done (moment_line n ∷ h.0) ∙ ap (λ k. moments_after k (moment_line n ∷ h.0)) e ∙ next_begins n h.0 in
    let high : suc n ≤ moments_after (suc n) h.0 = no_fewer (suc n) h.0 in
    absurd (omega (arith, count, all, high))
moments_collected m p (suc fuel) whole done lines n w short e are (inr h) (v ∷ trace) count told = of_own cut (λ o. moments_collected m p fuel whole ((done ++ moment_line n ∷ []) ++ o.own) o.rest (suc n))
  where
    begun : moments_after 0 (done ++ moment_line n ∷ []) ≡ suc n
    begun = after_both 0 done (moment_line n ∷ []) ∙ ap (λ j. moments_after j (moment_line n ∷ [])) e ∙ next_begins n []

    cut : Own m (done ++ moment_line n ∷ []) h.0
    cut = cut_own m p (done ++ moment_line n ∷ []) h.0 (tail_are (subst (AllAre m done) h.1 are))
      where
        tail_are : AllAre m done (moment_line n ∷ h.0) → AllAre m (done ++ moment_line n ∷ []) h.0
        tail_are a = a.1

    of_own : (o : Own m (done ++ moment_line n ∷ []) h.0) →
        ((o : Own m (done ++ moment_line n ∷ []) h.0) → whole ≡ ((done ++ moment_line n ∷ []) ++ o.own) ++ o.rest → length o.rest ≤ fuel → moments_after 0 ((done ++ moment_line n ∷ []) ++ o.own) ≡ suc n → AllAre m ((done ++ moment_line n ∷ []) ++ o.own) o.rest →
        (o.rest ≡ []) ⊎ ((more : List Line) × (o.rest ≡ moment_line (suc n) ∷ more)) → (trace : List (List Value)) → suc n + length trace ≡ moments_after 0 whole →
        ((k : ℕ) (v : List Value) → slice_get trace k ≡ Some v → IsTold m whole v (suc (suc n + k))) → GivesMoments m (suc n) o.rest trace) →
        GivesMoments m n lines (v ∷ trace)
    of_own o more = (
      o.own,
      o.rest,
      h.1 ∙ ap (λ ls. moment_line n ∷ ls) o.lie,
      moment_given m p (done ++ moment_line n ∷ []) o.own n begun o.own_are o.quiet values,
      more o grouped shorter after o.rest_are at trace (omega (arith, count)) (λ k u f. subst (IsTold m whole u) (omega arith) (told (suc k) u f)),
    )
      where
        after : moments_after 0 ((done ++ moment_line n ∷ []) ++ o.own) ≡ suc n
        after = after_both 0 (done ++ moment_line n ∷ []) o.own ∙ ap (λ j. moments_after j o.own) begun ∙ none_begins (suc n) o.own o.quiet

        at : (o.rest ≡ []) ⊎ ((more : List Line) × (o.rest ≡ moment_line (suc n) ∷ more))
        at = subst (λ j. (o.rest ≡ []) ⊎ ((more : List Line) × (o.rest ≡ moment_line j ∷ more))) after o.at

        start_first : whole ≡ (done ++ moment_line n ∷ []) ++ (o.own ++ o.rest)
        start_first = w ∙ ap (λ ls. done ++ ls) (h.1 ∙ ap (λ ls. moment_line n ∷ ls) o.lie) ∙ sym (append_assoc done (moment_line n ∷ []) (o.own ++ o.rest))

        grouped : whole ≡ ((done ++ moment_line n ∷ []) ++ o.own) ++ o.rest
        grouped = start_first ∙ sym (append_assoc (done ++ moment_line n ∷ []) o.own o.rest)

        shorter : length o.rest ≤ fuel
        shorter =
            let long : length lines ≡ suc (length h.0) = ap (length {A = Line}) h.1 in
            let parts : length h.0 ≡ length (o.own ++ o.rest) = ap (length {A = Line}) o.lie in
            let sum : length (o.own ++ o.rest) ≡ length o.own + length o.rest = length-append o.own o.rest in
            omega (arith, short, long, parts, sum)

        first : IsTold m whole v (suc n)
        first = subst (λ k. IsTold m whole v k) (omega arith) (told 0 v refl)

        lies : (i : ℕ) (x : FlatVariable) (u : Value) → slice_get m.variables i ≡ Some x → slice_get v i ≡ Some u → (before : List Line) × (after : List Line) × (o.own ≡ before ++ value_line x u ∷ after)
        lies i x u is_x is_u = of_given (first.each i x u is_x is_u)
          where
            of_given : IsGiven whole x u (suc n) → (before : List Line) × (after : List Line) × (o.own ≡ before ++ value_line x u ∷ after)
            of_given g = own_place (done ++ moment_line n ∷ []) o.own o.rest n begun o.quiet at (fewer_before done n e) (variable_text x) (value_text u) (p.words i x is_x) g.earlier g.later (sym start_first ∙ g.lie) g.there

        values : Valued o.own m.variables
        values = record { values = v; domains = first.domains; lies = lies }
