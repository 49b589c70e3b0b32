-- Hits that land are struck faults.
use Rattle.std.proofs.Common.{◌≡◌, ◌≢◌, ℕ, ◌+◌, ◌<◌, ◌≤◌, Bool, true, false, ◌&&◌, ◌||◌, List, [], ◌∷◌, Option, Some, None, refl, arith, eq-eqb, ◌⊎◌, inl, inr}
use Rattle.std.specs.Prelude.{nat_eq, IsTrue}
use Rattle.std.proofs.lemmas.Bool.Decides.{eqb_tells}
use Rattle.smv_language.specs.Language.{opposite, Each}
use Rattle.fault_cause_laws.specs.Causes.{CommonCause}
use Rattle.fault_cause_laws.specs.CausedEvents.{IsStruck, Occurs}
use Rattle.fault_cause_laws.specs.StagedValues.{age_at, is_in_window, some_up_to, is_hit}
use Rattle.fault_cause_laws.proofs.Ages.{IsMomentOf, age_lands, decides_window, some_means, some_from}
use Rattle.fault_cause_laws.proofs.Hits.{Landed}
use Rattle.std.proofs.lemmas.Bool.{and_from as and_both}
use Rattle.std.proofs.lemmas.Bool.{and_parts}

module _ (stands : ℕ → ℕ → Bool) (total : ℕ) (c : CommonCause) where
  abbrev Stands : ℕ → ℕ → Type 0
  Stands k i = IsTrue (stands k i)

  struck_of : (t i : ℕ) → t + c.to < total → Landed stands c (Some t) total i → IsStruck total Stands c t i
  struck_of t i l landed =
      let hit : is_hit stands c (Some t) i (t + c.to) ≡ true = at_end (nat_eq (age_at c (Some t) (t + c.to)) (c.to + 1)) (is_hit stands c (Some t) i (t + c.to)) (eq-eqb _ _ ((age_lands c t (t + c.to)).1 refl)) (landed (t + c.to) l) in
      let some : (j : ℕ) × (j ≤ t + c.to) × ((is_in_window c (Some t) j && stands j i) ≡ true) =
      some_means (λ j. is_in_window c (Some t) j && stands j i) (t + c.to) (and_parts (is_in_window c (Some t) (t + c.to)) (some_up_to (λ j. is_in_window c (Some t) j && stands j i) (t + c.to)) hit).1 in
      (some.0, (decides_window c t some.0).0 (and_parts (is_in_window c (Some t) some.0) (stands some.0 i) some.2).0, (and_parts (is_in_window c (Some t) some.0) (stands some.0 i) some.2).1)
    where
      at_end : (a h : Bool) → a ≡ true → (opposite a || h) ≡ true → h ≡ true
      at_end true h e g = g
      at_end false h e g = cc

  all_struck : (t : ℕ) → t + c.to < total → (is : List ℕ) → Each (Landed stands c (Some t) total) is → Each (IsStruck total Stands c t) is
  all_struck t l [] h = tt
  all_struck t l (i ∷ is) h = (struck_of t i l h.0, all_struck t l is h.1)

  pub to_occurs : (time : Option ℕ) → IsMomentOf total time → Each (Landed stands c time total) c.strikes → Occurs total Stands c time
  to_occurs None h landed = tt
  to_occurs (Some t) h landed = (h, λ l. all_struck t l c.strikes landed)

  module _ (small : c.from ≤ c.to) where
    landed_of : (t i : ℕ) → (t + c.to < total → IsStruck total Stands c t i) → Landed stands c (Some t) total i
    landed_of t i h k l = by_test (nat_eq (age_at c (Some t) k) (c.to + 1)) (is_hit stands c (Some t) i k) (eqb_tells (age_at c (Some t) k) (c.to + 1)) at_end
      where
        at_end : age_at c (Some t) k ≡ c.to + 1 → is_hit stands c (Some t) i k ≡ true
        at_end e =
            let last : k ≡ t + c.to = (age_lands c t k).0 e in
            let struck : IsStruck total Stands c t i = h (omega arith) in
            let w : (t + c.from ≤ struck.0) × (struck.0 ≤ t + c.to) = struck.1 in
            and_both (is_in_window c (Some t) k) (some_up_to (λ j. is_in_window c (Some t) j && stands j i) k) ((decides_window c t k).1 (omega arith, omega arith))
            (some_from (λ j. is_in_window c (Some t) j && stands j i) k struck.0 (omega arith) (and_both (is_in_window c (Some t) struck.0) (stands struck.0 i) ((decides_window c t struck.0).1 struck.1) struck.2))

        by_test : (b h : Bool) → ((b ≡ true) × (age_at c (Some t) k ≡ c.to + 1)) ⊎ ((b ≡ false) × (age_at c (Some t) k ≢ c.to + 1)) → (age_at c (Some t) k ≡ c.to + 1 → h ≡ true) → (opposite b || h) ≡ true
        by_test b h (inl e) g = rw (e.0, g e.1) refl
        by_test b h (inr e) g = rw e.0 refl

    no_landing : (i : ℕ) → Landed stands c None total i
    no_landing i k l = elim (eqb_tells 0 (c.to + 1)) [ inl e ↦ absurd (omega (arith, e.1)) | inr e ↦ never (nat_eq 0 (c.to + 1)) (is_hit stands c None i k) e.0 ]
      where
        never : (b h : Bool) → b ≡ false → (opposite b || h) ≡ true
        never b h e = rw e refl

    all_no_landing : (is : List ℕ) → Each (Landed stands c None total) is
    all_no_landing [] = tt
    all_no_landing (i ∷ is) = (no_landing i, all_no_landing is)

    all_landed : (t : ℕ) (is : List ℕ) → (t + c.to < total → Each (IsStruck total Stands c t) is) → Each (Landed stands c (Some t) total) is
    all_landed t [] h = tt
    all_landed t (i ∷ is) h = (landed_of t i (λ l. (h l).0), all_landed t is (λ l. (h l).1))

    pub from_occurs : (time : Option ℕ) → Occurs total Stands c time → Each (Landed stands c time total) c.strikes
    from_occurs None h = all_no_landing c.strikes
    from_occurs (Some t) h = all_landed t c.strikes h.1
