-- A certificate has at most one objection, and none where it is accepted.
use Rattle.std.proofs.Common.{◌≡◌, ℕ, ◌<◌, ◌≤◌, ◌⊎◌, inl, inr, arith, List, [], ◌∷◌, Some, refl}
use Rattle.std.specs.Prelude.{slice_get}
use Rattle.cut_text_laws.specs.Lines.{Line}
use Rattle.cert_laws.specs.Acceptance.{Rule, other_numbers, no_set, contains_a_set, no_text, no_trace, does_not_reach, other_faults, foreign_literal, bad_hint, no_conflict, not_covered, number_of}
use Rattle.cert_laws.specs.CertificateLaws.{OneObjection, AcceptedHasNone}

-- the rules by their numbers; no rule has the number 0
abbrev pub numbered : List Rule
numbered =
    other_numbers ∷ other_numbers ∷ no_set ∷ contains_a_set ∷ no_text ∷ no_trace ∷ does_not_reach ∷ other_faults ∷ foreign_literal ∷ bad_hint ∷ no_conflict ∷ not_covered ∷ []

pub found : (r : Rule) → slice_get numbered (number_of r) ≡ Some r
found other_numbers = refl
found no_set = refl
found contains_a_set = refl
found no_text = refl
found no_trace = refl
found does_not_reach = refl
found other_faults = refl
found foreign_literal = refl
found bad_hint = refl
found no_conflict = refl
found not_covered = refl

one_number : (rules : List Rule) (r q : Rule) (i j : ℕ) → slice_get rules i ≡ Some r → slice_get rules j ≡ Some q → i ≡ j → r ≡ q
one_number rules r q i j a b e = cc

pub same_rule : (r q : Rule) → number_of r ≡ number_of q → r ≡ q
same_rule r q e = one_number numbered r q (number_of r) (number_of q) (found r) (found q) e

least : (l o n m : ℕ) → (l < o) ⊎ ((l ≡ o) × (n ≤ m)) → (o < l) ⊎ ((o ≡ l) × (m ≤ n)) → (l ≡ o) × (n ≡ m)
least l o n m (inl a) (inl b) = absurd (omega arith)
least l o n m (inl a) (inr b) = absurd (omega arith)
least l o n m (inr a) (inl b) = absurd (omega arith)
least l o n m (inr a) (inr b) = (omega arith, omega arith)

module _ (T : Type 0) (reads : List Line → T → Type 0) (is_trace reaches : T → Type 0) (has_failed : T → ℕ → Type 0) where
  pub one_objection : OneObjection T reads is_trace reaches has_failed
  one_objection subject c line other rule r a b =
      let both : (line ≡ other) × (number_of rule ≡ number_of r) =
      least line other (number_of rule) (number_of r) (a.first other r b.broken) (b.first line rule a.broken) in
      (both.0, same_rule rule r both.1)

  pub accepted_has_none : AcceptedHasNone T reads is_trace reaches has_failed
  accepted_has_none subject c line rule accepted o = o.broken.broken (accepted o.broken.site o.broken.is_site rule)
