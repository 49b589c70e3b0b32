-- The laws of certificates.
use Rattle.std.specs.Prelude.{◌≡◌, ℕ, List}
use Rattle.sat_clauses.specs.States.{IsInvariant}
use Rattle.cert_laws.specs.Certificate.{Certificate}
use Rattle.cut_text_laws.specs.Lines.{Line}
use Rattle.cert_laws.specs.Acceptance.{Subject, Rule, IsAccepted, IsObjection}

module _ (T : Type 0) (reads : List Line → T → Type 0) (is_trace reaches : T → Type 0) (has_failed : T → ℕ → Type 0) where
  -- a certificate has at most one objection, with one line and one rule
  abbrev pub OneObjection : Type 0
  OneObjection =
      (subject : Subject) (c : Certificate) (line other : ℕ) (rule r : Rule) →
      IsObjection T reads is_trace reaches has_failed subject c line rule →
      IsObjection T reads is_trace reaches has_failed subject c other r → (line ≡ other) × (rule ≡ r)

  -- and none where it is accepted
  abbrev pub AcceptedHasNone : Type 0
  AcceptedHasNone =
      (subject : Subject) (c : Certificate) (line : ℕ) (rule : Rule) →
      IsAccepted T reads is_trace reaches has_failed subject c → IsObjection T reads is_trace reaches has_failed subject c line rule → ⊥

  -- the invariant of an accepted certificate is one: it holds first, every step keeps it, and it excludes the bad states
  abbrev pub AcceptedIsInvariant : Type 0
  AcceptedIsInvariant =
      (subject : Subject) (c : Certificate) → IsAccepted T reads is_trace reaches has_failed subject c →
      IsInvariant subject.system (subject.bad c.sets c.size) c.invariant
