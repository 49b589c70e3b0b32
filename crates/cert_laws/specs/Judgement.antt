-- Each certificate is accepted or has an objection.
use Rattle.std.specs.Prelude.{◌≡◌, ◌⊎◌, ℕ, List, length}
use Rattle.cert_laws.specs.Certificate.{Certificate}
use Rattle.cut_text_laws.specs.Lines.{Line}
use Rattle.cert_laws.specs.Acceptance.{Subject, Rule, KeepsAtTrace, IsAccepted, IsObjection}

-- it holds, or it doesn't
abbrev pub IsSettled : Type 0 → Type 0
IsSettled P = P ⊎ (P → ⊥)

module _ (T : Type 0) (reads : List Line → T → Type 0) (is_trace reaches : T → Type 0) (has_failed : T → ℕ → Type 0) where
  -- where what the rules ask of trace texts is settled, as by reading and replaying them
  abbrev pub EachIsJudged : Type 0
  EachIsJudged =
      (subject : Subject) (c : Certificate) → length c.traces ≡ length c.sets →
      ((set : List ℕ) (text : List Line) (rule : Rule) →
      IsSettled (KeepsAtTrace T reads is_trace reaches has_failed subject c set text rule)) →
      IsAccepted T reads is_trace reaches has_failed subject c
      ⊎ ((line : ℕ) × (rule : Rule) × IsObjection T reads is_trace reaches has_failed subject c line rule)
