-- The window of a cause that breaks no rule ends at most `LONGEST_WINDOW` steps after its moment.
use Rattle.std.proofs.Common.{◌≡◌, ℕ, ◌≤◌, Bool, true, false, List, [], ◌∷◌, ◌++◌, Option, Some, None, refl, subst, sym}
use Rattle.std.specs.Prelude.{if◌then◌else◌}
use Rattle.std.proofs.lemmas.Bool.{ltb-false}
use Rattle.base_values.specs.declared.limits.TheConstants.{LONGEST_WINDOW}
use Rattle.smv_language.specs.Language.{ProgramTree, Each}
use Rattle.fault_weave.specs.Faults.{Fault}
use Rattle.fault_cause_laws.specs.Causes.{CommonCause, IsCauseOf}
use Rattle.fault_cause_laws.specs.CausesText.{WrittenCause}
use Rattle.fault_cause_laws.specs.CauseRules.{CauseRule, no_such_fault, double_cause, double_strike, empty_window, too_wide, AllKept, AreReadAs}
use Rattle.fault_cause_laws.specs.KindLaws.{IsShortCause}

-- none of five rules is broken
fifth_kept : (a b c d e : Bool) (rest : Option CauseRule) →
    (if a then Some no_such_fault else if b then Some double_cause else if c then Some double_strike else if d then Some empty_window else if e then Some too_wide else rest) ≡ None → e ≡ false
fifth_kept true b c d e rest h = cc
fifth_kept false true c d e rest h = cc
fifth_kept false false true d e rest h = cc
fifth_kept false false false true e rest h = cc
fifth_kept false false false false true rest h = cc
fifth_kept false false false false false rest h = refl

module _ (faults : List Fault) (w : ProgramTree) where
  ends_soon : (before written : List WrittenCause) → AllKept faults w before written → (cs : List CommonCause) → AreReadAs faults w written cs → Each (λ (c : CommonCause). c.to ≤ LONGEST_WINDOW) cs
  ends_soon before [] kept [] read = tt
  ends_soon before [] kept (a ∷ cs) read = absurd read
  ends_soon before (c ∷ written) kept [] read = absurd read
  ends_soon before (c ∷ written) kept (a ∷ cs) read =
      (subst (λ n. n ≤ LONGEST_WINDOW) (sym read.0.to) (ltb-false LONGEST_WINDOW c.to (fifth_kept _ _ _ _ _ _ kept.0)), ends_soon (before ++ c ∷ []) written kept.1 cs read.1)

  -- causes that strike faults of the list
  pub short_causes : (written : List WrittenCause) → AllKept faults w [] written → (cs : List CommonCause) → AreReadAs faults w written cs → (many : ℕ) → Each (IsCauseOf many) cs → Each (IsShortCause many) cs
  short_causes written kept cs read many strikes = both cs strikes (ends_soon [] written kept cs read)
    where
      both : (cs : List CommonCause) → Each (IsCauseOf many) cs → Each (λ (c : CommonCause). c.to ≤ LONGEST_WINDOW) cs → Each (IsShortCause many) cs
      both [] strikes soon = tt
      both (c ∷ cs) strikes soon = (record { strikes = strikes.0; short = soon.0 }, both cs strikes.1 soon.1)
