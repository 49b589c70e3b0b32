-- the faults from here on decide as all do
use Rattle.std.proofs.Common.{◌≡◌, ◌+◌, drop}
use Rattle.std.specs.Prelude.{map}
use Rattle.smv_flat_laws.specs.FaultModes.{mode_of}
use Rattle.smv_flat_laws.specs.FlatTrace.{stands_in_some}
use Rattle.cert_check.specs.QuestionMatter.{asked}
use Rattle.cert_check.specs.Moments.{are_those_of}
use Rattle.cert_check.proofs.traces.are_failed.Given as goal
use Rattle.smv_language.specs.NumberedValues.{told_trace}

abbrev pub invariant-loop-i : goal.invariant-loop-i
invariant-loop-i l =
    are_those_of (λ f. stands_in_some (asked l.q).model f (told_trace l.q.plain.now.model.symbols l.trace)) l.set (l.i + 1) (map mode_of (drop l.i l.q.faults.now))
    ≡ are_those_of (λ f. stands_in_some (asked l.q).model f (told_trace l.q.plain.now.model.symbols l.trace)) l.set 1 (map mode_of l.q.faults.now)
