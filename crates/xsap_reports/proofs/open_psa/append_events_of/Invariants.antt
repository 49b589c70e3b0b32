use Rattle.std.proofs.Common.{◌≡◌, ◌++◌, drop}
use Rattle.xsap_reports.specs.MefText.{events_of}
use Rattle.xsap_reports.proofs.open_psa.append_events_of.Given as goal

abbrev pub invariant-loop-number : goal.invariant-loop-number
invariant-loop-number l = l.text ++ events_of (drop l.number-index l.set) ≡ l.initial.text ++ events_of l.set
