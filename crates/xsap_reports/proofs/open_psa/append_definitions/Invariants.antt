use Rattle.std.proofs.Common.{◌≡◌, ◌++◌, ◌+◌, drop, map}
use Rattle.xsap_reports.specs.MefText.{definitions}
use Rattle.xsap_reports.proofs.open_psa.append_definitions.Given as goal

abbrev pub invariant-loop-i : goal.invariant-loop-i
invariant-loop-i l = l.text ++ definitions (l.i + 1) (map (λ name. name.now) (drop l.i l.names)) ≡ l.initial.text ++ definitions 1 (map (λ name. name.now) l.names)
