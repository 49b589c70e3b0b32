use Rattle.std.proofs.Common.{◌≡◌, ◌++◌, ◌+◌, drop, map}
use Rattle.xsap_reports.specs.MefText.{set_gates}
use Rattle.xsap_reports.proofs.open_psa.append_set_gates.Given as goal

abbrev pub invariant-loop-i : goal.invariant-loop-i
invariant-loop-i l = l.text ++ set_gates (l.i + 1) (map (λ set. set.items) (drop l.i l.sets)) ≡ l.initial.text ++ set_gates 1 (map (λ set. set.items) l.sets)
