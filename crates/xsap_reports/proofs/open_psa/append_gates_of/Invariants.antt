use Rattle.std.proofs.Common.{◌≡◌, ◌++◌, ◌+◌, drop, map}
use Rattle.xsap_reports.specs.MefText.{gates_of}
use Rattle.xsap_reports.proofs.open_psa.append_gates_of.Given as goal

abbrev pub invariant-loop-i : goal.invariant-loop-i
invariant-loop-i l = l.text ++ gates_of (l.i + 1) (map (λ set. set.items) (drop l.i l.sets)) ≡ l.initial.text ++ gates_of 1 (map (λ set. set.items) l.sets)
