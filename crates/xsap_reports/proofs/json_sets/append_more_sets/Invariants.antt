use Rattle.std.proofs.Common.{◌≡◌, ◌++◌, drop, map}
use Rattle.xsap_reports.specs.JsonText.{behind_commas, set_object}
use Rattle.xsap_reports.specs.Reports.{names_in}
use Rattle.xsap_reports.proofs.json_sets.append_more_sets.Given as goal

abbrev pub invariant-loop-set : goal.invariant-loop-set
invariant-loop-set l =
    l.text ++ behind_commas (map (λ set. set_object (names_in l.faults set.items) set.items) (drop l.set-index l.sets))
    ≡ l.initial.text ++ behind_commas (map (λ set. set_object (names_in l.faults set.items) set.items) l.sets)
