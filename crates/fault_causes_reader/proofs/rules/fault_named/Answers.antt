use Rattle.std.proofs.Common.{arith, ◌≡◌, suc, ◌+◌, true, false, take, sym, ap, ◌∙◌}
use Rattle.fault_cause_laws.specs.CauseRules.{same_path, is_path_among}
use Rattle.fault_causes_reader.specs.FaultPaths.{paths_of}
use Rattle.fault_causes_reader.proofs.RuleSteps.{is_number, get_place, none_more}
use Rattle.fault_causes_reader.proofs.rules.fault_named.Goals as goal
use Rattle.smv_language.specs.ModelTree.{name_of_fault}

pub returns-then-is_same_path-clause-number : goal.returns-then-is_same_path-clause-number
returns-then-is_same_path-clause-number c =
    let same : same_path c.index-faults-place.result.name c.args.name.now ≡ true =
    (λ j. same_path (sym c.parts.ensures.parts j) (sym c.as_slice.ensures j)) ∙ sym c.is_same_path.ensures ∙ c.if-is_same_path.true in
    is_number (paths_of c.args.faults.now) c.args.name.now c.index-faults-place.result.name c.loop-place.place c.in_ok-number.number c.in_ok-number.ensures.same same
    (get_place name_of_fault c.args.faults.now c.loop-place.place c.index-faults-place.result c.loop-place-test.true c.index-faults-place.is) c.loop-place.invariant

pub loop-place-preserved : goal.loop-place-preserved
loop-place-preserved c =
    let other : same_path c.index-faults-place.result.name c.args.name.now ≡ false =
    (λ j. same_path (sym c.parts.ensures.parts j) (sym c.as_slice.ensures j)) ∙ sym c.is_same_path.ensures ∙ c.if-is_same_path.false in
    let next : c.loop-place.place + 1 ≡ suc c.loop-place.place = omega arith in
    ap (λ n. is_path_among (take n (paths_of c.args.faults.now)) c.args.name.now) next
    ∙ none_more name_of_fault c.args.faults.now c.loop-place.place c.index-faults-place.result c.args.name.now c.loop-place-test.true c.index-faults-place.is c.loop-place.invariant other
