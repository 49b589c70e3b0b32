use Rattle.std.proofs.Common.{◌≡◌, ◌+◌, ◌<◌, ◌++◌, ◌∷◌, [], ◌∙◌, sym, ap, subst, take, length, arith}
use Rattle.std.proofs.lemmas.List.{take_more, drop_more}
use Rattle.fault_extend.specs.NumberedFaults.{HasMode, HaveModes, AreNumbered}
use Rattle.fault_extend.proofs.NumberLaws.{numbered_push}
use Rattle.fault_extend.proofs.list.numbered_list.Goals as goal

pub loop-fault-preserved : goal.loop-fault-preserved
loop-fault-preserved c =
    let below : c.loop-fault.fault-index < length c.args.woven.now = omega arith in
    let more : take (c.loop-fault.fault-index + 1) c.args.woven.now ≡ take c.loop-fault.fault-index c.args.woven.now ++ c.fault-item.result ∷ [] =
    take_more c.args.woven.now c.loop-fault.fault-index c.fault-item.result below ∙ ap (λ x. take c.loop-fault.fault-index c.args.woven.now ++ x ∷ []) (sym c.fault-item.is) in
    let next = drop_more c.args.woven.now c.loop-fault.fault-index c.fault-item.result below in
    let numbered : AreNumbered c.args.m.now (take (c.loop-fault.fault-index + 1) c.args.woven.now) c.push.new.self =
    subst (λ ws. AreNumbered c.args.m.now ws c.push.new.self) (sym more)
    (subst (AreNumbered c.args.m.now (take c.loop-fault.fault-index c.args.woven.now ++ c.fault-item.result ∷ [])) (sym c.in_ok-push.ensures.ok)
    (numbered_push c.args.m.now (take c.loop-fault.fault-index c.args.woven.now) c.loop-fault.faults c.fault-item.result c.in_ok-numbered.field-0 c.loop-fault.invariant.numbered c.in_ok-numbered.ensures)) in
    record { numbered = numbered; modes = (subst (HaveModes c.args.m.now) next c.loop-fault.invariant.modes).1 }

pub numbered-requires-clause-mode : goal.numbered-requires-clause-mode
numbered-requires-clause-mode c =
    let woven = c.args.woven.now in
    let place = c.loop-fault.fault-index in
    let next = drop_more woven place c.fault-item.result c.loop-fault-test.true in
    subst (HasMode c.args.m.now) (sym c.fault-item.is) (subst (HaveModes c.args.m.now) next c.loop-fault.invariant.modes).0
