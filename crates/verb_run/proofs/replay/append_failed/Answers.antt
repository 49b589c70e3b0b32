use Rattle.std.proofs.Common.{◌≡◌, ◌<◌, length, Some, sym, ap, subst, ◌∙◌}
use Rattle.std.specs.Prelude.{slice_get}
use Rattle.std.proofs.lemmas.Option.{slice_get-get_or}
use Rattle.verb_run.proofs.NamingLaws.{numbered_at}
use Rattle.verb_run.proofs.replay.append_failed.Goals as goal

pub append_if_failed-requires-clause-numbered : goal.append_if_failed-requires-clause-numbered
append_if_failed-requires-clause-numbered c =
    let less : c.loop-i.i < length c.args.woven.now = c.loop-i-test.true in
    let woven : slice_get c.args.woven.now c.loop-i.i ≡ Some c.index-woven-i.result = slice_get-get_or c.args.woven.now c.loop-i.i c.index-woven-i.result less ∙ ap Some (sym c.index-woven-i.is) in
    let fault : slice_get c.args.faults.now c.loop-i.i ≡ Some c.index-faults-i.result =
    slice_get-get_or c.args.faults.now c.loop-i.i c.index-faults-i.result (subst (λ n. c.loop-i.i < n) c.requires.length less) ∙ ap Some (sym c.index-faults-i.is) in
    numbered_at c.args.typed.now.model c.args.woven.now c.args.faults.now c.loop-i.i c.index-woven-i.result c.index-faults-i.result c.requires.numbered woven fault
