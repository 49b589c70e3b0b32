use Rattle.std.proofs.Common.{◌≡◌, ◌+◌, suc, take, sym, subst, arith}
use Rattle.cut_frames.specs.OwnVariables.{IsKept, apart_system, apart_list}
use Rattle.cut_frames.specs.GuardedSearch.{places_of}
use Rattle.cut_frames.specs.Levels.{frames_from}
use Rattle.cut_frames.specs.declared.guarded.Guarded.{Guarded}
use Rattle.cut_frames.proofs.FreshLaws.{lengths, put_next, same_next, holding_same, number_here, bits_here, number_fits}
use Rattle.cut_frames.proofs.QueryLemmas.{bits_up_to}
use Rattle.cut_frames.proofs.fresh.renewed.Goals.{then-held-gt0+in_ok-add, else-held-gt0}
use Rattle.cut_frames.proofs.fresh.renewed.Goals as goal

pub add-requires-clause-within : goal.add-requires-clause-within
add-requires-clause-within g c =
    number_fits c.args.frames.now.last c.held-item.result.highest _ (take c.loop-held.held-index c.deref-held-items.result.now)
    (number_here c.args.system.now c.args.frames.now c.deref-held-items.result.now c.loop-held.held-index c.held-item.result c.requires.framed c.deref-held-items.ensures.value c.loop-held-test.true c.held-item.is)
    c.loop-held.invariant.count

pub add-requires-clause-up_to : goal.add-requires-clause-up_to
add-requires-clause-up_to g c =
    bits_up_to c.args.system.now c.loop-held.kept.places c.held-item.result.clause c.loop-held.invariant.places
    (bits_here c.args.system.now c.args.frames.now c.deref-held-items.result.now c.loop-held.held-index c.held-item.result c.requires.framed c.deref-held-items.ensures.value c.loop-held-test.true c.held-item.is)

pub loop-held-preserved : goal.loop-held-preserved
loop-held-preserved g c =
    let low = number_here c.args.system.now c.args.frames.now c.deref-held-items.result.now c.loop-held.held-index c.held-item.result c.requires.framed c.deref-held-items.ensures.value c.loop-held-test.true c.held-item.is in
    let list = apart_list (places_of c.args.system.now) c.args.bad.now in
    elim c.if-held-gt0.branch [
      | then-held-gt0+in_ok-add w ↦
          subst (λ (k : Guarded). IsKept c.args.system.now c.args.bad.now (frames_from 0 (suc c.args.frames.now.last) (take (c.loop-held.held-index + 1) c.deref-held-items.result.now)) k) (sym w.kept-is)
          (w.in_ok-add.ensures (apart_system c.args.system.now) list
          (frames_from 0 (suc c.args.frames.now.last) (take c.loop-held.held-index c.deref-held-items.result.now)) (frames_from 0 (suc c.args.frames.now.last) (take (c.loop-held.held-index + 1) c.deref-held-items.result.now)) c.loop-held.invariant
          (put_next c.args.frames.now.last c.loop-held.held-index c.deref-held-items.result.now c.held-item.result c.loop-held-test.true c.held-item.is low))
      | else-held-gt0 w ↦
          let none : c.held-item.result.highest ≡ 0 = grind (arith, w.if-held-gt0.false) in
          subst (λ (k : Guarded). IsKept c.args.system.now c.args.bad.now (frames_from 0 (suc c.args.frames.now.last) (take (c.loop-held.held-index + 1) c.deref-held-items.result.now)) k) (sym w.kept-is)
          (holding_same (apart_system c.args.system.now) list
          (frames_from 0 (suc c.args.frames.now.last) (take c.loop-held.held-index c.deref-held-items.result.now)) (frames_from 0 (suc c.args.frames.now.last) (take (c.loop-held.held-index + 1) c.deref-held-items.result.now)) c.loop-held.kept c.loop-held.invariant
          (lengths c.args.frames.now.last c.loop-held.held-index c.deref-held-items.result.now c.held-item.result c.loop-held-test.true c.held-item.is)
          (same_next c.args.frames.now.last c.loop-held.held-index c.deref-held-items.result.now c.held-item.result c.loop-held-test.true c.held-item.is none))
    ]
