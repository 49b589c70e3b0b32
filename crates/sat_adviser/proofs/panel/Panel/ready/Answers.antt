use Rattle.std.proofs.Common.{rules, ◌∙◌, refl}
use Rattle.std.proofs.lemmas.Result.{err_from_is_err_and}
use Rattle.sat_adviser.proofs.PanelLemmas.{counts_same, next_mapped, map_mapped, some_ready}
use Rattle.sat_adviser.proofs.panel.Panel.ready.Goals as goal

pub returns-in_err-ready-clause-told : goal.returns-in_err-ready-clause-told
returns-in_err-ready-clause-told g c =
    counts_same _ c.loop-i.self.advisers.items c.loop-i.i c.index_mut.result.now c.ready.new.adviser
    c.index_mut.ensures.value c.ready.ensures.told ∙ c.loop-i.invariant.told

pub returns-in_err-ready-clause-asks : goal.returns-in_err-ready-clause-asks
returns-in_err-ready-clause-asks g c =
    counts_same _ c.loop-i.self.advisers.items c.loop-i.i c.index_mut.result.now c.ready.new.adviser
    c.index_mut.ensures.value c.ready.ensures.asked ∙ c.loop-i.invariant.asks

-- those before this one are ready, and this one has the room that it had
pub returns-in_err-ready-clause-some_ready : goal.returns-in_err-ready-clause-some_ready
returns-in_err-ready-clause-some_ready g c =
    let exit = err_from_is_err_and c.from_residual.result c.from_residual.ensures.1 in
    rw exit.1 (some_ready _ c.args.vars c.loop-i.self.advisers.items c.args.self.now.advisers.items c.loop-i.i c.index_mut.result.now c.ready.new.adviser
    (search rules) c.index_mut.ensures.value c.in_err-ready.ensures.room_stays c.loop-i.invariant.room)

pub loop-i-preserved : goal.loop-i-preserved
loop-i-preserved g c = record {
  told = counts_same _ c.loop-i.self.advisers.items c.loop-i.i c.index_mut.result.now c.ready.new.adviser
      c.index_mut.ensures.value c.ready.ensures.told ∙ c.loop-i.invariant.told;
  asks = counts_same _ c.loop-i.self.advisers.items c.loop-i.i c.index_mut.result.now c.ready.new.adviser
      c.index_mut.ensures.value c.ready.ensures.asked ∙ c.loop-i.invariant.asks;
  same = rw c.loop-i.invariant.same refl;
  room = next_mapped _ _ c.loop-i.self.advisers.items _ c.loop-i.i c.index_mut.result.now c.ready.new.adviser
      (search rules) c.index_mut.ensures.value c.in_ok-ready.ensures.room c.loop-i.invariant.room;
}

pub returns-clause-room : goal.returns-clause-room
returns-clause-room g c =
    map_mapped _ _ c.loop-i.self.advisers.items _ c.loop-i.i (search rules) c.loop-i.invariant.room
