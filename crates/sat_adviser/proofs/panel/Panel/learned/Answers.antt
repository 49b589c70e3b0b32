use Rattle.std.proofs.Common.{rules}
use Rattle.sat_adviser.proofs.PanelLemmas.{clause_heard, counts_risen, counts_same}
use Rattle.sat_adviser.proofs.panel.Panel.learned.Goals as goal

pub returns-then-self-len-clause-told : goal.returns-then-self-len-clause-told
returns-then-self-len-clause-told g c =
    counts_risen _ c.args.self.now.advisers.items c.args.self.now.present c.index_mut.result.now c.tell.new.adviser
    (search rules) c.index_mut.ensures.value c.tell.ensures.told

pub returns-then-self-len-clause-asks : goal.returns-then-self-len-clause-asks
returns-then-self-len-clause-asks g c =
    counts_same _ c.args.self.now.advisers.items c.args.self.now.present c.index_mut.result.now c.tell.new.adviser
    c.index_mut.ensures.value c.tell.ensures.asked

pub returns-then-self-len-clause-room : goal.returns-then-self-len-clause-room
returns-then-self-len-clause-room g c =
    counts_same _ c.args.self.now.advisers.items c.args.self.now.present c.index_mut.result.now c.tell.new.adviser
    c.index_mut.ensures.value c.tell.ensures.room

pub returns-then-self-len-clause-heard : goal.returns-then-self-len-clause-heard
returns-then-self-len-clause-heard g c =
    clause_heard _ c.args.self.now.advisers.items c.args.self.now.present c.index_mut.result.now c.tell.new.adviser c.args.lits.now
    (search rules) c.index_mut.ensures.value c.tell.ensures.heard
