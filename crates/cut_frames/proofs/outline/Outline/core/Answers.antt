use Rattle.std.proofs.Common.{◌≡◌, ◌≤◌, ◌<◌, ◌+◌, ◌-◌, not, List, Some, None, All, sym, subst, slice_index_or}
use Rattle.std.specs.Prelude.{Contains}
use Rattle.std.proofs.lemmas.List.Elements.{All-contains}
use Rattle.sat_clauses.specs.Literal.{Literal}
use Rattle.cut_frames.specs.Parts.{IsPart, IsOfFirst}
use Rattle.cut_frames.proofs.PartLemmas.{some_of, agreed_one, one_part}
use Rattle.cut_frames.proofs.outline.Outline.core.Goals as goal

pub agreed_in-requires : goal.agreed_in-requires
agreed_in-requires g c = subst (All (λ l. 2 ≤ l.var)) (sym c.lits.ensures) (λ k d lt. (c.requires.over k d lt).0)

pub returns-in-Some-clause-core : goal.returns-in-Some-clause-core
returns-in-Some-clause-core g c =
    let w = some_of c.agreed_in.result c.in-Some.lit (λ (l : Literal). Contains c.lits.result.now l × (slice_index_or c.args.self.now.agreed.items (l.var - 2) None ≡ Some (not l.negated))) c.in-Some.is c.agreed_in.ensures in
    let member : Contains c.args.clause.now c.in-Some.lit = subst (λ (ls : List Literal). Contains ls c.in-Some.lit) c.lits.ensures w.0 in
    let low = (All-contains (λ l. (2 ≤ l.var) × (l.var < c.args.system.now.state_bits + 2)) c.args.clause.now c.in-Some.lit c.requires.over member).0 in
    subst (λ (o : List Literal). IsPart o c.args.clause.now × IsOfFirst c.args.system.now o) (sym c.in_ok-one.ensures)
    (one_part c.args.clause.now c.in-Some.lit member, agreed_one c.args.system.now c.args.self.now.agreed.items c.in-Some.lit c.requires.agreed low w.1)

pub returns-in-Some-clause-asked : goal.returns-in-Some-clause-asked
returns-in-Some-clause-asked g c = λ system list frames h. h

pub returns-then-has_start_outside-clause-asked : goal.returns-then-has_start_outside-clause-asked
returns-then-has_start_outside-clause-asked g c = λ system list frames h. h

pub returns-clause-core : goal.returns-clause-core
returns-clause-core g c = c.in_ok-answer.ensures.core

pub returns-clause-asked : goal.returns-clause-asked
returns-clause-asked g c = c.in_ok-answer.ensures.asked
