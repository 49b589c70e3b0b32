use Rattle.std.proofs.Common.{sym, subst}
use Rattle.cut_frames.specs.OwnVariables.{apart_system, apart_list, AreSimpleFor}
use Rattle.cut_frames.specs.GuardedSearch.{places_of}
use Rattle.cut_frames.specs.Levels.{frames_of}
use Rattle.cut_frames.specs.declared.simple.SimpleLists.{SimpleLists}
use Rattle.cut_frames.proofs.fresh.freshen.Goals as goal

pub renewed-requires-clause-simple : goal.renewed-requires-clause-simple
renewed-requires-clause-simple g c =
    let system = c.args.problem.system.now in
    let bad = c.args.problem.bad.now in
    let held = c.in_ok-forget.ensures (apart_system system) (apart_list (places_of system) bad) (frames_of c.args.frames.now) c.requires.kept in
    subst (λ (s : SimpleLists). AreSimpleFor system bad s) (sym c.take_lists-lists.ensures) held.simple

pub returns : goal.returns
returns g c =
    let system = c.args.problem.system.now in
    c.note_past.ensures (apart_system system) (apart_list (places_of system) c.args.problem.bad.now) (frames_of c.args.frames.now) c.in_ok-kept.ensures
