use Rattle.std.proofs.Common.{ℕ, Result, Ok, Err, OnOk, subst}
use Rattle.cut_frames.specs.OwnVariables.{apart_system, apart_list}
use Rattle.cut_frames.specs.GuardedSearch.{IsHolding, places_of}
use Rattle.cut_frames.specs.Levels.{frames_of}
use Rattle.cut_frames.proofs.bad.take_bad.Goals as goal

on_ok : {T E P Q : Type 0} (r : Result T E) → (P → Q) → OnOk r P → OnOk r Q
on_ok (Ok x) f h = f h
on_ok (Err x) f h = tt

pub take_bad-requires-clause-low : goal.take_bad-requires-clause-low
take_bad-requires-clause-low g c = λ k d lt j l in_clause. (c.requires.bad k d lt j l in_clause).0

pub returns : goal.returns
returns g c =
    on_ok c.take_bad.result
    (λ takes.
    subst (λ (p : ℕ). IsHolding (apart_system c.args.system.now) (apart_list p c.args.bad.now) (frames_of c.args.frames.now) c.take_bad.new.self) c.requires.kept.places
    (takes (apart_system c.args.system.now) (apart_list (places_of c.args.system.now) c.args.asked.now) (frames_of c.args.frames.now) c.requires.kept))
    c.take_bad.ensures
