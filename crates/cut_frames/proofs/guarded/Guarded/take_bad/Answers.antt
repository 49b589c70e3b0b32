use Rattle.std.proofs.Common.{Result, Ok, Err, OnOk, List, subst}
use Rattle.sat_clauses.specs.Literal.{Literal}
use Rattle.cut_frames.specs.OwnVariables.{apart_list}
use Rattle.cut_frames.specs.GuardedSearch.{MeetAlike}
use Rattle.cut_frames.proofs.guarded.Guarded.take_bad.Goals as goal

on_ok : {T E P Q : Type 0} (r : Result T E) → (P → Q) → OnOk r P → OnOk r Q
on_ok (Ok x) f h = f h
on_ok (Err x) f h = tt

pub returns : goal.returns
returns g c =
    let p = c.args.self.now.places in
    on_ok c.take_simple.result
    (λ takes. takes (apart_list p c.args.bad.now) (subst (λ (ls : List (List Literal)). MeetAlike p (apart_list p ls) c.in_ok-simple.simple) c.as_slice.ensures c.in_ok-simple.ensures.alike))
    c.take_simple.ensures
