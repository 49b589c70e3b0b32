use Rattle.std.proofs.Common.{◌≡◌, [], ◌∷◌, ℕ, List, sym, subst}
use Rattle.sat_clauses.specs.Literal.{Literal}
use Rattle.cut_frames.specs.OwnVariables.{apart_system, apart_list}
use Rattle.cut_frames.specs.GuardedSearch.{places_of, MeetAlike, IsHolding}
use Rattle.cut_frames.proofs.fresh.bare.Goals as goal

alike_at : (p q : ℕ) (list simple : List (List Literal)) → q ≡ p → MeetAlike p list simple → MeetAlike q list simple
alike_at p q list simple e h = subst (λ (n : ℕ). MeetAlike n list simple) (sym e) h

pub returns : goal.returns
returns g c =
    let system = apart_system c.args.system.now in
    let list = apart_list (places_of c.args.system.now) c.args.bad.now in
    let lists = c.args.lists in
    let alike = c.requires.simple in
    let made : IsHolding system [] ([] ∷ []) c.in_ok-kept.kept = c.in_ok-kept.ensures system c.last_place.ensures.value
    (alike_at (places_of system) c.last_place.result system.first lists.first c.last_place.ensures.value alike.first.alike)
    (alike_at (places_of system) c.last_place.result system.step lists.step c.last_place.ensures.value alike.step.alike) in
    c.in_ok-take_simple.ensures list (alike_at (places_of system) c.in_ok-kept.kept.places list lists.bad made.places alike.bad.alike) system [] ([] ∷ []) made

pub take_simple-requires-clause-well : goal.take_simple-requires-clause-well
take_simple-requires-clause-well g c =
    let system = apart_system c.args.system.now in
    let lists = c.args.lists in
    let alike = c.requires.simple in
    (c.in_ok-kept.ensures system c.last_place.ensures.value
    (alike_at (places_of system) c.last_place.result system.first lists.first c.last_place.ensures.value alike.first.alike)
    (alike_at (places_of system) c.last_place.result system.step lists.step c.last_place.ensures.value alike.step.alike)).well
