use Rattle.std.proofs.Common.{◌≡◌, List, [], ◌∷◌, ℕ, subst}
use Rattle.std.proofs.lemmas.Result.{IfOk-weaker}
use Rattle.sat_clauses.specs.Literal.{Literal}
use Rattle.cut_frames.specs.OwnVariables.{apart_list, apart_system}
use Rattle.cut_frames.specs.GuardedSearch.{places_of, MeetAlike, HoldsSimple, IsHolding}
use Rattle.cut_frames.proofs.guarded.Guarded.new.Goals as goal

pub returns : goal.returns
returns c =
    let p = c.last_place-places.result in
    let system = c.args.system.now in
    IfOk-weaker c.over.result (HoldsSimple p c.in_ok-first.first c.in_ok-step.step) (λ g. IsHolding (apart_system system) [] ([] ∷ []) g)
    (λ g holds.
    holds (apart_system system) c.last_place-places.ensures.value
    (alike p (places_of system) system.first c.as_slice.result.now c.in_ok-first.first c.last_place-places.ensures.value c.as_slice.ensures c.in_ok-first.ensures.alike)
    (alike p (places_of system) system.step c.as_slice-2.result.now c.in_ok-step.step c.last_place-places.ensures.value c.as_slice-2.ensures c.in_ok-step.ensures.alike))
    c.over.ensures
  where
    alike : (p q : ℕ) (list now new : List (List Literal)) → p ≡ q → now ≡ list → MeetAlike p (apart_list p now) new → MeetAlike p (apart_list q list) new
    alike p q list now new e f h = subst (λ (n : ℕ). MeetAlike p (apart_list n list) new) e (subst (λ (ls : List (List Literal)). MeetAlike p (apart_list p ls) new) f h)
