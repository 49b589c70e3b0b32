use Rattle.std.proofs.Common.{List, All, map, sym, subst}
use Rattle.sat_clauses.specs.Literal.{Literal}
use Rattle.sat_clauses.specs.Models.{FollowsFrom}
use Rattle.sat_clauses.specs.Hints.{HasNoOpposites}
use Rattle.sat_clauses.specs.States.{moved_on}
use Rattle.cert_making.proofs.PartLemmas.{next_follow, moved_apart}
use Rattle.cert_making.proofs.parts.derive_next.Goals as goal

pub returns-clause-proof : goal.returns-clause-proof
returns-clause-proof g c bad is = c.in_ok-steps.ensures.follow
    (subst (λ (goals : List (List Literal)). All (FollowsFrom c.in_ok-givens.givens) goals) (sym c.in_ok-goals.ensures)
    (subst (λ (givens : List (List Literal)). All (FollowsFrom givens) (map (map (moved_on c.args.system.now.state_bits)) c.args.invariant.now)) (sym c.in_ok-givens.ensures)
    (next_follow c.args.system.now c.args.invariant.now bad c.requires.over_bits is)))

pub derive-requires : goal.derive-requires
derive-requires g c = record { apart = subst (All HasNoOpposites) (sym c.in_ok-goals.ensures) (moved_apart c.args.system.now.state_bits c.args.invariant.now c.requires.apart) }
