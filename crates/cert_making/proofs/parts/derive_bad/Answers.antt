use Rattle.std.proofs.Common.{◌≡◌, ◌∙◌, ◌++◌, List, [], ◌∷◌, All, ap, sym, subst}
use Rattle.sat_clauses.specs.Literal.{Literal}
use Rattle.sat_clauses.specs.Models.{FollowsFrom}
use Rattle.cert_making.proofs.PartLemmas.{bad_follow}
use Rattle.cert_making.proofs.parts.derive_bad.Goals as goal

pub returns-clause-proof : goal.returns-clause-proof
returns-clause-proof g c system over is =
    let goals : c.push.new.self ≡ [] ∷ [] =
    c.in_ok-push.ensures.ok ∙ ap (λ (cs : List (List Literal)). cs ++ c.in_ok-from_lits.field-0 ∷ []) c.new-goals.ensures ∙ ap (λ (c : List Literal). c ∷ []) c.in_ok-from_lits.ensures in
    c.in_ok-steps.ensures.follow (subst (λ (gs : List (List Literal)). All (FollowsFrom c.in_ok-givens.givens) gs) (sym goals)
    (subst (λ (givens : List (List Literal)). All (FollowsFrom givens) ([] ∷ [])) (sym c.in_ok-givens.ensures)
    (bad_follow system c.args.invariant.now c.args.bad.now over is)))
