use Rattle.std.proofs.Common.{◌+◌, ◌<◌, ◌≤◌, ◌∙◌, List, All, length, map, refl, sym, subst, ap, arith}
use Rattle.std.proofs.lemmas.Bool.{false≢true}
use Rattle.std.proofs.lemmas.List.{take_all}
use Rattle.std.proofs.lemmas.List.Elements.{All-more}
use Rattle.sat_clauses.specs.Literal.{Literal}
use Rattle.sat_clauses.specs.States.{moved_on}
use Rattle.cert_laws.specs.Acceptance.{Covers}
use Rattle.cert_derivations.proofs.covering.covers_all_next.Goals as goal

pub moved_clause-requires : goal.moved_clause-requires
moved_clause-requires c =
    subst (All (λ (l : Literal). (2 ≤ l.var) × (l.var < c.args.bits + 2))) (sym c.clause-item.is ∙ sym c.lits.ensures) (c.requires c.loop-clause.clause-index c.clause-item.result c.loop-clause-test.true)

pub returns-in_default : goal.returns-in_default
returns-in_default c =
    let known = c.args.checker.now.clauses in
    let next : List Literal → List Literal = map (moved_on c.args.bits) in
    let is = c.as_slice.ensures ∙ c.in_ok-lits.ensures ∙ ap next (c.lits.ensures ∙ c.clause-item.is) in (
      (λ e. absurd (false≢true e)),
      (λ all. absurd (c.covering.ensures.none c.in_default.is (subst (Covers known) (sym is) (all c.loop-clause.clause-index c.clause-item.result c.loop-clause-test.true)))),
    )

pub loop-clause-preserved : goal.loop-clause-preserved
loop-clause-preserved c =
    let known = c.args.checker.now.clauses in
    let next : List Literal → List Literal = map (moved_on c.args.bits) in
    let is = c.as_slice.ensures ∙ c.in_ok-lits.ensures ∙ ap next (c.lits.ensures ∙ c.clause-item.is) in
    let found = c.in-Some.ensures.found in
    record {
      inside = omega (arith, found.0);
      covered = All-more (λ lits. Covers known (next lits)) c.args.needed.now c.loop-clause.clause-index c.clause-item.result c.loop-clause-test.true c.loop-clause.invariant.covered
          (subst (Covers known) is found.1);
    }

pub returns : goal.returns
returns c =
    let needed = c.args.needed.now in
    let over : length needed ≤ c.loop-clause.clause-index = omega arith in
    ((λ e. subst (All (λ lits. Covers c.args.checker.now.clauses (map (moved_on c.args.bits) lits))) (take_all c.loop-clause.clause-index needed over) c.loop-clause.invariant.covered), (λ all. refl))
