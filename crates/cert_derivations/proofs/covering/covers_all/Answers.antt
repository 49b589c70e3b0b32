use Rattle.std.proofs.Common.{◌≤◌, ◌∙◌, All, length, refl, sym, subst, arith}
use Rattle.std.proofs.lemmas.Bool.{false≢true}
use Rattle.std.proofs.lemmas.List.{take_all}
use Rattle.std.proofs.lemmas.List.Elements.{All-more}
use Rattle.cert_laws.specs.Acceptance.{Covers}
use Rattle.cert_derivations.proofs.covering.covers_all.Goals as goal

pub returns-in_default : goal.returns-in_default
returns-in_default c =
    let known = c.args.checker.now.clauses in (
      (λ e. absurd (false≢true e)),
      (λ all. absurd (c.covering.ensures.none c.in_default.is (subst (Covers known) (sym c.clause-item.is ∙ sym c.lits.ensures) (all c.loop-clause.clause-index c.clause-item.result c.loop-clause-test.true)))),
    )

pub loop-clause-preserved : goal.loop-clause-preserved
loop-clause-preserved c =
    let known = c.args.checker.now.clauses in
    let found = c.in-Some.ensures.found in
    record {
      inside = omega (arith, found.0);
      covered = All-more (Covers known) c.args.needed.now c.loop-clause.clause-index c.clause-item.result c.loop-clause-test.true c.loop-clause.invariant.covered
          (subst (Covers known) (c.lits.ensures ∙ c.clause-item.is) found.1);
    }

pub returns : goal.returns
returns c =
    let needed = c.args.needed.now in
    let over : length needed ≤ c.loop-clause.clause-index = omega arith in
    ((λ e. subst (All (Covers c.args.checker.now.clauses)) (take_all c.loop-clause.clause-index needed over) c.loop-clause.invariant.covered), (λ all. refl))
