use Rattle.std.proofs.Common.{ℕ, List, refl, sym, ◌∙◌, subst}
use Rattle.std.proofs.lemmas.Bool.{false≢true}
use Rattle.sat_clauses.specs.Literal.{Literal}
use Rattle.sat_clauses.proofs.DeriveModelLemmas.{FollowsFrom-EndsFalse}
use Rattle.sat_solver.specs.Search.{IsStep}
use Rattle.sat_solver.proofs.proposed.refutes.Goals as goal

pub returns-then-cores-clause-shown : goal.returns-then-cores-clause-shown
returns-then-cores-clause-shown g c = λ e.
    let shown = c.in_ok-is_kept.ensures.shown e in
    record {
      listed = λ _. shown.listed refl;
      follows = shown.follows;
    }

pub returns-clause-shown : goal.returns-clause-shown
returns-clause-shown g c = λ e.
    let cs = c.args.store.now.clauses in
    let vars = c.args.store.now.vars in
    let step = c.args.step.now in
    let is : IsStep vars cs step = subst (λ (n : ℕ). IsStep n cs step) c.vars-2.ensures.value (subst (λ (xs : List (List Literal)). IsStep c.vars-2.result xs step) c.stored.ensures (c.is_step-is_right.ensures.step e)) in
    record {
      listed = λ cores. absurd (false≢true (sym c.if-cores.false ∙ cores));
      follows = FollowsFrom-EndsFalse vars cs step.clause step.hints is.ends;
    }
