use Rattle.std.proofs.Common.{◌≡◌, ℕ, ◌++◌, [], ◌∷◌, List, Contains, refl, sym, ap, ◌∙◌, subst}
use Rattle.std.proofs.lemmas.List.Elements.{Contains-push}
use Rattle.sat_clauses.specs.Literal.{Literal}
use Rattle.sat_clauses.specs.StoreRecord.{StoreValue}
use Rattle.sat_clauses.proofs.DeriveModelLemmas.{FollowsFrom-EndsFalse}
use Rattle.sat_solver.specs.Search.{IsStep}
use Rattle.sat_solver.proofs.SearchLemmas.{grows_one}
use Rattle.sat_solver.proofs.proposed.keep_step.Goals as goal

pub returns-clause-grows : goal.returns-clause-grows
returns-clause-grows g c =
    let cs = c.args.store.now.clauses in
    let vars = c.args.store.now.vars in
    let step = c.args.step.now in
    let is : IsStep vars cs step = subst (λ (n : ℕ). IsStep n cs step) c.vars.ensures.value (subst (λ (xs : List (List Literal)). IsStep c.vars.result xs step) c.stored.ensures (c.if-not-is_step.ensures.step refl)) in
    let new : c.push.new.self.clauses ≡ cs ++ step.clause ∷ [] = ap (λ (s : StoreValue). s.clauses) c.in_ok-push.ensures.ok ∙ ap (λ (x : List Literal). cs ++ x ∷ []) c.lits.ensures in
    grows_one vars cs c.push.new.self.clauses (g.R.Recorder.kept c.args.recorder.now) (g.R.Recorder.kept c.keep.new.self) step is new c.in_ok-keep.ensures.ok

pub returns-clause-shown : goal.returns-clause-shown
returns-clause-shown g c = λ e.
    let cs = c.args.store.now.clauses in
    let vars = c.args.store.now.vars in
    let step = c.args.step.now in
    let is : IsStep vars cs step = subst (λ (n : ℕ). IsStep n cs step) c.vars.ensures.value (subst (λ (xs : List (List Literal)). IsStep c.vars.result xs step) c.stored.ensures (c.if-not-is_step.ensures.step refl)) in
    let new : c.push.new.self.clauses ≡ cs ++ step.clause ∷ [] = ap (λ (s : StoreValue). s.clauses) c.in_ok-push.ensures.ok ∙ ap (λ (x : List Literal). cs ++ x ∷ []) c.lits.ensures in
    record {
      listed = λ _. subst (λ (xs : List (List Literal)). Contains xs step.clause) (sym new) (Contains-push cs step.clause);
      follows = FollowsFrom-EndsFalse vars cs step.clause step.hints is.ends;
    }
