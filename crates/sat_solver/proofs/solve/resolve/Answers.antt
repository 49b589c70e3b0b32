use Rattle.std.proofs.Common.{◌≡◌, ◌-◌, List, Contains, length, sym, ap, ◌∙◌, subst}
use Rattle.std.proofs.lemmas.Bool.{eqb-true}
use Rattle.sat_clauses.specs.Literal.{Literal}
use Rattle.sat_solver.proofs.LessonLemmas.{empty_core, listed_at, nothing_in}
use Rattle.sat_solver.proofs.solve.resolve.Goals as goal

pub returns-then-is_empty-clause-advance : goal.returns-then-is_empty-clause-advance
returns-then-is_empty-clause-advance g c =
    let cs = (g.S.Store.held c.args.store.now).clauses in
    let empty : length c.lits.result.now ≡ 0 = eqb-true (length c.lits.result.now) 0 (sym c.is_empty.ensures ∙ c.if-is_empty.true) in
    let same : c.in_ok-from_lits.field-0 ≡ c.lits.result.now = c.in_ok-from_lits.ensures ∙ sym (nothing_in c.lits.result.now empty) in
    empty_core cs c.args.question.assumptions.now c.in_ok-from_lits.field-0
    (subst (λ (x : List Literal). Contains cs x) (sym same) (listed_at cs (c.args.number - 1) c.lits.result.now c.lits.ensures))
    (ap length same ∙ empty)
