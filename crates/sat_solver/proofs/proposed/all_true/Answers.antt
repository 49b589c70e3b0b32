use Rattle.std.proofs.Common.{◌≡◌, ◌≤◌, ℕ, ⊎_elim, IsTrue, [], length, false, true, get_or, sym, subst, arith}
use Rattle.std.proofs.lemmas.Bool.{cases_lt}
use Rattle.sat_solver.specs.Proposals.{HasTrue}
use Rattle.sat_solver.proofs.ProposedLemmas.{all_true_from}
use Rattle.sat_solver.proofs.proposed.all_true.Goals as goal

pub loop-i-preserved : goal.loop-i-preserved
loop-i-preserved c = λ k lt not_learned.
    let is : IsTrue c.is_settled.result = grind arith in
    let marks = c.args.marks.now in
    let cs = c.args.store.now.clauses in
    ⊎_elim
    (λ less. c.loop-i.invariant k less not_learned)
    (λ over.
    let same : k ≡ c.loop-i.i = omega (arith, lt, over) in
    subst (λ (j : ℕ). HasTrue c.args.assign.now (get_or cs j [])) (sym same)
    (c.is_settled.ensures is (subst (λ (j : ℕ). get_or marks j true ≡ false) same not_learned)))
    (cases_lt k c.loop-i.i)

pub returns : goal.returns
returns c =
    let cs = c.args.store.now.clauses in
    let over : length cs ≤ c.loop-i.i = omega (arith, c.count-count.ensures) in
    λ e. all_true_from c.args.assign.now cs c.args.marks.now (λ k lt is. c.loop-i.invariant k (omega (arith, lt, over)) is)
