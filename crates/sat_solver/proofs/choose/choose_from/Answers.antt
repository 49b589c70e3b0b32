use Rattle.std.proofs.Common.{◌≡◌, ◌∙◌, IsTrue, true, false, refl, sym, subst}
use Rattle.sat_adviser.proofs.PanelLemmas.{judged_after}
use Rattle.sat_solver.specs.Choice.{IsTaken}
use Rattle.sat_solver.proofs.choose.choose_from.Goals as goal

pub returns-in-Some-clause-judged : goal.returns-in-Some-clause-judged
returns-in-Some-clause-judged g c =
    let last : c.judge.new.self.last ≡ c.pick-code.result = c.judge.ensures.last ∙ c.pick-code.ensures.last in
    let present : c.pick-code.new.self.present ≡ c.args.panel.now.present = rw c.pick-code.ensures.same refl in
    let misses : c.pick-code.new.self.misses ≡ c.args.panel.now.misses = rw c.pick-code.ensures.same refl in
    let taken : IsTaken c.args.assign.now c.judge.new.self.last c.in-Some.lit =
    subst (λ n. IsTaken c.args.assign.now n c.in-Some.lit) (sym last) c.in-Some.ensures.some in
    judged_after _ (IsTrue true) (IsTaken c.args.assign.now c.judge.new.self.last c.in-Some.lit)
    c.pick-code.new.self.advisers.items c.pick-code.new.self.present c.pick-code.new.self.misses
    c.judge.new.self.advisers.items c.judge.new.self.present c.judge.new.self.misses _ _ _
    c.pick-code.ensures.asks present misses (λ is. taken) (λ is. refl) c.judge.ensures.judged

pub returns-in-None-clause-judged : goal.returns-in-None-clause-judged
returns-in-None-clause-judged g c =
    let last : c.judge-in-None.new.self.last ≡ c.pick-code.result = c.judge-in-None.ensures.last ∙ c.pick-code.ensures.last in
    let present : c.pick-code.new.self.present ≡ c.args.panel.now.present = rw c.pick-code.ensures.same refl in
    let misses : c.pick-code.new.self.misses ≡ c.args.panel.now.misses = rw c.pick-code.ensures.same refl in
    let no_truth : ¬ (IsTrue false) = (λ is. cc) in
    let not_taken : ¬ (IsTaken c.args.assign.now c.judge-in-None.new.self.last c.fallback.result) =
    (λ is. c.in-None.ensures.none c.fallback.result (subst (λ n. IsTaken c.args.assign.now n c.fallback.result) last is)) in
    judged_after _ (IsTrue false) (IsTaken c.args.assign.now c.judge-in-None.new.self.last c.fallback.result)
    c.pick-code.new.self.advisers.items c.pick-code.new.self.present c.pick-code.new.self.misses
    c.judge-in-None.new.self.advisers.items c.judge-in-None.new.self.present c.judge-in-None.new.self.misses _ _ _
    c.pick-code.ensures.asks present misses (λ is. absurd (no_truth is)) (λ is. absurd (not_taken is))
    c.judge-in-None.ensures.judged
