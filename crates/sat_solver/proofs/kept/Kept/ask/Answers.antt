use Rattle.std.proofs.Common.{◌≡◌, ℕ, ◌-◌, ◌++◌, true, List, Bool, All, length, replicate, sym, ap, ◌∙◌, subst, arith}
use Rattle.sat_clauses.specs.Derivation.{IsUpTo}
use Rattle.sat_solver.specs.KeptRecord.{KeptValue}
use Rattle.sat_solver.specs.Trail.{IsIdle}
use Rattle.sat_solver.specs.LearnedClauses.{HasLearned, IsAnswer, added_of}
use Rattle.sat_solver.proofs.KeptLemmas.{kept_from_search, kept_learned, length_with_steps}
use Rattle.sat_solver.specs.Proposals.{IsRight}
use Rattle.sat_solver.proofs.ProposedLemmas.{answer_from_right}
use Rattle.sat_solver.proofs.kept.Kept.ask.Goals as goal

pub answered-requires-clause-can_solve : goal.answered-requires-clause-can_solve
answered-requires-clause-can_solve g c =
    let s = c.self.inside.store in
    let ms = c.self.inside.marks.items in
    let old = (kept_from_search c.self.inside.failed s ms c.self.inside.trail c.self.invariant c.if-self.false).0 in
    record {
      vars = old.small;
      clauses_in_range = old.in_range;
      assumptions_in_range = subst (λ (k : KeptValue). All (IsUpTo k.vars) c.args.question.assumptions.now) (sym c.self.view_is) c.requires.can_assume.in_range;
      apart = c.requires.can_assume.apart;
    }

pub answered-requires-clause-idle : goal.answered-requires-clause-idle
answered-requires-clause-idle g c =
    (kept_from_search c.self.inside.failed c.self.inside.store c.self.inside.marks.items c.self.inside.trail c.self.invariant c.if-self.false).1

pub invariant_of-self-2 : goal.invariant_of-self-2
invariant_of-self-2 g c =
    let s = c.self.inside.store in
    let ms = c.self.inside.marks.items in
    let old = (kept_from_search c.self.inside.failed s ms c.self.inside.trail c.self.invariant c.if-self.false).0 in
    let grows = c.in_ok-verdict.ensures.answered.grows in
    let missing : c.count.result - length ms ≡ length grows.steps =
    omega (arith, c.count.ensures, ap length grows.clauses, length_with_steps s.clauses grows.steps, old.marked) in
    let marks : c.mark.new.marks.items ≡ ms ++ replicate (length grows.steps) true = c.in_ok-learned.ensures ∙ ap (λ n. ms ++ replicate n true) missing in
    let vars : c.answered.new.store.vars ≡ s.vars = c.in_ok-verdict.ensures.answered.vars in (
      kept_learned s c.answered.new.store ms c.mark.new.marks.items grows.steps old grows.are_steps grows.clauses vars c.in_ok-verdict.ensures.answered.trail marks,
      subst (λ (n : ℕ). IsIdle n c.answered.new.trail) (sym vars) c.in_ok-verdict.ensures.answered.idle,
    )

pub returns-clause-answer : goal.returns-clause-answer
returns-clause-answer g c =
    let s = c.self.inside.store in
    let ms = c.self.inside.marks.items in
    let old = (kept_from_search c.self.inside.failed s ms c.self.inside.trail c.self.invariant c.if-self.false).0 in
    subst (λ (k : KeptValue). IsAnswer c.args.question.cores k.vars (added_of k.clauses k.marks) c.answered.new.store.clauses c.args.question.assumptions.now c.in_ok-verdict.verdict) c.self.view_is
    (answer_from_right c.args.question.cores s c.answered.new.store.clauses ms c.args.question.assumptions.now c.in_ok-verdict.verdict old (subst (λ (x : List Bool). IsRight c.args.question.cores s.vars (added_of s.clauses x) s.clauses c.answered.new.store.clauses c.args.question.assumptions.now c.in_ok-verdict.verdict) c.deref.ensures.value c.in_ok-verdict.ensures.answered.right))

pub returns-clause-learned : goal.returns-clause-learned
returns-clause-learned g c =
    let s = c.self.inside.store in
    let ms = c.self.inside.marks.items in
    let old = (kept_from_search c.self.inside.failed s ms c.self.inside.trail c.self.invariant c.if-self.false).0 in
    let grows = c.in_ok-verdict.ensures.answered.grows in
    let missing : c.count.result - length ms ≡ length grows.steps =
    omega (arith, c.count.ensures, ap length grows.clauses, length_with_steps s.clauses grows.steps, old.marked) in
    let marks : c.mark.new.marks.items ≡ ms ++ replicate (length grows.steps) true = c.in_ok-learned.ensures ∙ ap (λ n. ms ++ replicate n true) missing in
    subst (λ (k : KeptValue). HasLearned k.vars k.clauses k.marks (g.R.Recorder.kept c.args.recorder.now) c.answered.new.store.clauses c.mark.new.marks.items (g.R.Recorder.kept c.answered.new.recorder)) c.self.view_is
    (record { steps = grows.steps; are_steps = grows.are_steps; clauses = grows.clauses; marks = marks; kept = grows.kept })

pub returns-clause-vars : goal.returns-clause-vars
returns-clause-vars g c = c.in_ok-verdict.ensures.answered.vars ∙ ap (λ (k : KeptValue). k.vars) c.self.view_is
