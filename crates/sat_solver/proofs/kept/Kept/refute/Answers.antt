use Rattle.std.proofs.Common.{◌≡◌, ℕ, ◌-◌, ◌++◌, true, All, IfSome, length, replicate, sym, ap, ◌∙◌, subst, arith}
use Rattle.sat_clauses.specs.Derivation.{IsUpTo}
use Rattle.sat_solver.specs.KeptRecord.{KeptValue}
use Rattle.sat_solver.specs.Trail.{IsIdle}
use Rattle.sat_solver.specs.LearnedClauses.{HasLearned, IsAnswer, added_of}
use Rattle.sat_solver.proofs.KeptLemmas.{kept_from_search, kept_learned, length_with_steps}
use Rattle.sat_solver.proofs.ProposedLemmas.{refuted_from_right}
use Rattle.sat_solver.specs.declared.solve.Verdict.TheVariants.{Unsat}
use Rattle.sat_solver.proofs.kept.Kept.refute.Goals as goal

pub refuted-requires : goal.refuted-requires
refuted-requires g c =
    let old = (kept_from_search c.self.inside.failed c.self.inside.store c.self.inside.marks.items c.self.inside.trail c.self.invariant c.if-self.false).0 in
    record {
      can_solve = record {
        vars = old.small;
        clauses_in_range = old.in_range;
        assumptions_in_range = subst (λ (k : KeptValue). All (IsUpTo k.vars) c.args.question.assumptions.now) (sym c.self.view_is) c.requires.can_assume.in_range;
        apart = c.requires.can_assume.apart;
      };
    }

pub invariant_of-self-2 : goal.invariant_of-self-2
invariant_of-self-2 g c =
    let s = c.self.inside.store in
    let ms = c.self.inside.marks.items in
    let old = (kept_from_search c.self.inside.failed s ms c.self.inside.trail c.self.invariant c.if-self.false).0 in
    let grows = c.in_ok-told.ensures.grows in
    let missing : c.count.result - length ms ≡ length grows.steps =
    omega (arith, c.count.ensures, ap length grows.clauses, length_with_steps s.clauses grows.steps, old.marked) in
    let marks : c.mark.new.marks.items ≡ ms ++ replicate (length grows.steps) true = c.in_ok-learned.ensures ∙ ap (λ n. ms ++ replicate n true) missing in
    let vars : c.refuted.new.store.vars ≡ s.vars = c.refuted.ensures.vars in (
      kept_learned s c.refuted.new.store ms c.mark.new.marks.items grows.steps old grows.are_steps grows.clauses vars (c.refuted.ensures.trail ∙ old.empty) marks,
      subst (λ (n : ℕ). IsIdle n c.self.inside.trail) (sym vars) (kept_from_search c.self.inside.failed s ms c.self.inside.trail c.self.invariant c.if-self.false).1,
    )

pub returns-clause-answer : goal.returns-clause-answer
returns-clause-answer g c =
    let s = c.self.inside.store in
    let ms = c.self.inside.marks.items in
    let old = (kept_from_search c.self.inside.failed s ms c.self.inside.trail c.self.invariant c.if-self.false).0 in
    subst (λ (k : KeptValue). IfSome c.core_of.result (λ core. IsAnswer c.args.question.cores k.vars (added_of k.clauses k.marks) c.refuted.new.store.clauses c.args.question.assumptions.now (Unsat core))) c.self.view_is
    (refuted_from_right c.args.question.cores s c.refuted.new.store.clauses ms c.args.question.assumptions.now c.core_of.result c.in_ok-told.told old c.core_of.ensures (c.in_ok-told.ensures.right (added_of s.clauses ms)))

pub returns-clause-learned : goal.returns-clause-learned
returns-clause-learned g c =
    let s = c.self.inside.store in
    let ms = c.self.inside.marks.items in
    let old = (kept_from_search c.self.inside.failed s ms c.self.inside.trail c.self.invariant c.if-self.false).0 in
    let grows = c.in_ok-told.ensures.grows in
    let missing : c.count.result - length ms ≡ length grows.steps =
    omega (arith, c.count.ensures, ap length grows.clauses, length_with_steps s.clauses grows.steps, old.marked) in
    let marks : c.mark.new.marks.items ≡ ms ++ replicate (length grows.steps) true = c.in_ok-learned.ensures ∙ ap (λ n. ms ++ replicate n true) missing in
    subst (λ (k : KeptValue). HasLearned k.vars k.clauses k.marks (g.R.Recorder.kept c.args.recorder.now) c.refuted.new.store.clauses c.mark.new.marks.items (g.R.Recorder.kept c.refuted.new.recorder)) c.self.view_is
    (record { steps = grows.steps; are_steps = grows.are_steps; clauses = grows.clauses; marks = marks; kept = grows.kept })

pub returns-clause-vars : goal.returns-clause-vars
returns-clause-vars g c = c.refuted.ensures.vars ∙ ap (λ (k : KeptValue). k.vars) c.self.view_is
