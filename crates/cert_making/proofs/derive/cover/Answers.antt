use Rattle.std.proofs.Common.{◌≡◌, ◌∙◌, Bool, true, false, List, refl, ap, sym, subst}
use Rattle.std.specs.Prelude.{All}
use Rattle.sat_clauses.specs.Hints.{HasNoOpposites}
use Rattle.sat_clauses.specs.Derivation.{IsUpTo}
use Rattle.sat_solver.specs.LearnedClauses.{added_of, IsAnswer}
use Rattle.cert_laws.specs.Derivations.{asked}
use Rattle.sat_clauses.specs.Literal.{Literal}
use Rattle.sat_clauses.specs.Assignment.{Assignment}
use Rattle.sat_solver.specs.KeptRecord.{KeptValue}
use Rattle.sat_solver.specs.declared.solve.Verdict.TheVariants.{Sat, Unsat}
use Rattle.cert_making.proofs.DeriveLemmas.{can_be_asked, further, follows_then}
use Rattle.cert_making.proofs.derive.cover.Goals as goal

pub ask-requires : goal.ask-requires
ask-requires g c =
    let is : c.as_slice.result.now ≡ asked c.args.search.now.kept.vars c.at.result.now =
    c.as_slice.ensures.value ∙ c.in_ok-assumed.ensures ∙ ap (λ n. asked n c.lits.result.now) (c.args.part.now.highest ∙ sym c.requires.before.vars) ∙ ap (asked c.args.search.now.kept.vars) c.lits.ensures in
    let can = can_be_asked c.args.part.now.givens.now c.args.part.now.goals.now c.args.place c.at.result.now c.args.search.now.kept c.args.search.now.recorder c.args.part.now.small c.args.part.now.apart c.at.ensures c.requires.before in
    record {
      can_assume = record {
        in_range = subst (All (IsUpTo c.args.search.now.kept.vars)) (sym is) can.assumptions_in_range;
        apart = subst HasNoOpposites (sym is) can.apart;
      };
    }

pub returns-clause-way : goal.returns-clause-way
returns-clause-way g c refuted =
    let is : c.as_slice.result.now ≡ asked c.args.search.now.kept.vars c.at.result.now =
    c.as_slice.ensures.value ∙ c.in_ok-assumed.ensures ∙ ap (λ n. asked n c.lits.result.now) (c.args.part.now.highest ∙ sym c.requires.before.vars) ∙ ap (asked c.args.search.now.kept.vars) c.lits.ensures in
    let old = c.args.search.now.kept in
    let core : (core : List Literal) × (c.in_ok-verdict.verdict ≡ Unsat core) = c.is_refuted.ensures.refuted refuted in
    let cored = subst (λ b. IsAnswer b old.vars (added_of old.clauses old.marks) c.ask.new.self.kept.clauses c.as_slice.result.now c.in_ok-verdict.verdict) c.requires.cores c.in_ok-verdict.ensures.answer in
    further c.args.part.now.givens.now c.args.part.now.goals.now c.args.place c.at.result.now old c.args.search.now.recorder c.args.part.now.small c.args.part.now.apart c.at.ensures c.requires.before
    c.ask.new.self.kept c.ask.new.self.recorder core.0
    (subst (IsAnswer true old.vars (added_of old.clauses old.marks) c.ask.new.self.kept.clauses (asked old.vars c.at.result.now)) core.1
    (subst (λ lits. IsAnswer true old.vars (added_of old.clauses old.marks) c.ask.new.self.kept.clauses lits c.in_ok-verdict.verdict) is cored)) c.in_ok-verdict.ensures.learned c.in_ok-verdict.ensures.vars

pub returns-clause-follows : goal.returns-clause-follows
returns-clause-follows g c follow = by_answer c.is_refuted.result refl
  where
    old : KeptValue
    old = c.args.search.now.kept

    by_answer : (b : Bool) → c.is_refuted.result ≡ b → b ≡ true
    by_answer true e = refl
    by_answer false e =
        let is : c.as_slice.result.now ≡ asked c.args.search.now.kept.vars c.at.result.now =
        c.as_slice.ensures.value ∙ c.in_ok-assumed.ensures ∙ ap (λ n. asked n c.lits.result.now) (c.args.part.now.highest ∙ sym c.requires.before.vars) ∙ ap (asked c.args.search.now.kept.vars) c.lits.ensures in
        let found : (values : Assignment) × (c.in_ok-verdict.verdict ≡ Sat values) = c.is_refuted.ensures.solved e in
        let cored = subst (λ b. IsAnswer b old.vars (added_of old.clauses old.marks) c.ask.new.self.kept.clauses c.as_slice.result.now c.in_ok-verdict.verdict) c.requires.cores c.in_ok-verdict.ensures.answer in
        absurd (follows_then c.args.part.now.givens.now c.args.part.now.goals.now c.args.place c.at.result.now old c.args.search.now.recorder c.args.part.now.small c.args.part.now.apart c.at.ensures c.requires.before
        c.ask.new.self.kept found.0
        (subst (IsAnswer true old.vars (added_of old.clauses old.marks) c.ask.new.self.kept.clauses (asked old.vars c.at.result.now)) found.1
        (subst (λ lits. IsAnswer true old.vars (added_of old.clauses old.marks) c.ask.new.self.kept.clauses lits c.in_ok-verdict.verdict) is cored)) follow)
