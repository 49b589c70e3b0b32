use Rattle.std.proofs.Common.{◌≡◌, inl, inr, ◌++◌, [], ◌∷◌, refl, is_ok, sym, ap, ◌∙◌, subst, arith}
use Rattle.std.proofs.lemmas.Bool.{cond-true, cond-false, false≢true}
use Rattle.sat_clauses.specs.Code.{code_of}
use Rattle.sat_solver.specs.Pass.{IsMoved, is_hit}
use Rattle.sat_solver.proofs.VisitLemmas.{moved_not_hit, is_hit_kept, moved_from_candidate, all_from_none, other_not_true}
use Rattle.sat_solver.proofs.pass.visit.Goals as goal

pub returns-in-Some-clause-list : goal.returns-in-Some-clause-list
returns-in-Some-clause-list c =
    let moved = moved_from_candidate c.args.assign.now c.args.lits.now c.args.other c.in-Some.next (sym c.candidate.ensures ∙ c.in-Some.is) (omega (arith, c.code.ensures.value, c.code.ensures.positive)) in
    inr (subst (IsMoved c.args.assign.now c.args.lits.now c.args.other) (sym c.code.ensures.value) moved)

pub returns-in-Some-clause-found : goal.returns-in-Some-clause-found
returns-in-Some-clause-found c =
    let moved = moved_from_candidate c.args.assign.now c.args.lits.now c.args.other c.in-Some.next (sym c.candidate.ensures ∙ c.in-Some.is) (omega (arith, c.code.ensures.value, c.code.ensures.positive)) in
    let off = moved_not_hit c.args.assign.now c.args.lits.now c.args.lit c.args.other (code_of c.in-Some.next) c.requires.visit moved in
    sym (cond-false (is_hit c.args.assign.now c.args.lits.now) (c.args.found.now.items ++ c.args.number ∷ []) c.args.found.now.items off)

pub returns-in-None-clause-list : goal.returns-in-None-clause-list
returns-in-None-clause-list c =
    let all = all_from_none c.args.assign.now c.args.lits.now c.args.other (sym c.candidate.ensures ∙ c.in-None.is) in
    inl (refl, inr all)

pub returns-in-None-clause-found : goal.returns-in-None-clause-found
returns-in-None-clause-found c =
    let all = all_from_none c.args.assign.now c.args.lits.now c.args.other (sym c.candidate.ensures ∙ c.in-None.is) in
    let not_true = other_not_true c.args.assign.now c.args.lits.now c.args.lit c.args.other c.requires.visit (λ h. false≢true (sym c.if-is_true.false ∙ c.is_true.ensures.1 h)) in
    let hit = is_hit_kept c.args.assign.now c.args.lits.now c.args.lit c.args.other c.requires.visit not_true all in
    let pushed : c.push.new.self.items ≡ c.args.found.now.items ++ c.args.number ∷ [] = c.push.ensures.items ∙ cond-true _ _ _ (ap is_ok c.unwrap.ensures) in
    pushed ∙ sym (cond-true (is_hit c.args.assign.now c.args.lits.now) (c.args.found.now.items ++ c.args.number ∷ []) c.args.found.now.items hit)
