use Rattle.std.proofs.Common.{◌≡◌, ◌∷◌, [], ◌++◌, Some, true, List, All, Contains, length, reverse, take, refl, sym, ap, ◌∙◌, subst, arith}
use Rattle.std.proofs.lemmas.Option.{same_Some}
use Rattle.std.proofs.lemmas.List.Elements.{All-nil}
use Rattle.sat_clauses.specs.Literal.{Literal, opposite}
use Rattle.sat_clauses.specs.Assignment.{Assignment, value_of, made_true}
use Rattle.sat_clauses.specs.Hints.{truth_at}
use Rattle.sat_clauses.specs.declared.clause.Truth.TheVariants.{Unit as UnitClause}
use Rattle.sat_solver.specs.declared.trail.TrailEntry.{TrailEntry}
use Rattle.sat_solver.specs.declared.trail.Reason.TheVariants.{Assumed}
use Rattle.sat_solver.specs.Trail.{assigned, below}
use Rattle.sat_solver.specs.Search.{IsReason}
use Rattle.sat_solver.specs.Analysis.{analysed, begun}
use Rattle.sat_solver.proofs.TrailLemmas.{length-assigned, reverse_push}
use Rattle.sat_solver.proofs.RunningLemmas.{running_undone}
use Rattle.sat_solver.proofs.StepLemmas.{value_in_range}
use Rattle.sat_solver.proofs.LessonLemmas.{fresh_at, justified_at, free_before, only_implied, refuted_false, core_negated}
use Rattle.sat_solver.proofs.solve.refute.Goals as goal

pub unreachable-requires : goal.unreachable-requires
unreachable-requires g c =
    let t = c.args.trail.now in
    let n = length t.values in
    let i = c.place_of-place.result in
    let e = c.at-reason.result in
    let place = c.place_of-place.ensures.place in
    let same : place.0 ≡ e = same_Some _ _ (sym place.1 ∙ c.at-reason.ensures) in
    let is : e.lit ≡ opposite c.args.assumption = ap (λ (d : TrailEntry). d.lit) (sym same) ∙ (place.2 ∙ c.neg.ensures) in
    only_implied (g.S.Store.held c.args.store.now).clauses c.args.question.assumptions.now n c.args.assumption e (below t.entries i) c.requires.running.apart c.requires.assumed is
    (fresh_at n t.entries i e c.at-reason.ensures c.requires.running.sound.lawful.fresh)
    (justified_at (g.S.Store.held c.args.store.now).clauses c.args.question.assumptions.now n t.entries i e c.at-reason.ensures c.requires.running.sound.justified)
    c.in_default.not-Implied

pub push-requires-clause-running : goal.push-requires-clause-running
push-requires-clause-running g c =
    running_undone c.args.question.assumptions.now (g.S.Store.held c.args.store.now) c.args.trail.now c.undo.new.self c.place_of-place.result c.requires.running
    c.undo.ensures.same_vars c.undo.ensures.entries c.undo.ensures.values c.undo.ensures.followed c.undo.ensures.followed_within

pub push-requires-clause-free : goal.push-requires-clause-free
push-requires-clause-free g c =
    let t = c.args.trail.now in
    let n = length t.values in
    let i = c.place_of-place.result in
    let e = c.at-reason.result in
    let place = c.place_of-place.ensures.place in
    let same : place.0 ≡ e = same_Some _ _ (sym place.1 ∙ c.at-reason.ensures) in
    let is : e.lit ≡ opposite c.args.assumption = ap (λ (d : TrailEntry). d.lit) (sym same) ∙ (place.2 ∙ c.neg.ensures) in
    ap (λ (a : Assignment). value_of a c.args.assumption) c.undo.ensures.values
    ∙ free_before n c.args.assumption e (below t.entries i) is (fresh_at n t.entries i e c.at-reason.ensures c.requires.running.sound.lawful.fresh)

pub take_core-requires-clause-is_false : goal.take_core-requires-clause-is_false
take_core-requires-clause-is_false g c =
    let t = c.args.trail.now in
    let cs = (g.S.Store.held c.args.store.now).clauses in
    let n = length t.values in
    let i = c.place_of-place.result in
    let e = c.at-reason.result in
    let p = c.args.assumption in
    let u = c.push.new.trail in
    let place = c.place_of-place.ensures.place in
    let same : place.0 ≡ e = same_Some _ _ (sym place.1 ∙ c.at-reason.ensures) in
    let is : e.lit ≡ opposite p = ap (λ (d : TrailEntry). d.lit) (sym same) ∙ (place.2 ∙ c.neg.ensures) in
    let fresh = fresh_at n t.entries i e c.at-reason.ensures c.requires.running.sound.lawful.fresh in
    let justified = justified_at cs c.args.question.assumptions.now n t.entries i e c.at-reason.ensures c.requires.running.sound.justified in
    let unit : truth_at cs (assigned n (below t.entries i)) c.in-Implied.number ≡ Some (UnitClause (opposite p)) =
    subst (λ (l : Literal). truth_at cs (assigned n (below t.entries i)) c.in-Implied.number ≡ Some (UnitClause l)) is
    (subst (IsReason cs c.args.question.assumptions.now (assigned n (below t.entries i)) e.lit) c.in-Implied.is justified.1) in
    let inside = value_in_range t.values p _ c.requires.is_false in
    let free = free_before n p e (below t.entries i) is fresh in
    let places : length u.values ≡ n = sym c.in_ok-push.ensures.running.places ∙ c.requires.running.places in
    let turned : reverse u.entries ≡ (record { lit = p; reason = Assumed 0 }) ∷ below t.entries i =
    ap reverse (c.in_ok-push.ensures.entries ∙ ap (λ ys. ys ++ (record { lit = p; reason = Assumed 0 }) ∷ []) c.undo.ensures.entries) ∙ reverse_push (take i t.entries) (record { lit = p; reason = Assumed 0 }) in
    let values : u.values ≡ made_true (assigned n (below t.entries i)) p =
    c.in_ok-push.ensures.running.sound.lawful.matches ∙ (ap (λ m. assigned m (reverse u.entries)) places ∙ ap (assigned n) turned) in
    ap (λ (a : Assignment). truth_at cs a c.in-Implied.number) values
    ∙ refuted_false cs (assigned n (below t.entries i)) c.in-Implied.number p (omega (arith, inside, length-assigned n (below t.entries i))) free unit

pub returns-clause-core : goal.returns-clause-core
returns-clause-core g c =
    let t = c.args.trail.now in
    let cs = (g.S.Store.held c.args.store.now).clauses in
    let n = length t.values in
    let i = c.place_of-place.result in
    let e = c.at-reason.result in
    let p = c.args.assumption in
    let u = c.push.new.trail in
    let d : TrailEntry = record { lit = p; reason = Assumed 0 } in
    let place = c.place_of-place.ensures.place in
    let same : place.0 ≡ e = same_Some _ _ (sym place.1 ∙ c.at-reason.ensures) in
    let is : e.lit ≡ opposite p = ap (λ (x : TrailEntry). x.lit) (sym same) ∙ (place.2 ∙ c.neg.ensures) in
    let fresh = fresh_at n t.entries i e c.at-reason.ensures c.requires.running.sound.lawful.fresh in
    let free = free_before n p e (below t.entries i) is fresh in
    let justified = justified_at cs c.args.question.assumptions.now n t.entries i e c.at-reason.ensures c.requires.running.sound.justified in
    let places : length u.values ≡ n = sym c.in_ok-push.ensures.running.places ∙ c.requires.running.places in
    let turned : reverse u.entries ≡ d ∷ below t.entries i =
    ap reverse (c.in_ok-push.ensures.entries ∙ ap (λ ys. ys ++ d ∷ []) c.undo.ensures.entries) ∙ reverse_push (take i t.entries) d in
    let clause = c.in_ok-core.core in
    let lits : clause ≡ (analysed cs true (begun n cs c.in-Implied.number) (d ∷ below t.entries i)).lits =
    c.in_ok-core.ensures.core.lits
    ∙ (ap (λ m. (analysed cs true (begun m cs c.in-Implied.number) (reverse u.entries)).lits) places
    ∙ ap (λ (ys : List TrailEntry). (analysed cs true (begun n cs c.in-Implied.number) ys).lits) turned) in
    record {
      listed = c.in_ok-core.ensures.core.listed;
      negated = subst (All (λ l. Contains c.args.question.assumptions.now (opposite l))) (sym lits)
          (core_negated cs c.args.question.assumptions.now n p d (below t.entries i) c.in-Implied.number 0 c.requires.assumed refl fresh.0 (justified.0, (c.requires.assumed, All-nil (λ q. value_of (assigned n (below t.entries i)) q ≡ Some true))) free);
      follows = c.in_ok-core.ensures.core.follows;
    }
