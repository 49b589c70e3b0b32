use Rattle.std.proofs.Common.{◌≡◌, ℕ, ◌+◌, ◌≤◌, ◌++◌, [], ◌∷◌, None, length, refl, ap, sym, ◌∙◌, subst, arith}
use Rattle.std.proofs.lemmas.List.{length-replicate}
use Rattle.sat_clauses.specs.Literal.{opposite}
use Rattle.sat_clauses.specs.Code.{code_of}
use Rattle.sat_clauses.specs.Assignment.{Assignment, all_free}
use Rattle.sat_clauses.specs.Models.{ClausesBelow}
use Rattle.sat_clauses.specs.Store.{AreExactlyDue}
use Rattle.sat_clauses.specs.StoreRecord.{StoreValue}
use Rattle.sat_clauses.specs.Trail.{assigned_by, IsTrail}
use Rattle.sat_clauses.specs.TrailRecord.{TrailValue}
use Rattle.sat_clauses.proofs.TrailLemmas.{length-assigned_from}
use Rattle.sat_solver.specs.Pass.{IsPassed}
use Rattle.sat_solver.specs.Arena.{AreWatched}
use Rattle.sat_solver.proofs.ArenaLemmas.{can_pass_first, can_pass_second, are_watched, exactly_due, same_passed, same_can_pass}
use Rattle.sat_solver.proofs.arena.ArenaStore.set.Goals as goal

-- as many places as the assignment has
places : (t : TrailValue) (a : Assignment) (vars : ℕ) → a ≡ assigned_by t.vars t.lits → t.vars ≡ vars → vars + 1 ≡ length a
places t a vars e f = sym (ap length e ∙ (length-assigned_from (all_free t.vars) t.lits ∙ (length-replicate (t.vars + 1) None ∙ ap (λ (n : ℕ). n + 1) f)))

pub pass-by_first-requires-clause-lists : goal.pass-by_first-requires-clause-lists
pass-by_first-requires-clause-lists c =
    omega (arith, places c.set.new.self c.assign.result.now c.self.inside.trail.vars c.assign.ensures.value (ap (λ (x : TrailValue). x.vars) c.set.ensures.value), c.self.invariant.lists_first)

pub pass-by_first-requires-clause-can_pass : goal.pass-by_first-requires-clause-can_pass
pass-by_first-requires-clause-can_pass c =
    let s = c.self.inside in
    let vars = s.trail.vars in
    let t = s.trail.lits in
    let l = c.args.lit in
    let trail_is = c.set.ensures.value in
    let last : c.neg-last.result ≡ opposite l = c.neg-last.ensures in
    let a_is : c.assign.result.now ≡ assigned_by vars (t ++ l ∷ []) = c.assign.ensures.value ∙ ap (λ (x : TrailValue). assigned_by x.vars x.lits) trail_is in
    let is_trail : IsTrail vars (t ++ l ∷ []) = subst (λ (x : TrailValue). IsTrail x.vars x.lits) trail_is c.assign.ensures.is_trail in
    let real : 2 ≤ code_of (opposite l) = let r = c.set.ensures.real in omega arith in
    let within : l.var ≤ vars = omega (arith, c.requires.in_range, ap (λ (v : StoreValue). v.vars) c.self.view_is) in
    same_can_pass (assigned_by vars (t ++ l ∷ [])) c.assign.result.now (opposite l) c.neg-last.result s.clauses.clauses s.firsts.homes s.seconds.homes [] c.clear.new.self.items a_is last c.clear.ensures.items
    (can_pass_first vars t l s.clauses.clauses s.firsts.homes s.seconds.homes is_trail real within c.self.invariant.in_range c.self.invariant.places_second c.self.invariant.watched)

pub pass-by_second-requires-clause-lists : goal.pass-by_second-requires-clause-lists
pass-by_second-requires-clause-lists c =
    omega (arith, places c.set.new.self c.assign-2.result.now c.self.inside.trail.vars c.assign-2.ensures.value (ap (λ (x : TrailValue). x.vars) c.set.ensures.value), c.self.invariant.lists_second)

pub pass-by_second-requires-clause-can_pass : goal.pass-by_second-requires-clause-can_pass
pass-by_second-requires-clause-can_pass c =
    let s = c.self.inside in
    let vars = s.trail.vars in
    let t = s.trail.lits in
    let l = c.args.lit in
    let cs = s.clauses.clauses in
    let fs = s.firsts.homes in
    let ss = s.seconds.homes in
    let trail_is = c.set.ensures.value in
    let last : c.neg-last.result ≡ opposite l = c.neg-last.ensures in
    let a_is : c.assign.result.now ≡ assigned_by vars (t ++ l ∷ []) = c.assign.ensures.value ∙ ap (λ (x : TrailValue). assigned_by x.vars x.lits) trail_is in
    let is_trail : IsTrail vars (t ++ l ∷ []) = subst (λ (x : TrailValue). IsTrail x.vars x.lits) trail_is c.assign.ensures.is_trail in
    let real : 2 ≤ code_of (opposite l) = let r = c.set.ensures.real in omega arith in
    let within : l.var ≤ vars = omega (arith, c.requires.in_range, ap (λ (v : StoreValue). v.vars) c.self.view_is) in
    let fs' = c.pass-by_first.new.mine.homes in
    let found = c.pass-by_first.new.found.items in
    let first : IsPassed (assigned_by vars (t ++ l ∷ [])) (opposite l) cs ss fs fs' [] found =
    same_passed c.assign.result.now (assigned_by vars (t ++ l ∷ [])) c.neg-last.result (opposite l) cs ss fs fs' c.clear.new.self.items [] found a_is last c.clear.ensures.items c.pass-by_first.ensures.passed in
    let a2_is : c.assign-2.result.now ≡ assigned_by vars (t ++ l ∷ []) = c.assign-2.ensures.value ∙ ap (λ (x : TrailValue). assigned_by x.vars x.lits) trail_is in
    same_can_pass (assigned_by vars (t ++ l ∷ [])) c.assign-2.result.now (opposite l) c.neg-last.result cs ss fs' found found a2_is last refl
    (can_pass_second vars t l cs fs ss fs' found is_trail real c.self.invariant.watched first within c.self.invariant.in_range c.self.invariant.places_first)

pub invariant_of-self : goal.invariant_of-self
invariant_of-self c =
    let s = c.self.inside in
    let vars = s.trail.vars in
    let t = s.trail.lits in
    let l = c.args.lit in
    let cs = s.clauses.clauses in
    let fs = s.firsts.homes in
    let ss = s.seconds.homes in
    let trail_is = c.set.ensures.value in
    let last : c.neg-last.result ≡ opposite l = c.neg-last.ensures in
    let a_is : c.assign.result.now ≡ assigned_by vars (t ++ l ∷ []) = c.assign.ensures.value ∙ ap (λ (x : TrailValue). assigned_by x.vars x.lits) trail_is in
    let is_trail : IsTrail vars (t ++ l ∷ []) = subst (λ (x : TrailValue). IsTrail x.vars x.lits) trail_is c.assign.ensures.is_trail in
    let real : 2 ≤ code_of (opposite l) = let r = c.set.ensures.real in omega arith in
    let fs' = c.pass-by_first.new.mine.homes in
    let found = c.pass-by_first.new.found.items in
    let first : IsPassed (assigned_by vars (t ++ l ∷ [])) (opposite l) cs ss fs fs' [] found =
    same_passed c.assign.result.now (assigned_by vars (t ++ l ∷ [])) c.neg-last.result (opposite l) cs ss fs fs' c.clear.new.self.items [] found a_is last c.clear.ensures.items c.pass-by_first.ensures.passed in
    let a2_is : c.assign-2.result.now ≡ assigned_by vars (t ++ l ∷ []) = c.assign-2.ensures.value ∙ ap (λ (x : TrailValue). assigned_by x.vars x.lits) trail_is in
    let ss' = c.pass-by_second.new.mine.homes in
    let found' = c.pass-by_second.new.found.items in
    let second : IsPassed (assigned_by vars (t ++ l ∷ [])) (opposite l) cs fs' ss ss' found found' =
    same_passed c.assign-2.result.now (assigned_by vars (t ++ l ∷ [])) c.neg-last.result (opposite l) cs fs' ss ss' found found found' a2_is last refl c.pass-by_second.ensures.passed in
    let same : c.set.new.self.vars ≡ vars = ap (λ (x : TrailValue). x.vars) trail_is in
    record {
      in_range = subst (λ (n : ℕ). ClausesBelow (n + 1) cs) (sym same) c.self.invariant.in_range;
      lists_first = omega (arith, same, c.pass-by_first.ensures.lists, c.self.invariant.lists_first);
      lists_second = omega (arith, same, c.pass-by_second.ensures.lists, c.self.invariant.lists_second);
      places_first = omega (arith, first.places, c.self.invariant.places_first);
      places_second = omega (arith, second.places, c.self.invariant.places_second);
      watched = subst (λ (x : TrailValue). AreWatched x.vars x.lits cs fs' ss') (sym trail_is) (are_watched vars t l cs fs ss fs' found is_trail real c.self.invariant.watched first ss' found' second);
      room = omega (arith, first.places, second.places, c.pass-by_first.ensures.room, c.pass-by_second.ensures.room, c.clear.ensures.capacity, c.self.invariant.room);
    }

pub returns-clause-found : goal.returns-clause-found
returns-clause-found c =
    let s = c.self.inside in
    let vars = s.trail.vars in
    let t = s.trail.lits in
    let l = c.args.lit in
    let cs = s.clauses.clauses in
    let fs = s.firsts.homes in
    let ss = s.seconds.homes in
    let trail_is = c.set.ensures.value in
    let last : c.neg-last.result ≡ opposite l = c.neg-last.ensures in
    let a_is : c.assign.result.now ≡ assigned_by vars (t ++ l ∷ []) = c.assign.ensures.value ∙ ap (λ (x : TrailValue). assigned_by x.vars x.lits) trail_is in
    let is_trail : IsTrail vars (t ++ l ∷ []) = subst (λ (x : TrailValue). IsTrail x.vars x.lits) trail_is c.assign.ensures.is_trail in
    let real : 2 ≤ code_of (opposite l) = let r = c.set.ensures.real in omega arith in
    let fs' = c.pass-by_first.new.mine.homes in
    let found = c.pass-by_first.new.found.items in
    let first : IsPassed (assigned_by vars (t ++ l ∷ [])) (opposite l) cs ss fs fs' [] found =
    same_passed c.assign.result.now (assigned_by vars (t ++ l ∷ [])) c.neg-last.result (opposite l) cs ss fs fs' c.clear.new.self.items [] found a_is last c.clear.ensures.items c.pass-by_first.ensures.passed in
    let a2_is : c.assign-2.result.now ≡ assigned_by vars (t ++ l ∷ []) = c.assign-2.ensures.value ∙ ap (λ (x : TrailValue). assigned_by x.vars x.lits) trail_is in
    let ss' = c.pass-by_second.new.mine.homes in
    let found' = c.pass-by_second.new.found.items in
    let second : IsPassed (assigned_by vars (t ++ l ∷ [])) (opposite l) cs fs' ss ss' found found' =
    same_passed c.assign-2.result.now (assigned_by vars (t ++ l ∷ [])) c.neg-last.result (opposite l) cs fs' ss ss' found found found' a2_is last refl c.pass-by_second.ensures.passed in
    subst (λ (x : TrailValue). AreExactlyDue cs (assigned_by x.vars x.lits) (opposite l) found') (sym trail_is) (exactly_due vars t l cs fs ss fs' found is_trail real c.self.invariant.watched first ss' found' second)
