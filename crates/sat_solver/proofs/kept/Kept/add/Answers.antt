use Rattle.std.proofs.Common.{◌≡◌, ◌++◌, ◌∷◌, [], false, List, Bool, All, sym, subst}
use Rattle.sat_clauses.specs.StoreRecord.{StoreValue}
use Rattle.sat_clauses.specs.Derivation.{IsUpTo}
use Rattle.sat_solver.specs.KeptRecord.{KeptValue}
use Rattle.sat_solver.specs.Trail.{IsIdle}
use Rattle.sat_solver.specs.LearnedClauses.{IsKept}
use Rattle.sat_solver.proofs.KeptLemmas.{kept_from_search, kept_added}
use Rattle.sat_solver.proofs.kept.Kept.add.Goals as goal

pub invariant_of-self-2 : goal.invariant_of-self-2
invariant_of-self-2 c =
    let s = c.self.inside.store in
    let ms = c.self.inside.marks.items in
    let old = (kept_from_search c.self.inside.failed s ms c.self.inside.trail c.self.invariant c.if-self.false).0 in
    let in_range : All (IsUpTo s.vars) c.args.lits.now = subst (λ (k : KeptValue). All (IsUpTo k.vars) c.args.lits.now) (sym c.self.view_is) c.requires in
    let marks : c.push-2.new.self.items ≡ ms ++ false ∷ [] = c.in_ok-push-2.ensures.items in
    let idle = (kept_from_search c.self.inside.failed s ms c.self.inside.trail c.self.invariant c.if-self.false).1 in
    subst (λ (x : StoreValue). IsKept x c.push-2.new.self.items × IsIdle x.vars c.self.inside.trail) (sym c.in_ok-push.ensures.ok)
    (subst (λ (x : List Bool). IsKept (record s { clauses = s.clauses ++ c.args.lits.now ∷ []; found = [] }) x × IsIdle s.vars c.self.inside.trail) (sym marks)
    (kept_added s ms c.args.lits.now in_range old, idle))
