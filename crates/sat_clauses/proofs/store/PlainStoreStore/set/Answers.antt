use Rattle.std.proofs.Common.{◌≡◌, ℕ, ◌+◌, None, length, sym, ap, ◌∙◌, subst}
use Rattle.std.proofs.lemmas.List.{length-replicate}
use Rattle.sat_clauses.specs.Literal.{opposite}
use Rattle.sat_clauses.specs.Assignment.{all_free}
use Rattle.sat_clauses.specs.Models.{ClausesBelow}
use Rattle.sat_clauses.specs.TrailRecord.{TrailValue}
use Rattle.sat_clauses.specs.Trail.{assigned_by}
use Rattle.sat_clauses.specs.Store.{AreExactlyDue, due_from}
use Rattle.sat_clauses.proofs.TrailLemmas.{length-assigned_from}
use Rattle.sat_clauses.proofs.StoreLemmas.{due_exactly}
use Rattle.sat_clauses.proofs.store.PlainStoreStore.set.Goals as goal

pub find_due-requires-clause-in_range : goal.find_due-requires-clause-in_range
find_due-requires-clause-in_range c =
    let t = c.set.new.self in
    let places : c.self.inside.trail.vars + 1 ≡ length c.assign.result.now =
    sym (ap length c.assign.ensures.value ∙ (length-assigned_from (all_free t.vars) t.lits ∙ (length-replicate (t.vars + 1) None ∙ ap (λ (t : TrailValue). t.vars + 1) c.set.ensures.value))) in
    subst (λ (n : ℕ). ClausesBelow n c.self.inside.clauses) places c.self.invariant.in_range

pub returns-clause-found : goal.returns-clause-found
returns-clause-found c =
    let t = c.set.new.self in
    let a = assigned_by t.vars t.lits in
    let is : c.find_due.new.found.items ≡ due_from a (opposite c.args.lit) 1 c.self.inside.clauses = cc in
    subst (AreExactlyDue c.self.inside.clauses a (opposite c.args.lit)) (sym is) (due_exactly c.self.inside.clauses a (opposite c.args.lit))
