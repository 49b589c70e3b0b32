use Rattle.std.proofs.Common.{ℕ, List, Bool, All, length, ap, ◌∙◌, subst, arith}
use Rattle.std.specs.Prelude.{Contains}
use Rattle.sat_solver.specs.KeptRecord.{KeptValue}
use Rattle.sat_solver.specs.Trail.{IsIdle}
use Rattle.sat_solver.specs.LearnedClauses.{added_of}
use Rattle.sat_solver.specs.LivingClauses.{IsAlive}
use Rattle.sat_solver.proofs.KeptLemmas.{kept_from_search}
use Rattle.sat_solver.proofs.AliveLemmas.{all_contained, alive_all, kept_alive}
use Rattle.sat_solver.proofs.kept.Kept.forget.Goals as goal

pub still_alive-requires-clause-small : goal.still_alive-requires-clause-small
still_alive-requires-clause-small c = (kept_from_search c.self.inside.failed c.self.inside.store c.self.inside.marks.items c.self.inside.trail c.self.invariant c.if-self.false).0.small

pub still_alive-requires-clause-marked : goal.still_alive-requires-clause-marked
still_alive-requires-clause-marked c = ap (λ (x : List Bool). length x) c.deref.ensures.value ∙ (kept_from_search c.self.inside.failed c.self.inside.store c.self.inside.marks.items c.self.inside.trail c.self.invariant c.if-self.false).0.marked

pub still_alive-requires-clause-in_range : goal.still_alive-requires-clause-in_range
still_alive-requires-clause-in_range c = (kept_from_search c.self.inside.failed c.self.inside.store c.self.inside.marks.items c.self.inside.trail c.self.invariant c.if-self.false).0.in_range

pub returns-clause-added : goal.returns-clause-added
returns-clause-added c =
    let s = c.self.inside.store in
    let ms = c.self.inside.marks.items in
    let stay = c.in_ok-stay.stay in
    let a = subst (λ (x : List Bool). IsAlive s.clauses x (length s.clauses) stay.store.clauses stay.marks.items) c.deref.ensures.value c.in_ok-stay.ensures.stay in
    alive_all s.clauses ms (length s.clauses) stay.store.clauses stay.marks.items (omega arith) a ∙ ap (λ (k : KeptValue). added_of k.clauses k.marks) c.self.view_is

pub invariant_of-self-2 : goal.invariant_of-self-2
invariant_of-self-2 c =
    let s = c.self.inside.store in
    let ms = c.self.inside.marks.items in
    let old = (kept_from_search c.self.inside.failed s ms c.self.inside.trail c.self.invariant c.if-self.false).0 in
    let stay = c.in_ok-stay.stay in
    let a = subst (λ (x : List Bool). IsAlive s.clauses x (length s.clauses) stay.store.clauses stay.marks.items) c.deref.ensures.value c.in_ok-stay.ensures.stay in
    (kept_alive s stay.store ms stay.marks.items old a c.in_ok-stay.ensures.vars c.in_ok-stay.ensures.trail, subst (λ (n : ℕ). IsIdle n c.in_ok-self-inside.field-0) c.vars.ensures.value c.in_ok-self-inside.ensures)

pub returns-then-self-2-clause-among : goal.returns-then-self-2-clause-among
returns-then-self-2-clause-among c = all_contained c.args.self.now.clauses

pub returns-clause-among : goal.returns-clause-among
returns-clause-among c =
    let s = c.self.inside.store in
    let ms = c.self.inside.marks.items in
    let stay = c.in_ok-stay.stay in
    let a = subst (λ (x : List Bool). IsAlive s.clauses x (length s.clauses) stay.store.clauses stay.marks.items) c.deref.ensures.value c.in_ok-stay.ensures.stay in
    subst (λ (k : KeptValue). All (Contains k.clauses) stay.store.clauses) c.self.view_is a.among
