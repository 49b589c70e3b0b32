use Rattle.std.proofs.Common.{◌≡◌, ℕ, ◌+◌, ◌-◌, Bool, false, List, [], ◌∷◌, ◌++◌, Some, sym, ap, subst, arith}
use Rattle.std.specs.Prelude.{slice_get}
use Rattle.sat_clauses.specs.Literal.{Literal}
use Rattle.sat_clauses.specs.StoreRecord.{StoreValue}
use Rattle.sat_solver.specs.LivingClauses.{IsAlive}
use Rattle.sat_solver.proofs.AliveLemmas.{below, alive_less, alive_more}
use Rattle.sat_solver.proofs.alive.Alive.look_at.Goals as goal

pub returns-then-not-stays-clause-so_far : goal.returns-then-not-stays-clause-so_far
returns-then-not-stays-clause-so_far c =
    let goes : c.stays.result ≡ false = grind arith in
    alive_less c.args.store.now.clauses c.args.marks.now c.args.place c.args.self.now.store.clauses c.args.self.now.marks.items c.requires.within c.requires.marked (c.stays.ensures goes) c.requires.so_far

pub push-requires-2 : goal.push-requires-2
push-requires-2 c =
    let cs = c.args.store.now.clauses in
    let at : c.args.place + 1 - 1 ≡ c.args.place = omega arith in
    below c.args.self.now.store.vars c.args.place cs c.lits.result.now (subst (λ (n : ℕ). slice_get cs n ≡ Some c.lits.result.now) at c.lits.ensures) c.requires.in_range

pub returns-clause-so_far : goal.returns-clause-so_far
returns-clause-so_far c =
    let cs = c.args.store.now.clauses in
    let ms = c.args.marks.now in
    let ds = c.args.self.now.store.clauses in
    let ns = c.args.self.now.marks.items in
    let lits = c.lits.result.now in
    let at : c.args.place + 1 - 1 ≡ c.args.place = omega arith in
    let there = subst (λ (n : ℕ). slice_get cs n ≡ Some lits) at c.lits.ensures in
    subst (λ (xs : List (List Literal)). IsAlive cs ms (c.args.place + 1) xs c.push-3.new.self.items) (sym (ap (λ (s : StoreValue). s.clauses) c.in_ok-push-2.ensures.ok))
    (subst (λ (x : List Bool). IsAlive cs ms (c.args.place + 1) (ds ++ lits ∷ []) x) (sym c.in_ok-push-3.ensures.items)
    (alive_more cs ms c.args.place ds ns lits c.is_learned.result there c.requires.marked c.is_learned.ensures c.requires.so_far))
