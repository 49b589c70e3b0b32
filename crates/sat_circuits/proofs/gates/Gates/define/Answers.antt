use Rattle.std.proofs.Common.{◌+◌, ◌++◌, ℕ, map, take, drop, ap, sym, ◌∙◌, arith}
use Rattle.std.proofs.lemmas.List.{map-append, take-append-drop, take_all}
use Rattle.sat_circuits.specs.Circuit.{Circuit, with_gate}
use Rattle.sat_circuits.proofs.Extension.{OnErr-from, StopsWithin-front}
use Rattle.sat_circuits.proofs.gates.Gates.define.Goals as goal

pub returns-in_err-append-clause-err : goal.returns-in_err-append-clause-err
returns-in_err-append-clause-err c =
    let i : ℕ = c.loop-clause.clause-index in
    let cs : _ = c.args.clauses.now in
    OnErr-from _ _
    (StopsWithin-front c.args.self.now c.append.new.self (map (λ x. x.now) (take i cs)) (map (λ x. x.now) (drop i cs)) _
    (ap (λ (s : Circuit). s.clauses) (c.in_err-append.ensures.err ∙ c.loop-clause.invariant))
    (sym (map-append (λ x. x.now) (take i cs) (drop i cs)) ∙ ap (map (λ x. x.now)) (take-append-drop i cs)))

pub returns-clause-state : goal.returns-clause-state
unfolding with_gate
returns-clause-state c =
    let s : Circuit = c.args.self.now in
    let cs : _ = c.args.clauses.now in
    ap (λ (t : Circuit). record t { free = t.free + 1 })
    (c.self.view_is ∙ c.loop-clause.invariant
    ∙ ap (λ xs. record s { clauses = s.clauses ++ map (λ x. x.now) xs }) (take_all c.loop-clause.clause-index cs (omega arith)))
