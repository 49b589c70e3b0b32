use Rattle.std.proofs.Common.{◌≡◌, ◌≢◌, ◌+◌, Bool, Option, Some, true, false, None, length, ap, sym, ◌∙◌, subst, arith}
use Rattle.std.proofs.lemmas.List.{length-replicate}
use Rattle.sat_clauses.specs.Assignment.{Assignment, all_free, value_of}
use Rattle.sat_clauses.proofs.TrailLemmas.{length-assigned_from}
use Rattle.sat_solver.specs.Pick.{IsRank}
use Rattle.sat_solver.proofs.PickLemmas.{rank_open}
use Rattle.sat_solver.proofs.pick.rank.Goals as goal

none_differs : ◌≡◌ {A = Option Bool} None (Some false) → ⊥
none_differs e = cc

true_differs : ◌≡◌ {A = Option Bool} (Some true) (Some false) → ⊥
true_differs e = cc

pub value-requires : goal.value-requires
value-requires c =
    let t = c.args.trail.now in
    omega (arith, c.requires, ap length c.assign.ensures.value, length-assigned_from (all_free t.vars) t.lits, length-replicate {A = Option Bool} (t.vars + 1) None)

pub returns-in-None : goal.returns-in-None
returns-in-None c =
    let t = c.args.trail.now in
    let m = c.args.lit in
    let is : value_of c.assign.result.now m ≡ None = sym c.value.ensures ∙ c.in-None.is in
    let ne : value_of c.assign.result.now m ≢ Some false = λ e. none_differs (sym is ∙ e) in
    subst (IsRank t.vars t.lits m) (sym (ap length c.lits.ensures.value))
    (rank_open t.vars t.lits m c.assign.ensures.is_trail (subst (λ (a : Assignment). value_of a m ≢ Some false) c.assign.ensures.value ne))

pub returns-then-is_true : goal.returns-then-is_true
returns-then-is_true c =
    let t = c.args.trail.now in
    let m = c.args.lit in
    let is : value_of c.assign.result.now m ≡ Some true = sym c.value.ensures ∙ (c.in-Some.is ∙ ap Some c.if-is_true.true) in
    let ne : value_of c.assign.result.now m ≢ Some false = λ e. true_differs (sym is ∙ e) in
    subst (IsRank t.vars t.lits m) (sym (ap length c.lits-then-is_true.ensures.value))
    (rank_open t.vars t.lits m c.assign.ensures.is_trail (subst (λ (a : Assignment). value_of a m ≢ Some false) c.assign.ensures.value ne))
