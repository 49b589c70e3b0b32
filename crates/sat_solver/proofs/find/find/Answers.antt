use Rattle.std.proofs.Common.{◌≤◌, All, length, sym, ◌∙◌, subst, arith}
use Rattle.std.proofs.lemmas.List.{take_all}
use Rattle.std.proofs.lemmas.List.Elements.{All-more}
use Rattle.std.proofs.lemmas.Option.{get_or_from_slice_get}
use Rattle.sat_solver.specs.ClauseFindings.{IsTrueIn}
use Rattle.sat_solver.proofs.VerdictLemmas.{only_true}
use Rattle.sat_solver.proofs.find.find.Goals as goal

pub loop-i-preserved : goal.loop-i-preserved
loop-i-preserved g c =
    let clauses = (g.S.Store.held c.args.clauses.now).clauses in
    let i = c.loop-i.i in
    let here = get_or_from_slice_get clauses i c.lits.result.now c.lits.result.now c.lits.ensures in
    record {
      within = omega arith;
      all_true = All-more (IsTrueIn c.args.assign.now) clauses i c.lits.result.now (omega arith) c.loop-i.invariant.all_true
          (subst (IsTrueIn c.args.assign.now) (sym here)
          (sym c.decided.ensures.value ∙ only_true c.decided.result c.in_default.not-False c.in_default.not-Unit c.decided.ensures.known));
    }

pub returns : goal.returns
returns g c =
    let over : length (g.S.Store.held c.args.clauses.now).clauses ≤ c.loop-i.i = omega arith in
    subst (All (IsTrueIn c.args.assign.now)) (take_all c.loop-i.i (g.S.Store.held c.args.clauses.now).clauses over) c.loop-i.invariant.all_true
