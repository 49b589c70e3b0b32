use Rattle.std.proofs.Common.{◌≡◌, ◌+◌, ◌-◌, List, length, reverse, ap, ◌∙◌, arith}
use Rattle.std.proofs.lemmas.List.{take_all}
use Rattle.sat_solver.specs.declared.trail.TrailEntry.{TrailEntry}
use Rattle.sat_solver.specs.Trail.{below}
use Rattle.sat_solver.specs.AnalysisRecord.{AnalysisValue}
use Rattle.sat_solver.specs.Analysis.{analysed, begun, visited}
use Rattle.sat_solver.proofs.AnalysisLemmas.{length-visited, analysed_step, length-begun}
use Rattle.sat_solver.proofs.TrailLemmas.{entry_at}
use Rattle.sat_solver.proofs.analysis.analyse.Goals as goal

pub loop-i-init : goal.loop-i-init
loop-i-init g c =
    let cs = (g.S.Store.held c.args.clauses.now).clauses in
    let n = length c.args.trail.now.values in
    let xs = c.args.trail.now.entries in
    let places : c.vars.result + 1 ≡ n = c.vars.ensures.value ∙ ap length c.assign.ensures in
    let is : c.in_ok-analysis.analysis ≡ begun n cs c.args.conflict = c.in_ok-analysis.ensures ∙ ap (λ k. begun k cs c.args.conflict) places in
    record {
      within = omega arith;
      marks = ap (λ (s : AnalysisValue). length s.marks) is ∙ length-begun n cs c.args.conflict;
      rest = ap (λ s. analysed cs c.args.fully s (below xs c.len-i.result)) is
          ∙ ap (λ (ys : List TrailEntry). analysed cs c.args.fully (begun n cs c.args.conflict) (reverse ys)) (take_all c.len-i.result xs (omega arith));
    }

pub visit-requires-clause-in_range : goal.visit-requires-clause-in_range
visit-requires-clause-in_range g c = λ k d lt. omega (arith, c.requires.in_range k d lt, c.loop-i.invariant.marks)

pub loop-i-preserved : goal.loop-i-preserved
loop-i-preserved g c =
    let cs = (g.S.Store.held c.args.clauses.now).clauses in
    let f = c.args.fully in
    let xs = c.args.trail.now.entries in
    let i = c.loop-i.i - 1 in
    let at = entry_at xs i (omega (arith, c.loop-i.invariant.within, c.loop-i-test.true)) in
    let is : c.visit.new.self ≡ visited cs f c.loop-i.analysis at.0 (below xs i) = c.in_ok-visit.ensures at.0 at.1 in
    let back : i + 1 ≡ c.loop-i.i = omega (arith, c.loop-i-test.true) in
    record {
      within = omega (arith, c.loop-i.invariant.within);
      marks = ap (λ (s : AnalysisValue). length s.marks) is ∙ (length-visited cs f c.loop-i.analysis at.0 (below xs i) ∙ c.loop-i.invariant.marks);
      rest = analysed_step cs f c.loop-i.analysis c.visit.new.self xs i at.0 at.1 is
          ∙ (ap (λ n. analysed cs f c.loop-i.analysis (below xs n)) back ∙ c.loop-i.invariant.rest);
    }
