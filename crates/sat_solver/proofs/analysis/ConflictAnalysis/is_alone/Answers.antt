use Rattle.std.proofs.Common.{◌≡◌, ◌+◌, ◌-◌, true, false, get_or, sym, ap, ◌∙◌, arith}
use Rattle.sat_solver.specs.AnalysisRecord.{AnalysisValue}
use Rattle.sat_solver.specs.Trail.{below}
use Rattle.sat_solver.specs.Analysis.{is_alone, is_decision}
use Rattle.sat_solver.proofs.AnalysisLemmas.{alone_step, alone_marked, alone_decision}
use Rattle.sat_solver.proofs.analysis.ConflictAnalysis.is_alone.Goals as goal

pub returns-then-has : goal.returns-then-has
returns-then-has c =
    let m = c.args.self.now.marks in
    let xs = c.args.trail.now.entries in
    let i = c.loop-i.i - 1 in
    let e = c.at-entry.result in
    let back : i + 1 ≡ c.loop-i.i = omega (arith, c.loop-i-test.true) in
    let mark : get_or m e.lit.var false ≡ true = ap (λ (s : AnalysisValue). get_or s.marks e.lit.var false) (sym c.self.view_is) ∙ (sym c.has.ensures ∙ c.if-has.true) in
    sym (alone_marked m xs i e c.at-entry.ensures mark) ∙ (ap (λ n. is_alone m (below xs n)) back ∙ c.loop-i.invariant.rest)

pub returns-then-is_decision : goal.returns-then-is_decision
returns-then-is_decision c =
    let m = c.args.self.now.marks in
    let xs = c.args.trail.now.entries in
    let i = c.loop-i.i - 1 in
    let e = c.at-entry.result in
    let back : i + 1 ≡ c.loop-i.i = omega (arith, c.loop-i-test.true) in
    let unmarked : get_or m e.lit.var false ≡ false = ap (λ (s : AnalysisValue). get_or s.marks e.lit.var false) (sym c.self.view_is) ∙ (sym c.has.ensures ∙ c.if-has.false) in
    let decision : is_decision e.reason ≡ true = sym c.is_decision.ensures ∙ c.if-is_decision.true in
    sym (alone_decision m xs i e c.at-entry.ensures unmarked decision) ∙ (ap (λ n. is_alone m (below xs n)) back ∙ c.loop-i.invariant.rest)

pub loop-i-preserved : goal.loop-i-preserved
loop-i-preserved c =
    let m = c.args.self.now.marks in
    let xs = c.args.trail.now.entries in
    let i = c.loop-i.i - 1 in
    let e = c.at-entry.result in
    let back : i + 1 ≡ c.loop-i.i = omega (arith, c.loop-i-test.true) in
    let unmarked : get_or m e.lit.var false ≡ false = ap (λ (s : AnalysisValue). get_or s.marks e.lit.var false) (sym c.self.view_is) ∙ (sym c.has.ensures ∙ c.if-has.false) in
    let implied : is_decision e.reason ≡ false = sym c.is_decision.ensures ∙ c.if-is_decision.false in
    record {
      within = omega (arith, c.loop-i.invariant.within);
      rest = sym (alone_step m xs i e c.at-entry.ensures unmarked implied) ∙ (ap (λ n. is_alone m (below xs n)) back ∙ c.loop-i.invariant.rest);
    }
