use Rattle.std.proofs.Common.{◌≡◌, ◌≤◌, length, reverse}
use Rattle.sat_solver.specs.Trail.{below}
use Rattle.sat_solver.specs.Analysis.{analysed, begun}
use Rattle.sat_solver.proofs.analysis.analyse.Given as goal

-- the entries that are left give the analysis of all
abbrev pub invariant-loop-i : goal.invariant-loop-i
invariant-loop-i g l = record {
  within : l.i ≤ length l.trail.entries;
  marks : length l.analysis.marks ≡ length l.trail.values;
  rest : analysed (g.S.Store.held l.clauses).clauses l.fully l.analysis (below l.trail.entries l.i)
      ≡ analysed (g.S.Store.held l.clauses).clauses l.fully (begun (length l.trail.values) (g.S.Store.held l.clauses).clauses l.conflict) (reverse l.trail.entries);
}

abbrev pub decreases-loop-i : goal.decreases-loop-i
decreases-loop-i g l = l.i
