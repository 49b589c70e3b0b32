use Rattle.std.proofs.Common.{◌≤◌, ◌<◌, ◌+◌, ◌*◌, ◌^◌, ℕ, arith, slice_index_or}
use Rattle.cut_frames.specs.Problem.{IsBadFound}
use Rattle.cut_frames.proofs.PartLemmas.{some_of}
use Rattle.cut_frames.proofs.shrink.halve.Goals as goal

low_var : (x b u : ℕ) → 2 ≤ x → x < b + 2 → 2 * b + u + 1 < 2 ^ 31 → (1 ≤ x) × (x < 2 ^ 62)
low_var x b u le lt fit = (omega (arith, le), omega (arith, lt, fit))

pub count_true-requires : goal.count_true-requires
count_true-requires g c = λ k d lt. low_var (slice_index_or c.args.problem.history.now k d).var c.args.problem.system.now.state_bits c.args.problem.system.now.input_bits (c.requires.problem.history k d lt).0 (c.requires.problem.history k d lt).1 c.requires.problem.fit.bits

pub returns-then-size-lt2-clause-values : goal.returns-then-size-lt2-clause-values
returns-then-size-lt2-clause-values g c = c.requires.values

pub returns-then-size-lt2-clause-kept : goal.returns-then-size-lt2-clause-kept
returns-then-size-lt2-clause-kept g c = c.requires.kept

pub returns-in-Some-clause-values : goal.returns-in-Some-clause-values
returns-in-Some-clause-values g c = some_of c.in_ok-values.field-0 c.in-Some.values (IsBadFound c.args.problem c.args.frames.now) c.in-Some.is c.in_ok-values.ensures.values

pub returns-in-Some-clause-kept : goal.returns-in-Some-clause-kept
returns-in-Some-clause-kept g c = c.in_ok-values.ensures.kept

pub returns-in-None-clause-values : goal.returns-in-None-clause-values
returns-in-None-clause-values g c = c.requires.values

pub returns-in-None-clause-kept : goal.returns-in-None-clause-kept
returns-in-None-clause-kept g c = c.in_ok-values.ensures.kept
