use Rattle.std.proofs.Common.{◌≤◌, ◌<◌, ◌+◌, ◌*◌, ℕ, List, All, sym, subst, arith, slice_index_or}
use Rattle.sat_clauses.specs.Literal.{Literal}
use Rattle.cut_frames.specs.OwnVariables.{IsKept, IsPlace}
use Rattle.cut_frames.specs.GuardedSearch.{places_of}
use Rattle.cut_frames.specs.Levels.{frames_of}
use Rattle.cut_frames.proofs.ApartLaws.{more_kept}
use Rattle.cut_frames.proofs.QueryLemmas.{bits_up_to}
use Rattle.cut_frames.proofs.bad.add_bad.Goals as goal

pub add_bad-requires-clause-up_to : goal.add_bad-requires-clause-up_to
add_bad-requires-clause-up_to c = bits_up_to c.args.system.now c.args.kept.now.places c.args.clause c.requires.kept.places c.requires.clause

pub returns-clause-kept : goal.returns-clause-kept
returns-clause-kept c =
    let system = c.args.system.now in
    let frames = frames_of c.args.frames.now in
    let places : All (IsPlace (places_of system)) c.args.clause = λ k d lt. (
      (c.requires.clause k d lt).0,
      low (slice_index_or c.args.clause k d).var system.state_bits system.input_bits (c.requires.clause k d lt).1,
    ) in
    subst (λ (a : List (List Literal)). IsKept system a frames c.add_bad.new.self) (sym c.in_ok-push.ensures.ok)
    (more_kept system c.args.asked.now c.args.clause frames c.args.kept.now c.add_bad.new.self c.in_ok-add_bad.ensures places c.requires.kept)
  where
    low : (x b u : ℕ) → x < b + 2 → x ≤ 2 * b + u + 1
    low x b u lt = omega (arith, lt)
