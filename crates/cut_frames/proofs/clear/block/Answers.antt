use Rattle.std.proofs.Common.{◌≡◌, ◌<◌, ◌≤◌, ℕ, suc, arith, length}
use Rattle.cut_frames.specs.Levels.{frames_of}
use Rattle.cut_frames.specs.GuardedSearch.{places_of}
use Rattle.cut_frames.specs.OwnVariables.{apart_system, apart_list}
use Rattle.cut_frames.proofs.LevelLaws.{length_frames, put_of}
use Rattle.cut_frames.proofs.PutLaws.{gained_put}
use Rattle.cut_frames.proofs.QueryLemmas.{bits_up_to}
use Rattle.cut_frames.proofs.clear.block.Goals as goal

inside : (k l m n : ℕ) → k ≤ l → m ≡ suc l → n ≡ m → k < n
inside k l m n le e f = omega (arith, le, e, f)

pub add-requires-clause-within : goal.add-requires-clause-within
add-requires-clause-within c = inside c.args.level c.args.frames.now.last (length (frames_of c.args.frames.now)) (length c.args.kept.now.frames.items) c.requires.level.1 (length_frames c.args.frames.now) c.requires.kept.count

pub add-requires-clause-up_to : goal.add-requires-clause-up_to
add-requires-clause-up_to c = bits_up_to c.args.problem.system.now c.args.kept.now.places c.args.clause c.requires.kept.places c.requires.clause

pub returns-clause-kept : goal.returns-clause-kept
returns-clause-kept c =
    c.in_ok-add.ensures (apart_system c.args.problem.system.now) (apart_list (places_of c.args.problem.system.now) c.args.problem.bad.now) (frames_of c.args.frames.now) (frames_of c.put.new.self) c.requires.kept
    (put_of c.args.level c.args.clause (frames_of c.args.frames.now) (frames_of c.put.new.self)
    (gained_put c.args.frames.now c.put.new.self c.args.level c.args.clause c.put.ensures.last c.requires.level.1 c.in_ok-put.ensures.ok))
