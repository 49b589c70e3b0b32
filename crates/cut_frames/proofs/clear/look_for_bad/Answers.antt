use Rattle.std.proofs.Common.{◌≡◌, ◌<◌, [], ℕ, suc, refl, arith, length}
use Rattle.cut_frames.specs.Levels.{frames_of}
use Rattle.cut_frames.specs.GuardedSearch.{places_of}
use Rattle.cut_frames.specs.OwnVariables.{apart_system, apart_list}
use Rattle.cut_frames.specs.declared.guarded.Beside.TheVariants.{Bad}
use Rattle.cut_frames.proofs.ApartLaws.{sat_told, unsat_told}
use Rattle.cut_frames.proofs.LevelLaws.{length_frames}
use Rattle.cut_frames.proofs.ShrinkLemmas.{minimal}
use Rattle.cut_frames.proofs.LookLemmas.{look_at_bad, look_at_none}
use Rattle.cut_frames.proofs.clear.look_for_bad.Goals as goal

inside : (l m n : ℕ) → m ≡ suc l → n ≡ m → l < n
inside l m n e f = omega (arith, e, f)

pub ask-requires-clause-well : goal.ask-requires-clause-well
ask-requires-clause-well g c = c.requires.kept.well

pub ask-requires-clause-frame : goal.ask-requires-clause-frame
ask-requires-clause-frame g c = inside c.args.frames.now.last (length (frames_of c.args.frames.now)) (length c.args.kept.now.frames.items) (length_frames c.args.frames.now) c.requires.kept.count

pub shrink-requires-clause-values : goal.shrink-requires-clause-values
shrink-requires-clause-values g c = (sat_told c.args.problem.system.now c.args.problem.bad.now (frames_of c.args.frames.now) Bad c.args.frames.now.last [] [] c.in_ok-_core.field-0 c.in-Sat.values refl c.in-Sat.is (c.in_ok-_core.ensures.verdict (apart_system c.args.problem.system.now) (apart_list (places_of c.args.problem.system.now) c.args.problem.bad.now) (frames_of c.args.frames.now) c.requires.kept))

pub shrink-requires-clause-kept : goal.shrink-requires-clause-kept
shrink-requires-clause-kept g c = c.in_ok-_core.ensures.asked (apart_system c.args.problem.system.now) (apart_list (places_of c.args.problem.system.now) c.args.problem.bad.now) (frames_of c.args.frames.now) c.requires.kept

pub returns-in-Unsat-clause-look : goal.returns-in-Unsat-clause-look
returns-in-Unsat-clause-look g c = look_at_none c.args.problem.system.now (frames_of c.args.frames.now) c.args.frames.now.last c.args.problem.bad.now c.in-Unsat._core (length_frames c.args.frames.now) c.requires.problem.fit c.requires.framed.framed (unsat_told c.args.problem.system.now c.args.problem.bad.now (frames_of c.args.frames.now) Bad c.args.frames.now.last [] [] c.in_ok-_core.field-0 c.in-Unsat._core refl c.in-Unsat.is (c.in_ok-_core.ensures.verdict (apart_system c.args.problem.system.now) (apart_list (places_of c.args.problem.system.now) c.args.problem.bad.now) (frames_of c.args.frames.now) c.requires.kept))

pub returns-in-Unsat-clause-kept : goal.returns-in-Unsat-clause-kept
returns-in-Unsat-clause-kept g c = c.in_ok-_core.ensures.asked (apart_system c.args.problem.system.now) (apart_list (places_of c.args.problem.system.now) c.args.problem.bad.now) (frames_of c.args.frames.now) c.requires.kept

pub returns-in_ok-moment-in-Sat-clause-look : goal.returns-in_ok-moment-in-Sat-clause-look
returns-in_ok-moment-in-Sat-clause-look g c = look_at_bad c.args.problem.system.now (frames_of c.args.frames.now) c.args.frames.now.last c.args.problem.bad.now c.in_ok-least-in-Sat.least c.in_ok-moment-in-Sat.moment (length_frames c.args.frames.now) c.requires.framed.framed c.in_ok-least-in-Sat.ensures.values c.in_ok-moment-in-Sat.ensures

pub returns-in_ok-moment-in-Sat-clause-minimal : goal.returns-in_ok-moment-in-Sat-clause-minimal
returns-in_ok-moment-in-Sat-clause-minimal g c = minimal c.args.problem.system.now c.args.problem.bad.now (frames_of c.args.frames.now) c.args.problem.history.now c.args.frames.now.last c.in_ok-least-in-Sat.least c.in_ok-moment-in-Sat.moment (length_frames c.args.frames.now) c.requires.problem.history c.in_ok-moment-in-Sat.ensures c.in_ok-least-in-Sat.ensures.needed

pub returns-in_ok-moment-in-Sat-clause-kept : goal.returns-in_ok-moment-in-Sat-clause-kept
returns-in_ok-moment-in-Sat-clause-kept g c = c.in_ok-least-in-Sat.ensures.kept
