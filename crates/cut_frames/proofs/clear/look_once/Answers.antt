use Rattle.std.proofs.Common.{◌≡◌, [], ◌∙◌, sym, ap, subst, arith, ◌<◌, ◌≤◌, ◌-◌, ◌+◌, ℕ, length, slice_index_or}
use Rattle.std.proofs.lemmas.Grind.{common_steps}
use Rattle.cut_frames.specs.OwnVariables.{IsKept}
use Rattle.cut_frames.specs.Bits.{read_from}
use Rattle.cut_frames.specs.Chain.{IsState}
use Rattle.cut_frames.specs.FrameLists.{InNumber}
use Rattle.cut_frames.specs.Levels.{frames_of}
use Rattle.cut_frames.specs.ClearLooks.{IsStepLook}
use Rattle.cut_frames.specs.Path.{state_in}
use Rattle.cut_frames.proofs.BitLemmas.{length_read}
use Rattle.cut_frames.proofs.LevelLaws.{level_is, level_low, owed_fits}
use Rattle.cut_frames.proofs.OwedLemmas.{look_newest, newest_inside}
use Rattle.cut_frames.proofs.PartLemmas.{kept_stays}
use Rattle.cut_frames.proofs.clear.look_once.Goals as goal

pub look_for_bad-requires-clause-kept : goal.look_for_bad-requires-clause-kept
look_for_bad-requires-clause-kept g c = subst (IsKept c.args.problem.system.now c.args.problem.bad.now (frames_of c.args.frames.now)) (sym c.shun.ensures) c.requires.kept

pub level_of-level-requires-clause-fits : goal.level_of-level-requires-clause-fits
level_of-level-requires-clause-fits g c = owed_fits c.args.frames.now (length c.args.owed.now) c.requires.owed.fits

pub look_before-requires-clause-at : goal.look_before-requires-clause-at
look_before-requires-clause-at g c = λ numbered.
    let some : 0 < length c.args.owed.now = grind (arith, common_steps) in
    let level : c.level_of-level.result ≡ c.args.frames.now.last + 1 - length c.args.owed.now = grind (arith, common_steps) in
    record { fit = c.requires.problem.fit; framed = c.requires.framed; some = numbered; level = subst (λ (n : ℕ). n ≤ c.args.frames.now.last) (sym level) (level_low c.args.frames.now.last (length c.args.owed.now) some) }

pub look_before-requires-clause-state : goal.look_before-requires-clause-state
look_before-requires-clause-state g c =
    let read : c.in_ok-state.state ≡ read_from 2 c.args.problem.system.now.state_bits c.index-owed-owed.result = grind (arith, common_steps) in
    subst (IsState c.args.problem.system.now) (sym read) (length_read 2 c.args.problem.system.now.state_bits c.index-owed-owed.result)

pub look_before-requires-clause-inside : goal.look_before-requires-clause-inside
look_before-requires-clause-inside g c =
    let some : 0 < length c.args.owed.now = grind (arith, common_steps) in
    let level : c.level_of-level.result ≡ c.args.frames.now.last + 1 - length c.args.owed.now = grind (arith, common_steps) in
    let top : c.index-owed-owed.result ≡ slice_index_or c.args.owed.now (length c.args.owed.now - 1) [] = grind (arith, common_steps) in
    let read : c.in_ok-state.state ≡ read_from 2 c.args.problem.system.now.state_bits c.index-owed-owed.result = grind (arith, common_steps) in
    let state : c.in_ok-state.state ≡ state_in c.args.problem.system.now (slice_index_or c.args.owed.now (length c.args.owed.now - 1) []) = read ∙ ap (state_in c.args.problem.system.now) top in
    subst (λ (n : ℕ). InNumber c.args.problem.system.now (frames_of c.args.frames.now) n c.in_ok-state.state) (level_is c.args.frames.now (length c.args.owed.now) ∙ sym level)
    (newest_inside c.args.problem.system.now c.args.problem.bad.now (frames_of c.args.frames.now) c.args.owed.now c.in_ok-state.state some state c.requires.owed)

pub returns-clause-look : goal.returns-clause-look
returns-clause-look g c =
    let some : 0 < length c.args.owed.now = grind (arith, common_steps) in
    let level : c.level_of-level.result ≡ c.args.frames.now.last + 1 - length c.args.owed.now = grind (arith, common_steps) in
    let top : c.index-owed-owed.result ≡ slice_index_or c.args.owed.now (length c.args.owed.now - 1) [] = grind (arith, common_steps) in
    let read : c.in_ok-state.state ≡ read_from 2 c.args.problem.system.now.state_bits c.index-owed-owed.result = grind (arith, common_steps) in
    let state : c.in_ok-state.state ≡ state_in c.args.problem.system.now (slice_index_or c.args.owed.now (length c.args.owed.now - 1) []) = read ∙ ap (state_in c.args.problem.system.now) top in
    look_newest c.args.problem.system.now c.args.problem.bad.now (frames_of c.args.frames.now) c.args.owed.now c.in_ok-look.look c.in_ok-state.state some state
    (subst (λ (n : ℕ). IsStepLook c.args.problem.system.now (frames_of c.args.frames.now) n c.in_ok-state.state c.in_ok-look.look) (level ∙ sym (level_is c.args.frames.now (length c.args.owed.now))) c.in_ok-look.ensures.look)

pub look_before-requires-clause-kept : goal.look_before-requires-clause-kept
look_before-requires-clause-kept g c = record { bad = c.args.problem.bad.now; kept = c.requires.kept }

pub returns-clause-kept : goal.returns-clause-kept
returns-clause-kept g c = kept_stays c.args.problem.system.now c.args.problem.bad.now (frames_of c.args.frames.now) c.args.kept.now c.look_before.new.kept c.requires.kept c.in_ok-look.ensures.asked
