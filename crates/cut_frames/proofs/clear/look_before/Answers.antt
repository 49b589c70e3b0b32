use Rattle.std.proofs.Common.{◌≡◌, ◌<◌, ℕ, suc, refl, subst, arith}
use Rattle.cut_frames.specs.Levels.{frames_of}
use Rattle.std.proofs.Common.{zero}
use Rattle.cut_frames.specs.FrameLists.{InNumber}
use Rattle.cut_frames.proofs.clear.look_before.Goals as goal

positive : (n : ℕ) → (n ≡ 0 → ⊥) → 0 < n
positive n e = by_case n e
  where
    by_case : (n : ℕ) → (n ≡ 0 → ⊥) → 0 < n
    by_case zero e = absurd (e refl)
    by_case (suc n) e = omega arith

pub returns-then-at-eq0-clause-look : goal.returns-then-at-eq0-clause-look
returns-then-at-eq0-clause-look g c = subst (λ (n : ℕ). InNumber c.args.at.system.now (frames_of c.args.at.frames.now) n c.args.state.now) c.if-at-eq0.true c.requires.inside

pub returns-then-at-eq0-clause-asked : goal.returns-then-at-eq0-clause-asked
returns-then-at-eq0-clause-asked g c = λ system list frames h. h

pub look_against-requires-clause-at : goal.look_against-requires-clause-at
look_against-requires-clause-at g c = c.requires.at (positive c.args.at.level c.if-at-eq0.false)

pub look_against-requires-clause-kept : goal.look_against-requires-clause-kept
look_against-requires-clause-kept g c = c.requires.kept

pub returns-clause-look : goal.returns-clause-look
returns-clause-look g c = c.in_ok-look.ensures.look

pub returns-clause-asked : goal.returns-clause-asked
returns-clause-asked g c = c.in_ok-look.ensures.asked
