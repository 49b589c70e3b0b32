use Rattle.std.proofs.Common.{◌≡◌, ◌++◌, ◌∷◌, [], sym, ◌∙◌, subst, arith, length, ◌<◌, ◌≤◌, ◌-◌, ◌+◌, List, ℕ, inl, inr}
use Rattle.std.proofs.lemmas.Grind.{common_steps}
use Rattle.std.specs.Prelude.{Option, Some, IfSome}
use Rattle.sat_clauses.specs.Assignment.{Assignment}
use Rattle.sat_clauses.specs.Literal.{Literal}
use Rattle.sat_clauses.specs.declared.system.System.{System}
use Rattle.cut_frames.specs.Levels.{frames_of}
use Rattle.cut_frames.specs.Parts.{AreAgreed}
use Rattle.cut_frames.specs.Path.{AreOwed, IsPath}
use Rattle.cut_frames.specs.StatesLeft.{work_left}
use Rattle.cut_frames.specs.declared.clear.Look.TheVariants.{Nothing, IsFirst, Deeper, Blocked}
use Rattle.cut_frames.proofs.LevelLaws.{level_low, owed_fits, same_length}
use Rattle.cut_frames.proofs.RaiseLaws.{work_raised, tightened_twice, owed_none}
use Rattle.cut_frames.proofs.OwedLemmas.{look_is, look_nothing, look_first, look_deeper, look_blocked, newest_blocked, work_deeper, tightened_stays, level_some}
use Rattle.cut_frames.proofs.clear.clear_frames.Goals as goal

pub returns-in-Nothing-clause-cleared : goal.returns-in-Nothing-clause-cleared
returns-in-Nothing-clause-cleared g c = look_nothing c.args.problem.system.now c.args.problem.bad.now (frames_of c.looks.frames) c.looks.owed (look_is c.args.problem.system.now c.args.problem.bad.now (frames_of c.looks.frames) c.looks.owed c.as_slice.result.now c.in_ok-look_once.field-0 Nothing c.as_slice.ensures c.in-Nothing.is c.in_ok-look_once.ensures.look)

pub returns-in-IsFirst-clause-cleared : goal.returns-in-IsFirst-clause-cleared
returns-in-IsFirst-clause-cleared g c = inl (
    subst (IsPath c.args.problem.system.now c.args.problem.bad.now (length (frames_of c.looks.frames) - 1)) (sym c.reversed.ensures)
    (look_first c.args.problem.system.now c.args.problem.bad.now (frames_of c.looks.frames) c.looks.owed c.looks.invariant.owed (look_is c.args.problem.system.now c.args.problem.bad.now (frames_of c.looks.frames) c.looks.owed c.as_slice.result.now c.in_ok-look_once.field-0 IsFirst c.as_slice.ensures c.in-IsFirst.is c.in_ok-look_once.ensures.look)))

pub looks-smaller-in-Continue-branch-4 : goal.looks-smaller-in-Continue-branch-4
looks-smaller-in-Continue-branch-4 g c =
    let more = look_deeper c.args.problem.system.now c.args.problem.bad.now (frames_of c.looks.frames) c.looks.owed c.in-Deeper.moment c.looks.invariant.tightened.framed.framed c.looks.invariant.owed (look_is c.args.problem.system.now c.args.problem.bad.now (frames_of c.looks.frames) c.looks.owed c.as_slice.result.now c.in_ok-look_once.field-0 (Deeper c.in-Deeper.moment) c.as_slice.ensures c.in-Deeper.is c.in_ok-look_once.ensures.look) in
    let pushed : c.push.new.self ≡ c.looks.owed ++ c.in-Deeper.moment ∷ [] = grind (arith, common_steps) in
    subst (λ (o : List Assignment). work_left c.args.problem.system.now.state_bits (frames_of c.looks.frames) o < work_left c.args.problem.system.now.state_bits (frames_of c.looks.frames) c.looks.owed) (sym pushed)
    (work_deeper c.args.problem.system.now c.args.problem.bad.now (frames_of c.looks.frames) c.looks.owed c.in-Deeper.moment more.0)

pub looks-preserved-in-Continue-branch-4 : goal.looks-preserved-in-Continue-branch-4
looks-preserved-in-Continue-branch-4 g c =
    let more = look_deeper c.args.problem.system.now c.args.problem.bad.now (frames_of c.looks.frames) c.looks.owed c.in-Deeper.moment c.looks.invariant.tightened.framed.framed c.looks.invariant.owed (look_is c.args.problem.system.now c.args.problem.bad.now (frames_of c.looks.frames) c.looks.owed c.as_slice.result.now c.in_ok-look_once.field-0 (Deeper c.in-Deeper.moment) c.as_slice.ensures c.in-Deeper.is c.in_ok-look_once.ensures.look) in
    let pushed : c.push.new.self ≡ c.looks.owed ++ c.in-Deeper.moment ∷ [] = grind (arith, common_steps) in
    record {
      tightened = c.looks.invariant.tightened;
      owed = subst (AreOwed c.args.problem.system.now c.args.problem.bad.now (frames_of c.looks.frames)) (sym pushed) more.1;
      same = c.look_once.ensures.same ∙ c.looks.invariant.same;
      kept = c.in_ok-look_once.ensures.kept;
    }

pub returns-in_err-block-in-Blocked-clause-tightened : goal.returns-in_err-block-in-Blocked-clause-tightened
returns-in_err-block-in-Blocked-clause-tightened g c =
    let inv = c.looks.invariant.tightened in
    tightened_twice c.args.problem.system.now c.args.frames.now c.looks.frames c.block.new.frames inv (tightened_stays c.args.problem.system.now c.looks.frames c.block.new.frames c.block.ensures.last c.in_err-block-in-Blocked.ensures.err inv.framed)

pub returns-in-Nothing-clause-kept : goal.returns-in-Nothing-clause-kept
returns-in-Nothing-clause-kept g c = c.in_ok-look_once.ensures.kept

pub returns-in-IsFirst-clause-kept : goal.returns-in-IsFirst-clause-kept
returns-in-IsFirst-clause-kept g c = c.in_ok-look_once.ensures.kept

pub level_of-level-requires-clause-some : goal.level_of-level-requires-clause-some
level_of-level-requires-clause-some g c =
    let count : c.len.result ≡ length c.looks.owed = grind (arith, common_steps) in
    subst (λ (n : ℕ). 0 < n) (sym count) (look_blocked c.args.problem.system.now c.args.problem.bad.now (frames_of c.looks.frames) c.looks.owed c.in-Blocked.clause (look_is c.args.problem.system.now c.args.problem.bad.now (frames_of c.looks.frames) c.looks.owed c.as_slice.result.now c.in_ok-look_once.field-0 (Blocked c.in-Blocked.clause) c.as_slice.ensures c.in-Blocked.is c.in_ok-look_once.ensures.look)).some

pub level_of-level-requires-clause-fits : goal.level_of-level-requires-clause-fits
level_of-level-requires-clause-fits g c =
    let count : c.len.result ≡ length c.looks.owed = grind (arith, common_steps) in
    subst (λ (n : ℕ). n ≤ c.looks.frames.last + 1) (sym count) (owed_fits c.looks.frames (length c.looks.owed) c.looks.invariant.owed.fits)

pub block-requires-clause-level : goal.block-requires-clause-level
block-requires-clause-level g c =
    let b = look_blocked c.args.problem.system.now c.args.problem.bad.now (frames_of c.looks.frames) c.looks.owed c.in-Blocked.clause (look_is c.args.problem.system.now c.args.problem.bad.now (frames_of c.looks.frames) c.looks.owed c.as_slice.result.now c.in_ok-look_once.field-0 (Blocked c.in-Blocked.clause) c.as_slice.ensures c.in-Blocked.is c.in_ok-look_once.ensures.look) in
    let level : c.level_of-level.result ≡ c.looks.frames.last + 1 - length c.looks.owed = grind (arith, common_steps) in
    subst (λ (n : ℕ). (0 < n) × (n ≤ c.looks.frames.last)) (sym level) (level_some c.args.problem.system.now c.args.problem.bad.now c.looks.frames c.looks.owed c.in-Blocked.clause b, level_low c.looks.frames.last (length c.looks.owed) b.some)

pub block-requires-clause-clause : goal.block-requires-clause-clause
block-requires-clause-clause g c = (look_blocked c.args.problem.system.now c.args.problem.bad.now (frames_of c.looks.frames) c.looks.owed c.in-Blocked.clause (look_is c.args.problem.system.now c.args.problem.bad.now (frames_of c.looks.frames) c.looks.owed c.as_slice.result.now c.in_ok-look_once.field-0 (Blocked c.in-Blocked.clause) c.as_slice.ensures c.in-Blocked.is c.in_ok-look_once.ensures.look)).blocks.over_bits

pub block-requires-clause-kept : goal.block-requires-clause-kept
block-requires-clause-kept g c = c.in_ok-look_once.ensures.kept

pub looks-smaller : goal.looks-smaller
looks-smaller g c =
    let level : c.level_of-level.result ≡ c.looks.frames.last + 1 - length c.looks.owed = grind (arith, common_steps) in
    (newest_blocked c.args.problem.system.now c.args.problem.bad.now c.looks.frames c.block.new.frames c.looks.owed c.pop.new.self c.pop.ensures.0 c.level_of-level.result c.in-Blocked.clause c.looks.invariant.tightened.framed c.looks.invariant.owed (look_is c.args.problem.system.now c.args.problem.bad.now (frames_of c.looks.frames) c.looks.owed c.as_slice.result.now c.in_ok-look_once.field-0 (Blocked c.in-Blocked.clause) c.as_slice.ensures c.in-Blocked.is c.in_ok-look_once.ensures.look) c.pop.ensures.1 level c.block.ensures.last c.in_ok-block-in-Blocked.ensures.ok).falls

pub looks-preserved : goal.looks-preserved
looks-preserved g c =
    let level : c.level_of-level.result ≡ c.looks.frames.last + 1 - length c.looks.owed = grind (arith, common_steps) in
    let blocked = newest_blocked c.args.problem.system.now c.args.problem.bad.now c.looks.frames c.block.new.frames c.looks.owed c.pop.new.self c.pop.ensures.0 c.level_of-level.result c.in-Blocked.clause c.looks.invariant.tightened.framed c.looks.invariant.owed (look_is c.args.problem.system.now c.args.problem.bad.now (frames_of c.looks.frames) c.looks.owed c.as_slice.result.now c.in_ok-look_once.field-0 (Blocked c.in-Blocked.clause) c.as_slice.ensures c.in-Blocked.is c.in_ok-look_once.ensures.look) c.pop.ensures.1 level c.block.ensures.last c.in_ok-block-in-Blocked.ensures.ok in
    record {
      tightened = tightened_twice c.args.problem.system.now c.args.frames.now c.looks.frames c.block.new.frames c.looks.invariant.tightened blocked.tightened;
      owed = blocked.owed;
      same = c.note_blocked.ensures ∙ c.look_once.ensures.same ∙ c.looks.invariant.same;
      kept = c.in_ok-block-in-Blocked.ensures.kept;
    }

pub look_once-requires-clause-agreed : goal.look_once-requires-clause-agreed
look_once-requires-clause-agreed g c = subst (AreAgreed c.args.problem.system.now) (sym c.looks.invariant.same) c.requires.agreed

pub raise-requires-clause-framed : goal.raise-requires-clause-framed
raise-requires-clause-framed g c =
    let level : c.level_of-level.result ≡ c.looks.frames.last + 1 - length c.looks.owed = grind (arith, common_steps) in
    (newest_blocked c.args.problem.system.now c.args.problem.bad.now c.looks.frames c.block.new.frames c.looks.owed c.pop.new.self c.pop.ensures.0 c.level_of-level.result c.in-Blocked.clause c.looks.invariant.tightened.framed c.looks.invariant.owed (look_is c.args.problem.system.now c.args.problem.bad.now (frames_of c.looks.frames) c.looks.owed c.as_slice.result.now c.in_ok-look_once.field-0 (Blocked c.in-Blocked.clause) c.as_slice.ensures c.in-Blocked.is c.in_ok-look_once.ensures.look) c.pop.ensures.1 level c.block.ensures.last c.in_ok-block-in-Blocked.ensures.ok).tightened.framed

pub looks-smaller-in_default : goal.looks-smaller-in_default
looks-smaller-in_default g c =
    let level : c.level_of-level.result ≡ c.looks.frames.last + 1 - length c.looks.owed = grind (arith, common_steps) in
    work_raised c.args.problem.system.now (frames_of c.block.new.frames) (frames_of c.raise.new.frames) c.pop.new.self (work_left c.args.problem.system.now.state_bits (frames_of c.looks.frames) c.looks.owed)
    (same_length c.block.new.frames c.raise.new.frames c.raise.ensures.tightened.last) c.raise.ensures.tightened.stronger (newest_blocked c.args.problem.system.now c.args.problem.bad.now c.looks.frames c.block.new.frames c.looks.owed c.pop.new.self c.pop.ensures.0 c.level_of-level.result c.in-Blocked.clause c.looks.invariant.tightened.framed c.looks.invariant.owed (look_is c.args.problem.system.now c.args.problem.bad.now (frames_of c.looks.frames) c.looks.owed c.as_slice.result.now c.in_ok-look_once.field-0 (Blocked c.in-Blocked.clause) c.as_slice.ensures c.in-Blocked.is c.in_ok-look_once.ensures.look) c.pop.ensures.1 level c.block.ensures.last c.in_ok-block-in-Blocked.ensures.ok).falls

pub looks-preserved-in_default : goal.looks-preserved-in_default
looks-preserved-in_default g c =
    let level : c.level_of-level.result ≡ c.looks.frames.last + 1 - length c.looks.owed = grind (arith, common_steps) in
    let blocked = newest_blocked c.args.problem.system.now c.args.problem.bad.now c.looks.frames c.block.new.frames c.looks.owed c.pop.new.self c.pop.ensures.0 c.level_of-level.result c.in-Blocked.clause c.looks.invariant.tightened.framed c.looks.invariant.owed (look_is c.args.problem.system.now c.args.problem.bad.now (frames_of c.looks.frames) c.looks.owed c.as_slice.result.now c.in_ok-look_once.field-0 (Blocked c.in-Blocked.clause) c.as_slice.ensures c.in-Blocked.is c.in_ok-look_once.ensures.look) c.pop.ensures.1 level c.block.ensures.last c.in_ok-block-in-Blocked.ensures.ok in
    let none : length c.pop.new.self ≡ 0 = grind (arith, c.is_empty.ensures, c.if-is_empty.true) in
    record {
      tightened = tightened_twice c.args.problem.system.now c.args.frames.now c.block.new.frames c.raise.new.frames (tightened_twice c.args.problem.system.now c.args.frames.now c.looks.frames c.block.new.frames c.looks.invariant.tightened blocked.tightened) c.raise.ensures.tightened;
      owed = owed_none c.args.problem.system.now c.args.problem.bad.now (frames_of c.raise.new.frames) c.pop.new.self none;
      same = c.raise.ensures.same ∙ c.note_blocked.ensures ∙ c.look_once.ensures.same ∙ c.looks.invariant.same;
      kept = c.in_ok-path-in-Blocked.ensures.kept;
    }

pub returns-in_err-path-in-Blocked-clause-tightened : goal.returns-in_err-path-in-Blocked-clause-tightened
returns-in_err-path-in-Blocked-clause-tightened g c =
    let level : c.level_of-level.result ≡ c.looks.frames.last + 1 - length c.looks.owed = grind (arith, common_steps) in
    let blocked = newest_blocked c.args.problem.system.now c.args.problem.bad.now c.looks.frames c.block.new.frames c.looks.owed c.pop.new.self c.pop.ensures.0 c.level_of-level.result c.in-Blocked.clause c.looks.invariant.tightened.framed c.looks.invariant.owed (look_is c.args.problem.system.now c.args.problem.bad.now (frames_of c.looks.frames) c.looks.owed c.as_slice.result.now c.in_ok-look_once.field-0 (Blocked c.in-Blocked.clause) c.as_slice.ensures c.in-Blocked.is c.in_ok-look_once.ensures.look) c.pop.ensures.1 level c.block.ensures.last c.in_ok-block-in-Blocked.ensures.ok in
    tightened_twice c.args.problem.system.now c.args.frames.now c.block.new.frames c.raise.new.frames (tightened_twice c.args.problem.system.now c.args.frames.now c.looks.frames c.block.new.frames c.looks.invariant.tightened blocked.tightened) c.raise.ensures.tightened

pub returns-in-Some-clause-tightened : goal.returns-in-Some-clause-tightened
returns-in-Some-clause-tightened g c =
    let level : c.level_of-level.result ≡ c.looks.frames.last + 1 - length c.looks.owed = grind (arith, common_steps) in
    let blocked = newest_blocked c.args.problem.system.now c.args.problem.bad.now c.looks.frames c.block.new.frames c.looks.owed c.pop.new.self c.pop.ensures.0 c.level_of-level.result c.in-Blocked.clause c.looks.invariant.tightened.framed c.looks.invariant.owed (look_is c.args.problem.system.now c.args.problem.bad.now (frames_of c.looks.frames) c.looks.owed c.as_slice.result.now c.in_ok-look_once.field-0 (Blocked c.in-Blocked.clause) c.as_slice.ensures c.in-Blocked.is c.in_ok-look_once.ensures.look) c.pop.ensures.1 level c.block.ensures.last c.in_ok-block-in-Blocked.ensures.ok in
    tightened_twice c.args.problem.system.now c.args.frames.now c.block.new.frames c.raise.new.frames (tightened_twice c.args.problem.system.now c.args.frames.now c.looks.frames c.block.new.frames c.looks.invariant.tightened blocked.tightened) c.raise.ensures.tightened

some_path : (system : System) (bad : List (List Literal)) (most : ℕ) (r : Option (List Assignment)) (path : List Assignment) → r ≡ Some path → IfSome r (IsPath system bad most) → IsPath system bad most path
some_path system bad most r path e h = subst (λ o. IfSome o (IsPath system bad most)) e h

pub returns-in-Some-clause-cleared : goal.returns-in-Some-clause-cleared
returns-in-Some-clause-cleared g c = inr (some_path c.args.problem.system.now c.args.problem.bad.now c.args.most c.in_ok-path-in-Blocked.field-0 c.in-Some.path c.in-Some.is c.in_ok-path-in-Blocked.ensures.path)
