use Rattle.std.proofs.Common.{◌≡◌, ◌<◌, ◌-◌, ◌∷◌, [], List, length, refl, subst, arith, slice_index_or, take}
use Rattle.std.proofs.lemmas.Grind.{common_steps}
use Rattle.sat_clauses.specs.Literal.{Literal, opposite}
use Rattle.cut_frames.specs.GuardedSearch.{HasPut}
use Rattle.cut_frames.proofs.GuardedLaws.{again_none, again_from}
use Rattle.cut_frames.proofs.guarded.Guarded.begin_again.Goals as goal

pub returns-then-last-eq0 : goal.returns-then-last-eq0
returns-then-last-eq0 c =
    let last : length c.args.self.now.frames.items - 1 ≡ 0 = grind arith in
    again_none c.args.self.now c.requires.well last

pub returns : goal.returns
returns c =
    let s = c.args.self.now in
    let a = c.put.new.self in
    let some : 0 < length s.frames.items - 1 = grind arith in
    let past : c.in_ok-past.past ≡ opposite (slice_index_or s.frames.items (length s.frames.items - 1) s.step) ∷ [] = grind (arith, common_steps) in
    let frames : c.truncate.new.self.items ≡ take 1 a.frames.items = grind (arith, common_steps) in
    again_from s a (record { search = a.search; vars = a.vars; places = a.places; step = a.step; bad = a.bad; frames = c.truncate.new.self; simple = a.simple; past = a.past }) (length s.frames.items - 1)
    (slice_index_or s.frames.items (length s.frames.items - 1) s.step) c.requires.well refl some refl (subst (λ (d : List Literal). HasPut s a (d ∷ [])) past c.in_ok-put.ensures) refl refl refl refl refl refl frames
