use Rattle.std.proofs.Common.{◌≡◌, ◌<◌, ◌-◌, ◌∷◌, [], List, length, refl, subst, arith, slice_index_or}
use Rattle.std.proofs.lemmas.Grind.{common_steps}
use Rattle.sat_clauses.specs.Literal.{Literal, plain, opposite}
use Rattle.cut_frames.specs.GuardedSearch.{HasPut}
use Rattle.cut_frames.proofs.GuardedLaws.{grows_first, grows_next}
use Rattle.cut_frames.proofs.guarded.Guarded.grow.Goals as goal

pub returns-then-last-eq0 : goal.returns-then-last-eq0
returns-then-last-eq0 g c =
    let last : length c.args.self.now.frames.items - 1 ≡ 0 = grind arith in
    grows_first c.args.self.now c.add_guard.new.self c.requires.well c.in_ok-add_guard.ensures last

pub returns : goal.returns
returns g c =
    let s = c.args.self.now in
    let a = c.add_guard.new.self in
    let some : 0 < length s.frames.items - 1 = grind arith in
    let next : c.in_ok-next.next ≡ opposite (slice_index_or s.frames.items (length s.frames.items - 1) s.step) ∷ plain a.vars ∷ [] = grind (arith, common_steps) in
    grows_next s a c.put.new.self (length s.frames.items - 1) (slice_index_or s.frames.items (length s.frames.items - 1) s.step) (plain a.vars) c.requires.well c.in_ok-add_guard.ensures refl some refl refl
    (subst (λ (d : List Literal). HasPut a c.put.new.self (d ∷ [])) next c.in_ok-put.ensures)
