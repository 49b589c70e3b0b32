use Rattle.std.proofs.Common.{◌≢◌, ◌≤◌, All, length, sym, subst, arith}
use Rattle.std.proofs.lemmas.List.{take_all}
use Rattle.std.proofs.lemmas.List.Elements.{All-more}
use Rattle.std.proofs.lemmas.Option.{get_or_from_slice_get}
use Rattle.sat_solver.specs.declared.trail.TrailEntry.{TrailEntry}
use Rattle.sat_solver.proofs.LessonLemmas.{not_listed}
use Rattle.sat_solver.proofs.solve.place_of.Goals as goal

pub loop-i-preserved : goal.loop-i-preserved
loop-i-preserved c =
    let P : TrailEntry → Type 0 = λ e. e.lit ≢ c.args.lit in
    let xs = c.args.trail.now.entries in
    let i = c.loop-i.i in
    let e = c.at.result in
    let ne : e.lit ≢ c.args.lit = grind arith in
    record {
      within = omega arith;
      elsewhere = All-more P xs i e (omega arith) c.loop-i.invariant.elsewhere (subst P (sym (get_or_from_slice_get xs i e e c.at.ensures)) ne);
    }

pub unreachable-requires : goal.unreachable-requires
unreachable-requires c =
    let over : length c.args.trail.now.entries ≤ c.loop-i.i = omega arith in
    not_listed c.args.trail.now c.args.lit c.requires.lawful c.requires.is_true
    (subst (All (λ (e : TrailEntry). e.lit ≢ c.args.lit)) (take_all c.loop-i.i c.args.trail.now.entries over) c.loop-i.invariant.elsewhere)
