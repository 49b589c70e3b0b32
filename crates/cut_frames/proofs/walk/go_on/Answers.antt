use Rattle.std.proofs.Common.{◌≡◌, ◌≢◌, ◌++◌, ◌∷◌, [], ◌<◌, ◌-◌, ℕ, Bool, true, false, List, Option, Some, None, IfSome, IsTrue, ◌↔◌, sym, subst, arith, length, slice_index_or}
use Rattle.std.proofs.lemmas.Grind.{common_steps}
use Rattle.sat_clauses.specs.Assignment.{Assignment}
use Rattle.cut_frames.specs.Path.{AreLinked, EndsBad, Leads, state_in}
use Rattle.cut_frames.proofs.WalkLaws.{linked_more, some_or_none}
use Rattle.cut_frames.proofs.walk.go_on.Goals as goal

mapped : {T : Type 0} (r : Option T) (P Q : T → Type 0) → ((x : T) → P x → Q x) → IfSome r P → IfSome r Q
mapped None P Q f h = h
mapped (Some x) P Q f h = f x h

pub returns-then-is_empty-clause-linked : goal.returns-then-is_empty-clause-linked
returns-then-is_empty-clause-linked g c =
    let none : length c.args.owed.now ≡ 0 = grind (arith, common_steps) in
    mapped c.in_ok-first.first (EndsBad c.args.problem.system.now c.args.problem.bad.now) (λ a. AreLinked c.args.problem.system.now c.args.problem.bad.now (c.args.owed.now ++ a ∷ []))
    (λ a h. linked_more c.args.problem.system.now c.args.problem.bad.now c.args.owed.now a c.requires.linked (λ e. h) (λ lt. absurd (omega (arith, lt, none)))) c.in_ok-first.ensures.bad

pub returns-clause-linked : goal.returns-clause-linked
returns-clause-linked g c =
    let some : 0 < length c.args.owed.now = grind (arith, common_steps) in
    mapped c.in_ok-moment.moment (λ a. Leads c.args.problem.system.now a (state_in c.args.problem.system.now (slice_index_or c.args.owed.now (length c.args.owed.now - 1) []))) (λ a. AreLinked c.args.problem.system.now c.args.problem.bad.now (c.args.owed.now ++ a ∷ []))
    (λ a h. linked_more c.args.problem.system.now c.args.problem.bad.now c.args.owed.now a c.requires.linked (λ e. absurd (empty c.args.owed.now e some)) (λ lt. h)) c.in_ok-moment.ensures.leads
  where
    empty : (xs : List Assignment) → xs ≡ [] → 0 < length xs → ⊥
    empty [] e lt = omega (arith, lt)
    empty (x ∷ xs) e lt = cc
