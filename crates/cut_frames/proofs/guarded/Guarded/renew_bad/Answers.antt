use Rattle.std.proofs.Common.{◌≡◌, ◌∷◌, [], List, refl, subst, arith}
use Rattle.std.proofs.lemmas.Grind.{common_steps}
use Rattle.sat_clauses.specs.Literal.{Literal, opposite}
use Rattle.cut_frames.specs.GuardedSearch.{HasPut}
use Rattle.cut_frames.proofs.GuardedSteps.{bad_renewed}
use Rattle.cut_frames.proofs.guarded.Guarded.renew_bad.Goals as goal

pub returns : goal.returns
returns g c =
    let past : c.in_ok-past.past ≡ opposite c.args.self.now.bad ∷ [] = grind (arith, common_steps) in
    let b = c.widen.new.self in
    bad_renewed c.args.self.now c.put.new.self b (record { search = b.search; vars = b.vars; places = b.places; step = b.step; bad = c.new-self.result; frames = b.frames; simple = b.simple; past = b.past }) c.requires
    (subst (λ (d : List Literal). HasPut c.args.self.now c.put.new.self (d ∷ [])) past c.in_ok-put.ensures) c.in_ok-widen.ensures refl refl refl refl refl refl c.new-self.ensures
