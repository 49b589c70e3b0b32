use Rattle.std.proofs.Common.{◌≡◌, ◌∷◌, [], List, subst, arith, slice_index_or}
use Rattle.std.proofs.lemmas.Grind.{common_steps}
use Rattle.sat_clauses.specs.Literal.{Literal, opposite}
use Rattle.cut_frames.specs.GuardedSearch.{HasPut}
use Rattle.cut_frames.proofs.GuardedLaws.{puts}
use Rattle.cut_frames.proofs.guarded.Guarded.add.Goals as goal

pub returns : goal.returns
returns c =
    let under : c.in_ok-under.under ≡ opposite (slice_index_or c.args.self.now.frames.items c.args.frame c.args.self.now.step) ∷ c.args.clause.now = grind (arith, common_steps) in
    puts c.args.self.now c.put.new.self c.args.frame c.args.clause.now c.requires.well c.requires.frame c.requires.within c.requires.up_to
    (subst (λ (d : List Literal). HasPut c.args.self.now c.put.new.self (d ∷ [])) under c.in_ok-put.ensures)
