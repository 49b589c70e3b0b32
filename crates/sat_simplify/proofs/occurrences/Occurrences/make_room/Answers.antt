use Rattle.std.proofs.Common.{◌≡◌, ℕ, List, [], ◌∷◌, ◌++◌, subst, sym, ap, ◌∙◌}
use Rattle.sat_simplify.specs.OccurrenceLists.{KeepsNotes}
use Rattle.sat_simplify.proofs.OccurringLaws.{keeps_grown, keeps_all}
use Rattle.sat_simplify.proofs.occurrences.Occurrences.make_room.Goals as goal

pub loop-self-preserved : goal.loop-self-preserved
loop-self-preserved c =
    let before = c.loop-self.self-inside.lists.items in
    let grown : c.push.new.self.items ≡ before ++ [] ∷ [] = c.in_ok-push.ensures.items ∙ ap (λ (x : List ℕ). before ++ x ∷ []) c.new.ensures in
    keeps_all c.self.inside.lists.items before c.push.new.self.items c.loop-self.invariant (subst (KeepsNotes before) (sym grown) (keeps_grown before))
