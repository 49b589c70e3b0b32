use Rattle.std.proofs.Common.{sym, ap, ◌∙◌, subst, ◌++◌, ◌∷◌, [], List, Some}
use Rattle.sat_simplify.specs.Slots.{Slot, AreNoted}
use Rattle.sat_simplify.proofs.BaseLaws.{shrunk_by, shrunk_noted}
use Rattle.sat_simplify.proofs.base.Base.assign.Goals as goal

pub add-requires : goal.add-requires
add-requires c =
    let s = c.args.self.now in
    let l = c.args.lit in
    subst (AreNoted s.occurrences)
    (sym (shrunk_by s.occurrences l c.neg-opposite.result s.slots.items c.drop_each.new.slots.items c.shrink_each.new.slots.items c.at.result.now c.at-2.result.now c.at.ensures c.drop_each.ensures c.neg-opposite.ensures c.at-2.ensures c.in_ok-shrink_each.ensures))
    (shrunk_noted s.occurrences s.slots.items l c.requires)

pub returns : goal.returns
returns c =
    let s = c.args.self.now in
    let l = c.args.lit in
    let less =
    shrunk_by s.occurrences l c.neg-opposite.result s.slots.items c.drop_each.new.slots.items c.shrink_each.new.slots.items c.at.result.now c.at-2.result.now c.at.ensures c.drop_each.ensures c.neg-opposite.ensures c.at-2.ensures c.in_ok-shrink_each.ensures in
    let added = c.in_ok-add.ensures in
    record { sound = added.sound; places = added.places; slots = added.slots ∙ ap (λ (x : List Slot). x ++ Some (l ∷ []) ∷ []) less }
