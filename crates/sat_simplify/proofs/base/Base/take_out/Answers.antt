use Rattle.std.proofs.Common.{◌≡◌, refl, sym, subst}
use Rattle.sat_simplify.specs.Slots.{AreNoted}
use Rattle.sat_simplify.specs.Changes.{taken_out}
use Rattle.sat_simplify.proofs.BaseLaws.{taken_by, taken_noted}
use Rattle.sat_simplify.proofs.base.Base.take_out.Goals as goal

pub returns : goal.returns
returns c =
    let s = c.args.self.now in
    let l = c.args.lit in
    let slots : c.drop_each-2.new.slots.items ≡ taken_out s.occurrences l s.slots.items =
    taken_by s.occurrences l c.neg-opposite.result s.slots.items c.drop_each.new.slots.items c.drop_each-2.new.slots.items c.at.result.now c.at-2.result.now c.at.ensures c.drop_each.ensures c.neg-opposite.ensures c.at-2.ensures c.drop_each-2.ensures in
    record { sound = subst (AreNoted s.occurrences) (sym slots) (taken_noted s.occurrences s.slots.items l c.requires); places = refl; slots = slots }
