use Rattle.std.proofs.Common.{◌≡◌, ◌∙◌, List, [], ◌∷◌, ◌++◌, Some, ap}
use Rattle.sat_clauses.specs.Literal.{Literal}
use Rattle.sat_simplify.specs.Changes.{changed, covered}
use Rattle.sat_simplify.proofs.BaseLaws.{covered_noted, covers_by}
use Rattle.sat_simplify.proofs.base.Base.cover.Goals as goal

pub add-requires : goal.add-requires
add-requires c = covered_noted c.args.self.now.occurrences c.args.self.now.slots.items c.cover_each.new.slots.items c.lits.result.now c.at.result.now c.cover_each.ensures c.requires

pub returns : goal.returns
returns c =
    let s = c.args.self.now in
    let k = c.args.clause.now in
    let slots : c.cover_each.new.slots.items ≡ changed (covered k) s.slots.items c.at.result.now = c.cover_each.ensures ∙ ap (λ (x : List Literal). changed (covered x) s.slots.items c.at.result.now) c.lits.ensures in
    let added = c.in_ok-add.ensures in
    covers_by s c.add.new.self c.args.lit k c.cover_each.new.slots.items c.at.result.now c.at.ensures slots added.sound added.places (added.slots ∙ ap (λ (x : List Literal). c.cover_each.new.slots.items ++ Some x ∷ []) c.lits-2.ensures)
