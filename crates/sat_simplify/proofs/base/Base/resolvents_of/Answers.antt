use Rattle.std.proofs.Common.{◌≡◌, ◌∙◌, List, ap}
use Rattle.std.proofs.lemmas.Option.{IfSome_then}
use Rattle.sat_simplify.specs.Slots.{Slot}
use Rattle.sat_simplify.specs.Changes.{gathered}
use Rattle.sat_simplify.proofs.BaseLaws.{resolved_by}
use Rattle.sat_simplify.proofs.base.Base.resolvents_of.Goals as goal

pub returns : goal.returns
returns c =
    let s = c.args.self.now in
    let l = c.args.lit in
    let left : c.as_slice.result.now ≡ gathered l s.slots.items c.at.result.now = c.as_slice.ensures ∙ (c.in_ok-with.ensures ∙ ap (λ (x : List Slot). gathered l x c.at.result.now) c.deref.ensures.value) in
    let right : c.as_slice-2.result.now ≡ gathered c.neg-opposite.result s.slots.items c.at-2.result.now = c.as_slice-2.ensures ∙ (c.in_ok-against.ensures ∙ ap (λ (x : List Slot). gathered c.neg-opposite.result x c.at-2.result.now) c.deref-2.ensures.value) in
    IfSome_then c.in_ok-list.list c.in_ok-list.ensures (λ x p.
    resolved_by s.occurrences l c.neg-opposite.result s.slots.items c.at.result.now c.at-2.result.now c.as_slice.result.now c.as_slice-2.result.now x c.at.ensures left c.neg-opposite.ensures c.at-2.ensures right p)
