use Rattle.std.proofs.Common.{sym, ap, ◌∙◌, subst, All}
use Rattle.sat_simplify.specs.CompactNumbers.{gaps}
use Rattle.sat_simplify.specs.Unread.{IsPlaceIn}
use Rattle.sat_simplify.proofs.UnreadLaws.{has_read}
use Rattle.sat_simplify.proofs.unread.read_base.Goals as goal

pub base_at-requires : goal.base_at-requires
base_at-requires c = subst (All (IsPlaceIn c.args.list.now)) (sym (c.as_slice-3.ensures.value ∙ c.reverse.ensures.items)) c.in_ok-pass.ensures.left.inside

pub returns : goal.returns
returns c =
    has_read c.args.places c.in_ok-pass.pass.left c.args.list.now c.in_ok-pass.pass.kept.items c.as_slice-3.result.now c.in_ok-pass.pass.marks.items c.as_slice-2.result.now c.in_ok-base.base c.in_ok-pass.ensures.none c.in_ok-pass.ensures.left
    (c.as_slice-3.ensures.value ∙ c.reverse.ensures.items) (c.as_slice-2.ensures.value ∙ (c.in_ok-gaps.ensures ∙ ap (gaps 0) c.as_slice.ensures.value)) c.in_ok-base.ensures
