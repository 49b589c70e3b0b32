use Rattle.std.proofs.Common.{◌≡◌, ◌∙◌, All, ap, sym, subst}
use Rattle.std.proofs.lemmas.Result.{IfOk-weaker}
use Rattle.cut_frames.specs.Condition.{IsLow, IsNear}
use Rattle.cut_frames.specs.OwnVariables.{apart_list}
use Rattle.cut_frames.specs.GuardedSearch.{MeetAlike}
use Rattle.cut_frames.proofs.ApartLaws.{simpler_low, simpler_near, simpler_alike}
use Rattle.cut_frames.proofs.apart.simpler_apart.Goals as goal

pub list_apart-requires-clause-low : goal.list_apart-requires-clause-low
list_apart-requires-clause-low c = subst (All (All IsLow)) (sym c.as_slice.ensures) (simpler_low c.args.list.now c.in_ok-simpler.simpler c.in_ok-simpler.ensures.low c.requires.low)

pub returns-clause-near : goal.returns-clause-near
returns-clause-near c =
    IfOk-weaker c.list_apart.result (λ x. x ≡ apart_list c.args.places c.as_slice.result.now) (λ x. All (All IsNear) x)
    (λ x p. simpler_near c.args.places c.args.list.now c.in_ok-simpler.simpler x c.requires.places c.requires.low c.in_ok-simpler.ensures.low (p ∙ ap (apart_list c.args.places) c.as_slice.ensures)) c.list_apart.ensures

pub returns-clause-alike : goal.returns-clause-alike
returns-clause-alike c =
    IfOk-weaker c.list_apart.result (λ x. x ≡ apart_list c.args.places c.as_slice.result.now) (λ x. MeetAlike c.args.places (apart_list c.args.places c.args.list.now) x)
    (λ x p. simpler_alike c.args.places c.args.list.now c.in_ok-simpler.simpler x c.in_ok-simpler.ensures.same (p ∙ ap (apart_list c.args.places) c.as_slice.ensures)) c.list_apart.ensures
