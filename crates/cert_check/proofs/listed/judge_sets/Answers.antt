use Rattle.std.proofs.Common.{[], ◌∷◌, length, refl, subst, arith}
use Rattle.cert_check.specs.QuestionMatter.{asked}
use Rattle.cert_laws.specs.Certificate.{a_set, a_trace}
use Rattle.cert_laws.specs.Sites.{set_sites}
use Rattle.cert_check.specs.Fit.{IsShortText}
use Rattle.cert_check.specs.SiteFindings.{Finds, AreKept}
use Rattle.cert_check.proofs.Loops.{goes_itself, set_goes_on, set_ends, sets_over}
use Rattle.cert_check.proofs.LineCounts.{text_at, room_at, line_next}
use Rattle.cert_check.proofs.OrderLaws.{none_in_order, in_order_after}
use Rattle.cert_check.proofs.listed.judge_sets.Goals as goal

pub loop-k-init : goal.loop-k-init
loop-k-init c = record { rest = goes_itself (asked c.args.q.now) (set_sites 0 c.args.q.now.certificate.now.sets c.args.q.now.certificate.now.traces); order = none_in_order c.args.q.now.certificate.now.sets; line = refl }

pub judge_set-requires-clause-short : goal.judge_set-requires-clause-short
judge_set-requires-clause-short c = text_at IsShortText c.args.q.now.certificate.now.traces c.loop-k.k c.at-text.result.now c.requires.certificate.texts c.at-text.ensures

pub judge_set-requires-clause-room : goal.judge_set-requires-clause-room
judge_set-requires-clause-room c =
    let room = room_at (asked c.args.q.now).certificate c.loop-k.k c.loop-k.line (length c.at-text.result.now) c.at-text.result.now c.requires.certificate.few c.loop-k.invariant.line c.at-text.ensures refl in
    omega (arith, room)

pub returns-in-No : goal.returns-in-No
returns-in-No c =
    let a = asked c.args.q.now in
    let sets = c.args.q.now.certificate.now.sets in
    let texts = c.args.q.now.certificate.now.traces in
    set_ends a c.loop-k.k sets texts c.at.result.now c.at-text.result.now (set_sites 0 sets texts) c.in-No.at c.in-No.rule c.at.ensures c.at-text.ensures c.loop-k.invariant.rest
    (subst (Finds a (a_set c.loop-k.k c.at.result.now ∷ a_trace c.loop-k.k c.at.result.now c.at-text.result.now ∷ [])) c.in-No.is c.in_ok-at.ensures)

pub overflow_add-line : goal.overflow_add-line
overflow_add-line c =
    let room = room_at (asked c.args.q.now).certificate c.loop-k.k c.loop-k.line c.len.result c.at-text.result.now c.requires.certificate.few c.loop-k.invariant.line c.at-text.ensures c.len.ensures.value in
    omega (arith, room)

pub overflow_add-line-in-loop-k : goal.overflow_add-line-in-loop-k
overflow_add-line-in-loop-k c =
    let room = room_at (asked c.args.q.now).certificate c.loop-k.k c.loop-k.line c.len.result c.at-text.result.now c.requires.certificate.few c.loop-k.invariant.line c.at-text.ensures c.len.ensures.value in
    omega (arith, room)

pub loop-k-preserved : goal.loop-k-preserved
loop-k-preserved c =
    let a = asked c.args.q.now in
    let sets = c.args.q.now.certificate.now.sets in
    let texts = c.args.q.now.certificate.now.traces in
    let kept : AreKept a (a_set c.loop-k.k c.at.result.now ∷ a_trace c.loop-k.k c.at.result.now c.at-text.result.now ∷ []) =
    subst (Finds a (a_set c.loop-k.k c.at.result.now ∷ a_trace c.loop-k.k c.at.result.now c.at-text.result.now ∷ [])) c.in_default.is c.in_ok-at.ensures in
    record {
      rest = set_goes_on a c.loop-k.k sets texts c.at.result.now c.at-text.result.now (set_sites 0 sets texts) c.at.ensures c.at-text.ensures c.loop-k.invariant.rest kept;
      order = in_order_after a c.loop-k.k c.at.result.now (a_trace c.loop-k.k c.at.result.now c.at-text.result.now ∷ []) c.loop-k.invariant.order c.at.ensures kept;
      line = line_next a.certificate c.loop-k.k c.loop-k.line c.len.result c.at-text.result.now c.loop-k.invariant.line c.at-text.ensures c.len.ensures.value;
    }

pub returns : goal.returns
returns c =
    let sets = c.args.q.now.certificate.now.sets in
    let texts = c.args.q.now.certificate.now.traces in
    sets_over (asked c.args.q.now) c.loop-k.k sets texts (set_sites 0 sets texts) (omega arith) c.loop-k.invariant.rest
