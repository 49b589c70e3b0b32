use Rattle.std.proofs.Common.{◌≡◌, ◌<◌, ◌^◌, ◌∙◌, length, ap, sym, subst}
use Rattle.std.specs.Prelude.{All}
use Rattle.smv_language.specs.Language.{tree_of, model_tree, flat_tree, told_trace}
use Rattle.smv_evaluation.specs.MomentTables.{HasRoom, HasValues}
use Rattle.smv_evaluation.specs.Replay.{replayed, IsReplayed}
use Rattle.smv_evaluation.proofs.FilledLaws.{all_lawful}
use Rattle.smv_evaluation.proofs.ReplayLaws.{replayed_law}
use Rattle.smv_evaluation.proofs.trace.replay.Goals as goal

pub replay_in-requires-clause-some : goal.replay_in-requires-clause-some
replay_in-requires-clause-some c = subst (λ ms. 0 < length ms) (sym c.as_slice.ensures) c.requires.trace.some

pub replay_in-requires-clause-few : goal.replay_in-requires-clause-few
replay_in-requires-clause-few c = subst (λ ms. length ms < 2 ^ 32) (sym c.as_slice.ensures) c.requires.trace.few

pub replay_in-requires-clause-lengths : goal.replay_in-requires-clause-lengths
replay_in-requires-clause-lengths c =
    subst (λ m. All (HasValues m) c.as_slice.result.now) (sym c.model.ensures.model)
    (subst (All (HasValues c.args.t.now.model)) (sym c.as_slice.ensures) (all_lawful c.args.t.now.model c.args.trace.now c.requires.trace.lawful))

pub replay_in-requires-clause-room_now : goal.replay_in-requires-clause-room_now
replay_in-requires-clause-room_now c = subst (λ m. HasRoom m c.args.now.now) (sym c.model.ensures.model) c.requires.room_now

pub replay_in-requires-clause-room_next : goal.replay_in-requires-clause-room_next
replay_in-requires-clause-room_next c = subst (λ m. HasRoom m c.args.next.now) (sym c.model.ensures.model) c.requires.room_next

pub returns-clause-answer : goal.returns-clause-answer
returns-clause-answer c =
    let m = c.args.t.now.model in
    let same : c.replay_in.result ≡ replayed m (tree_of c.args.top.now) c.args.trace.now =
    c.replay_in.ensures.answer
    ∙ (ap (λ n. replayed n (tree_of c.args.top.now) c.as_slice.result.now) c.model.ensures.model ∙ ap (replayed m (tree_of c.args.top.now)) c.as_slice.ensures) in
    subst (IsReplayed (model_tree m) (flat_tree c.args.top.now) (told_trace m.symbols c.args.trace.now)) (sym same)
    (replayed_law m c.requires.model c.args.t.now.typed c.args.top.now c.requires.top.own c.requires.top.right c.args.trace.now c.requires.trace.some c.requires.trace.lawful)
