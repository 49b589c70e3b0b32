use Rattle.std.proofs.Common.{[], ◌∷◌, ◌++◌, take, sym, ap, ◌∙◌}
use Rattle.std.proofs.lemmas.List.{take_more}
use Rattle.std.proofs.lemmas.Option.{slice_get_within, get_or_from_slice_get}
use Rattle.cert_text.proofs.packed.PackedSteps.of_list.Goals as goal

pub loop-i-preserved : goal.loop-i-preserved
loop-i-preserved c =
    let list = c.args.list.now in
    let i = c.loop-i.i in
    let step = c.at.result.now in
    let within = slice_get_within list i step c.at.ensures in
    c.in_ok-push.ensures.ok ∙ ap (λ steps. steps ++ step ∷ []) c.loop-i.invariant
    ∙ sym (take_more list i step within ∙ ap (λ s. take i list ++ s ∷ []) (get_or_from_slice_get list i step step c.at.ensures))
