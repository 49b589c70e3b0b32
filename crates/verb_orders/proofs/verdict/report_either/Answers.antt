use Rattle.std.specs.Prelude.{codes}
use Rattle.std.specs.Fmt.{decimal}
use Rattle.smv_language.specs.Language.{model_tree, told_trace}
use Rattle.verb_orders.specs.Orders.{either, traces_text}
use Rattle.verb_orders.proofs.VerdictLaws.{appended}
use Rattle.verb_orders.proofs.verdict.report_either.Goals as goal

pub returns : goal.returns
returns c bits =
    let m = c.args.staged.now.loaded.case.limited.typed.model in
    let traces = traces_text (model_tree m) (either (told_trace m.symbols c.args.one.now) (told_trace m.symbols c.args.other.now)) in
    appended (codes "pair ") (decimal c.args.staged.now.asked.first) (codes " ") (decimal c.args.staged.now.asked.second) (codes "either") (codes "\n") traces _ _ _ _ c.in_ok-text.ensures c.in_ok-append.ensures.ok
    c.in_ok-append-2.ensures.ok c.in_ok-append_traces.ensures
