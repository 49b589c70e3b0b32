use Rattle.std.proofs.Common.{◌≡◌, length, map, take, ◌∙◌, ap}
use Rattle.smv_language.specs.declared.model.FlatModel.{FlatModel}
use Rattle.smv_type_laws.specs.Costs.{state_bits}
use Rattle.verb_loading.specs.LoadedEvents.{case_in}
use Rattle.smv_language.specs.NumberedValues.{told_trace}
use Rattle.cut_report_laws.specs.ExtendedTraces.{complete}
use Rattle.verb_orders.specs.Orders.{either, order_text, staged_of}
use Rattle.verb_orders.proofs.OrderLaws.{either_concluded}
use Rattle.verb_orders.proofs.orders.differing.Goals as goal

pub returns : goal.returns
returns c depth =
    let s = c.args.staged.now in
    let symbols = s.loaded.case.limited.typed.model.symbols in
    let counted : c.len-variables.result ≡ length s.loaded.case.limited.typed.model.variables = c.len-variables.ensures ∙ ap (λ (m : FlatModel). length m.variables) c.model.ensures.model in
    let bits = state_bits (staged_of (case_in s.loaded) s.asked.first s.asked.second) in
    either_concluded s c.requires.staged c.len-variables.result counted c.args.one.now c.args.other.now c.requires.one c.requires.other depth c.in_ok-report.report
    (c.in_ok-report.ensures bits
    ∙ ap (λ t. order_text (case_in s.loaded).flat s.asked.first s.asked.second (either (told_trace symbols t) (told_trace symbols c.in_ok-other.other)) complete bits) c.in_ok-one.ensures
    ∙ ap (λ t. order_text (case_in s.loaded).flat s.asked.first s.asked.second (either (told_trace symbols (map (take c.len-variables.result) c.args.one.now)) (told_trace symbols t)) complete bits) c.in_ok-other.ensures)
