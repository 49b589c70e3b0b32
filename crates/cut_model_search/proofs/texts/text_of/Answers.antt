use Rattle.std.proofs.Common.{◌≡◌, ◌<◌, ◌^◌, ◌∙◌, length, arith}
use Rattle.smv_language.specs.Language.{model_tree, told_trace}
use Rattle.cut_text_laws.specs.TraceText.{trace_text}
use Rattle.cut_model_search.proofs.PrintedLemmas.{cut_text, text_writable}
use Rattle.cut_model_search.proofs.texts.text_of.Goals as goal

pub returns : goal.returns
returns c =
    let is : c.as_slice.result.now ≡ trace_text (model_tree c.args.t.now.model) (told_trace c.args.t.now.model.symbols c.args.trace.now) = c.as_slice.ensures ∙ c.in_ok-text.ensures in
    let few : length c.in_ok-list.list < 2 ^ 63 = omega (arith, c.len-count.ensures.value, c.len-count.ensures.small) in
    record {
      lines = cut_text c.args.t.now.model c.args.trace.now c.requires c.as_slice.result.now c.in_ok-list.list is c.in_ok-list.ensures;
      writable = text_writable c.args.t.now.model c.args.trace.now c.requires c.as_slice.result.now c.in_ok-list.list is c.in_ok-list.ensures few;
    }
