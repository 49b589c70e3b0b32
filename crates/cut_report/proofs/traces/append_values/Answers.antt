use Rattle.std.proofs.Common.{◌≡◌, ◌++◌, ◌+◌, [], ◌∷◌, Some, sym, ◌∙◌, ap, arith}
use Rattle.std.specs.Prelude.{slice_get}
use Rattle.std.proofs.lemmas.Option.{slice_get-get_or}
use Rattle.smv_language.specs.Language.{variable_tree, told_value}
use Rattle.cut_text_laws.specs.TraceText.{value_line}
use Rattle.cut_report.proofs.TextLaws.{lines_from, values_on, values_past}
use Rattle.cut_report.proofs.traces.append_values.Goals as goal
use Rattle.cut_report.proofs.traces.append_values.Goals.{then-i-len+in_ok-append_line, else-i-len}

pub loop-i-preserved : goal.loop-i-preserved
loop-i-preserved c =
    let item : slice_get c.args.m.now.variables c.loop-i.i ≡ Some c.variable-item.result =
    ap (λ xs. slice_get xs c.loop-i.i) (sym c.as_slice-variable-items.ensures) ∙ slice_get-get_or c.as_slice-variable-items.result.now c.loop-i.i c.variable-item.result c.loop-i-test.true ∙ ap Some (sym c.variable-item.is) in
    elim c.if-i-len.branch [
      | then-i-len+in_ok-append_line w ↦
          values_on c.args.m.now.symbols c.args.m.now.variables c.args.moment.now c.loop-i.i c.variable-item.result w.get.result c.loop-i.text c.if-i-len.text _ item w.get.ensures
          (w.text-is ∙ w.in_ok-append_line.ensures ∙ ap (λ ss. c.loop-i.text ++ (value_line (variable_tree c.variable-item.result) (told_value ss w.get.result) ++ 10 ∷ [])) w.as_slice.ensures)
          c.loop-i.invariant
      | else-i-len w ↦
          ap (λ t. t ++ lines_from c.args.m.now.symbols c.args.m.now.variables c.args.moment.now (c.loop-i.i + 1)) w.text-is
          ∙ values_past c.args.m.now.symbols c.args.m.now.variables c.args.moment.now c.loop-i.i c.loop-i.text _ (omega (arith, w.if-i-len.false, c.len.ensures)) c.loop-i.invariant
    ]
