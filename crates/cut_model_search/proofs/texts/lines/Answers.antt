use Rattle.std.proofs.Common.{◌≡◌, [], ◌∷◌, ◌++◌, sym, ◌∙◌, ap, subst}
use Rattle.std.specs.List.{AllByRecursion}
use Rattle.base_values.proofs.ListLaws.{all_joined}
use Rattle.cut_text_laws.specs.Lines.{fed, IsLine}
use Rattle.cut_text_laws.proofs.Cuts.{line_lies, rest_shorter}
use Rattle.cut_model_search.proofs.texts.lines.Goals as goal

pub loop-line-preserved : goal.loop-line-preserved
loop-line-preserved c =
    let made : c.push.new.self ≡ c.loop-line.lines ++ c.in-Some.line.now ∷ [] = c.in_ok-push.ensures.ok in
    record {
      lie = line_lies c.args.bytes.now c.loop-line.rest.now c.in-Some.line.now c.in-Some.after.now c.loop-line.lines c.loop-line.invariant.lie c.in-Some.ensures
          ∙ ap (λ ls. fed ls ++ c.in-Some.after.now) (sym made);
      are_lines = subst (AllByRecursion IsLine) (sym made) (all_joined IsLine c.loop-line.lines (c.in-Some.line.now ∷ []) c.loop-line.invariant.are_lines (c.in-Some.ensures.is_line, tt));
    }

pub loop-line-smaller : goal.loop-line-smaller
loop-line-smaller c = rest_shorter c.loop-line.rest.now c.in-Some.line.now c.in-Some.after.now c.in-Some.ensures

pub returns : goal.returns
returns c = record {
  rest = c.loop-line.rest.now;
  lie = c.loop-line.invariant.lie;
  are_lines = c.loop-line.invariant.are_lines;
  is_line = c.in_default.ensures;
}
