use Rattle.std.proofs.Common.{rules, ◌≡◌, ◌≤◌, suc, [], ◌∷◌, ◌++◌, length, sym, ◌∙◌, ap, arith}
use Rattle.cut_text_laws.specs.Lines.{fed}
use Rattle.cert_text.specs.LinesIn.{lines_in}
use Rattle.cert_text.proofs.LineTexts.{few_lines, line_added, whole_added, one_added}
use Rattle.cert_text.proofs.line_list.LineList.push.Goals as goal

pub overflow_add-self : goal.overflow_add-self
overflow_add-self c =
    let few : length (lines_in c.self.inside.text.items) ≤ length c.self.inside.text.items = few_lines c.self.inside.text.items c.self.invariant.whole in
    let count : c.self.inside.count ≡ length (lines_in c.self.inside.text.items) = c.self.invariant.count in
    grind (arith, few, count)

pub invariant_of-self-2 : goal.invariant_of-self-2
invariant_of-self-2 c =
    let text = c.self.inside.text.items in
    let items : c.push.new.self.items ≡ (text ++ c.args.line.now) ++ 10 ∷ [] = search rules in
    let more : length (lines_in c.push.new.self.items) ≡ suc (length (lines_in text)) =
    ap (λ t. length (lines_in t)) items ∙ one_added text c.args.line.now c.self.invariant.whole c.requires in
    let count : c.self.inside.count ≡ length (lines_in text) = c.self.invariant.count in
    record {
      whole = items ∙ whole_added text c.args.line.now c.self.invariant.whole c.requires ∙ ap (λ t. fed (lines_in t)) (sym items);
      count = omega (arith, more, count);
    }

pub returns-clause-ok : goal.returns-clause-ok
returns-clause-ok c =
    let text = c.self.inside.text.items in
    let items : c.push.new.self.items ≡ (text ++ c.args.line.now) ++ 10 ∷ [] = search rules in
    ap lines_in items ∙ line_added text c.args.line.now c.self.invariant.whole c.requires ∙ ap (λ ls. ls ++ c.args.line.now ∷ []) c.self.view_is
