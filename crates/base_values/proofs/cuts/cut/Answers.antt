use Rattle.std.proofs.Common.{◌++◌, sym, ◌∙◌, ap, subst, drop}
use Rattle.std.proofs.lemmas.List.{take-append-drop}
use Rattle.base_values.specs.Separators.{Lacks, BeginsWith}
use Rattle.base_values.proofs.Cutting.{front_free, back_begins}
use Rattle.base_values.proofs.cuts.cut.Goals as goal

pub returns-clause-whole : goal.returns-clause-whole
returns-clause-whole c = sym (take-append-drop c.length_before.result c.args.bytes.now) ∙ ap (λ x. x ++ drop c.length_before.result c.args.bytes.now) (sym c.split_at.ensures.front) ∙ ap (λ y. c.split_at.result.0.now ++ y) (sym c.split_at.ensures.back)

pub returns-clause-front : goal.returns-clause-front
returns-clause-front c =
    subst (Lacks c.args.byte) (sym c.split_at.ensures.front) (front_free c.args.byte c.args.bytes.now c.length_before.result c.length_before.ensures.bound c.length_before.ensures.before)

pub returns-clause-back : goal.returns-clause-back
returns-clause-back c =
    subst (BeginsWith c.args.byte) (sym c.split_at.ensures.back) (back_begins c.args.byte c.args.bytes.now c.length_before.result c.length_before.ensures.bound c.length_before.ensures.found)
