use Rattle.std.proofs.Common.{ap, ◌∙◌, w64}
use Rattle.std.proofs.lemmas.Int.{to_z-of_z}
use Rattle.sat_circuits.specs.Numbers.{number_word}
use Rattle.smv_types.specs.declared.sort.JudgedExpr.{JudgedExpr}
use Rattle.sat_encoding_laws.specs.Signals.{word}
use Rattle.sat_expressions.specs.Parts.{asked_of}
use Rattle.sat_expressions.specs.Sorts.{literal_sort}
use Rattle.sat_expressions.proofs.Nodes.{result_at}
use Rattle.sat_expressions.proofs.part.number_part.Goals as goal

pub returns : goal.returns
returns c =
    result_at _ (asked_of c.args.asked) c.args.g.now _ (word (number_word c.args.n)) _ (literal_sort c.args.n) _
    (ap (λ x. word x) c.in_ok-word.ensures.exact ∙ ap (λ z. word (number_word z)) (to_z-of_z w64 c.args.n c.ranges.n))
    (ap (λ (j : JudgedExpr). j.sort) c.literal.ensures ∙ ap literal_sort (to_z-of_z w64 c.args.n c.ranges.n)) c.answer.ensures
