use Rattle.std.proofs.Common.{◌≡◌, ◌/◌, ◌%◌, ◌++◌, ◌∷◌, [], eqb, pos, to_z, of_z, List, sym, ◌∙◌, ap, subst, arith, w64}
use Rattle.std.proofs.lemmas.Int.{to_z-of_z}
use Rattle.std.specs.Prelude.{int_lt}
use Rattle.sat_clauses.specs.Literal.{Literal}
use Rattle.sat_circuits.specs.Gates.{constant_lit, differ}
use Rattle.sat_circuits.specs.Words.{word_value, IsWordOf}
use Rattle.sat_circuits.specs.Numbers.{number_word, digits_from}
use Rattle.sat_circuits.proofs.DigitMeans.{digits_loop-step, digits_loop-end, not_same, number_word-value, number_word-word}
use Rattle.sat_circuits.proofs.constants.number_word.Goals as goal

pub loop-rest-preserved : goal.loop-rest-preserved
loop-rest-preserved c = record {
  built =
      let written : c.push.new.self ≡ c.loop-rest.word ++ constant_lit (differ (eqb (c.loop-rest.rest % 2) 1) (int_lt (to_z w64 (of_z w64 c.args.n)) (pos 0))) ∷ [] =
      c.in_ok-push.ensures.ok ∙ ap (λ l. c.loop-rest.word ++ l ∷ []) (c.constant.ensures.literal ∙ ap constant_lit (not_same _ _))
      in
      digits_loop-step _ c.loop-rest.word c.loop-rest.rest _ (omega arith) c.loop-rest.invariant.small c.loop-rest.invariant.built
      ∙ ap (λ w. w ++ digits_from 64 (c.loop-rest.rest / 2) (int_lt (to_z w64 (of_z w64 c.args.n)) (pos 0))) (sym written);
  small = omega arith;
}

pub returns-clause-exact : goal.returns-clause-exact
returns-clause-exact c =
    let none : c.loop-rest.rest ≡ 0 = omega arith in
    c.in_ok-push-2.ensures.ok
    ∙ ap (λ l. c.loop-rest.word ++ l ∷ []) c.constant-2.ensures.literal
    ∙ sym (digits_loop-end _ c.loop-rest.word _ (rw none at c.loop-rest.invariant.built))
    ∙ ap number_word (to_z-of_z w64 c.args.n c.ranges.n)

pub returns-clause-value : goal.returns-clause-value
returns-clause-value c = λ v t. ap (word_value v) (returns-clause-exact c) ∙ number_word-value v c.args.n t c.ranges.n

pub returns-clause-word : goal.returns-clause-word
returns-clause-word c =
    subst (λ (w : List Literal). IsWordOf c.args.g.now w) (sym (returns-clause-exact c))
    (number_word-word c.args.n c.args.g.now (omega (arith, c.constant-2.ensures.below, ap (λ (l : Literal). l.var) c.constant-2.ensures.literal)))
