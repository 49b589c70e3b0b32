use Rattle.std.proofs.Common.{◌≡◌, ℕ, List, ◌≤◌, Bool, true, false, not, refl, sym, ◌∙◌, subst, length}
use Rattle.smv_language.specs.Lexemes.{Lexeme, lexemes_of}
use Rattle.smv_expression_reader.specs.Recogniser as machine
use Rattle.smv_expression_reader.specs.Extents.{reach_of, is_deep, ends_whole}
use Rattle.smv_expression_reader.specs.Stops.{IsTooDeep}
use Rattle.smv_expression_reader.proofs.ExpressionLaws.{check_stops, expression_ends, expression_deep}
use Rattle.smv_expression_reader.proofs.ExtentLaws.{all_whole}
use Rattle.smv_expression_reader.proofs.reader.check_expression.Goals as goal

not_true : (b : Bool) → not b ≡ true → b ≡ false
not_true true e = cc
not_true false e = refl

not_false : (b : Bool) → not b ≡ false → b ≡ true
not_false true e = refl
not_false false e = cc

whole_there : (ts : List Lexeme) (n : ℕ) → n ≡ reach_of machine.start ts → length ts ≤ n → machine.is_whole (machine.run machine.start ts) ≡ ends_whole machine.start ts
whole_there ts n e h = sym (all_whole machine.start ts (subst (λ z. length ts ≤ z) e h))

pub returns-then-extent-texts-clause-fault : goal.returns-then-extent-texts-clause-fault
returns-then-extent-texts-clause-fault c =
    check_stops (IsTooDeep c.args.bytes.now) c.args.bytes.now c.args.tokens.now c.args.texts.now c.in_ok-extent.extent.len c.stop_at.result
    c.requires.split c.requires.same c.in_ok-extent.ensures.len c.if-extent-texts.true c.stop_at.ensures

pub returns-then-not-extent-clause-fault : goal.returns-then-not-extent-clause-fault
returns-then-not-extent-clause-fault c =
    let same = c.requires.same in
    let all : length (lexemes_of c.args.bytes.now c.args.tokens.now) ≤ reach_of machine.start (lexemes_of c.args.bytes.now c.args.tokens.now) =
    subst (λ ts. length ts ≤ reach_of machine.start ts) same (subst (λ n. length c.args.texts.now ≤ n) c.in_ok-extent.ensures.len c.if-extent-texts.false) in
    let part : machine.is_whole (machine.run machine.start (lexemes_of c.args.bytes.now c.args.tokens.now)) ≡ false =
    subst (λ ts. machine.is_whole (machine.run machine.start ts) ≡ false) same (whole_there c.args.texts.now c.in_ok-extent.extent.len c.in_ok-extent.ensures.len c.if-extent-texts.false ∙ sym c.in_ok-extent.ensures.whole ∙ not_true c.in_ok-extent.extent.whole c.if-not-extent.true) in
    expression_ends c.args.bytes.now c.args.tokens.now (length c.args.bytes.now) c.requires.split refl all part

pub returns-then-extent-clause-fault : goal.returns-then-extent-clause-fault
returns-then-extent-clause-fault c =
    let same = c.requires.same in
    let whole : machine.is_whole (machine.run machine.start (lexemes_of c.args.bytes.now c.args.tokens.now)) ≡ true =
    subst (λ ts. machine.is_whole (machine.run machine.start ts) ≡ true) same (whole_there c.args.texts.now c.in_ok-extent.extent.len c.in_ok-extent.ensures.len c.if-extent-texts.false ∙ sym c.in_ok-extent.ensures.whole ∙ not_false c.in_ok-extent.extent.whole c.if-not-extent.false) in
    let deep : is_deep machine.start (lexemes_of c.args.bytes.now c.args.tokens.now) ≡ true =
    subst (λ ts. is_deep machine.start ts ≡ true) same (sym c.in_ok-extent.ensures.deep ∙ c.if-extent.true) in
    expression_deep c.args.bytes.now c.args.tokens.now c.requires.split whole deep

pub returns-else-extent-clause-whole : goal.returns-else-extent-clause-whole
returns-else-extent-clause-whole c =
    whole_there c.args.texts.now c.in_ok-extent.extent.len c.in_ok-extent.ensures.len c.if-extent-texts.false ∙ sym c.in_ok-extent.ensures.whole ∙ not_false c.in_ok-extent.extent.whole c.if-not-extent.false
