use Rattle.std.proofs.Common.{◌≡◌, ◌<◌, ◌+◌, ◌-◌, length, [], ◌∙◌, sym, arith, inr, false-eqb, eqb-true}
use Rattle.smv_lexer.proofs.SplitLemmas.{IsSplitTo-more, found_within, fault_of_stop, no_split_at_stop, HasTokens-all, one_answer}
use Rattle.smv_lexer.proofs.PlaceLemmas.{HasTokens-stand}
use Rattle.smv_lexer.proofs.FaultLemmas.{one_fault}
use Rattle.smv_lexer.proofs.BlockLemmas.{nil_of_length}
use Rattle.smv_lexer.proofs.lexer.tokens.Goals as goal

pub split_at-requires : goal.split_at-requires
split_at-requires c =
    let some : 0 < length c.loop-rest.rest.now = omega (arith, false-eqb _ 0 c.loop-rest-test.ensures) in
    (found_within c.loop-rest.rest.now c.in-Ok.found some (sym c.piece_at.ensures ∙ c.in-Ok.is)).1

pub returns-in-Err-clause-fault : goal.returns-in-Err-clause-fault
returns-in-Err-clause-fault c =
    let some : 0 < length c.loop-rest.rest.now = omega (arith, false-eqb _ 0 c.loop-rest-test.ensures) in
    let place : length c.args.bytes.now - length c.loop-rest.rest.now + length c.loop-rest.rest.now ≡ length c.args.bytes.now = omega arith in
    rw c.at.ensures (inr (fault_of_stop c.args.bytes.now c.loop-rest.rest.now c.loop-rest.tokens _ c.in-Err.stop c.loop-rest.invariant.split some place (sym c.piece_at.ensures ∙ c.in-Err.is)))

pub returns-in-Err-clause-smallest : goal.returns-in-Err-clause-smallest
returns-in-Err-clause-smallest c =
    let some : 0 < length c.loop-rest.rest.now = omega (arith, false-eqb _ 0 c.loop-rest-test.ensures) in
    let place : length c.args.bytes.now - length c.loop-rest.rest.now + length c.loop-rest.rest.now ≡ length c.args.bytes.now = omega arith in
    rw c.at.ensures (inr (λ other is. one_fault c.args.bytes.now _ other (fault_of_stop c.args.bytes.now c.loop-rest.rest.now c.loop-rest.tokens _ c.in-Err.stop c.loop-rest.invariant.split some place (sym c.piece_at.ensures ∙ c.in-Err.is)) is))

pub returns-in-Err-clause-none : goal.returns-in-Err-clause-none
returns-in-Err-clause-none c =
    let some : 0 < length c.loop-rest.rest.now = omega (arith, false-eqb _ 0 c.loop-rest-test.ensures) in
    inr (no_split_at_stop c.args.bytes.now c.loop-rest.rest.now c.loop-rest.tokens c.in-Err.stop c.loop-rest.invariant.split some (sym c.piece_at.ensures ∙ c.in-Err.is))

pub loop-rest-smaller : goal.loop-rest-smaller
loop-rest-smaller c =
    let some : 0 < length c.loop-rest.rest.now = omega (arith, false-eqb _ 0 c.loop-rest-test.ensures) in
    omega (arith, (found_within c.loop-rest.rest.now c.in-Ok.found some (sym c.piece_at.ensures ∙ c.in-Ok.is)).0, c.split_at.ensures.back_len)

pub loop-rest-preserved : goal.loop-rest-preserved
loop-rest-preserved c =
    let some : 0 < length c.loop-rest.rest.now = omega (arith, false-eqb _ 0 c.loop-rest-test.ensures) in
    let place : length c.args.bytes.now - length c.loop-rest.rest.now + length c.loop-rest.rest.now ≡ length c.args.bytes.now = omega arith in
    record {
      split = rw c.split_at.ensures.back (IsSplitTo-more c.args.bytes.now c.loop-rest.rest.now c.loop-rest.tokens c.push_found.new.tokens _ c.in-Ok.found c.loop-rest.invariant.split some place (sym c.piece_at.ensures ∙ c.in-Ok.is) c.in_ok-push_found.ensures.ok);
      shorter = omega (arith, c.split_at.ensures.back_len);
    }

pub returns-clause-only : goal.returns-clause-only
returns-clause-only c = λ others are.
    let no_rest : c.loop-rest.rest.now ≡ [] = nil_of_length c.loop-rest.rest.now (eqb-true _ 0 (sym c.loop-rest-test.ensures)) in
    one_answer c.args.bytes.now c.loop-rest.tokens others (HasTokens-all c.args.bytes.now c.loop-rest.rest.now c.loop-rest.tokens c.loop-rest.invariant.split no_rest) are

pub returns-clause-stand : goal.returns-clause-stand
returns-clause-stand c =
    let no_rest : c.loop-rest.rest.now ≡ [] = nil_of_length c.loop-rest.rest.now (eqb-true _ 0 (sym c.loop-rest-test.ensures)) in
    HasTokens-stand c.args.bytes.now c.loop-rest.tokens (HasTokens-all c.args.bytes.now c.loop-rest.rest.now c.loop-rest.tokens c.loop-rest.invariant.split no_rest)
