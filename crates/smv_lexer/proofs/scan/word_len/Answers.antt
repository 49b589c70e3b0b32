use Rattle.std.proofs.Common.{◌≡◌, ◌∙◌, true, drop, arith, ap, sym}
use Rattle.std.proofs.lemmas.List.{take_rest}
use Rattle.smv_lexer.specs.Runs.{takes_word}
use Rattle.smv_lexer.proofs.RunLemmas.{run_len-drop}
use Rattle.smv_lexer.proofs.scan.word_len.Goals as goal

pub loop-i-preserved : goal.loop-i-preserved
loop-i-preserved c =
    let passes : takes_word (drop c.loop-i.i c.args.bytes.now) ≡ true = ap takes_word (sym (take_rest c.args.bytes.now c.loop-i.i)) ∙ sym c.takes_word.ensures ∙ c.if-not-takes_word.false in
    omega (arith, c.loop-i.invariant, run_len-drop takes_word c.loop-i.i c.args.bytes.now (omega arith) passes)
