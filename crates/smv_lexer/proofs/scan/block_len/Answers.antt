use Rattle.std.proofs.Common.{◌≡◌, ◌∙◌, ◌<◌, false, drop, length, arith, ap, sym}
use Rattle.std.proofs.lemmas.List.{take_rest}
use Rattle.std.specs.List.{starts_with}
use Rattle.std.specs.Prelude.{codes, nat_eq}
use Rattle.smv_lexer.proofs.RunLemmas.{block_len-drop}
use Rattle.smv_lexer.proofs.scan.block_len.Goals as goal

pub loop-i-preserved : goal.loop-i-preserved
loop-i-preserved c =
    let no_end : starts_with nat_eq (drop c.loop-i.i c.args.bytes.now) (codes "--/") ≡ false =
    ap (λ bs. starts_with nat_eq bs (codes "--/")) (sym (take_rest c.args.bytes.now c.loop-i.i)) ∙ sym c.starts_with.ensures.value ∙ c.if-starts_with.false
    in
    let within : c.loop-i.i < length c.args.bytes.now = omega arith in
    c.loop-i.invariant ∙ block_len-drop c.loop-i.i c.args.bytes.now within no_end
