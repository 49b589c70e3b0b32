use Rattle.std.proofs.Common.{rules, arith, ◌≡◌, ◌+◌, pos, drop, get_or, if◌then◌else◌, ap, ◌∙◌}
use Rattle.std.specs.Ordering.{int_eq}
use Rattle.std.specs.List.{list_any}
use Rattle.std.proofs.lemmas.List.{take_rest}
use Rattle.base_values.proofs.Different.{counted, few_more}
use Rattle.base_values.proofs.domain.different_numbers.Goals as goal

pub loop-i-preserved : goal.loop-i-preserved
loop-i-preserved c =
    let item = get_or c.args.numbers.now c.loop-i.i (pos 0) in
    let later : c.contains-later.result ≡ list_any (λ y. int_eq y item) (drop (c.loop-i.i + 1) c.args.numbers.now) =
    c.contains-later.ensures.value ∙ ap (list_any (λ y. int_eq y item)) (take_rest c.args.numbers.now (c.loop-i.i + 1)) in
    let step : c.from-count.result ≡ (if c.contains-later.result then 0 else 1) = search rules in
    record {
      rest = counted int_eq c.args.numbers.now c.loop-i.i item c.loop-i.count (c.loop-i.count + c.from-count.result) c.contains-later.result c.loop-i-test.true (search rules) later c.loop-i.invariant.rest (omega (arith, step));
      few = omega (arith, step, c.loop-i.invariant.few, few_more c.contains-later.result);
    }
