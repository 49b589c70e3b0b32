use Rattle.std.proofs.Common.{◌≡◌, ◌++◌, ◌/◌}
use Rattle.std.specs.Prelude.{codes}
use Rattle.std.specs.Fmt.{decimal}
use Rattle.std.proofs.lemmas.Result.{IfOk-weaker}
use Rattle.fault_odds.specs.Units.{one_in_units}
use Rattle.fault_odds.specs.OddsText.{last_digits, units_text}
use Rattle.fault_odds.proofs.OddsLemmas.{three_on}
use Rattle.fault_odds.proofs.print.append_units.Goals as goal

pub returns : goal.returns
returns c =
    IfOk-weaker c.append_last_digits.result (λ _. c.append_last_digits.new.text ≡ c.append.new.self ++ last_digits 18 c.args.units)
    (λ _. c.append_last_digits.new.text ≡ c.args.text.now ++ units_text c.args.units)
    (λ _ e. three_on c.args.text.now (decimal (c.args.units / one_in_units)) (codes ".") (last_digits 18 c.args.units) c.append_wide.new.text c.append.new.self c.append_last_digits.new.text
    c.in_ok-append_wide.ensures c.in_ok-append.ensures.ok e) c.append_last_digits.ensures
