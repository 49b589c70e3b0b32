use Rattle.std.proofs.Common.{◌≡◌, false, IsTrue, sym, ap, ◌∙◌, arith}
use Rattle.std.proofs.lemmas.Bool.{both_ways}
use Rattle.cut_right_laws.specs.Sets.{has_number}
use Rattle.verb_orders.proofs.pair.is_pair.Goals as goal

pub returns-then-first-second-clause-no : goal.returns-then-first-second-clause-no
returns-then-first-second-clause-no c e h = absurd (h.apart c.if-first-second.true)

pub returns-then-not-has_number-clause-no : goal.returns-then-not-has_number-clause-no
returns-then-not-has_number-clause-no c e h =
    let set = c.args.set.now in
    let is_not : c.has_number.result ≡ false = grind arith in
    let first : c.from.result ≡ c.args.first = omega arith in
    both_ways _ is_not (c.has_number.ensures ∙ ap (has_number set) first ∙ h.one)

pub returns-clause-yes : goal.returns-clause-yes
returns-clause-yes c is =
    let set = c.args.set.now in
    let one : IsTrue c.has_number.result = grind arith in
    let first : c.from.result ≡ c.args.first = omega arith in
    let second : c.from-2.result ≡ c.args.second = omega arith in
    record {
      one = ap (has_number set) (sym first) ∙ sym c.has_number.ensures ∙ one;
      other = ap (has_number set) (sym second) ∙ sym c.has_number-2.ensures ∙ is;
      apart = c.if-first-second.false;
    }

pub returns-clause-no : goal.returns-clause-no
returns-clause-no c e h =
    let set = c.args.set.now in
    let second : c.from-2.result ≡ c.args.second = omega arith in
    both_ways _ e (c.has_number-2.ensures ∙ ap (has_number set) second ∙ h.other)
