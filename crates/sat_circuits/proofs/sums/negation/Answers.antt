use Rattle.std.proofs.Common.{◌≡◌, ◌<◌, neg_ℤ, ℕ, List, [], ◌∷◌, false, refl, sym, ap, subst, arith}
use Rattle.std.specs.Prelude.{IfOk, OnErr}
use Rattle.sat_clauses.specs.Literal.{Literal}
use Rattle.sat_circuits.specs.Circuit.{Circuit}
use Rattle.sat_circuits.specs.Gates.{constant_lit}
use Rattle.sat_circuits.specs.Meaning.{StopsWithin}
use Rattle.sat_circuits.proofs.Extension.{OnErr-from, IfOk-built, StopsWithin-none}
use Rattle.sat_circuits.specs.Words.{GivesCut, word_value}
use Rattle.sat_circuits.specs.Sums.{subtract_gates, negate_gates}
use Rattle.sat_circuits.proofs.SumMeans.{negate_gates-gives, negate_gates-adds}
use Rattle.sat_circuits.proofs.sums.negation.Goals as goal
use Rattle.sat_circuits.proofs.sums.negation.Goals.{In_ok-push}

zero_is : (c : In_ok-push) → c.push.new.self ≡ constant_lit false ∷ []
zero_is c = rw (c.in_ok-push.ensures.ok, c.new-zero.ensures, c.constant.ensures.literal) refl

pub returns-in_err-push-clause-err : goal.returns-in_err-push-clause-err
returns-in_err-push-clause-err c = OnErr-from _ _ (StopsWithin-none c.args.g.now _ (negate_gates-adds c.args.a.now c.args.width c.args.g.now))

pub returns : goal.returns
unfolding negate_gates
returns c =
    let n : ℕ = c.args.width in
    let s : Circuit = c.args.g.now in
    let free : 1 < s.free = omega (arith, c.constant.ensures.below, ap (λ (l : Literal). l.var) c.constant.ensures.literal) in
    let is : negate_gates c.args.a.now n s ≡ subtract_gates c.push.new.self c.args.a.now n s = rw (zero_is (goal.at.returns c).In_ok-push) refl in
    let exact : IfOk c.difference.result (λ w. negate_gates c.args.a.now n s ≡ (c.difference.new.g, w)) =
    subst (λ (x : Circuit × List Literal). IfOk c.difference.result (λ w. x ≡ (c.difference.new.g, w))) (sym is) c.difference.ensures.exact
    in
    record {
      exact = exact;
      value =
          IfOk-built c.difference.result c.difference.new.g _ (λ t w. GivesCut s t w n (λ v. neg_ℤ (word_value v c.args.a.now))) exact
          (negate_gates-gives c.args.a.now n s c.constant.ensures.truth free c.requires.least c.requires.left);
      next = c.difference.ensures.next;
      err = subst (λ (x : Circuit × List Literal). OnErr c.difference.result (StopsWithin s c.difference.new.g x.0)) (sym is) c.difference.ensures.err;
    }
