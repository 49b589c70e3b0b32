use Rattle.std.proofs.Common.{◌≡◌, ◌∙◌, ◌+◌, false, IsTrue, take, sym, ap, subst, arith}
use Rattle.std.specs.Prelude.{slice_get}
use Rattle.std.proofs.lemmas.Bool.{both_ways}
use Rattle.cert_check.specs.QuestionMatter.{asked}
use Rattle.std.specs.List.{list_all}
use Rattle.cut_sets.specs.Tests.{are_apart}
use Rattle.cert_check.proofs.SiteLaws.{set_kept, set_broken, apart_broken}
use Rattle.cert_check.proofs.SetLaws.{apart_from_test, test_from_apart}
use Rattle.cert_check.specs.Order.{AreInOrder}
use Rattle.cert_check.proofs.OrderLaws.{in_order_with}
use Rattle.cert_check.proofs.sets.set_rule.Goals as goal

pub is_apart-requires-clause-set : goal.is_apart-requires-clause-set
is_apart-requires-clause-set c = ap (λ xs. slice_get xs c.args.k) c.as_slice.ensures ∙ c.requires.set

pub is_apart-requires-clause-order : goal.is_apart-requires-clause-order
is_apart-requires-clause-order c =
    let is : IsTrue c.is_set_at.result = grind arith in
    let at = c.is_set_at.ensures.0 is in
    subst (λ xs. AreInOrder xs (c.args.k + 1)) (sym c.as_slice.ensures) (in_order_with c.args.q.now.certificate.now.sets c.args.k c.args.set.now c.requires.order c.requires.set at.rises at.after)

pub returns-then-not-is_set_at : goal.returns-then-not-is_set_at
returns-then-not-is_set_at c =
    let is_not : c.is_set_at.result ≡ false = grind arith in
    set_broken (asked c.args.q.now) c.args.k c.args.set.now (λ h. both_ways _ is_not (c.is_set_at.ensures.1 h))

pub returns-then-not-is_apart : goal.returns-then-not-is_apart
returns-then-not-is_apart c =
    let a = asked c.args.q.now in
    let is : IsTrue c.is_set_at.result = grind arith in
    let is_not : c.is_apart.result ≡ false = grind arith in
    let test : c.is_apart.result ≡ list_all (λ other. are_apart other c.args.set.now) (take c.args.k a.certificate.sets) = c.is_apart.ensures ∙ ap (λ xs. list_all (λ other. are_apart other c.args.set.now) (take c.args.k xs)) c.as_slice.ensures in
    apart_broken a c.args.k c.args.set.now (c.is_set_at.ensures.0 is) (λ h. both_ways _ is_not (test ∙ test_from_apart a.subject a.certificate c.args.k c.args.set.now h))

pub returns : goal.returns
returns c =
    let a = asked c.args.q.now in
    let is : IsTrue c.is_set_at.result = grind arith in
    let apart : IsTrue c.is_apart.result = grind arith in
    let test : c.is_apart.result ≡ list_all (λ other. are_apart other c.args.set.now) (take c.args.k a.certificate.sets) = c.is_apart.ensures ∙ ap (λ xs. list_all (λ other. are_apart other c.args.set.now) (take c.args.k xs)) c.as_slice.ensures in
    set_kept a c.args.k c.args.set.now (c.is_set_at.ensures.0 is) (apart_from_test a.subject a.certificate c.args.k c.args.set.now (sym test ∙ apart))
