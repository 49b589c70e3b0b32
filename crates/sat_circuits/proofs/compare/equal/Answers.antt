use Rattle.std.proofs.Common.{◌≡◌, ◌<◌, length, max, true, sym, ◌∙◌, ap, subst, arith}
use Rattle.std.specs.Prelude.{IfOk, OnErr, zip}
use Rattle.sat_clauses.specs.Literal.{Literal}
use Rattle.sat_circuits.specs.Circuit.{Circuit, fold_gates}
use Rattle.sat_circuits.specs.Gates.{constant_lit}
use Rattle.sat_circuits.specs.Meaning.{StopsWithin, GivesBool}
use Rattle.sat_circuits.proofs.Extension.{OnErr-from, IfOk-built, OnOk-free, StopsWithin-none}
use Rattle.sat_circuits.specs.Words.{fit, word_value}
use Rattle.sat_circuits.proofs.WordMeans.{AllBelow-fit, length-fit}
use Rattle.std.specs.Ordering.{int_eq}
use Rattle.sat_circuits.specs.Sums.{equal_step, equal_gates}
use Rattle.sat_circuits.proofs.TestMeans.{equal_gates-means, equal_gates-gives, equal_gates-adds}
use Rattle.sat_circuits.proofs.compare.equal.Goals as goal

pub returns-in_err-a-clause-err : goal.returns-in_err-a-clause-err
returns-in_err-a-clause-err c = OnErr-from _ _ (StopsWithin-none c.args.g.now _ (equal_gates-adds c.args.a.now c.args.b.now c.args.g.now))

pub returns-in_err-b-clause-err : goal.returns-in_err-b-clause-err
returns-in_err-b-clause-err c = OnErr-from _ _ (StopsWithin-none c.args.g.now _ (equal_gates-adds c.args.a.now c.args.b.now c.args.g.now))

pub agreement-requires-clause-same : goal.agreement-requires-clause-same
agreement-requires-clause-same c = rw (c.in_ok-a.ensures, c.in_ok-b.ensures) (length-fit c.max-width.result c.args.a.now ∙ sym (length-fit c.max-width.result c.args.b.now))

pub agreement-requires-clause-left : goal.agreement-requires-clause-left
agreement-requires-clause-left c =
    rw c.in_ok-a.ensures
    (AllBelow-fit c.max-width.result c.args.g.now.free c.args.a.now (omega (arith, c.constant-truth.ensures.below, ap (λ (l : Literal). l.var) c.constant-truth.ensures.literal)) c.requires.left.below)

pub agreement-requires-clause-right : goal.agreement-requires-clause-right
agreement-requires-clause-right c =
    rw c.in_ok-b.ensures
    (AllBelow-fit c.max-width.result c.args.g.now.free c.args.b.now (omega (arith, c.constant-truth.ensures.below, ap (λ (l : Literal). l.var) c.constant-truth.ensures.literal)) c.requires.right.below)

pub agreement-requires-clause-room : goal.agreement-requires-clause-room
agreement-requires-clause-room c =
    let long : length c.in_ok-a.a ≡ c.max-width.result = ap length c.in_ok-a.ensures ∙ length-fit c.max-width.result c.args.a.now in
    omega (arith, long, c.requires.widths.0, c.requires.widths.1, c.requires.room)

pub returns : goal.returns
unfolding equal_gates
returns c =
    let s : Circuit = c.args.g.now in
    let free : 1 < s.free = omega (arith, c.constant-truth.ensures.below, ap (λ (l : Literal). l.var) c.constant-truth.ensures.literal) in
    let width : max (length c.args.a.now) (length c.args.b.now) ≡ c.max-width.result = omega arith in
    let is : equal_gates c.args.a.now c.args.b.now s ≡ fold_gates equal_step (zip c.in_ok-a.a c.in_ok-b.b) c.constant-truth.result s =
    rw (c.in_ok-a.ensures, c.in_ok-b.ensures, c.constant-truth.ensures.literal)
    (ap (λ n. fold_gates equal_step (zip (fit n c.args.a.now) (fit n c.args.b.now)) (constant_lit true) s) width)
    in
    let exact : IfOk c.agreement.result (λ l. equal_gates c.args.a.now c.args.b.now s ≡ (c.agreement.new.g, l)) =
    subst (λ (x : Circuit × Literal). IfOk c.agreement.result (λ l. x ≡ (c.agreement.new.g, l))) (sym is) c.agreement.ensures.exact
    in
    record {
      exact = exact;
      value =
          IfOk-built c.agreement.result c.agreement.new.g _ (λ t l. GivesBool s t l (λ v. int_eq (word_value v c.args.a.now) (word_value v c.args.b.now))) exact
          (equal_gates-gives c.args.a.now c.args.b.now s c.constant-truth.ensures.truth free c.requires.left c.requires.right);
      next = OnOk-free c.agreement.result c.agreement.new.g _ _ exact (equal_gates-means c.args.a.now c.args.b.now s c.constant-truth.ensures.truth free c.requires.left c.requires.right).shape.1;
      err = subst (λ (x : Circuit × Literal). OnErr c.agreement.result (StopsWithin s c.agreement.new.g x.0)) (sym is) c.agreement.ensures.err;
    }
