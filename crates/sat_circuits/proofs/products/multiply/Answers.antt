use Rattle.std.proofs.Common.{◌≡◌, ◌<◌, ◌≤◌, ◌+◌, ◌*◌, ◌*ℤ◌, ℕ, List, length, refl, sym, ◌∙◌, ap, subst, arith}
use Rattle.std.specs.Prelude.{IfOk, OnErr}
use Rattle.std.proofs.Math.Nat.{mul-le-mul_left}
use Rattle.sat_clauses.specs.Literal.{Literal}
use Rattle.sat_circuits.specs.Circuit.{Circuit}
use Rattle.sat_circuits.specs.Meaning.{StopsWithin}
use Rattle.sat_circuits.proofs.Extension.{OnErr-from, IfOk-built, StopsWithin-none}
use Rattle.sat_circuits.specs.Words.{GivesCut, word_value}
use Rattle.sat_circuits.proofs.WordMeans.{OnOk-built, AllBelow-fit, length-fit}
use Rattle.sat_circuits.specs.Products.{product_gates, multiply_gates}
use Rattle.sat_circuits.proofs.ProductMeans.{multiply_gates-means, multiply_gates-gives, multiply_gates-adds}
use Rattle.sat_circuits.proofs.products.multiply.Goals as goal

pub returns : goal.returns
unfolding multiply_gates
returns c =
    let n : ℕ = c.args.width in
    let s : Circuit = c.args.g.now in
    let free : 1 < s.free = omega (arith, c.constant.ensures.below, ap (λ (l : Literal). l.var) c.constant.ensures.literal) in
    let is : multiply_gates c.args.a.now c.args.b.now n s ≡ product_gates c.in_ok-a.a c.in_ok-b.b s =
    rw (c.in_ok-a.ensures, c.in_ok-b.ensures) refl
    in
    let exact : IfOk c.product.result (λ w. multiply_gates c.args.a.now c.args.b.now n s ≡ (c.product.new.g, w)) =
    subst (λ (x : Circuit × List Literal). IfOk c.product.result (λ w. x ≡ (c.product.new.g, w))) (sym is) c.product.ensures.exact
    in
    record {
      exact = exact;
      value =
          IfOk-built c.product.result c.product.new.g _ (λ t w. GivesCut s t w n (λ v. word_value v c.args.a.now *ℤ word_value v c.args.b.now)) exact
          (multiply_gates-gives c.args.a.now c.args.b.now n s c.constant.ensures.truth free c.requires.widths.0 c.requires.left c.requires.right);
      next =
          OnOk-built c.product.result c.product.new.g _ (λ t. t.free ≤ s.free + 6 * n * n) exact
          (multiply_gates-means c.args.a.now c.args.b.now n s c.constant.ensures.truth free c.requires.widths.0 c.requires.left c.requires.right).shape.2;
      err = subst (λ (x : Circuit × List Literal). OnErr c.product.result (StopsWithin s c.product.new.g x.0)) (sym is) c.product.ensures.err;
    }

pub returns-in_err-a-clause-err : goal.returns-in_err-a-clause-err
returns-in_err-a-clause-err c = OnErr-from _ _ (StopsWithin-none c.args.g.now _ (multiply_gates-adds c.args.a.now c.args.b.now c.args.width c.args.g.now))

pub returns-in_err-b-clause-err : goal.returns-in_err-b-clause-err
returns-in_err-b-clause-err c = OnErr-from _ _ (StopsWithin-none c.args.g.now _ (multiply_gates-adds c.args.a.now c.args.b.now c.args.width c.args.g.now))

pub product-requires-clause-same : goal.product-requires-clause-same
product-requires-clause-same c = rw (c.in_ok-a.ensures, c.in_ok-b.ensures) (length-fit c.args.width c.args.a.now ∙ sym (length-fit c.args.width c.args.b.now))

pub product-requires-clause-left : goal.product-requires-clause-left
product-requires-clause-left c =
    rw c.in_ok-a.ensures
    (AllBelow-fit c.args.width c.args.g.now.free c.args.a.now (omega (arith, c.constant.ensures.below, ap (λ (l : Literal). l.var) c.constant.ensures.literal)) c.requires.left.below)

pub product-requires-clause-right : goal.product-requires-clause-right
product-requires-clause-right c =
    rw c.in_ok-b.ensures
    (AllBelow-fit c.args.width c.args.g.now.free c.args.b.now (omega (arith, c.constant.ensures.below, ap (λ (l : Literal). l.var) c.constant.ensures.literal)) c.requires.right.below)

pub product-requires-clause-room : goal.product-requires-clause-room
product-requires-clause-room c =
    let long : length c.in_ok-a.a ≡ c.args.width = ap length c.in_ok-a.ensures ∙ length-fit c.args.width c.args.a.now in
    omega (arith, ap (λ k. 6 * k * k) long, c.requires.room, c.requires.widths.1, mul-le-mul_left (6 * c.args.width) c.requires.widths.1)
