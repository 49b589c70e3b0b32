use Rattle.std.proofs.Common.{◌≡◌, ◌<◌, ◌-ℤ◌, ℕ, List, length, refl, sym, ◌∙◌, ap, subst, arith}
use Rattle.std.specs.Prelude.{IfOk, OnErr}
use Rattle.std.proofs.lemmas.List.{length-map}
use Rattle.sat_clauses.specs.Literal.{Literal, opposite}
use Rattle.sat_circuits.specs.Circuit.{Circuit}
use Rattle.sat_circuits.specs.Meaning.{StopsWithin}
use Rattle.sat_circuits.proofs.Extension.{OnErr-from, IfOk-built, OnOk-free, StopsWithin-none}
use Rattle.sat_circuits.specs.Words.{fit, GivesCut, word_value}
use Rattle.sat_circuits.proofs.WordMeans.{AllBelow-fit, AllBelow-opposite, length-fit}
use Rattle.sat_circuits.specs.Sums.{sum_gates, subtract_gates}
use Rattle.sat_circuits.proofs.SumMeans.{subtract_gates-means, subtract_gates-gives, subtract_gates-adds}
use Rattle.sat_circuits.proofs.sums.difference.Goals as goal

pub returns : goal.returns
unfolding subtract_gates
returns c =
    let n : ℕ = c.args.width in
    let s : Circuit = c.args.g.now in
    let free : 1 < s.free = omega (arith, c.constant-carry.ensures.below, ap (λ (l : Literal). l.var) c.constant-carry.ensures.literal) in
    let is : subtract_gates c.args.a.now c.args.b.now n s ≡ sum_gates c.in_ok-a.a c.in_ok-b-2.b c.constant-carry.result s =
    rw (c.in_ok-a.ensures, c.in_ok-b-2.ensures, c.in_ok-b.ensures, c.constant-carry.ensures.literal) refl
    in
    let exact : IfOk c.sum.result (λ w. subtract_gates c.args.a.now c.args.b.now n s ≡ (c.sum.new.g, w)) =
    subst (λ (x : Circuit × List Literal). IfOk c.sum.result (λ w. x ≡ (c.sum.new.g, w))) (sym is) c.sum.ensures.exact
    in
    record {
      exact = exact;
      value =
          IfOk-built c.sum.result c.sum.new.g _ (λ t w. GivesCut s t w n (λ v. word_value v c.args.a.now -ℤ word_value v c.args.b.now)) exact
          (subtract_gates-gives c.args.a.now c.args.b.now n s c.constant-carry.ensures.truth free c.requires.least c.requires.left c.requires.right);
      next = OnOk-free c.sum.result c.sum.new.g _ _ exact (subtract_gates-means c.args.a.now c.args.b.now n s c.constant-carry.ensures.truth free c.requires.least c.requires.left c.requires.right).shape.free;
      err = subst (λ (x : Circuit × List Literal). OnErr c.sum.result (StopsWithin s c.sum.new.g x.0)) (sym is) c.sum.ensures.err;
    }

pub returns-in_err-a-clause-err : goal.returns-in_err-a-clause-err
returns-in_err-a-clause-err c = OnErr-from _ _ (StopsWithin-none c.args.g.now _ (subtract_gates-adds c.args.a.now c.args.b.now c.args.width c.args.g.now))

pub returns-in_err-b-clause-err : goal.returns-in_err-b-clause-err
returns-in_err-b-clause-err c = OnErr-from _ _ (StopsWithin-none c.args.g.now _ (subtract_gates-adds c.args.a.now c.args.b.now c.args.width c.args.g.now))

pub returns-in_err-b-2-clause-err : goal.returns-in_err-b-2-clause-err
returns-in_err-b-2-clause-err c = OnErr-from _ _ (StopsWithin-none c.args.g.now _ (subtract_gates-adds c.args.a.now c.args.b.now c.args.width c.args.g.now))

pub sum-requires-clause-same : goal.sum-requires-clause-same
sum-requires-clause-same c =
    rw (c.in_ok-a.ensures, c.in_ok-b-2.ensures, c.in_ok-b.ensures)
    (length-fit c.args.width c.args.a.now ∙ sym (length-map (fit c.args.width c.args.b.now) opposite ∙ length-fit c.args.width c.args.b.now))

pub sum-requires-clause-left : goal.sum-requires-clause-left
sum-requires-clause-left c =
    rw c.in_ok-a.ensures
    (AllBelow-fit c.args.width c.args.g.now.free c.args.a.now (omega (arith, c.constant-carry.ensures.below, ap (λ (l : Literal). l.var) c.constant-carry.ensures.literal)) c.requires.left.below)

pub sum-requires-clause-right : goal.sum-requires-clause-right
sum-requires-clause-right c =
    rw (c.in_ok-b-2.ensures, c.in_ok-b.ensures)
    (AllBelow-opposite c.args.g.now.free _
    (AllBelow-fit c.args.width c.args.g.now.free c.args.b.now (omega (arith, c.constant-carry.ensures.below, ap (λ (l : Literal). l.var) c.constant-carry.ensures.literal)) c.requires.right.below))

pub sum-requires-clause-room : goal.sum-requires-clause-room
sum-requires-clause-room c =
    let long : length c.in_ok-a.a ≡ c.args.width = ap length c.in_ok-a.ensures ∙ length-fit c.args.width c.args.a.now in
    omega (arith, long, c.requires.room)
