use Rattle.std.proofs.Common.{◌≡◌, ◌+◌, ℕ, length, max, sym, ◌∙◌, ap, subst, arith}
use Rattle.std.specs.Prelude.{int_lt}
use Rattle.sat_clauses.specs.Literal.{Literal}
use Rattle.sat_circuits.specs.Circuit.{Circuit}
use Rattle.sat_circuits.specs.Meaning.{StopsWithin, GivesBool}
use Rattle.sat_circuits.proofs.Extension.{OnErr-from}
use Rattle.sat_circuits.specs.Words.{word_value}
use Rattle.sat_circuits.specs.Sums.{subtract_gates}
use Rattle.sat_circuits.proofs.TestMeans.{less_gates-gives, less_gates-exact, less_gates-stops}
use Rattle.sat_circuits.proofs.compare.is_less.Goals as goal

pub returns-in_err-difference-clause-err : goal.returns-in_err-difference-clause-err
returns-in_err-difference-clause-err c =
    let width : c.max.result + 1 ≡ max (length c.args.a.now) (length c.args.b.now) + 1 = omega arith in
    let stops : StopsWithin c.args.g.now c.difference.new.g (subtract_gates c.args.a.now c.args.b.now (c.max.result + 1) c.args.g.now).0 = c.in_err-difference.ensures.err in
    OnErr-from _ _
    (less_gates-stops c.args.a.now c.args.b.now c.args.g.now _
    (subst (λ (n : ℕ). StopsWithin c.args.g.now c.difference.new.g (subtract_gates c.args.a.now c.args.b.now n c.args.g.now).0) width stops))

pub returns-clause-exact : goal.returns-clause-exact
returns-clause-exact c =
    let width : c.max.result + 1 ≡ max (length c.args.a.now) (length c.args.b.now) + 1 = omega arith in
    let made : subtract_gates c.args.a.now c.args.b.now (c.max.result + 1) c.args.g.now ≡ (c.difference.new.g, c.in_ok-difference.difference) = c.in_ok-difference.ensures.exact in
    less_gates-exact c.args.a.now c.args.b.now c.args.g.now c.difference.new.g c.in_ok-difference.difference
    (subst (λ (n : ℕ). subtract_gates c.args.a.now c.args.b.now n c.args.g.now ≡ (c.difference.new.g, c.in_ok-difference.difference)) width made)
    ∙ ap (λ l. (c.difference.new.g, l)) (sym c.sign.ensures)

pub returns-clause-value : goal.returns-clause-value
returns-clause-value c =
    subst (λ (x : Circuit × Literal). GivesBool c.args.g.now x.0 x.1 (λ v. int_lt (word_value v c.args.a.now) (word_value v c.args.b.now))) (returns-clause-exact c)
    (less_gates-gives c.args.a.now c.args.b.now c.args.g.now c.constant.ensures.truth (omega (arith, c.constant.ensures.below, ap (λ (l : Literal). l.var) c.constant.ensures.literal)) c.requires.left c.requires.right)
