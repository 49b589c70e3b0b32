use Rattle.std.proofs.Common.{◌≡◌, ◌≢◌, ◌<◌, ◌≤◌, ◌+◌, ◌*◌, ℕ, List, length, max, sym, ◌∙◌, ap, subst, arith, pos}
use Rattle.std.specs.Prelude.{int_div}
use Rattle.std.proofs.Math.Nat.{mul-le-mul_left}
use Rattle.sat_clauses.specs.Literal.{Literal}
use Rattle.sat_circuits.specs.Circuit.{Circuit}
use Rattle.sat_circuits.specs.Gates.{xor_gate}
use Rattle.sat_circuits.specs.Meaning.{Means, StopsWithin}
use Rattle.sat_circuits.proofs.Extension.{OnErr-from, AllBelow-more}
use Rattle.sat_circuits.specs.Bits.{IsCutTo}
use Rattle.sat_circuits.specs.Words.{fit, sign_of, word_value, IsOfWidth}
use Rattle.sat_circuits.specs.Quotients.{magnitudes_gates, divide_gates}
use Rattle.sat_circuits.proofs.WordMeans.{sign-below}
use Rattle.sat_circuits.proofs.DivideMeans.{divide-first_stops, divide-second, divide-third, divide-exact, divide_gates-adds, divide_gates-means, divide_gates-gives, StopsWithin-whole}
use Rattle.sat_circuits.proofs.quotients.divide.Goals as goal
use Rattle.sat_circuits.proofs.quotients.divide.Goals.{In_ok-quotient, In_ok-differ, In_ok-signed}

pub magnitudes_divided-requires-clause-widths : goal.magnitudes_divided-requires-clause-widths
magnitudes_divided-requires-clause-widths c = (omega (arith, c.requires.left.signed), omega (arith, c.requires.widths.2, c.requires.widths.3))

pub magnitudes_divided-requires-clause-least : goal.magnitudes_divided-requires-clause-least
magnitudes_divided-requires-clause-least c = omega (arith, c.constant.ensures.below, ap (λ (l : Literal). l.var) c.constant.ensures.literal)

pub returns-in_err-quotient-clause-err : goal.returns-in_err-quotient-clause-err
returns-in_err-quotient-clause-err c =
    let width : c.max.result + 1 ≡ max (length c.args.a.now) (length c.args.b.now) + 1 = omega arith in
    let stops : StopsWithin c.args.g.now c.magnitudes_divided.new.g (magnitudes_gates c.args.a.now c.args.b.now (c.max.result + 1) c.args.g.now).0 = c.in_err-quotient.ensures.err in
    OnErr-from _ _
    (divide-first_stops c.args.a.now c.args.b.now c.args.width c.args.g.now c.magnitudes_divided.new.g
    (subst (λ (k : ℕ). StopsWithin c.args.g.now c.magnitudes_divided.new.g (magnitudes_gates c.args.a.now c.args.b.now k c.args.g.now).0) width stops))

both : (c : In_ok-quotient) → magnitudes_gates c.args.a.now c.args.b.now (max (length c.args.a.now) (length c.args.b.now) + 1) c.args.g.now ≡ (c.magnitudes_divided.new.g, (c.in_ok-quotient.quotient, c.in_ok-quotient._rest))
both c =
    let width : c.max.result + 1 ≡ max (length c.args.a.now) (length c.args.b.now) + 1 = omega arith in
    subst (λ (k : ℕ). magnitudes_gates c.args.a.now c.args.b.now k c.args.g.now ≡ (c.magnitudes_divided.new.g, (c.in_ok-quotient.quotient, c.in_ok-quotient._rest))) width c.in_ok-quotient.ensures.exact

more : (c : In_ok-quotient) → c.args.g.now.free ≤ c.magnitudes_divided.new.g.free
more c = omega (arith, c.in_ok-quotient.ensures.shape.free)

room : (c : In_ok-quotient) → c.magnitudes_divided.new.g.free + 1000 < 2147483648
room c =
    let most : c.max.result + 1 ≤ 35 = omega (arith, c.requires.widths.2, c.requires.widths.3) in
    omega (arith, c.in_ok-quotient.ensures.shape.free, c.requires.room, most, mul-le-mul_left (11 * (c.max.result + 1) + 5) most)

pub xor-requires-clause-left : goal.xor-requires-clause-left
xor-requires-clause-left c =
    let wider : c.args.g.now.free ≤ c.magnitudes_divided.new.g.free = more (goal.at.xor-requires-clause-left c).In_ok-quotient in
    rw c.sign.ensures
    (sign-below c.magnitudes_divided.new.g.free c.args.a.now (omega (arith, wider, c.constant.ensures.below, ap (λ (l : Literal). l.var) c.constant.ensures.literal))
    (AllBelow-more c.args.g.now.free c.magnitudes_divided.new.g.free wider c.args.a.now c.requires.left.below))

pub xor-requires-clause-right : goal.xor-requires-clause-right
xor-requires-clause-right c =
    let wider : c.args.g.now.free ≤ c.magnitudes_divided.new.g.free = more (goal.at.xor-requires-clause-right c).In_ok-quotient in
    rw c.sign-2.ensures
    (sign-below c.magnitudes_divided.new.g.free c.args.b.now (omega (arith, wider, c.constant.ensures.below, ap (λ (l : Literal). l.var) c.constant.ensures.literal))
    (AllBelow-more c.args.g.now.free c.magnitudes_divided.new.g.free wider c.args.b.now c.requires.right.below))

pub xor-requires-clause-room : goal.xor-requires-clause-room
xor-requires-clause-room c = omega (arith, room (goal.at.xor-requires-clause-room c).In_ok-quotient)

pub returns-in_err-differ-clause-err : goal.returns-in_err-differ-clause-err
returns-in_err-differ-clause-err c =
    OnErr-from _ _
    (divide-second c.args.a.now c.args.b.now c.args.width c.args.g.now c.magnitudes_divided.new.g c.in_ok-quotient.quotient c.in_ok-quotient._rest (both (goal.at.returns-in_err-differ-clause-err c).In_ok-quotient) c.xor.new.self
    (subst (λ (l : Literal). StopsWithin c.magnitudes_divided.new.g c.xor.new.self (xor_gate l (sign_of c.args.b.now) c.magnitudes_divided.new.g).0) c.sign.ensures
    (subst (λ (l : Literal). StopsWithin c.magnitudes_divided.new.g c.xor.new.self (xor_gate c.sign.result l c.magnitudes_divided.new.g).0) c.sign-2.ensures c.in_err-differ.ensures.err)))

differs : (c : In_ok-differ) → xor_gate (sign_of c.args.a.now) (sign_of c.args.b.now) c.magnitudes_divided.new.g ≡ (c.xor.new.self, c.in_ok-differ.differ)
differs c =
    subst (λ (l : Literal). xor_gate l (sign_of c.args.b.now) c.magnitudes_divided.new.g ≡ (c.xor.new.self, c.in_ok-differ.differ)) c.sign.ensures
    (subst (λ (l : Literal). xor_gate c.sign.result l c.magnitudes_divided.new.g ≡ (c.xor.new.self, c.in_ok-differ.differ)) c.sign-2.ensures c.in_ok-differ.ensures.exact)

pub negated_where-requires-clause-short : goal.negated_where-requires-clause-short
negated_where-requires-clause-short c = omega (arith, c.in_ok-quotient.ensures.shape.first.long, c.requires.widths.2, c.requires.widths.3)

pub negated_where-requires-clause-choice : goal.negated_where-requires-clause-choice
negated_where-requires-clause-choice c = c.in_ok-differ.ensures.value.shape

pub negated_where-requires-clause-word : goal.negated_where-requires-clause-word
negated_where-requires-clause-word c = record {
  signed = omega (arith, c.in_ok-quotient.ensures.shape.first.long);
  below = AllBelow-more c.magnitudes_divided.new.g.free c.xor.new.self.free (omega (arith, c.in_ok-differ.ensures.next)) _ c.in_ok-quotient.ensures.shape.first.below;
}

pub negated_where-requires-clause-room : goal.negated_where-requires-clause-room
negated_where-requires-clause-room c =
    omega (arith, room (goal.at.negated_where-requires-clause-room c).In_ok-quotient, c.in_ok-quotient.ensures.shape.first.long, c.requires.widths.2, c.requires.widths.3, c.in_ok-differ.ensures.next)

pub returns-in_err-signed-clause-err : goal.returns-in_err-signed-clause-err
returns-in_err-signed-clause-err c =
    OnErr-from _ _ (divide-third c.args.a.now c.args.b.now c.args.width c.args.g.now c.magnitudes_divided.new.g c.in_ok-quotient.quotient c.in_ok-quotient._rest (both (goal.at.returns-in_err-signed-clause-err c).In_ok-quotient) c.xor.new.self c.in_ok-differ.differ (differs (goal.at.returns-in_err-signed-clause-err c).In_ok-differ) c.negated_where.new.g c.in_err-signed.ensures.err)

whole : (c : In_ok-signed) → divide_gates c.args.a.now c.args.b.now c.args.width c.args.g.now ≡ (c.negated_where.new.g, fit c.args.width c.in_ok-signed.signed)
whole c =
    let width : c.max.result + 1 ≡ max (length c.args.a.now) (length c.args.b.now) + 1 = omega arith in
    let parts : magnitudes_gates c.args.a.now c.args.b.now (max (length c.args.a.now) (length c.args.b.now) + 1) c.args.g.now ≡ (c.magnitudes_divided.new.g, (c.in_ok-quotient.quotient, c.in_ok-quotient._rest)) =
    subst (λ (k : ℕ). magnitudes_gates c.args.a.now c.args.b.now k c.args.g.now ≡ (c.magnitudes_divided.new.g, (c.in_ok-quotient.quotient, c.in_ok-quotient._rest))) width c.in_ok-quotient.ensures.exact
    in
    let apart : xor_gate (sign_of c.args.a.now) (sign_of c.args.b.now) c.magnitudes_divided.new.g ≡ (c.xor.new.self, c.in_ok-differ.differ) =
    subst (λ (l : Literal). xor_gate l (sign_of c.args.b.now) c.magnitudes_divided.new.g ≡ (c.xor.new.self, c.in_ok-differ.differ)) c.sign.ensures
    (subst (λ (l : Literal). xor_gate c.sign.result l c.magnitudes_divided.new.g ≡ (c.xor.new.self, c.in_ok-differ.differ)) c.sign-2.ensures c.in_ok-differ.ensures.exact)
    in
    divide-exact c.args.a.now c.args.b.now c.args.width c.args.g.now c.magnitudes_divided.new.g c.in_ok-quotient.quotient c.in_ok-quotient._rest parts c.xor.new.self c.in_ok-differ.differ apart c.negated_where.new.g c.in_ok-signed.signed c.in_ok-signed.ensures.exact

pub fitted-requires : goal.fitted-requires
fitted-requires c = omega (arith, c.in_ok-signed.ensures.shape.long, c.in_ok-quotient.ensures.shape.first.long)

pub returns-in_err-cut-clause-err : goal.returns-in_err-cut-clause-err
returns-in_err-cut-clause-err c =
    OnErr-from _ _ (StopsWithin-whole c.args.g.now c.negated_where.new.g _ _ (whole (goal.at.returns-in_err-cut-clause-err c).In_ok-signed) (divide_gates-adds c.args.a.now c.args.b.now c.args.width c.args.g.now))

pub returns-clause-exact : goal.returns-clause-exact
returns-clause-exact c = whole (goal.at.returns-clause-exact c).In_ok-signed ∙ ap (λ w. (c.negated_where.new.g, w)) (sym c.in_ok-cut.ensures)

pub returns-clause-value : goal.returns-clause-value
returns-clause-value c =
    subst (λ (x : Circuit × List Literal). Means c.args.g.now x (IsOfWidth c.args.width) (λ v y. word_value v c.args.b.now ≢ pos 0 → IsCutTo c.args.width (int_div (word_value v c.args.a.now) (word_value v c.args.b.now)) (word_value v y)))
    (returns-clause-exact c)
    (divide_gates-gives c.args.a.now c.args.b.now c.args.g.now c.constant.ensures.truth (omega (arith, c.constant.ensures.below, ap (λ (l : Literal). l.var) c.constant.ensures.literal)) c.requires.left c.requires.right c.args.width c.requires.widths.0)

pub returns-clause-next : goal.returns-clause-next
returns-clause-next c =
    let most : max (length c.args.a.now) (length c.args.b.now) + 1 ≤ 35 = omega (arith, c.requires.widths.2, c.requires.widths.3) in
    omega (
      arith,
      ap (λ (x : Circuit × List Literal). x.0.free) (returns-clause-exact c),
      (divide_gates-means c.args.a.now c.args.b.now c.args.g.now c.constant.ensures.truth (omega (arith, c.constant.ensures.below, ap (λ (l : Literal). l.var) c.constant.ensures.literal)) c.requires.left c.requires.right c.args.width c.requires.widths.0).shape.1,
      most,
      mul-le-mul_left (11 * (max (length c.args.a.now) (length c.args.b.now) + 1) + 5) most,
    )
