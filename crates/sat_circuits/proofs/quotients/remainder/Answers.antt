use Rattle.std.proofs.Common.{◌≡◌, ◌≢◌, ◌<◌, ◌≤◌, ◌+◌, ◌*◌, ℕ, List, length, max, sym, ◌∙◌, ap, subst, arith, pos}
use Rattle.std.specs.Prelude.{int_rem}
use Rattle.std.proofs.Math.Nat.{mul-le-mul_left}
use Rattle.sat_clauses.specs.Literal.{Literal}
use Rattle.sat_circuits.specs.Circuit.{Circuit}
use Rattle.sat_circuits.specs.Meaning.{Means, StopsWithin}
use Rattle.sat_circuits.proofs.Extension.{OnErr-from, AllBelow-more}
use Rattle.sat_circuits.specs.Bits.{IsCutTo}
use Rattle.sat_circuits.specs.Words.{fit, word_value, IsOfWidth}
use Rattle.sat_circuits.specs.Quotients.{negate_where_gates, magnitudes_gates, remainder_gates}
use Rattle.sat_circuits.proofs.WordMeans.{sign-below}
use Rattle.sat_circuits.proofs.DivideMeans.{remainder-first_stops, remainder-second, remainder-exact, remainder_gates-adds, remainder_gates-means, remainder_gates-gives, StopsWithin-whole}
use Rattle.sat_circuits.proofs.quotients.remainder.Goals as goal
use Rattle.sat_circuits.proofs.quotients.remainder.Goals.{In_ok-_quotient, In_ok-signed}

pub magnitudes_divided-requires-clause-widths : goal.magnitudes_divided-requires-clause-widths
magnitudes_divided-requires-clause-widths c = (omega (arith, c.requires.left.signed), omega (arith, c.requires.widths.2, c.requires.widths.3))

pub magnitudes_divided-requires-clause-least : goal.magnitudes_divided-requires-clause-least
magnitudes_divided-requires-clause-least c = omega (arith, c.constant.ensures.below, ap (λ (l : Literal). l.var) c.constant.ensures.literal)

pub returns-in_err-_quotient-clause-err : goal.returns-in_err-_quotient-clause-err
returns-in_err-_quotient-clause-err c =
    let width : c.max.result + 1 ≡ max (length c.args.a.now) (length c.args.b.now) + 1 = omega arith in
    let stops : StopsWithin c.args.g.now c.magnitudes_divided.new.g (magnitudes_gates c.args.a.now c.args.b.now (c.max.result + 1) c.args.g.now).0 = c.in_err-_quotient.ensures.err in
    OnErr-from _ _
    (remainder-first_stops c.args.a.now c.args.b.now c.args.width c.args.g.now c.magnitudes_divided.new.g
    (subst (λ (k : ℕ). StopsWithin c.args.g.now c.magnitudes_divided.new.g (magnitudes_gates c.args.a.now c.args.b.now k c.args.g.now).0) width stops))

both : (c : In_ok-_quotient) → magnitudes_gates c.args.a.now c.args.b.now (max (length c.args.a.now) (length c.args.b.now) + 1) c.args.g.now ≡ (c.magnitudes_divided.new.g, (c.in_ok-_quotient._quotient, c.in_ok-_quotient.rest))
both c =
    let width : c.max.result + 1 ≡ max (length c.args.a.now) (length c.args.b.now) + 1 = omega arith in
    subst (λ (k : ℕ). magnitudes_gates c.args.a.now c.args.b.now k c.args.g.now ≡ (c.magnitudes_divided.new.g, (c.in_ok-_quotient._quotient, c.in_ok-_quotient.rest))) width c.in_ok-_quotient.ensures.exact

more : (c : In_ok-_quotient) → c.args.g.now.free ≤ c.magnitudes_divided.new.g.free
more c = omega (arith, c.in_ok-_quotient.ensures.shape.free)

room : (c : In_ok-_quotient) → c.magnitudes_divided.new.g.free + 1000 < 2147483648
room c =
    let most : c.max.result + 1 ≤ 35 = omega (arith, c.requires.widths.2, c.requires.widths.3) in
    omega (arith, c.in_ok-_quotient.ensures.shape.free, c.requires.room, most, mul-le-mul_left (11 * (c.max.result + 1) + 5) most)

pub negated_where-requires-clause-short : goal.negated_where-requires-clause-short
negated_where-requires-clause-short c = omega (arith, c.in_ok-_quotient.ensures.shape.second.long, c.requires.widths.2, c.requires.widths.3)

pub negated_where-requires-clause-choice : goal.negated_where-requires-clause-choice
negated_where-requires-clause-choice c =
    let wider : c.args.g.now.free ≤ c.magnitudes_divided.new.g.free = more (goal.at.negated_where-requires-clause-choice c).In_ok-_quotient in
    rw c.sign.ensures
    (sign-below c.magnitudes_divided.new.g.free c.args.a.now (omega (arith, wider, c.constant.ensures.below, ap (λ (l : Literal). l.var) c.constant.ensures.literal))
    (AllBelow-more c.args.g.now.free c.magnitudes_divided.new.g.free wider c.args.a.now c.requires.left.below))

pub negated_where-requires-clause-word : goal.negated_where-requires-clause-word
negated_where-requires-clause-word c = record { signed = omega (arith, c.in_ok-_quotient.ensures.shape.second.long); below = c.in_ok-_quotient.ensures.shape.second.below }

pub negated_where-requires-clause-room : goal.negated_where-requires-clause-room
negated_where-requires-clause-room c =
    omega (arith, room (goal.at.negated_where-requires-clause-room c).In_ok-_quotient, c.in_ok-_quotient.ensures.shape.second.long, c.requires.widths.2, c.requires.widths.3)

pub returns-in_err-signed-clause-err : goal.returns-in_err-signed-clause-err
returns-in_err-signed-clause-err c =
    OnErr-from _ _ (remainder-second c.args.a.now c.args.b.now c.args.width c.args.g.now c.magnitudes_divided.new.g c.in_ok-_quotient._quotient c.in_ok-_quotient.rest (both (goal.at.returns-in_err-signed-clause-err c).In_ok-_quotient) c.negated_where.new.g (subst (λ (l : Literal). StopsWithin c.magnitudes_divided.new.g c.negated_where.new.g (negate_where_gates l c.in_ok-_quotient.rest c.magnitudes_divided.new.g).0) c.sign.ensures c.in_err-signed.ensures.err))

whole : (c : In_ok-signed) → remainder_gates c.args.a.now c.args.b.now c.args.width c.args.g.now ≡ (c.negated_where.new.g, fit c.args.width c.in_ok-signed.signed)
whole c =
    let width : c.max.result + 1 ≡ max (length c.args.a.now) (length c.args.b.now) + 1 = omega arith in
    let parts : magnitudes_gates c.args.a.now c.args.b.now (max (length c.args.a.now) (length c.args.b.now) + 1) c.args.g.now ≡ (c.magnitudes_divided.new.g, (c.in_ok-_quotient._quotient, c.in_ok-_quotient.rest)) =
    subst (λ (k : ℕ). magnitudes_gates c.args.a.now c.args.b.now k c.args.g.now ≡ (c.magnitudes_divided.new.g, (c.in_ok-_quotient._quotient, c.in_ok-_quotient.rest))) width c.in_ok-_quotient.ensures.exact
    in
    remainder-exact c.args.a.now c.args.b.now c.args.width c.args.g.now c.magnitudes_divided.new.g c.in_ok-_quotient._quotient c.in_ok-_quotient.rest parts c.negated_where.new.g c.in_ok-signed.signed (subst (λ (l : Literal). negate_where_gates l c.in_ok-_quotient.rest c.magnitudes_divided.new.g ≡ (c.negated_where.new.g, c.in_ok-signed.signed)) c.sign.ensures c.in_ok-signed.ensures.exact)

pub fitted-requires : goal.fitted-requires
fitted-requires c = omega (arith, c.in_ok-signed.ensures.shape.long, c.in_ok-_quotient.ensures.shape.second.long)

pub returns-in_err-cut-clause-err : goal.returns-in_err-cut-clause-err
returns-in_err-cut-clause-err c =
    OnErr-from _ _ (StopsWithin-whole c.args.g.now c.negated_where.new.g _ _ (whole (goal.at.returns-in_err-cut-clause-err c).In_ok-signed) (remainder_gates-adds c.args.a.now c.args.b.now c.args.width c.args.g.now))

pub returns-clause-exact : goal.returns-clause-exact
returns-clause-exact c = whole (goal.at.returns-clause-exact c).In_ok-signed ∙ ap (λ w. (c.negated_where.new.g, w)) (sym c.in_ok-cut.ensures)

pub returns-clause-value : goal.returns-clause-value
returns-clause-value c =
    subst (λ (x : Circuit × List Literal). Means c.args.g.now x (IsOfWidth c.args.width) (λ v y. word_value v c.args.b.now ≢ pos 0 → IsCutTo c.args.width (int_rem (word_value v c.args.a.now) (word_value v c.args.b.now)) (word_value v y)))
    (returns-clause-exact c)
    (remainder_gates-gives c.args.a.now c.args.b.now c.args.g.now c.constant.ensures.truth (omega (arith, c.constant.ensures.below, ap (λ (l : Literal). l.var) c.constant.ensures.literal)) c.requires.left c.requires.right c.args.width c.requires.widths.0)

pub returns-clause-next : goal.returns-clause-next
returns-clause-next c =
    let most : max (length c.args.a.now) (length c.args.b.now) + 1 ≤ 35 = omega (arith, c.requires.widths.2, c.requires.widths.3) in
    omega (
      arith,
      ap (λ (x : Circuit × List Literal). x.0.free) (returns-clause-exact c),
      (remainder_gates-means c.args.a.now c.args.b.now c.args.g.now c.constant.ensures.truth (omega (arith, c.constant.ensures.below, ap (λ (l : Literal). l.var) c.constant.ensures.literal)) c.requires.left c.requires.right c.args.width c.requires.widths.0).shape.1,
      most,
      mul-le-mul_left (11 * (max (length c.args.a.now) (length c.args.b.now) + 1) + 5) most,
    )
