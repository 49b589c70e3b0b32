use Rattle.std.proofs.Common.{◌≡◌, ◌∷◌, ℕ, length, take, sym, ◌∙◌, ap, subst, arith}
use Rattle.sat_clauses.specs.Literal.{Literal}
use Rattle.sat_circuits.specs.Meaning.{StopsWithin}
use Rattle.sat_circuits.proofs.Extension.{OnErr-from, StopsWithin-none, AllBelow-more}
use Rattle.sat_circuits.specs.Sums.{subtract_gates}
use Rattle.sat_circuits.specs.Quotients.{choose_gates}
use Rattle.sat_circuits.specs.Words.{IsWordOf}
use Rattle.std.proofs.lemmas.List.{length-take-le}
use Rattle.sat_circuits.proofs.ProductMeans.{AllBelow-take}
use Rattle.sat_circuits.proofs.QuotientMeans.{divide_bit-adds}
use Rattle.sat_circuits.proofs.DivideMeans.{divide_bit-first, divide_bit-second, divide_bit-third, divide_bit-exact}
use Rattle.sat_circuits.proofs.quotients.divided_bit.Goals as goal
use Rattle.sat_circuits.proofs.quotients.divided_bit.Goals.{In_ok-shifted}

-- the remainder with its bit, at the divisor's width
shifted_is : (c : In_ok-shifted) → c.in_ok-shifted.shifted ≡ take (length c.args.divisor.now) (c.args.bit ∷ c.args.rest.now)
shifted_is c = c.in_ok-shifted.ensures ∙ ap (λ k. take k (c.args.bit ∷ c.args.rest.now)) c.requires.same

long : (c : In_ok-shifted) → length c.in_ok-shifted.shifted ≡ length c.args.divisor.now
long c = ap length (shifted_is c) ∙ length-take-le (length c.args.divisor.now) (c.args.bit ∷ c.args.rest.now) (omega (arith, c.requires.same))

below : (c : In_ok-shifted) → IsWordOf c.args.g.now c.in_ok-shifted.shifted
below c = rw (shifted_is c) (record {
  signed = omega (arith, length-take-le (length c.args.divisor.now) (c.args.bit ∷ c.args.rest.now) (omega (arith, c.requires.same)), c.requires.widths.0);
  below = AllBelow-take c.args.g.now.free (length c.args.divisor.now) (c.args.bit ∷ c.args.rest.now) (c.requires.bit, c.requires.rest);
})

pub returns-in_err-shifted-clause-err : goal.returns-in_err-shifted-clause-err
returns-in_err-shifted-clause-err c = OnErr-from _ _ (StopsWithin-none c.args.g.now _ (divide_bit-adds c.args.divisor.now c.args.bit c.args.rest.now c.args.g.now))

pub is_less-requires-clause-short : goal.is_less-requires-clause-short
is_less-requires-clause-short c = (omega (arith, long (goal.at.is_less-requires-clause-short c).In_ok-shifted, c.requires.widths.1), omega (arith, c.requires.widths.1))

pub is_less-requires-clause-left : goal.is_less-requires-clause-left
is_less-requires-clause-left c = below (goal.at.is_less-requires-clause-left c).In_ok-shifted

pub is_less-requires-clause-right : goal.is_less-requires-clause-right
is_less-requires-clause-right c = record { signed = c.requires.widths.0; below = c.requires.divisor }

pub is_less-requires-clause-room : goal.is_less-requires-clause-room
is_less-requires-clause-room c = omega (arith, long (goal.at.is_less-requires-clause-room c).In_ok-shifted, c.requires.room)

pub returns-in_err-less-clause-err : goal.returns-in_err-less-clause-err
returns-in_err-less-clause-err c =
    OnErr-from _ _ (divide_bit-first c.args.divisor.now c.args.bit c.args.rest.now c.in_ok-shifted.shifted c.args.g.now (shifted_is (goal.at.returns-in_err-less-clause-err c).In_ok-shifted) c.is_less.new.g c.in_err-less.ensures.err)

pub difference-requires-clause-left : goal.difference-requires-clause-left
difference-requires-clause-left c =
    let w : IsWordOf c.args.g.now c.in_ok-shifted.shifted = below (goal.at.difference-requires-clause-left c).In_ok-shifted in
    record { signed = w.signed; below = AllBelow-more c.args.g.now.free c.is_less.new.g.free c.in_ok-less.ensures.value.extends.counted _ w.below }

pub difference-requires-clause-right : goal.difference-requires-clause-right
difference-requires-clause-right c = record {
  signed = c.requires.widths.0;
  below = AllBelow-more c.args.g.now.free c.is_less.new.g.free c.in_ok-less.ensures.value.extends.counted _ c.requires.divisor;
}

pub difference-requires-clause-room : goal.difference-requires-clause-room
difference-requires-clause-room c =
    omega (arith, long (goal.at.difference-requires-clause-room c).In_ok-shifted, c.in_ok-less.ensures.next, c.len.ensures, c.requires.room)

pub returns-in_err-difference-clause-err : goal.returns-in_err-difference-clause-err
returns-in_err-difference-clause-err c =
    OnErr-from _ _
    (divide_bit-second c.args.divisor.now c.args.bit c.args.rest.now c.in_ok-shifted.shifted c.args.g.now (shifted_is (goal.at.returns-in_err-difference-clause-err c).In_ok-shifted) c.is_less.new.g c.in_ok-less.less c.in_ok-less.ensures.exact
    c.difference.new.g
    (subst (λ (k : ℕ). StopsWithin c.is_less.new.g c.difference.new.g (subtract_gates c.in_ok-shifted.shifted c.args.divisor.now k c.is_less.new.g).0) c.len.ensures c.in_err-difference.ensures.err))

pub choose-requires-clause-same : goal.choose-requires-clause-same
choose-requires-clause-same c = c.in_ok-difference.ensures.value.shape.long ∙ c.len.ensures ∙ sym (long (goal.at.choose-requires-clause-same c).In_ok-shifted)

pub choose-requires-clause-choice : goal.choose-requires-clause-choice
choose-requires-clause-choice c = rw c.neg.ensures (omega (arith, c.in_ok-less.ensures.value.shape, c.in_ok-difference.ensures.next))

pub choose-requires-clause-left : goal.choose-requires-clause-left
choose-requires-clause-left c = c.in_ok-difference.ensures.value.shape.below

pub choose-requires-clause-right : goal.choose-requires-clause-right
choose-requires-clause-right c =
    AllBelow-more c.args.g.now.free c.difference.new.g.free (omega (arith, c.in_ok-less.ensures.next, c.in_ok-difference.ensures.next)) _ (below (goal.at.choose-requires-clause-right c).In_ok-shifted).below

pub choose-requires-clause-room : goal.choose-requires-clause-room
choose-requires-clause-room c =
    omega (arith, long (goal.at.choose-requires-clause-room c).In_ok-shifted, c.in_ok-less.ensures.next, c.in_ok-difference.ensures.next, c.in_ok-difference.ensures.value.shape.long, c.len.ensures, c.requires.room)

pub returns-in_err-rest-clause-err : goal.returns-in_err-rest-clause-err
returns-in_err-rest-clause-err c =
    OnErr-from _ _
    (divide_bit-third c.args.divisor.now c.args.bit c.args.rest.now c.in_ok-shifted.shifted c.args.g.now (shifted_is (goal.at.returns-in_err-rest-clause-err c).In_ok-shifted) c.is_less.new.g c.in_ok-less.less c.in_ok-less.ensures.exact
    c.difference.new.g c.in_ok-difference.difference
    (subst (λ (k : ℕ). subtract_gates c.in_ok-shifted.shifted c.args.divisor.now k c.is_less.new.g ≡ (c.difference.new.g, c.in_ok-difference.difference)) c.len.ensures c.in_ok-difference.ensures.exact)
    c.choose.new.g
    (subst (λ (l : Literal). StopsWithin c.difference.new.g c.choose.new.g (choose_gates l c.in_ok-difference.difference c.in_ok-shifted.shifted c.difference.new.g).0) c.neg.ensures c.in_err-rest.ensures.err))

pub returns-clause-exact : goal.returns-clause-exact
returns-clause-exact c =
    divide_bit-exact c.args.divisor.now c.args.bit c.args.rest.now c.in_ok-shifted.shifted c.args.g.now (shifted_is (goal.at.returns-clause-exact c).In_ok-shifted) c.is_less.new.g c.in_ok-less.less c.in_ok-less.ensures.exact
    c.difference.new.g c.in_ok-difference.difference
    (subst (λ (k : ℕ). subtract_gates c.in_ok-shifted.shifted c.args.divisor.now k c.is_less.new.g ≡ (c.difference.new.g, c.in_ok-difference.difference)) c.len.ensures c.in_ok-difference.ensures.exact)
    c.choose.new.g c.in_ok-rest.rest
    (subst (λ (l : Literal). choose_gates l c.in_ok-difference.difference c.in_ok-shifted.shifted c.difference.new.g ≡ (c.choose.new.g, c.in_ok-rest.rest)) c.neg.ensures c.in_ok-rest.ensures.exact)
    ∙ ap (λ l. (c.choose.new.g, (l, c.in_ok-rest.rest))) (sym c.neg-2.ensures)
