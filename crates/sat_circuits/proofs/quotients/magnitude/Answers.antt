use Rattle.std.proofs.Common.{◌≡◌, ◌+◌, ◌*◌, ℕ, List, length, sym, ◌∙◌, ap, subst, arith}
use Rattle.sat_clauses.specs.Literal.{Literal}
use Rattle.sat_circuits.specs.Circuit.{Circuit}
use Rattle.sat_circuits.specs.Meaning.{StopsWithin}
use Rattle.sat_circuits.proofs.Extension.{OnErr-from, StopsWithin-none}
use Rattle.sat_circuits.specs.Words.{fit, IsSized}
use Rattle.sat_circuits.specs.Quotients.{negate_where_gates, magnitude_gates}
use Rattle.sat_circuits.proofs.WordMeans.{AllBelow-fit, length-fit, sign-below}
use Rattle.sat_circuits.proofs.QuotientMeans.{magnitude_gates-adds}
use Rattle.sat_circuits.proofs.quotients.magnitude.Goals as goal
use Rattle.sat_circuits.proofs.quotients.magnitude.Goals.{In_ok-wide}

long : (c : In_ok-wide) → length c.in_ok-wide.wide ≡ c.args.width
long c = ap length c.in_ok-wide.ensures ∙ length-fit c.args.width c.args.word.now

pub returns-in_err-wide-clause-err : goal.returns-in_err-wide-clause-err
returns-in_err-wide-clause-err c = OnErr-from _ _ (StopsWithin-none c.args.g.now _ (magnitude_gates-adds c.args.word.now c.args.width c.args.g.now))

pub negated_where-requires-clause-short : goal.negated_where-requires-clause-short
negated_where-requires-clause-short c = omega (arith, long (goal.at.negated_where-requires-clause-short c).In_ok-wide, c.requires.widths.1)

pub negated_where-requires-clause-choice : goal.negated_where-requires-clause-choice
negated_where-requires-clause-choice c = rw c.sign.ensures (sign-below c.args.g.now.free c.args.word.now (omega (arith, c.requires.least)) c.requires.word.below)

pub negated_where-requires-clause-word : goal.negated_where-requires-clause-word
negated_where-requires-clause-word c =
    rw c.in_ok-wide.ensures
    (record {
      signed = omega (arith, length-fit c.args.width c.args.word.now, c.requires.widths.0);
      below = AllBelow-fit c.args.width c.args.g.now.free c.args.word.now (omega (arith, c.requires.least)) c.requires.word.below;
    })

pub negated_where-requires-clause-room : goal.negated_where-requires-clause-room
negated_where-requires-clause-room c = omega (arith, long (goal.at.negated_where-requires-clause-room c).In_ok-wide, c.requires.room)

pub returns-in_err-signed-clause-err : goal.returns-in_err-signed-clause-err
unfolding magnitude_gates
returns-in_err-signed-clause-err c =
    let is : magnitude_gates c.args.word.now c.args.width c.args.g.now ≡ negate_where_gates c.sign.result c.in_ok-wide.wide c.args.g.now =
    ap (λ l. negate_where_gates l (fit c.args.width c.args.word.now) c.args.g.now) (sym c.sign.ensures) ∙ ap (λ w. negate_where_gates c.sign.result w c.args.g.now) (sym c.in_ok-wide.ensures)
    in
    OnErr-from _ _ (subst (λ (x : Circuit × List Literal). StopsWithin c.args.g.now c.negated_where.new.g x.0) (sym is) c.in_err-signed.ensures.err)

pub returns-clause-exact : goal.returns-clause-exact
unfolding magnitude_gates
returns-clause-exact c =
    ap (λ l. negate_where_gates l (fit c.args.width c.args.word.now) c.args.g.now) (sym c.sign.ensures) ∙ ap (λ w. negate_where_gates c.sign.result w c.args.g.now) (sym c.in_ok-wide.ensures)
    ∙ c.in_ok-signed.ensures.exact

pub returns-clause-shape : goal.returns-clause-shape
returns-clause-shape c =
    subst (λ (k : ℕ). IsSized k (c.args.g.now.free + 6 * k) c.negated_where.new.g c.in_ok-signed.signed) (long (goal.at.returns-clause-shape c).In_ok-wide) c.in_ok-signed.ensures.shape
