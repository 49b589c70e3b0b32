use Rattle.std.proofs.Common.{◌≤◌, ℕ, length, refl, sym, subst, arith}
use Rattle.std.specs.Prelude.{All}
use Rattle.sat_clauses.specs.Derivation.{IsUpTo}
use Rattle.cert_making.proofs.Queries.{clauses_bounded}
use Rattle.cert_making.proofs.DeriveLemmas.{no_goal_yet, ends}
use Rattle.cert_making.proofs.derive.derive.Goals as goal

pub invariant_of-part-clause-in_range : goal.invariant_of-part-clause-in_range
invariant_of-part-clause-in_range g c = subst (λ (n : ℕ). All (All (IsUpTo n)) c.args.givens.now) (sym c.highest-vars.ensures) (clauses_bounded c.args.givens.now)

pub loop-place-init : goal.loop-place-init
loop-place-init g c = record {
  way = no_goal_yet c.args.givens.now c.args.goals.now c.in_ok-search.search.kept c.in_ok-search.search.recorder 0 refl c.in_ok-search.ensures.begun;
  cores = c.in_ok-search.ensures.cores;
}

pub cover-requires-clause-cores : goal.cover-requires-clause-cores
cover-requires-clause-cores g c = c.loop-place.invariant.cores

pub cover-requires-clause-before : goal.cover-requires-clause-before
cover-requires-clause-before g c = c.loop-place.invariant.way

pub loop-place-preserved : goal.loop-place-preserved
loop-place-preserved g c = record { way = c.in_ok-is_covered.ensures.way c.if-not-is_covered.false; cores = c.cover.ensures.cores }

pub finished-requires : goal.finished-requires
finished-requires g c =
    let over : length c.args.goals.now ≤ c.loop-place.place = omega arith in
    ends c.args.givens.now c.args.goals.now c.loop-place.search.kept c.loop-place.search.recorder c.loop-place.place over c.loop-place.invariant.way
