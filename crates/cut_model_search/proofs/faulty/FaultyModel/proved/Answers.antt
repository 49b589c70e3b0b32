use Rattle.std.proofs.Common.{All, sym, subst}
use Rattle.sat_clauses.specs.Hints.{HasNoOpposites}
use Rattle.sat_clauses.specs.States.{IsOverBits}
use Rattle.sat_encoding_laws.specs.Lists.{system_of}
use Rattle.cert_making.proofs.PartLemmas.{all_among}
use Rattle.cut_model_search.specs.FaultyModels.{whole_in}
use Rattle.cut_model_search.proofs.faulty.FaultyModel.proved.Goals as goal

pub derive_parts-requires-clause-over_bits : goal.derive_parts-requires-clause-over_bits
derive_parts-requires-clause-over_bits g c =
    all_among (IsOverBits c.in_ok-system.system) c.args.invariant.now c.in_ok-clauses.clauses (subst (λ s. All (IsOverBits s) c.args.invariant.now) (sym c.in_ok-system.ensures) c.requires.over_bits) c.in_ok-clauses.ensures

pub derive_parts-requires-clause-apart : goal.derive_parts-requires-clause-apart
derive_parts-requires-clause-apart g c = all_among HasNoOpposites c.args.invariant.now c.in_ok-clauses.clauses c.requires.apart c.in_ok-clauses.ensures

pub returns-in-Some-clause-over_bits : goal.returns-in-Some-clause-over_bits
returns-in-Some-clause-over_bits g c = all_among (IsOverBits (system_of (whole_in c.args.self.now))) c.args.invariant.now c.in_ok-clauses.clauses c.requires.over_bits c.in_ok-clauses.ensures

pub returns-in-Some-clause-apart : goal.returns-in-Some-clause-apart
returns-in-Some-clause-apart g c = all_among HasNoOpposites c.args.invariant.now c.in_ok-clauses.clauses c.requires.apart c.in_ok-clauses.ensures

pub derive_parts-requires-2-clause-apart : goal.derive_parts-requires-2-clause-apart
derive_parts-requires-2-clause-apart g c = subst (All HasNoOpposites) (sym c.in_ok-clauses-2.ensures) c.requires.apart

pub returns-clause-apart : goal.returns-clause-apart
returns-clause-apart g c = subst (All HasNoOpposites) (sym c.in_ok-clauses-2.ensures) c.requires.apart
