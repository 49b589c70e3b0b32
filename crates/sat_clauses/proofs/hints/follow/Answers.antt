use Rattle.std.proofs.Common.{◌≡◌, None, length, replicate, sym, ap, ◌∙◌, subst, arith}
use Rattle.std.specs.Result.{result_err}
use Rattle.sat_clauses.specs.Hints.{made_false, HasNoOpposites}
use Rattle.sat_clauses.specs.Fault.{fault_of}
use Rattle.sat_clauses.proofs.FalseLemmas.{length-made_false, free_by_length}
use Rattle.sat_clauses.proofs.FaultLemmas.{accepted-by_fault, bad_hint-by_fault, no_conflict-by_fault}
use Rattle.sat_clauses.proofs.hints.follow.Goals as goal

pub assume_false-requires-clause-no_opposites : goal.assume_false-requires-clause-no_opposites
assume_false-requires-clause-no_opposites c = subst HasNoOpposites (sym c.lits.ensures) c.requires.no_opposites

pub use_hints-outcome-requires : goal.use_hints-outcome-requires
use_hints-outcome-requires c = λ k d lt j l lt'.
    let here = c.requires.list_in_range k d lt j l lt' in
    omega (arith, here, ap length c.assume_false.ensures, length-made_false c.args.trail.now c.lits.result.now)

pub returns-clause-same : goal.returns-clause-same
returns-clause-same c =
    let places : length c.use_hints-outcome.new.trail ≡ length c.args.trail.now = c.use_hints-outcome.ensures.same_vars ∙ (ap length c.assume_false.ensures ∙ length-made_false c.args.trail.now c.lits.result.now) in
    c.undo.ensures ∙ (ap (λ n. replicate n None) places ∙ sym (free_by_length c.args.trail.now c.requires.free))

pub returns-clause-accepted : goal.returns-clause-accepted
returns-clause-accepted c =
    let start = made_false c.args.trail.now c.args.step.now.clause in
    let fault : result_err c.use_hints-outcome.result ≡ fault_of c.args.clauses.now.clauses start 1 c.args.step.now.hints = cc in
    accepted-by_fault c.args.clauses.now.clauses start c.args.step.now.hints c.use_hints-outcome.result fault

pub returns-clause-bad_hint : goal.returns-clause-bad_hint
returns-clause-bad_hint c =
    let start = made_false c.args.trail.now c.args.step.now.clause in
    let fault : result_err c.use_hints-outcome.result ≡ fault_of c.args.clauses.now.clauses start 1 c.args.step.now.hints = cc in
    bad_hint-by_fault c.args.clauses.now.clauses start c.args.step.now.hints c.use_hints-outcome.result fault

pub returns-clause-no_conflict : goal.returns-clause-no_conflict
returns-clause-no_conflict c =
    let start = made_false c.args.trail.now c.args.step.now.clause in
    let fault : result_err c.use_hints-outcome.result ≡ fault_of c.args.clauses.now.clauses start 1 c.args.step.now.hints = cc in
    no_conflict-by_fault c.args.clauses.now.clauses start c.args.step.now.hints c.use_hints-outcome.result fault
