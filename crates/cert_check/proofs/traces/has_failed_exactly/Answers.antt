use Rattle.std.proofs.Common.{◌≡◌, ◌∙◌, ◌≤◌, false, IsTrue, length, sym, subst, arith}
use Rattle.std.specs.Prelude.{All}
use Rattle.std.proofs.lemmas.Bool.{both_ways, false≢true}
use Rattle.cert_check.specs.QuestionMatter.{asked}
use Rattle.std.proofs.lemmas.List.{length-map}
use Rattle.smv_flat_laws.specs.FaultModes.{mode_of}
use Rattle.cert_check.proofs.Exactly.{exactly_where, numbers_from, those_from}
use Rattle.cert_check.proofs.traces.has_failed_exactly.Goals as goal
use Rattle.smv_language.specs.NumberedValues.{told_trace}

pub returns-then-not-are_faults : goal.returns-then-not-are_faults
returns-then-not-are_faults c =
    let a = asked c.args.q.now in
    let many : c.len.result ≡ length a.modes = c.len.ensures ∙ sym (length-map c.args.q.now.faults.now mode_of) in
    let is_not : c.are_faults.result ≡ false = grind arith in (
      (λ e. absurd (false≢true e)),
      (λ h. absurd (both_ways _ is_not (c.are_faults.ensures.1
          (subst (λ n. All (λ i. (1 ≤ i) × (i ≤ n)) c.args.set.now) (sym many) (numbers_from a c.args.set.now (told_trace c.args.q.now.plain.now.model.symbols c.args.trace.now) h))))),
    )

pub returns : goal.returns
returns c =
    let a = asked c.args.q.now in
    let trace = told_trace c.args.q.now.plain.now.model.symbols c.args.trace.now in
    let many : c.len.result ≡ length a.modes = c.len.ensures ∙ sym (length-map c.args.q.now.faults.now mode_of) in
    let faults : IsTrue c.are_faults.result = grind arith in (
      (λ e. exactly_where a c.args.set.now trace (subst (λ n. All (λ i. (1 ≤ i) × (i ≤ n)) c.args.set.now) many (c.are_faults.ensures.0 faults)) (sym c.are_failed.ensures ∙ e)),
      (λ h. c.are_failed.ensures ∙ those_from a c.args.set.now trace h),
    )
