use Rattle.std.proofs.Common.{◌≡◌, ◌∙◌, ◌≤◌, false, IsTrue, length, sym, ap, subst, arith}
use Rattle.std.specs.Prelude.{All}
use Rattle.std.proofs.lemmas.Bool.{both_ways, false≢true}
use Rattle.cert_check.specs.QuestionMatter.{asked}
use Rattle.std.proofs.lemmas.List.{length-map}
use Rattle.smv_flat_laws.specs.FaultModes.{mode_of}
use Rattle.std.proofs.lemmas.Option.{slice_get_within}
use Rattle.cert_check.specs.Order.{is_after_in}
use Rattle.cert_check.proofs.SetLaws.{set_from, names_in, after_where}
use Rattle.cert_check.proofs.sets.is_set_at.Goals as goal

pub returns-then-not-is_rising : goal.returns-then-not-is_rising
returns-then-not-is_rising c =
    let is_not : c.is_rising.result ≡ false = grind arith in
    ((λ e. absurd (false≢true e)), (λ h. absurd (both_ways _ is_not (c.is_rising.ensures.1 h.rises))))

pub returns-then-not-are_faults : goal.returns-then-not-are_faults
returns-then-not-are_faults c =
    let a = asked c.args.q.now in
    let many : c.len.result ≡ length a.modes = c.len.ensures ∙ sym (length-map c.args.q.now.faults.now mode_of) in
    let is_not : c.are_faults.result ≡ false = grind arith in (
      (λ e. absurd (false≢true e)),
      (λ h. absurd (both_ways _ is_not (c.are_faults.ensures.1 (subst (λ n. All (λ i. (1 ≤ i) × (i ≤ n)) c.args.set.now) (sym many) (names_in a.subject a.certificate c.args.k c.args.set.now h))))),
    )

pub returns-then-set-q : goal.returns-then-set-q
returns-then-set-q c = ((λ e. absurd (false≢true e)), (λ h. let s = h.small in absurd (omega (arith, s))))

pub returns : goal.returns
returns c =
    let a = asked c.args.q.now in
    let many : c.len.result ≡ length a.modes = c.len.ensures ∙ sym (length-map c.args.q.now.faults.now mode_of) in
    let after : c.is_after.result ≡ is_after_in a.certificate.sets c.args.k c.args.set.now = c.is_after.ensures ∙ ap (λ xs. is_after_in xs c.args.k c.args.set.now) c.as_slice.ensures in
    let rising : IsTrue c.is_rising.result = grind arith in
    let faults : IsTrue c.are_faults.result = grind arith in (
      (λ e. set_from a.subject a.certificate c.args.k c.args.set.now (c.is_rising.ensures.0 rising) (subst (λ n. All (λ i. (1 ≤ i) × (i ≤ n)) c.args.set.now) many (c.are_faults.ensures.0 faults)) (omega arith) (sym after ∙ e)),
      (λ h. after ∙ after_where a.certificate.sets c.args.k c.args.set.now (slice_get_within a.certificate.sets c.args.k c.args.set.now c.requires) h.after),
    )
