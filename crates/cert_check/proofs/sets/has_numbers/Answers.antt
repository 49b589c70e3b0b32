use Rattle.std.proofs.Common.{arith}
use Rattle.std.proofs.lemmas.Bool.{false≢true}
use Rattle.std.proofs.lemmas.List.{length-map}
use Rattle.smv_flat_laws.specs.FaultModes.{mode_of}
use Rattle.cert_check.proofs.sets.has_numbers.Goals as goal

pub returns-then-c-bits : goal.returns-then-c-bits
returns-then-c-bits c = ((λ e. absurd (false≢true e)), (λ h. let b = h.bits in absurd (grind (arith, b))))

pub returns-then-c-len : goal.returns-then-c-len
returns-then-c-len c =
    ((λ e. absurd (false≢true e)), (λ h. let f = h.faults in let m = length-map c.args.q.now.faults.now mode_of in absurd (grind (arith, f, m))))

pub returns : goal.returns
returns c =
    let m = length-map c.args.q.now.faults.now mode_of in
    ((λ e. record { bits = grind arith; faults = grind (arith, m); size = grind (arith, e) }), (λ h. let s = h.size in grind (arith, s)))
