-- A number and stages have one generated case.
use Rattle.std.proofs.Common.{◌≡◌, ℕ, [], sym, ap, subst, ◌∙◌}
use Rattle.verb_loading.specs.Cases.{Case, IsCase}
use Rattle.verb_run.specs.GeneratedCase.{IsGenerated}
use Rattle.verb_loading.proofs.OneCase.{same_case}

pub one_generated : (number stages : ℕ) (c d : Case) → IsGenerated number stages c → IsGenerated number stages d → c ≡ d
one_generated number stages c d h g =
    let programs : d.program ≡ c.program = g.program ∙ sym h.program in
    let lists : d.instructions ≡ c.instructions = g.instructions ∙ sym h.instructions in
    let moved : IsCase (record { program = c.program; instructions = c.instructions; faults = d.faults; flat = d.flat; modes = d.modes }) =
    subst (λ i. IsCase (record { program = c.program; instructions = i; faults = d.faults; flat = d.flat; modes = d.modes })) lists
    (subst (λ p. IsCase (record { program = p; instructions = d.instructions; faults = d.faults; flat = d.flat; modes = d.modes })) programs g.is_case) in
    same_case [] [] [] c.program c.instructions c.faults d.faults c.flat d.flat c.modes d.modes h.is_case moved
    ∙ sym (ap (λ p. record { program = p; instructions = d.instructions; faults = d.faults; flat = d.flat; modes = d.modes }) programs
    ∙ ap (λ i. record { program = c.program; instructions = i; faults = d.faults; flat = d.flat; modes = d.modes }) lists)
