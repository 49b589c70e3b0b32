-- The line so far, and that no place passed stands in the line that is looked for.
use Rattle.std.proofs.Common.{◌≡◌, ℕ, ◌+◌, ◌<◌, ◌≤◌}
use Rattle.xsap_refusals.specs.Lines.{feeds_before}
use Rattle.xsap_refusals.proofs.showing.line_start.Given as goal

abbrev pub invariant-loop-place : goal.invariant-loop-place
invariant-loop-place l =
    (l.line ≡ feeds_before l.bytes l.place + 1) × (l.line ≤ l.place + 1)
    × ((at : ℕ) → at < l.place → feeds_before l.bytes at + 1 ≡ l.number → ⊥)
