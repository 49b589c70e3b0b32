use Rattle.std.proofs.Common.{◌≡◌, ℕ, ◌<◌, Some}
use Rattle.std.specs.Prelude.{slice_get}
use Rattle.base_values.specs.declared.value.Value.{Value}
use Rattle.test_encoding.specs.Values.{HasAt}
use Rattle.test_encoding.proofs.models.is_lawful.Given as goal

-- each value so far is one of its variable's domain
abbrev pub invariant-loop-i : goal.invariant-loop-i
invariant-loop-i l = (k : ℕ) → k < l.i → (value : Value) → slice_get l.v k ≡ Some value → HasAt l.t.model k value
