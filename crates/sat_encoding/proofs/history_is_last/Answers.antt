use Rattle.std.proofs.Common.{◌≡◌, ℕ, suc, ◌+◌, List, [], ◌∷◌, length, refl, ap, ◌∙◌, arith, length-append}
use Rattle.std.specs.List.{range_with_len}
use Rattle.smv_language.specs.Flat.{FlatModel}
use Rattle.smv_flat_laws.specs.History.{Mode, bit_variables, with_history}
use Rattle.sat_encoding.proofs.history_is_last.Goals as goal

bits_long : (i : ℕ) (fs : List Mode) → length (bit_variables i fs) ≡ length fs
bits_long i [] = refl
bits_long i (f ∷ fs) = ap suc (bits_long (suc i) fs)

variables_long : (m : FlatModel) (fs : List Mode) → length (with_history m fs).variables ≡ length m.variables + length fs
variables_long m fs = length-append m.variables (bit_variables 0 fs) ∙ ap (λ n. length m.variables + n) (bits_long 0 fs)

pub returns : goal.returns
returns c = λ m fs. (
  omega (arith, variables_long m fs),
  ap (λ n. range_with_len n (length fs)) (omega (arith, variables_long m fs)),
)
