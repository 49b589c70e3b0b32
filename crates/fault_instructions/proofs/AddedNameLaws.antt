-- Different states of a slice have different symbols.
use Rattle.std.proofs.Common.{◌≡◌, [], ◌∷◌, ◌++◌, Some, None, refl, sym, ◌∙◌, ap}
use Rattle.std.specs.Prelude.{codes}
use Rattle.std.proofs.lemmas.List.{append_cancel_left}
use Rattle.smv_language.specs.ProgramTree.{Text}
use Rattle.fault_instructions.specs.AddedNames.{mode_symbol}

hash_split : (s t : Text) → (s ++ codes "#") ++ t ≡ s ++ (codes "#" ++ t)
hash_split [] t = refl
hash_split (c ∷ s) t = ap (λ l. c ∷ l) (hash_split s t)

-- symbols of states differ, where no mode is named nominal
pub mode_symbol_same : (s m n : Text) → mode_symbol s (Some m) ≡ mode_symbol s (Some n) → m ≡ n
mode_symbol_same s m n e = append_cancel_left (s ++ codes "#") m n e

pub nominal_symbol_same : (s m : Text) → mode_symbol s None ≡ mode_symbol s (Some m) → m ≡ codes "nominal"
nominal_symbol_same s m e = sym (append_cancel_left (s ++ codes "#") (codes "nominal") m (hash_split s (codes "nominal") ∙ e))
