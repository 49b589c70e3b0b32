-- The faults that are named one after another, each where a test passes.
use Rattle.std.proofs.Common.{◌≡◌, ℕ, zero, suc, Bool, List, [], ◌∷◌, map, drop, Some, subst}
use Rattle.std.specs.Prelude.{slice_get}
use Rattle.smv_language.specs.ProgramTree.{Text}
use Rattle.smv_flat_laws.specs.FaultModes.{mode_of}
use Rattle.smv_language.specs.declared.model.Fault.{Fault}
use Rattle.smv_language.specs.declared.model.FlatModel.{FlatModel}
use Rattle.smv_flat_laws.specs.History.{Mode}
use Rattle.fault_extend.specs.WovenFaults.{fault_tree}
use Rattle.fault_extend.specs.NumberedFaults.{IsNumbered, AreNumbered}
use Rattle.fault_extend.specs.declared.faults.WovenFault.{WovenFault}
use Rattle.verb_run.specs.Replays.{names_where}
use Rattle.std.proofs.lemmas.Option.{same_Some as some_same}

-- the fault of a place has its numbers
pub numbered_at : (m : FlatModel) (ws : List WovenFault) (fs : List Fault) (i : ℕ) (w : WovenFault) (f : Fault) → AreNumbered m ws fs → slice_get ws i ≡ Some w → slice_get fs i ≡ Some f → IsNumbered m w f
numbered_at m [] fs i w f h e g = cc
numbered_at m (v ∷ ws) [] i w f h e g = absurd h
numbered_at m (v ∷ ws) (k ∷ fs) zero w f h e g = subst (λ x. IsNumbered m x f) (some_same v w e) (subst (IsNumbered m v) (some_same k f g) h.0)
numbered_at m (v ∷ ws) (k ∷ fs) (suc i) w f h e g = numbered_at m ws fs i w f h.1 e g

module _ (test : Mode → Bool) where
  -- the names from a place on
  abbrev pub named_from : List WovenFault → List Fault → ℕ → Text
  named_from ws fs i = names_where test (map fault_tree (drop i ws)) (map mode_of (drop i fs))
