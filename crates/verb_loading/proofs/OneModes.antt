-- The faults of a program have one mode each in its flat model.
use Rattle.std.proofs.Common.{◌≡◌, ℕ, List, [], ◌∷◌, Some, refl, sym, ◌∙◌, ap, subst}
use Rattle.std.specs.Prelude.{slice_get}
use Rattle.smv_language.specs.Language.{Text, ProgramTree, Place, FlatModel, EachBoth}
use Rattle.smv_flat_laws.specs.Items.{Visit, variables_of}
use Rattle.smv_flat_laws.specs.Rules.{IsAccepted}
use Rattle.smv_flat_laws.specs.History.{Mode}
use Rattle.smv_flat_laws.specs.Model.{IsVariableNumber, IsVariableOf, IsFlatOf}
use Rattle.smv_flat_laws.proofs.OneModel.{OtherText, symbols_apart, one_variable as same_visit}
use Rattle.smv_flat_laws.proofs.Variables.{both_at_second}
use Rattle.smv_flat_laws.proofs.Walkable.{accepted_walkable}
use Rattle.fault_instructions.specs.AddedNames.{mode_variable, mode_symbol}
use Rattle.fault_weave.specs.Faults.{Fault}
use Rattle.smv_flat_laws.proofs.Pairs.{Pairwise, pairwise_same}
use Rattle.cert_laws.specs.ExtendedTraces.{IsModeOfFault}

module _ (p : ProgramTree) (accepted : IsAccepted p) (m : FlatModel) (is : IsFlatOf p m) where
  one_variable : (at : Place) (x : Text) (i j : ℕ) → IsVariableNumber m at x i → IsVariableNumber m at x j → i ≡ j
  one_variable at x i j h g =
      let a : (v : Visit) × (slice_get (variables_of p) i ≡ Some v) × IsVariableOf m v h.variable = both_at_second (IsVariableOf m) (variables_of p) m.variables i h.variable is.variables h.is in
      let b : (v : Visit) × (slice_get (variables_of p) j ≡ Some v) × IsVariableOf m v g.variable = both_at_second (IsVariableOf m) (variables_of p) m.variables j g.variable is.variables g.is in
      let places : a.0.place ≡ b.0.place = sym a.2.place ∙ h.same_place ∙ sym g.same_place ∙ b.2.place in
      let names : a.0.decl.name ≡ b.0.decl.name = sym a.2.name ∙ h.same_name ∙ sym g.same_name ∙ b.2.name in
      same_visit p (accepted_walkable p accepted) i j a.0 b.0 a.1 b.1 places names

  one_symbol : (x : Text) (i j : ℕ) → slice_get m.symbols i ≡ Some x → slice_get m.symbols j ≡ Some x → i ≡ j
  one_symbol x i j h g =
      pairwise_same OtherText m.symbols i j x x (subst (Pairwise OtherText) (sym is.symbols) (symbols_apart p)) h g (λ d. d refl) (λ d. d refl)

  one_mode : (fault : Fault) (a b : Mode) → IsModeOfFault m fault a → IsModeOfFault m fault b → a ≡ b
  one_mode fault a b h g =
      ap (λ v. record { variable = v; symbol = a.symbol }) (one_variable fault.place (mode_variable fault.slice) a.variable b.variable h.variable g.variable)
      ∙ ap (λ s. record { variable = b.variable; symbol = s }) (one_symbol (mode_symbol fault.slice (Some fault.mode)) a.symbol b.symbol h.symbol g.symbol)

  pub one_modes : (faults : List Fault) (some others : List Mode) → EachBoth (IsModeOfFault m) faults some → EachBoth (IsModeOfFault m) faults others → some ≡ others
  one_modes [] [] [] h g = refl
  one_modes [] [] (b ∷ others) h g = absurd g
  one_modes [] (a ∷ some) others h g = absurd h
  one_modes (f ∷ faults) [] others h g = absurd h
  one_modes (f ∷ faults) (a ∷ some) [] h g = absurd g
  one_modes (f ∷ faults) (a ∷ some) (b ∷ others) h g = (λ i. one_mode f a b h.0 g.0 i ∷ one_modes faults some others h.1 g.1 i)
