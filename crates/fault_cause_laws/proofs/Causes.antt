-- Causes that are written with names of faults are read in one way.
use Rattle.std.proofs.Common.{◌≡◌, ℕ, List, [], ◌∷◌, refl, sym, ◌∙◌}
use Rattle.smv_language.specs.Language.{Path, ProgramTree, EachBoth}
use Rattle.fault_instructions.specs.Instructions.{InstructionTree}
use Rattle.fault_weave.specs.Faults.{Fault}
use Rattle.fault_cause_laws.specs.Causes.{CommonCause}
use Rattle.fault_cause_laws.specs.CausesText.{WrittenCause}
use Rattle.fault_cause_laws.specs.CauseRules.{IsStrikeOf, IsReadAs, AreReadAs}
use Rattle.fault_cause_laws.specs.FaultNamesLaws.{AreFaultsOf, CausesReadAsOne}
use Rattle.fault_cause_laws.proofs.Names.{names_mean_one}

module _ (p : ProgramTree) (i : InstructionTree) (faults : List Fault) (are : AreFaultsOf p i faults) (w : ProgramTree) where
  one_strikes : (names : List Path) (is js : List ℕ) → EachBoth (IsStrikeOf faults w) names is → EachBoth (IsStrikeOf faults w) names js → is ≡ js
  one_strikes [] [] [] h g = refl
  one_strikes [] [] (k ∷ js) h g = absurd g
  one_strikes [] (j ∷ is) js h g = absurd h
  one_strikes (x ∷ names) [] js h g = absurd h
  one_strikes (x ∷ names) (j ∷ is) [] h g = absurd g
  one_strikes (x ∷ names) (j ∷ is) (k ∷ js) h g =
      let first : j ≡ k = names_mean_one p i faults are w x j k h.0 g.0 in
      let rest : is ≡ js = one_strikes names is js h.1 g.1 in
      (λ n. first n ∷ rest n)

  one_cause : (c : WrittenCause) (a b : CommonCause) → IsReadAs faults w c a → IsReadAs faults w c b → a ≡ b
  one_cause c a b h g =
      let name : a.name ≡ b.name = h.name ∙ sym g.name in
      let from : a.from ≡ b.from = h.from ∙ sym g.from in
      let to : a.to ≡ b.to = h.to ∙ sym g.to in
      let strikes : a.strikes ≡ b.strikes = one_strikes c.strikes a.strikes b.strikes h.strikes g.strikes in
      λ n. record { name = name n; from = from n; to = to n; strikes = strikes n }

  one_list : (written : List WrittenCause) (cs ds : List CommonCause) → AreReadAs faults w written cs → AreReadAs faults w written ds → cs ≡ ds
  one_list [] [] [] h g = refl
  one_list [] [] (b ∷ ds) h g = absurd g
  one_list [] (a ∷ cs) ds h g = absurd h
  one_list (c ∷ written) [] ds h g = absurd h
  one_list (c ∷ written) (a ∷ cs) [] h g = absurd g
  one_list (c ∷ written) (a ∷ cs) (b ∷ ds) h g =
      let first : a ≡ b = one_cause c a b h.0 g.0 in
      let rest : cs ≡ ds = one_list written cs ds h.1 g.1 in
      (λ n. first n ∷ rest n)

pub causes_read_as_one : CausesReadAsOne
causes_read_as_one p i faults are w written cs ds h g = one_list p i faults are w written cs ds h g
