-- What is wrong with an extension as a whole is one thing, and nothing is where it passes no limit.
use Rattle.std.proofs.Common.{◌≡◌, List, sym, subst, ◌∙◌}
use Rattle.smv_language.specs.Language.{ProgramTree, FlatModel, EachBoth}
use Rattle.smv_flat_laws.specs.History.{with_history}
use Rattle.smv_flat_laws.specs.Rules.{IsAccepted}
use Rattle.smv_flat_laws.proofs.Laws.{accepted_unbroken}
use Rattle.smv_type_laws.specs.Models.{IsFault, IsTyped}
use Rattle.smv_type_laws.proofs.Typed.{typed_has_none}
use Rattle.fault_weave.specs.Faults.{Fault}
use Rattle.verb_loading.specs.declared.status.InputFault.{InputFault}
use Rattle.verb_loading.specs.Wholes.{IsWhole, IsWrongWhole, by_names, by_kinds, IsWithinLimits}
use Rattle.verb_loading.proofs.OneModes.{one_modes}
use Rattle.verb_loading.proofs.OneModelFault.{one_name, one_kind}
use Rattle.cert_laws.specs.ExtendedTraces.{IsModeOfFault}

module _ (extension : ProgramTree) (faults : List Fault) where
  one_whole : (a b : FlatModel) → IsAccepted extension → IsWhole extension faults a → IsWhole extension faults b → a ≡ b
  one_whole a b accepted h g =
      let flats : g.flat ≡ h.flat = h.model.only g.flat g.model.is in
      let modes : h.modes ≡ g.modes = one_modes extension accepted h.flat h.model.is faults h.modes g.modes h.are_modes (subst (λ m. EachBoth (IsModeOfFault m) faults g.modes) flats g.are_modes) in
      h.is ∙ (λ i. with_history (sym flats i) (modes i)) ∙ sym g.is

  pub one_wrong_whole : (a b : InputFault) → IsWrongWhole extension faults a → IsWrongWhole extension faults b → a ≡ b
  one_wrong_whole a b (by_names h) (by_names g) = h.is ∙ one_name extension h.rule g.rule h.item g.item h.broken g.broken (λ n. 0) ∙ sym g.is
  one_wrong_whole a b (by_names h) (by_kinds whole accepted is g) = absurd (accepted_unbroken extension h.rule h.item accepted h.broken)
  one_wrong_whole a b (by_kinds whole accepted is h) (by_names g) = absurd (accepted_unbroken extension g.rule g.item accepted g.broken)
  one_wrong_whole a b (by_kinds whole accepted is h) (by_kinds other accepted' was g) =
      let same : other ≡ whole = one_whole other whole accepted was is in
      h.is ∙ one_kind whole h.rule g.rule h.item g.item h.broken (subst (λ m. IsFault m g.rule g.item) same g.broken) (λ n. 0) ∙ sym g.is

  pub within_not_wrong : (a : InputFault) → IsWithinLimits extension faults → IsWrongWhole extension faults a → ⊥
  within_not_wrong a within (by_names h) = accepted_unbroken extension h.rule h.item within.accepted h.broken
  within_not_wrong a within (by_kinds whole accepted is h) =
      typed_has_none whole h.rule h.item (subst IsTyped (one_whole within.whole whole accepted within.is_whole is) within.typed) h.broken
