-- An accepted certificate is right for all extended traces, and lists the minimal cut sets.
use Rattle.std.proofs.Common.{List, [], ◌∷◌}
use Rattle.smv_language.specs.Language.{ProgramTree, Value, FlatModel}
use Rattle.smv_flat_laws.specs.FlatTrace.{IsFlatTrace}
use Rattle.fault_instructions.specs.Instructions.{InstructionTree}
use Rattle.fault_weave.specs.ExtensionTraces.{Moment, IsExtended, Reaches}
use Rattle.cut_right_laws.specs.Laws.{AreBoth}
use Rattle.cut_right_laws.proofs.Minimal.{right_sets_minimal}
use Rattle.cert_laws.specs.ExtendedTraces.{HasFailedFault, IsFlatCut}
use Rattle.cert_laws.proofs.Carried.{flat_traces_cut, all_right_extended}
use Rattle.cert_laws.proofs.Own.{models_own}
use Rattle.cut_text_laws.specs.Lines.{Line}
use Rattle.cert_laws.specs.Completeness.{GivesExtended, CertifiedCompleteness, CertifiedSetsAreMinimal}
use Rattle.cert_laws.proofs.Certified.{all_given, text_gives, certified_is_right}

module _ (reads : List Line → List (List Value) → Type 0) where
  -- texts with the flat traces, and the extended ones, that they give
  apart_both : (p : ProgramTree) (i : InstructionTree) (m : FlatModel) (texts : List (List Line)) (traces : List (List Moment)) → AreBoth (GivesExtended reads p i m) texts traces →
      (flats : List (List (List Value))) × AreBoth reads texts flats × AreBoth (IsFlatCut p i m) flats traces
  apart_both p i m [] [] both = ([], tt, tt)
  apart_both p i m [] (t ∷ traces) both = absurd both
  apart_both p i m (text ∷ texts) [] both = absurd both
  apart_both p i m (text ∷ texts) (t ∷ traces) both = let rest = apart_both p i m texts traces both.1 in (both.0.0 ∷ rest.0, (both.0.1, rest.1), (both.0.2, rest.2))

  pub certified_completeness : CertifiedCompleteness reads
  certified_completeness p i faults top c h = (
    all_given (GivesExtended reads p i h.model) c.traces
        (λ k text at. let t : (t : List (List Value)) × reads text t × IsFlatTrace h.model t = text_gives reads h.model h.modes h.flat_top (models_own p i faults top h.model h.modes h.flat_top h.is_model) h.subject h.is_subject c h.certified k text at in
        let cut : (trace : List Moment) × IsFlatCut p i h.model t.0 trace = flat_traces_cut p i faults top h.model h.modes h.flat_top h.is_model t.0 t.2 in
        (cut.0, (t.0, t.1, cut.1))),
    λ traces both. let flats : (flats : List (List (List Value))) × AreBoth reads c.traces flats × AreBoth (IsFlatCut p i h.model) flats traces = apart_both p i h.model c.traces traces both in
        all_right_extended p i faults top h.model h.modes h.flat_top h.is_model c.size c.sets flats.0 traces flats.2
        ((certified_is_right reads h.model h.modes h.flat_top (models_own p i faults top h.model h.modes h.flat_top h.is_model) h.subject h.is_subject c h.certified).1 flats.0 flats.1),
  )

  pub certified_minimal : CertifiedSetsAreMinimal reads
  certified_minimal p i faults top c h set =
      let both = certified_completeness p i faults top c h in
      right_sets_minimal (List Moment) (IsExtended p i) (Reaches p top) (HasFailedFault faults) c.size c.sets both.0.0 (both.1 both.0.0 both.0.1) set
