-- Certified completeness: what an accepted certificate shows of extended traces.
use Rattle.std.specs.Prelude.{◌↔◌, ℕ, List}
use Rattle.smv_language.specs.Language.{Tree, Formula, ProgramTree, Value, FlatLeaf, FlatModel}
use Rattle.smv_flat_laws.specs.History.{Mode}
use Rattle.fault_instructions.specs.Instructions.{InstructionTree}
use Rattle.fault_weave.specs.ExtensionTraces.{Moment, IsExtended, Reaches}
use Rattle.fault_weave.specs.Faults.{Fault}
use Rattle.cut_right_laws.specs.Right.{HasAtMost, IsMinimalCutSet, IsListed}
use Rattle.cut_right_laws.specs.Laws.{AreBoth}
use Rattle.cert_laws.specs.ExtendedTraces.{HasFailedFault, IsRightExtended, IsExtensionModel, IsFlatCut}
use Rattle.cert_laws.specs.Certificate.{Certificate}
use Rattle.cut_text_laws.specs.Lines.{Line}
use Rattle.cert_laws.specs.Acceptance.{Subject}
use Rattle.cert_laws.specs.Certification.{IsSubjectOf, IsCertified}

module _ (reads : List Line → List (List Value) → Type 0) where
  -- the text gives a flat trace that is cut to the extended trace
  abbrev pub GivesExtended : ProgramTree → InstructionTree → FlatModel → List Line → List Moment → Type 0
  GivesExtended p i m text trace = (flat : List (List Value)) × reads text flat × IsFlatCut p i m flat trace

  -- A certificate that is accepted for a program, instructions and a top event.
  pub record Certifies (p : ProgramTree) (i : InstructionTree) (faults : List Fault) (top : Formula) (c : Certificate) : Type 0 where
    pub model : FlatModel
    pub modes : List Mode
    pub flat_top : Tree FlatLeaf
    pub subject : Subject
    pub is_model : IsExtensionModel p i faults top model modes flat_top
    pub is_subject : IsSubjectOf model modes flat_top subject
    pub certified : IsCertified model modes flat_top reads subject c

  -- Its texts give extended traces, and its sets, with any that they give, are right for all extended traces, of every length.
  abbrev pub CertifiedCompleteness : Type 0
  CertifiedCompleteness =
      (p : ProgramTree) (i : InstructionTree) (faults : List Fault) (top : Formula) (c : Certificate)
      (certifies : Certifies p i faults top c) →
      ((traces : List (List Moment)) × AreBoth (GivesExtended p i certifies.model) c.traces traces)
      × ((traces : List (List Moment)) → AreBoth (GivesExtended p i certifies.model) c.traces traces →
      IsRightExtended p i faults top c.size (IsExtended p i) c.sets traces)

  -- Its sets are exactly the minimal cut sets of at most as many faults as its size says.
  abbrev pub CertifiedSetsAreMinimal : Type 0
  CertifiedSetsAreMinimal =
      (p : ProgramTree) (i : InstructionTree) (faults : List Fault) (top : Formula) (c : Certificate) → Certifies p i faults top c →
      (set : List ℕ) →
      (IsListed (List Moment) (IsExtended p i) (Reaches p top) (HasFailedFault faults) c.sets set
      ↔ (IsMinimalCutSet (List Moment) (IsExtended p i) (Reaches p top) (HasFailedFault faults) set × HasAtMost c.size set))
