-- What an accepted certificate, and what an analysis, of the model with causes shows of caused traces.
use Rattle.std.specs.Prelude.{◌↔◌, ℕ, List, map, length}
use Rattle.smv_language.specs.Language.{Tree, Formula, ProgramTree, Value, Each, FlatLeaf, FlatModel}
use Rattle.smv_flat_laws.specs.History.{Mode}
use Rattle.fault_instructions.specs.Instructions.{InstructionTree}
use Rattle.fault_weave.specs.Faults.{Fault}
use Rattle.cut_right_laws.specs.Right.{HasAtMost, IsMinimalCutSet, IsListed}
use Rattle.cut_right_laws.specs.Laws.{AreBoth}
use Rattle.sat_encoding_laws.specs.EncodedLaws.{AreOwn}
use Rattle.cert_laws.specs.ExtendedTraces.{IsExtensionModel}
use Rattle.cut_text_laws.specs.TraceOfText.{GivesTrace}
use Rattle.cut_text_laws.specs.Lines.{Line}
use Rattle.cert_laws.specs.Certificate.{Certificate}
use Rattle.cert_laws.specs.Acceptance.{Subject}
use Rattle.cert_laws.specs.Certification.{IsSubjectOf, IsCertified}
use Rattle.cut_search_laws.specs.Problem.{Problem}
use Rattle.cut_search.specs.Values.{trace_of}
use Rattle.cut_search.specs.Answer.{IsAnswer}
use Rattle.cut_search.specs.declared.answer.Analysis.{Analysis}
use Rattle.cut_search.specs.declared.answer.End.{End}
use Rattle.cut_search.specs.declared.answer.End.TheVariants.{Complete, Bounded}
use Rattle.fault_cause_laws.specs.Causes.{CommonCause, IsCauseOf}
use Rattle.fault_cause_laws.specs.StagedModel.{with_causes, events_of}
use Rattle.fault_cause_laws.specs.CausesRightLaws.{Caused, Tells}
use Rattle.fault_cause_laws.specs.CausedTraces.{CausedTrace, IsCausedExtended, IsShortCausedExtended, CausedReachesTop, HasEvent}
use Rattle.fault_cause_laws.specs.CausedTraces.{IsRightCausedExtended}
use Rattle.fault_cause_laws.specs.CausesExtendedLaws.{IsCausedCut}

module _ (p : ProgramTree) (i : InstructionTree) (m : FlatModel) (fs : List Mode) (cs : List CommonCause) where
  -- the trace of the model with causes tells of a flat caused trace, which is cut to the caused trace
  pub record ShowsCaused (long : List (List Value)) (trace : CausedTrace) : Type 0 where
    pub flat : Caused
    pub tells : Tells m fs cs long flat
    pub cut : IsCausedCut p i m flat trace

  -- the text gives such a trace
  pub record GivesCaused (text : List Line) (trace : CausedTrace) : Type 0 where
    pub long : List (List Value)
    pub given : GivesTrace (with_causes m fs cs) text long
    pub shows : ShowsCaused long trace

-- Its texts give caused traces; with any that they give, its sets are right for all caused traces, of every length, with its size;
-- and these are exactly the minimal sets of at most so many events.
pub record CertifiesCauses (p : ProgramTree) (i : InstructionTree) (faults : List Fault) (top : Formula) (m : FlatModel) (fs : List Mode)
    (cs : List CommonCause) (c : Certificate) : Type 0 where
  pub gives : (traces : List CausedTrace) × AreBoth (GivesCaused p i m fs cs) c.traces traces
  pub right : (traces : List CausedTrace) → AreBoth (GivesCaused p i m fs cs) c.traces traces →
      IsRightCausedExtended p i faults cs top c.size (IsCausedExtended p i faults cs) c.sets traces
  pub minimal : (set : List ℕ) →
      (IsListed CausedTrace (IsCausedExtended p i faults cs) (CausedReachesTop p i faults cs top) (HasEvent p i faults cs) c.sets set
      ↔ (IsMinimalCutSet CausedTrace (IsCausedExtended p i faults cs) (CausedReachesTop p i faults cs top) (HasEvent p i faults cs) set
      × HasAtMost c.size set))

-- So it is for a certificate that is accepted for the model with causes of an extension, its events and the top event.
abbrev pub AcceptedCertifiesCauses : Type 0
AcceptedCertifiesCauses =
    (p : ProgramTree) (i : InstructionTree) (faults : List Fault) (top : Formula) (m : FlatModel) (fs : List Mode)
    (flat_top : Tree FlatLeaf) → IsExtensionModel p i faults top m fs flat_top →
    (cs : List CommonCause) → Each (IsCauseOf (length fs)) cs → AreOwn (with_causes m fs cs) (events_of m fs cs) flat_top →
    (subject : Subject) →
    IsSubjectOf (with_causes m fs cs) (events_of m fs cs) flat_top subject → (c : Certificate) →
    IsCertified (with_causes m fs cs) (events_of m fs cs) flat_top (GivesTrace (with_causes m fs cs)) subject c →
    CertifiesCauses p i faults top m fs cs c

-- the caused traces that an ending speaks of: all, or those of at most so many steps
abbrev pub IsOfEnd : ProgramTree → InstructionTree → List Fault → List CommonCause → End → CausedTrace → Type 0
IsOfEnd p i faults cs (Complete clauses) c = IsCausedExtended p i faults cs c
IsOfEnd p i faults cs (Bounded k) c = IsShortCausedExtended p i faults cs k c

-- The traces of an analysis of the model with causes show caused traces, and with these its sets are right for the caused traces that
-- its ending speaks of.
pub record IsCausedAnalysis (p : ProgramTree) (i : InstructionTree) (faults : List Fault) (top : Formula) (m : FlatModel) (fs : List Mode)
    (cs : List CommonCause) (size : ℕ) (a : Analysis) : Type 0 where
  pub traces : List CausedTrace
  pub show : AreBoth (ShowsCaused p i m fs cs) (map (trace_of (with_causes m fs cs).symbols) a.traces) traces
  pub right : IsRightCausedExtended p i faults cs top size (IsOfEnd p i faults cs a.end) a.sets traces

-- So it is for what answers a search of the model with causes of an extension.
abbrev pub AnswersAreCaused : Type 0
AnswersAreCaused =
    (p : ProgramTree) (i : InstructionTree) (faults : List Fault) (top : Formula) (m : FlatModel) (fs : List Mode)
    (flat_top : Tree FlatLeaf) → IsExtensionModel p i faults top m fs flat_top →
    (cs : List CommonCause) → Each (IsCauseOf (length fs)) cs → (lists : Problem) (depth size : ℕ) (a : Analysis) →
    IsAnswer (record lists { model = with_causes m fs cs; modes = events_of m fs cs; top = flat_top }) depth size a →
    IsCausedAnalysis p i faults top m fs cs size a
