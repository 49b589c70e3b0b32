-- An accepted certificate of the model with causes is right for all caused traces, and lists the minimal sets.
use Rattle.std.proofs.Common.{List, [], ◌∷◌, length, refl}
use Rattle.smv_language.specs.Language.{Tree, Formula, ProgramTree, Each, Value, FlatLeaf, FlatModel}
use Rattle.smv_flat_laws.specs.FlatTrace.{IsFlatTrace}
use Rattle.smv_flat_laws.specs.History.{Mode}
use Rattle.fault_instructions.specs.Instructions.{InstructionTree}
use Rattle.fault_weave.specs.Faults.{Fault}
use Rattle.cut_right_laws.specs.Laws.{AreBoth}
use Rattle.cut_right_laws.proofs.Minimal.{right_sets_minimal}
use Rattle.cert_laws.specs.ExtendedTraces.{IsExtensionModel}
use Rattle.cert_laws.proofs.Carried.{flat_traces_cut}
use Rattle.cut_text_laws.specs.Lines.{Line}
use Rattle.cut_text_laws.specs.TraceOfText.{GivesTrace}
use Rattle.cert_laws.proofs.Certified.{all_given, text_gives, certified_is_right}
use Rattle.fault_cause_laws.specs.Causes.{CommonCause, IsCauseOf}
use Rattle.fault_cause_laws.specs.StagedModel.{with_causes, events_of}
use Rattle.fault_cause_laws.proofs.StagedTraces.{staged_traces}
use Rattle.fault_cause_laws.specs.CausesRightLaws.{Caused, Tells}
use Rattle.fault_cause_laws.proofs.Carried.{all_right}
use Rattle.fault_cause_laws.specs.CausedTraces.{CausedTrace, IsCausedExtended, CausedReachesTop, HasEvent}
use Rattle.fault_cause_laws.specs.CausesExtendedLaws.{IsCausedCut}
use Rattle.fault_cause_laws.proofs.Staged.{extensions_staged}
use Rattle.fault_cause_laws.proofs.CausesExtendedCarried.{all_right_caused_extended}
use Rattle.cut_reach_laws.specs.CausedAnalyses.{ShowsCaused, GivesCaused, AcceptedCertifiesCauses}

module _ (p : ProgramTree) (i : InstructionTree) (faults : List Fault) (top : Formula) (m : FlatModel) (fs : List Mode) (flat_top : Tree FlatLeaf) (model : IsExtensionModel p i faults top m fs flat_top) (cs : List CommonCause) (are : Each (IsCauseOf (length fs)) cs) where
  -- each trace of the model with causes shows a caused trace
  pub shown : (long : List (List Value)) → IsFlatTrace (with_causes m fs cs) long → (trace : CausedTrace) × ShowsCaused p i m fs cs long trace
  shown long is =
      let staged = extensions_staged p i faults top m fs flat_top model cs are in
      let flat = (staged_traces m fs cs staged.0 long).0 is in
      let cut = flat_traces_cut p i faults top m fs flat_top model flat.0 flat.2.is_trace in
      ((cut.0, flat.1), record { flat = (flat.0, flat.1); tells = (flat.2, flat.3); cut = (cut.1, refl) })

-- texts with what they give, taken apart
pub record Parts (p : ProgramTree) (i : InstructionTree) (m : FlatModel) (fs : List Mode) (cs : List CommonCause) (longs : List (List (List Value))) (traces : List CausedTrace) : Type 0 where
  pub flats : List Caused
  pub tell : AreBoth (Tells m fs cs) longs flats
  pub cut : AreBoth (IsCausedCut p i m) flats traces

pub parts_of : (p : ProgramTree) (i : InstructionTree) (m : FlatModel) (fs : List Mode) (cs : List CommonCause) (longs : List (List (List Value))) (traces : List CausedTrace) →
    AreBoth (ShowsCaused p i m fs cs) longs traces → Parts p i m fs cs longs traces
parts_of p i m fs cs [] [] both = record { flats = []; tell = tt; cut = tt }
parts_of p i m fs cs [] (t ∷ traces) both = absurd both
parts_of p i m fs cs (l ∷ longs) [] both = absurd both
parts_of p i m fs cs (l ∷ longs) (t ∷ traces) both =
    let rest = parts_of p i m fs cs longs traces both.1 in
    record { flats = both.0.flat ∷ rest.flats; tell = (both.0.tells, rest.tell); cut = (both.0.cut, rest.cut) }

record Given (p : ProgramTree) (i : InstructionTree) (m : FlatModel) (fs : List Mode) (cs : List CommonCause) (texts : List (List Line)) (traces : List CausedTrace) : Type 0 where
  longs : List (List (List Value))
  given : AreBoth (GivesTrace (with_causes m fs cs)) texts longs
  show : AreBoth (ShowsCaused p i m fs cs) longs traces

given_of : (p : ProgramTree) (i : InstructionTree) (m : FlatModel) (fs : List Mode) (cs : List CommonCause) (texts : List (List Line)) (traces : List CausedTrace) →
    AreBoth (GivesCaused p i m fs cs) texts traces → Given p i m fs cs texts traces
given_of p i m fs cs [] [] both = record { longs = []; given = tt; show = tt }
given_of p i m fs cs [] (t ∷ traces) both = absurd both
given_of p i m fs cs (text ∷ texts) [] both = absurd both
given_of p i m fs cs (text ∷ texts) (t ∷ traces) both =
    let rest = given_of p i m fs cs texts traces both.1 in
    record { longs = both.0.long ∷ rest.longs; given = (both.0.given, rest.given); show = (both.0.shows, rest.show) }

pub accepted_certifies : AcceptedCertifiesCauses
accepted_certifies p i faults top m fs flat_top model cs are own subject is_subject c certified =
    let reads = GivesTrace (with_causes m fs cs) in
    let staged = extensions_staged p i faults top m fs flat_top model cs are in
    let right = certified_is_right reads (with_causes m fs cs) (events_of m fs cs) flat_top own subject is_subject c certified in
    let all = all_given (GivesCaused p i m fs cs) c.traces
    (λ k text at. let t = text_gives reads (with_causes m fs cs) (events_of m fs cs) flat_top own subject is_subject c certified k text at in
    let one = shown p i faults top m fs flat_top model cs are t.0 t.2 in (one.0, record { long = t.0; given = t.1; shows = one.1 })) in
    let for_all = λ (traces : List CausedTrace) (both : AreBoth (GivesCaused p i m fs cs) c.traces traces).
    let g = given_of p i m fs cs c.traces traces both in
    let parts = parts_of p i m fs cs g.longs traces g.show in
    all_right_caused_extended p i faults top m fs flat_top model cs are c.size c.sets parts.flats traces parts.cut (all_right m fs cs staged.0 flat_top staged.1 c.size c.sets g.longs parts.flats parts.tell (right.1 g.longs g.given)) in
    record {
      gives = all;
      right = for_all;
      minimal = right_sets_minimal CausedTrace (IsCausedExtended p i faults cs) (CausedReachesTop p i faults cs top) (HasEvent p i faults cs) c.size c.sets all.0 (for_all all.0 all.1);
    }
