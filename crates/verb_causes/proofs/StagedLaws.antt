-- From what was loaded with causes to what a search and a judgement of its staged model ask.
use Rattle.std.proofs.Common.{arith, ◌≡◌, ◌<◌, ◌≤◌, ◌^◌, ℕ, List, [], ◌∷◌, ◌++◌, length, map, reverse, Option, Some, None, refl, sym, ap, subst, ◌∙◌}
use Rattle.std.proofs.lemmas.List.{length-map, reverse-reverse}
use Rattle.smv_language.specs.Language.{Tree, Path, ProgramTree, program_tree, Value, Each, flat_tree, place_of, name_of_fault, FlatLeaf, FlatModel}
use Rattle.smv_flat_laws.specs.FaultModes.{mode_of}
use Rattle.smv_language.specs.declared.model.Fault.{Fault}
use Rattle.smv_language.specs.declared.model.FlatModel.{FlatModel as Made}
use Rattle.smv_flat_laws.specs.FlatTrace.{IsFlatTrace}
use Rattle.smv_flat_laws.specs.History.{Mode, with_history}
use Rattle.smv_flat_laws.specs.Model.{IsFlatOf}
use Rattle.smv_flat_laws.specs.Rules.{IsAccepted}
use Rattle.smv_type_laws.specs.Models.{IsTyped}
use Rattle.sat_encoding_laws.specs.FlatTraces.{ReachesTop, HasFailedNumber}
use Rattle.sat_encoding_laws.specs.EncodedLaws.{AreOwn}
use Rattle.cut_search.specs.Answer.{IsAnswer}
use Rattle.cut_search.specs.declared.answer.Analysis.{Analysis as Searched}
use Rattle.sat_encoding_laws.specs.Encodable.{IsEncodable}
use Rattle.sat_encoding_laws.proofs.FlatEncodable.{flat_models_encodable}
use Rattle.cut_search_laws.specs.Problem.{problem_of}
use Rattle.cut_search_laws.specs.Searchable.{IsSearchable}
use Rattle.cut_search_laws.proofs.Fitting.{few_faults}
use Rattle.fault_extend.specs.WovenFaults.{fault_tree}
use Rattle.fault_extend.specs.NumberedFaults.{parts_of, AreNumbered}
use Rattle.fault_extend.specs.declared.faults.WovenFault.{WovenFault}
use Rattle.cut_text_laws.specs.Laws.{IsNamed}
use Rattle.cut_text_laws.specs.TraceOfText.{GivesTrace}
use Rattle.cut_text_laws.proofs.FlatNames.{flat_models_named}
use Rattle.cut_text_laws.proofs.Named.{named_is_printable}
use Rattle.cert_laws.specs.Certificate.{Certificate}
use Rattle.cert_laws.specs.Acceptance.{Subject, IsAccepted as Accepts, IsObjection}
use Rattle.cert_laws.proofs.Objections.{accepted_has_none}
use Rattle.cert_laws.specs.Certification.{IsSubjectOf, IsCertified}
use Rattle.cert_laws.specs.Subject.{subject_of}
use Rattle.cert_laws.proofs.Subjects.{subjects_right}
use Rattle.cert_check.specs.Matter.{matter_of, IsAcceptedIn}
use Rattle.cert_check.specs.SiteFindings.{IsObjectionOf}
use Rattle.cert_check.specs.Fit.{IsFit, IsCheckable}
use Rattle.fault_woven_laws.specs.Tops.{IsReadAs, IsTopOf}
use Rattle.fault_woven_laws.proofs.Fits.{tops_fit}
use Rattle.fault_cause_laws.specs.Causes.{CommonCause}
use Rattle.fault_cause_laws.specs.CauseRules.{fault_path}
use Rattle.fault_cause_laws.specs.StagedModel.{with_causes, events_of}
use Rattle.fault_cause_laws.specs.KindLaws.{IsShortCause}
use Rattle.fault_cause_laws.proofs.ShortCauses.{short_causes}
use Rattle.fault_staging.specs.declared.cause.Cause.{Cause}
use Rattle.fault_staging.specs.CauseOf.{cause_of, told_cause}
use Rattle.fault_causes_reader.specs.FaultPaths.{paths_of}
use Rattle.fault_causes_reader.specs.CausesFile.{AreNamed as AreFaultNames}
use Rattle.cut_reach_laws.specs.CausedLaws.{CanHaveCauses, IsSearchableStaged, AreNamed}
use Rattle.cut_reach_laws.specs.CausedAnalyses.{IsCausedAnalysis}
use Rattle.cut_reach_laws.proofs.Events.{caused_searchable}
use Rattle.cut_reach_laws.proofs.Loaded.{state_modes, history_inputs, staged_symbols}
use Rattle.cut_reach_laws.proofs.NamedLaws.{caused_named, spelled_words}
use Rattle.cut_reach_laws.proofs.Shown.{accepted_certifies}
use Rattle.cut_reach_laws.proofs.Answered.{answers_caused}
use Rattle.verb_loading.specs.declared.loaded.LoadedCase.{LoadedCase}
use Rattle.verb_loading.specs.declared.status.Objection.TheVariants as objection
use Rattle.verb_loading.specs.declared.status.Refusal.TheVariants as refusal
use Rattle.verb_loading.specs.Cases.{Case, extension_of}
use Rattle.verb_loading.specs.LoadedCases.{case_of, IsLoaded}
use Rattle.cut_model_search.specs.Searches.{IsSearched}
use Rattle.cut_model_search.proofs.Analysable.{model_of_case, case_searchable}
use Rattle.verb_loading.proofs.FlatLimits.{flat_typed}
use Rattle.verb_loading.proofs.LoadedLaws.{same_counts, loaded_evaluable}
use Rattle.verb_loading.proofs.TopLaws.{have_models}
use Rattle.verb_loading.specs.declared.status.Refusal.{Refusal}
use Rattle.verb_causes.specs.declared.staged.StagedEvent.{StagedEvent}
use Rattle.verb_causes.specs.Causes.{modes_in, flat_in, faults_in, extension_in, cause_path, AreToldEvents, IsSomeCase, AreCausesOf, causes_in, staged_in, events_in, IsStagedEvent, CertifiesStaged}
use Rattle.verb_causes.specs.Refusals.{BreaksLine, at_line}
use Rattle.cut_report_laws.proofs.Searchables.{written_members}

-- ---- the names of faults

same_place : (path : Option Path) → reverse (place_of path) ≡ parts_of path
same_place None = refl
same_place (Some q) = reverse-reverse q

path_is : (m : Made) (w : WovenFault) (f : Fault) → f.name ≡ parts_of w.path ++ (w.slice ∷ w.mode ∷ []) → f.name ≡ fault_path (fault_tree w)
path_is m w f e = e ∙ ap (λ q. q ++ (w.slice ∷ w.mode ∷ [])) (sym (same_place w.path))

paths_are : (m : Made) (ws : List WovenFault) (fs : List Fault) → AreNumbered m ws fs → paths_of fs ≡ map fault_path (map fault_tree ws)
paths_are m [] [] h = refl
paths_are m [] (f ∷ fs) h = absurd h
paths_are m (w ∷ ws) [] h = absurd h
paths_are m (w ∷ ws) (f ∷ fs) h = let one = path_is m w f h.0.name in let rest = paths_are m ws fs h.1 in (λ j. one j ∷ rest j)

-- events that have the names of faults and of causes are told by them
causes_told : (cs : List Cause) → map told_cause cs ≡ map cause_path (map cause_of cs)
causes_told [] = refl
causes_told (c ∷ cs) = ap (λ names. (c.name ∷ []) ∷ names) (causes_told cs)

-- ---- the extension

module _ (p : ProgramTree) (l : LoadedCase) (is : IsLoaded p l) where
  abbrev the_case : Case
  the_case = case_of p l

  abbrev extension : ProgramTree
  extension = program_tree l.limited.woven.program

  pub faults_named : AreFaultNames l.limited.faults (map fault_tree l.limited.woven.faults)
  faults_named = paths_are l.limited.typed.model l.limited.woven.faults l.limited.faults is.numbered

  pub events_told : (cs : List Cause) (events : List Fault) → map name_of_fault events ≡ map name_of_fault l.limited.faults ++ map told_cause cs → AreToldEvents (faults_in l) (map cause_of cs) events
  events_told cs events e = e ∙ ap (λ names. names ++ map told_cause cs) faults_named ∙ ap (λ names. map fault_path (faults_in l) ++ names) (causes_told cs)

  many : length (map fault_tree l.limited.woven.faults) ≡ length (modes_in l)
  many =
      length-map l.limited.woven.faults fault_tree ∙ same_counts l.limited.typed.model l.limited.woven.faults l.limited.faults is.numbered
      ∙ sym (length-map l.limited.faults mode_of)

  few : length (map fault_tree l.limited.woven.faults) < 2 ^ 62
  few = let most = few_faults (flat_in l) (modes_in l) is.is_case.typed.small in let same = many in omega (arith, most, same)

  accepted : IsAccepted extension
  accepted = subst IsAccepted (sym is.program) is.is_case.within.accepted

  flat : IsFlatOf extension (flat_in l)
  flat = subst (λ q. IsFlatOf q (flat_in l)) (sym is.program) is.is_case.is_flat.is

  names : IsNamed (flat_in l)
  names = flat_models_named (extension_of the_case) (flat_in l) is.is_case.within.accepted is.is_case.is_flat.is is.writable

  -- causes that were read strike faults, and leave names apart
  pub causes_named : (bytes : List ℕ) (cs : List CommonCause) → AreCausesOf l bytes cs → AreNamed (flat_in l) (modes_in l) cs
  causes_named bytes cs r =
      caused_named (map fault_tree l.limited.woven.faults) extension (flat_in l) (modes_in l) r.written cs accepted flat names (loaded_evaluable p l is).apart few many r.lawful r.read_as
      (spelled_words bytes r.written r.spelled)

-- and their windows end soon
pub staged_short : (case : LoadedCase) → IsSomeCase case → (cs : List CommonCause) → (bytes : List ℕ) × AreCausesOf case bytes cs → Each (IsShortCause (length (modes_in case))) cs
staged_short case is cs (bytes, read) =
    short_causes (faults_in case) (extension_in case) read.written read.lawful.kept cs read.read_as (length (modes_in case)) (causes_named is.0 case is.1 bytes cs read).strikes

-- ---- the staged model

module _ (l : StagedEvent) (is : IsStagedEvent l) where
  abbrev program : ProgramTree
  program = program_tree l.loaded.model.program

  abbrev case : LoadedCase
  case = l.loaded.case

  abbrev tree : Tree FlatLeaf
  tree = flat_tree l.loaded.top

  abbrev m : FlatModel
  m = flat_in case

  abbrev fs : List Mode
  fs = modes_in case

  abbrev cs : List CommonCause
  cs = causes_in l

  loaded : IsLoaded program case
  loaded = is.event.loaded

  top_fits_flat : IsTopOf m tree
  top_fits_flat =
      let c : Case = case_of program case in
      let top = is.event.event.is_word.is_top in
      let read : IsReadAs c.program top.flat c.instructions c.flat [] is.event.event.top top.tree tree = record { before = top.resolved; after = is.event.event.is_tree } in
      (tops_fit c.program top.flat c.instructions c.flat (have_models c loaded.is_case is.event.flat is.event.lawful is.event.event.top top) loaded.is_case.within.accepted [] is.event.event.top top.tree tree
      read top.names top.kinds).0

  -- what is told of a certificate is told of it over the staged model
  pub event_not_accepted : (a : Certificate) (line number : ℕ) (r : Refusal) → r ≡ (refusal.NotAccepted (objection.Line line number)) →
      IsObjectionOf (matter_of l.full.model l.typed.model l.events l.loaded.top a) line number → BreaksLine (staged_in l) (events_in l) tree a r
  event_not_accepted a line number r told bad =
      at_line line bad.rule (told ∙ ap (λ n. (refusal.NotAccepted (objection.Line line n))) (sym bad.has_number))
      (subst
      (λ whole. IsObjection (List (List Value)) (GivesTrace (staged_in l)) (IsFlatTrace (staged_in l)) (ReachesTop (staged_in l) tree) (HasFailedNumber (staged_in l) (events_in l))
      (subject_of whole (staged_in l) (events_in l) tree) a line bad.rule)
      is.staged.full bad.objection)

  module _ (small : length (staged_in l).symbols < 2 ^ 31) where
    few_staged : length (with_causes m fs cs).symbols < 2 ^ 31
    few_staged = subst (λ (n : FlatModel). length n.symbols < 2 ^ 31) is.staged.model small

    few_flat : length m.symbols < 2 ^ 31
    few_flat = let more = staged_symbols m fs cs in let most = few_staged in omega (arith, more, most)

    searchable : IsSearchable m fs tree
    searchable = case_searchable program case l.word.now tree is.event few_flat

    plain : IsEncodable m
    plain =
        let c : Case = case_of program case in
        let h = loaded.is_case in
        let typed : IsTyped m = flat_typed c.program is.event.flat c.instructions c.faults is.event.lawful h.taken h.are_faults m h.is_flat h.within in
        flat_models_encodable (extension_of c) m h.within.accepted h.is_flat.is typed few_flat (written_members m.variables (names program case loaded).types)

    can : CanHaveCauses m fs cs tree
    can =
        let inputs = history_inputs m fs plain in
        record {
          encodable = plain;
          modes = state_modes m fs searchable.own.modes searchable.encodable;
          causes = is.staged.names.strikes;
          fits = top_fits_flat.fits;
          few_inputs = subst (λ n. n ≤ 2 ^ 30) inputs searchable.few_inputs;
          small_top = searchable.small_top;
        }

    of_model : IsSearchableStaged m fs cs tree
    of_model =
        caused_searchable m fs cs tree can (record { apart = is.staged.names.apart; few = few_staged }) (subst IsTyped is.staged.model is.staged.typed)
        (subst IsTyped (is.staged.full ∙ (λ j. with_history (is.staged.model j) (is.staged.events j))) is.staged.whole)

    fit_model : IsFit (with_causes m fs cs) (events_of m fs cs) tree
    fit_model =
        let s = of_model in
        record {
          printable = named_is_printable (with_causes m fs cs) is.staged.names.named;
          symbols = s.symbols;
          evaluable = record { closed = s.encodable.closed; apart = is.staged.names.apart };
          own = s.searchable.own;
          reads_own = s.fits.own;
          right = s.fits.right;
          encodable = s.searchable.encodable;
          fits = s.searchable.fits;
        }

    -- what holds of the model with the causes, and of its events, holds of those in memory
    brought : (P : FlatModel → List Mode → Type 0) → P (with_causes m fs cs) (events_of m fs cs) → P (staged_in l) (events_in l)
    brought P h = subst (λ n. P n (events_in l)) (sym is.staged.model) (subst (λ es. P (with_causes m fs cs) es) (sym is.staged.events) h)

    taken : (P : FlatModel → List Mode → Type 0) → P (staged_in l) (events_in l) → P (with_causes m fs cs) (events_of m fs cs)
    taken P h = subst (λ n. P n (events_of m fs cs)) is.staged.model (subst (λ es. P (staged_in l) es) is.staged.events h)

    pub event_searchable : IsSearchable (staged_in l) (events_in l) tree
    event_searchable = brought (λ n es. IsSearchable n es tree) of_model.searchable

    pub event_fits : IsFit (staged_in l) (events_in l) tree
    event_fits = brought (λ n es. IsFit n es tree) fit_model

    -- an accepted certificate shows its sets for all caused traces
    pub event_certifies : (a : Certificate) → IsCheckable a → IsAcceptedIn (matter_of l.full.model l.typed.model l.events l.loaded.top a) → CertifiesStaged l a
    event_certifies a checkable accepted =
        let c : Case = case_of program case in
        let fits = event_fits in
        let subject : Subject = subject_of (with_history (staged_in l) (events_in l)) (staged_in l) (events_in l) tree in
        let is_subject : IsSubjectOf (staged_in l) (events_in l) tree subject = subjects_right (staged_in l) (events_in l) tree fits.encodable fits.fits in
        let certified : IsCertified (staged_in l) (events_in l) tree (GivesTrace (staged_in l)) subject a =
        record {
          one_each = checkable.one_each;
          accepted =
              subst
              (λ whole. Accepts (List (List Value)) (GivesTrace (staged_in l)) (IsFlatTrace (staged_in l)) (ReachesTop (staged_in l) tree) (HasFailedNumber (staged_in l) (events_in l))
              (subject_of whole (staged_in l) (events_in l) tree) a)
              is.staged.full accepted;
        } in
        record {
          event = is.event.event.top;
          is_event = is.event.event.is_word;
          unbroken = λ line rule bad.
              accepted_has_none (List (List Value)) (GivesTrace (staged_in l)) (IsFlatTrace (staged_in l)) (ReachesTop (staged_in l) tree) (HasFailedNumber (staged_in l) (events_in l)) subject a line rule
              certified.accepted bad;
          shows =
              accepted_certifies c.program c.instructions c.faults is.event.event.top m fs tree (model_of_case program case l.word.now tree is.event) cs is.staged.names.strikes
              (taken (λ n es. AreOwn n es tree) fits.own) subject (taken (λ n es. IsSubjectOf n es tree subject) is_subject) a
              (taken (λ n es. IsCertified n es tree (GivesTrace n) subject a) certified);
        }

    -- what answers a search of it
    pub event_searched : (depth size : ℕ) (a : Searched) → size ≡ length (events_in l) →
        IsAnswer (problem_of (staged_in l) (events_in l) tree) depth size a → IsSearched (staged_in l) (events_in l) tree depth (length (events_in l)) a
    event_searched depth size a same answer =
        let s = event_searchable in
        record {
          own = s.own;
          encodable = s.encodable;
          fits = s.fits;
          printable = event_fits.printable;
          answer =
              subst
              (λ n. IsAnswer (problem_of (staged_in l) (events_in l) tree) depth n a) same answer;
          small = omega arith;
        }

    -- and is right for caused traces
    pub event_right : (depth size : ℕ) (a : Searched) → IsSearched (staged_in l) (events_in l) tree depth size a →
        IsCausedAnalysis (case_of program case).program (case_of program case).instructions (case_of program case).faults is.event.event.top m fs cs size a
    event_right depth size a searched =
        let c : Case = case_of program case in
        answers_caused c.program c.instructions c.faults is.event.event.top m fs tree (model_of_case program case l.word.now tree is.event) cs is.staged.names.strikes
        (problem_of (with_causes m fs cs) (events_of m fs cs) tree) depth size a
        (taken (λ n es. IsAnswer (problem_of n es tree) depth size a) searched.answer)
