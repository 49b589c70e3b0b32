-- What is accepted is right for all extended traces, and what was loaded can be judged.
use Rattle.std.proofs.Common.{◌≡◌, ◌<◌, ◌^◌, ℕ, List, Option, Some, None, IfSome, length, map, sym, ap, subst, ◌∙◌}
use Rattle.base_files.specs.declared.files.NamedFile.{NamedFile}
use Rattle.base_files.specs.Desk.{said_more}
use Rattle.smv_language.specs.Language.{Tree, Text, Value, model_tree, flat_tree, FlatLeaf}
use Rattle.smv_flat_laws.specs.FaultModes.{mode_of}
use Rattle.smv_flat_laws.specs.FlatTrace.{IsFlatTrace}
use Rattle.sat_encoding_laws.specs.FlatTraces.{ReachesTop, HasFailedNumber}
use Rattle.cut_text_laws.specs.TraceOfText.{GivesTrace}
use Rattle.cert_laws.specs.Certificate.{Certificate}
use Rattle.cert_laws.specs.Acceptance.{IsAccepted, IsObjection}
use Rattle.cert_laws.specs.Completeness.{Certifies}
use Rattle.cert_laws.proofs.Completeness.{certified_completeness, certified_minimal}
use Rattle.cert_laws.specs.Subject.{subject_of}
use Rattle.cert_laws.proofs.Subjects.{subjects_right}
use Rattle.cert_check.specs.Matter.{matter_of, IsAcceptedIn}
use Rattle.cert_check.specs.SiteFindings.{IsObjectionOf}
use Rattle.cert_check.specs.Fit.{IsFit, IsCheckable}
use Rattle.verb_loading.specs.declared.status.Objection.TheVariants as objection
use Rattle.verb_loading.specs.declared.status.Refusal.{Refusal}
use Rattle.verb_loading.specs.declared.status.Refusal.TheVariants as refusal
use Rattle.verb_loading.specs.declared.event.LoadedEvent.{LoadedEvent}
use Rattle.verb_loading.specs.Cases.{Case}
use Rattle.verb_loading.specs.CaseAnswers.{Said}
use Rattle.verb_run.specs.AnswerTexts.{check_text}
use Rattle.verb_loading.specs.LoadedEvents.{case_in}
use Rattle.cert_file.specs.CertificateFiles.{RefusesCertificate, HoldsCertificate}
use Rattle.verb_run.specs.Certificates.{subject_in, RefusesLine, at_line, IsAcceptedFor, CertRefuses, no_certificate, not_accepted, CertSays, CheckSays, IsChecked, IsSomeEvent}
use Rattle.cut_model_search.proofs.Analysable.{case_searchable}
use Rattle.verb_loading.proofs.LoadedLaws.{loaded_printable, loaded_symbols, loaded_evaluable}
use Rattle.verb_run.proofs.ReplayedLaws.{extension_model}

-- An accepted certificate is one for the program, the instructions and the event.
module _ (files : List NamedFile) (model faults top cert report : Text) (h : CheckSays files model faults top cert report) where
  abbrev certifying : Certifies (GivesTrace h.c.flat) h.c.program h.c.instructions h.c.faults h.event h.says.certificate
  certifying = record {
    model = h.c.flat;
    modes = h.c.modes;
    flat_top = h.tree;
    subject = subject_in h.c h.tree;
    is_model = extension_model files model faults h.c h.holds top h.event h.is_event h.tree h.is_tree;
    is_subject = h.says.accepted.is_subject;
    certified = h.says.accepted.certified;
  }

  -- so it shows its sets
  pub checked_is_right : (said now : Said) → now ≡ said_more said report → IsChecked files said now model faults top cert
  checked_is_right said now line =
      let c = h.c in
      let a = h.says.certificate in
      let shown = certified_completeness (GivesTrace c.flat) c.program c.instructions c.faults h.event a certifying in
      record {
        c = c;
        event = h.event;
        holds = h.holds;
        is_event = h.is_event;
        certificate = a;
        has_certificate = h.says.holds;
        gives = shown.0;
        right = shown.1;
        minimal = certified_minimal (GivesTrace c.flat) c.program c.instructions c.faults h.event a certifying;
        has_said = line ∙ ap (λ t. said_more said t) h.says.is;
      }

-- An event in memory can be judged, where its symbols have numbers.
module _ (l : LoadedEvent) (some : IsSomeEvent l) where
  pub event_fits : length l.case.limited.typed.model.symbols < 2 ^ 31 → IsFit (model_tree l.case.limited.typed.model) (map mode_of l.case.limited.faults) (flat_tree l.top)
  event_fits few =
      let is = some.is_event in
      let p = (case_in l).program in
      let searchable = case_searchable p l.case some.word (flat_tree l.top) is few in
      record {
        printable = loaded_printable p l.case is.loaded;
        symbols = loaded_symbols p l.case is.loaded;
        evaluable = loaded_evaluable p l.case is.loaded;
        own = searchable.own;
        reads_own = is.event.own;
        right = is.event.kept;
        encodable = searchable.encodable;
        fits = searchable.fits;
      }

  -- what is judged of it is judged of its case
  pub event_accepted : (a : Certificate) → length l.case.limited.typed.model.symbols < 2 ^ 31 → IsCheckable a →
      IsAcceptedIn (matter_of l.case.limited.full.model l.case.limited.typed.model l.case.limited.faults l.top a) → IsAcceptedFor (case_in l) (flat_tree l.top) a
  event_accepted a few checkable accepted =
      let c = case_in l in
      let fits = event_fits few in
      record {
        is_subject = subjects_right c.flat c.modes (flat_tree l.top) fits.encodable fits.fits;
        certified = record {
          one_each = checkable.one_each;
          accepted =
              subst
              (λ whole. IsAccepted (List (List Value)) (GivesTrace c.flat) (IsFlatTrace c.flat) (ReachesTop c.flat (flat_tree l.top)) (HasFailedNumber c.flat c.modes) (subject_of whole c.flat c.modes (flat_tree l.top)) a)
              some.is_event.loaded.full accepted;
        };
      }

  pub event_not_accepted : (a : Certificate) (line number : ℕ) (r : Refusal) → r ≡ refusal.NotAccepted (objection.Line line number) →
      IsObjectionOf (matter_of l.case.limited.full.model l.case.limited.typed.model l.case.limited.faults l.top a) line number → RefusesLine (case_in l) (flat_tree l.top) a r
  event_not_accepted a line number r is bad =
      let c = case_in l in
      at_line line bad.rule (is ∙ ap (λ n. refusal.NotAccepted (objection.Line line n)) (sym bad.has_number))
      (subst
      (λ whole. IsObjection (List (List Value)) (GivesTrace c.flat) (IsFlatTrace c.flat) (ReachesTop c.flat (flat_tree l.top)) (HasFailedNumber c.flat c.modes) (subject_of whole c.flat c.modes (flat_tree l.top)) a line bad.rule)
      some.is_event.loaded.full bad.objection)

-- What the file comes to.
module _ (told : Option (List NamedFile)) (c : Case) (tree : Tree FlatLeaf) (name : Text) where
  pub file_refused : (r : Refusal) → IfSome told (λ files. RefusesCertificate files name r) → IfSome told (λ files. CertRefuses files c tree name r)
  file_refused r bad = at_told told bad
    where
      at_told : (t : Option (List NamedFile)) → IfSome t (λ files. RefusesCertificate files name r) → IfSome t (λ files. CertRefuses files c tree name r)
      at_told None bad = tt
      at_told (Some files) bad = no_certificate bad

  module _ (a : Certificate) (holds : IfSome told (λ files. HoldsCertificate files name a)) where
    pub line_refused : (r : Refusal) → RefusesLine c tree a r → IfSome told (λ files. CertRefuses files c tree name r)
    line_refused r bad = at_told told holds
      where
        at_told : (t : Option (List NamedFile)) → IfSome t (λ files. HoldsCertificate files name a) → IfSome t (λ files. CertRefuses files c tree name r)
        at_told None holds = tt
        at_told (Some files) holds = not_accepted a holds bad

    pub file_accepted : (report : Text) → IsAcceptedFor c tree a → report ≡ check_text c a.size → IfSome told (λ files. CertSays files c tree name report)
    file_accepted report accepted is = at_told told holds
      where
        at_told : (t : Option (List NamedFile)) → IfSome t (λ files. HoldsCertificate files name a) → IfSome t (λ files. CertSays files c tree name report)
        at_told None holds = tt
        at_told (Some files) holds = record { certificate = a; holds = holds; accepted = accepted; is = is }
