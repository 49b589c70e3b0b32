-- From what is written and said of an analysis to what stands, whole or in part.
use Rattle.std.proofs.Common.{arith, ◌≡◌, inl, inr, ◌≤◌, ℕ, List, Option, Some, None, length, refl, sym, ap, subst, ◌∙◌}
use Rattle.std.proofs.Math.Seq.{take-length}
use Rattle.base_files.specs.Desk.{Told as AtDesk, told_with, WritesPrefix, SaysPrefix, said_more, OnlyWrites, IsLater}
use Rattle.smv_language.specs.Language.{Text, program_tree, program_text}
use Rattle.cut_text_laws.specs.Analysis.{told_ending}
use Rattle.cut_report_laws.specs.ExtendedTraces.{Ending, complete, bounded}
use Rattle.cert_file.specs.declared.conclusion.Conclusion.{Conclusion}
use Rattle.verb_run.specs.declared.analysis.Analysing.{Analysing}
use Rattle.verb_loading.specs.declared.status.Status.{Status}
use Rattle.verb_loading.specs.Cases.{Case, extension_of}
use Rattle.verb_loading.specs.CaseAnswers.{Told, Said, told_maybe, WritesPrefixMaybe}
use Rattle.verb_run.specs.AnswerTexts.{extension_text}
use Rattle.verb_run.specs.Analyses.{ended_with, AreWritten, HasAnalysed, AnalysesInPart, part_of_extension, part_of_certificate, part_of_report}
use Rattle.verb_run.specs.Findings.{IsCertifiedAs, IsFinding, analysed_case}
use Rattle.cert_file.specs.Conclusions.{ConcludesInPart}

-- what only writes leaves the desk a later one
pub writes_later : (a b : AtDesk) → OnlyWrites a b → IsLater a b
writes_later a b w = record { later = w.later; quiet = w.quiet }

-- a text that was written whole
pub whole_prefix : (before after : Told) (name bytes : Text) → after ≡ told_with before name bytes → WritesPrefix before after name bytes
whole_prefix before after name bytes is = let fits : length bytes ≤ length bytes = omega arith in inr (length bytes, fits, is ∙ ap (told_with before name) (sym (take-length bytes)))

-- the extension was written
pub written_extension : (a : Analysing) → program_tree a.loaded.case.limited.woven.program ≡ extension_of (analysed_case a) → (before after : Told) (text bytes : Text) →
    text ≡ program_text (program_tree a.loaded.case.limited.woven.program) → bytes ≡ text → after ≡ told_with before a.extended.now bytes → after ≡ told_with before a.extended.now (extension_text (analysed_case a))
written_extension a program before after text bytes printed same written = written ∙ ap (told_with before a.extended.now) (same ∙ printed ∙ ap program_text program)

module _ (c : Case) (word : Text) (depth size : ℕ) (extended cert : Text) (f : Conclusion) (found : IsFinding c word depth size f) (before mid after : Told) (said now : Said)
    (first : mid ≡ told_with before extended (extension_text c)) where
  files_written : (ending : Ending) (o : Option (List ℕ)) → IsCertifiedAs c found.event size found.analysis ending o → after ≡ told_maybe mid cert o →
      AreWritten c found.event size found.analysis extended cert before after ending
  files_written complete (Some bytes) h is = (bytes, h, is ∙ ap (λ t. told_with t cert bytes) first)
  files_written complete None h is = absurd h
  files_written (bounded k) (Some bytes) h is = absurd h
  files_written (bounded k) None h is = is ∙ first

  -- all of it
  pub has_analysed : (s : Status) → s ≡ ended_with (told_ending f.ending) → after ≡ told_maybe mid cert f.cert → now ≡ said_more said f.report →
      HasAnalysed c word depth size extended cert s before after said now
  has_analysed s ends written line =
      record {
        event = found.event;
        is_event = found.is_event;
        analysis = found.analysis;
        found = found.found;
        ends = ends ∙ ap ended_with found.ends;
        written = files_written found.analysis.ending f.cert found.certified written;
        reported = line ∙ ap (said_more said) found.reported;
      }

  certificate_begun : (ending : Ending) (o : Option (List ℕ)) → found.analysis.ending ≡ ending → IsCertifiedAs c found.event size found.analysis ending o → WritesPrefixMaybe mid after cert o → now ≡ said →
      AnalysesInPart c word depth size extended cert before after said now
  certificate_begun complete (Some bytes) is h front silent =
      part_of_certificate found.event found.analysis bytes found.is_event found.found is h (subst (λ t. WritesPrefix t after cert bytes) first front) silent
  certificate_begun complete None is h front silent = absurd h
  certificate_begun (bounded k) (Some bytes) is h front silent = absurd h
  certificate_begun (bounded k) None is h front silent = part_of_extension (whole_prefix before after extended (extension_text c) (front ∙ first)) silent

  -- and a part
  pub analyses_in_part : (mid_said : Said) → mid_said ≡ said → ConcludesInPart cert f mid after mid_said now → AnalysesInPart c word depth size extended cert before after said now
  analyses_in_part mid_said same (inl part) = certificate_begun found.analysis.ending f.cert refl found.certified part.0 (part.1 ∙ same)
  analyses_in_part mid_said same (inr part) =
      part_of_report found.event found.analysis found.is_event found.found (files_written found.analysis.ending f.cert found.certified part.0)
      (subst (λ t. SaysPrefix said now t) found.reported (subst (λ t. SaysPrefix t now f.report) same part.1))
