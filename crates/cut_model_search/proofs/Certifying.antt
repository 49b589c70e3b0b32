-- From a complete answer of a search to a certificate of it.
use Rattle.std.proofs.Common.{◌≡◌, ℕ, List, [], ◌∷◌, map, refl, ap, subst, ◌∙◌}
use Rattle.base_values.specs.declared.value.Value.{Value as Numbered}
use Rattle.smv_language.specs.Language.{model_tree, told_trace}
use Rattle.smv_language.specs.declared.model.FlatModel.{FlatModel as Made}
use Rattle.cut_text_laws.specs.Lines.{fed}
use Rattle.cut_text_laws.specs.TraceText.{trace_lines}
use Rattle.cut_text_laws.specs.TraceOfText.{GivesTrace}
use Rattle.cert_text.specs.CertificateView.{seen}
use Rattle.cert_text.specs.declared.certificate.Certificate.{Certificate as Written}
use Rattle.cert_laws.specs.CertificateText.{IsWritable, SpellsCertificate, version_two, lines_of}
use Rattle.cert_laws.specs.Certificate.{Certificate}
use Rattle.cert_laws.specs.Certification.{IsCertified}
use Rattle.cut_model_search.specs.Certifiable.{IsCertifiable}
use Rattle.cut_model_search.specs.FaultyModels.{FaultyValue, flat_in, modes_in, event_in, whole_in}
use Rattle.cert_laws.specs.Subject.{subject_of}
use Rattle.cut_model_search.specs.Texts.{text_lines}
use Rattle.cut_search.specs.declared.answer.Analysis.{Analysis as Searched}
use Rattle.cut_model_search.specs.CaseAnalysis.{IsCertificateFor}
use Rattle.cut_model_search.specs.Searches.{IsSearched}

-- the lines of texts are those of the traces that are told
pub texts_are : (m : Made) (traces : List (List (List Numbered))) → map (text_lines m) traces ≡ map (trace_lines (model_tree m) 0) (map (told_trace m.symbols) traces)
texts_are m [] = refl
texts_are m (t ∷ ts) = ap (λ more. text_lines m t ∷ more) (texts_are m ts)

-- an answer of a search can be certified
pub of_searched : (v : FaultyValue) (depth : ℕ) (a : Searched) → IsSearched (flat_in v) (modes_in v) (event_in v) depth a.size a → IsCertifiable v a
of_searched v depth a is = record { depth = depth; answer = is.answer; small = is.small; printable = λ some. is.printable }

-- the text of a certificate in version 2 spells it
pub spells_written : (bytes : List ℕ) (c : Certificate) → IsWritable c → bytes ≡ fed (lines_of version_two c) → SpellsCertificate bytes c
spells_written bytes c writable is = (lines_of version_two c, is, (writable, (version_two, tt, refl)))

-- a certificate that was made of it and written
pub certificate_for : (v : FaultyValue) (a : Searched) (x : Written) (bytes : List ℕ) →
    IsCertified (flat_in v) (modes_in v) (event_in v) (GivesTrace (flat_in v)) (subject_of (whole_in v) (flat_in v) (modes_in v) (event_in v)) (seen x) → x.size ≡ a.size → x.sets ≡ a.sets →
    x.traces ≡ map (text_lines v.model) a.traces → IsWritable (seen x) → bytes ≡ fed (lines_of version_two (seen x)) →
    IsCertificateFor (flat_in v) (modes_in v) (event_in v) a.size a.sets (map (told_trace v.model.symbols) a.traces) bytes
certificate_for v a x bytes certified size sets traces writable text =
    record {
      certificate = seen x;
      spells = spells_written bytes (seen x) writable text;
      in_version_two = text;
      accepted = certified;
      has_size = size;
      has_sets = sets;
      has_texts = traces ∙ texts_are v.model a.traces;
    }
