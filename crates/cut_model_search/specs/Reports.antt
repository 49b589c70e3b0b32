-- What is made of an analysis of a model with faults: its report, and its certificate.
use Rattle.std.specs.Prelude.{◌≡◌, ℕ, List, Option, length, map}
use Rattle.smv_language.specs.Language.{Text, name_of_fault}
use Rattle.smv_type_laws.specs.Costs.{state_bits}
use Rattle.cut_text_laws.specs.AnalysisText.{analysis_text}
use Rattle.cut_report.specs.FaultText.{faults_text}
use Rattle.cut_report_laws.specs.SearchAnswer.{analysis_of}
use Rattle.cut_search.specs.declared.answer.Analysis.{Analysis}
use Rattle.cut_model_search.specs.FaultyModels.{FaultyValue, flat_in, modes_in, event_in, whole_in, AnswersSearch}
use Rattle.cut_model_search.specs.Searches.{HasCertificate}

-- the report of an analysis of the model
abbrev pub report_in : FaultyValue → Analysis → Text
report_in v a =
    analysis_text (faults_text (map name_of_fault v.faults)) (flat_in v) (state_bits (whole_in v)) (length v.faults) a.size
    (analysis_of v.model.symbols a)

-- this certificate is that of an answer, or none where it is bounded
abbrev pub IsCertificateOf : FaultyValue → Analysis → Option (List ℕ) → Type 0
IsCertificateOf v a cert = HasCertificate (flat_in v) (modes_in v) (event_in v) v.model.symbols a a.end cert

-- the analysis answers a search, and these are its certificate and its report
pub record IsReported (v : FaultyValue) (depth size : ℕ) (a : Analysis) (cert : Option (List ℕ)) (report : Text) : Type 0 where
  pub answer : AnswersSearch v depth size a
  pub certified : IsCertificateOf v a cert
  pub reported : report ≡ report_in v a
