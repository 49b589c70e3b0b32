-- Which certificates, and which models with faults and a top event, can be judged.
use Rattle.std.specs.Prelude.{◌≡◌, ℕ, ◌^◌, ◌<◌, false, List, [], length}
use Rattle.std.specs.List.{AllByRecursion}
use Rattle.smv_language.specs.Language.{Tree, FlatLeaf, FlatModel}
use Rattle.smv_flat_laws.specs.History.{Mode, with_history}
use Rattle.smv_type_laws.specs.Laws.{ReadsOwn}
use Rattle.smv_type_laws.specs.Models.{judged_in, broken_condition}
use Rattle.smv_evaluation.specs.EvaluableModels.{IsEvaluable}
use Rattle.sat_encoding_laws.specs.EncodedLaws.{AreOwn}
use Rattle.sat_encoding_laws.specs.Encodable.{IsEncodable, IsFitTop}
use Rattle.cut_text_laws.specs.TraceOfText.{IsPrintable, HasItsSymbols}
use Rattle.cut_text_laws.specs.Lines.{Line, IsLine}
use Rattle.cert_laws.specs.Certificate.{Certificate, part_bad, an_end, line_of}
use Rattle.cert_laws.specs.CertificateText.{SpellsCertificate}
use Rattle.cert_check.specs.Matter.{Matter}

-- a text has fewer than 2^32 lines, and no line feed in one
pub record IsShortText (text : List Line) : Type 0 where
  pub few : length text < 2 ^ 32
  pub lines : AllByRecursion IsLine text

-- There is a trace text for each set, of fewer than 2^32 lines; and all lines have numbers below 2^64.
pub record IsCheckable (c : Certificate) : Type 0 where
  pub one_each : length c.traces ≡ length c.sets
  pub texts : AllByRecursion IsShortText c.traces
  pub few : line_of c (an_end part_bad) < 2 ^ 64

-- so it is for each certificate that fewer than 2^32 bytes spell
abbrev pub SpelledAreCheckable : Type 0
SpelledAreCheckable = (bytes : List ℕ) (c : Certificate) → length bytes < 2 ^ 32 → SpellsCertificate bytes c → IsCheckable c

-- Traces of the model can be read and replayed, the faults are modes of it, the top event is a condition over it, and with the
-- history of its faults it is encodable and the top event fits.
pub record IsFit (m : FlatModel) (fs : List Mode) (top : Tree FlatLeaf) : Type 0 where
  pub printable : IsPrintable m
  pub symbols : HasItsSymbols m
  pub evaluable : IsEvaluable m
  pub own : AreOwn m fs top
  pub reads_own : ReadsOwn m top
  pub right : broken_condition (judged_in m false top) ≡ []
  pub encodable : IsEncodable (with_history m fs)
  pub fits : IsFitTop (with_history m fs) top

-- With the history of its faults the model is encodable, and the top event fits.
pub record IsProvable (m : FlatModel) (fs : List Mode) (top : Tree FlatLeaf) : Type 0 where
  pub encodable : IsEncodable (with_history m fs)
  pub fits : IsFitTop (with_history m fs) top

-- the subject has the lists of the model with history, and the derivations of the certificate can be judged
pub record CanBeProved (full : FlatModel) (a : Matter) : Type 0 where
  pub history : full ≡ with_history a.model a.modes
  pub model : IsProvable a.model a.modes a.top
  pub certificate : IsCheckable a.certificate

-- the subject has the lists of the model with history, and the matter can be judged
pub record CanBeJudged (full : FlatModel) (a : Matter) : Type 0 where
  pub history : full ≡ with_history a.model a.modes
  pub model : IsFit a.model a.modes a.top
  pub certificate : IsCheckable a.certificate
