-- What a search answered of a model with faults and a top event, and the certificate of a complete answer.
use Rattle.std.specs.Prelude.{ℕ, ◌≤◌, List, Option, Some, None, map, length}
use Rattle.smv_language.specs.Language.{Tree, Text, FlatLeaf, FlatModel, told_trace}
use Rattle.smv_flat_laws.specs.History.{Mode, with_history}
use Rattle.sat_encoding_laws.specs.EncodedLaws.{AreOwn}
use Rattle.sat_encoding_laws.specs.Encodable.{IsEncodable, IsFitTop}
use Rattle.cut_text_laws.specs.TraceOfText.{IsPrintable}
use Rattle.cut_search_laws.specs.Problem.{problem_of}
use Rattle.cut_search.specs.Answer.{IsAnswer}
use Rattle.cut_search.specs.declared.answer.Analysis.{Analysis as Searched}
use Rattle.cut_search.specs.declared.answer.End.{End}
use Rattle.cut_search.specs.declared.answer.End.TheVariants.{Complete, Bounded}
use Rattle.cut_model_search.specs.CaseAnalysis.{IsCertificateFor}

module _ (m : FlatModel) (fs : List Mode) (tree : Tree FlatLeaf) where
  -- the model with history is encodable, the top event fits it, and this answers a search of at most so many faults as there are
  pub record IsSearched (depth size : ℕ) (a : Searched) : Type 0 where
    pub own : AreOwn m fs tree
    pub encodable : IsEncodable (with_history m fs)
    pub fits : IsFitTop (with_history m fs) tree
    pub printable : IsPrintable m
    pub answer : IsAnswer (problem_of m fs tree) depth size a
    pub small : size ≤ length fs

  -- a complete answer has a certificate of this size with its sets and traces, and a bounded one none
  abbrev pub HasCertificate : List Text → Searched → End → Option (List ℕ) → Type 0
  HasCertificate symbols a (Complete clauses) (Some bytes) =
      IsCertificateFor m fs tree a.size a.sets (map (told_trace symbols) a.traces) bytes
  HasCertificate symbols a (Bounded k) None = Unit {0}
  HasCertificate symbols a _ _ = ⊥
