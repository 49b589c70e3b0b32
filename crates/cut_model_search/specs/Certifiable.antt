-- Of what answer a certificate can be made, and which one it is.
use Rattle.std.specs.Prelude.{◌≢◌, ℕ, ◌≤◌, List, [], length, All}
use Rattle.sat_clauses.specs.Literal.{Literal}
use Rattle.sat_clauses.specs.Hints.{HasNoOpposites}
use Rattle.sat_clauses.specs.States.{IsOverBits, IsInvariant}
use Rattle.smv_type_laws.specs.Costs.{state_bits}
use Rattle.cut_text_laws.specs.Lines.{Line}
use Rattle.sat_encoding_laws.specs.Lists.{system_of}
use Rattle.cut_text_laws.specs.TraceOfText.{IsPrintable}
use Rattle.cert_laws.specs.Certificate.{Certificate}
use Rattle.cert_making.specs.declared.parts.PartDerivations.{PartDerivations}
use Rattle.cut_search.specs.declared.answer.Analysis.{Analysis}
use Rattle.cut_model_search.specs.FaultyModels.{FaultyValue, flat_in, modes_in, whole_in, bad_in, AnswersSearch}

module _ (v : FaultyValue) where
  -- the analysis answers a search for at most so many faults as there are, and where it lists a set traces can be printed
  pub record IsCertifiable (a : Analysis) : Type 0 where
    pub depth : ℕ
    pub answer : AnswersSearch v depth a.size a
    pub small : a.size ≤ length (modes_in v)
    pub printable : a.sets ≢ [] → IsPrintable (flat_in v)

  -- the clauses are an invariant of the model's lists that excludes the bad states that the sets of an analysis leave
  pub record IsProof (a : Analysis) (clauses : List (List Literal)) : Type 0 where
    pub over_bits : All (IsOverBits (system_of (whole_in v))) clauses
    pub apart : All HasNoOpposites clauses
    pub invariant : IsInvariant (system_of (whole_in v)) (bad_in v a.sets a.size) clauses

  -- the certificate with the sets and the size of an analysis
  abbrev pub certificate_of : Analysis → List (List Line) → List (List Literal) → PartDerivations → Certificate
  certificate_of a traces clauses parts =
      record {
        bits = state_bits (whole_in v);
        faults = length (modes_in v);
        size = a.size;
        sets = a.sets;
        traces = traces;
        invariant = clauses;
        first = parts.first;
        next = parts.next;
        bad = parts.bad;
      }
