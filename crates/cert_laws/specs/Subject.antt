-- What certificates are judged about: the lists of a model with history, and that of its bad states.
use Rattle.std.specs.Prelude.{List, length}
use Rattle.smv_language.specs.Language.{Tree, FlatLeaf, FlatModel}
use Rattle.smv_flat_laws.specs.History.{Mode, with_history}
use Rattle.sat_encoding_laws.specs.FlatTraces.{history_of}
use Rattle.sat_encoding_laws.specs.Lists.{system_of, bad_list}
use Rattle.sat_encoding_laws.specs.Encodable.{IsEncodable, IsFitTop}
use Rattle.cert_laws.specs.Acceptance.{Subject}
use Rattle.cert_laws.specs.Certification.{IsSubjectOf}

-- the lists of the model with history, its number of faults, and the list of bad states
abbrev pub subject_of : FlatModel → FlatModel → List Mode → Tree FlatLeaf → Subject
subject_of full m fs top =
    record { system = system_of full; faults = length fs; bad = λ sets size. bad_list full top (history_of m fs) sets size }

-- It is a subject of the model, where the model with history is encodable and the top event fits it.
abbrev pub SubjectsAreRight : Type 0
SubjectsAreRight =
    (m : FlatModel) (fs : List Mode) (top : Tree FlatLeaf) → IsEncodable (with_history m fs) → IsFitTop (with_history m fs) top →
    IsSubjectOf m fs top (subject_of (with_history m fs) m fs top)
