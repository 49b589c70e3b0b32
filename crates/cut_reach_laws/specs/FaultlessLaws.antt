-- What a search of a model without faults says, and a certificate that lists no set.
use Rattle.std.specs.Prelude.{◌≡◌, ℕ, ◌+◌, nat_le, Bool, true, IsTrue, List, [], Some, length, slice_get}
use Rattle.smv_language.specs.Language.{Tree, Value, FlatLeaf, FlatModel}
use Rattle.base_values.specs.declared.value.Value.{Value as Numbered}
use Rattle.smv_flat_laws.specs.FlatTrace.{IsFlatTrace}
use Rattle.sat_encoding_laws.specs.FlatTraces.{ReachesTop}
use Rattle.sat_encoding_laws.specs.EncodedLaws.{AreOwn}
use Rattle.cut_text_laws.specs.TraceOfText.{GivesTrace}
use Rattle.cut_search_laws.specs.Problem.{Problem}
use Rattle.cut_search.specs.declared.answer.Analysis.{Analysis}
use Rattle.cut_search.specs.declared.answer.End.{End}
use Rattle.cut_search.specs.declared.answer.End.TheVariants.{Complete, Bounded}
use Rattle.cut_search.specs.Answer.{IsAnswer}
use Rattle.cut_search.specs.Values.{trace_of}
use Rattle.cert_laws.specs.Certificate.{Certificate}
use Rattle.cert_laws.specs.Acceptance.{Subject}
use Rattle.cert_laws.specs.Certification.{IsSubjectOf, IsCertified}

-- the lengths of the traces that an end speaks of: all, or those of at most so many steps
abbrev pub class_of : End → ℕ → Bool
class_of (Complete clauses) n = true
class_of (Bounded k) n = nat_le n (k + 1)

-- no trace of a class of lengths makes the expression TRUE at its end
abbrev pub NoneReaches : FlatModel → Tree FlatLeaf → (ℕ → Bool) → Type 0
NoneReaches m e class = (long : List (List Value)) → IsFlatTrace m long → IsTrue (class (length long)) → ReachesTop m e long → ⊥

-- the problem without its faults
abbrev pub without_faults : Problem → Problem
without_faults problem = record problem { modes = [] }

-- where an answer lists nothing, no trace that its end speaks of makes the expression TRUE at its end
abbrev pub EmptyAnswersRefute : Type 0
EmptyAnswersRefute =
    (problem : Problem) (depth size : ℕ) (a : Analysis) → IsAnswer (without_faults problem) depth size a → length a.traces ≡ 0 →
    NoneReaches problem.model problem.top (class_of a.end)

-- the first trace of an answer is one that does
abbrev pub FoundTracesReach : Type 0
FoundTracesReach =
    (problem : Problem) (depth size : ℕ) (a : Analysis) → IsAnswer (without_faults problem) depth size a → (trace : List (List Numbered)) →
    slice_get a.traces 0 ≡ Some trace →
    IsFlatTrace problem.model (trace_of problem.model.symbols trace)
    × ReachesTop problem.model problem.top (trace_of problem.model.symbols trace)

-- where an accepted certificate lists no set, no trace at all makes the expression TRUE at its end
abbrev pub AcceptedRefute : Type 0
AcceptedRefute =
    (m : FlatModel) (e : Tree FlatLeaf) → AreOwn m [] e → (subject : Subject) → IsSubjectOf m [] e subject → (c : Certificate) →
    IsCertified m [] e (GivesTrace m) subject c → c.sets ≡ [] →
    NoneReaches m e (λ n. true)
