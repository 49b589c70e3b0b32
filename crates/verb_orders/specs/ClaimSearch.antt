-- A search over a staged model for a trace that speaks against a claim, and what is concluded of it.
use Rattle.std.specs.Prelude.{◌≡◌, ℕ, ◌-◌, ◌<◌, ◌≤◌, ◌^◌, List, [], Option, Some, None, Bool, false, length, slice_get}
use Rattle.base_files.specs.declared.files.NamedFile.{NamedFile}
use Rattle.smv_language.specs.Language.{Tree, Text, model_tree, flat_tree, FlatLeaf, FlatModel}
use Rattle.base_values.specs.declared.value.Value.{Value as Numbered}
use Rattle.base_values.specs.declared.value.Value.TheVariants.{Bool as ABool, Num, Sym}
use Rattle.base_values.specs.declared.limits.TheConstants.{MOST_FAULTS}
use Rattle.smv_flat_laws.specs.FlatTrace.{IsFlatTrace}
use Rattle.sat_encoding_laws.specs.FlatTraces.{ReachesTop}
use Rattle.cut_search_laws.specs.Problem.{problem_of}
use Rattle.cut_search_laws.specs.Searchable.{IsSearchable}
use Rattle.cut_text_laws.specs.Analysis.{told_ending}
use Rattle.cut_search.specs.Answer.{IsAnswer}
use Rattle.cut_search.specs.Values.{trace_of}
use Rattle.cut_search.specs.declared.answer.Analysis.{Analysis}
use Rattle.cut_search.specs.declared.answer.End.{End}
use Rattle.cut_search.specs.declared.answer.End.TheVariants.{Complete, Bounded}
use Rattle.fault_orders.specs.declared.Relation.{Relation}
use Rattle.fault_orders.specs.declared.Relation.TheVariants.{Together}
use Rattle.fault_orders.specs.Stage.{against}
use Rattle.fault_orders.specs.RelationValues.{told_relation}
use Rattle.cut_report_laws.specs.ExtendedTraces.{Ending, complete, bounded}
use Rattle.verb_loading.specs.Cases.{Case}
use Rattle.verb_loading.specs.LoadedEvents.{case_in}
use Rattle.verb_orders.specs.declared.pair.PairCase.{PairCase}
use Rattle.verb_orders.specs.declared.searched.Searched.{Searched}
use Rattle.cert_file.specs.declared.conclusion.Conclusion.{Conclusion}
use Rattle.verb_orders.specs.Pairs.{HoldsPair}
use Rattle.verb_orders.specs.Orders.{Order, claimed, either, CertifiesClaim, FoundOrder, order_report, staged_of, against_of}

-- there are as few symbols as a search can number, and no more faults than a weave takes
pub record HasFew (s : PairCase) : Type 0 where
  pub symbols : length s.loaded.case.limited.typed.model.symbols < 2 ^ 31
  pub faults : length s.loaded.case.limited.faults ≤ MOST_FAULTS

-- the expression is what speaks against the claim over the staged model
abbrev pub SpeaksFor : PairCase → Option Relation → Tree FlatLeaf → Type 0
SpeaksFor s claim e =
    e ≡ against (model_tree s.typed.model) (length s.loaded.case.limited.faults) (flat_tree s.loaded.top) s.set.items claim

-- this answers a search of a model without faults
abbrev pub IsAnswerAlone : FlatModel → Tree FlatLeaf → ℕ → Analysis → Type 0
IsAnswerAlone m e depth a = IsAnswer (problem_of m [] e) depth 0 a

-- what speaks against the claim was searched for
pub record IsSearchOf (s : PairCase) (claim : Option Relation) (depth : ℕ) (r : Searched) : Type 0 where
  pub speaks : SpeaksFor s claim (flat_tree r.top)
  pub searchable : IsSearchable (model_tree s.typed.model) [] (flat_tree r.top)
  pub answer : IsAnswerAlone (model_tree s.typed.model) (flat_tree r.top) depth r.analysis

-- a value is TRUE
abbrev pub is_true_value : Option Numbered → Bool
is_true_value None = false
is_true_value (Some (ABool b)) = b
is_true_value (Some (Num n)) = false
is_true_value (Some (Sym i)) = false

-- the relation that the last two values of a moment tell
abbrev pub relation_at : List Numbered → Relation
relation_at v = told_relation (is_true_value (slice_get v (length v - 2))) (is_true_value (slice_get v (length v - 1)))

-- the relation that the last moment of a trace tells
abbrev pub relation_of_last : Option (List Numbered) → Relation
relation_of_last None = Together
relation_of_last (Some v) = relation_at v

-- the relation that the last moment of a trace tells
abbrev pub relation_in : List (List Numbered) → Relation
relation_in trace = relation_of_last (slice_get trace (length trace - 1))

-- a trace of the staged model that makes what speaks against the claim TRUE at its end, by its values
pub record IsTraceAgainst (s : PairCase) (claim : Option Relation) (trace : List (List Numbered)) : Type 0 where
  pub e : Tree FlatLeaf
  pub speaks : SpeaksFor s claim e
  pub is_trace : IsFlatTrace (model_tree s.typed.model) (trace_of s.typed.model.symbols trace)
  pub reaching : ReachesTop (model_tree s.typed.model) e (trace_of s.typed.model.symbols trace)

-- where a relation is claimed, a trace that reaches the event with exactly the set tells it
abbrev pub IsToldBy : PairCase → Option Relation → Type 0
IsToldBy s None = Unit {0}
IsToldBy s (Some r) = (trace : List (List Numbered)) × IsTraceAgainst s None trace × (relation_in trace ≡ r)

-- the model of a case staged for its two faults
abbrev pub staged_in : PairCase → FlatModel
staged_in s = staged_of (case_in s.loaded) s.asked.first s.asked.second

-- what speaks against a claim of a staged case
abbrev pub against_in : PairCase → Option Relation → Tree FlatLeaf
against_in s claim = against_of (case_in s.loaded) s.set.items s.asked.first s.asked.second (flat_tree s.loaded.top) claim

-- the certificate of a complete claim, and else none
abbrev pub IsCertifiedOrder : Case → List ℕ → ℕ → ℕ → Tree FlatLeaf → Order → Ending → Option (List ℕ) → Type 0
IsCertifiedOrder c set first second tree (claimed claim) complete (Some bytes) = CertifiesClaim c set first second tree claim bytes
IsCertifiedOrder c set first second tree (claimed claim) (bounded k) None = Unit {0}
IsCertifiedOrder c set first second tree (either values others) ending None = Unit {0}
IsCertifiedOrder c set first second tree _ _ _ = ⊥

-- a complete search without a trace has a certificate of the claim, and a bounded one none
abbrev pub HasClaimCertificate : PairCase → Option Relation → End → Option (List ℕ) → Type 0
HasClaimCertificate s claim (Complete clauses) (Some bytes) =
    CertifiesClaim (case_in s.loaded) s.set.items s.asked.first s.asked.second (flat_tree s.loaded.top) claim bytes
HasClaimCertificate s claim (Bounded k) None = Unit {0}
HasClaimCertificate s claim _ _ = ⊥

-- What was found of the two faults: an order that is so, its ending and its report, and for a complete claim a certificate.
pub record Concludes (c : Case) (top : Text) (set : List ℕ) (first second depth : ℕ) (k : Conclusion) : Type 0 where
  pub found : FoundOrder c top set first second depth
  pub ends : told_ending k.ending ≡ found.ending
  pub certified : IsCertifiedOrder c set first second found.tree found.order found.ending k.cert
  pub reported : k.report ≡ order_report c first second found.order found.ending

-- so it is of the two faults of a staged case
abbrev pub IsConclusion : PairCase → ℕ → Conclusion → Type 0
IsConclusion s depth k = Concludes (case_in s.loaded) s.asked.top.now s.set.items s.asked.first s.asked.second depth k

-- the files hold a case with the two faults, of which this is concluded
pub record ConcludesFrom (files : List NamedFile) (model faults top : Text) (set : List ℕ) (first second depth : ℕ) (k : Conclusion) : Type
    0 where
  pub c : Case
  pub holds : HoldsPair files model faults set first second c
  pub is : Concludes c top set first second depth k
