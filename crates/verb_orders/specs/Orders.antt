-- What orders of two faults come to: what is said of them, what that means, and what an accepted claim means.
use Rattle.std.specs.Prelude.{◌≡◌, ◌⊎◌, ℕ, ◌+◌, ◌-◌, ◌≤◌, List, [], ◌++◌, Option, Some, None, codes, length, slice_get, if◌then◌else◌}
use Rattle.std.specs.Fmt.{decimal}
use Rattle.std.specs.Str.{bytes_eq}
use Rattle.base_files.specs.declared.files.NamedFile.{NamedFile}
use Rattle.base_files.specs.Desk.{told_with, said_more, WritesPrefix, SaysPrefix}
use Rattle.smv_language.specs.Language.{Tree, Text, Formula, Value, FlatLeaf, FlatModel}
use Rattle.smv_type_laws.specs.Costs.{state_bits}
use Rattle.fault_weave.specs.ExtensionTraces.{Moment}
use Rattle.fault_weave.specs.Faults.{Fault}
use Rattle.sat_encoding_laws.specs.EncodedLaws.{AreOwn}
use Rattle.cert_laws.specs.ExtendedTraces.{IsFlatCut}
use Rattle.cut_text_laws.specs.TraceText.{trace_text}
use Rattle.cut_text_laws.specs.TraceOfText.{GivesTrace}
use Rattle.cut_search_laws.specs.Problem.{problem_of}
use Rattle.cut_search.specs.Progress.{HasChainFor}
use Rattle.cert_laws.specs.Certificate.{Certificate}
use Rattle.cert_laws.specs.Certification.{IsSubjectOf, IsCertified}
use Rattle.cert_laws.specs.Subject.{subject_of}
use Rattle.cert_check.specs.Matter.{Matter}
use Rattle.cert_check.specs.SiteFindings.{IsObjectionUnlisted}
use Rattle.fault_orders.specs.declared.Relation.{Relation}
use Rattle.fault_orders.specs.declared.Relation.TheVariants.{Before, After, Together}
use Rattle.fault_orders.specs.Relations.{HasRelation}
use Rattle.fault_orders.specs.Stage.{stage, against}
use Rattle.cut_reach_laws.specs.OrdersExtendedLaws.{FaultStands, IsSuch}
use Rattle.cut_report_laws.specs.ExtendedTraces.{Ending, complete, bounded}
use Rattle.verb_loading.specs.declared.status.Refusal.{Refusal}
use Rattle.verb_loading.specs.declared.status.Refusal.TheVariants as refusal
use Rattle.verb_loading.specs.declared.status.Objection.TheVariants as objection
use Rattle.verb_loading.specs.Cases.{Case, IsTopWord}
use Rattle.verb_loading.specs.Tasks.{IsTopTree}
use Rattle.verb_loading.specs.CaseAnswers.{Told, Said}
use Rattle.cut_model_search.specs.CaseAnalysis.{IsCertificateFor}
use Rattle.cert_file.specs.CertificateFiles.{RefusesCertificate, HoldsCertificate}
use Rattle.verb_loading.specs.declared.status.Status.{Status}
use Rattle.verb_loading.specs.declared.status.Status.TheVariants as status
use Rattle.verb_loading.specs.Statuses.{ended_with}
use Rattle.verb_orders.specs.Pairs.{HoldsPair, RefusesPair}

-- What is found of the order of two faults: that no trace reaches the event with exactly the set, or that each has a relation; or two
-- traces that differ, by the values of their moments.
pub data Order : Type 0 where
  claimed : Option Relation → Order
  either : List (List Value) → List (List Value) → Order

-- two faults of a case by their numbers, from one on
pub record AreFaults (c : Case) (first second : ℕ) (one other : Fault) : Type 0 where
  pub is_one : slice_get c.faults (first - 1) ≡ Some one
  pub is_other : slice_get c.faults (second - 1) ≡ Some other

-- the traces that an ending speaks of: all, or those of at most so many steps
abbrev pub IsOfEnding : Ending → List Moment → Type 0
IsOfEnding complete trace = Unit {0}
IsOfEnding (bounded k) trace = length trace ≤ k + 1

module _ (c : Case) (event : Formula) (set : List ℕ) (one other : Fault) where
  -- an extended trace of the case that reaches the event and has failed exactly the set
  abbrev pub IsSuchTrace : List Moment → Type 0
  IsSuchTrace trace = IsSuch c.program c.instructions c.faults event set trace

  -- the relation of the two faults in it
  abbrev pub Relates : Relation → List Moment → Type 0
  Relates r trace = HasRelation Moment r (FaultStands one) (FaultStands other) trace

  -- there is no such trace, or each has the relation
  abbrev pub IsClaimed : Ending → Option Relation → Type 0
  IsClaimed ending None = (trace : List Moment) → IsSuchTrace trace → IsOfEnding ending trace → ⊥
  IsClaimed ending (Some r) = (trace : List Moment) → IsSuchTrace trace → IsOfEnding ending trace → Relates r trace

  -- where a relation is claimed there is such a trace
  abbrev pub IsShown : Option Relation → Type 0
  IsShown None = Unit {0}
  IsShown (Some r) = (trace : List Moment) × IsSuchTrace trace

  -- two such traces, whose values these are, of which one has a relation that the other has not
  pub record Differ (values others : List (List Value)) : Type 0 where
    pub trace : List Moment
    pub is_such : IsSuchTrace trace
    pub cut : IsFlatCut c.program c.instructions c.flat values trace
    pub second : List Moment
    pub second_such : IsSuchTrace second
    pub second_cut : IsFlatCut c.program c.instructions c.flat others second
    pub relation : Relation
    pub has : Relates relation trace
    pub has_not : Relates relation second → ⊥

  -- what an order means
  abbrev pub IsOrder : Ending → Order → Type 0
  IsOrder ending (claimed claim) = IsClaimed ending claim × IsShown claim
  IsOrder ending (either values others) = Differ values others

-- the model of a case staged for two faults
abbrev pub staged_of : Case → ℕ → ℕ → FlatModel
staged_of c first second = stage c.flat c.modes first second

-- what speaks against a claim of two faults
abbrev pub against_of : Case → List ℕ → ℕ → ℕ → Tree FlatLeaf → Option Relation → Tree FlatLeaf
against_of c set first second tree claim = against (staged_of c first second) (length c.modes) tree set claim

-- for all traces, or for those of at most as many steps as the depth, where a chain as long as the depth exists without any listed set
abbrev pub EndsOrder : Case → List ℕ → ℕ → ℕ → Tree FlatLeaf → ℕ → Order → Ending → Type 0
EndsOrder c set first second tree depth order complete = Unit {0}
EndsOrder c set first second tree depth (claimed claim) (bounded k) =
    (k ≡ depth)
    × HasChainFor (problem_of (staged_of c first second) [] (against_of c set first second tree claim)) 0 [] k
EndsOrder c set first second tree depth (either values others) (bounded k) = ⊥

-- the bytes spell a certificate with no fault, size 0 and no set, which is accepted for the staged model and what speaks against the claim
abbrev pub CertifiesClaim : Case → List ℕ → ℕ → ℕ → Tree FlatLeaf → Option Relation → List ℕ → Type 0
CertifiesClaim c set first second tree claim bytes =
    IsCertificateFor (staged_of c first second) [] (against_of c set first second tree claim) 0 [] [] bytes

-- what was written: the certificate of a complete claim, and else nothing
abbrev pub IsClaimWritten : Case → List ℕ → ℕ → ℕ → Tree FlatLeaf → Order → Ending → Text → Told → Told → Type 0
IsClaimWritten c set first second tree (claimed claim) complete cert before after = (bytes : List ℕ)
    × CertifiesClaim c set first second tree claim bytes × (after ≡ told_with before cert bytes)
IsClaimWritten c set first second tree _ _ cert before after = after ≡ before

-- a part of it was
abbrev pub IsClaimBegun : Case → List ℕ → ℕ → ℕ → Tree FlatLeaf → Order → Ending → Text → Told → Told → Type 0
IsClaimBegun c set first second tree (claimed claim) complete cert before after = (bytes : List ℕ)
    × CertifiesClaim c set first second tree claim bytes × WritesPrefix before after cert bytes
IsClaimBegun c set first second tree _ _ cert before after = after ≡ before

-- ---- the line that is said

-- the word of a claim
abbrev pub claim_word : Option Relation → Text
claim_word None = codes "none"
claim_word (Some Before) = codes "before"
claim_word (Some After) = codes "after"
claim_word (Some Together) = codes "together"

-- the word of what was found
abbrev pub order_word : Order → Text
order_word (claimed claim) = claim_word claim
order_word (either values others) = codes "either"

-- how far the search went, where it was bounded, and over how many bits
abbrev pub reach_text : Ending → ℕ → Text
reach_text complete bits = codes "\n"
reach_text (bounded k) bits = codes " to " ++ (decimal k ++ (codes " bits " ++ (decimal bits ++ codes "\n")))

-- the two traces, where they differ
abbrev pub traces_text : FlatModel → Order → Text
traces_text m (claimed claim) = []
traces_text m (either values others) = codes "trace 1\n" ++ (trace_text m values ++ (codes "trace 2\n" ++ trace_text m others))

-- the text that is said of two faults
abbrev pub order_text : FlatModel → ℕ → ℕ → Order → Ending → ℕ → Text
order_text m first second order ending bits =
    codes "pair " ++ (decimal first
    ++ (codes " " ++ (decimal second ++ (codes " " ++ (order_word order ++ (reach_text ending bits ++ traces_text m order))))))

-- what is said of an order of two faults of a case
abbrev pub order_report : Case → ℕ → ℕ → Order → Ending → Text
order_report c first second order ending = order_text c.flat first second order ending (state_bits (staged_of c first second))

-- An event that the word spells, as an expression over the flat model; the two faults; and an order of them that is so, and that ends
-- by the depth.
pub record FoundOrder (c : Case) (top : Text) (set : List ℕ) (first second depth : ℕ) : Type 0 where
  pub event : Formula
  pub is_event : IsTopWord c.program top event
  pub tree : Tree FlatLeaf
  pub is_tree : IsTopTree c event tree
  pub one : Fault
  pub other : Fault
  pub are : AreFaults c first second one other
  pub order : Order
  pub ending : Ending
  pub right : IsOrder c event set one other ending order
  pub ends_by : EndsOrder c set first second tree depth order ending

-- The files hold a case with the two faults, of which nothing is to be refused, and the word spells an event of it. The order of the
-- two was found, said, and where it is complete and claimed certified.
pub record HasOrder (files : List NamedFile) (model faults top : Text) (set : List ℕ) (first second depth : ℕ) (cert : Text) (s : Status)
    (before after : Told) (said now : Said) : Type 0 where
  pub c : Case
  pub holds : HoldsPair files model faults set first second c
  pub found : FoundOrder c top set first second depth
  pub ends : s ≡ ended_with found.ending
  pub written : IsClaimWritten c set first second found.tree found.order found.ending cert before after
  pub reported : now ≡ said_more said (order_report c first second found.order found.ending)

-- A part of that, in the order of the work: of the certificate, where nothing was said; or of the report, where the certificate is
-- written.
pub record OrdersInPart (files : List NamedFile) (model faults top : Text) (set : List ℕ) (first second depth : ℕ) (cert : Text)
    (before after : Told) (said now : Said) : Type 0 where
  pub c : Case
  pub holds : HoldsPair files model faults set first second c
  pub found : FoundOrder c top set first second depth
  pub part : (IsClaimBegun c set first second found.tree found.order found.ending cert before after × (now ≡ said))
      ⊎ (IsClaimWritten c set first second found.tree found.order found.ending cert before after
      × SaysPrefix said now (order_report c first second found.order found.ending))

-- ---- certificates

-- what a word claims: one of the relations, or that there is no trace
abbrev pub claim_in : Text → Option Relation
claim_in word = if bytes_eq word (codes "before") then Some Before else
    (if bytes_eq word (codes "after") then Some After else (if bytes_eq word (codes "together") then Some Together else None))

-- what is judged: the staged model, which has no faults of its own, with what speaks against the claim
abbrev pub staged_matter : FlatModel → Tree FlatLeaf → Certificate → Matter
staged_matter m e a = record { model = m; modes = []; top = e; subject = subject_of m m [] e; certificate = a }

-- the certificate breaks a rule, where listing a set breaks the last one
pub data RefusesClaim (m : FlatModel) (e : Tree FlatLeaf) (a : Certificate) (r : Refusal) : Type 0 where
  at_line : (line number : ℕ) → r ≡ (refusal.NotAccepted (objection.Line line number)) →
      IsObjectionUnlisted (staged_matter m e a) line number → RefusesClaim m e a r

-- it is accepted for the staged model, and lists no set
pub record IsAcceptedClaim (m : FlatModel) (e : Tree FlatLeaf) (a : Certificate) : Type 0 where
  pub own : AreOwn m [] e
  pub is_subject : IsSubjectOf m [] e (subject_of m m [] e)
  pub certified : IsCertified m [] e (GivesTrace m) (subject_of m m [] e) a
  pub no_set : a.sets ≡ []

-- the file of a certificate holds none, or one that breaks a rule
pub data RefusesFile (files : List NamedFile) (cert : Text) (m : FlatModel) (e : Tree FlatLeaf) (r : Refusal) : Type 0 where
  unread : RefusesCertificate files cert r → RefusesFile files cert m e r
  unfit : (a : Certificate) → HoldsCertificate files cert a → RefusesClaim m e a r → RefusesFile files cert m e r

-- or one that is accepted
pub record AcceptsFile (files : List NamedFile) (cert : Text) (m : FlatModel) (e : Tree FlatLeaf) : Type 0 where
  pub certificate : Certificate
  pub has_certificate : HoldsCertificate files cert certificate
  pub accepted : IsAcceptedClaim m e certificate

-- What a check of an order is refused for, in the order of the work: the pair; or else, where nothing of that is to be refused, the
-- file of the certificate, or a line of it.
pub data RefusesCheck (files : List NamedFile) (model faults top : Text) (set : List ℕ) (first second : ℕ) (claim cert : Text)
    (r : Refusal) : Type 0 where
  no_pair : RefusesPair files model faults top set first second r → RefusesCheck files model faults top set first second claim cert r
  no_certificate : (c : Case) (event : Formula) → HoldsPair files model faults set first second c → IsTopWord c.program top event →
      RefusesCertificate files cert r → RefusesCheck files model faults top set first second claim cert r
  not_accepted : (c : Case) (event : Formula) (tree : Tree FlatLeaf) (a : Certificate) → HoldsPair files model faults set first second c →
      IsTopWord c.program top event → IsTopTree c event tree →
      HoldsCertificate files cert a → RefusesClaim (staged_of c first second) (against_of c set first second tree (claim_in claim)) a r →
      RefusesCheck files model faults top set first second claim cert r

-- The files hold a case with the two faults, of which nothing is to be refused, and a certificate, and the word spells an event of
-- the case. The certificate is accepted for the claim, and the claim holds: of all extended traces that reach the event and have
-- failed exactly the set, of whatever length.
pub record AcceptsOrder (files : List NamedFile) (model faults top : Text) (set : List ℕ) (first second : ℕ) (claim cert : Text) : Type 0
  where
    pub c : Case
    pub holds : HoldsPair files model faults set first second c
    pub event : Formula
    pub is_event : IsTopWord c.program top event
    pub tree : Tree FlatLeaf
    pub is_tree : IsTopTree c event tree
    pub one : Fault
    pub other : Fault
    pub are : AreFaults c first second one other
    pub accepts : AcceptsFile files cert (staged_of c first second) (against_of c set first second tree (claim_in claim))
    pub right : IsClaimed c event set one other complete (claim_in claim)

-- so it was said
pub record HasCheckedOrder (files : List NamedFile) (model faults top : Text) (set : List ℕ) (first second : ℕ) (claim cert : Text)
    (s : Status) (said now : Said) : Type 0 where
  pub accepts : AcceptsOrder files model faults top set first second claim cert
  pub ends : s ≡ status.Done
  pub reported : now ≡ said_more said (codes "accepted\n")
