-- The two faults of a staged case, and what staged traces show of them.
use Rattle.std.proofs.Common.{◌≡◌, ℕ, ◌+◌, ◌-◌, ◌<◌, ◌≤◌, Bool, true, false, IsTrue, List, length, Option, Some, None, refl, sym, ap, subst, ◌∙◌, arith, ◌⊎◌, inl, inr}
use Rattle.std.specs.Prelude.{slice_get, nat_le}
use Rattle.std.proofs.lemmas.Bool.Decides.{leb_tells}
use Rattle.std.proofs.lemmas.List.{length-map}
use Rattle.smv_language.specs.Language.{Tree, Text, Formula, program_tree, model_tree, flat_tree, FlatLeaf, FlatModel}
use Rattle.smv_flat_laws.specs.FaultModes.{mode_of}
use Rattle.smv_flat_laws.specs.History.{Mode}
use Rattle.smv_type_laws.specs.Laws.{IsClosed}
use Rattle.smv_type_laws.specs.Models.{IsTyped}
use Rattle.smv_type_laws.proofs.ClosedLaws.{models_closed}
use Rattle.fault_weave.specs.WovenProgram.{woven}
use Rattle.fault_weave.specs.Faults.{Fault}
use Rattle.fault_weave.specs.ExtensionTraces.{Moment}
use Rattle.sat_encoding_laws.specs.FlatTraces.{IsNumbered}
use Rattle.cert_laws.specs.ExtendedTraces.{IsExtensionModel}
use Rattle.cut_search.specs.declared.answer.End.{End}
use Rattle.cut_search.specs.declared.answer.End.TheVariants.{Complete, Bounded}
use Rattle.cut_report_laws.specs.SearchAnswer.{ending_of}
use Rattle.cut_report_laws.specs.ExtendedTraces.{Ending}
use Rattle.fault_orders.specs.declared.Relation.{Relation}
use Rattle.fault_orders.specs.Stage.{against}
use Rattle.fault_orders.specs.Laws.{IsTruth}
use Rattle.cut_reach_laws.specs.OrdersExtendedLaws.{IsAsked}
use Rattle.cut_reach_laws.proofs.Said.{said, none_said}
use Rattle.cut_reach_laws.proofs.Truths.{condition_truth}
use Rattle.cut_reach_laws.specs.FaultlessLaws.{class_of, NoneReaches}
use Rattle.cut_reach_laws.specs.Laws.{IsFaultNumber}
use Rattle.base_files.specs.declared.files.NamedFile.{NamedFile}
use Rattle.verb_loading.specs.Cases.{Case, HoldsCase}
use Rattle.verb_loading.specs.LoadedEvents.{case_in}
use Rattle.cut_model_search.proofs.Analysable.{model_of_case}
use Rattle.verb_loading.proofs.FlatLimits.{flat_typed}
use Rattle.verb_orders.specs.declared.pair.PairCase.{PairCase}
use Rattle.verb_orders.specs.declared.pair.PairWords.{PairWords}
use Rattle.verb_orders.specs.Pairs.{IsStagedCase, HoldsPair}
use Rattle.verb_orders.specs.Orders.{AreFaults, IsOfEnding, IsClaimed, staged_of, against_of}
use Rattle.verb_orders.specs.ClaimSearch.{SpeaksFor}
use Rattle.verb_orders.proofs.PairLaws.{count_of_faults}
use Rattle.base_values.proofs.ListLaws.{get_within}

-- two faults of a case, with their modes
pub record TheFaults (c : Case) (tree : Tree FlatLeaf) (set : List ℕ) (first second : ℕ) : Type 0 where
  pub f : Mode
  pub g : Mode
  pub one : Fault
  pub other : Fault
  pub asked : IsAsked c.faults c.flat c.modes tree set first second f g one other

module _ (s : PairCase) (is : IsStagedCase s) where
  abbrev c : Case
  c = case_in s.loaded

  abbrev tree : Tree FlatLeaf
  tree = flat_tree s.loaded.top

  abbrev event_of : Formula
  event_of = is.event.event.top

  pub the_model : IsExtensionModel c.program c.instructions c.faults event_of c.flat c.modes tree
  the_model = model_of_case (program_tree s.loaded.model.program) s.loaded.case s.asked.top.now tree is.event

  typed : IsTyped c.flat
  typed = let h = is.event.loaded.is_case in flat_typed c.program is.event.flat c.instructions c.faults is.event.lawful h.taken h.are_faults c.flat h.is_flat h.within

  closed : IsClosed c.flat
  closed = models_closed (woven c.program c.instructions) c.flat the_model.flat

  truth_of : IsTruth c.flat tree
  truth_of = condition_truth c.flat closed typed tree is.event.event.own is.event.event.kept

  faults_counted : length c.faults ≡ length s.loaded.case.limited.faults
  faults_counted = count_of_faults c.program s.loaded.case is.event.loaded

  pub modes_counted : length c.modes ≡ length s.loaded.case.limited.faults
  modes_counted = length-map s.loaded.case.limited.faults mode_of

  below_count : (i : ℕ) → IsFaultNumber (length s.loaded.case.limited.faults) i → i - 1 < length s.loaded.case.limited.faults
  below_count i of = let a = of.counts in let b = of.within in omega (arith, a, b)

  pub the_faults : TheFaults c tree s.set.items s.asked.first s.asked.second
  the_faults =
      let first : s.asked.first - 1 < length s.loaded.case.limited.faults = below_count s.asked.first is.staged.one in
      let second : s.asked.second - 1 < length s.loaded.case.limited.faults = below_count s.asked.second is.staged.other in
      let f : (x : Mode) × (slice_get c.modes (s.asked.first - 1) ≡ Some x) = get_within c.modes (s.asked.first - 1) (omega (arith, first, modes_counted)) in
      let g : (x : Mode) × (slice_get c.modes (s.asked.second - 1) ≡ Some x) = get_within c.modes (s.asked.second - 1) (omega (arith, second, modes_counted)) in
      let one : (x : Fault) × (slice_get c.faults (s.asked.first - 1) ≡ Some x) = get_within c.faults (s.asked.first - 1) (omega (arith, first, faults_counted)) in
      let other : (x : Fault) × (slice_get c.faults (s.asked.second - 1) ≡ Some x) = get_within c.faults (s.asked.second - 1) (omega (arith, second, faults_counted)) in
      let first_counts = is.staged.one.counts in
      let second_counts = is.staged.other.counts in
      record {
        f = f.0;
        g = g.0;
        one = one.0;
        other = other.0;
        asked = record {
          pair = record { first_counts = omega (arith, first_counts); second_counts = omega (arith, second_counts); is_first = f.1; is_second = g.1 };
          is_one = one.1;
          is_other = other.1;
          numbered = subst (λ n. IsNumbered n s.set.items) (sym modes_counted) is.staged.numbered;
          first_in = is.pair.one;
          second_in = is.pair.other;
          truth = truth_of;
        };
      }

  pub are_faults : AreFaults c s.asked.first s.asked.second the_faults.one the_faults.other
  are_faults = record { is_one = the_faults.asked.is_one; is_other = the_faults.asked.is_other }

  -- nothing of the two faults of the case is to be refused
  pub holds_pair : (files : List NamedFile) (model faults : Text) → HoldsCase files model faults c → HoldsPair files model faults s.set.items s.asked.first s.asked.second c
  holds_pair files model faults holds =
      record { holds = holds; numbered = subst (λ n. IsNumbered n s.set.items) (sym faults_counted) is.staged.numbered; typed = subst IsTyped is.staged.model is.staged.typed }

  -- nor of those that the words ask for
  pub holds_asked : (files : List NamedFile) (w : PairWords) (set : List ℕ) → s.asked ≡ w → s.set.items ≡ set → HoldsCase files w.model.now w.faults.now c →
      HoldsPair files w.model.now w.faults.now set w.first w.second c
  holds_asked files w set same numbers holds =
      subst (λ (x : PairWords). HoldsPair files w.model.now w.faults.now set x.first x.second c) same
      (subst (λ is. HoldsPair files w.model.now w.faults.now is s.asked.first s.asked.second c) numbers (holds_pair files w.model.now w.faults.now holds))

  -- what was made of the staged case is over the model staged of the case
  pub tree_is : (claim : Option Relation) (e : Tree FlatLeaf) → SpeaksFor s claim e → e ≡ against_of c s.set.items s.asked.first s.asked.second tree claim
  tree_is claim e speaks =
      speaks
      ∙ ap (λ m. against m (length s.loaded.case.limited.faults) tree s.set.items claim) is.staged.model
      ∙ ap (λ n. against (staged_of c s.asked.first s.asked.second) n tree s.set.items claim) (sym modes_counted)

  pub at_stage : (P : FlatModel → Tree FlatLeaf → Type 0) (claim : Option Relation) (e : Tree FlatLeaf) → SpeaksFor s claim e → P (model_tree s.typed.model) e →
      P (staged_of c s.asked.first s.asked.second) (against_of c s.set.items s.asked.first s.asked.second tree claim)
  at_stage P claim e speaks h =
      subst (λ m. P m (against_of c s.set.items s.asked.first s.asked.second tree claim)) is.staged.model (subst (P (model_tree s.typed.model)) (tree_is claim e speaks) h)

  -- where no staged trace of a class speaks against a claim, the claim holds of the class
  pub claim_of_class : (claim : Option Relation) (class : ℕ → Bool) (ending : Ending) → ((trace : List Moment) → IsOfEnding ending trace → IsTrue (class (length trace))) →
      NoneReaches (staged_of c s.asked.first s.asked.second) (against_of c s.set.items s.asked.first s.asked.second tree claim) class →
      IsClaimed c event_of s.set.items the_faults.one the_faults.other ending claim
  claim_of_class None class ending short none = λ trace such of.
      none_said c.program c.instructions c.faults event_of c.flat c.modes tree the_model s.set.items s.asked.first s.asked.second the_faults.f the_faults.g the_faults.one the_faults.other the_faults.asked class none trace such
      (short trace of)
  claim_of_class (Some r) class ending short none = λ trace such of.
      said c.program c.instructions c.faults event_of c.flat c.modes tree the_model s.set.items s.asked.first s.asked.second the_faults.f the_faults.g the_faults.one the_faults.other the_faults.asked class r none trace such
      (short trace of)

-- the traces that an ending speaks of have the lengths of its class
passes : (n k : ℕ) → n ≤ k + 1 → nat_le n (k + 1) ≡ true
passes n k l = by (leb_tells n (k + 1))
  where
    by : ((nat_le n (k + 1) ≡ true) × (n ≤ k + 1)) ⊎ ((nat_le n (k + 1) ≡ false) × (k + 1 < n)) → nat_le n (k + 1) ≡ true
    by (inl h) = h.0
    by (inr h) = let past = h.1 in absurd (omega (arith, l, past))

pub of_class : (end : End) (trace : List Moment) → IsOfEnding (ending_of end) trace → IsTrue (class_of end (length trace))
of_class (Complete clauses) trace h = refl
of_class (Bounded k) trace h = passes (length trace) k h
