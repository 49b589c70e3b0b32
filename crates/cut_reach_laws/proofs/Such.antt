-- What a staged trace shows of extended traces.
use Rattle.std.proofs.Common.{◌≡◌, ℕ, ◌-◌, true, List, [], ◌∷◌, ◌++◌, length, Option, Some, None, sym, subst, arith, ⊎_elim}
use Rattle.std.proofs.lemmas.Bool.{cases_lt}
use Rattle.smv_language.specs.Language.{Tree, Formula, ProgramTree, Value, FlatLeaf, FlatModel}
use Rattle.smv_language.specs.Values.{truth}
use Rattle.smv_flat_laws.specs.History.{Mode}
use Rattle.smv_flat_laws.specs.FlatTrace.{IsFlatTrace, stands_in_some}
use Rattle.fault_instructions.specs.Instructions.{InstructionTree}
use Rattle.fault_weave.specs.ExtensionTraces.{Moment, IsExtended, Reaches}
use Rattle.fault_weave.specs.Faults.{Fault}
use Rattle.cut_right_laws.specs.Right.{HasFailedExactly}
use Rattle.cut_right_laws.specs.Laws.{Correspond}
use Rattle.sat_encoding_laws.specs.FlatTraces.{ReachesTop, HasFailedNumber, last_of}
use Rattle.cert_laws.specs.ExtendedTraces.{IsExtensionModel, IsFlatCut, HasFailedFault}
use Rattle.cert_laws.proofs.Carried.{correspond, flat_traces_cut}
use Rattle.fault_orders.specs.declared.Relation.{Relation}
use Rattle.fault_orders.specs.declared.Relation.TheVariants.{Before, After, Together}
use Rattle.fault_orders.specs.Relations.{BeginsAt, Stands, HasRelation}
use Rattle.fault_orders.specs.Stage.{stage, against}
use Rattle.fault_orders.specs.RelationValues.{ordered_told, told_relation}
use Rattle.fault_orders.specs.Laws.{SpeaksAgainst, TellsOrder}
use Rattle.fault_orders.proofs.Ordered.{orders_told}
use Rattle.fault_orders.proofs.Begins.{Stood, begins_somewhere}
use Rattle.fault_orders.proofs.Speaking.{against_exactly}
use Rattle.fault_orders.proofs.Ends.{ends_tell}
use Rattle.cut_reach_laws.specs.OrdersExtendedLaws.{FaultStands, IsAsked, ShowsSuch, TellsRelation, FoundAreSuch, OthersAreSuch}
use Rattle.cut_reach_laws.proofs.Said.{moved, staged_facts, begins_cut, stood_of, mode_one, mode_other}

-- a fact begins once
once : (M : Type 0) (fact : M → Type 0) (trace : List M) (j k : ℕ) → BeginsAt M fact trace j → BeginsAt M fact trace k → j ≡ k
once M fact trace j k a b =
    ⊎_elim (λ l. absurd (b.none_before j a.moment l a.there a.holds)) (λ g. ⊎_elim (λ l. absurd (a.none_before k b.moment l b.there b.holds)) (λ h. omega (arith, g, h)) (cases_lt k j)) (cases_lt j k)

-- it is the same relation over other moments
moved_back : (r : Relation) (j k : ℕ) → Stands Moment r j k → Stands (List Value) r j k
moved_back Before j k h = h
moved_back After j k h = h
moved_back Together j k h = h

related_at : (r : Relation) (j j' k k' : ℕ) → j ≡ j' → k ≡ k' → Stands (List Value) r j k → Stands (List Value) r j' k'
related_at r j j' k k' e h s = subst (λ x. Stands (List Value) r x k') e (subst (λ y. Stands (List Value) r j y) h s)

module _ (p : ProgramTree) (i : InstructionTree) (faults : List Fault) (top : Formula) (m : FlatModel) (fs : List Mode) (flat_top : Tree FlatLeaf) (model : IsExtensionModel p i faults top m fs flat_top)
    (set : List ℕ) (first second : ℕ) (f g : Mode) (one other : Fault) (asked : IsAsked faults m fs flat_top set first second f g one other) where
  base : Correspond (List (List Value)) (List Moment) (IsFlatTrace m) (ReachesTop m flat_top) (HasFailedNumber m fs) (IsExtended p i) (Reaches p top) (HasFailedFault faults) (IsFlatCut p i m)
  base = correspond p i faults top m fs flat_top model

  module _ (t : List (List Value)) (trace : List Moment) (cut : IsFlatCut p i m t trace) where
    first_begins : (j : ℕ) → BeginsAt (List Value) (Stood m f) t j → BeginsAt Moment (FaultStands one) trace j
    first_begins j b =
        begins_cut p i faults top m fs flat_top model cut.0 trace cut.2 (first - 1) one f asked.is_one (mode_one p i faults top m fs flat_top model set first second f g one other asked) j
        (subst (λ us. BeginsAt (List Value) (Stood m f) us j) (sym cut.1) b)

    second_begins : (j : ℕ) → BeginsAt (List Value) (Stood m g) t j → BeginsAt Moment (FaultStands other) trace j
    second_begins j b =
        begins_cut p i faults top m fs flat_top model cut.0 trace cut.2 (second - 1) other g asked.is_other (mode_other p i faults top m fs flat_top model set first second f g one other asked) j
        (subst (λ us. BeginsAt (List Value) (Stood m g) us j) (sym cut.1) b)

    relation_cut : (r : Relation) → HasRelation (List Value) r (Stood m f) (Stood m g) t → HasRelation Moment r (FaultStands one) (FaultStands other) trace
    relation_cut r h = (h.0, h.1, first_begins h.0 h.2, second_begins h.1 h.3, moved r h.0 h.1 h.4)

    relation_uncut : (r : Relation) → stands_in_some m f t ≡ true → stands_in_some m g t ≡ true → HasRelation Moment r (FaultStands one) (FaultStands other) trace → HasRelation (List Value) r (Stood m f) (Stood m g) t
    relation_uncut r some_f some_g h =
        let a : (j : ℕ) × BeginsAt (List Value) (Stood m f) t j = begins_somewhere m f t some_f in
        let b : (k : ℕ) × BeginsAt (List Value) (Stood m g) t k = begins_somewhere m g t some_g in
        let j : h.0 ≡ a.0 = once Moment (FaultStands one) trace h.0 a.0 h.2 (first_begins a.0 a.1) in
        let k : h.1 ≡ b.0 = once Moment (FaultStands other) trace h.1 b.0 h.3 (second_begins b.0 b.1) in
        (a.0, b.0, a.1, b.1, related_at r h.0 a.0 h.1 b.0 j k (moved_back r h.0 h.1 h.4))

  exactly_cut : (t : List (List Value)) (trace : List Moment) → IsFlatCut p i m t trace → HasFailedExactly (List (List Value)) (IsFlatTrace m) (ReachesTop m flat_top) (HasFailedNumber m fs) t set →
      HasFailedExactly (List Moment) (IsExtended p i) (Reaches p top) (HasFailedFault faults) trace set
  exactly_cut t trace cut h n = ((λ x. (h n).0 ((base.failed t trace cut n).1 x)), (λ c. (base.failed t trace cut n).0 ((h n).1 c)))

  module _ (claim : Option Relation) (long : List (List Value)) (is : IsFlatTrace (stage m fs first second) long)
      (reach : ReachesTop (stage m fs first second) (against (stage m fs first second) (length fs) flat_top set claim) long) where
    told : (trace : List (List Value)) × IsFlatTrace m trace × (long ≡ ordered_told m fs f g trace)
    told =
        let facts = staged_facts p i faults top m fs flat_top model in (orders_told m fs first second f g facts.0.knows facts.0.modes asked.pair long).0 is

    speaks : SpeaksAgainst m fs flat_top set f g claim told.0
    speaks =
        let facts = staged_facts p i faults top m fs flat_top model in
        (against_exactly m fs first second f g facts.0.knows asked.pair flat_top facts.1 asked.truth set asked.numbered asked.first_in asked.second_in claim told.0 told.1).0
        (subst (ReachesTop (stage m fs first second) (against (stage m fs first second) (length fs) flat_top set claim)) told.2 reach)

    cut_of : (trace : List Moment) × IsFlatCut p i m told.0 trace
    cut_of = flat_traces_cut p i faults top m fs flat_top model told.0 told.1

    abbrev shown : ShowsSuch p i faults top m fs set f g long
    shown = record {
      flat = told.0;
      is_flat = told.1;
      told = told.2;
      trace = cut_of.0;
      cut = cut_of.1;
      such = record {
        is_trace = base.traces told.0 cut_of.0 cut_of.1 told.1;
        reaches = (base.reaching told.0 cut_of.0 cut_of.1).0 speaks.reaches;
        exactly = exactly_cut told.0 cut_of.0 cut_of.1 speaks.exactly;
      };
    }

    one_stood : stands_in_some m f told.0 ≡ true
    one_stood = stood_of p i faults top m fs flat_top model set first second f g one other asked told.0 speaks.exactly first f asked.pair.is_first asked.first_in

    other_stood : stands_in_some m g told.0 ≡ true
    other_stood = stood_of p i faults top m fs flat_top model set first second f g one other asked told.0 speaks.exactly second g asked.pair.is_second asked.second_in

  found_shown : (long : List (List Value)) → IsFlatTrace (stage m fs first second) long → ReachesTop (stage m fs first second) (against (stage m fs first second) (length fs) flat_top set None) long →
      (s : ShowsSuch p i faults top m fs set f g long) × TellsRelation one other s.trace long
  found_shown long is reach =
      let t : TellsOrder m f g (told None long is reach).0 (ordered_told m fs f g (told None long is reach).0) =
      ends_tell m fs f g (told None long is reach).0 (one_stood None long is reach) (other_stood None long is reach) in (
        shown None long is reach,
        record {
          front = t.front;
          ahead = t.ahead;
          behind = t.behind;
          ends = subst (λ us. last_of us ≡ t.front ++ (truth t.ahead ∷ truth t.behind ∷ [])) (sym (told None long is reach).2) t.ends;
          relation = relation_cut (told None long is reach).0 (cut_of None long is reach).0 (cut_of None long is reach).1 (told_relation t.ahead t.behind) t.relation;
        },
      )

  others_shown : (r : Relation) (long : List (List Value)) → IsFlatTrace (stage m fs first second) long → ReachesTop (stage m fs first second) (against (stage m fs first second) (length fs) flat_top set (Some r)) long →
      (s : ShowsSuch p i faults top m fs set f g long) × (HasRelation Moment r (FaultStands one) (FaultStands other) s.trace → ⊥)
  others_shown r long is reach = (
    shown (Some r) long is reach,
    λ h. (speaks (Some r) long is reach).breaks
        (relation_uncut (told (Some r) long is reach).0 (cut_of (Some r) long is reach).0 (cut_of (Some r) long is reach).1 r (one_stood (Some r) long is reach) (other_stood (Some r) long is reach) h),
  )

pub found_such : FoundAreSuch
found_such = found_shown

pub others_such : OthersAreSuch
others_such = others_shown
