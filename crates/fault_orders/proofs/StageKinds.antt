-- The model that is staged for two faults breaks no rule of kinds but that of its size.
use Rattle.std.proofs.Common.{ℕ, ◌-◌, ◌<◌, ◌≤◌, true, false, List, [], ◌∷◌, length, codes, refl, arith}
use Rattle.smv_language.specs.declared.expr.Op.TheVariants as op
use Rattle.smv_language.specs.Language.{Tree, not_of, binary, Text, boolean, FlatLeaf, FlatModel}
use Rattle.smv_flat_laws.specs.History.{Mode, with_history}
use Rattle.smv_flat_laws.proofs.Lists.{get_end}
use Rattle.smv_type_laws.specs.ExpressionKinds.{truth_class}
use Rattle.sat_encoding_laws.proofs.HistoryPlaces.{is_bit}
use Rattle.fault_cause_laws.specs.Additions.{Addition}
use Rattle.fault_cause_laws.specs.KindLaws.{AreOfKinds}
use Rattle.fault_cause_laws.proofs.AddedKinds.{IsRightModel, right_added, grows_added}
use Rattle.fault_cause_laws.proofs.RightTrees.{HasType, type_grown, IsRightTree, as_formula, variable_right, not_tree, next_tree, and_tree, or_tree, within_tree}
use Rattle.fault_cause_laws.proofs.HistoryKinds.{modes_of_kinds, right_history}
use Rattle.fault_orders.specs.Stage.{now_of, later_of, order_variable, order_at_first, order_at_step, with_order, bit_number, stage}
use Rattle.fault_orders.specs.KindLaws.{AreFaultNumbers, StageBreaksNone, StageBreaksSizeAlone}
use Rattle.fault_woven_laws.proofs.WovenLaws.{size_alone}

module _ (name : Text) (x y : ℕ) (n : FlatModel) where
  abbrev order_addition : Addition
  order_addition =
      record {
        variables = order_variable name ∷ [];
        symbols = [];
        at_first = order_at_first (length n.variables) x y ∷ [];
        at_each = [];
        at_step = order_at_step (length n.variables) x y ∷ [];
      }

  abbrev made : FlatModel
  made = with_order name x y n

  kept_type : (i : ℕ) → HasType n i boolean → HasType made i boolean
  kept_type i h = type_grown n made (grows_added n order_addition) i boolean h

  last_type : HasType made (length n.variables) boolean
  last_type = record { variable = order_variable name; is_variable = get_end n.variables (order_variable name); declared = refl }

  truth_of : (i : ℕ) → HasType made i boolean → IsRightTree made false truth_class (now_of i)
  truth_of i h = variable_right made false truth_class i boolean h refl

  later_truth : (i : ℕ) → HasType made i boolean → IsRightTree made false truth_class (later_of i)
  later_truth i h = next_tree made false truth_class (now_of i) (truth_of i h)

  order_right : IsRightModel n → HasType n x boolean → HasType n y boolean → IsRightModel made
  order_right is one other =
      let bit : ℕ = length n.variables in
      let a = kept_type x one in
      let b = kept_type y other in
      let first : Tree FlatLeaf = binary op.And (now_of x) (not_of (now_of y)) in
      let later : Tree FlatLeaf = binary op.And (later_of x) (not_of (later_of y)) in
      let either : Tree FlatLeaf = binary op.Or (now_of bit) later in
      right_added n order_addition is (record {
        types = (refl, tt);
        at_first = (
          as_formula made (binary op.Within (now_of bit) first)
              (within_tree made false truth_class (now_of bit) first (truth_of bit last_type) (and_tree made true (now_of x) (not_of (now_of y)) (truth_of x a) (not_tree made false (now_of y) (truth_of y b)))),
          tt,
        );
        at_each = tt;
        at_step = (
          as_formula made (binary op.Within (later_of bit) either)
              (within_tree made false truth_class (later_of bit) either (later_truth bit last_type)
              (or_tree made true (now_of bit) later (truth_of bit last_type) (and_tree made false (later_of x) (not_of (later_of y)) (later_truth x a) (not_tree made false (later_of y) (later_truth y b))))),
          tt,
        );
      })

module _ (m : FlatModel) (fs : List Mode) (first second : ℕ) (are : AreOfKinds m fs) (numbers : AreFaultNumbers (length fs) first second) where
  abbrev base : FlatModel
  base = with_history m fs

  abbrev middle : FlatModel
  middle = with_order (codes "ahead") (bit_number m first) (bit_number m second) base

  bit_type : (i : ℕ) → 0 < i → i ≤ length fs → HasType base (bit_number m i) boolean
  bit_type i low high =
      let b = is_bit m fs (i - 1) (omega (arith, low, high)) in record { variable = b.variable; is_variable = b.is_variable; declared = b.is_boolean }

  one : HasType base (bit_number m first) boolean
  one = bit_type first numbers.first_counts numbers.first_within

  other : HasType base (bit_number m second) boolean
  other = bit_type second numbers.second_counts numbers.second_within

  base_right : IsRightModel base
  base_right = right_history m fs (record { closed = are.closed; no_breach = are.no_breach }) (modes_of_kinds m fs are)

  middle_right : IsRightModel middle
  middle_right = order_right (codes "ahead") (bit_number m first) (bit_number m second) base base_right one other

  stage_right : IsRightModel (stage m fs first second)
  stage_right =
      order_right (codes "behind") (bit_number m second) (bit_number m first) middle middle_right (kept_type (codes "ahead") (bit_number m first) (bit_number m second) base (bit_number m second) other)
      (kept_type (codes "ahead") (bit_number m first) (bit_number m second) base (bit_number m first) one)

pub stage_none : StageBreaksNone
stage_none m fs first second are numbers = let right : IsRightModel (stage m fs first second) = stage_right m fs first second are numbers in right.no_breach

pub stage_size_alone : StageBreaksSizeAlone
stage_size_alone m fs first second are numbers rule item = size_alone (stage m fs first second) (stage_none m fs first second are numbers) rule item
