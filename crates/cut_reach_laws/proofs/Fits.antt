-- Conditions over a model that fit it, of which larger ones are made.
use Rattle.std.proofs.Common.{◌≡◌, ℕ, zero, suc, ◌+◌, ◌*◌, ◌<◌, ◌≤◌, Bool, true, false, not, ◌||◌, List, [], ◌∷◌, ◌++◌, Option, Some, None, length, refl, ◌∙◌, ap, if◌then◌else◌, arith}
use Rattle.std.specs.List.{list_any}
use Rattle.smv_language.specs.declared.expr.Op.TheVariants as op
use Rattle.smv_language.specs.Language.{Tree, not_of, binary, FlatLeaf, flat_variable, FlatVariable, FlatFormula, FlatModel}
use Rattle.smv_flat_laws.specs.NameResolution.{leaves_in}
use Rattle.smv_type_laws.specs.Costs.{cost_of}
use Rattle.smv_type_laws.specs.ExpressionKinds.{Class, truth_class, KindRule, not_boolean, same_class, rule_if, Judged, judged_not, judged_connective}
use Rattle.smv_type_laws.specs.DeclaredKinds.{judged_declared}
use Rattle.smv_type_laws.specs.Laws.{IsClosed}
use Rattle.smv_type_laws.specs.Models.{kind_at, kind_of_leaf, judged_in, broken_condition}
use Rattle.smv_type_laws.proofs.Parts.{none_first, none_second}
use Rattle.sat_encoding_laws.specs.Inputs.{is_input_variable}
use Rattle.sat_encoding_laws.specs.Encodable.{is_input_name, IsStateBoolean, IsFitTop}
use Rattle.fault_orders.specs.declared.Relation.{Relation}
use Rattle.fault_orders.specs.declared.Relation.TheVariants.{Before, After, Together}
use Rattle.fault_orders.specs.Stage.{now_of, with_set, with_claim}
use Rattle.cut_right_laws.specs.Sets.{has_number}
use Rattle.cut_reach_laws.proofs.Grown.{grown, own_grown, quiet_grown, judged_grown}
use Rattle.std.proofs.lemmas.Option.{slice_get_within as got_below}
use Rattle.sat_encoding_laws.proofs.HistoryTyped.{got_judged}

-- ---- kinds

abbrev class_rule : Class → List KindRule
class_rule c = rule_if (not (same_class c truth_class)) not_boolean

not_right : (a : Judged) → broken_condition a ≡ [] → broken_condition (judged_not a) ≡ []
not_right a h =
    let rule : class_rule a.kind.class ≡ [] = none_first (class_rule a.kind.class) a.broken h in
    let rest : a.broken ≡ [] = none_second (class_rule a.kind.class) a.broken h in
    (λ j. rule j ++ rest j)

both_right : (a b : Judged) → broken_condition a ≡ [] → broken_condition b ≡ [] → broken_condition (judged_connective a b) ≡ []
both_right a b h k =
    let rule : class_rule a.kind.class ≡ [] = none_first (class_rule a.kind.class) a.broken h in
    let rest : a.broken ≡ [] = none_second (class_rule a.kind.class) a.broken h in
    let other_rule : class_rule b.kind.class ≡ [] = none_first (class_rule b.kind.class) b.broken k in
    let other_rest : b.broken ≡ [] = none_second (class_rule b.kind.class) b.broken k in
    (λ j. (rule j ++ other_rule j) ++ (rest j ++ other_rest j))

-- ---- inputs

any_joined : {A : Type 0} (f : A → Bool) (xs ys : List A) → list_any f xs ≡ false → list_any f ys ≡ false → list_any f (xs ++ ys) ≡ false
any_joined f [] ys h k = k
any_joined f (x ∷ xs) ys h k = by (f x) refl h (λ rest. any_joined f xs ys rest k)
  where
    by : (b : Bool) → f x ≡ b → (b || list_any f xs) ≡ false → (list_any f xs ≡ false → list_any f (xs ++ ys) ≡ false) → (f x || list_any f (xs ++ ys)) ≡ false
    by true e h more = cc
    by false e h more = (λ j. e j || more h j)

module _ (n : FlatModel) where
  pub fit_not : (a : Tree FlatLeaf) → IsFitTop n a → IsFitTop n (not_of a)
  fit_not a h = record { own = h.own; no_input = h.no_input; right = not_right (judged_in n false a) h.right }

  pub fit_and : (a b : Tree FlatLeaf) → IsFitTop n a → IsFitTop n b → IsFitTop n (binary op.And a b)
  fit_and a b h k =
      record {
        own = (h.own, k.own);
        no_input = any_joined (is_input_name n) (leaves_in a) (leaves_in b) h.no_input k.no_input;
        right = both_right (judged_in n false a) (judged_in n false b) h.right k.right;
      }

  pub fit_or : (a b : Tree FlatLeaf) → IsFitTop n a → IsFitTop n b → IsFitTop n (binary op.Or a b)
  fit_or a b h k =
      record {
        own = (h.own, k.own);
        no_input = any_joined (is_input_name n) (leaves_in a) (leaves_in b) h.no_input k.no_input;
        right = both_right (judged_in n false a) (judged_in n false b) h.right k.right;
      }

  pub bit_quiet : (i : ℕ) → IsStateBoolean n i → is_input_name n (flat_variable i) ≡ false
  bit_quiet i b = ap is_input_variable b.is_variable ∙ b.is_state

  pub bit_within : (i : ℕ) → IsStateBoolean n i → i < length n.variables
  bit_within i b = got_below n.variables i b.variable b.is_variable

  pub fit_bit : (i : ℕ) → IsStateBoolean n i → IsFitTop n (now_of i)
  fit_bit i b =
      let quiet : is_input_name n (flat_variable i) ≡ false = bit_quiet i b in
      let kind : (kind_of_leaf n (flat_variable i)).class ≡ truth_class =
      ap (λ o. (kind_at o).class) (got_judged n.variables i b.variable b.is_variable) ∙ ap (λ d. (judged_declared d).kind.class) b.is_boolean in
      record {
        own = bit_within i b;
        no_input = (λ j. quiet j || false);
        right = ap (λ (c : Class). class_rule c ++ []) kind;
      }

  -- ---- the set and the claim

  pub fit_set : (bit i k : ℕ) (set : List ℕ) (e : Tree FlatLeaf) → ((j : ℕ) → bit ≤ j → j < bit + k → IsStateBoolean n j) → IsFitTop n e → IsFitTop n (with_set bit i k set e)
  fit_set bit i zero set e bits h = h
  fit_set bit i (suc k) set e bits h =
      let here : IsFitTop n (now_of bit) = fit_bit bit (bits bit (omega arith) (omega arith)) in
      fit_set (suc bit) (suc i) k set (binary op.And e (if has_number set i then now_of bit else not_of (now_of bit)))
      (λ j from to. bits j (omega (arith, from)) (omega (arith, to))) (fit_and e (if has_number set i then now_of bit else not_of (now_of bit)) h (part (has_number set i) here))
    where
      part : (b : Bool) → IsFitTop n (now_of bit) → IsFitTop n (if b then now_of bit else not_of (now_of bit))
      part true h = h
      part false h = fit_not (now_of bit) h

  pub fit_claim : (ahead : ℕ) (claim : Option Relation) (e : Tree FlatLeaf) → IsStateBoolean n ahead → IsStateBoolean n (suc ahead) → IsFitTop n e → IsFitTop n (with_claim ahead claim e)
  fit_claim ahead None e one other h = h
  fit_claim ahead (Some Before) e one other h = fit_and e (not_of (now_of ahead)) h (fit_not (now_of ahead) (fit_bit ahead one))
  fit_claim ahead (Some After) e one other h = fit_and e (not_of (now_of (suc ahead))) h (fit_not (now_of (suc ahead)) (fit_bit (suc ahead) other))
  fit_claim ahead (Some Together) e one other h =
      fit_and e (binary op.Or (now_of ahead) (now_of (suc ahead))) h (fit_or (now_of ahead) (now_of (suc ahead)) (fit_bit ahead one) (fit_bit (suc ahead) other))

-- what fits a model fits it with one variable more
pub fit_grown : (m : FlatModel) (v : FlatVariable) (f g : FlatFormula) (closed : IsClosed m) (e : Tree FlatLeaf) → IsFitTop m e → IsFitTop (grown m v f g) e
fit_grown m v f g closed e h =
    record {
      own = own_grown m v f g closed e h.own;
      no_input = quiet_grown m v f g closed e h.own ∙ h.no_input;
      right = ap broken_condition (judged_grown m v f g closed e h.own) ∙ h.right;
    }

-- ---- costs

pub set_cost : (bit i k : ℕ) (set : List ℕ) (e : Tree FlatLeaf) → cost_of (with_set bit i k set e) ≤ cost_of e + 3 * k
set_cost bit i zero set e = omega arith
set_cost bit i (suc k) set e =
    let rest = set_cost (suc bit) (suc i) k set (binary op.And e (if has_number set i then now_of bit else not_of (now_of bit))) in
    let here = part (has_number set i) in omega (arith, rest, here)
  where
    part : (b : Bool) → cost_of (binary op.And e (if b then now_of bit else not_of (now_of bit))) ≤ cost_of e + 3
    part true = omega arith
    part false = omega arith

pub claim_cost : (ahead : ℕ) (claim : Option Relation) (e : Tree FlatLeaf) → cost_of (with_claim ahead claim e) ≤ cost_of e + 4
claim_cost ahead None e = omega arith
claim_cost ahead (Some Before) e = omega arith
claim_cost ahead (Some After) e = omega arith
claim_cost ahead (Some Together) e = omega arith
