-- The hit of a fault, where the cause's age and the fault's mode are known.
use Rattle.std.proofs.Common.{◌≡◌, ℕ, suc, ◌+◌, ◌≤◌, Bool, true, ◌||◌, List, [], ◌∷◌, ◌++◌, length, Option, Some, refl, ap, ◌∙◌, sym, subst}
use Rattle.std.specs.Prelude.{pos, nat_eq, slice_get}
use Rattle.smv_language.specs.declared.expr.Op.TheVariants as op
use Rattle.smv_language.specs.Language.{Text, boolean, Value, symbol, one, opposite, same_text, evaluate, gives_applied, Each, FlatModel, FlatVariable, one_of, symbol_of, leaves_at, Holds}
use Rattle.smv_language.specs.Values.{truth, number}
use Rattle.smv_flat_laws.specs.History.{Mode}
use Rattle.smv_flat_laws.proofs.Conditions.{MayBe, may_one}
use Rattle.fault_cause_laws.specs.Additions.{Addition, with_addition}
use Rattle.fault_cause_laws.specs.Columns.{with_values}
use Rattle.fault_cause_laws.proofs.AddedReadings.{gives_and, get_last, truth_same}
use Rattle.fault_cause_laws.proofs.Columns.{EachFrom, one_added, IsForced, Fits}
use Rattle.fault_cause_laws.specs.Causes.{CommonCause}
use Rattle.fault_cause_laws.specs.StagedModel.{hit_name, added_variable, hit_at_first, landed_at_each, hit_at_step, in_window, stands_of, mode_of}
use Rattle.fault_cause_laws.specs.StagedValues.{age_at, age_value, hit_value, is_in_window, is_hit}
use Rattle.fault_cause_laws.proofs.Ages.{hit_first, hit_next}
use Rattle.fault_cause_laws.proofs.Formulas.{window_gives, stands_gives}
use Rattle.smv_flat_laws.proofs.HistoryTraces.{within_one, applied_or as gives_or}
use Rattle.base_values.proofs.ListLaws.{get_left}

-- the mode's variable has a symbol, which tells whether the fault stands at the moment
pub record ReadsMode (fs : List Mode) (i : ℕ) (wanted : Text) (stands : ℕ → ℕ → Bool) (k : ℕ) (v : List Value) : Type 0 where
  pub text : Text
  pub has : slice_get v (mode_of fs i).variable ≡ Some (symbol text)
  pub tells : same_text text wanted ≡ stands k i

module _ (m : FlatModel) (fs : List Mode) (c : CommonCause) (small : c.from ≤ c.to) (age i number_in : ℕ) (time : Option ℕ) (stands : ℕ → ℕ → Bool) (wanted : Text)
    (of_model : slice_get m.symbols (mode_of fs i).symbol ≡ Some wanted) (K : ℕ → List Value → Type 0)
    (sized : (k : ℕ) (v : List Value) → K k v → length v ≡ length m.variables) (read : (k : ℕ) (v : List Value) → K k v → slice_get v age ≡ Some (age_value c time k))
    (mode : (k : ℕ) (v : List Value) → K k v → ReadsMode fs i wanted stands k v) where
  abbrev n : ℕ
  n = length m.variables

  abbrev pub hit_variable : FlatVariable
  hit_variable = added_variable (hit_name c.name number_in) boolean

  abbrev pub hit_added : Addition
  hit_added = one_added hit_variable [] (hit_at_first fs c n age i ∷ []) (landed_at_each c n age ∷ []) (hit_at_step fs c n age i ∷ [])

  abbrev made : FlatModel
  made = with_addition m hit_added

  -- the window and the fault, in a longer valuation
  window_here : (k : ℕ) (v w : List Value) (b : Value) → K k v → evaluate (leaves_at made (v ++ b ∷ [])) (leaves_at made w) (in_window c age) ≡ Some (one (truth (is_in_window c time k)))
  window_here k v w b known =
      window_gives (leaves_at made (v ++ b ∷ [])) (leaves_at made w) c small age time k (ap one_of (get_left v (b ∷ []) age (age_value c time k) (read k v known)))

  stands_here : (k : ℕ) (v w : List Value) (b : Value) → K k v → evaluate (leaves_at made (v ++ b ∷ [])) (leaves_at made w) (stands_of fs i) ≡ Some (one (truth (stands k i)))
  stands_here k v w b known =
      let r : ReadsMode fs i wanted stands k v = mode k v known in
      stands_gives (leaves_at made (v ++ b ∷ [])) (leaves_at made w) fs i r.text wanted (ap one_of (get_left v (b ∷ []) (mode_of fs i).variable (symbol r.text) r.has))
      (ap symbol_of (get_left m.symbols [] (mode_of fs i).symbol wanted of_model))
      ∙ ap (λ t. Some (one (truth t))) r.tells

  first_iff : (v : List Value) (b : Value) → K 0 v →
      (Holds made (v ++ b ∷ []) (v ++ b ∷ []) (hit_at_first fs c n age i) → b ≡ hit_value stands c time i 0) × (b ≡ hit_value stands c time i 0 → Holds made (v ++ b ∷ []) (v ++ b ∷ []) (hit_at_first fs c n age i))
  first_iff v b known =
      within_one (one_of (slice_get (v ++ b ∷ []) n))
      (gives_applied op.And (evaluate (leaves_at made (v ++ b ∷ [])) (leaves_at made (v ++ b ∷ [])) (in_window c age)) (evaluate (leaves_at made (v ++ b ∷ [])) (leaves_at made (v ++ b ∷ [])) (stands_of fs i)))
      b (hit_value stands c time i 0) (ap one_of (get_last v b n (sized 0 v known)))
      (gives_and (evaluate (leaves_at made (v ++ b ∷ [])) (leaves_at made (v ++ b ∷ [])) (in_window c age)) (evaluate (leaves_at made (v ++ b ∷ [])) (leaves_at made (v ++ b ∷ [])) (stands_of fs i))
      (is_in_window c time 0) (stands 0 i) (window_here 0 v (v ++ b ∷ []) b known) (stands_here 0 v (v ++ b ∷ []) b known)
      ∙ ap (λ t. Some (one (truth t))) (hit_first stands c time i))

  step_iff : (k : ℕ) (v w : List Value) (b : Value) → K k v → K (suc k) w →
      (Holds made (v ++ hit_value stands c time i k ∷ []) (w ++ b ∷ []) (hit_at_step fs c n age i) → b ≡ hit_value stands c time i (suc k))
      × (b ≡ hit_value stands c time i (suc k) → Holds made (v ++ hit_value stands c time i k ∷ []) (w ++ b ∷ []) (hit_at_step fs c n age i))
  step_iff k v w b known knows =
      within_one (one_of (slice_get (w ++ b ∷ []) n))
      (gives_applied op.And (evaluate (leaves_at made (w ++ b ∷ [])) (leaves_at made (w ++ b ∷ [])) (in_window c age))
      (gives_applied op.Or (evaluate (leaves_at made (w ++ b ∷ [])) (leaves_at made (w ++ b ∷ [])) (stands_of fs i)) (one_of (slice_get (v ++ hit_value stands c time i k ∷ []) n))))
      b (hit_value stands c time i (suc k)) (ap one_of (get_last w b n (sized (suc k) w knows)))
      (gives_and (evaluate (leaves_at made (w ++ b ∷ [])) (leaves_at made (w ++ b ∷ [])) (in_window c age))
      (gives_applied op.Or (evaluate (leaves_at made (w ++ b ∷ [])) (leaves_at made (w ++ b ∷ [])) (stands_of fs i)) (one_of (slice_get (v ++ hit_value stands c time i k ∷ []) n)))
      (is_in_window c time (suc k)) (stands (suc k) i || is_hit stands c time i k) (window_here (suc k) w (w ++ b ∷ []) b knows)
      (gives_or (evaluate (leaves_at made (w ++ b ∷ [])) (leaves_at made (w ++ b ∷ [])) (stands_of fs i)) (one_of (slice_get (v ++ hit_value stands c time i k ∷ []) n)) (stands (suc k) i) (is_hit stands c time i k)
      (stands_here (suc k) w (w ++ b ∷ []) b knows) (ap one_of (get_last v (hit_value stands c time i k) n (sized k v known))))
      ∙ ap (λ t. Some (one (truth t))) (hit_next stands c time i k))

  -- the hit is TRUE where the window ends
  abbrev pub is_landed : ℕ → Bool
  is_landed k = opposite (nat_eq (age_at c time k) (c.to + 1)) || is_hit stands c time i k

  landed_iff : (k : ℕ) (v : List Value) → K k v →
      (Holds made (v ++ hit_value stands c time i k ∷ []) (v ++ hit_value stands c time i k ∷ []) (landed_at_each c n age) → is_landed k ≡ true)
      × (is_landed k ≡ true → Holds made (v ++ hit_value stands c time i k ∷ []) (v ++ hit_value stands c time i k ∷ []) (landed_at_each c n age))
  landed_iff k v known =
      let gives : gives_applied op.Implies (gives_applied op.Equal (one_of (slice_get (v ++ hit_value stands c time i k ∷ []) age)) (Some (one (number (pos (c.to + 1)))))) (one_of (slice_get (v ++ hit_value stands c time i k ∷ []) n))
      ≡ Some (one (truth (is_landed k))) =
      gives_it (slice_get (v ++ hit_value stands c time i k ∷ []) age) (slice_get (v ++ hit_value stands c time i k ∷ []) n)
      (get_left v (hit_value stands c time i k ∷ []) age (age_value c time k) (read k v known)) (get_last v (hit_value stands c time i k) n (sized k v known)) in (
        (λ h. sym (truth_same true (is_landed k) ((may_one (truth (is_landed k)) (truth true)).0 (subst (λ o. MayBe o (truth true)) gives h)))),
        (λ e. subst (λ o. MayBe o (truth true)) (sym gives) ((may_one (truth (is_landed k)) (truth true)).1 (ap truth (sym e)))),
      )
    where
      gives_it : (o p : Option Value) → o ≡ Some (age_value c time k) → p ≡ Some (hit_value stands c time i k) →
          gives_applied op.Implies (gives_applied op.Equal (one_of o) (Some (one (number (pos (c.to + 1)))))) (one_of p) ≡ Some (one (truth (is_landed k)))
      gives_it o p e g = rw (e, g) refl

  pub hit_forced : IsForced m hit_variable [] (hit_at_first fs c n age i ∷ []) (landed_at_each c n age ∷ []) (hit_at_step fs c n age i ∷ []) K (hit_value stands c time i)
  hit_forced =
      record {
        first = λ v b known dom f e. (first_iff v b known).0 f.0;
        next = λ k v w b known knows dom f e. (step_iff k v w b known knows).0 f.0;
      }

  pub hit_fits : ((k : ℕ) (v : List Value) → K k v → is_landed k ≡ true) → Fits m hit_variable [] (hit_at_first fs c n age i ∷ []) (landed_at_each c n age ∷ []) (hit_at_step fs c n age i ∷ []) K (hit_value stands c time i)
  hit_fits landed =
      record {
        domain = λ k v known. refl;
        first = λ v known. ((first_iff v (hit_value stands c time i 0) known).1 refl, tt);
        each = λ k v known. ((landed_iff k v known).1 (landed k v known), tt);
        next = λ k v w known knows. ((step_iff k v w (hit_value stands c time i (suc k)) known knows).1 refl, tt);
      }

  -- where the formulas hold of the told values, the hit has landed at each moment
  pub landed_all : (k : ℕ) (vs : List (List Value)) → EachFrom K k vs → Each (λ u. Each (Holds made u u) (landed_at_each c n age ∷ [])) (with_values (hit_value stands c time i) k vs) → EachFrom (λ j v. is_landed j ≡ true) k vs
  landed_all k [] known h = tt
  landed_all k (v ∷ vs) known h = ((landed_iff k v known.0).0 h.0.0, landed_all (suc k) vs known.1 h.1)
