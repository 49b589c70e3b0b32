-- The event of a cause and its hits, where the age is known.
use Rattle.std.proofs.Common.{◌≡◌, ℕ, suc, Bool, true, false, cond, ◌||◌, List, [], ◌∷◌, ◌++◌, length, Option, Some, refl, ap, sym, subst}
use Rattle.std.specs.Prelude.{pos, nat_eq, slice_get, IsTrue}
use Rattle.smv_language.specs.declared.expr.Op.TheVariants as op
use Rattle.smv_language.specs.declared.program.Member.TheVariants as member
use Rattle.smv_language.specs.Language.{Text, members, Value, symbol, Values, one, either, no_value, same_text, gives_choice, gives_applied, gives_either, in_domain, FlatModel, FlatVariable, one_of, symbol_of, Holds}
use Rattle.smv_language.specs.Values.{truth, number}
use Rattle.smv_flat_laws.proofs.Conditions.{MayBe, same_text_same}
use Rattle.fault_cause_laws.specs.Additions.{Addition, with_addition}
use Rattle.fault_cause_laws.proofs.AddedReadings.{within_any, get_last}
use Rattle.fault_cause_laws.proofs.Columns.{one_added, IsForced, Fits}
use Rattle.fault_cause_laws.specs.Causes.{CommonCause}
use Rattle.fault_cause_laws.specs.StagedModel.{event_name, quiet_name, now_name, added_variable, event_at_each}
use Rattle.fault_cause_laws.specs.StagedValues.{age_at, age_value, event_value}
use Rattle.fault_cause_laws.proofs.Formulas.{only_one, with_only, get_two}
use Rattle.base_values.proofs.ListLaws.{get_left}

module _ (m : FlatModel) (c : CommonCause) (age : ℕ) (time : Option ℕ) (K : ℕ → List Value → Type 0) (sized : (k : ℕ) (v : List Value) → K k v → length v ≡ length m.variables)
    (read : (k : ℕ) (v : List Value) → K k v → slice_get v age ≡ Some (age_value c time k)) where
  abbrev n : ℕ
  n = length m.variables

  abbrev s : ℕ
  s = length m.symbols

  abbrev pub event_variable : FlatVariable
  event_variable = added_variable (event_name c.name) (members (member.Symbol (quiet_name c.name) ∷ member.Symbol (now_name c.name) ∷ []))

  abbrev pub event_added : Addition
  event_added = one_added event_variable (quiet_name c.name ∷ now_name c.name ∷ []) [] (event_at_each n age s ∷ []) []

  abbrev made : FlatModel
  made = with_addition m event_added

  abbrev text_at : ℕ → Text
  text_at k = cond (nat_eq (age_at c time k) 1) (now_name c.name) (quiet_name c.name)

  event_iff : (k : ℕ) (v : List Value) (b : Value) → K k v →
      (Holds made (v ++ b ∷ []) (v ++ b ∷ []) (event_at_each n age s) → b ≡ event_value c time k) × (b ≡ event_value c time k → Holds made (v ++ b ∷ []) (v ++ b ∷ []) (event_at_each n age s))
  event_iff k v b known =
      let here : slice_get (v ++ b ∷ []) n ≡ Some b = get_last v b n (sized k v known) in
      let aged : slice_get (v ++ b ∷ []) age ≡ Some (age_value c time k) = get_left v (b ∷ []) age (age_value c time k) (read k v known) in
      let two : (slice_get made.symbols s ≡ Some (quiet_name c.name)) × (slice_get made.symbols (suc s) ≡ Some (now_name c.name)) = get_two m.symbols (quiet_name c.name) (now_name c.name) in
      let any : (Holds made (v ++ b ∷ []) (v ++ b ∷ []) (event_at_each n age s) → MayBe (rhs (v ++ b ∷ [])) b) × (MayBe (rhs (v ++ b ∷ [])) b → Holds made (v ++ b ∷ []) (v ++ b ∷ []) (event_at_each n age s)) =
      within_any (one_of (slice_get (v ++ b ∷ []) n)) (rhs (v ++ b ∷ [])) b (ap one_of here) in
      let gives : rhs (v ++ b ∷ []) ≡ Some (either (one (symbol (text_at k))) no_value) = gives_text (slice_get (v ++ b ∷ []) age) (slice_get made.symbols s) (slice_get made.symbols (suc s)) aged two.0 two.1 in (
        (λ h. only_one (symbol (text_at k)) b (subst (λ o. MayBe o b) gives (any.0 h))),
        (λ e. any.1 (subst (λ o. MayBe o b) (sym gives) (subst (MayBe (Some (either (one (symbol (text_at k))) no_value))) (sym e) (with_only (symbol (text_at k)))))),
      )
    where
      rhs : List Value → Option Values
      rhs u =
          gives_choice (gives_applied op.Equal (one_of (slice_get u age)) (Some (one (number (pos 1))))) (gives_either (symbol_of (slice_get made.symbols (suc s))) (Some no_value))
          (gives_either (symbol_of (slice_get made.symbols s)) (Some no_value))

      gives_text : (o : Option Value) (q r : Option Text) → o ≡ Some (age_value c time k) → q ≡ Some (quiet_name c.name) → r ≡ Some (now_name c.name) →
          gives_choice (gives_applied op.Equal (one_of o) (Some (one (number (pos 1))))) (gives_either (symbol_of r) (Some no_value)) (gives_either (symbol_of q) (Some no_value)) ≡ Some (either (one (symbol (text_at k))) no_value)
      gives_text o q r e f g = rw (e, f, g) (by_test (nat_eq (age_at c time k) 1))
        where
          by_test : (b : Bool) →
              gives_choice (Some (one (truth b))) (Some (either (one (symbol (now_name c.name))) no_value)) (Some (either (one (symbol (quiet_name c.name))) no_value))
              ≡ Some (either (one (symbol (cond b (now_name c.name) (quiet_name c.name)))) no_value)
          by_test true = refl
          by_test false = refl

  in_type : (b : Bool) → IsTrue (in_domain event_variable.declared (symbol (cond b (now_name c.name) (quiet_name c.name))))
  in_type true = or_right (same_text (quiet_name c.name) (now_name c.name)) (same_text (now_name c.name) (now_name c.name)) (same_text_same (now_name c.name))
    where
      or_right : (a b : Bool) → b ≡ true → IsTrue (a || (b || false))
      or_right true b e = refl
      or_right false b e = rw e refl
  in_type false = or_left (same_text (quiet_name c.name) (quiet_name c.name)) (same_text (now_name c.name) (quiet_name c.name) || false) (same_text_same (quiet_name c.name))
    where
      or_left : (a b : Bool) → a ≡ true → IsTrue (a || b)
      or_left a b e = rw e refl

  pub event_forced : IsForced m event_variable (quiet_name c.name ∷ now_name c.name ∷ []) [] (event_at_each n age s ∷ []) [] K (event_value c time)
  event_forced =
      record {
        first = λ v b known dom f e. (event_iff 0 v b known).0 e.0;
        next = λ k v w b known knows dom f e. (event_iff (suc k) w b knows).0 e.0;
      }

  pub event_fits : Fits m event_variable (quiet_name c.name ∷ now_name c.name ∷ []) [] (event_at_each n age s ∷ []) [] K (event_value c time)
  event_fits =
      record {
        domain = λ k v known. in_type (nat_eq (age_at c time k) 1);
        first = λ v known. tt;
        each = λ k v known. ((event_iff k v (event_value c time k) known).1 refl, tt);
        next = λ k v w known knows. tt;
      }
