-- The own event of a fault, where its mode and the ages of all causes are known.
use Rattle.std.proofs.Common.{◌≡◌, ℕ, suc, ◌≤◌, Bool, true, false, cond, ◌&&◌, ◌||◌, List, [], ◌∷◌, ◌++◌, length, Option, Some, refl, ap, ◌∙◌, sym, subst}
use Rattle.std.specs.Prelude.{slice_get, IsTrue}
use Rattle.smv_language.specs.declared.expr.Op.TheVariants as op
use Rattle.smv_language.specs.declared.program.Member.TheVariants as member
use Rattle.smv_language.specs.Language.{Tree, Text, members, Value, symbol, Values, one, either, no_value, opposite, same_text, evaluate, gives_choice, gives_applied, gives_either, gives_not, in_domain, FlatLeaf, FlatModel, FlatVariable, one_of, symbol_of, leaves_at, Holds}
use Rattle.smv_language.specs.Values.{truth}
use Rattle.smv_flat_laws.specs.History.{Mode}
use Rattle.smv_flat_laws.proofs.Conditions.{MayBe, same_text_same}
use Rattle.fault_cause_laws.specs.Additions.{Addition, with_addition}
use Rattle.fault_cause_laws.proofs.AddedReadings.{within_any, gives_and, gives_opposite, get_last}
use Rattle.fault_cause_laws.proofs.Columns.{one_added, IsForced, Fits}
use Rattle.fault_cause_laws.specs.Causes.{CommonCause}
use Rattle.fault_cause_laws.specs.StagedModel.{own_name, none_name, self_name, added_variable, own_at_first, own_at_step, stands_of, mode_of, windows_on, joined}
use Rattle.fault_cause_laws.specs.StagedValues.{age_value, own_value, begins, is_covered}
use Rattle.fault_cause_laws.proofs.Formulas.{AgesRead, covered_gives, stands_gives, only_one, with_only, get_two}
use Rattle.fault_cause_laws.proofs.HitColumn.{ReadsMode}
use Rattle.base_values.proofs.ListLaws.{get_left}

-- the ages of causes in a valuation
abbrev pub AgesAt : List Value → List CommonCause → List (Option ℕ) → List ℕ → ℕ → Type 0
AgesAt v [] times ages k = Unit {0}
AgesAt v (c ∷ cs) [] ages k = ⊥
AgesAt v (c ∷ cs) (time ∷ times) [] k = ⊥
AgesAt v (c ∷ cs) (time ∷ times) (age ∷ ages) k = (c.from ≤ c.to) × (slice_get v age ≡ Some (age_value c time k)) × AgesAt v cs times ages k

pub ages_longer : (v bs : List Value) (cs : List CommonCause) (times : List (Option ℕ)) (ages : List ℕ) (k : ℕ) → AgesAt v cs times ages k → AgesAt (v ++ bs) cs times ages k
ages_longer v bs [] times ages k h = tt
ages_longer v bs (c ∷ cs) [] ages k h = absurd h
ages_longer v bs (c ∷ cs) (time ∷ times) [] k h = absurd h
ages_longer v bs (c ∷ cs) (time ∷ times) (age ∷ ages) k h = (h.0, get_left v bs age (age_value c time k) h.1, ages_longer v bs cs times ages k h.2)

ages_read : (v : List Value) (cs : List CommonCause) (times : List (Option ℕ)) (ages : List ℕ) (k : ℕ) → AgesAt v cs times ages k → AgesRead (λ n. one_of (slice_get v n)) cs times ages k
ages_read v [] times ages k h = tt
ages_read v (c ∷ cs) [] ages k h = absurd h
ages_read v (c ∷ cs) (time ∷ times) [] k h = absurd h
ages_read v (c ∷ cs) (time ∷ times) (age ∷ ages) k h = (h.0, ap one_of h.1, ages_read v cs times ages k h.2)

module _ (m : FlatModel) (fs : List Mode) (cs : List CommonCause) (times : List (Option ℕ)) (ages : List ℕ) (i : ℕ) (stands : ℕ → ℕ → Bool) (wanted : Text)
    (of_model : slice_get m.symbols (mode_of fs i).symbol ≡ Some wanted) (K : ℕ → List Value → Type 0)
    (sized : (k : ℕ) (v : List Value) → K k v → length v ≡ length m.variables) (read : (k : ℕ) (v : List Value) → K k v → AgesAt v cs times ages k)
    (mode : (k : ℕ) (v : List Value) → K k v → ReadsMode fs i wanted stands k v) where
  abbrev n : ℕ
  n = length m.variables

  abbrev s : ℕ
  s = length m.symbols

  abbrev pub own_variable : FlatVariable
  own_variable = added_variable (own_name i) (members (member.Symbol (none_name i) ∷ member.Symbol (self_name i) ∷ []))

  abbrev windows : Tree FlatLeaf
  windows = joined (windows_on i cs ages)

  abbrev pub own_added : Addition
  own_added = one_added own_variable (none_name i ∷ self_name i ∷ []) (own_at_first (stands_of fs i) windows n s ∷ []) [] (own_at_step (stands_of fs i) windows n s ∷ [])

  abbrev made : FlatModel
  made = with_addition m own_added

  covered_here : (k : ℕ) (v w : List Value) (b : Value) → K k v → evaluate (leaves_at made (v ++ b ∷ [])) (leaves_at made w) windows ≡ Some (one (truth (is_covered cs times i k)))
  covered_here k v w b known =
      covered_gives (leaves_at made (v ++ b ∷ [])) (leaves_at made w) i cs times ages k (ages_read (v ++ b ∷ []) cs times ages k (ages_longer v (b ∷ []) cs times ages k (read k v known)))

  stands_here : (k : ℕ) (v w : List Value) (b : Value) → K k v → evaluate (leaves_at made (v ++ b ∷ [])) (leaves_at made w) (stands_of fs i) ≡ Some (one (truth (stands k i)))
  stands_here k v w b known =
      let r : ReadsMode fs i wanted stands k v = mode k v known in
      stands_gives (leaves_at made (v ++ b ∷ [])) (leaves_at made w) fs i r.text wanted (ap one_of (get_left v (b ∷ []) (mode_of fs i).variable (symbol r.text) r.has))
      (ap symbol_of (get_left m.symbols (none_name i ∷ self_name i ∷ []) (mode_of fs i).symbol wanted of_model))
      ∙ ap (λ t. Some (one (truth t))) r.tells

  -- the symbol that is chosen by a test
  abbrev chosen : Option Values → Option Values
  chosen o = gives_choice o (gives_either (symbol_of (slice_get made.symbols (suc s))) (Some no_value)) (gives_either (symbol_of (slice_get made.symbols s)) (Some no_value))

  abbrev text_of : Bool → Text
  text_of t = cond t (self_name i) (none_name i)

  chosen_is : (o : Option Values) (t : Bool) → o ≡ Some (one (truth t)) → chosen o ≡ Some (either (one (symbol (text_of t))) no_value)
  chosen_is o t e =
      let two : (slice_get made.symbols s ≡ Some (none_name i)) × (slice_get made.symbols (suc s) ≡ Some (self_name i)) = get_two m.symbols (none_name i) (self_name i) in
      by_parts o (slice_get made.symbols s) (slice_get made.symbols (suc s)) e two.0 two.1
    where
      by_test : (t : Bool) → gives_choice (Some (one (truth t))) (Some (either (one (symbol (self_name i))) no_value)) (Some (either (one (symbol (none_name i))) no_value)) ≡ Some (either (one (symbol (text_of t))) no_value)
      by_test true = refl
      by_test false = refl

      by_parts : (o : Option Values) (q r : Option Text) → o ≡ Some (one (truth t)) → q ≡ Some (none_name i) → r ≡ Some (self_name i) →
          gives_choice o (gives_either (symbol_of r) (Some no_value)) (gives_either (symbol_of q) (Some no_value)) ≡ Some (either (one (symbol (text_of t))) no_value)
      by_parts o q r e f g = rw (e, f, g) (by_test t)

  among : (o : Option Values) (t : Bool) (b : Value) → o ≡ Some (one (truth t)) → (MayBe (chosen o) b → b ≡ symbol (text_of t)) × (b ≡ symbol (text_of t) → MayBe (chosen o) b)
  among o t b e = (
    (λ h. only_one (symbol (text_of t)) b (subst (λ x. MayBe x b) (chosen_is o t e) h)),
    (λ g. subst (λ x. MayBe x b) (sym (chosen_is o t e)) (subst (MayBe (Some (either (one (symbol (text_of t))) no_value))) (sym g) (with_only (symbol (text_of t))))),
  )

  first_iff : (v : List Value) (b : Value) → K 0 v →
      (Holds made (v ++ b ∷ []) (v ++ b ∷ []) (own_at_first (stands_of fs i) windows n s) → b ≡ own_value stands cs times i 0) × (b ≡ own_value stands cs times i 0 → Holds made (v ++ b ∷ []) (v ++ b ∷ []) (own_at_first (stands_of fs i) windows n s))
  first_iff v b known =
      let u : List Value = v ++ b ∷ [] in
      let test : gives_applied op.And (evaluate (leaves_at made u) (leaves_at made u) (stands_of fs i)) (gives_not (evaluate (leaves_at made u) (leaves_at made u) windows)) ≡ Some (one (truth (stands 0 i && opposite (is_covered cs times i 0)))) =
      gives_and (evaluate (leaves_at made u) (leaves_at made u) (stands_of fs i)) (gives_not (evaluate (leaves_at made u) (leaves_at made u) windows)) (stands 0 i) (opposite (is_covered cs times i 0))
      (stands_here 0 v u b known) (gives_opposite (evaluate (leaves_at made u) (leaves_at made u) windows) (is_covered cs times i 0) (covered_here 0 v u b known)) in
      let any = within_any (one_of (slice_get u n)) (chosen (gives_applied op.And (evaluate (leaves_at made u) (leaves_at made u) (stands_of fs i)) (gives_not (evaluate (leaves_at made u) (leaves_at made u) windows)))) b (ap one_of (get_last v b n (sized 0 v known))) in
      let it = among (gives_applied op.And (evaluate (leaves_at made u) (leaves_at made u) (stands_of fs i)) (gives_not (evaluate (leaves_at made u) (leaves_at made u) windows))) (stands 0 i && opposite (is_covered cs times i 0)) b test in
      ((λ h. it.0 (any.0 h)), (λ e. any.1 (it.1 e)))

  step_iff : (k : ℕ) (v w : List Value) (x b : Value) → K k v → K (suc k) w →
      (Holds made (v ++ x ∷ []) (w ++ b ∷ []) (own_at_step (stands_of fs i) windows n s) → b ≡ own_value stands cs times i (suc k))
      × (b ≡ own_value stands cs times i (suc k) → Holds made (v ++ x ∷ []) (w ++ b ∷ []) (own_at_step (stands_of fs i) windows n s))
  step_iff k v w x b known knows =
      let t : List Value = v ++ x ∷ [] in
      let u : List Value = w ++ b ∷ [] in
      let begun : gives_applied op.And (evaluate (leaves_at made u) (leaves_at made u) (stands_of fs i)) (gives_not (evaluate (leaves_at made t) (leaves_at made u) (stands_of fs i))) ≡ Some (one (truth (stands (suc k) i && opposite (stands k i)))) =
      gives_and (evaluate (leaves_at made u) (leaves_at made u) (stands_of fs i)) (gives_not (evaluate (leaves_at made t) (leaves_at made u) (stands_of fs i))) (stands (suc k) i) (opposite (stands k i))
      (stands_here (suc k) w u b knows) (gives_opposite (evaluate (leaves_at made t) (leaves_at made u) (stands_of fs i)) (stands k i) (stands_here k v u x known)) in
      let test : gives_applied op.And (gives_applied op.And (evaluate (leaves_at made u) (leaves_at made u) (stands_of fs i)) (gives_not (evaluate (leaves_at made t) (leaves_at made u) (stands_of fs i)))) (gives_not (evaluate (leaves_at made u) (leaves_at made u) windows))
      ≡ Some (one (truth ((stands (suc k) i && opposite (stands k i)) && opposite (is_covered cs times i (suc k))))) =
      gives_and (gives_applied op.And (evaluate (leaves_at made u) (leaves_at made u) (stands_of fs i)) (gives_not (evaluate (leaves_at made t) (leaves_at made u) (stands_of fs i)))) (gives_not (evaluate (leaves_at made u) (leaves_at made u) windows))
      (stands (suc k) i && opposite (stands k i)) (opposite (is_covered cs times i (suc k))) begun
      (gives_opposite (evaluate (leaves_at made u) (leaves_at made u) windows) (is_covered cs times i (suc k)) (covered_here (suc k) w u b knows)) in
      let any = within_any (one_of (slice_get u n))
      (chosen (gives_applied op.And (gives_applied op.And (evaluate (leaves_at made u) (leaves_at made u) (stands_of fs i)) (gives_not (evaluate (leaves_at made t) (leaves_at made u) (stands_of fs i)))) (gives_not (evaluate (leaves_at made u) (leaves_at made u) windows))))
      b (ap one_of (get_last w b n (sized (suc k) w knows))) in
      let it = among (gives_applied op.And (gives_applied op.And (evaluate (leaves_at made u) (leaves_at made u) (stands_of fs i)) (gives_not (evaluate (leaves_at made t) (leaves_at made u) (stands_of fs i)))) (gives_not (evaluate (leaves_at made u) (leaves_at made u) windows)))
      ((stands (suc k) i && opposite (stands k i)) && opposite (is_covered cs times i (suc k))) b test in
      ((λ h. it.0 (any.0 h)), (λ e. any.1 (it.1 e)))

  in_type : (b : Bool) → IsTrue (in_domain own_variable.declared (symbol (text_of b)))
  in_type true = or_right (same_text (none_name i) (self_name i)) (same_text (self_name i) (self_name i)) (same_text_same (self_name i))
    where
      or_right : (a b : Bool) → b ≡ true → IsTrue (a || (b || false))
      or_right true b e = refl
      or_right false b e = rw e refl
  in_type false = or_left (same_text (none_name i) (none_name i)) (same_text (self_name i) (none_name i) || false) (same_text_same (none_name i))
    where
      or_left : (a b : Bool) → a ≡ true → IsTrue (a || b)
      or_left a b e = rw e refl

  pub own_forced : IsForced m own_variable (none_name i ∷ self_name i ∷ []) (own_at_first (stands_of fs i) windows n s ∷ []) [] (own_at_step (stands_of fs i) windows n s ∷ []) K (own_value stands cs times i)
  own_forced =
      record {
        first = λ v b known dom f e. (first_iff v b known).0 f.0;
        next = λ k v w b known knows dom f e. (step_iff k v w (own_value stands cs times i k) b known knows).0 f.0;
      }

  pub own_fits : Fits m own_variable (none_name i ∷ self_name i ∷ []) (own_at_first (stands_of fs i) windows n s ∷ []) [] (own_at_step (stands_of fs i) windows n s ∷ []) K (own_value stands cs times i)
  own_fits =
      record {
        domain = λ k v known. in_type (begins stands i k && opposite (is_covered cs times i k));
        first = λ v known. ((first_iff v (own_value stands cs times i 0) known).1 refl, tt);
        each = λ k v known. tt;
        next = λ k v w known knows. ((step_iff k v w (own_value stands cs times i k) (own_value stands cs times i (suc k)) known knows).1 refl, tt);
      }
