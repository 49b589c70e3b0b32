-- The formulas of a flat model hold exactly where the conditions of the written program do.
use Rattle.std.proofs.Common.{◌≡◌, ℕ, zero, suc, Bool, true, false, List, [], ◌∷◌, ◌++◌, Option, Some, None, refl, sym, ◌∙◌, ap, subst, eq-eqb}
use Rattle.std.specs.Prelude.{slice_get, map, flat_map, ◌↔◌, IsTrue}
use Rattle.smv_language.specs.Language.{Tree, Text, ProgramTree, Value, Values, one, has, evaluate, gives_within, Place, Valuation, May, Each, EachBoth, FlatLeaf, flat_variable, FlatFormula, FlatModel, one_of, leaves_at, FlatMay, Holds, Numbers, same_text}
use Rattle.smv_language.specs.Values.{truth, number}
use Rattle.smv_language.proofs.ValueLaws.{same_value_equal, same_value_refl}
use Rattle.smv_flat_laws.specs.NameResolution.{Definition, Resolver, IsSound, AreDefinitions}
use Rattle.smv_flat_laws.specs.Model.{Condition, plain, now_among, next_among, kept, Written, IsVariableNumber, IsConditionTree, IsFormulaOf}
use Rattle.smv_flat_laws.proofs.Reaches.{each_left, each_right}
use Rattle.smv_flat_laws.proofs.Lists.{each_map, each_of_map, each_more}
use Rattle.smv_flat_laws.proofs.Resolving.{may_exactly}
use Rattle.std.proofs.lemmas.Option.{same_Some as one_same}
use Rattle.smv_language.proofs.BoolLaws.{iff_trans, iff_sym}

pub each_iff : {A : Type 0} (P Q : A → Type 0) (xs : List A) → ((x : A) → P x ↔ Q x) → (Each P xs ↔ Each Q xs)
each_iff P Q xs h = (each_more P Q xs (λ x. (h x).0), each_more Q P xs (λ x. (h x).1))

pub each_join : {A : Type 0} (P : A → Type 0) (xs ys : List A) → Each P xs → Each P ys → Each P (xs ++ ys)
each_join P [] ys h k = k
each_join P (x ∷ xs) ys h k = (h.0, each_join P xs ys h.1 k)

pub each_flat : {A B : Type 0} (P : B → Type 0) (f : A → List B) (xs : List A) → (Each P (flat_map f xs) ↔ Each (λ x. Each P (f x)) xs)
each_flat P f [] = ((λ h. tt), (λ h. tt))
each_flat P f (x ∷ xs) = (
  (λ h. (each_left P (f x) (flat_map f xs) h, (each_flat P f xs).0 (each_right P (f x) (flat_map f xs) h))),
  (λ h. each_join P (f x) (flat_map f xs) h.0 ((each_flat P f xs).1 h.1)),
)

pub each_mapped : {A B : Type 0} (P : B → Type 0) (f : A → B) (xs : List A) → (Each P (map f xs) ↔ Each (λ x. P (f x)) xs)
each_mapped P f xs = (each_of_map P f xs, each_map P f xs)

pub each_at : {A : Type 0} (P : A → Type 0) (xs : List A) (i : ℕ) (x : A) → Each P xs → slice_get xs i ≡ Some x → P x
each_at P [] i x h e = cc
each_at P (y ∷ xs) zero x h e = let same : y ≡ x = cc in subst P same h.0
each_at P (y ∷ xs) (suc i) x h e = each_at P xs i x h.1 e

pub each_from : {A : Type 0} (P : A → Type 0) (xs : List A) → ((i : ℕ) (x : A) → slice_get xs i ≡ Some x → P x) → Each P xs
each_from P [] h = tt
each_from P (x ∷ xs) h = (h 0 x refl, each_from P xs (λ i. h (suc i)))

both_iff : {A B : Type 0} (R : A → B → Type 0) (P : A → Type 0) (Q : B → Type 0) (xs : List A) (ys : List B) → ((x : A) (y : B) → R x y → Q y ↔ P x) →
    EachBoth R xs ys → (Each Q ys ↔ Each P xs)
both_iff R P Q [] [] h k = ((λ u. tt), (λ u. tt))
both_iff R P Q (x ∷ xs) (y ∷ ys) h k =
    ((λ u. ((h x y k.0).0 u.0, (both_iff R P Q xs ys h k.1).0 u.1)), (λ u. ((h x y k.0).1 u.0, (both_iff R P Q xs ys h k.1).1 u.1)))
both_iff R P Q [] (y ∷ ys) h k = absurd k
both_iff R P Q (x ∷ xs) [] h k = absurd k

-- Values.
pub same_text_same : (x : Text) → same_text x x ≡ true
same_text_same [] = refl
same_text_same (c ∷ cs) = rw (eq-eqb c c refl) (same_text_same cs)

true_alone : (b : Bool) → IsTrue (has (one (truth b)) (truth true)) → b ≡ true
true_alone true h = refl
true_alone false h = cc

-- `x in e` may be TRUE where x's value is one of e's
abbrev pub MayBe : Option Values → Value → Type 0
MayBe o x = (vs : Values) × (o ≡ Some vs) × IsTrue (has vs x)

pub within_iff : (b : Option Values) (x : Value) → (MayBe (gives_within (Some (one x)) b) (truth true) ↔ MayBe b x)
within_iff None x = ((λ h. let bad : None ≡ Some h.0 = h.1 in cc), (λ h. let bad : None ≡ Some h.0 = h.1 in cc))
within_iff (Some s) x = (
  (λ h. let same : one (truth (has s x)) ≡ h.0 = one_same (one (truth (has s x))) h.0 h.1 in
      (s, refl, true_alone (has s x) (subst (λ vs. IsTrue (has vs (truth true))) (sym same) h.2))),
  (λ h. let same : s ≡ h.0 = one_same s h.0 h.1 in
      (one (truth (has s x)), refl, let yes_it_is : has s x ≡ true = subst (λ vs. IsTrue (has vs x)) (sym same) h.2 in rw yes_it_is refl)),
)

pub may_one : (w x : Value) → (MayBe (Some (one w)) x ↔ (x ≡ w))
may_one w x = (
  (λ h. let same : one w ≡ h.0 = one_same (one w) h.0 h.1 in sym (same_value_equal w x (subst (λ vs. IsTrue (has vs x)) (sym same) h.2))),
  (λ e. (one w, refl, rw e (same_value_refl w))),
)

-- What a condition asks of a valuation and the next.
abbrev pub Asks : ProgramTree → Valuation → Valuation → Place → Condition → Type 0
Asks p now next at (plain e) = May p at now next e (truth true)
Asks p now next at (now_among x e) = May p at now next e (now at x)
Asks p now next at (next_among x e) = May p at now next e (next at x)
Asks p now next at (kept x) = next at x ≡ now at x

variable_gives : (m : FlatModel) (v : List Value) (now : Valuation) (at : Place) (x : Text) (i : ℕ) → Numbers m v now → IsVariableNumber m at x i →
    leaves_at m v (flat_variable i) ≡ Some (one (now at x))
variable_gives m v now at x i num is =
    ap one_of (num i is.variable is.is) ∙ ap (λ a. Some (one (now a is.variable.name))) is.same_place ∙ ap (λ y. Some (one (now at y))) is.same_name

module _ (p : ProgramTree) (m : FlatModel) (ds : List Definition) (r : Resolver) (sound : IsSound p m ds r) (are : AreDefinitions p m ds r) where
  condition_exactly : (v w : List Value) (now next : Valuation) → Numbers m v now → Numbers m w next →
      (at : Place) (c : Condition) (flat : Tree FlatLeaf) → IsConditionTree m r at c flat → (FlatMay m v w flat (truth true) ↔ Asks p now next at c)
  condition_exactly v w now next num num' at (plain e) flat is = iff_sym (may_exactly p m ds r sound are v w now next num num' at e flat is (truth true))
  condition_exactly v w now next num num' at (now_among x e) flat is =
      iff_trans (subst (λ t. FlatMay m v w t (truth true) ↔ MayBe (evaluate (leaves_at m v) (leaves_at m w) is.value) (now at x)) (sym is.is)
      (subst (λ o. MayBe (gives_within o (evaluate (leaves_at m v) (leaves_at m w) is.value)) (truth true) ↔ MayBe (evaluate (leaves_at m v) (leaves_at m w) is.value) (now at x))
      (sym (variable_gives m v now at x is.number num is.is_number)) (within_iff (evaluate (leaves_at m v) (leaves_at m w) is.value) (now at x))))
      (iff_sym (may_exactly p m ds r sound are v w now next num num' at e is.value is.resolved (now at x)))
  condition_exactly v w now next num num' at (next_among x e) flat is =
      iff_trans (subst (λ t. FlatMay m v w t (truth true) ↔ MayBe (evaluate (leaves_at m v) (leaves_at m w) is.value) (next at x)) (sym is.is)
      (subst (λ o. MayBe (gives_within o (evaluate (leaves_at m v) (leaves_at m w) is.value)) (truth true) ↔ MayBe (evaluate (leaves_at m v) (leaves_at m w) is.value) (next at x))
      (sym (variable_gives m w next at x is.number num' is.is_number)) (within_iff (evaluate (leaves_at m v) (leaves_at m w) is.value) (next at x))))
      (iff_sym (may_exactly p m ds r sound are v w now next num num' at e is.value is.resolved (next at x)))
  condition_exactly v w now next num num' at (kept x) flat is =
      subst (λ t. FlatMay m v w t (truth true) ↔ (next at x ≡ now at x)) (sym is.is)
      (subst (λ o. MayBe (gives_within o (leaves_at m v (flat_variable is.number))) (truth true) ↔ (next at x ≡ now at x))
      (sym (variable_gives m w next at x is.number num' is.is_number))
      (subst (λ o. MayBe (gives_within (Some (one (next at x))) o) (truth true) ↔ (next at x ≡ now at x))
      (sym (variable_gives m v now at x is.number num is.is_number))
      (iff_trans (within_iff (Some (one (now at x))) (next at x)) (may_one (now at x) (next at x)))))

  pub formulas_exactly : (v w : List Value) (now next : Valuation) → Numbers m v now → Numbers m w next → (ws : List Written) (fs : List FlatFormula) →
      EachBoth (IsFormulaOf m r) ws fs → (Each (Holds m v w) fs ↔ Each (λ (c : Written). Asks p now next c.place c.condition) ws)
  formulas_exactly v w now next num num' ws fs are_formulas =
      both_iff (IsFormulaOf m r) (λ (c : Written). Asks p now next c.place c.condition) (Holds m v w) ws fs
      (λ c f is. condition_exactly v w now next num num' c.place c.condition f.value is.tree) are_formulas
