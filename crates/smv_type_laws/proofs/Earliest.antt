-- The first breach that is found is the first.
use Rattle.std.proofs.Common.{◌≡◌, ◌⊎◌, inl, inr, ⊎_elim, ℕ, ◌<◌, ◌≤◌, nat_eq, nat_lt, nat_le, eq-eqb, Bool, true, false, cond, List, [], ◌∷◌, ◌++◌, Option, Some, None, refl, sym, ap, ◌∙◌, subst, arith}
use Rattle.std.proofs.lemmas.Bool.Decides.{nat_tests}
use Rattle.smv_language.specs.Language.{Each, AtSome, FlatModel}
use Rattle.smv_type_laws.specs.ExpressionKinds.{KindRule, too_large, number_of}
use Rattle.smv_type_laws.specs.Models.{Breach, breaches_at, breaches, IsNoLater, IsFirstBreach, IsFault, at_an_item, of_its_size, is_too_large, IsTyped, lesser, least_after, least}
use Rattle.smv_type_laws.specs.FirstBreach.{is_no_later, earlier_of, earlier, first_of, breach_of, size_breach, first_fault}

-- The test and the order.
by_tests : (a b : Breach) (s t u v w : Bool) → nat_eq a.number b.number ≡ s → nat_eq a.item b.item ≡ t → nat_le (number_of a.rule) (number_of b.rule) ≡ u → nat_lt a.item b.item ≡ v →
    nat_lt a.number b.number ≡ w → cond s (cond t u v) w ≡ true → IsNoLater a b
by_tests a b true true u v w e f g h i k = inr (grind (arith, nat_tests), inr (grind (arith, nat_tests), grind (arith, nat_tests)))
by_tests a b true false u v w e f g h i k = inr (grind (arith, nat_tests), inl (grind (arith, nat_tests)))
by_tests a b false t u v w e f g h i k = inl (grind (arith, nat_tests))

holds : (a b : Breach) → is_no_later a b ≡ true → IsNoLater a b
holds a b e = by_tests a b _ _ _ _ _ refl refl refl refl refl e

by_failed : (a b : Breach) (s t u v w : Bool) → nat_eq a.number b.number ≡ s → nat_eq a.item b.item ≡ t → nat_le (number_of a.rule) (number_of b.rule) ≡ u → nat_lt a.item b.item ≡ v →
    nat_lt a.number b.number ≡ w → cond s (cond t u v) w ≡ false → IsNoLater b a × (IsNoLater a b → ⊥)
by_failed a b true true u v w e f g h i k =
    let x : a.number ≡ b.number = grind (arith, nat_tests) in
    let y : a.item ≡ b.item = grind (arith, nat_tests) in
    let z : number_of b.rule < number_of a.rule = grind (arith, nat_tests) in
    (inr (sym x, inr (sym y, omega arith)), λ q. ⊎_elim (λ l. omega (arith, l)) (λ l. ⊎_elim (λ n. omega (arith, n)) (λ n. omega (arith, n.1)) l.1) q)
by_failed a b true false u v w e f g h i k =
    let x : a.number ≡ b.number = grind (arith, nat_tests) in
    let y : b.item < a.item = grind (arith, nat_tests) in
    (inr (sym x, inl y), λ q. ⊎_elim (λ l. omega (arith, l)) (λ l. ⊎_elim (λ n. omega (arith, n)) (λ n. omega (arith, n.0)) l.1) q)
by_failed a b false t u v w e f g h i k =
    let x : b.number < a.number = grind (arith, nat_tests) in
    (inl x, λ q. ⊎_elim (λ l. omega (arith, l)) (λ l. omega (arith, l.0)) q)

fails : (a b : Breach) → is_no_later a b ≡ false → IsNoLater b a × (IsNoLater a b → ⊥)
fails a b e = by_failed a b _ _ _ _ _ refl refl refl refl refl e

within : (i j k r s t : ℕ) → (i < j) ⊎ ((i ≡ j) × (r ≤ s)) → (j < k) ⊎ ((j ≡ k) × (s ≤ t)) → (i < k) ⊎ ((i ≡ k) × (r ≤ t))
within i j k r s t (inl p) (inl q) = inl (omega arith)
within i j k r s t (inl p) (inr q) = inl (omega (arith, q.0))
within i j k r s t (inr p) (inl q) = inl (omega (arith, p.0))
within i j k r s t (inr p) (inr q) = inr (p.0 ∙ q.0, omega (arith, p.1, q.1))

through : (a b c : Breach) → IsNoLater a b → IsNoLater b c → IsNoLater a c
through a b c (inl p) (inl q) = inl (omega arith)
through a b c (inl p) (inr q) = inl (omega (arith, q.0))
through a b c (inr p) (inl q) = inl (omega (arith, p.0))
through a b c (inr p) (inr q) = inr (p.0 ∙ q.0, within a.item b.item c.item (number_of a.rule) (number_of b.rule) (number_of c.rule) p.1 q.1)

takes : (a b : Breach) → is_no_later a b ≡ true → earlier_of a b ≡ a
takes a b e = ap (λ t. cond t a b) e

leaves : (a b : Breach) → is_no_later a b ≡ false → earlier_of a b ≡ b
leaves a b e = ap (λ t. cond t a b) e

of_three : (a b c : Breach) → earlier_of a (earlier_of b c) ≡ earlier_of (earlier_of a b) c
of_three a b c = by (is_no_later a b) refl (is_no_later b c) refl (is_no_later a c) refl
  where
    by : (s : Bool) → is_no_later a b ≡ s → (t : Bool) → is_no_later b c ≡ t → (u : Bool) → is_no_later a c ≡ u → earlier_of a (earlier_of b c) ≡ earlier_of (earlier_of a b) c
    by true e true f true g = ap (earlier_of a) (takes b c f) ∙ takes a b e ∙ sym (ap (λ x. earlier_of x c) (takes a b e) ∙ takes a c g)
    by true e true f false g = absurd ((fails a c g).1 (through a b c (holds a b e) (holds b c f)))
    by true e false f u g = ap (earlier_of a) (leaves b c f) ∙ sym (ap (λ x. earlier_of x c) (takes a b e))
    by false e true f u g = ap (earlier_of a) (takes b c f) ∙ leaves a b e ∙ sym (ap (λ x. earlier_of x c) (leaves a b e) ∙ takes b c f)
    by false e false f true g = absurd ((fails a b e).1 (through a c b (holds a c g) (fails b c f).0))
    by false e false f false g = ap (earlier_of a) (leaves b c f) ∙ leaves a c g ∙ sym (ap (λ x. earlier_of x c) (leaves a b e) ∙ leaves b c f)

pub earlier_again : (a b c : Option Breach) → earlier a (earlier b c) ≡ earlier (earlier a b) c
earlier_again None b c = refl
earlier_again (Some a) None c = refl
earlier_again (Some a) (Some b) None = refl
earlier_again (Some a) (Some b) (Some c) = ap Some (of_three a b c)

-- the first of joined lists is the earlier of both
pub first_join : (as' bs : List Breach) → first_of (as' ++ bs) ≡ earlier (first_of as') (first_of bs)
first_join [] bs = refl
first_join (a ∷ as') bs = ap (earlier (Some a)) (first_join as' bs) ∙ earlier_again (Some a) (first_of as') (first_of bs)

-- at one item the least rule comes first
lesser_first : (number item : ℕ) (r q : KindRule) → earlier_of (record { number = number; item = item; rule = r }) (record { number = number; item = item; rule = q }) ≡ record { number = number; item = item; rule = lesser r q }
lesser_first number item r q = by _ _ (eq-eqb number number refl) (eq-eqb item item refl) refl refl
  where
    by : (u v : Bool) → nat_eq number number ≡ true → nat_eq item item ≡ true → nat_le (number_of r) (number_of q) ≡ u → nat_lt (number_of q) (number_of r) ≡ v →
        earlier_of (record { number = number; item = item; rule = r }) (record { number = number; item = item; rule = q }) ≡ record { number = number; item = item; rule = lesser r q }
    by true false e f g h = simp (e, f, g, h)
    by false true e f g h = simp (e, f, g, h)
    by true true e f g h = absurd (grind (arith, nat_tests))
    by false false e f g h = absurd (grind (arith, nat_tests))

pub first_at : (number item : ℕ) (rules : List KindRule) → first_of (breaches_at number item rules) ≡ breach_of number item (least rules)
first_at number item [] = refl
first_at number item (r ∷ rules) = ap (earlier (Some (record { number = number; item = item; rule = r }))) (first_at number item rules) ∙ by (least rules)
  where
    by : (o : Option KindRule) → earlier (Some (record { number = number; item = item; rule = r })) (breach_of number item o) ≡ breach_of number item (least_after r o)
    by None = refl
    by (Some q) = ap Some (lesser_first number item r q)

-- What is found is the first.
each_through : (a b : Breach) (bs : List Breach) → IsNoLater a b → Each (IsNoLater b) bs → Each (IsNoLater a) bs
each_through a b [] p h = tt
each_through a b (c ∷ bs) p h = (through a b c p h.0, each_through a b bs p h.1)

itself : (a : Breach) → IsNoLater a a
itself a = inr (refl, inr (refl, omega arith))

pub none_found : (bs : List Breach) → first_of bs ≡ None → bs ≡ []
none_found [] e = refl
none_found (b ∷ bs) e = by (first_of bs) e
  where
    by : (o : Option Breach) → earlier (Some b) o ≡ None → b ∷ bs ≡ []
    by None f = cc
    by (Some a) f = cc

pub found_first : (bs : List Breach) (a : Breach) → first_of bs ≡ Some a → IsFirstBreach bs a
found_first [] a e = cc
found_first (b ∷ bs) a e = by (first_of bs) refl e (λ c f. found_first bs c f)
  where
    by : (o : Option Breach) → first_of bs ≡ o → earlier (Some b) o ≡ Some a → ((c : Breach) → first_of bs ≡ Some c → IsFirstBreach bs c) → IsFirstBreach (b ∷ bs) a
    by None f g more =
        let same : b ≡ a = cc in
        let none = none_found bs f in
        record { among = inl same; earliest = (subst (λ x. IsNoLater x b) same (itself b), subst (Each (IsNoLater a)) (sym none) tt) }
    by (Some c) f g more = pick (is_no_later b c) refl
      where
        rest : IsFirstBreach bs c
        rest = more c f

        chosen : earlier_of b c ≡ a
        chosen = cc

        pick : (t : Bool) → is_no_later b c ≡ t → IsFirstBreach (b ∷ bs) a
        pick true h =
            let same : b ≡ a = sym (takes b c h) ∙ chosen in
            record { among = inl same; earliest = (subst (λ x. IsNoLater x b) same (itself b), subst (λ x. Each (IsNoLater x) bs) same (each_through b c bs (holds b c h) rest.earliest)) }
        pick false h =
            let same : c ≡ a = sym (leaves b c h) ∙ chosen in
            record {
              among = inr (subst (λ x. AtSome (λ y. y ≡ x) bs) same rest.among);
              earliest = (subst (λ x. IsNoLater x b) same (fails b c h).0, subst (λ x. Each (IsNoLater x) bs) same rest.earliest);
            }

-- The fault that is found is the fault.
pub fault_found : (m : FlatModel) (r : KindRule) (item : ℕ) → first_fault m ≡ Some (r, item) → IsFault m r item
fault_found m r item e = by (first_of (breaches m)) refl e
  where
    by : (o : Option Breach) → first_of (breaches m) ≡ o → elim o as (λ p. Option (KindRule × ℕ)) [ Some b ↦ Some (b.rule, b.item) | None ↦ size_breach (is_too_large m) ] ≡ Some (r, item) → IsFault m r item
    by (Some b) f g = let same : (b.rule, b.item) ≡ (r, item) = cc in at_an_item b (found_first (breaches m) b f) (sym (ap (λ (p : KindRule × ℕ). p.0) same)) (sym (ap (λ (p : KindRule × ℕ). p.1) same))
    by None f g = size (is_too_large m) refl g
      where
        size : (t : Bool) → is_too_large m ≡ t → size_breach t ≡ Some (r, item) → IsFault m r item
        size true h k = let same : (too_large, 0) ≡ (r, item) = cc in of_its_size (none_found (breaches m) f) h (sym (ap (λ (p : KindRule × ℕ). p.0) same)) (sym (ap (λ (p : KindRule × ℕ). p.1) same))
        size false h k = cc

pub none_is_typed : (m : FlatModel) → first_fault m ≡ None → IsTyped m
none_is_typed m e = by (first_of (breaches m)) refl e
  where
    by : (o : Option Breach) → first_of (breaches m) ≡ o → elim o as (λ p. Option (KindRule × ℕ)) [ Some b ↦ Some (b.rule, b.item) | None ↦ size_breach (is_too_large m) ] ≡ None → IsTyped m
    by (Some b) f g = cc
    by None f g = size (is_too_large m) refl g
      where
        size : (t : Bool) → is_too_large m ≡ t → size_breach t ≡ None → IsTyped m
        size true h k = cc
        size false h k = record { kept = none_found (breaches m) f; small = h }
