-- The first moments of two modes, and which comes first.
use Rattle.std.proofs.Common.{◌≡◌, ℕ, zero, suc, ◌<◌, ◌≤◌, Bool, true, false, ◌||◌, List, [], ◌∷◌, Some, None, refl, ap, ◌∙◌, sym, subst, arith, ◌⊎◌, inl, inr}
use Rattle.std.specs.Prelude.{slice_get, nat_lt, IsTrue, ◌↔◌}
use Rattle.std.proofs.lemmas.Bool.Decides.{leb_tells, nat_tests}
use Rattle.smv_language.specs.Language.{Value, opposite, FlatModel}
use Rattle.smv_flat_laws.specs.History.{Mode}
use Rattle.smv_flat_laws.specs.FlatTrace.{stands, stands_in_some}
use Rattle.fault_orders.specs.declared.Relation.{Relation}
use Rattle.fault_orders.specs.declared.Relation.TheVariants.{Before, After, Together}
use Rattle.fault_orders.specs.Relations.{BeginsAt}
use Rattle.fault_orders.specs.RelationValues.{begins_before}
use Rattle.fault_orders.specs.Laws.{Breaks}

-- what speaks against a claim
abbrev pub against_claim : Relation → Bool → Bool → Bool
against_claim Before a b = opposite a
against_claim After a b = opposite b
against_claim Together a b = a || b

module _ (m : FlatModel) where
  abbrev pub Stood : Mode → List Value → Type 0
  Stood f v = IsTrue (stands m f v)

  abbrev Begins : Mode → List (List Value) → ℕ → Type 0
  Begins f trace k = BeginsAt (List Value) (Stood f) trace k

  same_some : {A : Type 0} (a b : A) → Some a ≡ Some b → a ≡ b
  same_some a b e = cc

  -- a mode that stands somewhere begins somewhere
  pub begins_somewhere : (f : Mode) (vs : List (List Value)) → stands_in_some m f vs ≡ true → (k : ℕ) × Begins f vs k
  begins_somewhere f [] e = cc
  begins_somewhere f (v ∷ vs) e = by_test (stands m f v) refl (begins_somewhere f vs)
    where
      by_test : (b : Bool) → stands m f v ≡ b → (stands_in_some m f vs ≡ true → (k : ℕ) × Begins f vs k) → (k : ℕ) × Begins f (v ∷ vs) k
      by_test true is go = (0, record { moment = v; there = refl; holds = is; none_before = λ j other l there fact. absurd (omega arith) })
      by_test false is go =
          let rest : (k : ℕ) × Begins f vs k = go (subst (λ b. (b || stands_in_some m f vs) ≡ true) is e) in
          (suc rest.0, record { moment = rest.1.moment; there = rest.1.there; holds = rest.1.holds; none_before = none rest.0 rest.1 })
        where
          none : (k : ℕ) → Begins f vs k → (j : ℕ) (other : List Value) → j < suc k → slice_get (v ∷ vs) j ≡ Some other → Stood f other → ⊥
          none k b zero other l there fact = let same : v ≡ other = same_some v other there in let bad : true ≡ false = sym fact ∙ ap (λ x. stands m f x) (sym same) ∙ is in cc
          none k b (suc j) other l there fact = b.none_before j other (omega arith) there fact

  -- the first moments tell which begins before
  earlier : (f : Mode) (v : List Value) (vs : List (List Value)) (k : ℕ) → Begins f (v ∷ vs) (suc k) → Begins f vs k
  earlier f v vs k b = record { moment = b.moment; there = b.there; holds = b.holds; none_before = λ j other l there fact. b.none_before (suc j) other (omega arith) there fact }

  not_there : (f : Mode) (v : List Value) (vs : List (List Value)) (k : ℕ) → Begins f (v ∷ vs) (suc k) → stands m f v ≡ false
  not_there f v vs k b = by_test (stands m f v) (λ e. b.none_before 0 v (omega arith) refl e)
    where
      by_test : (t : Bool) → (t ≡ true → ⊥) → t ≡ false
      by_test true h = absurd (h refl)
      by_test false h = refl

  is_there : (f : Mode) (v : List Value) (vs : List (List Value)) → Begins f (v ∷ vs) 0 → stands m f v ≡ true
  is_there f v vs b = ap (λ x. stands m f x) (same_some v b.moment b.there) ∙ b.holds

  less_suc : (j k : ℕ) → nat_lt j k ≡ nat_lt (suc j) (suc k)
  less_suc j k = grind (arith, nat_tests)

  less_zero : (k : ℕ) → nat_lt k 0 ≡ false
  less_zero k = grind (arith, nat_tests)

  zero_less : (k : ℕ) → nat_lt 0 (suc k) ≡ true
  zero_less k = grind (arith, nat_tests)

  pub order_of : (f g : Mode) (vs : List (List Value)) (j k : ℕ) → Begins f vs j → Begins g vs k → begins_before m f g vs ≡ nat_lt j k
  order_of f g [] j k a b = let bad : None ≡ Some a.moment = a.there in cc
  order_of f g (v ∷ vs) zero zero a b = rw (is_there g v vs b) (sym (less_zero 0))
  order_of f g (v ∷ vs) (suc j) zero a b = rw (is_there g v vs b) (sym (less_zero (suc j)))
  order_of f g (v ∷ vs) zero (suc k) a b = rw (not_there g v vs k b, is_there f v vs a) (sym (zero_less k))
  order_of f g (v ∷ vs) (suc j) (suc k) a b = rw (not_there g v vs k b, not_there f v vs j a) (order_of f g vs j k (earlier f v vs j a) (earlier g v vs k b) ∙ less_suc j k)

  -- a mode begins once
  pub begins_once : (f : Mode) (vs : List (List Value)) (j k : ℕ) → Begins f vs j → Begins f vs k → j ≡ k
  begins_once f vs j k a b = by_order (leb_tells (suc j) k) (leb_tells (suc k) j)
    where
      by_order : ((nat_lt j k ≡ true) × (suc j ≤ k)) ⊎ ((nat_lt j k ≡ false) × (k < suc j)) → ((nat_lt k j ≡ true) × (suc k ≤ j)) ⊎ ((nat_lt k j ≡ false) × (j < suc k)) → j ≡ k
      by_order (inl x) y = absurd (b.none_before j a.moment (omega (arith, x.1)) a.there a.holds)
      by_order (inr x) (inl y) = absurd (a.none_before k b.moment (omega (arith, y.1)) b.there b.holds)
      by_order (inr x) (inr y) = omega (arith, x.1, y.1)

  pub breaks_iff : (f g : Mode) (r : Relation) (vs : List (List Value)) → stands_in_some m f vs ≡ true → stands_in_some m g vs ≡ true →
      (Breaks m f g (Some r) vs ↔ (against_claim r (begins_before m f g vs) (begins_before m g f vs) ≡ true))
  breaks_iff f g r vs some_f some_g =
      let a : (j : ℕ) × Begins f vs j = begins_somewhere f vs some_f in
      let b : (k : ℕ) × Begins g vs k = begins_somewhere g vs some_g in
      by_relation r a.0 b.0 a.1 b.1 (order_of f g vs a.0 b.0 a.1 b.1) (order_of g f vs b.0 a.0 b.1 a.1) (leb_tells (suc a.0) b.0) (leb_tells (suc b.0) a.0)
    where
      by_relation : (r : Relation) (j k : ℕ) → Begins f vs j → Begins g vs k → begins_before m f g vs ≡ nat_lt j k → begins_before m g f vs ≡ nat_lt k j →
          ((nat_lt j k ≡ true) × (suc j ≤ k)) ⊎ ((nat_lt j k ≡ false) × (k < suc j)) → ((nat_lt k j ≡ true) × (suc k ≤ j)) ⊎ ((nat_lt k j ≡ false) × (j < suc k)) →
          (Breaks m f g (Some r) vs ↔ (against_claim r (begins_before m f g vs) (begins_before m g f vs) ≡ true))
      by_relation Before j k a b e e' (inl x) y = ((λ h. absurd (h (j, k, a, b, x.1))), (λ h. let bad : false ≡ true = ap opposite (sym (e ∙ x.0)) ∙ h in cc))
      by_relation Before j k a b e e' (inr x) y = (
        (λ h. ap opposite (e ∙ x.0)),
        (λ h z. let p : z.0 ≡ j = begins_once f vs z.0 j z.2 a in let q : z.1 ≡ k = begins_once g vs z.1 k z.3 b in absurd (omega (arith, z.4, x.1))),
      )
      by_relation After j k a b e e' x (inl y) = ((λ h. absurd (h (j, k, a, b, y.1))), (λ h. let bad : false ≡ true = ap opposite (sym (e' ∙ y.0)) ∙ h in cc))
      by_relation After j k a b e e' x (inr y) = (
        (λ h. ap opposite (e' ∙ y.0)),
        (λ h z. let p : z.0 ≡ j = begins_once f vs z.0 j z.2 a in let q : z.1 ≡ k = begins_once g vs z.1 k z.3 b in absurd (omega (arith, z.4, y.1))),
      )
      by_relation Together j k a b e e' (inl x) y = (
        (λ h. rw (e ∙ x.0) refl),
        (λ h z. let p : z.0 ≡ j = begins_once f vs z.0 j z.2 a in let q : z.1 ≡ k = begins_once g vs z.1 k z.3 b in absurd (omega (arith, z.4, x.1))),
      )
      by_relation Together j k a b e e' (inr x) (inl y) = (
        (λ h. rw (e ∙ x.0, e' ∙ y.0) refl),
        (λ h z. let p : z.0 ≡ j = begins_once f vs z.0 j z.2 a in let q : z.1 ≡ k = begins_once g vs z.1 k z.3 b in absurd (omega (arith, z.4, y.1))),
      )
      by_relation Together j k a b e e' (inr x) (inr y) = (
        (λ h. absurd (h (j, k, a, b, omega (arith, x.1, y.1)))),
        (λ h. let bad : false ≡ true = sym (both (begins_before m f g vs) (begins_before m g f vs) (e ∙ x.0) (e' ∙ y.0)) ∙ h in cc),
      )
        where
          both : (p q : Bool) → p ≡ false → q ≡ false → (p || q) ≡ false
          both p q e g = rw (e, g) refl
