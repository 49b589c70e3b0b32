-- The order of definitions, where none needs itself: each stands once, and after all that it names.
use Rattle.std.proofs.Common.{◌≡◌, ℕ, zero, suc, ◌<◌, Bool, true, false, ◌||◌, List, [], ◌∷◌, ◌++◌, Option, Some, None, refl, sym, ◌∙◌, ap, subst, arith, inl, inr}
use Rattle.std.specs.Prelude.{◌⊎◌, slice_get}
use Rattle.smv_language.specs.Language.{Path, Formula, ProgramTree, Place, Key, Meaning, a_variable_at, an_expression_at, an_instance_at, Means, AtSome}
use Rattle.smv_language.specs.Scope.{a_symbol}
use Rattle.smv_flat_laws.specs.NameResolution.{leaves_in}
use Rattle.smv_flat_laws.specs.Rules.{Needs, Leads, NeedsItself, expression_of}
use Rattle.smv_flat_laws.specs.Model.{keys_of_meaning, AreNamed, same_key, is_key_among, Adds, AddsAll, stands, comes, no_more, one_more}
use Rattle.smv_flat_laws.proofs.Resolving.{same_meaning}
use Rattle.smv_flat_laws.proofs.Listed.{key_equal}
use Rattle.std.proofs.lemmas.Bool.{or_right as or_true, or_left}
use Rattle.smv_language.proofs.BoolLaws.{or_cases}
use Rattle.smv_flat_laws.proofs.Numbered.{same_key_refl}

pub among_left : (xs ys : List Key) (k : Key) → is_key_among xs k ≡ true → is_key_among (xs ++ ys) k ≡ true
among_left [] ys k h = cc
among_left (x ∷ xs) ys k h = by_cases (or_cases (same_key x k) (is_key_among xs k) h) (λ e. among_left xs ys k e)
  where
    by_cases : (same_key x k ≡ true) ⊎ (is_key_among xs k ≡ true) → (is_key_among xs k ≡ true → is_key_among (xs ++ ys) k ≡ true) → (same_key x k || is_key_among (xs ++ ys) k) ≡ true
    by_cases (inl e) rest = or_left (same_key x k) (is_key_among (xs ++ ys) k) e
    by_cases (inr e) rest = or_true (same_key x k) (is_key_among (xs ++ ys) k) (rest e)

pub among_last : (xs : List Key) (k : Key) → is_key_among (xs ++ k ∷ []) k ≡ true
among_last [] k = or_left (same_key k k) false (same_key_refl k)
among_last (x ∷ xs) k = or_true (same_key x k) (is_key_among (xs ++ k ∷ []) k) (among_last xs k)

pub among_push : (xs : List Key) (j k : Key) → is_key_among (xs ++ j ∷ []) k ≡ true → (is_key_among xs k ≡ true) ⊎ (j ≡ k)
among_push [] j k h = by_cases (or_cases (same_key j k) false h)
  where
    by_cases : (same_key j k ≡ true) ⊎ (false ≡ true) → (false ≡ true) ⊎ (j ≡ k)
    by_cases (inl e) = inr (key_equal j k e)
    by_cases (inr e) = cc
among_push (x ∷ xs) j k h = by_cases (or_cases (same_key x k) (is_key_among (xs ++ j ∷ []) k) h) (λ e. among_push xs j k e)
  where
    by_rest : (is_key_among xs k ≡ true) ⊎ (j ≡ k) → ((same_key x k || is_key_among xs k) ≡ true) ⊎ (j ≡ k)
    by_rest (inl e) = inl (or_true (same_key x k) (is_key_among xs k) e)
    by_rest (inr e) = inr e

    by_cases : (same_key x k ≡ true) ⊎ (is_key_among (xs ++ j ∷ []) k ≡ true) → (is_key_among (xs ++ j ∷ []) k ≡ true → (is_key_among xs k ≡ true) ⊎ (j ≡ k)) →
        ((same_key x k || is_key_among xs k) ≡ true) ⊎ (j ≡ k)
    by_cases (inl e) rest = inl (or_left (same_key x k) (is_key_among xs k) e)
    by_cases (inr e) rest = by_rest (rest e)

not_among : (xs : List Key) (k : Key) → (is_key_among xs k ≡ true → ⊥) → is_key_among xs k ≡ false
not_among xs k h = by_test (is_key_among xs k) refl
  where
    by_test : (b : Bool) → is_key_among xs k ≡ b → is_key_among xs k ≡ false
    by_test true e = absurd (h e)
    by_test false e = e

module _ (p : ProgramTree) where
  -- what a definition needs stands before
  abbrev pub After : List Key → Key → Type 0
  After before k = (other : Key) → Needs p k other → is_key_among before other ≡ true

  -- each key stands after those that it needs, and for the first time
  abbrev pub AllAfter : List Key → List Key → Type 0
  AllAfter before [] = Unit {0}
  AllAfter before (k ∷ ks) = After before k × (is_key_among before k ≡ false) × AllAfter (before ++ k ∷ []) ks

  joined : (before : List Key) (k : Key) (ks : List Key) → (before ++ k ∷ []) ++ ks ≡ before ++ k ∷ ks
  joined [] k ks = refl
  joined (x ∷ before) k ks = ap (λ ys. x ∷ ys) (joined before k ks)

  push_after : (before ks : List Key) (k : Key) → AllAfter before ks → After (before ++ ks) k → is_key_among (before ++ ks) k ≡ false → AllAfter before (ks ++ k ∷ [])
  push_after before [] k h after fresh =
      (subst (λ b. After b k) (nil before) after, subst (λ b. is_key_among b k ≡ false) (nil before) fresh, tt)
    where
      nil : (xs : List Key) → xs ++ [] ≡ xs
      nil [] = refl
      nil (x ∷ xs) = ap (λ ys. x ∷ ys) (nil xs)
  push_after before (j ∷ ks) k h after fresh =
      (h.0, h.1, push_after (before ++ j ∷ []) ks k h.2 (subst (λ b. After b k) (sym (joined before j ks)) after) (subst (λ b. is_key_among b k ≡ false) (sym (joined before j ks)) fresh))

  -- the keys that are named are those that are needed
  abbrev Naming : Place → Key → Path → Type 0
  Naming at other name = (bt : Place) × (e : Formula) × Means p at name (an_expression_at other bt e)

  named_only : (at : Place) (name : Path) (meaning : Meaning) (more : List Key) (other : Key) → Means p at name meaning →
      is_key_among (keys_of_meaning meaning ++ more) other ≡ true → (Naming at other name) ⊎ (is_key_among more other ≡ true)
  named_only at name (a_variable_at bt x) more other means h = inr h
  named_only at name (an_instance_at bt) more other means h = inr h
  named_only at name (a_symbol x) more other means h = inr h
  named_only at name (an_expression_at key bt e) more other means h = by_cases (or_cases (same_key key other) (is_key_among more other) h)
    where
      by_cases : (same_key key other ≡ true) ⊎ (is_key_among more other ≡ true) → (Naming at other name) ⊎ (is_key_among more other ≡ true)
      by_cases (inl same) = inl (bt, e, subst (λ k. Means p at name (an_expression_at k bt e)) (key_equal key other same) means)
      by_cases (inr later) = inr later

  named_back : (at : Place) (names : List Path) (keys : List Key) (other : Key) → AreNamed p at names keys → is_key_among keys other ≡ true → AtSome (Naming at other) names
  named_back at [] keys other are h = let bad : is_key_among [] other ≡ true = subst (λ ks. is_key_among ks other ≡ true) are h in cc
  named_back at (name ∷ names) keys other are h =
      by_cases (named_only at name are.0 are.1 other are.2 (subst (λ ks. is_key_among ks other ≡ true) are.4 h)) (named_back at names are.1 other are.3)
    where
      by_cases : (Naming at other name) ⊎ (is_key_among are.1 other ≡ true) → (is_key_among are.1 other ≡ true → AtSome (Naming at other) names) → AtSome (Naming at other) (name ∷ names)
      by_cases (inl here) rest = inl here
      by_cases (inr later) rest = inr (rest later)

  keys_right : (ks : List Key) (more : List Key) (other : Key) → is_key_among more other ≡ true → is_key_among (ks ++ more) other ≡ true
  keys_right [] more other h = h
  keys_right (k ∷ ks) more other h = or_true (same_key k other) (is_key_among (ks ++ more) other) (keys_right ks more other h)

  named_all : (at : Place) (names : List Path) (keys : List Key) (other : Key) → AreNamed p at names keys → AtSome (Naming at other) names → is_key_among keys other ≡ true
  named_all at [] keys other are h = absurd h
  named_all at (name ∷ names) keys other are (inl here) =
      let same : are.0 ≡ an_expression_at other here.0 here.1 = same_meaning are.2.0 here.2.0 p at name are.0 (an_expression_at other here.0 here.1) are.2.1 here.2.1 in
      subst (λ ks. is_key_among ks other ≡ true) (sym are.4)
      (subst (λ m. is_key_among (keys_of_meaning m ++ are.1) other ≡ true) (sym same) (or_left (same_key other other) (is_key_among are.1 other) (same_key_refl other)))
  named_all at (name ∷ names) keys other are (inr later) =
      subst (λ ks. is_key_among ks other ≡ true) (sym are.4) (keys_right (keys_of_meaning are.0) are.1 other (named_all at names are.1 other are.3 later))

  abbrev first_or : Place → Option (Place × Formula) → Place
  first_or other None = other
  first_or other (Some x) = x.0

  abbrev second_or : Formula → Option (Place × Formula) → Formula
  second_or other None = other
  second_or other (Some x) = x.1

  one_expression : (k : Key) (at bt : Place) (e f : Formula) → expression_of p k ≡ Some (at, e) → expression_of p k ≡ Some (bt, f) → (at ≡ bt) × (e ≡ f)
  one_expression k at bt e f g h = let both : Some (at, e) ≡ Some (bt, f) = sym g ∙ h in (ap (first_or at) both, ap (second_or e) both)

  -- leads from one of some keys
  abbrev Led : List Key → Key → Type 0
  Led ks j = (k : Key) × (n : ℕ) × (is_key_among ks k ≡ true) × Leads p n k j

  -- what adding does to a list whose keys stand after those that they need
  pub record Grown (done : List Key) (keys : List Key) (after : List Key) : Type 0 where
    pub good : AllAfter [] after
    pub kept : (j : Key) → is_key_among done j ≡ true → is_key_among after j ≡ true
    pub there : (j : Key) → is_key_among keys j ≡ true → is_key_among after j ≡ true
    pub led : (j : Key) → is_key_among after j ≡ true → (is_key_among done j ≡ true) ⊎ Led keys j

  module _ (Ok : Key → Type 0) (ok_needs : (k other : Key) → Ok k → Needs p k other → Ok other) (free : (k : Key) → Ok k → NeedsItself p k → ⊥) where
    one_key : (j k : Key) → is_key_among (k ∷ []) j ≡ true → k ≡ j
    one_key j k h = by_cases (or_cases (same_key k j) false h)
      where
        by_cases : (same_key k j ≡ true) ⊎ (false ≡ true) → k ≡ j
        by_cases (inl e) = key_equal k j e
        by_cases (inr e) = cc

    key_here : (k : Key) → is_key_among (k ∷ []) k ≡ true
    key_here k = or_left (same_key k k) false (same_key_refl k)

    circle : (done needs : List Key) (k : Key) → Ok k → is_key_among done k ≡ false → ((other : Key) → is_key_among needs other ≡ true → Needs p k other) →
        (is_key_among done k ≡ true) ⊎ Led needs k → ⊥
    circle done needs k ok fresh needs_one (inl h) = let bad : true ≡ false = sym h ∙ fresh in cc
    circle done needs k ok fresh needs_one (inr l) = free k ok (l.1, (l.0, needs_one l.0 l.2, l.3))

    led_push : (done needs after : List Key) (k j : Key) → ((i : Key) → is_key_among after i ≡ true → (is_key_among done i ≡ true) ⊎ Led needs i) →
        ((other : Key) → is_key_among needs other ≡ true → Needs p k other) → (is_key_among after j ≡ true) ⊎ (k ≡ j) → (is_key_among done j ≡ true) ⊎ Led (k ∷ []) j
    led_push done needs after k j led needs_one (inl h) = by_led (led j h)
      where
        by_led : (is_key_among done j ≡ true) ⊎ Led needs j → (is_key_among done j ≡ true) ⊎ Led (k ∷ []) j
        by_led (inl e) = inl e
        by_led (inr l) = inr (k, suc l.1, key_here k, (l.0, needs_one l.0 l.2, l.3))
    led_push done needs after k j led needs_one (inr same) = inr (k, zero, key_here k, sym same)

    there_both : (k : Key) (more between after : List Key) (j : Key) → ((i : Key) → is_key_among (k ∷ []) i ≡ true → is_key_among between i ≡ true) →
        ((i : Key) → is_key_among between i ≡ true → is_key_among after i ≡ true) → ((i : Key) → is_key_among more i ≡ true → is_key_among after i ≡ true) →
        (same_key k j ≡ true) ⊎ (is_key_among more j ≡ true) → is_key_among after j ≡ true
    there_both k more between after j one kept rest (inl e) = kept j (one j (or_left (same_key k j) false e))
    there_both k more between after j one kept rest (inr e) = rest j e

    led_both : (done between : List Key) (k : Key) (more : List Key) (j : Key) → ((i : Key) → is_key_among between i ≡ true → (is_key_among done i ≡ true) ⊎ Led (k ∷ []) i) →
        (is_key_among between j ≡ true) ⊎ Led more j → (is_key_among done j ≡ true) ⊎ Led (k ∷ more) j
    led_both done between k more j one (inl h) = by_one (one j h)
      where
        by_one : (is_key_among done j ≡ true) ⊎ Led (k ∷ []) j → (is_key_among done j ≡ true) ⊎ Led (k ∷ more) j
        by_one (inl e) = inl e
        by_one (inr l) = inr (l.0, l.1, among_left (k ∷ []) more l.0 l.2, l.3)
    led_both done between k more j one (inr l) = inr (l.0, l.1, or_true (same_key k l.0) (is_key_among more l.0) l.2, l.3)

    mutual
      add_grows : {done after : List Key} {k : Key} → Adds p done k after → Ok k → AllAfter [] done → Grown done (k ∷ []) after
      add_grows {done = done} {k = k} (stands among) ok good = record {
        good = good;
        kept = λ j h. h;
        there = λ j h. subst (λ i. is_key_among done i ≡ true) (one_key j k h) among;
        led = λ j h. inl h;
      }
      add_grows {done = done} {k = k} (comes {after = after} {needs = needs} {at = at} {e = e} fresh is named all) ok good =
          let needed : (other : Key) → Needs p k other → is_key_among needs other ≡ true =
          (λ other n. let same : (n.place ≡ at) × (n.written ≡ e) = one_expression k n.place at n.written e n.is is in
          named_all at (leaves_in e) needs other named
          (subst (λ bt. AtSome (Naming bt other) (leaves_in e)) same.0 (subst (λ f. AtSome (Naming n.place other) (leaves_in f)) same.1 n.named))) in
          let needs_one : (other : Key) → is_key_among needs other ≡ true → Needs p k other =
          (λ other h. record { place = at; written = e; is = is; named = named_back at (leaves_in e) needs other named h }) in
          let g : Grown done needs after = all_grow all (λ other h. ok_needs k other ok (needs_one other h)) good in
          let not_yet : is_key_among after k ≡ false = not_among after k (λ h. circle done needs k ok fresh needs_one (g.led k h)) in
          record {
            good = push_after [] after k g.good (λ other n. g.there other (needed other n)) not_yet;
            kept = λ j h. among_left after (k ∷ []) j (g.kept j h);
            there = λ j h. subst (λ i. is_key_among (after ++ k ∷ []) i ≡ true) (one_key j k h) (among_last after k);
            led = λ j h. led_push done needs after k j g.led needs_one (among_push after k j h);
          }

      all_grow : {done after keys : List Key} → AddsAll p done keys after → ((k : Key) → is_key_among keys k ≡ true → Ok k) → AllAfter [] done → Grown done keys after
      all_grow {done = done} no_more oks good = record { good = good; kept = λ j h. h; there = λ j h. cc; led = λ j h. inl h }
      all_grow {done = done} {after = after} (one_more {between = between} {more = more} {k = k} one rest) oks good =
          let g : Grown done (k ∷ []) between = add_grows one (oks k (or_left (same_key k k) (is_key_among more k) (same_key_refl k))) good in
          let m : Grown between more after = all_grow rest (λ j h. oks j (or_true (same_key k j) (is_key_among more j) h)) g.good in
          record {
            good = m.good;
            kept = λ j h. m.kept j (g.kept j h);
            there = λ j h. there_both k more between after j g.there m.kept m.there (or_cases (same_key k j) (is_key_among more j) h);
            led = λ j h. led_both done between k more j g.led (m.led j h);
          }

    pub ordered_after : (keys ordered : List Key) → ((k : Key) → is_key_among keys k ≡ true → Ok k) → AddsAll p [] keys ordered → AllAfter [] ordered
    ordered_after keys ordered oks all = (all_grow all oks tt).good

  -- what a definition needs stands at an earlier place
  pub needs_before : (before ks : List Key) (j : ℕ) (k other : Key) → AllAfter before ks → slice_get ks j ≡ Some k → Needs p k other →
      (is_key_among before other ≡ true) ⊎ ((i : ℕ) × (i < j) × (slice_get ks i ≡ Some other))
  needs_before before [] j k other h e n = cc
  needs_before before (x ∷ ks) zero k other h e n = let same : x ≡ k = cc in inl (subst (After before) same h.0 other n)
  needs_before before (x ∷ ks) (suc j) k other h e n = by_cases (needs_before (before ++ x ∷ []) ks j k other h.2 e n)
    where
      by_push : (is_key_among before other ≡ true) ⊎ (x ≡ other) → (is_key_among before other ≡ true) ⊎ ((i : ℕ) × (i < suc j) × (slice_get (x ∷ ks) i ≡ Some other))
      by_push (inl a) = inl a
      by_push (inr same) = inr (0, omega arith, ap Some same)

      by_cases : (is_key_among (before ++ x ∷ []) other ≡ true) ⊎ ((i : ℕ) × (i < j) × (slice_get ks i ≡ Some other)) →
          (is_key_among before other ≡ true) ⊎ ((i : ℕ) × (i < suc j) × (slice_get (x ∷ ks) i ≡ Some other))
      by_cases (inl a) = by_push (among_push before x other a)
      by_cases (inr r) = let less : r.0 < j = r.1 in inr (suc r.0, omega (arith, less), r.2)

  -- no key stands twice
  fresh_at : (before ks : List Key) (j : ℕ) (k : Key) → AllAfter before ks → slice_get ks j ≡ Some k → is_key_among before k ≡ false
  fresh_at before [] j k h e = cc
  fresh_at before (x ∷ ks) zero k h e = let same : x ≡ k = cc in subst (λ i. is_key_among before i ≡ false) same h.1
  fresh_at before (x ∷ ks) (suc j) k h e = not_among before k (λ a.
      let bad : true ≡ false = sym (among_left before (x ∷ []) k a) ∙ fresh_at (before ++ x ∷ []) ks j k h.2 e in cc)

  pub one_place : (before ks : List Key) (i j : ℕ) (k : Key) → AllAfter before ks → slice_get ks i ≡ Some k → slice_get ks j ≡ Some k → i ≡ j
  one_place before [] i j k h e f = cc
  one_place before (x ∷ ks) zero zero k h e f = refl
  one_place before (x ∷ ks) zero (suc j) k h e f = absurd (again before ks j x k h.2 e f)
    where
      again : (before ks : List Key) (j : ℕ) (x k : Key) → AllAfter (before ++ x ∷ []) ks → Some x ≡ Some k → slice_get ks j ≡ Some k → ⊥
      again before ks j x k h e f =
          let same : x ≡ k = cc in
          let bad : true ≡ false = sym (subst (λ i. is_key_among (before ++ x ∷ []) i ≡ true) same (among_last before x)) ∙ fresh_at (before ++ x ∷ []) ks j k h f in cc
  one_place before (x ∷ ks) (suc i) zero k h e f = absurd (again before ks i x k h.2 f e)
    where
      again : (before ks : List Key) (j : ℕ) (x k : Key) → AllAfter (before ++ x ∷ []) ks → Some x ≡ Some k → slice_get ks j ≡ Some k → ⊥
      again before ks j x k h e f =
          let same : x ≡ k = cc in
          let bad : true ≡ false = sym (subst (λ i. is_key_among (before ++ x ∷ []) i ≡ true) same (among_last before x)) ∙ fresh_at (before ++ x ∷ []) ks j k h f in cc
  one_place before (x ∷ ks) (suc i) (suc j) k h e f = ap suc (one_place (before ++ x ∷ []) ks i j k h.2 e f)
