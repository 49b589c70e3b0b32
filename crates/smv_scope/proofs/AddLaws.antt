-- An order that is laid by numbers is the order of keys that a program asks for.
use Rattle.std.proofs.Common.{◌≡◌, ℕ, suc, ◌+◌, arith, Bool, true, false, ◌||◌, List, [], ◌∷◌, ◌++◌, length, map, Some, refl, ap, ◌∙◌, sym, subst, ◌⊎◌, inl, inr}
use Rattle.std.proofs.lemmas.List.{map-append}
use Rattle.std.specs.Prelude.{slice_get}
use Rattle.smv_language.specs.Language.{ProgramTree, Key, EachBoth}
use Rattle.smv_flat_laws.specs.Rules.{IsWalkable, expression_of}
use Rattle.smv_flat_laws.specs.Model as model
use Rattle.smv_flat_laws.specs.Model.{Adds, AddsAll, same_key, is_key_among}
use Rattle.smv_scope.specs.NeedsTree.{keys_of, IsKeyAt, AreMeant}
use Rattle.smv_scope.specs.Links.{Graph, Has}
use Rattle.smv_scope.specs.DefinitionOrder.{upto, upto_from, Lays, stands, comes, LaysAll, no_more, one_more}
use Rattle.smv_scope.proofs.LinkLaws.{has_either}
use Rattle.smv_scope.proofs.KeyLaws.{key_at, key_is}
use Rattle.smv_scope.proofs.RootLaws.{keys_once}
use Rattle.smv_scope.proofs.NeedLaws.{IsLinked}
use Rattle.smv_flat_laws.proofs.Listed.{key_equal as same_key_equal}
use Rattle.smv_flat_laws.proofs.Numbered.{same_key_refl}

-- the keys of all numbers are all keys
all_keys : {A : Type 0} (f : ℕ → A) (from : ℕ) (xs : List A) → ((k : ℕ) (x : A) → slice_get xs k ≡ Some x → f (from + k) ≡ x) → map f (upto_from from (length xs)) ≡ xs
all_keys f from [] each = refl
all_keys f from (x ∷ xs) each =
    ap (λ y. y ∷ map f (upto_from (suc from) (length xs))) (ap f none ∙ each 0 x refl)
    ∙ ap (λ ys. x ∷ ys) (all_keys f (suc from) xs (λ k y e. ap f (next k) ∙ each (suc k) y e))
  where
    none : from ≡ from + 0
    none = omega arith

    next : (k : ℕ) → suc from + k ≡ from + suc k
    next k = omega arith

pub keys_upto : (keys : List Key) → map (key_at keys) (upto (length keys)) ≡ keys
keys_upto keys = all_keys (key_at keys) 0 keys (λ k key e. ap (key_at keys) (from_zero k) ∙ key_is keys k key e)
  where
    from_zero : (k : ℕ) → 0 + k ≡ k
    from_zero k = omega arith

-- all numbers have keys
abbrev pub AreKeyed : ProgramTree → List ℕ → Type 0
AreKeyed p xs = (k : ℕ) → Has xs k → (key : Key) × IsKeyAt p k key

pub keyed_each : (p : ProgramTree) (xs : List ℕ) → AreKeyed p xs → EachBoth (IsKeyAt p) xs (map (key_at (keys_of p)) xs)
keyed_each p [] keyed = tt
keyed_each p (x ∷ xs) keyed = (own (keyed x (inl refl)), keyed_each p xs (λ k h. keyed k (inr h)))
  where
    own : (key : Key) × IsKeyAt p x key → IsKeyAt p x (key_at (keys_of p) x)
    own (key, e) = e ∙ ap Some (sym (key_is (keys_of p) x key e))

key_among : (keys : List Key) (ks : List ℕ) (k : ℕ) → Has ks k → is_key_among (map (key_at keys) ks) (key_at keys k) ≡ true
key_among keys [] k h = absurd h
key_among keys (j ∷ ks) k (inl e) =
    ap (λ b. b || is_key_among (map (key_at keys) ks) (key_at keys k)) (ap (λ i. same_key (key_at keys j) (key_at keys i)) (sym e) ∙ same_key_refl (key_at keys j))
key_among keys (j ∷ ks) k (inr h) = ap (λ b. same_key (key_at keys j) (key_at keys k) || b) (key_among keys ks k h) ∙ or_true (same_key (key_at keys j) (key_at keys k))
  where
    or_true : (a : Bool) → (a || true) ≡ true
    or_true true = refl
    or_true false = refl

module _ (p : ProgramTree) (walkable : IsWalkable p) where
  not_among : (ks : List ℕ) (k : ℕ) (key : Key) → AreKeyed p ks → IsKeyAt p k key → (Has ks k → ⊥) → is_key_among (map (key_at (keys_of p)) ks) (key_at (keys_of p) k) ≡ false
  not_among [] k key keyed is_k out = refl
  not_among (j ∷ ks) k key keyed is_k out =
      by_test (same_key (key_at (keys_of p) j) (key_at (keys_of p) k)) refl (not_among ks k key (λ i h. keyed i (inr h)) is_k (λ h. out (inr h)))
    where
      same_number : (other : Key) × IsKeyAt p j other → key_at (keys_of p) j ≡ key_at (keys_of p) k → j ≡ k
      same_number (other, is_j) e =
          keys_once p walkable j k key (is_j ∙ ap Some (sym (key_is (keys_of p) j other is_j) ∙ e ∙ key_is (keys_of p) k key is_k)) is_k

      by_test : (b : Bool) → same_key (key_at (keys_of p) j) (key_at (keys_of p) k) ≡ b → is_key_among (map (key_at (keys_of p)) ks) (key_at (keys_of p) k) ≡ false →
          (same_key (key_at (keys_of p) j) (key_at (keys_of p) k) || is_key_among (map (key_at (keys_of p)) ks) (key_at (keys_of p) k)) ≡ false
      by_test true t rest = absurd (out (inl (same_number (keyed j (inl refl)) (same_key_equal (key_at (keys_of p) j) (key_at (keys_of p) k) t))))
      by_test false t rest = rw t rest

  module _ (g : Graph) (inputs : List ℕ) (all : (k : ℕ) (key : Key) → IsKeyAt p k key → IsLinked p g inputs k key) (meant : AreMeant p) where
    abbrev keys_for : List ℕ → List Key
    keys_for ks = map (key_at (keys_of p)) ks

    -- a number that comes after those that it is linked to
    comes_by : (done mid : List ℕ) (k : ℕ) → AreKeyed p done → (key : Key) × IsKeyAt p k key → (Has done k → ⊥) → AddsAll p (keys_for done) (keys_for (g k)) (keys_for mid) →
        Adds p (keys_for done) (key_at (keys_of p) k) (keys_for (mid ++ k ∷ []))
    comes_by done mid k keyed (key, is_k) out adds =
        subst (λ ks. Adds p (keys_for done) (key_at (keys_of p) k) ks) (sym (map-append (key_at (keys_of p)) mid (k ∷ [])))
        (model.comes (not_among done k key keyed is_k out) (ap (expression_of p) (key_is (keys_of p) k key is_k) ∙ linked.is)
        (linked.named (meant k key linked.place linked.written is_k linked.is)) adds)
      where
        linked : IsLinked p g inputs k key
        linked = all k key is_k

    links_keyed : (k : ℕ) → (key : Key) × IsKeyAt p k key → AreKeyed p (g k)
    links_keyed k (key, is_k) j h = (all k key is_k).keyed j h

    keyed_end : (mid : List ℕ) (k : ℕ) → AreKeyed p mid → (key : Key) × IsKeyAt p k key → AreKeyed p (mid ++ k ∷ [])
    keyed_end mid k keyed own j h = by_side (has_either mid (k ∷ []) j h)
      where
        by_side : Has mid j ⊎ Has (k ∷ []) j → (key : Key) × IsKeyAt p j key
        by_side (inl a) = keyed j a
        by_side (inr (inl e)) = subst (λ i. (key : Key) × IsKeyAt p i key) e own
        by_side (inr (inr a)) = absurd a

    mutual
      adds : (done after : List ℕ) (k : ℕ) → AreKeyed p done → (key : Key) × IsKeyAt p k key → Lays g done k after →
          Adds p (keys_for done) (key_at (keys_of p) k) (keys_for after) × AreKeyed p after
      adds done after k keyed own (stands h) = (model.stands (key_among (keys_of p) done k h), keyed)
      adds done after k keyed own (comes {after = mid} out lays) =
          let m : AddsAll p (keys_for done) (keys_for (g k)) (keys_for mid) × AreKeyed p mid = adds_all done mid (g k) keyed (links_keyed k own) lays in
          (comes_by done mid k keyed own out m.0, keyed_end mid k m.1 own)

      adds_all : (done after ks : List ℕ) → AreKeyed p done → AreKeyed p ks → LaysAll g done ks after → AddsAll p (keys_for done) (keys_for ks) (keys_for after) × AreKeyed p after
      adds_all done after ks keyed own no_more = (model.no_more, keyed)
      adds_all done after ks keyed own (one_more {between = between} {more = more} {k = k} lays rest) =
          let a : Adds p (keys_for done) (key_at (keys_of p) k) (keys_for between) × AreKeyed p between = adds done between k keyed (own k (inl refl)) lays in
          let b : AddsAll p (keys_for between) (keys_for more) (keys_for after) × AreKeyed p after = adds_all between after more a.1 (λ j h. own j (inr h)) rest in
          (model.one_more a.0 b.0, b.1)

    pub adds_from : (ks order : List ℕ) → AreKeyed p ks → LaysAll g [] ks order → AddsAll p [] (keys_for ks) (keys_for order) × AreKeyed p order
    adds_from ks order keyed lays = adds_all [] order ks (λ k h. absurd h) keyed lays
