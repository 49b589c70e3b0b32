-- Faults with their numbers, one on, the symbols by their texts, and the place of a variable, one on.
use Rattle.std.proofs.Common.{inl, inr, ◌≡◌, ℕ, Bool, true, false, List, [], ◌∷◌, ◌++◌, Some, None, refl, sym, ◌∙◌, ap, subst, nat_eq}
use Rattle.std.specs.Prelude.{slice_get, cond, if◌then◌else◌, IfSome}
use Rattle.std.specs.Cmp.Lexicographic.{pointwise}
use Rattle.std.specs.Map.{lookup}
use Rattle.indexmap.specs.IndexMap.{insert_entry}
use Rattle.smv_language.specs.Language.{Text, Each, AtSome}
use Rattle.smv_language.proofs.ValueLaws.{both_true}
use Rattle.smv_language.specs.declared.model.FlatModel.{FlatModel}
use Rattle.smv_language.specs.declared.model.Fault.{Fault}
use Rattle.fault_extend.specs.declared.faults.WovenFault.{WovenFault}
use Rattle.fault_extend.specs.NumberedFaults.{IsNumbered, AreNumbered}
use borrow.Author.Tests.{eqb-true, eq-eqb}

pub numbered_push : (m : FlatModel) (ws : List WovenFault) (fs : List Fault) (w : WovenFault) (f : Fault) → AreNumbered m ws fs → IsNumbered m w f → AreNumbered m (ws ++ w ∷ []) (fs ++ f ∷ [])
numbered_push m [] [] w f h n = (n, tt)
numbered_push m [] (g ∷ fs) w f h n = absurd h
numbered_push m (x ∷ ws) [] w f h n = absurd h
numbered_push m (x ∷ ws) (g ∷ fs) w f h n = (h.0, numbered_push m ws fs w f h.1 n)

pub same_bytes : (x y : Text) → pointwise nat_eq x y ≡ true → x ≡ y
same_bytes [] [] h = refl
same_bytes [] (d ∷ ds) h = cc
same_bytes (c ∷ cs) [] h = cc
same_bytes (c ∷ cs) (d ∷ ds) h =
    let parts : (nat_eq c d ≡ true) × (pointwise nat_eq cs ds ≡ true) = both_true (nat_eq c d) (pointwise nat_eq cs ds) h in
    let first : c ≡ d = eqb-true c d parts.0 in
    let rest : cs ≡ ds = same_bytes cs ds parts.1 in cc

pub bytes_same : (x : Text) → pointwise nat_eq x x ≡ true
bytes_same [] = refl
bytes_same (c ∷ cs) = rw (eq-eqb c c refl, bytes_same cs) refl

module _ {K : Type 0} (text : K → Text) (names : List Text) where
  abbrev Right : K × ℕ → Type 0
  Right e = slice_get names e.1 ≡ Some (text e.0)

  pub right_put : (es : List (K × ℕ)) (k : K) (n : ℕ) → Each Right es → slice_get names n ≡ Some (text k) → Each Right (insert_entry (λ i j. pointwise nat_eq (text i) (text j)) es k n)
  right_put [] k n h r = (r, tt)
  right_put (e ∷ es) k n h r = go (pointwise nat_eq (text k) (text e.0)) (same_bytes (text k) (text e.0)) (right_put es k n h.1 r)
    where
      go : (b : Bool) → (b ≡ true → text k ≡ text e.0) → Each Right (insert_entry (λ i j. pointwise nat_eq (text i) (text j)) es k n) →
          Each Right (if b then (e.0, n) ∷ es else e ∷ insert_entry (λ i j. pointwise nat_eq (text i) (text j)) es k n)
      go true same more = (r ∙ ap Some (same refl), h.1)
      go false same more = (h.0, more)

  pub right_found : (es : List (K × ℕ)) (x : Text) → Each Right es → IfSome (lookup (λ k. pointwise nat_eq x (text k)) es) (λ n. slice_get names n ≡ Some x)
  right_found [] x h = tt
  right_found (e ∷ es) x h = go (pointwise nat_eq x (text e.0)) (same_bytes x (text e.0)) (right_found es x h.1)
    where
      go : (b : Bool) → (b ≡ true → x ≡ text e.0) → IfSome (lookup (λ k. pointwise nat_eq x (text k)) es) (λ n. slice_get names n ≡ Some x) →
          IfSome (cond b (Some e.1) (lookup (λ k. pointwise nat_eq x (text k)) es)) (λ n. slice_get names n ≡ Some x)
      go true same more = h.0 ∙ ap Some (sym (same refl))
      go false same more = more

  abbrev IsKey : Text → K × ℕ → Type 0
  IsKey x e = text e.0 ≡ x

  -- a text that is there stays, and that of the key that is put is there
  pub known_kept : (es : List (K × ℕ)) (k : K) (n : ℕ) (x : Text) → AtSome (IsKey x) es → AtSome (IsKey x) (insert_entry (λ i j. pointwise nat_eq (text i) (text j)) es k n)
  known_kept [] k n x h = absurd h
  known_kept (e ∷ es) k n x h = go (pointwise nat_eq (text k) (text e.0)) h (known_kept es k n x)
    where
      go : (b : Bool) → AtSome (IsKey x) (e ∷ es) → (AtSome (IsKey x) es → AtSome (IsKey x) (insert_entry (λ i j. pointwise nat_eq (text i) (text j)) es k n)) →
          AtSome (IsKey x) (if b then (e.0, n) ∷ es else e ∷ insert_entry (λ i j. pointwise nat_eq (text i) (text j)) es k n)
      go true (inl same) more = inl same
      go true (inr rest) more = inr rest
      go false (inl same) more = inl same
      go false (inr rest) more = inr (more rest)

  pub known_put : (es : List (K × ℕ)) (k : K) (n : ℕ) → AtSome (IsKey (text k)) (insert_entry (λ i j. pointwise nat_eq (text i) (text j)) es k n)
  known_put [] k n = inl refl
  known_put (e ∷ es) k n = go (pointwise nat_eq (text k) (text e.0)) (same_bytes (text k) (text e.0)) (known_put es k n)
    where
      go : (b : Bool) → (b ≡ true → text k ≡ text e.0) → AtSome (IsKey (text k)) (insert_entry (λ i j. pointwise nat_eq (text i) (text j)) es k n) →
          AtSome (IsKey (text k)) (if b then (e.0, n) ∷ es else e ∷ insert_entry (λ i j. pointwise nat_eq (text i) (text j)) es k n)
      go true same more = inl (sym (same refl))
      go false same more = inr more

  -- a text that is there is found
  pub known_found : (es : List (K × ℕ)) (x : Text) → AtSome (IsKey x) es → lookup (λ k. pointwise nat_eq x (text k)) es ≡ None → ⊥
  known_found [] x h e = h
  known_found (e ∷ es) x (inl same) none =
      let equal : pointwise nat_eq x (text e.0) ≡ true = subst (λ y. pointwise nat_eq y (text e.0) ≡ true) same (bytes_same (text e.0)) in
      let found : Some e.1 ≡ None = rw equal at none in cc
  known_found (e ∷ es) x (inr rest) none = go (pointwise nat_eq x (text e.0)) none (known_found es x rest)
    where
      go : (b : Bool) → cond b (Some e.1) (lookup (λ k. pointwise nat_eq x (text k)) es) ≡ None → (lookup (λ k. pointwise nat_eq x (text k)) es ≡ None → ⊥) → ⊥
      go true none more = cc
      go false none more = more none

-- what each had, each has still
pub each_kept : (P Q : Text → Type 0) (xs : List Text) → ((x : Text) → P x → Q x) → Each P xs → Each Q xs
each_kept P Q [] more h = tt
each_kept P Q (x ∷ xs) more h = (more x h.0, each_kept P Q xs more h.1)

pub each_last : (P : Text → Type 0) (xs : List Text) (x : Text) → Each P xs → P x → Each P (xs ++ x ∷ [])
each_last P [] x h last = (last, tt)
each_last P (y ∷ ys) x h last = (h.0, each_last P ys x h.1 last)
