-- Where no variable is listed, all are free.
use Rattle.std.proofs.Common.{◌≡◌, ◌≢◌, ℕ, Bool, List, Option, Some, None, Contains, length, get_or, replicate, count_by, is_none, refl, ap, sym, ◌∙◌, arith, ⊎_elim, ◌+◌, ◌++◌, ◌∷◌, [], ◌<◌, cond, set, subst}
use Rattle.std.proofs.lemmas.List.{ext_get_or, get_or-replicate, length-replicate}
use Rattle.std.proofs.lemmas.Bool.{cases_eq, cases_lt}
use Rattle.std.proofs.lemmas.List.{get_or-set_other, get_or_past}
use Rattle.std.proofs.lemmas.List.Sums.{sum_by-set}
use Rattle.std.proofs.lemmas.List.Elements.{Contains-push, Contains-append_left}
use Rattle.std.specs.Option.{option_map}
use Rattle.sat_clauses.specs.Literal.{signed}
use Rattle.std.proofs.lemmas.List.Folds.{sum_by-replicate}
use Rattle.sat_clauses.specs.Assignment.{Assignment}

None-from_not : (o : Option Bool) → (o ≢ None → ⊥) → o ≡ None
None-from_not None h = refl
None-from_not (Some b) h = absurd (h (λ e. cc))

not_in_empty : (xs : List ℕ) (x : ℕ) → length xs ≡ 0 → Contains xs x → ⊥
not_in_empty xs x e has = omega arith

pub all_free-from_unlisted : (a : Assignment) (xs : List ℕ) → length xs ≡ 0 → ((x : ℕ) → get_or a x None ≢ None → Contains xs x) → a ≡ replicate (length a) None
all_free-from_unlisted a xs e listed =
    ext_get_or None a (replicate (length a) None) (sym (length-replicate (length a) None))
    (λ i lt. None-from_not (get_or a i None) (λ ne. not_in_empty xs i e (listed i ne)) ∙ sym (get_or-replicate (length a) i None None lt))

pub count-all_free : (a : Assignment) → a ≡ replicate (length a) None → count_by is_none a ≡ length a
count-all_free a e = ap (count_by is_none) e ∙ (sum_by-replicate _ (length a) None ∙ omega arith)

-- what an assignment that is all free has at any place, and how many places are free
pub None-at_free : (a : Assignment) (n : ℕ) → a ≡ replicate n None → (x : ℕ) → get_or a x None ≡ None
None-at_free a n e x = ap (λ b. get_or b x None) e ∙ nothing where
  nothing : get_or (replicate {A = Option Bool} n None) x None ≡ None
  nothing = ⊎_elim (λ inside. get_or-replicate n x None None inside) (λ outside. get_or_past (replicate n None) x None (omega (arith, length-replicate {A = Option Bool} n None))) (cases_lt x n)

pub count-free : (a : Assignment) (n : ℕ) → a ≡ replicate n None → count_by is_none a ≡ n
count-free a n e = ap (count_by is_none) e ∙ (sum_by-replicate _ n None ∙ omega arith)

-- a literal whose value is None has no value at its place
pub None-from_value : (n : Bool) (o : Option Bool) → option_map (signed n) o ≡ None → o ≡ None
None-from_value n None e = refl
None-from_value n (Some b) e = cc

-- one more place has a value: its variable is listed at the end
pub listed_more : (a : Assignment) (xs : List ℕ) (v : ℕ) (b : Option Bool) → ((x : ℕ) → get_or a x None ≢ None → Contains xs x) → (x : ℕ) → get_or (set a v b) x None ≢ None → Contains (xs ++ v ∷ []) x
listed_more a xs v b listed x ne =
    ⊎_elim
    (λ same. subst (Contains (xs ++ v ∷ [])) (sym same) (Contains-push xs v))
    (λ other. Contains-append_left xs (v ∷ []) x (listed x (λ e. ne (get_or-set_other a v x b None other ∙ e))))
    (cases_eq x v)

-- and one place fewer is free
pub count_less : (a : Assignment) (v : ℕ) (b : Bool) → v < length a → get_or a v None ≡ None → count_by is_none (set a v (Some b)) + 1 ≡ count_by is_none a
count_less a v b inside free =
    ap (λ n. count_by is_none (set a v (Some b)) + n) (sym (ap (λ o. cond (is_none o) 1 0) free))
    ∙ (sum_by-set (λ o. cond (is_none o) 1 0) a v (Some b) None inside ∙ omega arith)
