-- Sums over lists that are put together of others, and over the items of a module.
use Rattle.std.proofs.Common.{◌≡◌, ℕ, suc, ◌+◌, arith, Bool, true, false, List, [], ◌∷◌, ◌++◌, length, map, refl}
use Rattle.std.specs.Prelude.{flat_map, sum_by}
use Rattle.std.proofs.lemmas.List.Sums.{sum_by-cons, sum_by-append}
use Rattle.smv_language.specs.Language.{Text, ModuleTree, ProgramTree, find_module, Each, same_text}
use Rattle.smv_flat_laws.specs.Items.{Item, NumberedItem, items_of, numbered_from, modules_from, items_found, items_named}
use Rattle.smv_type_laws.specs.CountedItems.{over_module}

pub sum_flat : {A B : Type 0} (w : B → ℕ) (f : A → List B) (xs : List A) → sum_by w (flat_map f xs) ≡ sum_by (λ x. sum_by w (f x)) xs
sum_flat w f [] = refl
sum_flat w f (x ∷ xs) = omega (arith, sum_by-append w (f x) (flat_map f xs), sum_by-cons (λ y. sum_by w (f y)) x xs, sum_flat w f xs)

pub sum_mapped : {A B : Type 0} (w : B → ℕ) (f : A → B) (xs : List A) → sum_by w (map f xs) ≡ sum_by (λ x. w (f x)) xs
sum_mapped w f [] = refl
sum_mapped w f (x ∷ xs) = omega (arith, sum_by-cons w (f x) (map f xs), sum_by-cons (λ y. w (f y)) x xs, sum_mapped w f xs)

pub sum_each : {A : Type 0} (f g : A → ℕ) (xs : List A) → Each (λ x. f x ≡ g x) xs → sum_by f xs ≡ sum_by g xs
sum_each f g [] h = refl
sum_each f g (x ∷ xs) h = omega (arith, sum_by-cons f x xs, sum_by-cons g x xs, h.0, sum_each f g xs h.1)

pub sum_same : {A : Type 0} (f g : A → ℕ) (xs : List A) → ((x : A) → f x ≡ g x) → sum_by f xs ≡ sum_by g xs
sum_same f g [] h = refl
sum_same f g (x ∷ xs) h = omega (arith, sum_by-cons f x xs, sum_by-cons g x xs, h x, sum_same f g xs h)

pub sum_both : {A : Type 0} (f g : A → ℕ) (xs : List A) → sum_by (λ x. f x + g x) xs ≡ sum_by f xs + sum_by g xs
sum_both f g [] = omega arith
sum_both f g (x ∷ xs) = omega (arith, sum_by-cons f x xs, sum_by-cons g x xs, sum_by-cons (λ y. f y + g y) x xs, sum_both f g xs)

-- The items of a name's module, numbered or not.
pub numbered_sum : (f : Item → ℕ) (n : ℕ) (before items : List Item) → sum_by (λ (i : NumberedItem). f i.item) (numbered_from n before items) ≡ sum_by f items
numbered_sum f n before [] = refl
numbered_sum f n before (i ∷ items) =
    omega (
      arith,
      sum_by-cons (λ (j : NumberedItem). f j.item) (record { number = n; before = before; item = i }) (numbered_from (suc n) (before ++ i ∷ []) items),
      sum_by-cons f i items,
      numbered_sum f (suc n) (before ++ i ∷ []) items,
    )

found_sum : (f : Item → ℕ) (p : ProgramTree) (n : ℕ) (before : List ModuleTree) (x : Text) →
    sum_by (λ (i : NumberedItem). f i.item) (items_found (modules_from n before p) x) ≡ over_module f (find_module p x)
found_sum f [] n before x = refl
found_sum f (m ∷ p) n before x = by_name (same_text m.name x) refl (found_sum f p (n + suc (length (items_of m))) (before ++ m ∷ []) x)
  where
    by_name : (b : Bool) → same_text m.name x ≡ b →
        sum_by (λ (i : NumberedItem). f i.item) (items_found (modules_from (n + suc (length (items_of m))) (before ++ m ∷ []) p) x) ≡ over_module f (find_module p x) →
        sum_by (λ (i : NumberedItem). f i.item) (items_found (modules_from n before (m ∷ p)) x) ≡ over_module f (find_module (m ∷ p) x)
    by_name true e rest = rw e (numbered_sum f (suc n) [] (items_of m))
    by_name false e rest = rw e rest

pub named_sum : (f : Item → ℕ) (p : ProgramTree) (x : Text) → sum_by (λ (i : NumberedItem). f i.item) (items_named p x) ≡ over_module f (find_module p x)
named_sum f p x = found_sum f p 1 [] x
