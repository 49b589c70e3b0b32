-- Counting different items one by one.
use Rattle.std.proofs.Common.{arith, ◌≤◌, true, false, ℕ, Bool, List, ◌≡◌, ◌<◌, ◌+◌, length, get_or, drop, subst, if◌then◌else◌}
use Rattle.std.specs.List.{list_any}
use Rattle.std.proofs.lemmas.List.{at_drop_more}
use Rattle.base_values.specs.Domains.{different}

pub different_more : {A : Type 0} (same : A → A → Bool) (xs : List A) (i : ℕ) (d : A) → i < length xs →
    different same (drop i xs) ≡ (if list_any (λ y. same y (get_or xs i d)) (drop (i + 1) xs) then 0 else 1) + different same (drop (i + 1) xs)
different_more same xs i d within = at_drop_more (different same) xs i d within

-- the turn of a loop that counts an item where it does not stand further on
pub counted : {A : Type 0} (same : A → A → Bool) (xs : List A) (i : ℕ) (d : A) (count more : ℕ) (later : Bool) → i < length xs →
    d ≡ get_or xs i d → later ≡ list_any (λ y. same y d) (drop (i + 1) xs) →
    count + different same (drop i xs) ≡ different same xs →
    more ≡ (if later then 0 else 1) + count →
    more + different same (drop (i + 1) xs) ≡ different same xs
counted same xs i d count more later within item answer so_far step =
    let split = different_more same xs i d within in
    let asked : later ≡ list_any (λ y. same y (get_or xs i d)) (drop (i + 1) xs) = subst (λ x. later ≡ list_any (λ y. same y x) (drop (i + 1) xs)) item answer in
    let turned : different same (drop i xs) ≡ (if later then 0 else 1) + different same (drop (i + 1) xs) = rw asked split in
    omega (arith, turned, so_far, step)

pub few_more : (later : Bool) → (if later then 0 else 1) ≤ 1
few_more true = omega arith
few_more false = omega arith
