-- What a search in a list's rising order finds of the list.
use Rattle.std.proofs.Common.{◌≡◌, ℕ, List, Result, Ok, Err, inl, inr, refl, sym, ◌∙◌, ap, length, get_or, arith, ◌<◌}
use Rattle.std.specs.Prelude.{Contains, ◌↔◌, IsTrue}
use Rattle.std.specs.Result.{is_ok}
use Rattle.std.specs.declared.cmp.Ordering.{Ordering}
use Rattle.std.specs.declared.cmp.Ordering.TheVariants.{Less, Equal, Greater}
use Rattle.std.specs.Cmp.{IsTotalOrder}
use Rattle.std.specs.List.Sorted.{IsBinarySearchResult, IsSearchInRange}
use Rattle.std.proofs.lemmas.Bool.{cases_lt}
use Rattle.std.proofs.lemmas.Cmp.{tied_itself}
use Rattle.std.proofs.lemmas.List.Elements.{Contains-from_at}
use Rattle.std.proofs.lemmas.List.Sorted.{Contains-permutation, IsPermutation-refl, IsPermutation-sym, searchable_from_sorted}
use Rattle.base_values.specs.Rising.{IsRisingOf}

module _ {A : Type 0} (compare : A → A → Ordering) (order : IsTotalOrder compare) (exact : (x y : A) → compare x y ≡ Equal → x ≡ y) where
  -- a search that found no item leaves none that is equal
  nowhere : (rising : List A) (x : A) (at k : ℕ) → IsRisingOf compare rising rising → IsBinarySearchResult (λ y. compare y x) rising (Err at) →
      k < length rising → get_or rising k x ≡ x → ⊥
  nowhere rising x at k h parted within same =
      let parts = parted (searchable_from_sorted order (λ y. y) rising x h.sorted) in
      let alike : compare (get_or rising k x) x ≡ Equal = ap (λ y. compare y x) same ∙ tied_itself order x in
      elim (cases_lt k at) [
        | inl below ↦ let less : compare (get_or rising k x) x ≡ Less = parts.0 k x (omega arith) below in let clash : Less ≡ Equal = sym less ∙ alike in cc
        | inr above ↦ let greater : compare (get_or rising k x) x ≡ Greater = parts.1 k x above within in let clash : Greater ≡ Equal = sym greater ∙ alike in cc
      ]

  -- the search ends at an item where it is one of the list, and only there
  pub found : (listed rising : List A) → IsRisingOf compare listed rising → (x : A) (r : Result ℕ ℕ) →
      IsSearchInRange r (length rising) → IsBinarySearchResult (λ y. compare y x) rising r → IsTrue (is_ok r) ↔ Contains listed x
  found listed rising h x (Ok at) within equal =
      ((λ t. Contains-permutation rising listed x (IsPermutation-sym listed rising h.same) (Contains-from_at rising x (at, within, λ d. exact _ x (equal d)))), (λ t. refl))
  found listed rising h x (Err at) within parted = (
    (λ t. cc),
    (λ t.
        let there = Contains-permutation listed rising x h.same t in
        absurd (nowhere rising x at there.0 (record { same = IsPermutation-refl rising; sorted = h.sorted }) parted there.1 there.2)),
  )
