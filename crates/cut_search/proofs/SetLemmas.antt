-- Steps of the loops over sets.
use Rattle.std.proofs.Common.{◌≡◌, ℕ, suc, ◌+◌, ◌<◌, ◌≤◌, Bool, true, false, not, List, [], ◌∷◌, ◌++◌, length, drop, get_or, refl, ap, arith}
use Rattle.std.proofs.Math.Seq.{drop-cons}
use Rattle.std.proofs.Math.ListN.{drop_of_length-le}
use Rattle.std.specs.Prelude.{if◌then◌else◌, cond}
use Rattle.std.specs.List.{insert}
use Rattle.cut_right_laws.specs.Sets.{stands_before}
use Rattle.cut_search_laws.specs.FoundSets.{Found, placed}
use Rattle.cut_search.specs.Places.{place_of}
use Rattle.std.proofs.Math.Numerals.{suc-eq-add-one}

module _ {T : Type 0} where
  pub placed_at : (new : Found T) (fs : List (Found T)) → insert fs (place_of new.set fs) new ≡ placed new fs
  placed_at new [] = refl
  placed_at new (f ∷ fs) = by_test (stands_before new.set f.set) (placed_at new fs)
    where
      by_test : (b : Bool) → insert fs (place_of new.set fs) new ≡ placed new fs → insert (f ∷ fs) (if b then 0 else suc (place_of new.set fs)) new ≡ (if b then new ∷ f ∷ fs else f ∷ placed new fs)
      by_test true h = refl
      by_test false h = ap (λ more. f ∷ more) h

  pub place_here : (set : List ℕ) (fs : List (Found T)) (k : ℕ) (d : Found T) → k < length fs → stands_before set (get_or fs k d).set ≡ true → place_of set (drop k fs) ≡ 0
  place_here set fs k d l e = rw (drop-cons fs k d l, e) refl

  pub place_later : (set : List ℕ) (fs : List (Found T)) (k : ℕ) (d : Found T) → k < length fs → stands_before set (get_or fs k d).set ≡ false → place_of set (drop k fs) ≡ suc (place_of set (drop (k + 1) fs))
  place_later set fs k d l e = rw (drop-cons fs k d l, e) (ap (λ n. suc (place_of set (drop n fs))) (suc-eq-add-one k))

  pub place_end : (set : List ℕ) (fs : List (Found T)) (k : ℕ) → length fs ≤ k → place_of set (drop k fs) ≡ 0
  place_end set fs k h = rw (drop_of_length-le fs h) refl

  pub place_within : (set : List ℕ) (fs : List (Found T)) → place_of set fs ≤ length fs
  place_within set [] = omega arith
  place_within set (f ∷ fs) = by_test (stands_before set f.set) (place_within set fs)
    where
      by_test : (b : Bool) → place_of set fs ≤ length fs → (if b then 0 else suc (place_of set fs)) ≤ length (f ∷ fs)
      by_test true h = omega arith
      by_test false h = omega (arith, h)

pub ruleset place_steps = (place_here, place_later, place_end, place_within)
