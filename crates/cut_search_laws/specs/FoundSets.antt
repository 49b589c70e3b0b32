-- The sets that a search has found so far, each with the trace that shows it.
use Rattle.std.specs.Prelude.{◌≡◌, ℕ, ◌≤◌, true, false, not, IsTrue, List, [], ◌∷◌, length, map, if◌then◌else◌, filter}
use Rattle.smv_language.specs.Trace.{Each, EachPair, AtSome}
use Rattle.cut_right_laws.specs.Right.{Shows}
use Rattle.sat_encoding_laws.specs.FlatTraces.{IsNumbered}
use Rattle.cut_right_laws.specs.Sets.{IsRising, is_contained, stands_before}

-- a set, and a trace that has failed exactly it
pub record Found (T : Type 0) : Type 0 where
  pub set : List ℕ
  pub trace : T

-- the sets alone
abbrev pub sets_of : {T : Type 0} → List (Found T) → List (List ℕ)
sets_of found = map (λ f. f.set) found

-- the traces alone
abbrev pub traces_of : {T : Type 0} → List (Found T) → List T
traces_of found = map (λ f. f.trace) found

-- those whose sets do not contain this one
abbrev pub without : {T : Type 0} → List ℕ → List (Found T) → List (Found T)
without set found = filter (λ f. not (is_contained set f.set)) found

-- at its place in the order of sets
abbrev pub placed : {T : Type 0} → Found T → List (Found T) → List (Found T)
placed new [] = new ∷ []
placed new (f ∷ fs) = if stands_before new.set f.set then new ∷ f ∷ fs else f ∷ placed new fs

-- a new set is listed, and those that contain it are taken out
abbrev pub with_found : {T : Type 0} → Found T → List (Found T) → List (Found T)
with_found new found = placed new (without new.set found)

-- each set stands before the next
abbrev pub AreInOrder : List (List ℕ) → Type 0
AreInOrder sets = EachPair (λ s t. IsTrue (stands_before s t)) sets

-- neither set contains the other
pub record AreApart {T : Type 0} (f g : Found T) : Type 0 where
  pub left : is_contained f.set g.set ≡ false
  pub right : is_contained g.set f.set ≡ false

-- the new set is none that contains a listed one
abbrev pub IsNew : {T : Type 0} → List ℕ → List (Found T) → Type 0
IsNew set found = Each (λ f. is_contained f.set set ≡ false) found

-- each set of the second list contains one of the first
abbrev pub ContainOneOf : {T : Type 0} → List (Found T) → List (Found T) → Type 0
ContainOneOf now before = Each (λ f. AtSome (λ g. is_contained g.set f.set ≡ true) now) before

module _ (T : Type 0) (is_trace reaches : T → Type 0) (has_failed : T → ℕ → Type 0) (faults size : ℕ) where
  -- a rising set of at most so many faults that its trace shows
  pub record IsFound (f : Found T) : Type 0 where
    pub rising : IsRising f.set
    pub numbered : IsNumbered faults f.set
    pub small : length f.set ≤ size
    pub shown : Shows T is_trace reaches has_failed f.trace f.set

  -- each is found, stands before the later ones, and no set contains another
  abbrev pub AreFound : List (Found T) → Type 0
  AreFound [] = Unit {0}
  AreFound (f ∷ fs) = IsFound f × Each (AreApart f) fs × Each (λ g. IsTrue (stands_before f.set g.set)) fs × AreFound fs
