-- The laws of sets that are right for a class.
use Rattle.std.specs.Prelude.{◌↔◌, ℕ, List}
pub use Rattle.std.specs.List.{AllZip as AreBoth}
use Rattle.cut_right_laws.specs.Right.{HasAtMost, IsRight, IsMinimalCutSet, IsListed}

module _ (T : Type 0) (is_trace reaches : T → Type 0) (has_failed : T → ℕ → Type 0) where
  -- sets that are right for all traces are exactly the minimal cut sets of at most so many faults
  abbrev pub RightSetsAreMinimal : Type 0
  RightSetsAreMinimal =
      (size : ℕ) (sets : List (List ℕ)) (traces : List T) → IsRight T is_trace reaches has_failed size is_trace sets traces →
      (set : List ℕ) →
      (IsListed T is_trace reaches has_failed sets set ↔ (IsMinimalCutSet T is_trace reaches has_failed set × HasAtMost size set))

-- Traces of two kinds that correspond.
module _ (T U : Type 0) (is_trace reaches : T → Type 0) (has_failed : T → ℕ → Type 0) (is_other other_reaches : U →
    Type 0) (other_failed : U → ℕ → Type 0) where
  -- what is a trace, reaches or has failed a fault of the one kind does so of the other
  pub record Correspond (R : T → U → Type 0) : Type 0 where
    pub traces : (t : T) (u : U) → R t u → is_trace t → is_other u
    pub reaching : (t : T) (u : U) → R t u → (reaches t ↔ other_reaches u)
    pub failed : (t : T) (u : U) → R t u → (i : ℕ) → (has_failed t i ↔ other_failed u i)

  -- each trace of a class corresponds to one of a class of the first kind
  abbrev pub IsMet : (T → U → Type 0) → (T → Type 0) → (U → Type 0) → Type 0
  IsMet R class other = (u : U) → other u → (t : T) × R t u × class t

  -- sets that are right for a class of the one kind are right for a class of the other
  abbrev pub RightIsCarried : (T → U → Type 0) → (T → Type 0) → (U → Type 0) → Type 0
  RightIsCarried R class other =
      Correspond R → IsMet R class other → (size : ℕ) (sets : List (List ℕ)) (traces : List T) (others : List U) → AreBoth R traces others →
      IsRight T is_trace reaches has_failed size class sets traces → IsRight U is_other other_reaches other_failed size other sets others
