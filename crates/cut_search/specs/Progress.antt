-- How far a search for sets has come.
use Rattle.std.specs.Prelude.{◌≡◌, ℕ, ◌+◌, ◌^◌, ◌<◌, Bool, true, false, List, [], length, nat_eq, slice_index_or, Option, Some, None}
use Rattle.smv_language.specs.Values.{Value}
use Rattle.base_values.specs.declared.value.Value.{Value as AValue}
use Rattle.smv_flat_laws.specs.History.{with_history}
use Rattle.smv_flat_laws.specs.FlatTrace.{AreInDomains}
use Rattle.sat_clauses.specs.Literal.{Literal}
use Rattle.sat_clauses.specs.Assignment.{Assignment}
use Rattle.cut_frames.specs.Chain.{HasChain}
use Rattle.cut_frames.specs.FramesRecord.{FramesValue, frontier}
use Rattle.cut_frames.specs.Path.{state_in, inputs_in}
use Rattle.cut_frames.specs.FrameLists.{IsClear, AreStronger}
use Rattle.cut_frames.specs.FramesByNumber.{AreNumbered}
use Rattle.cut_search_laws.specs.FoundSets.{Found, sets_of, with_found, IsNew, ContainOneOf}
use Rattle.cut_search_laws.specs.FlatSearch.{FlatTrace, IsBadFor, AreFoundFlat, IsFoundFlat, AreInvariant, AreReadFrom}
use Rattle.cut_search_laws.specs.FlatSearch.{found_of as shown_by}
use Rattle.cut_search.specs.Values.{values_of, found_of, all_found}
use Rattle.cut_search_laws.specs.Problem.{Problem}

-- a found set as the code has it
abbrev pub CodeFound : Type 0
CodeFound = Found (List (List AValue))

module _ (problem : Problem) where
  open problem use {model as m, modes as fs, system, state_of, inputs_of}

  -- A moment gives the bits of some valuation: of its state, and unless it is the last one of its inputs.
  pub record IsReadable (last : Bool) (a : Assignment) : Type 0 where
    pub values : List Value
    pub domains : AreInDomains (with_history m fs).variables values
    pub state : state_of values ≡ state_in system a
    pub inputs : last ≡ false → inputs_of values ≡ inputs_in system a

  -- the valuation is one with these bits
  pub record IsReadOf (last : Bool) (a : Assignment) (v : List AValue) : Type 0 where
    pub domains : AreInDomains (with_history m fs).variables (values_of m.symbols v)
    pub state : state_of (values_of m.symbols v) ≡ state_in system a
    pub inputs : last ≡ false → inputs_of (values_of m.symbols v) ≡ inputs_in system a

  -- Each moment of a path below this number is read as a valuation.
  pub record AreReadBelow (n : ℕ) (path : List Assignment) (long : List (List AValue)) : Type 0 where
    pub count : length long ≡ n
    pub each : (i : ℕ) → i < n → IsReadOf (nat_eq (i + 1) (length path)) (slice_index_or path i []) (slice_index_or long i [])

  -- the set and the trace are those of the path, read as valuations
  pub record Shown (path : List Assignment) (f : CodeFound) : Type 0 where
    pub long : FlatTrace
    pub read : AreReadFrom problem path long
    pub is : found_of m.symbols f ≡ shown_by problem long

  -- the sets found so far, as the code has them
  abbrev pub AreListed : ℕ → List CodeFound → Type 0
  AreListed size found = AreFoundFlat problem size (all_found m.symbols found)

  -- a new set was listed
  pub record ListsOne (size : ℕ) (before now : List CodeFound) : Type 0 where
    pub new : CodeFound
    pub is_found : IsFoundFlat problem size (found_of m.symbols new)
    pub is_new : IsNew new.set (all_found m.symbols before)
    pub listed : now ≡ with_found new before

  -- the frames are asked about the list bad of the listed sets, and no state of the frontier's frame is bad
  pub record AreClear (size : ℕ) (found : List CodeFound) (frames : FramesValue) : Type 0 where
    pub is_bad : IsBadFor problem size (sets_of found) frames.bad
    pub clear : IsClear system frames.bad frames.frames

  -- what one look at the frontier's frame brings: a new set, which the frames are then asked about too, or that the frame is clear
  abbrev pub IsLooked : ℕ → List CodeFound → List CodeFound → FramesValue → Bool → Type 0
  IsLooked size before now frames true = (now ≡ before) × AreClear size now frames
  IsLooked size before now frames false = ListsOne size before now × IsBadFor problem size (sets_of now) frames.bad

  -- every earlier set contains one of those listed now
  abbrev pub StillContain : List CodeFound → List CodeFound → Type 0
  StillContain now before = ContainOneOf (all_found m.symbols now) (all_found m.symbols before)

  -- there are as many frames as before, each implying what it was
  pub record AreKept (before now : List (List (List Literal))) : Type 0 where
    pub same : length now ≡ length before
    pub stronger : AreStronger system before now
    pub numbered : AreNumbered system now

  -- Looks have listed sets since these: the frames are kept, and every earlier set contains one of those listed now.
  pub record AreLooking (size : ℕ) (before now : List CodeFound) (old frames : List (List (List Literal))) : Type 0 where
    pub kept : AreKept old frames
    pub are : AreListed size now
    pub contain : StillContain now before

  -- Between two frontiers: the listed sets are found, the frames are asked about their list bad, the frontier's frame is clear of
  -- it, and a chain as long as the frontier's number exists for it.
  pub record IsBetween (size : ℕ) (found : List CodeFound) (frames : FramesValue) : Type 0 where
    pub are : AreListed size found
    pub numbered : AreNumbered system frames.frames
    pub is_bad : IsBadFor problem size (sets_of found) frames.bad
    pub clear : IsClear system frames.bad frames.frames
    pub chain : HasChain system frames.bad (frontier frames)

  -- clauses that are an invariant for the listed sets
  pub record AreProof (size : ℕ) (sets : List (List ℕ)) (clauses : List (List Literal)) : Type 0 where
    pub bad : List (List Literal)
    pub is_bad : IsBadFor problem size sets bad
    pub invariant : AreInvariant problem bad clauses

  -- A chain of so many frames for the listed sets; so there are fewer of them than two more than there are states.
  pub record HasChainFor (size : ℕ) (sets : List (List ℕ)) (k : ℕ) : Type 0 where
    pub bad : List (List Literal)
    pub is_bad : IsBadFor problem size sets bad
    pub chain : HasChain system bad k
    pub short : k < 2 ^ system.state_bits + 2

  -- A frontier further: an invariant for the sets as they are, or the next frontier's frame is clear for those listed by then.
  abbrev pub HasGone : ℕ → List CodeFound → List CodeFound → List (List (List Literal)) → FramesValue → Option (List (List Literal)) →
      Type 0
  HasGone size before now old frames (Some clauses) = (now ≡ before) × AreProof size (sets_of now) clauses
  HasGone size before now old frames None = (length frames.frames ≡ length old + 1) × IsBetween size now frames
