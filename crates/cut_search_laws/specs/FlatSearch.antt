-- What a search for cut sets stands on, and its laws.
use Rattle.std.specs.Prelude.{◌≡◌, ◌↔◌, ℕ, ◌+◌, ◌-◌, ◌<◌, false, List, [], ◌∷◌, ◌++◌, Some, length, map, drop, slice_get, slice_index_or}
use Rattle.std.specs.Prelude.{take, All}
use Rattle.smv_language.specs.Language.{Value, Each, AtSome}
use Rattle.smv_flat_laws.specs.History.{with_history}
use Rattle.smv_flat_laws.specs.FlatTrace.{AreInDomains, IsFlatTrace, NamesOwn, IsModeOf}
use Rattle.sat_clauses.specs.Literal.{Literal}
use Rattle.sat_clauses.specs.Assignment.{Assignment}
use Rattle.sat_clauses.specs.Models.{literal_value}
use Rattle.cut_frames.specs.Chain.{State, IsFirstState, IsBad, InFrame, IsOverBits, Makes, state_values, HasChain}
use Rattle.cut_frames.specs.Path.{state_in, inputs_in, IsPath}
use Rattle.cut_frames.specs.FrameLists.{AreStronger, IsInductive, IsClear}
use Rattle.cut_frames.specs.FrontierGrowth.{IsOpenChain}
use Rattle.cut_frames.specs.Advance.{IsFixed}
use Rattle.cut_frames.specs.FramesByNumber.{AreNumbered}
use Rattle.cut_frames.specs.Minimal.{IsPlain}
use Rattle.cut_search_laws.specs.FoundSets.{Found, sets_of, traces_of, with_found, IsNew, IsFound, AreFound, ContainOneOf}
use Rattle.sat_encoding_laws.specs.Encodings.{bit_of, IsEncodingOf, IsBadListOf}
use Rattle.sat_encoding_laws.specs.FlatTraces.{ReachesTop, HasFailedNumber, IsShortTrace, IsRightFlat, last_of, history_of, failed_in}
use Rattle.sat_encoding_laws.specs.FlatTraces.{IsNumbered, ReadsOwn}
use Rattle.sat_encoding_laws.specs.Lists.{unlisted_clause}
use Rattle.cut_search_laws.specs.UncoveredPatterns.{uncovered}
use Rattle.cut_search_laws.specs.Problem.{Problem}

-- a trace of a flat model
abbrev pub FlatTrace : Type 0
FlatTrace = List (List Value)

module _ (problem : Problem) where
  open problem use {model as m, modes as fs, top, system, state_of, inputs_of}

  -- the moments of a path, read as valuations: each has the moment's state, and each but the last its inputs
  pub record AreReadFrom (path : List Assignment) (long : FlatTrace) : Type 0 where
    pub one_each : length long ≡ length path
    pub domains : Each (AreInDomains (with_history m fs).variables) long
    pub states : (i : ℕ) → i < length path → state_of (slice_index_or long i []) ≡ state_in system (slice_index_or path i [])
    pub inputs : (i : ℕ) → i + 1 < length path → inputs_of (slice_index_or long i []) ≡ inputs_in system (slice_index_or path i [])

  -- the model reads its own variables, as does the top event, and the clause lists are those of the model with history
  pub record IsSearched : Type 0 where
    pub own : NamesOwn m
    pub modes : Each (IsModeOf m) fs
    pub top_own : ReadsOwn m top
    pub encoded : IsEncodingOf (with_history m fs) system state_of inputs_of

  -- the list bad of these sets and this size
  abbrev pub IsBadFor : ℕ → List (List ℕ) → List (List Literal) → Type 0
  IsBadFor size sets bad = IsBadListOf (with_history m fs) system state_of top (history_of m fs) sets size bad

  -- the literals of the history bits now, in the order of the faults: the bits of a valuation make true those of the faults that have
  -- failed
  pub record AreHistory (literals : List Literal) : Type 0 where
    pub one_each : length literals ≡ length fs
    pub over_bits : IsOverBits system literals
    pub positive : All IsPlain literals
    pub tells : (v : List Value) → AreInDomains (with_history m fs).variables v → (i : ℕ) (l : Literal) → slice_get literals i ≡ Some l →
        literal_value (state_values system (state_of v)) l ≡ bit_of (history_of m fs) v (i + 1)

  -- the clause of a set: the bits of a valuation make it true where some fault of the set has not failed
  pub record IsClauseOf (set : List ℕ) (clause : List Literal) : Type 0 where
    pub over_bits : IsOverBits system clause
    pub tells : (v : List Value) → AreInDomains (with_history m fs).variables v →
        (Makes system (state_of v) clause ↔ AtSome (λ i. bit_of (history_of m fs) v i ≡ false) set)

  -- the sets found so far, with their traces of the model
  abbrev pub AreFoundFlat : ℕ → List (Found FlatTrace) → Type 0
  AreFoundFlat size found = AreFound FlatTrace (IsFlatTrace m) (ReachesTop m top) (HasFailedNumber m fs) (length fs) size found

  -- one of them
  abbrev pub IsFoundFlat : ℕ → Found FlatTrace → Type 0
  IsFoundFlat size f = IsFound FlatTrace (IsFlatTrace m) (ReachesTop m top) (HasFailedNumber m fs) (length fs) size f

  -- Where the frontier's frame is clear of the listed sets' list bad, they are right for the traces of at most as many steps.
  abbrev pub ClearIsRight : Type 0
  ClearIsRight =
      (size : ℕ) (found : List (Found FlatTrace)) (bad : List (List Literal)) (frames : List (List (List Literal))) → IsSearched →
      AreFoundFlat size found → IsBadFor size (sets_of found) bad →
      AreNumbered system frames → IsClear system bad frames →
      IsRightFlat m fs top size (IsShortTrace m (length frames - 1)) (sets_of found) (traces_of found)

  -- Where inductive clauses exclude the bad states, the listed sets are right for all traces.
  abbrev pub InvariantIsRight : Type 0
  InvariantIsRight =
      (size : ℕ) (found : List (Found FlatTrace)) (bad : List (List Literal)) (clauses : List (List Literal)) → IsSearched →
      AreFoundFlat size found → IsBadFor size (sets_of found) bad →
      IsInductive system clauses → ((s : State) → InFrame system clauses s → IsBad system bad s → ⊥) →
      IsRightFlat m fs top size (IsFlatTrace m) (sets_of found) (traces_of found)

  -- what a trace with history shows: the faults whose bits are TRUE at last, and the trace without history
  abbrev pub found_of : FlatTrace → Found FlatTrace
  found_of long = record { set = failed_in (history_of m fs) (last_of long); trace = map (take (length m.variables)) long }

  -- A path into bad states, read, is a trace that shows a new set.
  abbrev pub PathIsFound : Type 0
  PathIsFound =
      (size : ℕ) (found : List (Found FlatTrace)) (bad : List (List Literal)) (k : ℕ) (path : List Assignment) (long : FlatTrace) →
      IsSearched → AreFoundFlat size found → IsBadFor size (sets_of found) bad →
      IsPath system bad k path → AreReadFrom path long →
      IsFoundFlat size (found_of long) × IsNew (failed_in (history_of m fs) (last_of long)) found

  -- Each moment of a path is that of some valuation: its state, and with a next moment its inputs too.
  pub record IsLawfulMoment (path : List Assignment) (i : ℕ) : Type 0 where
    pub values : List Value
    pub domains : AreInDomains (with_history m fs).variables values
    pub state : state_of values ≡ state_in system (slice_index_or path i [])
    pub inputs : i + 1 < length path → inputs_of values ≡ inputs_in system (slice_index_or path i [])

  -- a path into bad states has lawful moments alone
  abbrev pub PathIsLawful : Type 0
  PathIsLawful =
      (size : ℕ) (sets : List (List ℕ)) (bad : List (List Literal)) (k : ℕ) (path : List Assignment) → IsSearched →
      IsBadFor size sets bad → IsPath system bad k path → (i : ℕ) → i < length path → IsLawfulMoment path i

  -- inductive clauses that exclude the bad states
  pub record AreInvariant (bad clauses : List (List Literal)) : Type 0 where
    pub inductive : IsInductive system clauses
    pub excludes : (s : State) → InFrame system clauses s → IsBad system bad s → ⊥

  -- The clauses of two equal frames are an invariant, where the frontier's frame was clear before.
  abbrev pub FixedIsInvariant : Type 0
  FixedIsInvariant =
      (bad : List (List Literal)) (old now : List (List (List Literal))) (clauses : List (List Literal)) → length now ≡ length old + 1 →
      IsClear system bad old → IsFixed system old now clauses →
      AreInvariant bad clauses

  -- The opposites of a set's history literals are its clause.
  abbrev pub OppositesAreClause : Type 0
  OppositesAreClause = (literals : List Literal) (set : List ℕ) → AreHistory literals → IsNumbered (length fs) set →
      IsClauseOf set (unlisted_clause literals set)

  -- With the clause of a new set, the list bad of the sets before is that of the sets now: beside this clause, those of the sets that
  -- contain the new one say nothing, and the order of the clauses says nothing either.
  abbrev pub ClauseListsSet : Type 0
  ClauseListsSet =
      (size : ℕ) (new : Found FlatTrace) (found : List (Found FlatTrace)) (bad : List (List Literal)) (clause : List Literal) →
      IsBadFor size (sets_of found) bad → IsClauseOf new.set clause →
      IsBadFor size (sets_of (with_found new found)) (bad ++ clause ∷ [])

  -- A new set lists fewer states as bad.
  abbrev pub FewerAreBad : Type 0
  FewerAreBad =
      (size : ℕ) (before now : List (Found FlatTrace)) (bad worse : List (List Literal)) → IsSearched → AreFoundFlat size before →
      AreFoundFlat size now → ContainOneOf now before →
      IsBadFor size (sets_of before) worse → IsBadFor size (sets_of now) bad → (s : State) → IsBad system bad s → IsBad system worse s

  -- A chain stays one where fewer states are bad.
  abbrev pub ChainStays : Type 0
  ChainStays = (bad worse : List (List Literal)) (k : ℕ) → ((s : State) → IsBad system bad s → IsBad system worse s) →
      HasChain system worse k → HasChain system bad k

  -- With a clear frontier the frames from 1 on of a further frontier are a chain.
  abbrev pub ChainGrows : Type 0
  ChainGrows =
      (bad : List (List Literal)) (old now : List (List (List Literal))) → AreNumbered system old → IsClear system bad old →
      AreStronger system old now → length now ≡ length old + 1 →
      IsOpenChain system (drop 1 now) → HasChain system bad (length now - 1)

  -- Each new set leaves fewer patterns of faults uncovered, so that the search for sets ends.
  abbrev pub SearchEnds : Type 0
  SearchEnds =
      (size : ℕ) (new : Found FlatTrace) (found : List (Found FlatTrace)) → AreFoundFlat size found → IsFoundFlat size new →
      IsNew new.set found →
      uncovered (length fs) (sets_of (with_found new found)) < uncovered (length fs) (sets_of found)

  -- There is a first state exactly where the model has a trace.
  abbrev pub FirstStatesShow : Type 0
  FirstStatesShow = IsSearched → (((s : State) × IsFirstState system s) ↔ ((trace : FlatTrace) × IsFlatTrace m trace))
