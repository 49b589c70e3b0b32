-- What an analysis answers.
use Rattle.std.specs.Prelude.{◌≡◌, ◌↔◌, ℕ, true, List}
use Rattle.smv_flat_laws.specs.FlatTrace.{IsFlatTrace}
use Rattle.smv_language.specs.Trace.{Each}
use Rattle.cut_right_laws.specs.Sets.{IsRising}
use Rattle.cut_search_laws.specs.FoundSets.{AreInOrder, sets_of, traces_of}
use Rattle.sat_encoding_laws.specs.FlatTraces.{IsShortTrace, IsRightFlat}
use Rattle.cut_search_laws.specs.FlatSearch.{FlatTrace}
use Rattle.cut_search.specs.Values.{all_found}
use Rattle.cut_search.specs.Progress.{CodeFound, AreListed, AreProof, HasChainFor}
use Rattle.cut_search.specs.declared.answer.Analysis.{Analysis}
use Rattle.cut_search.specs.declared.answer.End.{End}
use Rattle.cut_search.specs.declared.answer.End.TheVariants.{Complete, Bounded}
use Rattle.cut_search_laws.specs.Problem.{Problem}

module _ (problem : Problem) where
  open problem use {model as m, modes as fs, top}

  -- complete only with an invariant that excludes the unlisted bad states, and then right for all traces; bounded only by the
  -- depth with a chain as long as it, and then right for the traces of at most as many steps
  abbrev pub IsEnd : ℕ → ℕ → List CodeFound → End → Type 0
  IsEnd depth size found (Complete clauses) =
      AreProof problem size (sets_of found) clauses
      × IsRightFlat m fs top size (IsFlatTrace m) (sets_of (all_found m.symbols found)) (traces_of (all_found m.symbols found))
  IsEnd depth size found (Bounded k) =
      (k ≡ depth)
      × HasChainFor problem size (sets_of found) k
      × IsRightFlat m fs top size (IsShortTrace m k) (sets_of (all_found m.symbols found)) (traces_of (all_found m.symbols found))

  -- The sets are rising and in order, each with its trace; the answer is right as it ends; and it tells whether there is a trace.
  pub record IsAnswer (depth size : ℕ) (a : Analysis) : Type 0 where
    pub found : List CodeFound
    pub are : AreListed problem size found
    pub sets : a.sets ≡ sets_of found
    pub traces : a.traces ≡ traces_of found
    pub in_order : AreInOrder a.sets
    pub rising : Each IsRising a.sets
    pub ends : IsEnd depth size found a.end
    pub first : (a.first ≡ true) ↔ ((trace : FlatTrace) × IsFlatTrace m trace)
    pub size_is : a.size ≡ size
