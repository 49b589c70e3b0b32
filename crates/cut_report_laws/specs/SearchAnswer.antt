-- The answer of a search for cut sets as definitions see it, and when a bounded one has a chain.
use Rattle.std.specs.Prelude.{◌≡◌, ℕ, List, map}
use Rattle.smv_language.specs.ProgramTree.{Text}
use Rattle.cut_text_laws.specs.Analysis.{Ending, complete, bounded, Analysis}
use Rattle.cut_search_laws.specs.Problem.{Problem}
use Rattle.cut_search.specs.declared.answer.Analysis.{Analysis as Found}
use Rattle.cut_search.specs.declared.answer.End.{End}
use Rattle.cut_search.specs.declared.answer.End.TheVariants.{Complete, Bounded}
use Rattle.cut_search.specs.Values.{trace_of}
use Rattle.cut_search.specs.Progress.{HasChainFor}

-- how it ends
abbrev pub ending_of : End → Ending
ending_of (Complete clauses) = complete
ending_of (Bounded k) = bounded k

-- its sets, its traces over these symbols, whether there is a first moment, and how it ends
abbrev pub analysis_of : List Text → Found → Analysis
analysis_of symbols a = record { sets = a.sets; shown = map (trace_of symbols) a.traces; first = a.first; ending = ending_of a.end }

module _ (problem : Problem) where
  -- it ends for all traces, or by the depth, where a chain as long as the depth exists for the sets
  abbrev pub EndsBy : ℕ → ℕ → List (List ℕ) → Ending → Type 0
  EndsBy depth size sets complete = Unit {0}
  EndsBy depth size sets (bounded k) = (k ≡ depth) × HasChainFor problem size sets k
