-- The traces of what was found.
use Rattle.std.proofs.Common.{◌≡◌, List, [], ◌∷◌, map, refl, ap}
use Rattle.smv_language.specs.ProgramTree.{Text}
use Rattle.cut_search_laws.specs.FoundSets.{traces_of}
use Rattle.cut_search.specs.Values.{trace_of, all_found}
use Rattle.cut_search.specs.Progress.{CodeFound}

-- the traces, as values are read
pub traces_same : (symbols : List Text) (found : List CodeFound) → map (trace_of symbols) (traces_of found) ≡ traces_of (all_found symbols found)
traces_same symbols [] = refl
traces_same symbols (f ∷ fs) = ap (λ more. trace_of symbols f.trace ∷ more) (traces_same symbols fs)
