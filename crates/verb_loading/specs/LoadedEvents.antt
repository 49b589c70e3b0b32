-- What the work has in memory once a top event is loaded: the case, and that the event is one of it.
use Rattle.smv_language.specs.Language.{Tree, Text, ProgramTree, program_tree, flat_tree, FlatLeaf, FlatModel}
use Rattle.verb_loading.specs.declared.loaded.LoadedCase.{LoadedCase}
use Rattle.verb_loading.specs.declared.event.LoadedEvent.{LoadedEvent}
use Rattle.verb_loading.specs.Models.{IsLawful}
use Rattle.verb_loading.specs.Cases.{Case}
use Rattle.verb_loading.specs.LoadedCases.{case_of, IsLoaded, IsTopIn}

-- the case is the extension of a lawful program, and the expression a top event of it that the word spells
pub record IsAnalysable (p : ProgramTree) (l : LoadedCase) (word : Text) (tree : Tree FlatLeaf) : Type 0 where
  pub flat : FlatModel
  pub lawful : IsLawful p flat
  pub loaded : IsLoaded p l
  pub event : IsTopIn (case_of p l) word tree

-- the case of what was loaded with a top event
abbrev pub case_in : LoadedEvent → Case
case_in l = case_of (program_tree l.model.program) l.case

-- what was loaded is a case and the top event that the word spells
abbrev pub IsEvent : Text → LoadedEvent → Type 0
IsEvent word l = IsAnalysable (program_tree l.model.program) l.case word (flat_tree l.top)
