-- A model with faults and a top event, as contracts see it, and what makes it one that can be searched.
use Rattle.std.specs.Prelude.{◌≡◌, ℕ, List, map}
use Rattle.smv_language.specs.Language.{Tree, model_tree, flat_tree, FlatLeaf, FlatModel as ModelTree}
use Rattle.smv_language.specs.declared.expr.Expr.{Expr}
use Rattle.smv_language.specs.declared.model.Flat.{Flat}
use Rattle.smv_language.specs.declared.model.FlatModel.{FlatModel}
use Rattle.smv_language.specs.declared.model.Fault.{Fault}
use Rattle.smv_flat_laws.specs.FaultModes.{mode_of}
use Rattle.smv_flat_laws.specs.History.{Mode, with_history}
use Rattle.sat_clauses.specs.Literal.{Literal}
use Rattle.sat_encoding_laws.specs.FlatTraces.{history_of}
use Rattle.sat_encoding_laws.specs.Lists.{history_literals, bad_list}
use Rattle.cut_search_laws.specs.Problem.{Problem, problem_of}
use Rattle.cut_search_laws.specs.Searchable.{IsSearchable}
use Rattle.cut_search.specs.Answer.{IsAnswer}
use Rattle.cut_search.specs.declared.answer.Analysis.{Analysis}
use Rattle.verb_loading.specs.declared.loaded.LoadedCase.{LoadedCase}

-- a flat model in memory, its faults, and a top event over it
pub record FaultyValue : Type 0 where
  pub model : FlatModel
  pub faults : List Fault
  pub top : Expr Flat

-- the value of these
abbrev pub faulty_of : FlatModel → List Fault → Expr Flat → FaultyValue
faulty_of m faults top = record { model = m; faults = faults; top = top }

-- the value of a case with a top event
abbrev pub faulty_case : LoadedCase → Expr Flat → FaultyValue
faulty_case l top = faulty_of l.limited.typed.model l.limited.faults top

module _ (v : FaultyValue) where
  -- its flat model
  abbrev pub flat_in : ModelTree
  flat_in = model_tree v.model

  -- its faults as modes of that
  abbrev pub modes_in : List Mode
  modes_in = map mode_of v.faults

  -- its top event over that
  abbrev pub event_in : Tree FlatLeaf
  event_in = flat_tree v.top

  -- its flat model with the history of its faults
  abbrev pub whole_in : ModelTree
  whole_in = with_history flat_in modes_in

  -- the literals of the history bits
  abbrev pub history_in : List Literal
  history_in = history_literals whole_in (history_of flat_in modes_in)

  -- the exact list bad of these sets and this size
  abbrev pub bad_in : List (List ℕ) → ℕ → List (List Literal)
  bad_in sets size = bad_list whole_in event_in (history_of flat_in modes_in) sets size

  -- what a search of it is about
  abbrev pub problem_in : Problem
  problem_in = problem_of flat_in modes_in event_in

  -- it can be searched
  abbrev pub CanBeSearched : Type 0
  CanBeSearched = IsSearchable flat_in modes_in event_in

  -- this answers a search of it as deep as the depth, for sets of at most so many faults as the size
  abbrev pub AnswersSearch : ℕ → ℕ → (Analysis → Type 0)
  AnswersSearch depth size = IsAnswer problem_in depth size

-- the value can be searched, this is its model with the history of its faults, and these are the literals of the history bits
pub record IsFaultyModel (v : FaultyValue) (full : FlatModel) (history : List Literal) : Type 0 where
  pub whole : model_tree full ≡ whole_in v
  pub searchable : CanBeSearched v
  pub literals : history ≡ history_in v
