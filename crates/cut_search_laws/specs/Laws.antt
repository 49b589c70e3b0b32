-- The laws of a search for cut sets, over all problems.
use Rattle.cut_search_laws.specs.Problem.{Problem}

-- the law holds of every problem
abbrev pub Always : (Problem → Type 0) → Type 0
Always Law = (problem : Problem) → Law problem
