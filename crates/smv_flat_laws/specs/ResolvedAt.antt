-- What an expression is at an instance of a program's flat model.
use Rattle.smv_language.specs.Language.{Tree, Formula, ProgramTree, Place, FlatLeaf, FlatModel}
use Rattle.smv_flat_laws.specs.NameResolution.{Resolver, IsSound, IsResolved}
use Rattle.smv_flat_laws.specs.Model.{IsFlatOf}

-- the flat expression is the written one with each name replaced by what it means there, over the model's own definitions
abbrev pub IsResolvedAt : ProgramTree → FlatModel → Place → Formula → Tree FlatLeaf → Type 0
IsResolvedAt p m at e flat = (is : IsFlatOf p m) → (r : Resolver) × IsSound p m is.written r × IsResolved (r at) e flat
