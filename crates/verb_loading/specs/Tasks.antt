-- A top event over the extension.
use Rattle.std.specs.Prelude.{[]}
use Rattle.smv_language.specs.Language.{Formula, Tree, FlatLeaf}
use Rattle.smv_flat_laws.specs.ResolvedAt.{IsResolvedAt}
use Rattle.verb_loading.specs.Cases.{Case, extension_of}

-- the event is this expression over the flat model of the extension
abbrev pub IsTopTree : Case → Formula → Tree FlatLeaf → Type 0
IsTopTree c top tree = IsResolvedAt (extension_of c) c.flat [] top tree
