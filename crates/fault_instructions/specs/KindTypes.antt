-- The type with which a kind of name is declared.
use Rattle.smv_language.specs.Language.{DeclaredTree, boolean, Kind, a_variable}

-- the type of a variable; every other kind counts as a boolean
abbrev pub type_of_kind : Kind → DeclaredTree
type_of_kind (a_variable role type) = type
type_of_kind _ = boolean
