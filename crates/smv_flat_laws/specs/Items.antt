-- The items of a program with their numbers, and the walk over its instances, depth first by items.
use Rattle.std.specs.Prelude.{ℕ, zero, suc, ◌+◌, List, [], ◌∷◌, ◌++◌, codes, length, map, flat_map, if◌then◌else◌}
use Rattle.smv_language.specs.Language.{Text, Formula, DeclaredTree, instance, DeclTree, DefineTree, AssignmentTree, SectionTree, var, ivar}
use Rattle.smv_language.specs.Language.{frozen, define, constants, assign, init, invar, trans, ModuleTree, ProgramTree, Place, Role, state}
use Rattle.smv_language.specs.Language.{input, frozen_role, FlatInstance, same_text, is_among}

-- what stands below a module's header, one declaration, definition, assignment or formula each; constants are one item
pub data Item : Type 0 where
  a_declaration : Role → DeclTree → Item
  a_definition : DefineTree → Item
  an_assignment : AssignmentTree → Item
  some_constants : List Text → Item
  an_init : Formula → Item
  an_invar : Formula → Item
  a_trans : Formula → Item

-- the items of a section, in written order
abbrev pub items_of_section : SectionTree → List Item
items_of_section (var ds) = map (a_declaration state) ds
items_of_section (ivar ds) = map (a_declaration input) ds
items_of_section (frozen ds) = map (a_declaration frozen_role) ds
items_of_section (define ds) = map a_definition ds
items_of_section (constants xs) = some_constants xs ∷ []
items_of_section (assign xs) = map an_assignment xs
items_of_section (init e) = an_init e ∷ []
items_of_section (invar e) = an_invar e ∷ []
items_of_section (trans e) = a_trans e ∷ []

-- the items below a module's header
abbrev pub items_of : ModuleTree → List Item
items_of m = flat_map items_of_section m.sections

-- an item with its number, and those of its module before it
pub record NumberedItem : Type 0 where
  pub number : ℕ
  pub before : List Item
  pub item : Item

-- items with numbers that go on from one, after others
abbrev pub numbered_from : ℕ → List Item → List Item → List NumberedItem
numbered_from n before [] = []
numbered_from n before (i ∷ is) = record { number = n; before = before; item = i } ∷ numbered_from (suc n) (before ++ i ∷ []) is

-- a module with the number of its header, and the modules before it
pub record NumberedModule : Type 0 where
  pub number : ℕ
  pub before : List ModuleTree
  pub tree : ModuleTree

-- modules with numbers that go on from one, after others
abbrev pub modules_from : ℕ → List ModuleTree → List ModuleTree → List NumberedModule
modules_from n before [] = []
modules_from n before (m ∷ ms) =
    record { number = n; before = before; tree = m } ∷ modules_from (n + suc (length (items_of m))) (before ++ m ∷ []) ms

-- items are numbered from 1, a module's header being one
abbrev pub modules_of : ProgramTree → List NumberedModule
modules_of p = modules_from 1 [] p

-- the items of a module, whose numbers follow its header's
abbrev pub numbered_items : NumberedModule → List NumberedItem
numbered_items m = numbered_from (suc m.number) [] (items_of m.tree)

-- the items of the first of these modules with a name
abbrev pub items_found : List NumberedModule → Text → List NumberedItem
items_found [] x = []
items_found (m ∷ ms) x = if same_text m.tree.name x then numbered_items m else items_found ms x

-- the items of the first module of a name
abbrev pub items_named : ProgramTree → Text → List NumberedItem
items_named p x = items_found (modules_of p) x

-- a declaration that the walk comes to: in which instance, with which modules on the path to it
pub record Visit : Type 0 where
  pub place : Place
  pub on_path : List Text
  pub number : ℕ
  pub role : Role
  pub decl : DeclTree

-- into an instance, where its module is not on the path already
abbrev pub visits_inside : (Place → Text → List Visit) → List Text → Place → DeclaredTree → List Visit
visits_inside go on at (instance m actuals) = if is_among on m then [] else go at m
visits_inside go on at _ = []

-- a declaration, and those inside it
abbrev pub visits_of : (Place → Text → List Visit) → List Text → Place → ℕ → Item → List Visit
visits_of go on at n (a_declaration role d) =
    record { place = at; on_path = on; number = n; role = role; decl = d } ∷ visits_inside go on (d.name ∷ at) d.what
visits_of go on at n _ = []

-- the declarations of a list of items, each with those inside it
abbrev pub walk_items : (Place → Text → List Visit) → List Text → Place → List NumberedItem → List Visit
walk_items go on at [] = []
walk_items go on at (i ∷ is) = visits_of go on at i.number i.item ++ walk_items go on at is

-- the declarations of an instance of this module and of all inside it, depth first, at most so many deep
abbrev pub walk : ℕ → ProgramTree → List Text → Place → Text → List Visit
walk zero p on at name = []
walk (suc n) p on at name = walk_items (walk n p (name ∷ on)) (name ∷ on) at (items_named p name)

-- no path has more modules than the program, since none stands twice on it
abbrev pub visits : ProgramTree → List Visit
visits p = walk (length p) p [] [] (codes "main")

-- the instance that is declared, where it is one
abbrev pub instance_declared : Place → DeclaredTree → List FlatInstance
instance_declared at (instance m actuals) = record { place = at; module_name = m } ∷ []
instance_declared at _ = []

-- the instance of a declaration, where it is one
abbrev pub instances_of_visit : Visit → List FlatInstance
instances_of_visit v = instance_declared (v.decl.name ∷ v.place) v.decl.what

-- the instance of the main module
abbrev pub main_instance : FlatInstance
main_instance = record { place = []; module_name = codes "main" }

-- the instances in depth-first order
abbrev pub instances_of : ProgramTree → List FlatInstance
instances_of p = main_instance ∷ flat_map instances_of_visit (visits p)

-- the declaration, where it is of a variable
abbrev pub variable_declared : Visit → DeclaredTree → List Visit
variable_declared v (instance m actuals) = []
variable_declared v _ = v ∷ []

-- the declarations of variables in flat order
abbrev pub variables_of : ProgramTree → List Visit
variables_of p = flat_map (λ v. variable_declared v v.decl.what) (visits p)

-- the modules of a program's instances
abbrev pub modules_of_instances : ProgramTree → List Text
modules_of_instances p = map (λ (at : FlatInstance). at.module_name) (instances_of p)
