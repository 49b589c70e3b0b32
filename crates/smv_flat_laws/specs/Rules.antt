-- The rules of flattening, and which is the first that a program breaks.
use Rattle.std.specs.Prelude.{◌≡◌, ℕ, zero, suc, ◌<◌, ◌≤◌, nat_eq, Bool, true, false, ◌||◌, ◌&&◌, ◌⊎◌, IsTrue, List, [], ◌∷◌, ◌++◌, Option}
use Rattle.std.specs.Prelude.{Some, None, codes, length, map, flat_map, slice_get}
use Rattle.base_values.specs.declared.limits.TheConstants.{MOST_INSTANCES, MOST_VARIABLES}
use Rattle.smv_language.specs.declared.program.Moment.{Moment}
use Rattle.smv_language.specs.declared.program.Moment.TheVariants.{Always, First, After}
use Rattle.smv_language.specs.Language.{Tree, Trees, Branches, leaf, not_of, negate, next_of, binary, choice, case_of, set_of, span}
use Rattle.smv_language.specs.Language.{no_tree, tree_then, no_branch, branch_then, Text, Path, Formula, DeclaredTree, boolean, range}
use Rattle.smv_language.specs.Language.{members, instance, AssignmentTree, ModuleTree, ProgramTree, opposite, Place, state, input}
use Rattle.smv_language.specs.Language.{frozen_role, Kind, a_variable, Key, define_key, actual_key, is_missing, a_variable_at}
use Rattle.smv_language.specs.Language.{an_expression_at, an_instance_at, Means, find_module, kind_at, module_at, actual_of_kind}
use Rattle.smv_language.specs.Language.{plain_name, Each, AtSome, FlatInstance, same_text, is_among}
use Rattle.smv_language.specs.Tree.{truth, number}
use Rattle.smv_language.specs.Scope.{a_define}
use Rattle.smv_flat_laws.specs.NameResolution.{leaves_in, has_next}
use Rattle.smv_flat_laws.specs.Items.{Item, a_declaration, a_definition, an_assignment, some_constants, an_init, an_invar, a_trans}
use Rattle.smv_flat_laws.specs.Items.{NumberedItem, NumberedModule, modules_of, numbered_items, items_named, Visit, visits, instances_of}
use Rattle.smv_flat_laws.specs.Items.{instance_declared, variable_declared}
use Rattle.smv_flat_laws.specs.Looks.{ComesBack, MeansNothing}

-- the fourteen rules of names, in the order of their numbers
pub data Rule : Type 0 where
  no_main : Rule
  main_has_parameters : Rule
  double_module : Rule
  double_name : Rule
  no_such_module : Rule
  wrong_count : Rule
  module_loop : Rule
  no_such_name : Rule
  not_a_target : Rule
  double_assign : Rule
  define_loop : Rule
  next_here : Rule
  input_here : Rule
  too_many : Rule

-- the number that a refusal says
abbrev pub number_of : Rule → ℕ
number_of no_main = 1
number_of main_has_parameters = 2
number_of double_module = 3
number_of double_name = 4
number_of no_such_module = 5
number_of wrong_count = 6
number_of module_loop = 7
number_of no_such_name = 8
number_of not_a_target = 9
number_of double_assign = 10
number_of define_loop = 11
number_of next_here = 12
number_of input_here = 13
number_of too_many = 14

-- where a rule may be broken: the program, a module's header, an item of a module, a declaration that the walk
-- comes to after others, an item of an instance
pub data Site : Type 0 where
  the_program : Site
  a_header : NumberedModule → Site
  an_item : NumberedModule → NumberedItem → Site
  a_visit : List Visit → Visit → Site
  a_use : FlatInstance → NumberedItem → Site

-- the number of a site's item, and 0 for the program
abbrev pub item_of : Site → ℕ
item_of the_program = 0
item_of (a_header m) = m.number
item_of (an_item m i) = i.number
item_of (a_visit before v) = v.number
item_of (a_use at i) = i.number

-- the places of group two: the declarations that the walk comes to, in order
abbrev pub visit_sites : List Visit → List Visit → List Site
visit_sites before [] = []
visit_sites before (v ∷ vs) = a_visit before v ∷ visit_sites (before ++ v ∷ []) vs

-- the places of group one: modules by items
abbrev pub module_sites : ProgramTree → List Site
module_sites p = flat_map (λ m. a_header m ∷ map (an_item m) (numbered_items m)) (modules_of p)

-- the places of group three: instances by items
abbrev pub use_sites : ProgramTree → List Site
use_sites p = flat_map (λ at. map (a_use at) (items_named p at.module_name)) (instances_of p)

-- all places in the order in which they are tried: modules by items, the walk, instances by items
abbrev pub sites : ProgramTree → List Site
sites p = the_program ∷ (module_sites p ++ (visit_sites [] (visits p) ++ use_sites p))

-- Rules 1 to 4: there is a formal
abbrev pub has_formals : List Text → Bool
has_formals [] = false
has_formals (x ∷ xs) = true

-- a name stands twice
abbrev pub has_twice : List Text → Bool
has_twice [] = false
has_twice (x ∷ xs) = is_among xs x || has_twice xs

-- a module has this name
abbrev pub is_module_among : List ModuleTree → Text → Bool
is_module_among [] x = false
is_module_among (m ∷ ms) x = same_text m.name x || is_module_among ms x

-- the name that an item declares, where it declares one
abbrev pub names_of_item : Item → List Text
names_of_item (a_declaration role d) = d.name ∷ []
names_of_item (a_definition d) = d.name ∷ []
names_of_item _ = []

-- the name stands earlier
abbrev pub is_name_again : List Text → List Text → Bool
is_name_again earlier [] = false
is_name_again earlier (x ∷ xs) = is_among earlier x

-- Rules 5, 6, 7 and 14.
abbrev pub is_missing_instance : ProgramTree → DeclaredTree → Bool
is_missing_instance p (instance m actuals) = is_missing (find_module p m)
is_missing_instance p _ = false

-- the module has another number of formals
abbrev pub is_other_count : Option ModuleTree → ℕ → Bool
is_other_count None n = false
is_other_count (Some m) n = opposite (nat_eq (length m.formals) n)

-- rule 6: an instance has another number of actuals than its module of formals
abbrev pub is_miscounted : ProgramTree → DeclaredTree → Bool
is_miscounted p (instance m actuals) = is_other_count (find_module p m) (length actuals)
is_miscounted p _ = false

-- rule 7: the module of an instance stands on the path to it
abbrev pub is_on_path : List Text → DeclaredTree → Bool
is_on_path on (instance m actuals) = is_among on m
is_on_path on _ = false

-- the number of instances that the walk has come to, with `main`
abbrev pub instances_before : List Visit → ℕ
instances_before vs = suc (length (flat_map (λ v. instance_declared v.place v.decl.what) vs))

-- the number of variables that the walk has come to
abbrev pub variables_before : List Visit → ℕ
variables_before vs = length (flat_map (λ v. variable_declared v v.decl.what) vs)

-- an instance after `MOST_INSTANCES` with `main`, a variable after `MOST_VARIABLES`
abbrev pub PassesLimit : List Visit → DeclaredTree → Type 0
PassesLimit before (instance m actuals) = MOST_INSTANCES ≤ instances_before before
PassesLimit before _ = MOST_VARIABLES ≤ variables_before before

-- Rule 8: a name in a value means nothing or an instance, a plain actual means nothing.
pub data HasNoValue (p : ProgramTree) (at : Place) (name : Path) : Type 0 where
  nothing : MeansNothing p at name → HasNoValue p at name
  only_an_instance : (inside : Place) → Means p at name (an_instance_at inside) → HasNoValue p at name

-- some name of the expression has none
abbrev pub SomeHasNoValue : ProgramTree → Place → Formula → Type 0
SomeHasNoValue p at e = AtSome (HasNoValue p at) (leaves_in e)

-- an actual that is a name means nothing, or one that is none has a name without a value
abbrev pub ActualHasNoMeaning : ProgramTree → Place → Formula → Option Path → Type 0
ActualHasNoMeaning p at e (Some name) = MeansNothing p at name
ActualHasNoMeaning p at e None = SomeHasNoValue p at e

-- rule 8 is broken at an item of an instance
abbrev pub BreaksNames : ProgramTree → Place → Item → Type 0
BreaksNames p at (a_declaration role d) = elim d.what [
  | boolean ↦ ⊥
  | range lo hi ↦ ⊥
  | members ms ↦ ⊥
  | instance m actuals ↦ AtSome (λ e. ActualHasNoMeaning p at e (plain_name e)) actuals
]
BreaksNames p at (a_definition d) = SomeHasNoValue p at d.value
BreaksNames p at (an_assignment a) = SomeHasNoValue p at a.value
BreaksNames p at (some_constants xs) = ⊥
BreaksNames p at (an_init e) = SomeHasNoValue p at e
BreaksNames p at (an_invar e) = SomeHasNoValue p at e
BreaksNames p at (a_trans e) = SomeHasNoValue p at e

-- Rules 9 and 10.
abbrev pub may_be_assigned : Moment → Kind → Bool
may_be_assigned when (a_variable state what) = true
may_be_assigned First (a_variable frozen_role what) = true
may_be_assigned when _ = false

-- rule 9: a target is a name without dots that may be assigned for that moment
abbrev pub is_target : ProgramTree → Place → Moment → Path → Bool
is_target p at when (x ∷ []) = may_be_assigned when (kind_at (module_at p at) x)
is_target p at when _ = false

-- both assign the same moments, or one assigns all
abbrev pub at_one_time : Moment → Moment → Bool
at_one_time Always b = true
at_one_time First After = false
at_one_time After First = false
at_one_time a b = true

-- rule 10: the item assigns the same target at one time with the assignment
abbrev pub Assigns : AssignmentTree → Item → Type 0
Assigns a (an_assignment b) = (b.target ≡ a.target) × IsTrue (at_one_time b.when a.when)
Assigns a _ = ⊥

-- Rule 11.
abbrev pub expression_of_kind : Place → Kind → Option (Place × Formula)
expression_of_kind at (a_define e) = Some (at, e)
expression_of_kind at _ = None

-- an actual, at the place at which it is written
abbrev pub expression_in : Place → Option Formula → Option (Place × Formula)
expression_in at None = None
expression_in at (Some e) = Some (at, e)

-- the expression of a definition with the instance at which it is written
abbrev pub expression_of : ProgramTree → Key → Option (Place × Formula)
expression_of p (define_key at x) = expression_of_kind at (kind_at (module_at p at) x)
expression_of p (actual_key [] i) = None
expression_of p (actual_key (own ∷ caller) i) = expression_in caller (actual_of_kind (kind_at (module_at p caller) own) i)

-- the expression of one definition names another
pub record Needs (p : ProgramTree) (key other : Key) : Type 0 where
  pub place : Place
  pub written : Formula
  pub is : expression_of p key ≡ Some (place, written)
  pub named : AtSome (λ name. (at : Place) × (e : Formula) × Means p place name (an_expression_at other at e)) (leaves_in written)

-- one definition leads to another in so many steps
abbrev pub Leads : ProgramTree → ℕ → Key → Key → Type 0
Leads p zero key other = other ≡ key
Leads p (suc n) key other = (between : Key) × Needs p key between × Leads p n between other

-- a definition leads to itself
abbrev pub NeedsItself : ProgramTree → Key → Type 0
NeedsItself p key = (n : ℕ) × Leads p (suc n) key key

-- an actual leads back to its formal, as a name or as a definition
abbrev pub ActualLoops : ProgramTree → Place → ℕ → Text → Option Path → Type 0
ActualLoops p inside i formal (Some name) = ComesBack p inside formal
ActualLoops p inside i formal None = NeedsItself p (actual_key inside i)

-- the formal of a number, and its actual
pub record SomeActualLoops (p : ProgramTree) (inside : Place) (m : ModuleTree) (actuals : List Formula) : Type 0 where
  pub index : ℕ
  pub formal : Text
  pub actual : Formula
  pub is_formal : slice_get m.formals index ≡ Some formal
  pub is_actual : slice_get actuals index ≡ Some actual
  pub loops : ActualLoops p inside index formal (plain_name actual)

-- some actual of an instance does
abbrev pub LoopsInside : ProgramTree → Place → List Formula → Option ModuleTree → Type 0
LoopsInside p inside actuals None = ⊥
LoopsInside p inside actuals (Some m) = SomeActualLoops p inside m actuals

-- rule 11 is broken at an item of an instance
abbrev pub BreaksLoops : ProgramTree → Place → Item → Type 0
BreaksLoops p at (a_declaration role d) = elim d.what [
  | boolean ↦ ⊥
  | range lo hi ↦ ⊥
  | members ms ↦ ⊥
  | instance m actuals ↦ LoopsInside p (d.name ∷ at) actuals (find_module p m)
]
BreaksLoops p at (a_definition d) = NeedsItself p (define_key at d.name)
BreaksLoops p at _ = ⊥

-- Rule 12: `next` stands where none may, or under `next`.
abbrev mutual
  pub next_under_next : {L : Type 0} → Tree L → Bool
  next_under_next (truth b) = false
  next_under_next (number n) = false
  next_under_next (leaf l) = false
  next_under_next (not_of a) = next_under_next a
  next_under_next (negate a) = next_under_next a
  next_under_next (next_of a) = has_next a
  next_under_next (binary o a b) = next_under_next a || next_under_next b
  next_under_next (choice c a b) = next_under_next c || (next_under_next a || next_under_next b)
  next_under_next (case_of bs) = branches_next_under bs
  next_under_next (set_of ts) = trees_next_under ts
  next_under_next (span lo hi) = false

  pub trees_next_under : {L : Type 0} → Trees L → Bool
  trees_next_under no_tree = false
  trees_next_under (tree_then t ts) = next_under_next t || trees_next_under ts

  pub branches_next_under : {L : Type 0} → Branches L → Bool
  branches_next_under no_branch = false
  branches_next_under (branch_then c a bs) = next_under_next c || (next_under_next a || branches_next_under bs)

-- the names under `next`
abbrev mutual
  pub leaves_under : {L : Type 0} → Tree L → List L
  leaves_under (truth b) = []
  leaves_under (number n) = []
  leaves_under (leaf l) = []
  leaves_under (not_of a) = leaves_under a
  leaves_under (negate a) = leaves_under a
  leaves_under (next_of a) = leaves_in a
  leaves_under (binary o a b) = leaves_under a ++ leaves_under b
  leaves_under (choice c a b) = leaves_under c ++ (leaves_under a ++ leaves_under b)
  leaves_under (case_of bs) = branches_leaves_under bs
  leaves_under (set_of ts) = trees_leaves_under ts
  leaves_under (span lo hi) = []

  pub trees_leaves_under : {L : Type 0} → Trees L → List L
  trees_leaves_under no_tree = []
  trees_leaves_under (tree_then t ts) = leaves_under t ++ trees_leaves_under ts

  pub branches_leaves_under : {L : Type 0} → Branches L → List L
  branches_leaves_under no_branch = []
  branches_leaves_under (branch_then c a bs) = leaves_under c ++ (leaves_under a ++ branches_leaves_under bs)

-- the assignment is for the next moments
abbrev pub is_later : Moment → Bool
is_later After = true
is_later Always = false
is_later First = false

-- a `next` stands where none may: under another, where one may stand, and else anywhere
abbrev pub has_bad_next : Bool → Formula → Bool
has_bad_next true e = next_under_next e
has_bad_next false e = has_next e

-- a `next` stands in some of the expressions
abbrev pub some_has_next : List Formula → Bool
some_has_next [] = false
some_has_next (e ∷ es) = has_next e || some_has_next es

-- rule 12 is broken at an item
abbrev pub breaks_next : Item → Bool
breaks_next (a_declaration role d) =
    elim d.what [ boolean ↦ false | range lo hi ↦ false | members ms ↦ false | instance m actuals ↦ some_has_next actuals ]
breaks_next (a_definition d) = has_next d.value
breaks_next (an_assignment a) = has_bad_next (is_later a.when) a.value
breaks_next (some_constants xs) = false
breaks_next (an_init e) = has_next e
breaks_next (an_invar e) = has_next e
breaks_next (a_trans e) = next_under_next e

-- Rule 13: a name means an input, or a definition that leads to one that names an input.
abbrev pub is_input_kind : Kind → Bool
is_input_kind (a_variable input what) = true
is_input_kind _ = false

-- the name means an input
abbrev pub MeansInput : ProgramTree → Place → Path → Type 0
MeansInput p at name = (place : Place) × (x : Text) × Means p at name (a_variable_at place x)
    × IsTrue (is_input_kind (kind_at (module_at p place) x))

-- the name means a definition that leads to one which names an input
pub record ReadsInput (p : ProgramTree) (at : Place) (name : Path) : Type 0 where
  pub first : Key
  pub place : Place
  pub written : Formula
  pub means : Means p at name (an_expression_at first place written)
  pub steps : ℕ
  pub last : Key
  pub leads : Leads p steps first last
  pub last_place : Place
  pub last_written : Formula
  pub is : expression_of p last ≡ Some (last_place, last_written)
  pub names_input : AtSome (MeansInput p last_place) (leaves_in last_written)

-- the name is an input's, or leads to one
abbrev pub GivesInput : ProgramTree → Place → Path → Type 0
GivesInput p at name = MeansInput p at name ⊎ ReadsInput p at name

-- the names that may lead to no input: those under `next`, where `next` may stand, and else all
abbrev pub inputs_judged : Bool → Formula → List Path
inputs_judged true e = leaves_under e
inputs_judged false e = leaves_in e

-- rule 13 is broken at an item of an instance
abbrev pub BreaksInputs : ProgramTree → Place → Item → Type 0
BreaksInputs p at (a_declaration role d) = ⊥
BreaksInputs p at (a_definition d) = ⊥
BreaksInputs p at (an_assignment a) = AtSome (GivesInput p at) (inputs_judged (is_later a.when) a.value)
BreaksInputs p at (some_constants xs) = ⊥
BreaksInputs p at (an_init e) = AtSome (GivesInput p at) (leaves_in e)
BreaksInputs p at (an_invar e) = AtSome (GivesInput p at) (leaves_in e)
BreaksInputs p at (a_trans e) = AtSome (GivesInput p at) (leaves_under e)

-- the rule is broken there
abbrev pub BreaksTarget : ProgramTree → Place → Item → Type 0
BreaksTarget p at (an_assignment a) = is_target p at a.when a.target ≡ false
BreaksTarget p at _ = ⊥

-- rule 10 is broken: an item before assigns the same
abbrev pub BreaksOnce : List Item → Item → Type 0
BreaksOnce before (an_assignment a) = AtSome (Assigns a) before
BreaksOnce before _ = ⊥

-- the program has no `main`
abbrev pub BreaksAtProgram : ProgramTree → Rule → Type 0
BreaksAtProgram p no_main = IsTrue (is_missing (find_module p (codes "main")))
BreaksAtProgram p _ = ⊥

-- the rules of a module's header: 2, 3 and 4
abbrev pub BreaksAtHeader : NumberedModule → Rule → Type 0
BreaksAtHeader m main_has_parameters = IsTrue (same_text m.tree.name (codes "main") && has_formals m.tree.formals)
BreaksAtHeader m double_module = IsTrue (is_module_among m.before m.tree.name)
BreaksAtHeader m double_name = IsTrue (has_twice m.tree.formals)
BreaksAtHeader m _ = ⊥

-- the rule of an item's name: 4
abbrev pub BreaksAtItem : NumberedModule → NumberedItem → Rule → Type 0
BreaksAtItem m i double_name = IsTrue (is_name_again (m.tree.formals ++ flat_map names_of_item i.before) (names_of_item i.item))
BreaksAtItem m i _ = ⊥

-- the rules of a declaration in the walk: 5, 6, 7 and 14
abbrev pub BreaksAtVisit : ProgramTree → List Visit → Visit → Rule → Type 0
BreaksAtVisit p before v no_such_module = IsTrue (is_missing_instance p v.decl.what)
BreaksAtVisit p before v wrong_count = IsTrue (is_miscounted p v.decl.what)
BreaksAtVisit p before v module_loop = IsTrue (is_on_path v.on_path v.decl.what)
BreaksAtVisit p before v too_many = PassesLimit before v.decl.what
BreaksAtVisit p before v _ = ⊥

-- the rules of an item of an instance: 8 to 13
abbrev pub BreaksAtUse : ProgramTree → FlatInstance → NumberedItem → Rule → Type 0
BreaksAtUse p at i no_such_name = BreaksNames p at.place i.item
BreaksAtUse p at i not_a_target = BreaksTarget p at.place i.item
BreaksAtUse p at i double_assign = BreaksOnce i.before i.item
BreaksAtUse p at i define_loop = BreaksLoops p at.place i.item
BreaksAtUse p at i next_here = IsTrue (breaks_next i.item)
BreaksAtUse p at i input_here = BreaksInputs p at.place i.item
BreaksAtUse p at i _ = ⊥

-- the rule is broken at the site
abbrev pub Breaks : ProgramTree → Rule → Site → Type 0
Breaks p rule the_program = BreaksAtProgram p rule
Breaks p rule (a_header m) = BreaksAtHeader m rule
Breaks p rule (an_item m i) = BreaksAtItem m i rule
Breaks p rule (a_visit before v) = BreaksAtVisit p before v rule
Breaks p rule (a_use at i) = BreaksAtUse p at i rule

-- no rule is broken there
abbrev pub IsKept : ProgramTree → Site → Type 0
IsKept p site = (rule : Rule) → Breaks p rule site → ⊥

-- the limits of instances and variables are kept there
abbrev pub IsWithin : ProgramTree → Site → Type 0
IsWithin p site = Breaks p too_many site → ⊥

-- The rule is broken at a place with this item, none at the places before it, and none of a lower number at it.
pub record IsFirstBroken (p : ProgramTree) (rule : Rule) (item : ℕ) : Type 0 where
  pub before : List Site
  pub site : Site
  pub after : List Site
  pub in_order : sites p ≡ before ++ site ∷ after
  pub kept_before : Each (IsKept p) before
  pub broken : Breaks p rule site
  pub lowest : (other : Rule) → number_of other < number_of rule → Breaks p other site → ⊥
  pub at_item : item ≡ item_of site

-- no rule is broken anywhere
abbrev pub IsAccepted : ProgramTree → Type 0
IsAccepted p = Each (IsKept p) (sites p)

-- The rules of modules and of the walk are kept, so that a program has instances and variables.
pub record IsWalkable (p : ProgramTree) : Type 0 where
  pub program : IsKept p the_program
  pub modules : Each (IsKept p) (module_sites p)
  pub visits : Each (IsKept p) (visit_sites [] (visits p))
