-- The traces of a program.
use Rattle.std.specs.Prelude.{◌≡◌, ◌⊎◌, Bool, true, false, IsTrue, List, [], ◌∷◌, Some, ◌||◌}
use Rattle.smv_language.specs.declared.program.Member.{Member}
use Rattle.smv_language.specs.declared.program.Member.TheVariants as member
use Rattle.smv_language.specs.declared.program.Moment.{Moment}
use Rattle.smv_language.specs.declared.program.Moment.TheVariants.{Always, First, After}
use Rattle.smv_language.specs.ProgramTree.{Text, Path, Formula, DeclaredTree, boolean, range, members, instance, SectionTree, var, ivar}
use Rattle.smv_language.specs.ProgramTree.{frozen, assign, init, invar, trans, ModuleTree, ProgramTree}
use Rattle.smv_language.specs.Values.{Value, truth, number, symbol, same_int, is_between}
use Rattle.smv_language.specs.Texts.{same_text}
use Rattle.smv_language.specs.Scope.{Place, Role, a_variable, kind_in, module_at}
use Rattle.smv_language.specs.May.{Valuation, May}

-- the value of a member
abbrev pub value_of_member : Member → Value
value_of_member (member.Number n) = number n
value_of_member (member.Symbol x) = symbol x

-- the value is one of the members
abbrev pub is_member : List Member → Value → Bool
is_member [] v = false
is_member (member.Number n ∷ ms) (number k) = same_int n k || is_member ms (number k)
is_member (member.Symbol x ∷ ms) (symbol y) = same_text x y || is_member ms (symbol y)
is_member (_ ∷ ms) v = is_member ms v

-- the value is a truth value
abbrev pub is_truth : Value → Bool
is_truth (truth b) = true
is_truth _ = false

-- the values of a type
abbrev pub in_domain : DeclaredTree → Value → Bool
in_domain boolean v = is_truth v
in_domain (range lo hi) v = is_between lo hi v
in_domain (members ms) v = is_member ms v
in_domain (instance m actuals) v = false

-- there is an instance of this module
abbrev pub IsInstance : ProgramTree → Place → ModuleTree → Type 0
IsInstance p at m = module_at p at ≡ Some m

-- there is a variable of this role and type
abbrev pub IsVariable : ProgramTree → Place → Text → Role → DeclaredTree → Type 0
IsVariable p at x role type = (m : ModuleTree) × IsInstance p at m × (kind_in m x ≡ a_variable role type)

-- each member of a list, each pair of neighbours, some member, and the last and the first, where there is one
abbrev pub Each : {A : Type 0} → (A → Type 0) → List A → Type 0
Each P [] = Unit {0}
Each P (a ∷ more) = P a × Each P more

-- each of one list with that of the other at its place, where they are as long as each other
abbrev pub EachBoth : {A B : Type 0} → (A → B → Type 0) → List A → List B → Type 0
EachBoth R [] [] = Unit {0}
EachBoth R (a ∷ as') (b ∷ bs) = R a b × EachBoth R as' bs
EachBoth R _ _ = ⊥

-- of each two neighbours
abbrev pub EachPair : {A : Type 0} → (A → A → Type 0) → List A → Type 0
EachPair R [] = Unit {0}
EachPair R (a ∷ []) = Unit {0}
EachPair R (a ∷ b ∷ more) = R a b × EachPair R (b ∷ more)

-- of some
abbrev pub AtSome : {A : Type 0} → (A → Type 0) → List A → Type 0
AtSome P [] = ⊥
AtSome P (a ∷ more) = P a ⊎ AtSome P more

-- of the last
abbrev pub AtLast : {A : Type 0} → (A → Type 0) → List A → Type 0
AtLast P [] = ⊥
AtLast P (a ∷ []) = P a
AtLast P (a ∷ b ∷ more) = AtLast P (b ∷ more)

-- of the first
abbrev pub AtFirst : {A : Type 0} → (A → Type 0) → List A → Type 0
AtFirst P [] = ⊥
AtFirst P (a ∷ more) = P a

-- What each section of a module asks at an instance: of the first valuation, of each valuation, and of a
-- valuation and the next.
abbrev pub FirstAssigned : ProgramTree → Place → Valuation → Moment → Path → Formula → Type 0
FirstAssigned p at v First (x ∷ []) e = May p at v v e (v at x)
FirstAssigned p at v _ target e = Unit {0}

-- INIT is TRUE, and init(x) := e has x among the values of e
abbrev pub FirstSection : ProgramTree → Place → Valuation → SectionTree → Type 0
FirstSection p at v (init e) = May p at v v e (truth true)
FirstSection p at v (assign list) = Each (λ a. FirstAssigned p at v a.when a.target a.value) list
FirstSection p at v _ = Unit {0}

-- a variable has a value of its domain
abbrev pub Declares : Valuation → Place → Text → DeclaredTree → Type 0
Declares v at x (instance m actuals) = Unit {0}
Declares v at x boolean = IsTrue (in_domain boolean (v at x))
Declares v at x (range lo hi) = IsTrue (in_domain (range lo hi) (v at x))
Declares v at x (members ms) = IsTrue (in_domain (members ms) (v at x))

-- each variable of the section has a value of its domain
abbrev pub DomainSection : Place → Valuation → SectionTree → Type 0
DomainSection at v (var ds) = Each (λ d. Declares v at d.name d.what) ds
DomainSection at v (ivar ds) = Each (λ d. Declares v at d.name d.what) ds
DomainSection at v (frozen ds) = Each (λ d. Declares v at d.name d.what) ds
DomainSection at v _ = Unit {0}

-- x := e has x among the values of e
abbrev pub EachAssigned : ProgramTree → Place → Valuation → Moment → Path → Formula → Type 0
EachAssigned p at v Always (x ∷ []) e = May p at v v e (v at x)
EachAssigned p at v _ target e = Unit {0}

-- INVAR is TRUE, and each x := e holds
abbrev pub EachSection : ProgramTree → Place → Valuation → SectionTree → Type 0
EachSection p at v (invar e) = May p at v v e (truth true)
EachSection p at v (assign list) = Each (λ a. EachAssigned p at v a.when a.target a.value) list
EachSection p at v _ = Unit {0}

-- a frozen variable keeps its value
abbrev pub Keeps : Valuation → Valuation → Place → Text → DeclaredTree → Type 0
Keeps v w at x (instance m actuals) = Unit {0}
Keeps v w at x boolean = w at x ≡ v at x
Keeps v w at x (range lo hi) = w at x ≡ v at x
Keeps v w at x (members ms) = w at x ≡ v at x

-- next(x) := e has the next x among the values of e
abbrev pub NextAssigned : ProgramTree → Place → Valuation → Valuation → Moment → Path → Formula → Type 0
NextAssigned p at v w After (x ∷ []) e = May p at v w e (w at x)
NextAssigned p at v w _ target e = Unit {0}

-- TRANS is TRUE, each next(x) := e holds, and frozen variables keep their values
abbrev pub StepSection : ProgramTree → Place → Valuation → Valuation → SectionTree → Type 0
StepSection p at v w (trans e) = May p at v w e (truth true)
StepSection p at v w (assign list) = Each (λ a. NextAssigned p at v w a.when a.target a.value) list
StepSection p at v w (frozen ds) = Each (λ d. Keeps v w at d.name d.what) ds
StepSection p at v w _ = Unit {0}

-- the same at every instance
abbrev pub IsFirst : ProgramTree → Valuation → Type 0
IsFirst p v = (at : Place) (m : ModuleTree) → IsInstance p at m → Each (FirstSection p at v) m.sections

-- each variable has a value of its domain
abbrev pub InDomains : ProgramTree → Valuation → Type 0
InDomains p v = (at : Place) (m : ModuleTree) → IsInstance p at m → Each (DomainSection at v) m.sections

-- what each valuation must meet
abbrev pub IsInvariant : ProgramTree → Valuation → Type 0
IsInvariant p v = (at : Place) (m : ModuleTree) → IsInstance p at m → Each (EachSection p at v) m.sections

-- a valuation of the program that meets what each one must
abbrev pub IsMoment : ProgramTree → Valuation → Type 0
IsMoment p v = InDomains p v × IsInvariant p v

-- what a valuation and the next must meet
abbrev pub IsStep : ProgramTree → Valuation → Valuation → Type 0
IsStep p v w = (at : Place) (m : ModuleTree) → IsInstance p at m → Each (StepSection p at v w) m.sections

-- a trace of a program: a list of valuations that is not empty
pub record IsTrace (p : ProgramTree) (trace : List Valuation) : Type 0 where
  pub first : AtFirst (IsFirst p) trace
  pub moments : Each (IsMoment p) trace
  pub steps : EachPair (IsStep p) trace
