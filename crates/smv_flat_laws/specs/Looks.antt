-- A look-up step by step, and when it comes back to a formal.
use Rattle.std.specs.Prelude.{◌≡◌, ℕ, zero, suc, List, [], ◌∷◌, ◌++◌, Option, Some, None}
use Rattle.smv_language.specs.Language.{leaf, Text, Path, Formula, ModuleTree, ProgramTree, IsInstance, Place, Kind, a_formal, a_variable}
use Rattle.smv_language.specs.Language.{an_instance, undeclared, plain_name, nth_formula, kind_in, kind_at, module_at, actual_of_kind}
use Rattle.smv_language.specs.Language.{means_in, Meaning, Means}
use Rattle.smv_language.specs.Scope.{a_define}

-- a name that is looked up at an instance
pub record Look : Type 0 where
  pub place : Place
  pub name : Path

-- the actual of a formal in place of the formal, where the actual is a plain name
abbrev pub at_actual : Place → Option Path → Path → Option Look
at_actual caller (Some []) rest = None
at_actual caller (Some (x ∷ name)) rest = Some (record { place = caller; name = x ∷ (name ++ rest) })
at_actual caller None rest = None

-- the name that an actual is, where it is one
abbrev pub plain_of : Option Formula → Option Path
plain_of None = None
plain_of (Some e) = plain_name e

-- a formal goes on at its actual, in the instance that has this one
abbrev pub step_formal : ProgramTree → Place → ℕ → Path → Option Look
step_formal p [] i rest = None
step_formal p (own ∷ caller) i rest = at_actual caller (plain_of (actual_of_kind (kind_at (module_at p caller) own) i)) rest

-- how a look-up goes on from a name of this kind
abbrev pub step_kind : ProgramTree → Place → Kind → Text → Path → Option Look
step_kind p at (a_formal i) x rest = step_formal p at i rest
step_kind p at (an_instance m actuals) x [] = None
step_kind p at (an_instance m actuals) x (y ∷ rest) = Some (record { place = x ∷ at; name = y ∷ rest })
step_kind p at (a_variable role what) x rest = None
step_kind p at (a_define e) x rest = None
step_kind p at undeclared x rest = None

-- where a look-up goes on: at the actual of a formal, and in an instance
abbrev pub step_of : ProgramTree → Place → Path → Option Look
step_of p at [] = None
step_of p at (x ∷ rest) = step_kind p at (kind_at (module_at p at) x) x rest

-- one step more, where there is one
abbrev pub step_on : ProgramTree → Option Look → Option Look
step_on p None = None
step_on p (Some l) = step_of p l.place l.name

-- a look-up after so many steps
abbrev pub look_after : ℕ → ProgramTree → Place → Path → Option Look
look_after zero p at name = Some (record { place = at; name = name })
look_after (suc n) p at name = step_on p (look_after n p at name)

-- the look-up of a formal comes back to that formal
abbrev pub ComesBack : ProgramTree → Place → Text → Type 0
ComesBack p at x = (n : ℕ) × (rest : Path) × (look_after (suc n) p at (x ∷ []) ≡ Some (record { place = at; name = x ∷ rest }))

-- the look-up of a name meets a formal whose look-up comes back to it
abbrev pub MeetsLoop : ProgramTree → Place → Path → Type 0
MeetsLoop p at name =
    (n : ℕ) × (at' : Place) × (x : Text) × (rest : Path) × (look_after n p at name ≡ Some (record { place = at'; name = x ∷ rest }))
    × ComesBack p at' x

-- the name means nothing, and no loop is to blame
pub record MeansNothing (p : ProgramTree) (at : Place) (name : Path) : Type 0 where
  pub no_meaning : (n : ℕ) → means_in n p at name ≡ None
  pub no_loop : MeetsLoop p at name → ⊥

-- each actual that is a name means something where it is written
abbrev pub ActualsMean : ProgramTree → Type 0
ActualsMean p =
    (at : Place) (m : ModuleTree) → IsInstance p at m → (x n : Text) (actuals : List Formula) → kind_in m x ≡ an_instance n actuals →
    (k : ℕ) (name : Path) → nth_formula actuals k ≡ Some (leaf name) →
    (meaning : Meaning) × Means p at name meaning
