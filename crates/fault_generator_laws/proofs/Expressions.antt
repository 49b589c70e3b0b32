-- Every expression that a program of stages has under a key is made of names, TRUE, `!` and `&`.
use Rattle.std.proofs.Common.{◌≡◌, ℕ, zero, suc, ◌≤◌, arith, Bool, true, false, List, [], ◌∷◌, Option, Some, None, refl, subst}
use Rattle.std.specs.Prelude.{codes}
use Rattle.smv_language.specs.Language.{Text, Formula, DeclaredTree, boolean, range, members, instance, DeclTree, SectionTree, ModuleTree, ProgramTree, same_text, Place, Role, Kind, a_formal, a_variable, an_instance, undeclared, state, find_module, formal_from, kind_declared, kind_in_decls, kind_in_defines, kind_in_sections, kind_after_formals, kind_in, kind_at, module_of_kind, module_at, nth_formula, actual_of_kind, Key, define_key, actual_key, Each}
use Rattle.smv_language.specs.Scope.{a_define}
use Rattle.smv_flat_laws.specs.Rules.{expression_of_kind, expression_in, expression_of}
use Rattle.smv_type_laws.specs.Costs.{cost_of}
use Rattle.fault_generator.specs.Generator.{stage_name, output_of, dead_formula}
use Rattle.fault_generator_laws.proofs.Stages.{stages_from, main_of, relay_with, relay_sections, program_with}
use Rattle.fault_generator_laws.proofs.Truths.{IsLogic}
use Rattle.std.proofs.lemmas.Option.{none-some as never_some}

abbrev pub IsCheapLogic : Formula → Type 0
IsCheapLogic e = IsLogic e × (cost_of e ≤ 5)

pub output_logic : (f : Option ℕ) → IsLogic (output_of f) × (cost_of (output_of f) ≤ 1)
output_logic None = (tt, omega arith)
output_logic (Some j) = (tt, omega arith)

output_cheap : (f : Option ℕ) → IsCheapLogic (output_of f)
output_cheap f = ((output_logic f).0, omega (arith, (output_logic f).1))

pub dead_logic : (last_a last_b : Option ℕ) → IsCheapLogic (dead_formula last_a last_b)
dead_logic last_a last_b = ((tt, (output_logic last_a).0, (output_logic last_b).0), omega (arith, (output_logic last_a).1, (output_logic last_b).1))

abbrev pub IsLogicKind : Kind → Type 0
IsLogicKind (a_define e) = IsCheapLogic e
IsLogicKind (an_instance m actuals) = Each IsCheapLogic actuals
IsLogicKind (a_formal i) = Unit {0}
IsLogicKind (a_variable role type) = Unit {0}
IsLogicKind undeclared = Unit {0}

abbrev IsLogicModule : Option ModuleTree → Type 0
IsLogicModule None = Unit {0}
IsLogicModule (Some m) = (x : Text) → IsLogicKind (kind_in m x)

stages_logic : (i : ℕ) (fs : List (Option ℕ)) (x : Text) (otherwise : Kind) → IsLogicKind otherwise → IsLogicKind (kind_in_decls state (stages_from i fs) x otherwise)
stages_logic i [] x otherwise h = h
stages_logic i (f ∷ fs) x otherwise h = by_test (same_text (stage_name i) x) refl (stages_logic (suc i) fs x otherwise h)
  where
    by_test : (b : Bool) → same_text (stage_name i) x ≡ b → IsLogicKind (kind_in_decls state (stages_from (suc i) fs) x otherwise) → IsLogicKind (kind_in_decls state (stages_from i (f ∷ fs)) x otherwise)
    by_test true e later = rw e (output_cheap f, tt)
    by_test false e later = rw e later

defines_logic : (last_a last_b : Option ℕ) (x : Text) → IsLogicKind (kind_in_defines (record { name = codes "dead"; value = dead_formula last_a last_b } ∷ []) x undeclared)
defines_logic last_a last_b x = by_test (same_text (codes "dead") x) refl
  where
    by_test : (b : Bool) → same_text (codes "dead") x ≡ b → IsLogicKind (kind_in_defines (record { name = codes "dead"; value = dead_formula last_a last_b } ∷ []) x undeclared)
    by_test true e = rw e (dead_logic last_a last_b)
    by_test false e = rw e tt

-- no instance
abbrev IsOfVariable : DeclTree → Type 0
IsOfVariable d = elim d.what [ boolean ↦ Unit {0} | range lo hi ↦ Unit {0} | members ms ↦ Unit {0} | instance m actuals ↦ ⊥ ]

variable_logic : (role : Role) (name : Text) (what : DeclaredTree) → IsOfVariable (record { name = name; what = what }) → IsLogicKind (kind_declared role what)
variable_logic role name boolean h = tt
variable_logic role name (range lo hi) h = tt
variable_logic role name (members ms) h = tt
variable_logic role name (instance m actuals) h = absurd h

pub variables_logic : (role : Role) (ds : List DeclTree) (x : Text) (otherwise : Kind) → Each IsOfVariable ds → IsLogicKind otherwise → IsLogicKind (kind_in_decls role ds x otherwise)
variables_logic role [] x otherwise h k = k
variables_logic role (d ∷ ds) x otherwise h k = by_test (same_text d.name x) refl (variables_logic role ds x otherwise h.1 k)
  where
    by_test : (b : Bool) → same_text d.name x ≡ b → IsLogicKind (kind_in_decls role ds x otherwise) → IsLogicKind (kind_in_decls role (d ∷ ds) x otherwise)
    by_test true e later = rw e (variable_logic role d.name d.what h.0)
    by_test false e later = rw e later

pub formals_logic : (o : Option ℕ) (k : Kind) → IsLogicKind k → IsLogicKind (kind_after_formals o k)
formals_logic None k h = h
formals_logic (Some i) k h = tt

pub relay_logic : (x : Text) → IsLogicKind (kind_in (relay_with relay_sections) x)
relay_logic x =
    formals_logic (formal_from 0 (codes "feed" ∷ []) x) (kind_in_sections relay_sections x) (variables_logic state (record { name = codes "out"; what = boolean } ∷ []) x undeclared (tt, tt) tt)

abbrev IsCheapIn : Option (Place × Formula) → Type 0
IsCheapIn None = ⊥
IsCheapIn (Some at_e) = IsCheapLogic at_e.1

-- an actual of a list
nth_logic : (actuals : List Formula) (i : ℕ) (caller at : Place) (e : Formula) → Each IsCheapLogic actuals → expression_in caller (nth_formula actuals i) ≡ Some (at, e) → IsCheapLogic e
nth_logic [] i caller at e h found = absurd (never_some (at, e) found)
nth_logic (a ∷ actuals) zero caller at e h found = subst IsCheapIn found h.0
nth_logic (a ∷ actuals) (suc i) caller at e h found = nth_logic actuals i caller at e h.1 found

define_logic : (k : Kind) (bt at : Place) (e : Formula) → IsLogicKind k → expression_of_kind bt k ≡ Some (at, e) → IsCheapLogic e
define_logic (a_define f) bt at e h found = subst IsCheapIn found h
define_logic (an_instance m actuals) bt at e h found = absurd (never_some (at, e) found)
define_logic (a_formal i) bt at e h found = absurd (never_some (at, e) found)
define_logic (a_variable role type) bt at e h found = absurd (never_some (at, e) found)
define_logic undeclared bt at e h found = absurd (never_some (at, e) found)

actual_logic : (k : Kind) (i : ℕ) (caller at : Place) (e : Formula) → IsLogicKind k → expression_in caller (actual_of_kind k i) ≡ Some (at, e) → IsCheapLogic e
actual_logic (an_instance m actuals) i caller at e h found = nth_logic actuals i caller at e h found
actual_logic (a_define f) i caller at e h found = absurd (never_some (at, e) found)
actual_logic (a_formal j) i caller at e h found = absurd (never_some (at, e) found)
actual_logic (a_variable role type) i caller at e h found = absurd (never_some (at, e) found)
actual_logic undeclared i caller at e h found = absurd (never_some (at, e) found)

module _ (sections : List SectionTree) (fs : List (Option ℕ)) (last_a last_b : Option ℕ) (relays : (x : Text) → IsLogicKind (kind_in (relay_with sections) x)) where
  abbrev p : ProgramTree
  p = program_with sections fs last_a last_b

  main_logic : (x : Text) → IsLogicKind (kind_in (main_of fs last_a last_b) x)
  main_logic x = stages_logic 1 fs x (kind_in_defines (record { name = codes "dead"; value = dead_formula last_a last_b } ∷ []) x undeclared) (defines_logic last_a last_b x)

  found_logic : (x : Text) → IsLogicModule (find_module p x)
  found_logic x = by_relay (same_text (codes "Relay") x) refl
    where
      by_main : (b : Bool) → same_text (codes "Relay") x ≡ false → same_text (codes "main") x ≡ b → IsLogicModule (find_module p x)
      by_main true h e = rw (h, e) main_logic
      by_main false h e = rw (h, e) tt

      by_relay : (b : Bool) → same_text (codes "Relay") x ≡ b → IsLogicModule (find_module p x)
      by_relay true e = rw e relays
      by_relay false e = by_main (same_text (codes "main") x) e refl

  of_kind_logic : (k : Kind) → IsLogicModule (module_of_kind p k)
  of_kind_logic (an_instance m actuals) = found_logic m
  of_kind_logic (a_define f) = tt
  of_kind_logic (a_formal i) = tt
  of_kind_logic (a_variable role type) = tt
  of_kind_logic undeclared = tt

  module_logic : (at : Place) → IsLogicModule (module_at p at)
  module_logic [] = found_logic (codes "main")
  module_logic (x ∷ at) = of_kind_logic (kind_at (module_at p at) x)

  kind_logic : (at : Place) (x : Text) → IsLogicKind (kind_at (module_at p at) x)
  kind_logic at x = by_module (module_at p at) (module_logic at)
    where
      by_module : (o : Option ModuleTree) → IsLogicModule o → IsLogicKind (kind_at o x)
      by_module None h = tt
      by_module (Some m) h = h x

  pub expression_logic : (key : Key) (at : Place) (e : Formula) → expression_of p key ≡ Some (at, e) → IsCheapLogic e
  expression_logic (define_key bt x) at e h = define_logic (kind_at (module_at p bt) x) bt at e (kind_logic bt x) h
  expression_logic (actual_key [] i) at e h = absurd (never_some (at, e) h)
  expression_logic (actual_key (own ∷ caller) i) at e h = actual_logic (kind_at (module_at p caller) own) i caller at e (kind_logic caller own) h
