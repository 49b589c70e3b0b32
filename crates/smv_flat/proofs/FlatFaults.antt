-- Want of memory is always a fault, and of an accepted program it is the only one.
use Rattle.std.proofs.Common.{◌≡◌, ℕ, suc, Bool, true, false, [], ◌∷◌, ◌++◌, Option, Some, None, refl, sym, ◌∙◌, ap, subst, if◌then◌else◌, arith}
use Rattle.std.specs.Prelude.{codes, IfSome, IfOk, IfErr, IsTrue, ◌<◌}
use Rattle.std.specs.declared.result.Result.{Result}
use Rattle.std.specs.declared.result.Result.TheVariants.{Ok, Err}
use Rattle.smv_language.specs.Language.{Text, ModuleTree, ProgramTree, same_text, find_module, is_missing}
use Rattle.smv_flat_laws.specs.Rules as rules
use Rattle.smv_flat_laws.specs.Rules.{IsFirstBroken, IsAccepted, use_sites}
use Rattle.smv_flat_laws.specs.Items.{visits}
use Rattle.smv_flat_laws.proofs.Laws.{accepted_unbroken}
use Rattle.smv_scope.specs.declared.fault.FlatFault.{FlatFault}
use Rattle.smv_scope.specs.Faults.{rule_of, IsFaultOf, IsWant}
use Rattle.smv_scope.specs.SceneTree.{module_from}

pub want_fault : (p : ProgramTree) (f : FlatFault) → IsWant f → IsFaultOf p f
want_fault p f want = subst (λ r. IfSome (rule_of r) (λ r. IsFirstBroken p r f.item)) (sym want) tt

-- a fault of an accepted program breaks no rule
pub no_rule : (p : ProgramTree) (f : FlatFault) → IsAccepted p → IsFaultOf p f → rule_of f.rule ≡ None
no_rule p f accepted fault = by_rule (rule_of f.rule) fault
  where
    by_rule : (o : Option rules.Rule) → IfSome o (λ r. IsFirstBroken p r f.item) → o ≡ None
    by_rule None h = refl
    by_rule (Some r) h = absurd (accepted_unbroken p r f.item accepted h)

pub ok_always : {T E : Type 0} (r : Result T E) (A : Type 0) → A → IfOk r (λ _. A)
ok_always (Ok x) A a = a
ok_always (Err e) A a = tt

pub no_place : (k : ℕ) (p : ProgramTree) (x : Text) → module_from k p x ≡ None → find_module p x ≡ None
no_place k [] x e = refl
no_place k (m ∷ ms) x e = by_name (same_text m.name x) refl (λ h. no_place (suc k) ms x h)
  where
    by_name : (b : Bool) → same_text m.name x ≡ b → (module_from (suc k) ms x ≡ None → find_module ms x ≡ None) → find_module (m ∷ ms) x ≡ None
    by_name true t rest = let bad : Some k ≡ None = rw t at e in cc
    by_name false t rest = ap (λ b. if b then Some m else find_module ms x) t ∙ rest (rw t at e)

pub place_found : (k : ℕ) (p : ProgramTree) (x : Text) (j : ℕ) → module_from k p x ≡ Some j → find_module p x ≡ None → ⊥
place_found k [] x j e f = cc
place_found k (m ∷ ms) x j e f = by_name (same_text m.name x) refl (λ g h. place_found (suc k) ms x j g h)
  where
    by_name : (b : Bool) → same_text m.name x ≡ b → (module_from (suc k) ms x ≡ Some j → find_module ms x ≡ None → ⊥) → ⊥
    by_name true t rest = let bad : Some m ≡ None = sym (ap (λ b. if b then Some m else find_module ms x) t) ∙ f in cc
    by_name false t rest = rest (sym (ap (λ b. if b then Some k else module_from (suc k) ms x) t) ∙ e) (sym (ap (λ b. if b then Some m else find_module ms x) t) ∙ f)

-- that there is no module `main` is the first of all rules
pub no_main_fault : (p : ProgramTree) → find_module p (codes "main") ≡ None → IsFirstBroken p rules.no_main 0
no_main_fault p e = record {
  before = [];
  site = rules.the_program;
  after = rules.module_sites p ++ (rules.visit_sites [] (visits p) ++ rules.use_sites p);
  in_order = refl;
  kept_before = tt;
  broken = subst (λ o. IsTrue (is_missing o)) (sym e) refl;
  lowest = λ other less. absurd (none_lower other less);
  at_item = refl;
}
  where
    none_lower : (other : rules.Rule) → rules.number_of other < 1 → ⊥
    none_lower rules.no_main h = omega (arith, h)
    none_lower rules.main_has_parameters h = omega (arith, h)
    none_lower rules.double_module h = omega (arith, h)
    none_lower rules.double_name h = omega (arith, h)
    none_lower rules.no_such_module h = omega (arith, h)
    none_lower rules.wrong_count h = omega (arith, h)
    none_lower rules.module_loop h = omega (arith, h)
    none_lower rules.no_such_name h = omega (arith, h)
    none_lower rules.not_a_target h = omega (arith, h)
    none_lower rules.double_assign h = omega (arith, h)
    none_lower rules.define_loop h = omega (arith, h)
    none_lower rules.next_here h = omega (arith, h)
    none_lower rules.input_here h = omega (arith, h)
    none_lower rules.too_many h = omega (arith, h)

pub told_no_main : (p : ProgramTree) (item : ℕ) → IsFirstBroken p rules.no_main item → find_module p (codes "main") ≡ None
told_no_main p item b = by_site b.site b.broken
  where
    missing : (o : Option ModuleTree) → IsTrue (is_missing o) → o ≡ None
    missing None h = refl
    missing (Some m) h = cc

    by_site : (s : rules.Site) → rules.Breaks p rules.no_main s → find_module p (codes "main") ≡ None
    by_site rules.the_program h = missing (find_module p (codes "main")) h
    by_site (rules.a_header m) h = absurd h
    by_site (rules.an_item m i) h = absurd h
    by_site (rules.a_visit before v) h = absurd h
    by_site (rules.a_use at i) h = absurd h

pub err_weaker : {T E : Type 0} (r : Result T E) (P Q : E → Type 0) → ((e : E) → P e → Q e) → IfErr r P → IfErr r Q
err_weaker (Ok x) P Q f h = tt
err_weaker (Err e) P Q f h = f e h
