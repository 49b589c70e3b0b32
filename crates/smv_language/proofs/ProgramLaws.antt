-- What is found in a program by its name.
use Rattle.std.proofs.Common.{◌≡◌, Bool, true, false, [], ◌∷◌, Some, refl, subst, ℕ, suc, List, None, Option}
use Rattle.smv_language.specs.ProgramTree.{Text, ModuleTree, ProgramTree, DeclaredTree}
use Rattle.smv_language.specs.Texts.{same_text, is_among}
use Rattle.smv_language.specs.Scope.{find_module, formal_from, Role, Kind, a_variable, kind_after_formals}
use Rattle.smv_language.proofs.OneTree.{same_text_equal}
use Rattle.std.proofs.lemmas.Bool.{or_parts as or_false}

-- the module of a name has the name
pub found_named : (p : ProgramTree) (x : Text) (m : ModuleTree) → find_module p x ≡ Some m → m.name ≡ x
found_named [] x m e = cc
found_named (k ∷ ms) x m e = by_name (same_text k.name x) refl (found_named ms x m)
  where
    by_name : (b : Bool) → same_text k.name x ≡ b → (find_module ms x ≡ Some m → m.name ≡ x) → m.name ≡ x
    by_name true t rest = let found : Some k ≡ Some m = rw t at e in let same : k ≡ m = cc in subst (λ (j : ModuleTree). j.name ≡ x) same (same_text_equal k.name x t)
    by_name false t rest = rest (rw t at e)

pub no_formal : (i : ℕ) (ys : List Text) (x : Text) → is_among ys x ≡ false → formal_from i ys x ≡ None
no_formal i [] x h = refl
no_formal i (y ∷ ys) x h = rw ((or_false (same_text y x) (is_among ys x) h).0) (no_formal (suc i) ys x (or_false (same_text y x) (is_among ys x) h).1)

pub after_formals : (o : Option ℕ) (k : Kind) (role : Role) (type : DeclaredTree) → kind_after_formals o k ≡ a_variable role type → k ≡ a_variable role type
after_formals None k role type e = e
after_formals (Some i) k role type e = cc
