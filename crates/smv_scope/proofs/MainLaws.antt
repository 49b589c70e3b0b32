-- The place of the first module of a name, module by module.
use Rattle.std.proofs.Common.{◌≡◌, ℕ, suc, ◌+◌, ◌<◌, arith, Bool, true, false, List, [], ◌∷◌, length, get_or, drop, map, Some, None, if◌then◌else◌, refl, ap, ◌∙◌, sym}
use Rattle.std.proofs.lemmas.List.{drop_more}
use Rattle.smv_language.specs.declared.program.Module.{Module}
use Rattle.smv_language.specs.Language.{Text, ModuleTree, ProgramTree, module_tree, same_text, find_module}
use Rattle.smv_language.proofs.ValueLaws.{same_text_refl}
use Rattle.smv_scope.specs.SceneTree.{module_from}
use Rattle.smv_language.proofs.OneTree.{same_text_equal}

found : (k : ℕ) (m : ModuleTree) (ms : ProgramTree) (x : Text) → m.name ≡ x → Some k ≡ module_from k (m ∷ ms) x
found k m ms x same =
    sym (ap (λ b. if b then Some k else module_from (suc k) ms x) (ap (same_text m.name) (sym same) ∙ same_text_refl m.name))

skipped : (k : ℕ) (m : ModuleTree) (ms : ProgramTree) (x : Text) → (m.name ≡ x → ⊥) → module_from (suc k) ms x ≡ module_from k (m ∷ ms) x
skipped k m ms x other =
    by_test (same_text m.name x) refl
  where
    by_test : (b : Bool) → same_text m.name x ≡ b → module_from (suc k) ms x ≡ module_from k (m ∷ ms) x
    by_test true e = absurd (other (same_text_equal m.name x e))
    by_test false e = sym (ap (λ b. if b then Some k else module_from (suc k) ms x) e)

-- the module at a place is the first of its name, where none before it is
pub found_at : (ms : List Module) (k : ℕ) (d : Module) (x : Text) → k < length ms → (get_or ms k d).name ≡ x → Some k ≡ module_from k (map module_tree (drop k ms)) x
found_at ms k d x within same =
    found k (module_tree (get_or ms k d)) (map module_tree (drop (k + 1) ms)) x same
    ∙ sym (ap (λ ys. module_from k (map module_tree ys) x) (drop_more ms k d within))

pub skipped_at : (ms : List Module) (k : ℕ) (d : Module) (x : Text) → k < length ms → ((get_or ms k d).name ≡ x → ⊥) →
    module_from (k + 1) (map module_tree (drop (k + 1) ms)) x ≡ module_from k (map module_tree (drop k ms)) x
skipped_at ms k d x within other =
    let next : k + 1 ≡ suc k = omega arith in
    ap (λ n. module_from n (map module_tree (drop (k + 1) ms)) x) next
    ∙ skipped k (module_tree (get_or ms k d)) (map module_tree (drop (k + 1) ms)) x other
    ∙ sym (ap (λ ys. module_from k (map module_tree ys) x) (drop_more ms k d within))

pub nowhere : (k : ℕ) (ms : ProgramTree) (x : Text) → find_module ms x ≡ None → module_from k ms x ≡ None
nowhere k [] x e = refl
nowhere k (m ∷ ms) x e = by_test (same_text m.name x) refl (nowhere (suc k) ms x)
  where
    by_test : (b : Bool) → same_text m.name x ≡ b → (find_module ms x ≡ None → module_from (suc k) ms x ≡ None) → module_from k (m ∷ ms) x ≡ None
    by_test true t rest = let bad : Some m ≡ None = rw t at e in cc
    by_test false t rest = rw t (rest (rw t at e))
