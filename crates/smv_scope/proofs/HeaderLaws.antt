-- The rules of a module's header, from the tests of the code.
use Rattle.std.proofs.Common.{◌≡◌, ◌↔◌, ℕ, suc, Bool, true, false, IsTrue, ◌&&◌, ◌||◌, List, [], ◌∷◌, codes, refl, ap, ◌∙◌, subst}
use Rattle.smv_language.specs.Language.{Text, ModuleTree, ProgramTree, same_text, is_among}
use Rattle.smv_language.proofs.ValueLaws.{same_text_refl}
use Rattle.smv_flat_laws.specs.Rules.{main_has_parameters, double_module, has_formals, is_module_among}
use Rattle.smv_scope.specs.ModuleFaults.{told_if, told_first, header_told, texts_of}
use Rattle.smv_scope.specs.SceneTree.{module_entries}
use Rattle.smv_language.proofs.OneTree.{same_text_equal}

pub same_test : (b : Bool) (x y : Text) → (IsTrue b ↔ (x ≡ y)) → same_text x y ≡ b
same_test true x y h = subst (λ z. same_text x z ≡ true) (h.0 refl) (same_text_refl x)
same_test false x y h = by_test (same_text x y) refl
  where
    by_test : (t : Bool) → same_text x y ≡ t → same_text x y ≡ false
    by_test true e = let bad : false ≡ true = h.1 (same_text_equal x y e) in cc
    by_test false e = e

pub module_seen : (k : ℕ) (ms : ProgramTree) (x : Text) → is_module_among ms x ≡ is_among (texts_of (module_entries k ms)) x
module_seen k [] x = refl
module_seen k (m ∷ ms) x = ap (λ b. same_text m.name x || b) (module_seen (suc k) ms x)

pub header_by : (before : List ModuleTree) (header : ℕ) (m : ModuleTree) (a b : Bool) → (same_text m.name (codes "main") && has_formals m.formals) ≡ a → is_module_among before m.name ≡ b →
    header_told before header m ≡ told_first (told_if a main_has_parameters header) (told_if b double_module header)
header_by before header m a b e f =
    ap (λ x. told_first (told_if x main_has_parameters header) (told_if (is_module_among before m.name) double_module header)) e
    ∙ ap (λ y. told_first (told_if a main_has_parameters header) (told_if y double_module header)) f
