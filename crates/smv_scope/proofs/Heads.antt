-- A formal is one of a number at the instance of a number, and each is so once.
use Rattle.std.proofs.Common.{◌≡◌, ℕ, zero, suc, Bool, true, false, ◌||◌, List, [], ◌∷◌, Some, refl, sym, ◌∙◌, ap}
use Rattle.std.specs.Prelude.{slice_get}
use Rattle.smv_language.specs.Language.{Text, instance, ModuleTree, ProgramTree, same_text, is_among, Place, find_module, FlatInstance}
use Rattle.smv_language.proofs.ValueLaws.{same_text_refl}
use Rattle.smv_flat_laws.specs.Items.{instances_of}
use Rattle.smv_flat_laws.specs.Rules.{has_twice, IsWalkable}
use Rattle.smv_scope.specs.KnownFormals.{IsHead}
use Rattle.smv_scope.proofs.LookSplit.{never}
use Rattle.smv_flat_laws.proofs.KeysApart.{one_number}
use Rattle.smv_flat_laws.proofs.Meant.{formals_once}
use Rattle.std.proofs.lemmas.Option.{same_Some as of_some}
use Rattle.std.proofs.lemmas.Bool.{or_parts as neither}
use Rattle.smv_language.proofs.BoolLaws.{not_both}

-- no two formals of a module have one name
pub among_there : (xs : List Text) (j : ℕ) (x : Text) → slice_get xs j ≡ Some x → is_among xs x ≡ true
among_there [] j x e = never x e
among_there (y ∷ xs) zero x e = rw (of_some y x e, same_text_refl x) refl
among_there (y ∷ xs) (suc j) x e = rw (among_there xs j x e) (or_true (same_text y x))
  where
    or_true : (b : Bool) → (b || true) ≡ true
    or_true true = refl
    or_true false = refl

pub formal_number : (xs : List Text) (i j : ℕ) (x : Text) → has_twice xs ≡ false → slice_get xs i ≡ Some x → slice_get xs j ≡ Some x → i ≡ j
formal_number [] i j x h e f = never x e
formal_number (y ∷ xs) zero zero x h e f = refl
formal_number (y ∷ xs) zero (suc j) x h e f =
    let s : (is_among xs y ≡ false) × (has_twice xs ≡ false) = neither _ _ h in
    absurd (not_both (is_among xs x) (among_there xs j x f) (ap (is_among xs) (sym (of_some y x e)) ∙ s.0))
formal_number (y ∷ xs) (suc i) zero x h e f =
    let s : (is_among xs y ≡ false) × (has_twice xs ≡ false) = neither _ _ h in
    absurd (not_both (is_among xs x) (among_there xs i x e) (ap (is_among xs) (sym (of_some y x f)) ∙ s.0))
formal_number (y ∷ xs) (suc i) (suc j) x h e f =
    let s : (is_among xs y ≡ false) × (has_twice xs ≡ false) = neither _ _ h in ap suc (formal_number xs i j x s.1 e f)

-- the place and the name by the numbers
pub head_place : (p : ProgramTree) (k i : ℕ) (at at' : Place) (x x' : Text) → IsHead p k i at x → IsHead p k i at' x' → (at ≡ at') × (x ≡ x')
head_place p k i at at' x x' h g =
    let same : h.instance ≡ g.instance = of_some h.instance g.instance (sym h.is ∙ g.is) in
    let tree : h.tree ≡ g.tree = of_some h.tree g.tree (sym h.named ∙ ap (λ (a : FlatInstance). find_module p a.module_name) same ∙ g.named) in (
      sym h.place ∙ ap (λ (a : FlatInstance). a.place) same ∙ g.place,
      of_some x x' (sym h.formal ∙ ap (λ (t : ModuleTree). slice_get t.formals i) tree ∙ g.formal),
    )

-- the numbers by the place and the name
pub head_numbers : (p : ProgramTree) → IsWalkable p → (k i k' i' : ℕ) (at : Place) (x : Text) → IsHead p k i at x → IsHead p k' i' at x → (k ≡ k') × (i ≡ i')
head_numbers p walkable k i k' i' at x h g =
    let spot : k ≡ k' = one_number p walkable k k' h.instance g.instance h.is g.is (h.place ∙ sym g.place) in
    let same : h.instance ≡ g.instance = of_some h.instance g.instance (sym h.is ∙ ap (slice_get (instances_of p)) spot ∙ g.is) in
    let tree : h.tree ≡ g.tree = of_some h.tree g.tree (sym h.named ∙ ap (λ (a : FlatInstance). find_module p a.module_name) same ∙ g.named) in (
      spot,
      formal_number g.tree.formals i i' x (formals_once p walkable g.instance.module_name g.tree g.named) (ap (λ (t : ModuleTree). slice_get t.formals i) (sym tree) ∙ h.formal) g.formal,
    )
