-- The names of a module, formals first, then items.
use Rattle.std.proofs.Common.{◌≡◌, ℕ, suc, List, [], ◌∷◌, ◌++◌, map, None, refl, ap, ◌∙◌, sym}
use Rattle.smv_language.specs.ProgramTree.{Text, ModuleTree}
use Rattle.smv_flat_laws.specs.Items.{Item as ItemOf, items_of}
use Rattle.smv_scope.specs.declared.fault.FlatFault.{FlatFault}
use Rattle.smv_scope.specs.declared.items.Numbered.{Numbered}
use Rattle.smv_scope.specs.declared.modules.Local.{Local}
use Rattle.smv_scope.specs.ItemTree.{numbered_tree, counted_from}
use Rattle.smv_scope.specs.ModuleFaults.{IsTold, texts_of, formals_told, items_told, names_told, item_of_numbered}
use Rattle.smv_scope.specs.SceneTree.{formal_entries, item_entries, local_entries}
use Rattle.smv_scope.proofs.ReadingLaws.{told_as, told_later, none_first}

formal_texts : (k : ℕ) (xs : List Text) → texts_of (formal_entries k xs) ≡ xs
formal_texts k [] = refl
formal_texts k (x ∷ xs) = ap (λ ys. x ∷ ys) (formal_texts (suc k) xs)

items_alone : (ns : List Numbered) (n : ℕ) (is : List ItemOf) → map numbered_tree ns ≡ counted_from n is → map item_of_numbered ns ≡ is
items_alone [] n [] e = refl
items_alone [] n (i ∷ is) e = cc
items_alone (m ∷ ns) n [] e = cc
items_alone (m ∷ ns) n (i ∷ is) e = same_both (item_of_numbered m) i (map item_of_numbered ns) is (first (numbered_tree m) (n, i) _ _ e) (items_alone ns (suc n) is (rest (numbered_tree m) (n, i) _ _ e))
  where
    same_both : (a b : ItemOf) (as' bs : List ItemOf) → a ≡ b → as' ≡ bs → a ∷ as' ≡ b ∷ bs
    same_both a b as' bs p q = cc

    first : (a b : ℕ × ItemOf) (as' bs : List (ℕ × ItemOf)) → a ∷ as' ≡ b ∷ bs → a.1 ≡ b.1
    first a b as' bs p = let q : a ≡ b = cc in ap (λ (x : ℕ × ItemOf). x.1) q

    rest : (a b : ℕ × ItemOf) (as' bs : List (ℕ × ItemOf)) → a ∷ as' ≡ b ∷ bs → as' ≡ bs
    rest a b as' bs p = cc

module _ (header : ℕ) (m : ModuleTree) (ns : List Numbered) (numbered : map numbered_tree ns ≡ counted_from (suc header) (items_of m)) (es : List (Text × Local)) (formals : es ≡ formal_entries 0 m.formals) where
  pub all_entries : (es' : List (Text × Local)) → es' ≡ es ++ item_entries 0 (map item_of_numbered ns) → es' ≡ local_entries m
  all_entries es' e =
      e ∙ ap (λ fs. fs ++ item_entries 0 (map item_of_numbered ns)) formals
      ∙ ap (λ is. formal_entries 0 m.formals ++ item_entries 0 is) (items_alone ns (suc header) (items_of m) numbered)

  items_same : items_told (texts_of es) (map numbered_tree ns) ≡ items_told m.formals (counted_from (suc header) (items_of m))
  items_same =
      ap (λ ts. items_told ts (map numbered_tree ns)) (ap texts_of formals ∙ formal_texts 0 m.formals)
      ∙ ap (items_told m.formals) numbered

  module _ (kept : formals_told header [] m.formals ≡ None) where
    pub all_kept : items_told (texts_of es) (map numbered_tree ns) ≡ None → names_told header m ≡ None
    all_kept e = none_first (formals_told header [] m.formals) (items_told m.formals (counted_from (suc header) (items_of m))) kept ∙ sym items_same ∙ e

    pub items_fault : (f : FlatFault) → IsTold (items_told (texts_of es) (map numbered_tree ns)) f → IsTold (names_told header m) f
    items_fault f h =
        told_later (formals_told header [] m.formals) (items_told m.formals (counted_from (suc header) (items_of m))) f kept
        (told_as (items_told (texts_of es) (map numbered_tree ns)) (items_told m.formals (counted_from (suc header) (items_of m))) f items_same h)
