-- The symbols of the modules that are read are those of the program.
use Rattle.std.proofs.Common.{◌≡◌, ℕ, suc, ◌+◌, List, [], ◌∷◌, ◌++◌, length, map, refl, ◌∙◌, ap}
use Rattle.std.specs.Prelude.{flat_map}
use Rattle.smv_language.specs.Language.{Text, ModuleTree, program_tree, EachBoth}
use Rattle.smv_flat_laws.specs.Items.{Item, NumberedModule, items_of, numbered_from, modules_from, modules_of}
use Rattle.smv_flat_laws.specs.Model.{symbols_of_item, first_appearances, symbols_of, symbols_of_module}
use Rattle.smv_scope.specs.ItemTree.{numbered_tree}
use Rattle.smv_scope.specs.Symbols.{symbols_of_numbered, symbols_in}
use Rattle.smv_scope.specs.SceneTree.{HasNames, AreModules, number_and_item}
use Rattle.smv_scope.specs.declared.items.Numbered.{Numbered}
use Rattle.smv_scope.specs.declared.modules.ModuleNames.{ModuleNames}
use Rattle.smv_scope.specs.declared.modules.Modules.{Modules}

-- the symbols of items with numbers
abbrev symbols_of_pairs : List (ℕ × Item) → List Text
symbols_of_pairs ps = flat_map (λ (q : ℕ × Item). symbols_of_item q.1) ps

numbered_symbols : (ns : List Numbered) → flat_map symbols_of_numbered ns ≡ symbols_of_pairs (map numbered_tree ns)
numbered_symbols [] = refl
numbered_symbols (n ∷ ns) = ap (λ xs. symbols_of_numbered n ++ xs) (numbered_symbols ns)

item_symbols : (n : ℕ) (before is : List Item) → symbols_of_pairs (map number_and_item (numbered_from n before is)) ≡ flat_map symbols_of_item is
item_symbols n before [] = refl
item_symbols n before (i ∷ is) = ap (λ xs. symbols_of_item i ++ xs) (item_symbols (suc n) (before ++ i ∷ []) is)

names_symbols : (m : NumberedModule) (names : ModuleNames) → HasNames m names → symbols_in names ≡ flat_map symbols_of_item (items_of m.tree)
names_symbols m names has = numbered_symbols names.items.items ∙ ap symbols_of_pairs has.items ∙ item_symbols (suc m.number) [] (items_of m.tree)

list_symbols : (ms : List NumberedModule) (list : List ModuleNames) → EachBoth HasNames ms list → flat_map symbols_in list ≡ flat_map (λ (m : NumberedModule). symbols_of_module m.tree) ms
list_symbols [] [] has = refl
list_symbols [] (n ∷ ns) has = absurd has
list_symbols (m ∷ ms) [] has = absurd has
list_symbols (m ∷ ms) (n ∷ ns) has = ap (λ xs. xs ++ flat_map symbols_in ns) (names_symbols m n has.0) ∙ ap (λ xs. symbols_of_module m.tree ++ xs) (list_symbols ms ns has.1)

tree_symbols : (n : ℕ) (before p : List ModuleTree) → flat_map (λ (m : NumberedModule). symbols_of_module m.tree) (modules_from n before p) ≡ flat_map symbols_of_module p
tree_symbols n before [] = refl
tree_symbols n before (m ∷ ms) = ap (λ xs. symbols_of_module m ++ xs) (tree_symbols (n + suc (length (items_of m))) (before ++ m ∷ []) ms)

pub symbols_are : (ms : Modules) → AreModules ms → first_appearances [] (flat_map symbols_in ms.list.items) ≡ symbols_of (program_tree ms.program.now)
symbols_are ms are =
    ap (first_appearances []) (list_symbols (modules_of (program_tree ms.program.now)) ms.list.items are.list ∙ tree_symbols 1 [] (program_tree ms.program.now))
