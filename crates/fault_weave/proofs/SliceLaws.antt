-- Sections that are appended slice by slice.
use Rattle.std.proofs.Common.{◌≡◌, ℕ, ◌+◌, ◌<◌, Bool, true, false, List, [], ◌∷◌, ◌++◌, length, get_or, drop, map, refl, ◌∙◌, ap}
use Rattle.std.specs.Prelude.{flat_map, if◌then◌else◌}
use Rattle.std.proofs.lemmas.List.{append_assoc, append-nil, drop_more}
use Rattle.std.proofs.lemmas.Grind.{flat_map-append}
use Rattle.smv_language.specs.Language.{same_text, Tree, case_of, branch_then, branches_from, Text, Path, Formula, SectionTree}
use Rattle.smv_language.specs.Tree.{truth}
use Rattle.fault_instructions.specs.declared.instructions.Extension.{Extension}
use Rattle.fault_instructions.specs.Instructions.{ModeTree, SliceTree, ExtensionTree, extension_tree, slices_from}
use Rattle.fault_instructions.specs.Templates.{stands}
use Rattle.fault_weave.specs.WovenProgram.{mode_branches, own_slices}

-- the branches of a case over modes, from a list
mode_branches_from : (slice : Text) (f : ModeTree → Formula) (last : Formula) (ms : List ModeTree) →
    branches_from (map (λ m. (stands slice m.name, f m)) ms ++ (truth true, last) ∷ []) ≡ mode_branches slice f last ms
mode_branches_from slice f last [] = refl
mode_branches_from slice f last (m ∷ ms) = ap (λ more. branch_then (stands slice m.name) (f m) more) (mode_branches_from slice f last ms)

-- with what is known of the list and of the last branch
pub case_done : (slice : Text) (f : ModeTree → Formula) (last : Formula) (ms : List ModeTree) (ts : List (Tree Path × Tree Path)) (l : Formula) →
    ts ≡ map (λ m. (stands slice m.name, f m)) ms → l ≡ last → case_of (branches_from (ts ++ (truth true, l) ∷ [])) ≡ case_of (mode_branches slice f last ms)
case_done slice f last ms ts l h k =
    ap (λ us. case_of (branches_from (us ++ (truth true, l) ∷ []))) h
    ∙ ap (λ e. case_of (branches_from (map (λ m. (stands slice m.name, f m)) ms ++ (truth true, e) ∷ []))) k
    ∙ ap case_of (mode_branches_from slice f last ms)

pub own_first : (x : ExtensionTree) (xs : List ExtensionTree) (m : Text) → slices_from (x ∷ xs) m ≡ own_slices x m ++ slices_from xs m
own_first x xs m = go (same_text x.of_module m)
  where
    go : (b : Bool) → (if b then x.slices ++ slices_from xs m else slices_from xs m) ≡ (if b then x.slices else []) ++ slices_from xs m
    go true = refl
    go false = refl

-- what is left of the extensions' slices, one extension on
pub extensions_more : (f : SliceTree → List SectionTree) (m : Text) (xs : List Extension) (i : ℕ) (d : Extension) → i < length xs →
    flat_map f (slices_from (map extension_tree (drop i xs)) m)
    ≡ flat_map f (own_slices (extension_tree (get_or xs i d)) m) ++ flat_map f (slices_from (map extension_tree (drop (i + 1) xs)) m)
extensions_more f m xs i d h =
    ap (λ ys. flat_map f (slices_from (map extension_tree ys) m)) (drop_more xs i d h)
    ∙ ap (flat_map f) (own_first (extension_tree (get_or xs i d)) (map extension_tree (drop (i + 1) xs)) m)
    ∙ flat_map-append f (own_slices (extension_tree (get_or xs i d)) m) (slices_from (map extension_tree (drop (i + 1) xs)) m)

pub ruleset weave_rules = (append_assoc, append-nil, extensions_more)
