-- What is resolved in a program's flat model is resolved in that of the woven program, too.
use Rattle.std.proofs.Common.{◌≡◌, ◌⊎◌, inl, inr, ℕ, zero, suc, Bool, true, false, List, [], ◌∷◌, ◌++◌, map, flat_map, Option, Some, None, refl, sym, ap, ◌∙◌, subst}
use Rattle.std.specs.Prelude.{slice_get, if◌then◌else◌}
use Rattle.std.proofs.lemmas.Grind.{flat_map-append}
use Rattle.smv_language.specs.Language.{Tree, Trees, Branches, leaf, not_of, negate, next_of, binary, choice, case_of, set_of, span, no_tree, tree_then, no_branch, branch_then, AllLeaves, AllLeavesOfTrees, AllLeavesOfBranches, tree_map, trees_map, branches_map, Text, Path, Formula, ModuleTree, ProgramTree, is_among, Place, Key, Meaning, a_variable_at, an_expression_at, an_instance_at, Each, IsInstance, IsVariable, FlatLeaf, flat_variable, flat_symbol, flat_definition, FlatVariable, FlatFormula, FlatModel}
use Rattle.smv_language.specs.Tree.{truth as is_truth, number as is_number}
use Rattle.smv_language.specs.Scope.{a_symbol}
use Rattle.fault_instructions.specs.Instructions.{InstructionTree, is_affected}
use Rattle.fault_weave.specs.WovenProgram.{added_sections, woven_module, woven}
use Rattle.fault_weave.proofs.WovenMoments.{all_instances}
use Rattle.smv_flat_laws.specs.Items.{Item, a_declaration, a_definition, an_assignment, some_constants, an_init, an_invar, a_trans, items_of_section, items_of}
use Rattle.smv_flat_laws.specs.Model.{first_appearances, symbols_of_item, symbols_of, Root, roots_of, IsDefinitionOf, symbols_of_module}
use Rattle.smv_flat_laws.specs.NameResolution.{Definition, StandsFor, IsLeafOf, Resolver, IsSound, IsResolved}
use Rattle.smv_flat_laws.specs.Rules.{expression_of}
use Rattle.smv_flat_laws.proofs.Conditions.{each_at, each_from}
use Rattle.smv_flat_laws.proofs.Listed.{root_written}
use Rattle.smv_flat_laws.proofs.Lists.{each_more, each_of_map}
use Rattle.smv_flat_laws.proofs.OneModel.{one_written}
use Rattle.smv_flat_laws.proofs.Places.{In, in_left, in_right}
use Rattle.smv_flat_laws.proofs.Reaches.{each_left}
use Rattle.smv_flat_laws.proofs.Variables.{both_at, variables_are}
use Rattle.smv_type_laws.proofs.ModelLaws.{all_leaves_more}
use Rattle.fault_woven_laws.proofs.Definitions.{expression_same, means_woven, variable_woven}
use Rattle.smv_type_laws.proofs.Leaves.{HasLeaf, has_leaves, declared_so}
use Rattle.fault_woven_laws.proofs.WovenModel.{ItemHas, roots_down, roots_up}
use Rattle.fault_woven_laws.specs.Tops.{HaveFlatModels}
use Rattle.fault_woven_laws.specs.WovenTopsLaws.{WovenResolves}
use Rattle.fault_woven_laws.proofs.WovenNamesItems.{woven_item, sections_woven}
use Rattle.smv_flat_laws.proofs.OneTree.{leaf_or}
use Rattle.smv_flat_laws.proofs.Found.{appears}

-- Symbols: those of the program are symbols of the woven program.
in_parts : {A : Type 0} (y : A) (xs ys : List A) → In y (xs ++ ys) → In y xs ⊎ In y ys
in_parts y [] ys h = inr h
in_parts y (x ∷ xs) ys (zero, e) = inl (0, e)
in_parts y (x ∷ xs) ys (suc j, e) = by (in_parts y xs ys (j, e))
  where
    by : In y xs ⊎ In y ys → In y (x ∷ xs) ⊎ In y ys
    by (inl h) = inl (suc h.0, h.1)
    by (inr h) = inr h

appeared : (seen xs : List Text) (y : Text) → In y (first_appearances seen xs) → In y seen ⊎ In y xs
appeared seen [] y h = inl h
appeared seen (x ∷ xs) y h = by (is_among seen x) (appeared (if is_among seen x then seen else seen ++ x ∷ []) xs y h)
  where
    last : In y seen ⊎ In y (x ∷ []) → In y seen ⊎ In y (x ∷ xs)
    last (inl k) = inl k
    last (inr k) = inr (in_left y (x ∷ []) xs k)

    by : (b : Bool) → In y (if b then seen else seen ++ x ∷ []) ⊎ In y xs → In y seen ⊎ In y (x ∷ xs)
    by true (inl k) = inl k
    by true (inr k) = inr (suc k.0, k.1)
    by false (inl k) = last (in_parts y seen (x ∷ []) k)
    by false (inr k) = inr (suc k.0, k.1)

item_symbols : (affected : Text → Bool) (item : Item) → symbols_of_item (woven_item affected item) ≡ symbols_of_item item
item_symbols affected (a_declaration role d) = refl
item_symbols affected (a_definition d) = refl
item_symbols affected (an_assignment a) = refl
item_symbols affected (some_constants xs) = refl
item_symbols affected (an_init e) = refl
item_symbols affected (an_invar e) = refl
item_symbols affected (a_trans e) = refl

items_symbols : (affected : Text → Bool) (items : List Item) → flat_map symbols_of_item (map (woven_item affected) items) ≡ flat_map symbols_of_item items
items_symbols affected [] = refl
items_symbols affected (item ∷ items) = λ j. item_symbols affected item j ++ items_symbols affected items j

module_keeps : (i : InstructionTree) (k : ModuleTree) (y : Text) → In y (symbols_of_module k) → In y (symbols_of_module (woven_module i k))
module_keeps i k y h =
    let affected = is_affected i k.name in
    let more : List Item = flat_map items_of_section (added_sections i k) in
    subst (λ (items : List Item). In y (flat_map symbols_of_item items)) (sym (sections_woven affected k.sections (added_sections i k)))
    (subst (λ (xs : List Text). In y xs) (sym (flat_map-append symbols_of_item (map (woven_item affected) (items_of k)) more))
    (in_left y (flat_map symbols_of_item (map (woven_item affected) (items_of k))) (flat_map symbols_of_item more)
    (subst (λ (xs : List Text). In y xs) (sym (items_symbols affected (items_of k))) h)))

modules_keep : (q : ProgramTree) (i : InstructionTree) (y : Text) → In y (flat_map symbols_of_module q) → In y (flat_map symbols_of_module (woven q i))
modules_keep [] i y h = h
modules_keep (k ∷ q) i y h = by (in_parts y (symbols_of_module k) (flat_map symbols_of_module q) h) (modules_keep q i y)
  where
    by : In y (symbols_of_module k) ⊎ In y (flat_map symbols_of_module q) → (In y (flat_map symbols_of_module q) → In y (flat_map symbols_of_module (woven q i))) → In y (flat_map symbols_of_module (woven (k ∷ q) i))
    by (inl h) more = in_left y (symbols_of_module (woven_module i k)) (flat_map symbols_of_module (woven q i)) (module_keeps i k y h)
    by (inr h) more = in_right y (symbols_of_module (woven_module i k)) (flat_map symbols_of_module (woven q i)) (more h)

symbols_keep : (p : ProgramTree) (i : InstructionTree) (y : Text) → In y (symbols_of p) → In y (symbols_of (woven p i))
symbols_keep p i y h = by (appeared [] (flat_map symbols_of_module p) y h)
  where
    by : In y [] ⊎ In y (flat_map symbols_of_module p) → In y (symbols_of (woven p i))
    by (inl k) = let none : None ≡ Some y = k.1 in cc
    by (inr k) = appears [] (flat_map symbols_of_module (woven p i)) y (inr (modules_keep p i y k))

-- Definitions: an item that is woven has the definitions of the item.
has_woven : (G : Key → Type 0) (affected : Text → Bool) (at : Place) (item : Item) → ItemHas G at (woven_item affected item) → ItemHas G at item
has_woven G affected at (a_declaration role d) h = h
has_woven G affected at (a_definition d) h = h
has_woven G affected at (an_assignment a) h = h
has_woven G affected at (some_constants xs) h = h
has_woven G affected at (an_init e) h = h
has_woven G affected at (an_invar e) h = h
has_woven G affected at (a_trans e) h = h

parts_same : (x y : Place × Formula) → Some x ≡ Some y → (x.0 ≡ y.0) × (x.1 ≡ y.1)
parts_same x y h = let same : x ≡ y = cc in (ap (λ (z : Place × Formula). z.0) same, ap (λ (z : Place × Formula). z.1) same)

abbrev tree_by : (Path → Option FlatLeaf) → Formula → Tree FlatLeaf
tree_by q e = tree_map (λ name. leaf_or (q name)) e

leaf_there : (o : Option FlatLeaf) (l : FlatLeaf) → o ≡ Some l → Some (leaf_or o) ≡ o
leaf_there o l e = ap (λ x. Some (leaf_or x)) e ∙ sym e

-- an expression all of whose names have leaves is resolved
mutual
  tree_made : (q : Path → Option FlatLeaf) (e : Formula) → AllLeaves (HasLeaf q) e → tree_map Some (tree_map (λ name. leaf_or (q name)) e) ≡ tree_map q e
  tree_made q (is_truth b) h = refl
  tree_made q (is_number n) h = refl
  tree_made q (leaf name) h = ap leaf (leaf_there (q name) h.0 h.1)
  tree_made q (not_of a) h = ap not_of (tree_made q a h)
  tree_made q (negate a) h = ap negate (tree_made q a h)
  tree_made q (next_of a) h = ap next_of (tree_made q a h)
  tree_made q (binary o a b) h = λ j. binary o (tree_made q a h.0 j) (tree_made q b h.1 j)
  tree_made q (choice c a b) h = λ j. choice (tree_made q c h.0 j) (tree_made q a h.1 j) (tree_made q b h.2 j)
  tree_made q (case_of bs) h = ap case_of (branches_made q bs h)
  tree_made q (set_of ts) h = ap set_of (trees_made q ts h)
  tree_made q (span lo hi) h = refl

  trees_made : (q : Path → Option FlatLeaf) (ts : Trees Path) → AllLeavesOfTrees (HasLeaf q) ts → trees_map Some (trees_map (λ name. leaf_or (q name)) ts) ≡ trees_map q ts
  trees_made q no_tree h = refl
  trees_made q (tree_then t ts) h = λ j. tree_then (tree_made q t h.0 j) (trees_made q ts h.1 j)

  branches_made : (q : Path → Option FlatLeaf) (bs : Branches Path) → AllLeavesOfBranches (HasLeaf q) bs → branches_map Some (branches_map (λ name. leaf_or (q name)) bs) ≡ branches_map q bs
  branches_made q no_branch h = refl
  branches_made q (branch_then c a bs) h = λ j. branch_then (tree_made q c h.0 j) (tree_made q a h.1 j) (branches_made q bs h.2 j)

module _ (p : ProgramTree) (m : FlatModel) (i : InstructionTree) (w : FlatModel) (have : HaveFlatModels p m i w) where
  abbrev HasKey : Key → Type 0
  HasKey key = (d : Definition) × In d have.woven_flat.written × (d.key ≡ key)

  -- the keys of the program's definitions have definitions in the woven program's flat model
  roots_there : Each (λ (root : Root). HasKey root.key) (roots_of p)
  roots_there = roots_up HasKey p have.program here
    where
      written : Each (λ (root : Root). HasKey root.key) (roots_of (woven p i))
      written = each_from (λ (root : Root). HasKey root.key) (roots_of (woven p i)) (λ j root e. root_written (woven p i) w have.woven_flat root (j, e))

      here : (at : Place) (k : ModuleTree) → IsInstance p at k → Each (ItemHas HasKey at) (items_of k)
      here at k is =
          let affected = is_affected i k.name in
          let all : Each (ItemHas HasKey at) (items_of (woven_module i k)) =
          (all_instances p i have.weavable (λ at' k'. Each (ItemHas HasKey at') (items_of k'))).0 (roots_down HasKey (woven p i) have.woven_program written) at k is in
          let parts : Each (ItemHas HasKey at) (map (woven_item affected) (items_of k) ++ flat_map items_of_section (added_sections i k)) =
          subst (Each (ItemHas HasKey at)) (sections_woven affected k.sections (added_sections i k)) all in
          each_more (λ item. ItemHas HasKey at (woven_item affected item)) (ItemHas HasKey at) (items_of k) (has_woven HasKey affected at)
          (each_of_map (ItemHas HasKey at) (woven_item affected) (items_of k) (each_left (ItemHas HasKey at) (map (woven_item affected) (items_of k)) (flat_map items_of_section (added_sections i k)) parts))

  definition_there : (j : ℕ) (key : Key) (at : Place) (e : Formula) → slice_get have.flat.written j ≡ Some (record { key = key; place = at; written = e }) →
      (j' : ℕ) × (slice_get have.woven_flat.written j' ≡ Some (record { key = key; place = at; written = e }))
  definition_there j key at e h =
      let d : Definition = record { key = key; place = at; written = e } in
      let of : (f : FlatFormula) × (slice_get m.definitions j ≡ Some f) × IsDefinitionOf p m d f = both_at (IsDefinitionOf p m) have.flat.written m.definitions j d have.flat.placed h in
      let root = of.2.root in
      let there : HasKey root.0.key = each_at (λ (r : Root). HasKey r.key) (roots_of p) root.1.0 root.0 roots_there root.1.1 in
      let d' = there.0 in
      let of' : (f : FlatFormula) × (slice_get w.definitions there.1.0 ≡ Some f) × IsDefinitionOf (woven p i) w d' f =
      both_at (IsDefinitionOf (woven p i) w) have.woven_flat.written w.definitions there.1.0 d' have.woven_flat.placed there.1.1 in
      let keys : d'.key ≡ key = there.2 ∙ root.2 in
      let parts =
      parts_same (d'.place, d'.written) (at, e) (sym of'.2.expression ∙ ap (expression_of (woven p i)) keys ∙ expression_same p i have.weavable key ∙ of.2.expression) in
      let same : d' ≡ d = λ z. record { key = keys z; place = parts.0 z; written = parts.1 z } in
      (there.1.0, there.1.1 ∙ ap Some same)

  variable_there : (j : ℕ) (at : Place) (x : Text) → StandsFor m have.flat.written (flat_variable j) (a_variable_at at x) →
      (l : FlatLeaf) × StandsFor w have.woven_flat.written l (a_variable_at at x)
  variable_there j at x h =
      let v : FlatVariable = h.0 in
      let there : IsVariable p at x v.role v.declared =
      subst (λ b. IsVariable p b x v.role v.declared) h.2 (subst (λ y. IsVariable p v.place y v.role v.declared) h.3 (declared_so p m have.program have.flat j v h.1)) in
      let n = (variables_are (woven p i) have.woven_program w have.woven_flat at x).0 (v.role, v.declared, variable_woven p i have.weavable at x v.role v.declared there) in
      (flat_variable n.0, (n.1, n.2, n.3, n.4))

  symbol_there : (j : ℕ) (x : Text) → slice_get m.symbols j ≡ Some x → (l : FlatLeaf) × StandsFor w have.woven_flat.written l (a_symbol x)
  symbol_there j x h =
      let s : In x (symbols_of (woven p i)) = symbols_keep p i x (j, subst (λ (xs : List Text). slice_get xs j ≡ Some x) have.flat.symbols h) in
      (flat_symbol s.0, subst (λ (xs : List Text). slice_get xs s.0 ≡ Some x) (sym have.woven_flat.symbols) s.1)

  -- what stands for a meaning in the one model does so by some leaf in the other
  stands_there : (l : FlatLeaf) (meaning : Meaning) → StandsFor m have.flat.written l meaning → (l' : FlatLeaf) × StandsFor w have.woven_flat.written l' meaning
  stands_there (flat_variable j) (a_variable_at at x) h = variable_there j at x h
  stands_there (flat_variable j) (an_expression_at key at e) h = absurd h
  stands_there (flat_variable j) (an_instance_at at) h = absurd h
  stands_there (flat_variable j) (a_symbol x) h = absurd h
  stands_there (flat_symbol j) (a_variable_at at x) h = absurd h
  stands_there (flat_symbol j) (an_expression_at key at e) h = absurd h
  stands_there (flat_symbol j) (an_instance_at at) h = absurd h
  stands_there (flat_symbol j) (a_symbol x) h = symbol_there j x h
  stands_there (flat_definition j) (a_variable_at at x) h = absurd h
  stands_there (flat_definition j) (an_expression_at key at e) h = let d = definition_there j key at e h in (flat_definition d.0, d.1)
  stands_there (flat_definition j) (an_instance_at at) h = absurd h
  stands_there (flat_definition j) (a_symbol x) h = absurd h

  module _ (r : Resolver) (sound : IsSound p m have.flat.written r) where
    name_there : (at : Place) (name : Path) (l : FlatLeaf) → r at name ≡ Some l → (l' : FlatLeaf) × IsLeafOf (woven p i) w have.woven_flat.written at name l'
    name_there at name l e =
        let s : IsLeafOf p m have.flat.written at name l = sound at name l e in
        let t = stands_there l s.0 s.2 in (t.0, (s.0, means_woven p i have.weavable at name s.0 s.1, t.1))

    -- a leaf of the woven program's model for each name that has one of the program's
    abbrev given : (at : Place) (name : Path) (o : Option FlatLeaf) → r at name ≡ o → Option FlatLeaf
    given at name None e = None
    given at name (Some l) e = Some (name_there at name l e).0

    abbrev woven_resolver : Resolver
    woven_resolver at name = given at name (r at name) refl

    given_sound : (at : Place) (name : Path) (o : Option FlatLeaf) (e : r at name ≡ o) (l' : FlatLeaf) → given at name o e ≡ Some l' → IsLeafOf (woven p i) w have.woven_flat.written at name l'
    given_sound at name None e l' h = cc
    given_sound at name (Some l) e l' h =
        let t = name_there at name l e in
        let same : t.0 ≡ l' = cc in subst (IsLeafOf (woven p i) w have.woven_flat.written at name) same t.1

    given_some : (at : Place) (name : Path) (o : Option FlatLeaf) (e : r at name ≡ o) (l : FlatLeaf) → o ≡ Some l → (l' : FlatLeaf) × (given at name o e ≡ Some l')
    given_some at name None e l h = cc
    given_some at name (Some k) e l h = ((name_there at name k e).0, refl)

    woven_sound : IsSound (woven p i) w have.woven_flat.written woven_resolver
    woven_sound at name l h = given_sound at name (r at name) refl l h

    woven_made : (at : Place) (e : Formula) (tree : Tree FlatLeaf) → IsResolved (r at) e tree → IsResolved (woven_resolver at) e (tree_by (woven_resolver at) e)
    woven_made at e tree resolved =
        tree_made (woven_resolver at) e
        (all_leaves_more (HasLeaf (r at)) (HasLeaf (woven_resolver at)) (λ name h. given_some at name (r at name) refl h.0 h.1) e (has_leaves (r at) e tree resolved))

pub woven_resolves : WovenResolves
woven_resolves p m i w have at e tree before =
    let r : (r : Resolver) × IsSound p m have.flat.written r × IsResolved (r at) e tree = before have.flat in
    let q : Resolver = woven_resolver p m i w have r.0 r.1 in (
      tree_by (q at) e,
      record {
        before = before;
        after = λ is. (
          q,
          subst (λ (ds : List Definition). IsSound (woven p i) w ds q) (one_written (woven p i) w w have.woven_flat is) (woven_sound p m i w have r.0 r.1),
          woven_made p m i w have r.0 r.1 at e tree r.2,
        );
      },
    )
