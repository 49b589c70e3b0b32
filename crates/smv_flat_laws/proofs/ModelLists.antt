-- The lists of a flat model as functions of a program: each name is what it means, by its number in its list.
use Rattle.std.proofs.Common.{◌≡◌, ℕ, zero, suc, ◌≤◌, arith, Bool, true, false, ◌&&◌, List, [], ◌∷◌, ◌++◌, Option, Some, None, refl, sym, ◌∙◌, ap, subst, inl, inr}
use Rattle.std.specs.Prelude.{slice_get, map, if◌then◌else◌, ◌⊎◌}
use Rattle.smv_language.specs.declared.expr.Op.TheVariants as op
use Rattle.smv_language.specs.Language.{Tree, Trees, Branches, leaf, not_of, negate, next_of, binary, choice, case_of, set_of, span, no_tree, tree_then, no_branch, branch_then, tree_map, trees_map, branches_map, Text, Path, Formula, ProgramTree, same_text, Place, Key, Meaning, a_variable_at, an_expression_at, an_instance_at, Means, Each, EachBoth, FlatLeaf, flat_variable, flat_symbol, flat_definition, FlatInstance, FlatVariable, FlatFormula, FlatModel}
use Rattle.smv_language.specs.Tree.{truth, number}
use Rattle.smv_language.specs.Scope.{a_symbol}
use Rattle.smv_language.proofs.ListLaws.{get_map}
use Rattle.smv_language.proofs.OneTree.{same_text_equal}
use Rattle.smv_language.proofs.ValueLaws.{same_text_refl}
use Rattle.smv_lexer.proofs.SignLemmas.{both_true}
use Rattle.smv_flat_laws.specs.NameResolution.{leaves_in, Definition, Resolver, IsResolved}
use Rattle.smv_flat_laws.specs.Looks.{MeansNothing}
use Rattle.smv_flat_laws.specs.Items.{Visit, instances_of, variables_of}
use Rattle.smv_flat_laws.specs.Rules.{expression_of}
use Rattle.smv_flat_laws.specs.Model.{Condition, plain, now_among, next_among, kept, Written, conditions, first_conditions, each_conditions, step_conditions, kept_conditions, IsVariableNumber, IsInstanceNumber, symbols_of, Root, roots_of, same_place, same_key}
use Rattle.smv_flat_laws.proofs.Listed.{key_equal}
use Rattle.smv_flat_laws.proofs.Numbered.{same_place_refl, same_place_equal, same_key_refl}
use Rattle.smv_flat_laws.proofs.OneTree.{map_same, leaf_or}
use Rattle.smv_flat_laws.proofs.Places.{In}
use Rattle.smv_flat_laws.proofs.Resolving.{same_meaning}

-- the place of the first that passes a test
abbrev pub first_where : {A : Type 0} → (A → Bool) → List A → ℕ
first_where f [] = 0
first_where f (x ∷ xs) = if f x then 0 else suc (first_where f xs)

pub first_found : {A : Type 0} (f : A → Bool) (xs : List A) (i : ℕ) (x : A) → slice_get xs i ≡ Some x → f x ≡ true →
    (y : A) × (slice_get xs (first_where f xs) ≡ Some y) × (f y ≡ true) × (first_where f xs ≤ i)
first_found f [] i x e h = cc
first_found f (z ∷ xs) zero x e h = let same : z ≡ x = cc in let here : f z ≡ true = ap f same ∙ h in (z, rw here refl, here, rw here (omega arith))
first_found f (z ∷ xs) (suc i) x e h = by_test (f z) refl (first_found f xs i x e h)
  where
    by_test : (b : Bool) → f z ≡ b → (y : _) × (slice_get xs (first_where f xs) ≡ Some y) × (f y ≡ true) × (first_where f xs ≤ i) →
        (y : _) × (slice_get (z ∷ xs) (first_where f (z ∷ xs)) ≡ Some y) × (f y ≡ true) × (first_where f (z ∷ xs) ≤ suc i)
    by_test true t r = (z, rw t refl, t, rw t (omega arith))
    by_test false t r = (r.0, rw t r.1, r.2, rw t (let less : first_where f xs ≤ i = r.3 in omega (arith, less)))

pub both_mapped : {A B : Type 0} (R : A → B → Type 0) (f : A → B) (xs : List A) → Each (λ x. R x (f x)) xs → EachBoth R xs (map f xs)
both_mapped R f [] h = tt
both_mapped R f (x ∷ xs) h = (h.0, both_mapped R f xs h.1)

-- a tree that is mapped twice
mutual
  map_again : {L M N : Type 0} (f : M → N) (g : L → M) (t : Tree L) → tree_map f (tree_map g t) ≡ tree_map (λ l. f (g l)) t
  map_again f g (truth b) = refl
  map_again f g (number n) = refl
  map_again f g (leaf l) = refl
  map_again f g (not_of a) = ap not_of (map_again f g a)
  map_again f g (negate a) = ap negate (map_again f g a)
  map_again f g (next_of a) = ap next_of (map_again f g a)
  map_again f g (binary o a b) = rw (map_again f g a, map_again f g b) refl
  map_again f g (choice c a b) = rw (map_again f g c, map_again f g a, map_again f g b) refl
  map_again f g (case_of bs) = ap case_of (branches_again f g bs)
  map_again f g (set_of ts) = ap set_of (trees_again f g ts)
  map_again f g (span lo hi) = refl

  trees_again : {L M N : Type 0} (f : M → N) (g : L → M) (ts : Trees L) → trees_map f (trees_map g ts) ≡ trees_map (λ l. f (g l)) ts
  trees_again f g no_tree = refl
  trees_again f g (tree_then t ts) = rw (map_again f g t, trees_again f g ts) refl

  branches_again : {L M N : Type 0} (f : M → N) (g : L → M) (bs : Branches L) → branches_map f (branches_map g bs) ≡ branches_map (λ l. f (g l)) bs
  branches_again f g no_branch = refl
  branches_again f g (branch_then c a bs) = rw (map_again f g c, map_again f g a, branches_again f g bs) refl

-- Numbers.
module _ (p : ProgramTree) where
  abbrev pub instance_place : Place → ℕ
  instance_place at = first_where (λ (x : FlatInstance). same_place x.place at) (instances_of p)

  abbrev pub variable_place : Place → Text → ℕ
  variable_place at x = first_where (λ (v : Visit). same_place v.place at && same_text v.decl.name x) (variables_of p)

  abbrev pub symbol_place : Text → ℕ
  symbol_place x = first_where (λ y. same_text y x) (symbols_of p)

  abbrev pub root_place : Key → ℕ
  root_place k = first_where (λ (r : Root). same_key r.key k) (roots_of p)

  -- what stands in the lists
  abbrev pub HasInstance : Place → Type 0
  HasInstance at = (i : ℕ) × (x : FlatInstance) × (slice_get (instances_of p) i ≡ Some x) × (x.place ≡ at)

  abbrev pub HasVariable : Place → Text → Type 0
  HasVariable at x = (v : Visit) × In v (variables_of p) × (v.place ≡ at) × (v.decl.name ≡ x)

  pub instance_numbered : (m : FlatModel) → m.instances ≡ instances_of p → (at : Place) → HasInstance at → IsInstanceNumber m at (instance_place at)
  instance_numbered m same at has =
      let found : (y : FlatInstance) × (slice_get (instances_of p) (instance_place at) ≡ Some y) × (same_place y.place at ≡ true) × (instance_place at ≤ has.0) =
      first_found (λ (x : FlatInstance). same_place x.place at) (instances_of p) has.0 has.1 has.2 (subst (λ a. same_place has.1.place a ≡ true) has.3 (same_place_refl has.1.place)) in
      (found.0, ap (λ xs. slice_get xs (instance_place at)) same ∙ found.1, same_place_equal found.0.place at found.2)

  -- a declaration as a flat variable
  abbrev pub variable_made : Visit → FlatVariable
  variable_made v = record { place = v.place; name = v.decl.name; role = v.role; declared = v.decl.what; item = v.number; number = instance_place v.place }

  pub variable_numbered : (m : FlatModel) → m.variables ≡ map variable_made (variables_of p) → (at : Place) (x : Text) → HasVariable at x → IsVariableNumber m at x (variable_place at x)
  variable_numbered m same at x has = record {
    variable = variable_made found.0;
    is = ap (λ vs. slice_get vs (variable_place at x)) same ∙ get_map variable_made (variables_of p) (variable_place at x) found.0 found.1;
    same_place = same_place_equal found.0.place at parts.0;
    same_name = same_text_equal found.0.decl.name x parts.1;
  }
    where
      fits : (same_place has.0.place at && same_text has.0.decl.name x) ≡ true
      fits =
          let place : same_place has.0.place at ≡ true = subst (λ a. same_place has.0.place a ≡ true) has.2 (same_place_refl has.0.place) in
          let name : same_text has.0.decl.name x ≡ true = subst (λ y. same_text has.0.decl.name y ≡ true) has.3 (same_text_refl has.0.decl.name) in
          rw place name

      found : (v : Visit) × (slice_get (variables_of p) (variable_place at x) ≡ Some v) × ((same_place v.place at && same_text v.decl.name x) ≡ true) × (variable_place at x ≤ has.1.0)
      found = first_found (λ (v : Visit). same_place v.place at && same_text v.decl.name x) (variables_of p) has.1.0 has.0 has.1.1 fits

      parts : (same_place found.0.place at ≡ true) × (same_text found.0.decl.name x ≡ true)
      parts = both_true _ _ found.2

  pub symbol_numbered : (x : Text) → In x (symbols_of p) → slice_get (symbols_of p) (symbol_place x) ≡ Some x
  symbol_numbered x has =
      let found : (y : Text) × (slice_get (symbols_of p) (symbol_place x) ≡ Some y) × (same_text y x ≡ true) × (symbol_place x ≤ has.0) =
      first_found (λ y. same_text y x) (symbols_of p) has.0 x has.1 (same_text_refl x) in
      found.1 ∙ ap Some (same_text_equal found.0 x found.2)

  -- the item of a root that is there
  abbrev item_or : Option Root → ℕ
  item_or None = 0
  item_or (Some r) = r.item

  abbrev pub item_of_key : Key → ℕ
  item_of_key k = item_or (slice_get (roots_of p) (root_place k))

  pub root_numbered : (k : Key) (r : Root) → In r (roots_of p) → r.key ≡ k → (s : Root) × In s (roots_of p) × (s.key ≡ k) × (item_of_key k ≡ s.item)
  root_numbered k r has same =
      let found : (s : Root) × (slice_get (roots_of p) (root_place k) ≡ Some s) × (same_key s.key k ≡ true) × (root_place k ≤ has.0) =
      first_found (λ (r : Root). same_key r.key k) (roots_of p) has.0 r has.1 (subst (λ j. same_key r.key j ≡ true) same (same_key_refl r.key)) in
      (found.0, (root_place k, found.1), key_equal found.0.key k found.2, ap item_or found.1)

  -- a definition as it is written
  abbrev written_with : Key → Option (Place × Formula) → Definition
  written_with key None = record { key = key; place = []; written = truth false }
  written_with key (Some w) = record { key = key; place = w.0; written = w.1 }

  abbrev pub definition_of : Key → Definition
  definition_of key = written_with key (expression_of p key)

  pub definition_is : (key : Key) (at : Place) (e : Formula) → expression_of p key ≡ Some (at, e) → definition_of key ≡ record { key = key; place = at; written = e }
  definition_is key at e is = ap (written_with key) is

  pub keys_defined : (keys : List Key) → map (λ (d : Definition). d.key) (map definition_of keys) ≡ keys
  keys_defined [] = refl
  keys_defined (k ∷ keys) = ap (λ j. j ∷ map (λ (d : Definition). d.key) (map definition_of keys)) (key_kept (expression_of p k)) ∙ ap (λ js. k ∷ js) (keys_defined keys)
    where
      key_kept : (o : Option (Place × Formula)) → (written_with k o).key ≡ k
      key_kept None = refl
      key_kept (Some w) = refl

  -- over an order of definitions, where it is decided what names mean
  module _ (ks : List Key) (decide : (at : Place) (name : Path) → ((m : Meaning) × Means p at name m) ⊎ MeansNothing p at name) where
    abbrev pub key_place : Key → ℕ
    key_place k = first_where (λ j. same_key j k) ks

    pub key_numbered : (k : Key) (i : ℕ) → slice_get ks i ≡ Some k → (slice_get ks (key_place k) ≡ Some k) × (key_place k ≤ i)
    key_numbered k i e =
        let found : (j : Key) × (slice_get ks (key_place k) ≡ Some j) × (same_key j k ≡ true) × (key_place k ≤ i) = first_found (λ j. same_key j k) ks i k e (same_key_refl k) in
        (found.1 ∙ ap Some (key_equal found.0 k found.2), found.3)

    abbrev pub leaf_meant : Meaning → Option FlatLeaf
    leaf_meant (a_variable_at at x) = Some (flat_variable (variable_place at x))
    leaf_meant (an_expression_at key at e) = Some (flat_definition (key_place key))
    leaf_meant (an_instance_at at) = None
    leaf_meant (a_symbol x) = Some (flat_symbol (symbol_place x))

    abbrev leaf_decided : (at : Place) (name : Path) → ((m : Meaning) × Means p at name m) ⊎ MeansNothing p at name → Option FlatLeaf
    leaf_decided at name (inl m) = leaf_meant m.0
    leaf_decided at name (inr none) = None

    abbrev pub resolver : Resolver
    resolver at name = leaf_decided at name (decide at name)

    pub resolver_means : (at : Place) (name : Path) (m : Meaning) → Means p at name m → resolver at name ≡ leaf_meant m
    resolver_means at name m means = by_decided (decide at name)
      where
        by_decided : (d : ((m : Meaning) × Means p at name m) ⊎ MeansNothing p at name) → leaf_decided at name d ≡ leaf_meant m
        by_decided (inl a) = ap leaf_meant (same_meaning a.1.0 means.0 p at name a.0 m a.1.1 means.1)
        by_decided (inr none) = let bad : None ≡ Some m = sym (none.no_meaning means.0) ∙ means.1 in cc

    pub resolver_found : (at : Place) (name : Path) (l : FlatLeaf) → resolver at name ≡ Some l → (m : Meaning) × Means p at name m × (leaf_meant m ≡ Some l)
    resolver_found at name l = by_decided (decide at name)
      where
        by_decided : (d : ((m : Meaning) × Means p at name m) ⊎ MeansNothing p at name) → leaf_decided at name d ≡ Some l → (m : Meaning) × Means p at name m × (leaf_meant m ≡ Some l)
        by_decided (inl a) e = (a.0, a.1, e)
        by_decided (inr none) e = cc

    -- an expression with its names resolved
    abbrev pub tree_made : Place → Formula → Tree FlatLeaf
    tree_made at e = tree_map (λ name. leaf_or (resolver at name)) e

    pub tree_resolved : (at : Place) (e : Formula) → Each (λ name. Some (leaf_or (resolver at name)) ≡ resolver at name) (leaves_in e) → IsResolved (resolver at) e (tree_made at e)
    tree_resolved at e h = map_again Some (λ name. leaf_or (resolver at name)) e ∙ map_same (λ name. Some (leaf_or (resolver at name))) (resolver at) e h

    abbrev pub condition_tree : Place → Condition → Tree FlatLeaf
    condition_tree at (plain e) = tree_made at e
    condition_tree at (now_among x e) = binary op.Within (leaf (flat_variable (variable_place at x))) (tree_made at e)
    condition_tree at (next_among x e) = binary op.Within (next_of (leaf (flat_variable (variable_place at x)))) (tree_made at e)
    condition_tree at (kept x) = binary op.Within (next_of (leaf (flat_variable (variable_place at x)))) (leaf (flat_variable (variable_place at x)))

    abbrev pub condition_made : Written → FlatFormula
    condition_made w = record { value = condition_tree w.place w.condition; item = w.item; number = instance_place w.place }

    abbrev pub definition_made : Definition → FlatFormula
    definition_made d = record { value = tree_made d.place d.written; item = item_of_key d.key; number = instance_place d.place }

    -- the model
    abbrev pub model_made : FlatModel
    model_made = record {
      instances = instances_of p;
      variables = map variable_made (variables_of p);
      definitions = map definition_made (map definition_of ks);
      symbols = symbols_of p;
      at_first = map condition_made (conditions first_conditions p);
      at_each = map condition_made (conditions each_conditions p);
      at_step = map condition_made (conditions step_conditions p ++ conditions kept_conditions p);
    }
