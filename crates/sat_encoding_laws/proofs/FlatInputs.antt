-- By the rules of flattening no input is read at a first moment, at each moment, or under `next`.
use Rattle.std.proofs.Common.{◌≡◌, inl, inr, ℕ, zero, suc, ◌<◌, Bool, true, false, ◌||◌, List, [], ◌∷◌, ◌++◌, map, Option, Some, refl, sym, ◌∙◌, ap, subst, arith}
use Rattle.std.specs.Prelude.{slice_get, IsTrue, flat_map}
use Rattle.std.specs.List.{list_any}
use Rattle.smv_language.specs.declared.program.Moment.{Moment}
use Rattle.smv_language.specs.declared.program.Moment.TheVariants.{Always, First, After}
use Rattle.smv_language.specs.Language.{Tree, Trees, Branches, leaf, not_of, negate, next_of, binary, choice, case_of, set_of, span, no_tree, tree_then, no_branch, branch_then, tree_map, trees_map, branches_map, Text, Path, Formula, DeclaredTree, boolean, range, members, instance, ModuleTree, ProgramTree, Place, Role, state, input, frozen_role, Kind, a_variable, a_formal, an_instance, undeclared, kind_declared, kind_at, module_at, Key, Meaning, a_variable_at, an_expression_at, an_instance_at, Means, Each, AtSome, IsInstance, IsVariable, EachBoth, FlatLeaf, flat_variable, flat_symbol, flat_definition, FlatInstance, FlatVariable, FlatFormula, FlatModel}
use Rattle.smv_language.specs.Tree.{truth as is_truth, number as is_number}
use Rattle.smv_language.specs.Scope.{a_define, a_symbol}
use Rattle.smv_flat_laws.specs.Items.{Item, a_declaration, a_definition, an_assignment, some_constants, an_init, an_invar, a_trans, items_of, NumberedItem, visits, variables_of, items_named, instances_of}
use Rattle.smv_flat_laws.specs.NameResolution.{leaves_in, Definition, StandsFor, IsLeafOf, IsResolved, IsBefore}
use Rattle.smv_flat_laws.specs.Rules.{not_a_target, input_here, leaves_under, trees_leaves_under, branches_leaves_under, is_later, inputs_judged, may_be_assigned, is_target, names_of_item, is_name_again, BreaksInputs, BreaksTarget, a_use, module_sites, visit_sites, use_sites, IsKept, is_input_kind, MeansInput, GivesInput, Leads, expression_of, IsAccepted, IsWalkable}
use Rattle.smv_flat_laws.specs.Model.{Condition, plain, now_among, next_among, kept, assigned_first, assigned_each, assigned_step, first_conditions, each_conditions, step_conditions, kept_declared, kept_conditions, Written, written_at, conditions, IsVariableNumber, IsConditionTree, IsFormulaOf, IsFlatOf, IsVariableOf, IsDefinitionOf}
use Rattle.smv_flat_laws.proofs.Variables.{both_at, both_at_second, RealVariable, real_variables}
use Rattle.smv_flat_laws.proofs.Conditions.{each_at, each_flat, each_mapped, each_from, each_join}
use Rattle.smv_flat_laws.proofs.Reaches.{each_right}
use Rattle.smv_flat_laws.proofs.KindLaws.{ItemFacts, kind_of_declaration, all_facts, found_facts}
use Rattle.smv_flat_laws.proofs.Places.{has_main, are_instances}
use Rattle.smv_flat_laws.proofs.Walkable.{accepted_walkable, main_is_there}
use Rattle.smv_flat_laws.proofs.Lists.{leaves_map, map_joined, each_more}
use Rattle.smv_type_laws.specs.Laws.{IsClosed}
use Rattle.smv_type_laws.proofs.ClosedLaws.{models_closed}
use Rattle.sat_encoding_laws.specs.Inputs.{is_input, is_input_variable, reads_input}
use Rattle.sat_encoding_laws.specs.Encodable.{is_input_name, reads_next_input}
use Rattle.sat_encoding_laws.proofs.NameMeans.{flag_is}
use Rattle.std.proofs.lemmas.Bool.{true_from_ne_false as not_false_true}
use Rattle.smv_language.proofs.EachLaws.{some_at, each_not}

-- ---- lists

-- some item that the test finds
found_at_some : {A : Type 0} (f : A → Bool) (xs : List A) → list_any f xs ≡ true → (i : ℕ) × (x : A) × (slice_get xs i ≡ Some x) × (f x ≡ true)
found_at_some f [] e = cc
found_at_some f (x ∷ xs) e = by (f x) refl e (found_at_some f xs)
  where
    by : (b : Bool) → f x ≡ b → (b || list_any f xs) ≡ true → (list_any f xs ≡ true → (i : ℕ) × (y : _) × (slice_get xs i ≡ Some y) × (f y ≡ true)) → (i : ℕ) × (y : _) × (slice_get (x ∷ xs) i ≡ Some y) × (f y ≡ true)
    by true t h more = (0, x, refl, t)
    by false t h more = let m = more h in (suc m.0, m.1, m.2, m.3)

pub none_any : {A : Type 0} (f : A → Bool) (xs : List A) → Each (λ x. f x ≡ false) xs → list_any f xs ≡ false
none_any f [] h = refl
none_any f (x ∷ xs) h = (λ i. h.0 i || none_any f xs h.1 i)

-- a resolved name at a place
name_at : (q : Path → Option FlatLeaf) (ls : List FlatLeaf) (names : List Path) → map Some ls ≡ map q names → (i : ℕ) (l : FlatLeaf) → slice_get ls i ≡ Some l
    → (name : Path) × (slice_get names i ≡ Some name) × (q name ≡ Some l)
name_at q [] names e i l h = cc
name_at q (k ∷ ls) [] e i l h = cc
name_at q (k ∷ ls) (name ∷ names) e zero l h =
    let head : q name ≡ Some k = cc in
    let same : k ≡ l = cc in
    (name, refl, head ∙ ap Some same)
name_at q (k ∷ ls) (name ∷ names) e (suc i) l h = let tail : map Some ls ≡ map q names = cc in name_at q ls names tail i l h

input_there : (role : Role) (type : DeclaredTree) → is_input role ≡ true → IsTrue (is_input_kind (a_variable role type))
input_there input type h = refl
input_there state type h = cc
input_there frozen_role type h = cc

module _ (p : ProgramTree) (accepted : IsAccepted p) (m : FlatModel) (is : IsFlatOf p m) where
  walkable : IsWalkable p
  walkable = accepted_walkable p accepted

  closed : IsClosed m
  closed = models_closed p m is

  -- a numbered variable is one of its instance
  pub is_there : (i : ℕ) (x : FlatVariable) → slice_get m.variables i ≡ Some x → IsVariable p x.place x.name x.role x.declared
  is_there i x e =
      let b = both_at_second (IsVariableOf m) (variables_of p) m.variables i x is.variables e in
      let main = main_is_there p walkable in
      let real : RealVariable p b.0 = each_at (RealVariable p) (variables_of p) i b.0 (real_variables p (visits p) (has_main p walkable main.0 main.1)) b.1 in
      subst (λ (t : DeclaredTree). IsVariable p x.place x.name x.role t) (sym b.2.declared)
      (subst (λ (r : Role). IsVariable p x.place x.name r b.0.decl.what) (sym b.2.role)
      (subst (λ (y : Text). IsVariable p x.place y b.0.role b.0.decl.what) (sym b.2.name)
      (subst (λ (a : Place). IsVariable p a b.0.decl.name b.0.role b.0.decl.what) (sym b.2.place) real)))

  pub kind_there : (i : ℕ) (x : FlatVariable) → slice_get m.variables i ≡ Some x → kind_at (module_at p x.place) x.name ≡ a_variable x.role x.declared
  kind_there i x e = let v = is_there i x e in ap (λ (o : Option ModuleTree). kind_at o x.name) v.1 ∙ v.2

  variable_input : (at : Place) (name : Path) (i : ℕ) (meaning : Meaning) → Means p at name meaning → StandsFor m is.written (flat_variable i) meaning → is_input_name m (flat_variable i) ≡ true → MeansInput p at name
  variable_input at name i (a_variable_at place x) means stands flag =
      let d = stands.0 in
      let role : is_input d.role ≡ true = sym (ap is_input_variable stands.1) ∙ flag in
      let kind = kind_there i d stands.1 in
      let there : IsTrue (is_input_kind (kind_at (module_at p d.place) d.name)) = subst (λ (k : Kind). IsTrue (is_input_kind k)) (sym kind) (input_there d.role d.declared role) in
      (place, x, means, subst (λ (y : Text). IsTrue (is_input_kind (kind_at (module_at p place) y))) stands.3 (subst (λ (a : Place). IsTrue (is_input_kind (kind_at (module_at p a) d.name))) stands.2 there))
  variable_input at name i (an_expression_at key place e) means stands flag = absurd stands
  variable_input at name i (an_instance_at place) means stands flag = absurd stands
  variable_input at name i (a_symbol x) means stands flag = absurd stands

  -- where a definition reads an input, its expressions lead to one that names an input
  record Chain (d : Definition) : Type 0 where
    steps : ℕ
    last : Key
    leads : Leads p steps d.key last
    last_place : Place
    last_written : Formula
    is_last : expression_of p last ≡ Some (last_place, last_written)
    names_input : AtSome (MeansInput p last_place) (leaves_in last_written)

  -- what a definition's own names are
  definition_name : (i : ℕ) (d : Definition) (name : Path) (j : ℕ) (meaning : Meaning) → Means p d.place name meaning → StandsFor m is.written (flat_definition j) meaning
      → (e : Definition) × (slice_get is.written j ≡ Some e) × (at : Place) × (f : Formula) × Means p d.place name (an_expression_at e.key at f)
  definition_name i d name j (an_expression_at key place e) means stands = (record { key = key; place = place; written = e }, stands, place, e, means)
  definition_name i d name j (a_variable_at place x) means stands = absurd stands
  definition_name i d name j (an_instance_at place) means stands = absurd stands
  definition_name i d name j (a_symbol x) means stands = absurd stands

  chain : (fuel i : ℕ) → i < fuel → (d : Definition) → slice_get is.written i ≡ Some d → is_input_name m (flat_definition i) ≡ true → Chain d
  chain zero i less d e flag = absurd (omega (arith, less))
  chain (suc fuel) i less d e flag =
      let def = is.definitions i d e in
      let f = def.0 in
      let reads : list_any (is_input_name m) (leaves_in f.value) ≡ true = sym (flag_is m closed i f def.1) ∙ flag in
      let found = found_at_some (is_input_name m) (leaves_in f.value) reads in
      let name = name_at (is.resolver d.place) (leaves_in f.value) (leaves_in d.written) (sym (leaves_map Some f.value) ∙ ap leaves_in def.2 ∙ leaves_map (is.resolver d.place) d.written) found.0 found.1 found.2 in
      let stands = is.sound d.place name.0 found.1 name.2 in
      let before = each_at (IsBefore i) (leaves_in f.value) found.0 found.1 def.3 found.2 in
      let here : expression_of p d.key ≡ Some (d.place, d.written) = (both_at (IsDefinitionOf p m) is.written m.definitions i d is.placed e).2.expression in
      by found.0 found.1 found.3 name.0 name.1 stands before here (λ j lower c at flagged. chain fuel j (omega (arith, lower, less)) c at flagged)
    where
      by : (k : ℕ) (l : FlatLeaf) → is_input_name m l ≡ true → (name : Path) → slice_get (leaves_in d.written) k ≡ Some name → IsLeafOf p m is.written d.place name l → IsBefore i l → expression_of p d.key ≡ Some (d.place, d.written)
          → ((j : ℕ) → j < i → (c : Definition) → slice_get is.written j ≡ Some c → is_input_name m (flat_definition j) ≡ true → Chain c) → Chain d
      by k (flat_variable j) flagged name at stands before here more = record {
        steps = 0;
        last = d.key;
        leads = refl;
        last_place = d.place;
        last_written = d.written;
        is_last = here;
        names_input = some_at (MeansInput p d.place) (leaves_in d.written) k name at (variable_input d.place name j stands.0 stands.1 stands.2 flagged);
      }
      by k (flat_symbol j) flagged name at stands before here more = cc
      by k (flat_definition j) flagged name at stands before here more =
          let next = definition_name i d name j stands.0 stands.1 stands.2 in
          let rest = more j before next.0 next.1 flagged in
          record {
            steps = suc rest.steps;
            last = rest.last;
            leads = (
              next.0.key,
              record {
                place = d.place;
                written = d.written;
                is = here;
                named = some_at (λ y. (a : Place) × (e : Formula) × Means p d.place y (an_expression_at next.0.key a e)) (leaves_in d.written) k name at (next.2, next.3, next.4);
              },
              rest.leads,
            );
            last_place = rest.last_place;
            last_written = rest.last_written;
            is_last = rest.is_last;
            names_input = rest.names_input;
          }

  -- a name whose leaf is an input name gives an input
  pub leaf_input : (at : Place) (name : Path) (l : FlatLeaf) → IsLeafOf p m is.written at name l → is_input_name m l ≡ true → GivesInput p at name
  leaf_input at name (flat_variable i) stands flag = inl (variable_input at name i stands.0 stands.1 stands.2 flag)
  leaf_input at name (flat_symbol i) stands flag = cc
  leaf_input at name (flat_definition i) stands flag = by stands.0 stands.1 stands.2
    where
      by : (meaning : Meaning) → Means p at name meaning → StandsFor m is.written (flat_definition i) meaning → GivesInput p at name
      by (an_expression_at key place e) means s =
          let c = chain (suc i) i (omega arith) (record { key = key; place = place; written = e }) s flag in
          inr (record {
            first = key;
            place = place;
            written = e;
            means = means;
            steps = c.steps;
            last = c.last;
            leads = c.leads;
            last_place = c.last_place;
            last_written = c.last_written;
            is = c.is_last;
            names_input = c.names_input;
          })
      by (a_variable_at place x) means s = absurd s
      by (an_instance_at place) means s = absurd s
      by (a_symbol x) means s = absurd s

  -- names that give no input are resolved to no input name
  pub no_input : (at : Place) (name : Path) (l : FlatLeaf) → is.resolver at name ≡ Some l → (GivesInput p at name → ⊥) → is_input_name m l ≡ false
  no_input at name l e none = by (is_input_name m l) refl
    where
      by : (b : Bool) → is_input_name m l ≡ b → b ≡ false
      by true t = absurd (none (leaf_input at name l (is.sound at name l e) t))
      by false t = refl

-- ---- conditions

-- the names under `next`, of a tree with its leaves changed
mutual
  under_map : {L M : Type 0} (f : L → M) (t : Tree L) → leaves_under (tree_map f t) ≡ map f (leaves_under t)
  under_map f (is_truth b) = refl
  under_map f (is_number n) = refl
  under_map f (leaf l) = refl
  under_map f (not_of a) = under_map f a
  under_map f (negate a) = under_map f a
  under_map f (next_of a) = leaves_map f a
  under_map f (binary o a b) = rw (under_map f a, under_map f b) (sym (map_joined f (leaves_under a) (leaves_under b)))
  under_map f (choice d a b) =
      rw (under_map f d, under_map f a, under_map f b, map_joined f (leaves_under d) (leaves_under a ++ leaves_under b), map_joined f (leaves_under a) (leaves_under b)) refl
  under_map f (case_of bs) = branches_under_map f bs
  under_map f (set_of ts) = trees_under_map f ts
  under_map f (span lo hi) = refl

  trees_under_map : {L M : Type 0} (f : L → M) (t : Trees L) → trees_leaves_under (trees_map f t) ≡ map f (trees_leaves_under t)
  trees_under_map f no_tree = refl
  trees_under_map f (tree_then a b) = rw (under_map f a, trees_under_map f b) (sym (map_joined f (leaves_under a) (trees_leaves_under b)))

  branches_under_map : {L M : Type 0} (f : L → M) (t : Branches L) → branches_leaves_under (branches_map f t) ≡ map f (branches_leaves_under t)
  branches_under_map f no_branch = refl
  branches_under_map f (branch_then d a b) =
      rw (under_map f d, under_map f a, branches_under_map f b, map_joined f (leaves_under d) (leaves_under a ++ branches_leaves_under b), map_joined f (leaves_under a) (branches_leaves_under b)) refl

-- each resolved leaf, from what holds of its name
pub given_each : (P : FlatLeaf → Type 0) (Q : Path → Type 0) (q : Path → Option FlatLeaf) → ((name : Path) (l : FlatLeaf) → q name ≡ Some l → Q name → P l) → (ls : List FlatLeaf) (names : List Path)
    → map Some ls ≡ map q names → Each Q names → Each P ls
given_each P Q q f [] names e h = tt
given_each P Q q f (l ∷ ls) [] e h = cc
given_each P Q q f (l ∷ ls) (name ∷ names) e h =
    let head : q name ≡ Some l = cc in
    let tail : map Some ls ≡ map q names = cc in
    (f name l head h.0, given_each P Q q f ls names tail h.1)

assigned_no_input : (when : Moment) (k : Kind) → may_be_assigned when k ≡ true → is_input_kind k ≡ false
assigned_no_input when (a_variable state t) h = refl
assigned_no_input when (a_variable frozen_role t) h = refl
assigned_no_input First (a_variable input t) h = cc
assigned_no_input After (a_variable input t) h = cc
assigned_no_input Always (a_variable input t) h = cc
assigned_no_input when (a_formal i) h = refl
assigned_no_input when (a_define e) h = refl
assigned_no_input when (an_instance n actuals) h = refl
assigned_no_input when undeclared h = refl

no_input_role : (r : Role) (t : DeclaredTree) → is_input_kind (a_variable r t) ≡ false → is_input r ≡ false
no_input_role state t h = refl
no_input_role frozen_role t h = refl
no_input_role input t h = cc

frozen_no_input : (t : DeclaredTree) → is_input_kind (kind_declared frozen_role t) ≡ false
frozen_no_input boolean = refl
frozen_no_input (range lo hi) = refl
frozen_no_input (members ms) = refl
frozen_no_input (instance n actuals) = refl

module _ (p : ProgramTree) where
  -- no name gives an input
  abbrev NoneGives : Place → List Path → Type 0
  NoneGives at names = Each (λ name. GivesInput p at name → ⊥) names

  -- the name is no input of its instance
  abbrev OwnName : Place → Text → Type 0
  OwnName at x = is_input_kind (kind_at (module_at p at) x) ≡ false

  -- a condition at a first moment or at each one reads no input
  abbrev QuietNow : Place → Condition → Type 0
  QuietNow at (plain e) = NoneGives at (leaves_in e)
  QuietNow at (now_among x e) = OwnName at x × NoneGives at (leaves_in e)
  QuietNow at (next_among x e) = ⊥
  QuietNow at (kept x) = ⊥

  -- and one of a step none under `next`
  abbrev QuietNext : Place → Condition → Type 0
  QuietNext at (plain e) = NoneGives at (leaves_under e)
  QuietNext at (next_among x e) = OwnName at x × NoneGives at (leaves_under e)
  QuietNext at (kept x) = OwnName at x
  QuietNext at (now_among x e) = ⊥

  own_target : (at : Place) (when : Moment) (x : Text) → (is_target p at when (x ∷ []) ≡ false → ⊥) → OwnName at x
  own_target at when x h = assigned_no_input when (kind_at (module_at p at) x) (not_false_true (may_be_assigned when (kind_at (module_at p at) x)) h)

  first_assigned : (at : Place) (when : Moment) (target : Path) (e : Formula) → (AtSome (GivesInput p at) (inputs_judged (is_later when) e) → ⊥) → (is_target p at when target ≡ false → ⊥)
      → Each (QuietNow at) (assigned_first when target e)
  first_assigned at First (x ∷ []) e h k = ((own_target at First x k, each_not (GivesInput p at) (leaves_in e) h), tt)
  first_assigned at First [] e h k = tt
  first_assigned at First (x ∷ (y ∷ ys)) e h k = tt
  first_assigned at Always target e h k = tt
  first_assigned at After target e h k = tt

  each_assigned : (at : Place) (when : Moment) (target : Path) (e : Formula) → (AtSome (GivesInput p at) (inputs_judged (is_later when) e) → ⊥) → (is_target p at when target ≡ false → ⊥)
      → Each (QuietNow at) (assigned_each when target e)
  each_assigned at Always (x ∷ []) e h k = ((own_target at Always x k, each_not (GivesInput p at) (leaves_in e) h), tt)
  each_assigned at Always [] e h k = tt
  each_assigned at Always (x ∷ (y ∷ ys)) e h k = tt
  each_assigned at First target e h k = tt
  each_assigned at After target e h k = tt

  step_assigned : (at : Place) (when : Moment) (target : Path) (e : Formula) → (AtSome (GivesInput p at) (inputs_judged (is_later when) e) → ⊥) → (is_target p at when target ≡ false → ⊥)
      → Each (QuietNext at) (assigned_step when target e)
  step_assigned at After (x ∷ []) e h k = ((own_target at After x k, each_not (GivesInput p at) (leaves_under e) h), tt)
  step_assigned at After [] e h k = tt
  step_assigned at After (x ∷ (y ∷ ys)) e h k = tt
  step_assigned at First target e h k = tt
  step_assigned at Always target e h k = tt

  first_item : (at : Place) (i : Item) → (BreaksInputs p at i → ⊥) → (BreaksTarget p at i → ⊥) → Each (QuietNow at) (first_conditions i)
  first_item at (an_init e) h k = (each_not (GivesInput p at) (leaves_in e) h, tt)
  first_item at (an_assignment a) h k = first_assigned at a.when a.target a.value h k
  first_item at (a_declaration role d) h k = tt
  first_item at (a_definition d) h k = tt
  first_item at (some_constants xs) h k = tt
  first_item at (an_invar e) h k = tt
  first_item at (a_trans e) h k = tt

  each_item : (at : Place) (i : Item) → (BreaksInputs p at i → ⊥) → (BreaksTarget p at i → ⊥) → Each (QuietNow at) (each_conditions i)
  each_item at (an_invar e) h k = (each_not (GivesInput p at) (leaves_in e) h, tt)
  each_item at (an_assignment a) h k = each_assigned at a.when a.target a.value h k
  each_item at (a_declaration role d) h k = tt
  each_item at (a_definition d) h k = tt
  each_item at (some_constants xs) h k = tt
  each_item at (an_init e) h k = tt
  each_item at (a_trans e) h k = tt

  step_item : (at : Place) (i : Item) → (BreaksInputs p at i → ⊥) → (BreaksTarget p at i → ⊥) → Each (QuietNext at) (step_conditions i)
  step_item at (a_trans e) h k = (each_not (GivesInput p at) (leaves_under e) h, tt)
  step_item at (an_assignment a) h k = step_assigned at a.when a.target a.value h k
  step_item at (a_declaration role d) h k = tt
  step_item at (a_definition d) h k = tt
  step_item at (some_constants xs) h k = tt
  step_item at (an_init e) h k = tt
  step_item at (an_invar e) h k = tt

  kept_one : (at : Place) (x : Text) (t : DeclaredTree) → OwnName at x → Each (QuietNext at) (kept_declared x t)
  kept_one at x boolean h = (h, tt)
  kept_one at x (range lo hi) h = (h, tt)
  kept_one at x (members ms) h = (h, tt)
  kept_one at x (instance n actuals) h = tt

  -- a frozen variable is no input
  kept_item : (at : Place) (mt : ModuleTree) → IsInstance p at mt → (i : NumberedItem) → ItemFacts mt i → Each (QuietNext at) (kept_conditions i.item)
  kept_item at mt there i facts = by i.item facts.among facts.fresh
    where
      by : (item : Item) → items_of mt ≡ i.before ++ item ∷ facts.after → is_name_again (mt.formals ++ flat_map names_of_item i.before) (names_of_item item) ≡ false → Each (QuietNext at) (kept_conditions item)
      by (a_declaration frozen_role d) among fresh =
          let kind = kind_of_declaration mt i.before frozen_role d facts.after among fresh in
          kept_one at d.name d.what (ap (λ (o : Option ModuleTree). is_input_kind (kind_at o d.name)) there ∙ ap is_input_kind kind ∙ frozen_no_input d.what)
      by (a_declaration state d) among fresh = tt
      by (a_declaration input d) among fresh = tt
      by (a_definition d) among fresh = tt
      by (an_assignment a) among fresh = tt
      by (some_constants xs) among fresh = tt
      by (an_init e) among fresh = tt
      by (an_invar e) among fresh = tt
      by (a_trans e) among fresh = tt

  -- what holds of the conditions of each item of each instance holds of all conditions
  written_each : (Q : Place → Condition → Type 0) (what : Item → List Condition) → ((x : FlatInstance) (i : NumberedItem) → IsKept p (a_use x i) → Each (Q x.place) (what i.item)) → Each (IsKept p) (use_sites p)
      → Each (λ (w : Written). Q w.place w.condition) (conditions what p)
  written_each Q what f h =
      (each_flat (λ (w : Written). Q w.place w.condition) (λ at. flat_map (written_at what at.place) (items_named p at.module_name)) (instances_of p)).1
      (each_more _ _ (instances_of p) (λ (x : FlatInstance) whole. at_instance x (items_named p x.module_name) ((each_mapped (IsKept p) (a_use x) (items_named p x.module_name)).0 whole))
      ((each_flat (IsKept p) (λ (x : FlatInstance). map (a_use x) (items_named p x.module_name)) (instances_of p)).0 h))
    where
      at_instance : (x : FlatInstance) (items : List NumberedItem) → Each (λ i. IsKept p (a_use x i)) items → Each (λ (w : Written). Q w.place w.condition) (flat_map (written_at what x.place) items)
      at_instance x items whole =
          (each_flat (λ (w : Written). Q w.place w.condition) (written_at what x.place) items).1
          (each_more _ _ items (λ (i : NumberedItem) k. (each_mapped (λ (w : Written). Q w.place w.condition) (λ c. record { place = x.place; item = i.number; condition = c }) (what i.item)).1 (f x i k)) whole)

  module _ (accepted : IsAccepted p) where
    uses_kept : Each (IsKept p) (use_sites p)
    uses_kept = each_right (IsKept p) (visit_sites [] (visits p)) (use_sites p) (each_right (IsKept p) (module_sites p) (visit_sites [] (visits p) ++ use_sites p) accepted.1)

    first_quiet : Each (λ (w : Written). QuietNow w.place w.condition) (conditions first_conditions p)
    first_quiet = written_each QuietNow first_conditions (λ x i k. first_item x.place i.item (k input_here) (k not_a_target)) uses_kept

    each_quiet : Each (λ (w : Written). QuietNow w.place w.condition) (conditions each_conditions p)
    each_quiet = written_each QuietNow each_conditions (λ x i k. each_item x.place i.item (k input_here) (k not_a_target)) uses_kept

    step_quiet : Each (λ (w : Written). QuietNext w.place w.condition) (conditions step_conditions p)
    step_quiet = written_each QuietNext step_conditions (λ x i k. step_item x.place i.item (k input_here) (k not_a_target)) uses_kept

    kept_quiet : Each (λ (w : Written). QuietNext w.place w.condition) (conditions kept_conditions p)
    kept_quiet =
        let walkable = accepted_walkable p accepted in
        let main = main_is_there p walkable in
        let are = are_instances p walkable main.0 main.1 in
        (each_flat (λ (w : Written). QuietNext w.place w.condition) (λ at. flat_map (written_at kept_conditions at.place) (items_named p at.module_name)) (instances_of p)).1
        (each_from _ (instances_of p) (λ i x e.
        let real = are.real i x e in
        (each_flat (λ (w : Written). QuietNext w.place w.condition) (written_at kept_conditions x.place) (items_named p x.module_name)).1
        (each_more (ItemFacts real.0) _ (items_named p x.module_name)
        (λ (j : NumberedItem) facts. (each_mapped (λ (w : Written). QuietNext w.place w.condition) (λ c. record { place = x.place; item = j.number; condition = c }) (kept_conditions j.item)).1 (kept_item x.place real.0 real.1 j facts))
        (found_facts p 1 [] x.module_name real.0 real.2 (all_facts p walkable)))))

    module _ (m : FlatModel) (is : IsFlatOf p m) where
      -- a variable that is no input of its instance is no input
      own_quiet : (at : Place) (x : Text) (i : ℕ) → IsVariableNumber m at x i → OwnName at x → is_input_name m (flat_variable i) ≡ false
      own_quiet at x i n own =
          let kind = kind_there p accepted m is i n.variable n.is in
          let place : kind_at (module_at p n.variable.place) n.variable.name ≡ kind_at (module_at p at) x = (λ j. kind_at (module_at p (n.same_place j)) (n.same_name j)) in
          ap is_input_variable n.is ∙ no_input_role n.variable.role n.variable.declared (sym (ap is_input_kind kind) ∙ ap is_input_kind place ∙ own)

      none_now : (at : Place) (e : Formula) (flat : Tree FlatLeaf) → IsResolved (is.resolver at) e flat → NoneGives at (leaves_in e) → list_any (is_input_name m) (leaves_in flat) ≡ false
      none_now at e flat resolved none =
          none_any (is_input_name m) (leaves_in flat)
          (given_each (λ l. is_input_name m l ≡ false) (λ name. GivesInput p at name → ⊥) (is.resolver at) (λ name l r h. no_input p accepted m is at name l r h) (leaves_in flat) (leaves_in e)
          (sym (leaves_map Some flat) ∙ ap leaves_in resolved ∙ leaves_map (is.resolver at) e) none)

      none_next : (at : Place) (e : Formula) (flat : Tree FlatLeaf) → IsResolved (is.resolver at) e flat → NoneGives at (leaves_under e) → list_any (is_input_name m) (leaves_under flat) ≡ false
      none_next at e flat resolved none =
          none_any (is_input_name m) (leaves_under flat)
          (given_each (λ l. is_input_name m l ≡ false) (λ name. GivesInput p at name → ⊥) (is.resolver at) (λ name l r h. no_input p accepted m is at name l r h) (leaves_under flat) (leaves_under e)
          (sym (under_map Some flat) ∙ ap leaves_under resolved ∙ under_map (is.resolver at) e) none)

      quiet_now : (at : Place) (c : Condition) (flat : Tree FlatLeaf) → IsConditionTree m is.resolver at c flat → QuietNow at c → reads_input m flat ≡ false
      quiet_now at (plain e) flat tree quiet = none_now at e flat tree quiet
      quiet_now at (now_among x e) flat tree quiet =
          subst (λ (t : Tree FlatLeaf). reads_input m t ≡ false) (sym tree.is) (λ i. own_quiet at x tree.number tree.is_number quiet.0 i || none_now at e tree.value tree.resolved quiet.1 i)
      quiet_now at (next_among x e) flat tree quiet = absurd quiet
      quiet_now at (kept x) flat tree quiet = absurd quiet

      quiet_next : (at : Place) (c : Condition) (flat : Tree FlatLeaf) → IsConditionTree m is.resolver at c flat → QuietNext at c → reads_next_input m flat ≡ false
      quiet_next at (plain e) flat tree quiet = none_next at e flat tree quiet
      quiet_next at (next_among x e) flat tree quiet =
          subst (λ (t : Tree FlatLeaf). reads_next_input m t ≡ false) (sym tree.is) (λ i. own_quiet at x tree.number tree.is_number quiet.0 i || none_next at e tree.value tree.resolved quiet.1 i)
      quiet_next at (kept x) flat tree quiet = subst (λ (t : Tree FlatLeaf). reads_next_input m t ≡ false) (sym tree.is) (λ i. own_quiet at x tree.number tree.is_number quiet i || false)
      quiet_next at (now_among x e) flat tree quiet = absurd quiet

      formulas_now : (ws : List Written) (fs : List FlatFormula) → EachBoth (IsFormulaOf m is.resolver) ws fs → Each (λ (w : Written). QuietNow w.place w.condition) ws → Each (λ f. reads_input m f.value ≡ false) fs
      formulas_now [] [] h q = tt
      formulas_now [] (f ∷ fs) h q = absurd h
      formulas_now (w ∷ ws) [] h q = absurd h
      formulas_now (w ∷ ws) (f ∷ fs) h q = (quiet_now w.place w.condition f.value h.0.tree q.0, formulas_now ws fs h.1 q.1)

      formulas_next : (ws : List Written) (fs : List FlatFormula) → EachBoth (IsFormulaOf m is.resolver) ws fs → Each (λ (w : Written). QuietNext w.place w.condition) ws → Each (λ f. reads_next_input m f.value ≡ false) fs
      formulas_next [] [] h q = tt
      formulas_next [] (f ∷ fs) h q = absurd h
      formulas_next (w ∷ ws) [] h q = absurd h
      formulas_next (w ∷ ws) (f ∷ fs) h q = (quiet_next w.place w.condition f.value h.0.tree q.0, formulas_next ws fs h.1 q.1)

      pub first_reads_none : Each (λ f. reads_input m f.value ≡ false) m.at_first
      first_reads_none = formulas_now (conditions first_conditions p) m.at_first is.at_first first_quiet

      pub each_reads_none : Each (λ f. reads_input m f.value ≡ false) m.at_each
      each_reads_none = formulas_now (conditions each_conditions p) m.at_each is.at_each each_quiet

      pub step_reads_none : Each (λ f. reads_next_input m f.value ≡ false) m.at_step
      step_reads_none =
          formulas_next (conditions step_conditions p ++ conditions kept_conditions p) m.at_step is.at_step
          (each_join (λ (w : Written). QuietNext w.place w.condition) (conditions step_conditions p) (conditions kept_conditions p) step_quiet kept_quiet)
