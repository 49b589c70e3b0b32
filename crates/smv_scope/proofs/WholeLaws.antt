-- The walk from `main` on has met all instances and variables of the program.
use Rattle.std.proofs.Common.{◌≡◌, ℕ, suc, ◌-◌, arith, List, [], ◌∷◌, ◌++◌, length, map, reverse, Some, None, codes, refl, ap, ◌∙◌, sym, subst}
use Rattle.std.specs.Prelude.{slice_get, flat_map}
use Rattle.std.proofs.lemmas.List.{map-append}
use Rattle.smv_language.specs.Language.{Text, Formula, DeclaredTree, boolean, range, members, instance, ModuleTree, ProgramTree, Place, Role, an_instance, kind_declared, kind_at, module_at, find_module, is_among, Each, EachBoth, tree_of, FlatInstance, FlatVariable, place_of, variable_tree, texts}
use Rattle.smv_flat_laws.specs.Items.{Item as ItemOf, a_declaration, a_definition, an_assignment, some_constants, an_init, an_invar, a_trans, NumberedItem, items_named, Visit, walk, visits, instance_declared, instances_of_visit, instances_of, variables_of}
use Rattle.smv_flat_laws.specs.Rules.{IsWalkable}
use Rattle.smv_flat_laws.proofs.Conditions.{each_join}
use Rattle.smv_flat_laws.proofs.Places.{Real, has_main}
use Rattle.smv_flat_laws.proofs.Variables.{both_at_second}
use Rattle.smv_flat_laws.proofs.Walkable.{main_is_there}
use Rattle.smv_scope.specs.declared.fault.FlatFault.{FlatFault}
use Rattle.smv_language.specs.declared.model.Variable.{Variable}
use Rattle.smv_scope.specs.declared.modules.Modules.{Modules}
use Rattle.smv_scope.specs.declared.modules.ModuleNames.{ModuleNames}
use Rattle.smv_scope.specs.declared.walk.Meaning.{Meaning as Found}
use Rattle.smv_scope.specs.declared.walk.Spot.{Spot}
use Rattle.smv_scope.specs.declared.walk.Walk.{Walk}
use Rattle.smv_scope.specs.Faults.{IsFaultOf}
use Rattle.smv_scope.specs.ModuleFaults.{IsTold, IsModuleAt}
use Rattle.smv_scope.specs.SceneTree.{AreModules, IsWalked, IsCalled, IsSpotWalked}
use Rattle.smv_scope.specs.WalkFindings.{IsDeclaredBy, IsWhole}
use Rattle.smv_scope.specs.InstanceWalk.{Call, calls_declared, calls_in, variables_in, visits_told, walk_from, program_in, name_at, call_of, calls_of, variables_of_walk, on_path_of, visits_within, IsInstanceIn, IsVariableIn, IsDeclarationIn, IsOwnIn, IsCaller, IsSpotOf, IsDeclaredIn, HasEntered, IsPath, IsEntry}
use Rattle.smv_scope.proofs.FoundModule.{main_at}
use Rattle.smv_scope.proofs.MetLaws.{calls_met, module_named}
use Rattle.smv_scope.proofs.ReadingLaws.{told_as}
use Rattle.smv_scope.proofs.VisitFaults.{walkable, visits_fault}
use Rattle.smv_scope.proofs.SceneItems.{both_more}
use Rattle.smv_language.proofs.ListLaws.{get_map}

-- Lists.
both_to_map : {A B C : Type 0} (f : A → C) (R : C → B → Type 0) (xs : List A) (ys : List B) → EachBoth (λ (x : A). R (f x)) xs ys → EachBoth R (map f xs) ys
both_to_map f R [] [] h = tt
both_to_map f R [] (y ∷ ys) h = absurd h
both_to_map f R (x ∷ xs) [] h = absurd h
both_to_map f R (x ∷ xs) (y ∷ ys) h = (h.0, both_to_map f R xs ys h.1)

both_with : {A B : Type 0} (P : A → Type 0) (R S : A → B → Type 0) (xs : List A) (ys : List B) → ((x : A) (y : B) → P x → R x y → S x y) → Each P xs → EachBoth R xs ys → EachBoth S xs ys
both_with P R S [] [] f p h = tt
both_with P R S [] (y ∷ ys) f p h = absurd h
both_with P R S (x ∷ xs) [] f p h = absurd h
both_with P R S (x ∷ xs) (y ∷ ys) f p h = (f x y p.0 h.0, both_with P R S xs ys f p.1 h.1)

-- an instance without what it is handed
abbrev pub instance_of : Call → FlatInstance
instance_of c = record { place = c.place; module_name = c.module_name }

declared_instances : (at : Place) (what : DeclaredTree) → map instance_of (calls_declared at what) ≡ instance_declared at what
declared_instances at boolean = refl
declared_instances at (range lo hi) = refl
declared_instances at (members ms) = refl
declared_instances at (instance m actuals) = refl

visited_instances : (vs : List Visit) → map instance_of (calls_in vs) ≡ flat_map instances_of_visit vs
visited_instances [] = refl
visited_instances (v ∷ vs) =
    map-append instance_of (calls_declared (v.decl.name ∷ v.place) v.decl.what) (calls_in vs)
    ∙ ap (λ is. is ++ map instance_of (calls_in vs)) (declared_instances (v.decl.name ∷ v.place) v.decl.what)
    ∙ ap (λ is. instances_of_visit v ++ is) (visited_instances vs)

-- what an instance is handed stands in its declaration
abbrev IsHanded : ProgramTree → Place → Text → List Formula → Type 0
IsHanded p [] m actuals = actuals ≡ []
IsHanded p (own ∷ at) m actuals = kind_at (module_at p at) own ≡ an_instance m actuals

abbrev IsCallHanded : ProgramTree → Call → Type 0
IsCallHanded p c = IsHanded p c.place c.module_name c.actuals

visit_handed : (p : ProgramTree) (at : Place) (x : Text) (role : Role) (what : DeclaredTree) → kind_at (module_at p at) x ≡ kind_declared role what → Each (IsCallHanded p) (calls_declared (x ∷ at) what)
visit_handed p at x role boolean e = tt
visit_handed p at x role (range lo hi) e = tt
visit_handed p at x role (members ms) e = tt
visit_handed p at x role (instance m actuals) e = (e, tt)

visits_handed : (p : ProgramTree) (vs : List Visit) → Each (Real p) vs → Each (IsCallHanded p) (calls_in vs)
visits_handed p [] h = tt
visits_handed p (v ∷ vs) h =
    each_join (IsCallHanded p) (calls_declared (v.decl.name ∷ v.place) v.decl.what) (calls_in vs)
    (visit_handed p v.place v.decl.name v.role v.decl.what (ap (λ o. kind_at o v.decl.name) h.0.is ∙ h.0.kind))
    (visits_handed p vs h.1)

-- Numbers of the walk are numbers of the program.
module _ (ms : Modules) (calls : List Call) (instances : map instance_of calls ≡ instances_of (program_in ms)) (vars : List FlatVariable)
    (variables : EachBoth (IsDeclaredIn calls) (variables_of (program_in ms)) vars) where
  abbrev p : ProgramTree
  p = program_in ms

  instance_at : (k : ℕ) (c : Call) → slice_get calls k ≡ Some c → slice_get (instances_of p) k ≡ Some (instance_of c)
  instance_at k c e = ap (λ is. slice_get is k) (sym instances) ∙ get_map instance_of calls k c e

  instance_walked : (at : Place) (x : Text) (role : Role) (m : Text) (actuals : List Formula) (f : Found) → IsInstanceIn calls (x ∷ at) f → IsWalked p at (a_declaration role (record { name = x; what = instance m actuals })) f
  instance_walked at x role m actuals f h =
      subst (λ (g : Found). IsWalked p at (a_declaration role (record { name = x; what = instance m actuals })) g) (sym h.means)
      (instance_of h.call, instance_at h.number h.call h.is, h.place)

  abbrev IsVariableOwn : Place → Text → Role → Found → Type 0
  IsVariableOwn at x role f = IsWalked p at (a_declaration role (record { name = x; what = boolean })) f

  variable_walked : (at : Place) (x : Text) (role : Role) (f : Found) → IsVariableIn vars at x role f → IsVariableOwn at x role f
  variable_walked at x role f h =
      let v : (v : Visit) × (slice_get (variables_of p) h.number ≡ Some v) × IsDeclaredIn calls v h.variable = both_at_second (IsDeclaredIn calls) (variables_of p) vars h.number h.variable variables h.is in
      subst (λ (g : Found). IsVariableOwn at x role g) (sym h.means)
      (v.0, v.1, sym v.2.place ∙ h.place, sym v.2.name ∙ h.name, sym v.2.role ∙ h.role_is ∙ sym h.same_role)

  declaration_walked : (at : Place) (x : Text) (role : Role) (what : DeclaredTree) (f : Found) → IsDeclarationIn calls vars at x role what f → IsWalked p at (a_declaration role (record { name = x; what = what })) f
  declaration_walked at x role boolean f h = variable_walked at x role f h
  declaration_walked at x role (range lo hi) f h = variable_walked at x role f h
  declaration_walked at x role (members ms) f h = variable_walked at x role f h
  declaration_walked at x role (instance m actuals) f h = instance_walked at x role m actuals f h

  own_walked : (at : Place) (i : ItemOf) (f : Found) → IsOwnIn calls vars at i f → IsWalked p at i f
  own_walked at (a_declaration role d) f h = declaration_walked at d.name role d.what f h
  own_walked at (a_definition d) f h = h
  own_walked at (an_assignment a) f h = h
  own_walked at (some_constants xs) f h = h
  own_walked at (an_init e) f h = h
  own_walked at (an_invar e) f h = h
  own_walked at (a_trans e) f h = h

  called : (at : Place) (m : Text) (actuals : List Formula) (caller : ℕ) → IsHanded p at m actuals → IsCaller calls at caller → IsCalled p (record { place = at; module_name = m }) at caller actuals
  called [] m actuals caller handed c = handed
  called (own ∷ at) m actuals caller handed c = ((instance_of c.0, instance_at caller c.0 c.1, c.2), handed)

  spot_walked : (c : Call) (spot : Spot) → IsCallHanded p c → IsSpotOf ms calls vars c spot → IsSpotWalked p (instance_of c) spot
  spot_walked c spot handed h = record {
    placed = record {
      tree = h.is.tree;
      is = h.is.is;
      named = h.is.named;
      items = h.is.items;
      path = ap (λ (d : Call). d.place) h.call;
      called = subst (λ (as' : List Formula). IsCalled p (instance_of c) c.place spot.caller as') (sym (ap (λ (d : Call). d.actuals) h.call))
          (called c.place c.module_name c.actuals spot.caller handed h.caller);
    };
    own = both_more (λ (i : NumberedItem). IsOwnIn calls vars c.place i.item) (λ (i : NumberedItem). IsWalked p c.place i.item) (items_named p c.module_name) spot.own.items
        (λ (i : NumberedItem) f. own_walked c.place i.item f) h.own;
  }

  variable_declared_by : (v : Visit) (x : FlatVariable) → IsDeclaredIn calls v x → IsDeclaredBy p v x
  variable_declared_by v x h = record {
    place = h.place;
    name = h.name;
    role = h.role;
    declared = h.declared;
    item = h.item;
    at = instance_of h.at;
    is = instance_at x.number h.at h.is;
    at_place = h.at_place;
  }

-- The walk from `main` on.
module _ (ms : Modules) (known : AreModules ms) (w0 : Walk) (spots : w0.spots.items ≡ []) (variables : w0.variables ≡ []) (inside : w0.inside.items ≡ [])
    (main : Spot) (at_main : main.«module» ≡ ms.main) (no_path : main.path ≡ None) (no_actuals : main.actuals.now ≡ []) where
  main_name : name_at ms main.«module» ≡ codes "main"
  main_name =
      let at : (names : ModuleNames) × IsModuleAt ms (codes "main") ms.main names = main_at ms known in
      ap (name_at ms) at_main ∙ module_named ms (codes "main") ms.main at.0 at.1

  no_modules : on_path_of w0 ≡ []
  no_modules = ap (λ ks. reverse (texts ks)) inside

  no_place : place_of main.path ≡ []
  no_place = ap place_of no_path

  pub main_enters : IsEntry ms w0 main
  main_enters =
      let at : (names : ModuleNames) × IsModuleAt ms (codes "main") ms.main names = main_at ms known in
      record {
        names = at.0;
        is = subst (λ (x : Text). IsModuleAt ms x main.«module» at.0) (sym main_name) (subst (λ (k : ℕ). IsModuleAt ms (codes "main") k at.0) (sym at_main) at.1);
        caller = subst (λ (place : Place). IsCaller (calls_of ms w0) place main.caller) (sym no_place) tt;
        path = subst (λ (on : List Text). IsPath (program_in ms) on) (sym no_modules) (record { there = tt; apart = tt });
        fresh = ap (λ on. is_among on (name_at ms main.«module»)) no_modules;
      }

  all_visits : visits_within ms w0 main ≡ visits (program_in ms)
  all_visits =
      let whole : length (program_in ms) - 0 ≡ length (program_in ms) = omega arith in
      ap (λ on. walk_from (program_in ms) on (place_of main.path) (name_at ms main.«module»)) no_modules
      ∙ ap (λ at. walk_from (program_in ms) [] at (name_at ms main.«module»)) no_place
      ∙ ap (walk_from (program_in ms) [] []) main_name
      ∙ ap (λ n. walk n (program_in ms) [] [] (codes "main")) whole

  told_all : visits_told (program_in ms) (suc (length w0.spots.items)) (length w0.variables) (visits_within ms w0 main) ≡ visits_told (program_in ms) 1 0 (visits (program_in ms))
  told_all =
      ap (λ (ss : List Spot). visits_told (program_in ms) (suc (length ss)) (length w0.variables) (visits_within ms w0 main)) spots
      ∙ ap (λ (vs : List Variable). visits_told (program_in ms) 1 (length vs) (visits_within ms w0 main)) variables
      ∙ ap (visits_told (program_in ms) 1 0) all_visits

  pub whole_fault : (f : FlatFault) → IsTold (visits_told (program_in ms) (suc (length w0.spots.items)) (length w0.variables) (visits_within ms w0 main)) f → IsFaultOf (program_in ms) f
  whole_fault f h =
      visits_fault ms f known
      (told_as (visits_told (program_in ms) (suc (length w0.spots.items)) (length w0.variables) (visits_within ms w0 main)) (visits_told (program_in ms) 1 0 (visits (program_in ms))) f told_all h)

  module _ (kept : visits_told (program_in ms) (suc (length w0.spots.items)) (length w0.variables) (visits_within ms w0 main) ≡ None) (w1 : Walk) (number : ℕ) (entered : HasEntered ms w0 main w1 number) where
    is_walkable : IsWalkable (program_in ms)
    is_walkable = walkable ms known (sym told_all ∙ kept)

    abbrev all_calls : List Call
    all_calls = call_of ms main ∷ calls_in (visits (program_in ms))

    all_spots : w1.spots.items ≡ entered.walked.more
    all_spots = entered.walked.spots ∙ ap (λ ss. ss ++ entered.walked.more) spots

    all_variables : w1.variables ≡ entered.walked.added
    all_variables = entered.walked.variables ∙ ap (λ vs. vs ++ entered.walked.added) variables

    all_done : EachBoth (IsSpotOf ms (calls_of ms w1) (variables_of_walk w1)) all_calls w1.spots.items
    all_done =
        subst (λ (ss : List Spot). EachBoth (IsSpotOf ms (calls_of ms w1) (variables_of_walk w1)) all_calls ss) (sym all_spots)
        (subst (λ (vs : List Visit). EachBoth (IsSpotOf ms (calls_of ms w1) (variables_of_walk w1)) (call_of ms main ∷ calls_in vs) entered.walked.more) all_visits entered.walked.done)

    all_declared : EachBoth (IsDeclaredIn (calls_of ms w1)) (variables_of (program_in ms)) (variables_of_walk w1)
    all_declared =
        subst (λ (vs : List Variable). EachBoth (IsDeclaredIn (calls_of ms w1)) (variables_of (program_in ms)) (map variable_tree vs)) (sym all_variables)
        (subst (λ (vs : List Visit). EachBoth (IsDeclaredIn (calls_of ms w1)) (variables_in vs) (map variable_tree entered.walked.added)) all_visits entered.walked.declared)

    main_instance : instance_of (call_of ms main) ≡ record { place = []; module_name = codes "main" }
    main_instance = ap (λ at. record { place = at; module_name = name_at ms main.«module» }) no_place ∙ ap (λ x. record { place = []; module_name = x }) main_name

    call_instances : map instance_of all_calls ≡ instances_of (program_in ms)
    call_instances =
        ap (λ i. i ∷ map instance_of (calls_in (visits (program_in ms)))) main_instance
        ∙ ap (λ is. record { place = []; module_name = codes "main" } ∷ is) (visited_instances (visits (program_in ms)))

    all_instances : map instance_of (calls_of ms w1) ≡ instances_of (program_in ms)
    all_instances = ap (map instance_of) (calls_met ms (calls_of ms w1) (variables_of_walk w1) all_calls w1.spots.items all_done) ∙ call_instances

    main_handed : IsCallHanded (program_in ms) (call_of ms main)
    main_handed = subst (λ (at : Place). IsHanded (program_in ms) at (name_at ms main.«module») (map tree_of main.actuals.now)) (sym no_place) (ap (map tree_of) no_actuals)

    all_handed : Each (IsCallHanded (program_in ms)) all_calls
    all_handed =
        let m : (m : ModuleTree) × (find_module (program_in ms) (codes "main") ≡ Some m) = main_is_there (program_in ms) is_walkable in
        (main_handed, visits_handed (program_in ms) (visits (program_in ms)) (has_main (program_in ms) is_walkable m.0 m.1))

    all_walked : EachBoth (IsSpotWalked (program_in ms)) (instances_of (program_in ms)) w1.spots.items
    all_walked =
        subst (λ (is : List FlatInstance). EachBoth (IsSpotWalked (program_in ms)) is w1.spots.items) call_instances
        (both_to_map instance_of (IsSpotWalked (program_in ms)) all_calls w1.spots.items
        (both_with (IsCallHanded (program_in ms)) (IsSpotOf ms (calls_of ms w1) (variables_of_walk w1)) (λ (c : Call) (spot : Spot). IsSpotWalked (program_in ms) (instance_of c) spot) all_calls w1.spots.items
        (spot_walked ms (calls_of ms w1) all_instances (variables_of_walk w1) all_declared) all_handed all_done))

    pub whole_met : IsWhole (program_in ms) w1
    whole_met = record {
      walkable = is_walkable;
      spots = all_walked;
      variables = both_more (IsDeclaredIn (calls_of ms w1)) (IsDeclaredBy (program_in ms)) (variables_of (program_in ms)) (variables_of_walk w1)
          (variable_declared_by ms (calls_of ms w1) all_instances (variables_of_walk w1) all_declared) all_declared;
    }
