-- What the walk has met at an item: nothing, a variable or an instance.
use Rattle.std.proofs.Common.{◌≡◌, ℕ, suc, ◌+◌, ◌<◌, arith, true, false, List, [], ◌∷◌, ◌++◌, length, map, if◌then◌else◌, Some, None, refl, ap, ◌∙◌, sym, subst}
use Rattle.std.specs.Prelude.{slice_get}
use Rattle.std.proofs.lemmas.List.{append-nil, map-append, length-map}
use Rattle.smv_language.specs.Language.{Text, Formula, DeclaredTree, boolean, range, members, instance, declared_tree, ModuleTree, Place, Role, is_among, tree_of, FlatVariable, role_of, place_of, variable_tree, EachBoth}
use Rattle.std.specs.Borrow.{Bor}
use Rattle.smv_language.specs.declared.program.Decl.{Decl}
use Rattle.smv_language.specs.declared.program.Declared.{Declared}
use Rattle.smv_language.specs.declared.program.Declared.TheVariants as declared
use Rattle.smv_flat_laws.specs.Items.{Item as ItemOf, a_declaration, Visit}
use Rattle.smv_scope.specs.declared.items.Item.{Item}
use Rattle.smv_scope.specs.declared.items.Item.TheVariants as code
use Rattle.smv_language.specs.declared.model.Variable.{Variable}
use Rattle.smv_language.specs.declared.model.Role.{Role as RoleWord}
use Rattle.smv_scope.specs.declared.modules.Modules.{Modules}
use Rattle.smv_scope.specs.declared.modules.ModuleNames.{ModuleNames}
use Rattle.smv_scope.specs.declared.walk.Meaning.TheVariants as found
use Rattle.smv_scope.specs.declared.walk.Spot.{Spot}
use Rattle.smv_scope.specs.declared.walk.Walk.{Walk}
use Rattle.smv_scope.specs.ClosedModels.{is_instance}
use Rattle.smv_scope.specs.ItemTree.{item_tree}
use Rattle.smv_scope.specs.ModuleFaults.{told_first, IsModuleAt}
use Rattle.smv_scope.specs.InstanceWalk.{Call, calls_in, variables_in, instance_told, visits_told, walk_from, program_in, name_in, name_at, IsCaller, IsEntry, IsModuleOf, IsStanding, call_of, calls_of, variables_of_walk, on_path_of, place_of_spot, place_at, visits_at, visits_within, told_from, IsVariableIn, IsOwnIn, IsSpotOf, IsDeclaredIn, HasWalked, HasMet, HasEntered}
use Rattle.smv_scope.proofs.EnterLaws.{get_here}
use Rattle.smv_scope.proofs.WalkLaws.{walked_none}
use Rattle.smv_language.proofs.ListLaws.{get_map}
use Rattle.smv_language.proofs.ProgramLaws.{found_named}
use Rattle.base_values.proofs.ListLaws.{get_within}

-- An instance.
pub calls_met : (ms : Modules) (calls : List Call) (vars : List FlatVariable) (cs : List Call) (spots : List Spot) → EachBoth (IsSpotOf ms calls vars) cs spots → map (call_of ms) spots ≡ cs
calls_met ms calls vars [] [] h = refl
calls_met ms calls vars [] (s ∷ spots) h = absurd h
calls_met ms calls vars (c ∷ cs) [] h = absurd h
calls_met ms calls vars (c ∷ cs) (s ∷ spots) h = ap (λ d. d ∷ map (call_of ms) spots) h.0.call ∙ ap (λ ds. c ∷ ds) (calls_met ms calls vars cs spots h.1)

module _ (ms : Modules) (w0 : Walk) (spot n : ℕ) (role : Role) (x m : Text) (actuals : List Formula) (fresh : is_among (on_path_of w0) m ≡ false)
    (inner : Spot) (handed : call_of ms inner ≡ record { place = x ∷ place_at w0 spot; module_name = m; actuals = actuals }) where
  abbrev item : ℕ × ItemOf
  item = (n, a_declaration role (record { name = x; what = instance m actuals }))

  abbrev visit : Visit
  visit = record { place = place_at w0 spot; on_path = on_path_of w0; number = n; role = role; decl = record { name = x; what = instance m actuals } }

  visits_are : visits_at ms w0 spot item ≡ visit ∷ visits_within ms w0 inner
  visits_are =
      ap (λ b. visit ∷ (if b then [] else walk_from (program_in ms) (on_path_of w0) (x ∷ place_at w0 spot) m)) fresh
      ∙ sym (ap (λ (c : Call). visit ∷ walk_from (program_in ms) (on_path_of w0) c.place c.module_name) handed)

  pub instance_told_first : told_from ms w0 (visits_at ms w0 spot item)
      ≡ told_first (instance_told (program_in ms) (on_path_of w0) (length w0.spots.items) n m (length actuals))
      (visits_told (program_in ms) (suc (length w0.spots.items)) (length w0.variables) (visits_within ms w0 inner))
  instance_told_first =
      let next : length w0.spots.items + 1 ≡ suc (length w0.spots.items) = omega arith in
      let same : length w0.variables + 0 ≡ length w0.variables = omega arith in
      ap (told_from ms w0) visits_are
      ∙ ap (λ i. told_first (instance_told (program_in ms) (on_path_of w0) (length w0.spots.items) n m (length actuals)) (visits_told (program_in ms) i (length w0.variables + 0) (visits_within ms w0 inner))) next
      ∙ ap (λ k. told_first (instance_told (program_in ms) (on_path_of w0) (length w0.spots.items) n m (length actuals)) (visits_told (program_in ms) (suc (length w0.spots.items)) k (visits_within ms w0 inner))) same

  module _ (w1 : Walk) (number : ℕ) (entered : HasEntered ms w0 inner w1 number) where
    walked : HasWalked ms w0 (calls_in (visits_at ms w0 spot item)) (visits_at ms w0 spot item) w1
    walked =
        subst (λ (vs : List Visit). HasWalked ms w0 (calls_in vs) vs w1) (sym visits_are)
        (record {
          more = entered.walked.more;
          spots = entered.walked.spots;
          done = subst (λ (c : Call). EachBoth (IsSpotOf ms (calls_of ms w1) (variables_of_walk w1)) (c ∷ calls_in (visits_within ms w0 inner)) entered.walked.more) handed entered.walked.done;
          added = entered.walked.added;
          variables = entered.walked.variables;
          declared = entered.walked.declared;
          inside = entered.walked.inside;
        })

    calls_more : calls_of ms w1 ≡ calls_of ms w0 ++ call_of ms inner ∷ calls_in (visits_within ms w0 inner)
    calls_more =
        ap (map (call_of ms)) entered.walked.spots ∙ map-append (call_of ms) w0.spots.items entered.walked.more
        ∙ ap (λ cs. calls_of ms w0 ++ cs) (calls_met ms (calls_of ms w1) (variables_of_walk w1) (call_of ms inner ∷ calls_in (visits_within ms w0 inner)) entered.walked.more entered.walked.done)

    pub met_instance : HasMet ms w0 spot item w1 (found.Instance number)
    met_instance =
        let count : number ≡ length (calls_of ms w0) = entered.number_is ∙ sym (length-map w0.spots.items (call_of ms)) in
        record {
          walked = walked;
          own = record {
            number = number;
            means = refl;
            call = call_of ms inner;
            is = ap (slice_get (calls_of ms w1)) count ∙ ap (λ cs. slice_get cs (length (calls_of ms w0))) calls_more
                ∙ get_here (calls_of ms w0) (call_of ms inner) (calls_in (visits_within ms w0 inner));
            place = ap (λ (c : Call). c.place) handed;
          };
        }

-- A variable.
module _ (ms : Modules) (w0 : Walk) (spot n : ℕ) (word : RoleWord) (x : Text) (within : spot < length w0.spots.items) (w1 : Walk) (added : Variable) (number : ℕ)
    (spots : w1.spots.items ≡ w0.spots.items) (inside : w1.inside.items ≡ w0.inside.items) (variables : w1.variables ≡ w0.variables ++ added ∷ []) (count : number ≡ length w0.variables)
    (place : (variable_tree added).place ≡ place_at w0 spot) (name : (variable_tree added).name ≡ x) (role_is : (variable_tree added).role ≡ role_of word) (item_is : added.item ≡ n)
    (instance_is : added.«instance» ≡ spot) where
  abbrev plain_visit : DeclaredTree → Visit
  plain_visit what = record { place = place_at w0 spot; on_path = on_path_of w0; number = n; role = role_of word; decl = record { name = x; what = what } }

  spot_there : (c : Call) × (slice_get (calls_of ms w1) added.«instance» ≡ Some c) × (c.place ≡ place_at w0 spot)
  spot_there =
      let s : (s : Spot) × (slice_get w0.spots.items spot ≡ Some s) = get_within w0.spots.items spot within in (
        call_of ms s.0,
        ap (slice_get (calls_of ms w1)) instance_is ∙ ap (λ ss. slice_get (map (call_of ms) ss) spot) spots ∙ get_map (call_of ms) w0.spots.items spot s.0 s.1,
        sym (ap place_of_spot s.1),
      )

  plain_declared : (what : DeclaredTree) → (variable_tree added).declared ≡ what → IsDeclaredIn (calls_of ms w1) (plain_visit what) (variable_tree added)
  plain_declared what e = record { place = place; name = name; role = role_is; declared = e; item = item_is; at = spot_there.0; is = spot_there.1; at_place = spot_there.2 }

  plain_walked : (what : DeclaredTree) → (variable_tree added).declared ≡ what → variables_in (plain_visit what ∷ []) ≡ plain_visit what ∷ [] → HasWalked ms w0 [] (plain_visit what ∷ []) w1
  plain_walked what e one = record {
    more = [];
    spots = spots ∙ sym (append-nil w0.spots.items);
    done = tt;
    added = added ∷ [];
    variables = variables;
    declared = subst (λ (vs : List Visit). EachBoth (IsDeclaredIn (calls_of ms w1)) vs (variable_tree added ∷ [])) (sym one) (plain_declared what e, tt);
    inside = inside;
  }

  own_is : IsVariableIn (variables_of_walk w1) (place_at w0 spot) x (role_of word) (found.Variable number word)
  own_is =
      let last : number ≡ length (variables_of_walk w0) = count ∙ sym (length-map w0.variables variable_tree) in
      record {
        number = number;
        word = word;
        means = refl;
        variable = variable_tree added;
        is = ap (slice_get (variables_of_walk w1)) last
            ∙ ap (λ vs. slice_get vs (length (variables_of_walk w0))) (ap (map variable_tree) variables ∙ map-append variable_tree w0.variables (added ∷ []))
            ∙ get_here (variables_of_walk w0) (variable_tree added) [];
        place = place;
        name = name;
        role_is = role_is;
        same_role = refl;
      }

  pub met_variable : (what : Declared) → is_instance what ≡ false → (variable_tree added).declared ≡ declared_tree what →
      HasMet ms w0 spot (n, a_declaration (role_of word) (record { name = x; what = declared_tree what })) w1 (found.Variable number word)
  met_variable declared.Boolean plain e = record { walked = plain_walked boolean e refl; own = own_is }
  met_variable (declared.Range lo hi) plain e = record { walked = plain_walked (range lo hi) e refl; own = own_is }
  met_variable (declared.Members list) plain e = record { walked = plain_walked (members list) e refl; own = own_is }
  met_variable (declared.Instance m actuals) plain e = let bad : true ≡ false = plain in cc

-- Nothing.
pub met_nothing : (ms : Modules) (w : Walk) (spot : ℕ) (i : ℕ × ItemOf) → visits_at ms w spot i ≡ [] → IsOwnIn (calls_of ms w) (variables_of_walk w) (place_at w spot) i.1 found.Nothing → HasMet ms w spot i w found.Nothing
met_nothing ms w spot i none own = record { walked = subst (λ (vs : List Visit). HasWalked ms w (calls_in vs) vs w) (sym none) (walked_none ms w); own = own }

-- an item that declares nothing is met with nothing
module _ (ms : Modules) (w : Walk) (spot n : ℕ) where
  nothing_at : (i : Item) → ((role : RoleWord) (d : Bor Decl) → i ≡ code.Declared role d → ⊥) → visits_at ms w spot (n, item_tree i) ≡ []
  nothing_at (code.Declared role d) other = absurd (other role d refl)
  nothing_at (code.Defined d) other = refl
  nothing_at (code.Assigned a) other = refl
  nothing_at (code.Constants xs) other = refl
  nothing_at (code.Init e) other = refl
  nothing_at (code.Invar e) other = refl
  nothing_at (code.Trans e) other = refl

  pub met_other : (i : Item) → ((role : RoleWord) (d : Bor Decl) → i ≡ code.Declared role d → ⊥) → HasMet ms w spot (n, item_tree i) w found.Nothing
  met_other (code.Declared role d) other = absurd (other role d refl)
  met_other (code.Defined d) other = met_nothing ms w spot (n, item_tree (code.Defined d)) refl refl
  met_other (code.Assigned a) other = met_nothing ms w spot (n, item_tree (code.Assigned a)) refl refl
  met_other (code.Constants xs) other = met_nothing ms w spot (n, item_tree (code.Constants xs)) refl refl
  met_other (code.Init e) other = met_nothing ms w spot (n, item_tree (code.Init e)) refl refl
  met_other (code.Invar e) other = met_nothing ms w spot (n, item_tree (code.Invar e)) refl refl
  met_other (code.Trans e) other = met_nothing ms w spot (n, item_tree (code.Trans e)) refl refl

  pub told_other : (i : Item) → ((role : RoleWord) (d : Bor Decl) → i ≡ code.Declared role d → ⊥) → told_from ms w (visits_at ms w spot (n, item_tree i)) ≡ None
  told_other i other = ap (told_from ms w) (nothing_at i other)

-- The instance that a declaration hands to the walk.
pub module_named : (ms : Modules) (x : Text) (k : ℕ) (names : ModuleNames) → IsModuleAt ms x k names → name_at ms k ≡ x
module_named ms x k names is = ap name_in is.listed ∙ ap (λ (t : ModuleTree). t.name) is.has.tree ∙ found_named (program_in ms) x is.tree.tree is.named

module _ (ms : Modules) (w0 : Walk) (x m : Text) (inner : Spot) (standing : IsStanding ms w0 inner.caller) (at_module : IsModuleOf ms w0 m inner.«module») (placed : place_of inner.path ≡ x ∷ place_at w0 inner.caller) where
  caller_there : IsCaller (calls_of ms w0) (x ∷ place_at w0 inner.caller) inner.caller
  caller_there =
      let s : (s : Spot) × (slice_get w0.spots.items inner.caller ≡ Some s) = get_within w0.spots.items inner.caller standing.within in
      (call_of ms s.0, get_map (call_of ms) w0.spots.items inner.caller s.0 s.1, sym (ap place_of_spot s.1))

  pub may_enter : IsEntry ms w0 inner
  may_enter = record {
    names = at_module.names;
    is = subst (λ (y : Text). IsModuleAt ms y inner.«module» at_module.names) (sym (module_named ms m inner.«module» at_module.names at_module.is)) at_module.is;
    caller = subst (λ (at : Place). IsCaller (calls_of ms w0) at inner.caller) (sym placed) caller_there;
    path = standing.path;
    fresh = ap (is_among (on_path_of w0)) (module_named ms m inner.«module» at_module.names at_module.is) ∙ at_module.fresh;
  }

  handed_is : call_of ms inner ≡ record { place = x ∷ place_at w0 inner.caller; module_name = m; actuals = map tree_of inner.actuals.now }
  handed_is =
      ap (λ at. record { place = at; module_name = name_at ms inner.«module»; actuals = map tree_of inner.actuals.now }) placed
      ∙ ap (λ y. record { place = x ∷ place_at w0 inner.caller; module_name = y; actuals = map tree_of inner.actuals.now }) (module_named ms m inner.«module» at_module.names at_module.is)

  pub met_inner : (n : ℕ) (role : Role) (what : DeclaredTree) → what ≡ instance m (map tree_of inner.actuals.now) → (w1 : Walk) (number : ℕ) → HasEntered ms w0 inner w1 number →
      HasMet ms w0 inner.caller (n, a_declaration role (record { name = x; what = what })) w1 (found.Instance number)
  met_inner n role what e w1 number entered =
      subst (λ (t : DeclaredTree). HasMet ms w0 inner.caller (n, a_declaration role (record { name = x; what = t })) w1 (found.Instance number)) (sym e)
      (met_instance ms w0 inner.caller n role x m (map tree_of inner.actuals.now) at_module.fresh inner handed_is w1 number entered)

  pub told_inner : (n : ℕ) (role : Role) (what : DeclaredTree) → what ≡ instance m (map tree_of inner.actuals.now) → (count : ℕ) → count ≡ length (map tree_of inner.actuals.now) →
      told_from ms w0 (visits_at ms w0 inner.caller (n, a_declaration role (record { name = x; what = what })))
      ≡ told_first (instance_told (program_in ms) (on_path_of w0) (length w0.spots.items) n m count) (visits_told (program_in ms) (suc (length w0.spots.items)) (length w0.variables) (visits_within ms w0 inner))
  told_inner n role what e count counted =
      ap (λ (t : DeclaredTree). told_from ms w0 (visits_at ms w0 inner.caller (n, a_declaration role (record { name = x; what = t })))) e
      ∙ instance_told_first ms w0 inner.caller n role x m (map tree_of inner.actuals.now) at_module.fresh inner handed_is
      ∙ ap (λ k. told_first (instance_told (program_in ms) (on_path_of w0) (length w0.spots.items) n m k)
      (visits_told (program_in ms) (suc (length w0.spots.items)) (length w0.variables) (visits_within ms w0 inner))) (sym counted)
