-- What the walk has met stays, and what it meets after that comes after it.
use Rattle.std.proofs.Common.{◌≡◌, ℕ, ◌+◌, ◌<◌, arith, List, [], ◌∷◌, ◌++◌, length, map, reverse, Some, None, refl, ap, ◌∙◌, sym, subst}
use Rattle.std.specs.Prelude.{slice_get, flat_map}
use Rattle.std.proofs.lemmas.List.{append_assoc, append-nil, map-append, length-append, length-map}
use Rattle.smv_language.specs.Language.{Text, DeclaredTree, boolean, range, members, instance, ProgramTree, Place, Role, FlatVariable, variable_tree, texts, EachBoth}
use Rattle.smv_flat_laws.specs.Items.{Item as ItemOf, a_declaration, a_definition, an_assignment, some_constants, an_init, an_invar, a_trans, NumberedItem, items_named, Visit, variable_declared}
use Rattle.smv_scope.specs.declared.modules.Modules.{Modules}
use Rattle.smv_scope.specs.declared.walk.Meaning.{Meaning as Found}
use Rattle.smv_scope.specs.declared.walk.Spot.{Spot}
use Rattle.smv_scope.specs.declared.walk.Walk.{Walk}
use Rattle.smv_scope.specs.ModuleFaults.{Told, told_first}
use Rattle.smv_scope.specs.InstanceWalk.{Call, calls_declared, calls_in, variables_in, visit_told, visits_told, program_in, call_of, calls_of, variables_of_walk, on_path_of, place_of_spot, place_at, IsInstanceIn, IsVariableIn, IsDeclarationIn, IsOwnIn, IsCaller, IsSpotOf, IsDeclaredIn, HasWalked}
use Rattle.smv_scope.proofs.SceneItems.{both_more}
use Rattle.base_values.proofs.ListLaws.{get_left, get_within}
use Rattle.smv_flat_laws.proofs.BothLaws.{both_long}

pub both_join : {A B : Type 0} (R : A → B → Type 0) (xs xs' : List A) (ys ys' : List B) → EachBoth R xs ys → EachBoth R xs' ys' → EachBoth R (xs ++ xs') (ys ++ ys')
both_join R [] xs' [] ys' h k = k
both_join R [] xs' (y ∷ ys) ys' h k = absurd h
both_join R (x ∷ xs) xs' [] ys' h k = absurd h
both_join R (x ∷ xs) xs' (y ∷ ys) ys' h k = (h.0, both_join R xs xs' ys ys' h.1 k)

pub both_of_map : {A B C : Type 0} (f : A → C) (R : C → B → Type 0) (xs : List A) (ys : List B) → EachBoth R (map f xs) ys → EachBoth (λ (x : A). R (f x)) xs ys
both_of_map f R [] [] h = tt
both_of_map f R [] (y ∷ ys) h = absurd h
both_of_map f R (x ∷ xs) [] h = absurd h
both_of_map f R (x ∷ xs) (y ∷ ys) h = (h.0, both_of_map f R xs ys h.1)

pub flat_join : {A B : Type 0} (f : A → List B) (xs ys : List A) → flat_map f (xs ++ ys) ≡ flat_map f xs ++ flat_map f ys
flat_join f [] ys = refl
flat_join f (x ∷ xs) ys = ap (λ zs. f x ++ zs) (flat_join f xs ys) ∙ sym (append_assoc (f x) (flat_map f xs) (flat_map f ys))

-- What is known of a list is known of a longer one.
instance_stays : (calls cs : List Call) (at : Place) (f : Found) → IsInstanceIn calls at f → IsInstanceIn (calls ++ cs) at f
instance_stays calls cs at f h = record { number = h.number; means = h.means; call = h.call; is = get_left calls cs h.number h.call h.is; place = h.place }

variable_stays : (vars vs : List FlatVariable) (at : Place) (x : Text) (role : Role) (f : Found) → IsVariableIn vars at x role f → IsVariableIn (vars ++ vs) at x role f
variable_stays vars vs at x role f h = record {
  number = h.number;
  word = h.word;
  means = h.means;
  variable = h.variable;
  is = get_left vars vs h.number h.variable h.is;
  place = h.place;
  name = h.name;
  role_is = h.role_is;
  same_role = h.same_role;
}

module _ (calls cs : List Call) (vars vs : List FlatVariable) where
  declaration_stays : (at : Place) (x : Text) (role : Role) (what : DeclaredTree) (f : Found) → IsDeclarationIn calls vars at x role what f → IsDeclarationIn (calls ++ cs) (vars ++ vs) at x role what f
  declaration_stays at x role boolean f h = variable_stays vars vs at x role f h
  declaration_stays at x role (range lo hi) f h = variable_stays vars vs at x role f h
  declaration_stays at x role (members ms) f h = variable_stays vars vs at x role f h
  declaration_stays at x role (instance m actuals) f h = instance_stays calls cs (x ∷ at) f h

  pub own_stays : (at : Place) (i : ItemOf) (f : Found) → IsOwnIn calls vars at i f → IsOwnIn (calls ++ cs) (vars ++ vs) at i f
  own_stays at (a_declaration role d) f h = declaration_stays at d.name role d.what f h
  own_stays at (a_definition d) f h = h
  own_stays at (an_assignment a) f h = h
  own_stays at (some_constants xs) f h = h
  own_stays at (an_init e) f h = h
  own_stays at (an_invar e) f h = h
  own_stays at (a_trans e) f h = h

  pub caller_stays : (at : Place) (k : ℕ) → IsCaller calls at k → IsCaller (calls ++ cs) at k
  caller_stays [] k h = tt
  caller_stays (own ∷ at) k h = (h.0, get_left calls cs k h.0 h.1, h.2)

  spot_stays : (ms : Modules) (c : Call) (spot : Spot) → IsSpotOf ms calls vars c spot → IsSpotOf ms (calls ++ cs) (vars ++ vs) c spot
  spot_stays ms c spot h = record {
    call = h.call;
    names = h.names;
    is = h.is;
    caller = caller_stays c.place spot.caller h.caller;
    own = both_more (λ (i : NumberedItem). IsOwnIn calls vars c.place i.item) (λ (i : NumberedItem). IsOwnIn (calls ++ cs) (vars ++ vs) c.place i.item)
        (items_named (program_in ms) c.module_name) spot.own.items (λ (i : NumberedItem) f. own_stays c.place i.item f) h.own;
  }

  declared_stays : (v : Visit) (x : FlatVariable) → IsDeclaredIn calls v x → IsDeclaredIn (calls ++ cs) v x
  declared_stays v x h = record {
    place = h.place;
    name = h.name;
    role = h.role;
    declared = h.declared;
    item = h.item;
    at = h.at;
    is = get_left calls cs x.number h.at h.is;
    at_place = h.at_place;
  }

-- Steps of the walk.
module _ (ms : Modules) (old new : Walk) (cs : List Call) (vs : List Visit) (h : HasWalked ms old cs vs new) where
  pub calls_grow : calls_of ms new ≡ calls_of ms old ++ map (call_of ms) h.more
  calls_grow = ap (map (call_of ms)) h.spots ∙ map-append (call_of ms) old.spots.items h.more

  pub variables_grow : variables_of_walk new ≡ variables_of_walk old ++ map variable_tree h.added
  variables_grow = ap (map variable_tree) h.variables ∙ map-append variable_tree old.variables h.added

  pub spots_count : length new.spots.items ≡ length old.spots.items + length cs
  spots_count = ap length h.spots ∙ length-append old.spots.items h.more ∙ ap (λ n. length old.spots.items + n) (both_long (IsSpotOf ms (calls_of ms new) (variables_of_walk new)) cs h.more h.done)

  pub variables_count : length new.variables ≡ length old.variables + length (variables_in vs)
  variables_count =
      ap length h.variables ∙ length-append old.variables h.added
      ∙ ap (λ n. length old.variables + n) (sym (length-map h.added variable_tree) ∙ both_long (IsDeclaredIn (calls_of ms new)) (variables_in vs) (map variable_tree h.added) h.declared)

  pub path_stays : on_path_of new ≡ on_path_of old
  path_stays = ap (λ ks. reverse (texts ks)) h.inside

  pub place_stays : (k : ℕ) → k < length old.spots.items → place_at new k ≡ place_at old k
  place_stays k within =
      let s : (s : Spot) × (slice_get old.spots.items k ≡ Some s) = get_within old.spots.items k within in
      ap (λ ss. place_of_spot (slice_get ss k)) h.spots
      ∙ ap place_of_spot (get_left old.spots.items h.more k s.0 s.1 ∙ sym s.1)

pub walked_none : (ms : Modules) (w : Walk) → HasWalked ms w [] [] w
walked_none ms w = record {
  more = [];
  spots = sym (append-nil w.spots.items);
  done = tt;
  added = [];
  variables = sym (append-nil w.variables);
  declared = tt;
  inside = refl;
}

pub walked_then : (ms : Modules) (w0 w1 w2 : Walk) (cs cs' : List Call) (vs vs' : List Visit) → HasWalked ms w0 cs vs w1 → HasWalked ms w1 cs' vs' w2 → HasWalked ms w0 (cs ++ cs') (vs ++ vs') w2
walked_then ms w0 w1 w2 cs cs' vs vs' h k = record {
  more = h.more ++ k.more;
  spots = k.spots ∙ ap (λ ss. ss ++ k.more) h.spots ∙ append_assoc w0.spots.items h.more k.more;
  done = both_join (IsSpotOf ms (calls_of ms w2) (variables_of_walk w2)) cs cs' h.more k.more
      (both_more (IsSpotOf ms (calls_of ms w1) (variables_of_walk w1)) (IsSpotOf ms (calls_of ms w2) (variables_of_walk w2)) cs h.more
      (λ c spot s. subst (λ (calls : List Call). IsSpotOf ms calls (variables_of_walk w2) c spot) (sym (calls_grow ms w1 w2 cs' vs' k))
      (subst (λ (vars : List FlatVariable). IsSpotOf ms (calls_of ms w1 ++ map (call_of ms) k.more) vars c spot) (sym (variables_grow ms w1 w2 cs' vs' k))
      (spot_stays (calls_of ms w1) (map (call_of ms) k.more) (variables_of_walk w1) (map variable_tree k.added) ms c spot s))) h.done)
      k.done;
  added = h.added ++ k.added;
  variables = k.variables ∙ ap (λ xs. xs ++ k.added) h.variables ∙ append_assoc w0.variables h.added k.added;
  declared = subst (λ (ws : List Visit). EachBoth (IsDeclaredIn (calls_of ms w2)) ws (map variable_tree (h.added ++ k.added))) (sym (flat_join (λ v. variable_declared v v.decl.what) vs vs'))
      (subst (λ (xs : List FlatVariable). EachBoth (IsDeclaredIn (calls_of ms w2)) (variables_in vs ++ variables_in vs') xs) (sym (map-append variable_tree h.added k.added))
      (both_join (IsDeclaredIn (calls_of ms w2)) (variables_in vs) (variables_in vs') (map variable_tree h.added) (map variable_tree k.added)
      (both_more (IsDeclaredIn (calls_of ms w1)) (IsDeclaredIn (calls_of ms w2)) (variables_in vs) (map variable_tree h.added)
      (λ v x d. subst (λ (calls : List Call). IsDeclaredIn calls v x) (sym (calls_grow ms w1 w2 cs' vs' k)) (declared_stays (calls_of ms w1) (map (call_of ms) k.more) (variables_of_walk w1) (map variable_tree k.added) v x d)) h.declared)
      k.declared));
  inside = k.inside ∙ h.inside;
}

-- What is told of visits, and then of those after them.
told_more : (o o' o'' : Told) → told_first o (told_first o' o'') ≡ told_first (told_first o o') o''
told_more None o' o'' = refl
told_more (Some f) o' o'' = refl

pub told_join : (p : ProgramTree) (i k : ℕ) (vs ws : List Visit) →
    visits_told p i k (vs ++ ws) ≡ told_first (visits_told p i k vs) (visits_told p (i + length (calls_in vs)) (k + length (variables_in vs)) ws)
told_join p i k [] ws =
    let no_more : i ≡ i + 0 = omega arith in
    let none : k ≡ k + 0 = omega arith in
    ap (λ n. visits_told p n k ws) no_more ∙ ap (λ n. visits_told p (i + 0) n ws) none
told_join p i k (v ∷ vs) ws =
    let more : (i + length (calls_declared (v.decl.name ∷ v.place) v.decl.what)) + length (calls_in vs) ≡ i + length (calls_in (v ∷ vs)) =
    omega (arith, length-append (calls_declared (v.decl.name ∷ v.place) v.decl.what) (calls_in vs)) in
    let count : (k + length (variable_declared v v.decl.what)) + length (variables_in vs) ≡ k + length (variables_in (v ∷ vs)) =
    omega (arith, length-append (variable_declared v v.decl.what) (variables_in vs)) in
    ap (told_first (visit_told p i k v))
    (told_join p (i + length (calls_declared (v.decl.name ∷ v.place) v.decl.what)) (k + length (variable_declared v v.decl.what)) vs ws
    ∙ ap (λ n. told_first (visits_told p (i + length (calls_declared (v.decl.name ∷ v.place) v.decl.what)) (k + length (variable_declared v v.decl.what)) vs)
    (visits_told p n ((k + length (variable_declared v v.decl.what)) + length (variables_in vs)) ws)) more
    ∙ ap (λ n. told_first (visits_told p (i + length (calls_declared (v.decl.name ∷ v.place) v.decl.what)) (k + length (variable_declared v v.decl.what)) vs)
    (visits_told p (i + length (calls_in (v ∷ vs))) n ws)) count)
    ∙ told_more (visit_told p i k v) (visits_told p (i + length (calls_declared (v.decl.name ∷ v.place) v.decl.what)) (k + length (variable_declared v v.decl.what)) vs)
    (visits_told p (i + length (calls_in (v ∷ vs))) (k + length (variables_in (v ∷ vs))) ws)
