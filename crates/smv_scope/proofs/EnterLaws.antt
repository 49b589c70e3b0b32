-- The walk enters an instance, goes through its items, and leaves it.
use Rattle.std.proofs.Common.{◌≡◌, ℕ, zero, suc, ◌+◌, ◌-◌, ◌<◌, ◌≤◌, arith, List, [], ◌∷◌, ◌++◌, length, map, take, reverse, Some, Bor, refl, ap, ◌∙◌, sym, subst}
use Rattle.std.specs.Prelude.{slice_get, flat_map, Vec}
use Rattle.std.specs.declared.alloc.Global.{Global}
use Rattle.std.proofs.lemmas.List.{append_assoc, map-append, length-append, length-map, length-reverse}
use Rattle.smv_language.specs.Language.{Text, ModuleTree, ProgramTree, Place, is_missing, FlatVariable, place_of, variable_tree, texts, EachBoth}
use Rattle.smv_flat_laws.specs.Items.{Item as ItemOf, items_of, NumberedItem, modules_from, modules_of, items_named, Visit, visits_of, walk_items, walk}
use Rattle.smv_flat_laws.proofs.Pigeons.{no_more_names}
use Rattle.smv_scope.specs.declared.items.Numbered.{Numbered}
use Rattle.smv_language.specs.declared.model.Variable.{Variable}
use Rattle.smv_scope.specs.declared.modules.Modules.{Modules}
use Rattle.smv_scope.specs.declared.modules.ModuleNames.{ModuleNames}
use Rattle.smv_scope.specs.declared.walk.Meaning.{Meaning as Found}
use Rattle.smv_scope.specs.declared.walk.Spot.{Spot}
use Rattle.smv_scope.specs.declared.walk.Walk.{Walk}
use Rattle.smv_scope.specs.ItemTree.{numbered_tree}
use Rattle.smv_scope.specs.SceneTree.{AreModules, HasNames, number_and_item}
use Rattle.smv_scope.specs.InstanceWalk.{Call, calls_in, variables_in, walk_from, program_in, name_in, name_at, call_of, calls_of, variables_of_walk, on_path_of, place_of_spot, place_at, visits_here, visits_within, visits_told, told_from, IsOwnIn, IsCaller, IsSpotOf, IsDeclaredIn, HasWalked, HasGone, HasEntered, IsPath, IsStanding, IsEntry, own_of, with_own}
use Rattle.smv_scope.proofs.PathLaws.{path_more}
use Rattle.smv_scope.proofs.WalkLaws.{both_of_map, caller_stays}
use Rattle.smv_language.proofs.ListLaws.{take_own}
use Rattle.smv_flat_laws.proofs.BothLaws.{both_long}

without_last : {A : Type 0} (xs : List A) (x : A) → take (length (xs ++ x ∷ []) - 1) (xs ++ x ∷ []) ≡ xs
without_last xs x =
    let count : length (xs ++ x ∷ []) - 1 ≡ length xs = omega (arith, length-append xs (x ∷ [])) in
    ap (λ n. take n (xs ++ x ∷ [])) count ∙ take_own xs (x ∷ [])

pub get_here : {A : Type 0} (xs : List A) (y : A) (ys : List A) → slice_get (xs ++ y ∷ ys) (length xs) ≡ Some y
get_here [] y ys = refl
get_here (x ∷ xs) y ys = get_here xs y ys

own_here : (xs : List Spot) (s : Spot) (ys : List Spot) (own : Vec Found Global) → with_own (xs ++ s ∷ ys) (length xs) own ≡ xs ++ own_of s own ∷ ys
own_here [] s ys own = refl
own_here (x ∷ xs) s ys own = ap (λ ss. x ∷ ss) (own_here xs s ys own)

same_calls : (ms : Modules) (xs : List Spot) (k : ℕ) (own : Vec Found Global) → map (call_of ms) (with_own xs k own) ≡ map (call_of ms) xs
same_calls ms [] k own = refl
same_calls ms (x ∷ xs) zero own = refl
same_calls ms (x ∷ xs) (suc k) own = ap (λ cs. call_of ms x ∷ cs) (same_calls ms xs k own)

modules_count : (n : ℕ) (before p : List ModuleTree) → length (modules_from n before p) ≡ length p
modules_count n before [] = refl
modules_count n before (m ∷ p) = ap suc (modules_count (n + suc (length (items_of m))) (before ++ m ∷ []) p)

-- The walk inside an instance, item by item.
walk_by : (go : Place → Text → List Visit) (on : List Text) (at : Place) (is : List NumberedItem) → walk_items go on at is ≡ flat_map (λ (i : ℕ × ItemOf). visits_of go on at i.0 i.1) (map number_and_item is)
walk_by go on at [] = refl
walk_by go on at (i ∷ is) = ap (λ vs. visits_of go on at i.number i.item ++ vs) (walk_by go on at is)

walk_opens : (p : ProgramTree) (on : List Text) (at : Place) (name : Text) → length on < length p → walk_from p on at name ≡ walk_items (walk_from p (name ∷ on)) (name ∷ on) at (items_named p name)
walk_opens p on at name less =
    let deep : length p - length on ≡ suc (length p - length (name ∷ on)) = omega (arith, less) in
    ap (λ n. walk n p on at name) deep

module _ (ms : Modules) (known : AreModules ms) (w0 : Walk) (spot : Spot) (entry : IsEntry ms w0 spot) (names : ModuleNames) (listed : slice_get ms.list.items spot.«module» ≡ Some names) where
  abbrev name : Text
  name = name_at ms spot.«module»

  abbrev on : List Text
  on = on_path_of w0

  same_names : entry.names ≡ names
  same_names = let e : Some entry.names ≡ Some names = sym entry.is.listed ∙ listed in cc

  pub name_is : names.«module».now.name ≡ name
  name_is = sym (ap name_in listed)

  path_inside : IsPath (program_in ms) (name ∷ on)
  path_inside = record { there = (ap is_missing entry.is.named, entry.path.there); apart = (entry.fresh, entry.path.apart) }

  few : length (name ∷ on) ≤ length (program_in ms)
  few = no_more_names (program_in ms) (name ∷ on) path_inside.apart path_inside.there

  -- the path is shorter than the list of modules
  pub deeper : length w0.inside.items < length ms.list.items
  deeper =
      omega (
        arith,
        few,
        length-reverse (texts w0.inside.items),
        length-map w0.inside.items (λ (k : Bor (List ℕ)). k.now),
        both_long HasNames (modules_of (program_in ms)) ms.list.items known.list,
        modules_count 1 [] (program_in ms),
      )

  module _ (w1 : Walk) (key : Bor (List ℕ)) (spots : w1.spots.items ≡ w0.spots.items ++ spot ∷ []) (inside : w1.inside.items ≡ w0.inside.items ++ key ∷ []) (key_is : key.now ≡ name)
      (variables : w1.variables ≡ w0.variables) where
    path_here : on_path_of w1 ≡ name ∷ on
    path_here = ap (λ ks. reverse (texts ks)) inside ∙ path_more w0.inside.items key ∙ ap (λ x. x ∷ on) key_is

    place_here : place_at w1 (length w0.spots.items) ≡ place_of spot.path
    place_here = ap (λ ss. place_of_spot (slice_get ss (length w0.spots.items))) spots ∙ ap place_of_spot (get_here w0.spots.items spot [])

    pub standing_here : IsStanding ms w1 (length w0.spots.items)
    standing_here = record {
      within = omega (arith, ap length spots, length-append w0.spots.items (spot ∷ []));
      path = subst (λ (xs : List Text). IsPath (program_in ms) xs) (sym path_here) path_inside;
    }

    items_same : map numbered_tree names.items.items ≡ map number_and_item (items_named (program_in ms) name)
    items_same =
        subst (λ (n : ModuleNames). map numbered_tree n.items.items ≡ map number_and_item (items_named (program_in ms) name)) same_names
        (entry.is.has.items ∙ sym (ap (map number_and_item) entry.is.items))

    -- the items' visits are those inside the instance
    pub visits_same : visits_here ms w1 (length w0.spots.items) (map numbered_tree names.items.items) ≡ visits_within ms w0 spot
    visits_same =
        ap (visits_here ms w1 (length w0.spots.items)) items_same
        ∙ ap (λ xs. flat_map (λ (i : ℕ × ItemOf). visits_of (walk_from (program_in ms) xs) xs (place_at w1 (length w0.spots.items)) i.0 i.1) (map number_and_item (items_named (program_in ms) name))) path_here
        ∙ ap (λ at. flat_map (λ (i : ℕ × ItemOf). visits_of (walk_from (program_in ms) (name ∷ on)) (name ∷ on) at i.0 i.1) (map number_and_item (items_named (program_in ms) name))) place_here
        ∙ sym (walk_by (walk_from (program_in ms) (name ∷ on)) (name ∷ on) (place_of spot.path) (items_named (program_in ms) name))
        ∙ sym (walk_opens (program_in ms) on (place_of spot.path) name (omega (arith, few)))

    module _ (w2 : Walk) (own : Vec Found Global) (gone : HasGone ms w1 (length w0.spots.items) (map numbered_tree names.items.items) w2 own.items)
        (w3 : Walk) (spots' : w3.spots.items ≡ with_own w2.spots.items (length w0.spots.items) own) (variables' : w3.variables ≡ w2.variables)
        (inside' : w3.inside.items ≡ take (length w2.inside.items - 1) w2.inside.items) where
      walked : HasWalked ms w1 (calls_in (visits_within ms w0 spot)) (visits_within ms w0 spot) w2
      walked = subst (λ (vs : List Visit). HasWalked ms w1 (calls_in vs) vs w2) visits_same gone.walked

      all_spots : w2.spots.items ≡ w0.spots.items ++ spot ∷ walked.more
      all_spots = walked.spots ∙ ap (λ ss. ss ++ walked.more) spots ∙ append_assoc w0.spots.items (spot ∷ []) walked.more

      spots_left : w3.spots.items ≡ w0.spots.items ++ own_of spot own ∷ walked.more
      spots_left = spots' ∙ ap (λ ss. with_own ss (length w0.spots.items) own) all_spots ∙ own_here w0.spots.items spot walked.more own

      calls_left : calls_of ms w3 ≡ calls_of ms w2
      calls_left = ap (map (call_of ms)) spots' ∙ same_calls ms w2.spots.items (length w0.spots.items) own

      variables_left : variables_of_walk w3 ≡ variables_of_walk w2
      variables_left = ap (map variable_tree) variables'

      calls_more : calls_of ms w3 ≡ calls_of ms w0 ++ call_of ms spot ∷ map (call_of ms) walked.more
      calls_more = ap (map (call_of ms)) spots_left ∙ map-append (call_of ms) w0.spots.items (own_of spot own ∷ walked.more)

      own_items : EachBoth (λ (i : NumberedItem). IsOwnIn (calls_of ms w3) (variables_of_walk w3) (place_of spot.path) i.item) (items_named (program_in ms) name) own.items
      own_items =
          subst (λ (calls : List Call). EachBoth (λ (i : NumberedItem). IsOwnIn calls (variables_of_walk w3) (place_of spot.path) i.item) (items_named (program_in ms) name) own.items) (sym calls_left)
          (subst (λ (vars : List FlatVariable). EachBoth (λ (i : NumberedItem). IsOwnIn (calls_of ms w2) vars (place_of spot.path) i.item) (items_named (program_in ms) name) own.items) (sym variables_left)
          (subst (λ (at : Place). EachBoth (λ (i : NumberedItem). IsOwnIn (calls_of ms w2) (variables_of_walk w2) at i.item) (items_named (program_in ms) name) own.items) place_here
          (both_of_map number_and_item (λ (i : ℕ × ItemOf). IsOwnIn (calls_of ms w2) (variables_of_walk w2) (place_at w1 (length w0.spots.items)) i.1) (items_named (program_in ms) name) own.items
          (subst (λ (is : List (ℕ × ItemOf)). EachBoth (λ (i : ℕ × ItemOf). IsOwnIn (calls_of ms w2) (variables_of_walk w2) (place_at w1 (length w0.spots.items)) i.1) is own.items) items_same gone.own))))

      spot_left : IsSpotOf ms (calls_of ms w3) (variables_of_walk w3) (call_of ms spot) (own_of spot own)
      spot_left = record {
        call = refl;
        names = entry.names;
        is = entry.is;
        caller = subst (λ (calls : List Call). IsCaller calls (place_of spot.path) spot.caller) (sym calls_more)
            (caller_stays (calls_of ms w0) (call_of ms spot ∷ map (call_of ms) walked.more) [] [] (place_of spot.path) spot.caller entry.caller);
        own = own_items;
      }

      pub entered : HasEntered ms w0 spot w3 (length w0.spots.items)
      entered = record {
        number_is = refl;
        walked = record {
          more = own_of spot own ∷ walked.more;
          spots = spots_left;
          done = (
            spot_left,
            subst (λ (calls : List Call). EachBoth (IsSpotOf ms calls (variables_of_walk w3)) (calls_in (visits_within ms w0 spot)) walked.more) (sym calls_left)
                (subst (λ (vars : List FlatVariable). EachBoth (IsSpotOf ms (calls_of ms w2) vars) (calls_in (visits_within ms w0 spot)) walked.more) (sym variables_left) walked.done),
          );
          added = walked.added;
          variables = variables' ∙ walked.variables ∙ ap (λ xs. xs ++ walked.added) variables;
          declared = subst (λ (calls : List Call). EachBoth (IsDeclaredIn calls) (variables_in (visits_within ms w0 spot)) (map variable_tree walked.added)) (sym calls_left) walked.declared;
          inside = inside' ∙ ap (λ ks. take (length ks - 1) ks) (walked.inside ∙ inside) ∙ without_last w0.inside.items key;
        };
      }

-- The same, by the number that the instance got and the items that the code went through.
module _ (ms : Modules) (known : AreModules ms) (w0 : Walk) (spot : Spot) (entry : IsEntry ms w0 spot) (names : ModuleNames) (listed : slice_get ms.list.items spot.«module» ≡ Some names)
    (w1 : Walk) (key : Bor (List ℕ)) (spots : w1.spots.items ≡ w0.spots.items ++ spot ∷ []) (inside : w1.inside.items ≡ w0.inside.items ++ key ∷ []) (key_is : key.now ≡ name_at ms spot.«module»)
    (variables : w1.variables ≡ w0.variables) (number : ℕ) (count : number ≡ length w0.spots.items) (items : List Numbered) (items_are : items ≡ names.items.items) where
  pub stands_there : IsStanding ms w1 number
  stands_there = subst (λ (n : ℕ). IsStanding ms w1 n) (sym count) (standing_here ms known w0 spot entry names listed w1 key spots inside key_is variables)

  pub told_there : told_from ms w1 (visits_here ms w1 number (map numbered_tree items)) ≡ visits_told (program_in ms) (suc (length w0.spots.items)) (length w0.variables) (visits_within ms w0 spot)
  told_there =
      let one_more : length w1.spots.items ≡ suc (length w0.spots.items) = omega (arith, ap length spots, length-append w0.spots.items (spot ∷ [])) in
      ap (λ n. told_from ms w1 (visits_here ms w1 n (map numbered_tree items))) count
      ∙ ap (λ ns. told_from ms w1 (visits_here ms w1 (length w0.spots.items) (map numbered_tree ns))) items_are
      ∙ ap (told_from ms w1) (visits_same ms known w0 spot entry names listed w1 key spots inside key_is variables)
      ∙ ap (λ n. visits_told (program_in ms) n (length w1.variables) (visits_within ms w0 spot)) one_more
      ∙ ap (λ (vs : List Variable). visits_told (program_in ms) (suc (length w0.spots.items)) (length vs) (visits_within ms w0 spot)) variables

  pub entered_there : (w2 : Walk) (own : Vec Found Global) → HasGone ms w1 number (map numbered_tree items) w2 own.items →
      (w3 : Walk) → w3.spots.items ≡ with_own w2.spots.items number own → w3.variables ≡ w2.variables → w3.inside.items ≡ take (length w2.inside.items - 1) w2.inside.items → HasEntered ms w0 spot w3 number
  entered_there w2 own gone w3 spots' variables' inside' =
      subst (λ (n : ℕ). HasEntered ms w0 spot w3 n) (sym count)
      (entered ms known w0 spot entry names listed w1 key spots inside key_is variables w2 own
      (subst (λ (ns : List Numbered). HasGone ms w1 (length w0.spots.items) (map numbered_tree ns) w2 own.items) items_are
      (subst (λ (n : ℕ). HasGone ms w1 n (map numbered_tree items) w2 own.items) count gone))
      w3 (spots' ∙ ap (λ n. with_own w2.spots.items n own) count) variables' inside')
