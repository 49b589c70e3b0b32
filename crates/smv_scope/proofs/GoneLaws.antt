-- The items of an instance, one after another.
use Rattle.std.proofs.Common.{◌≡◌, ℕ, ◌+◌, ◌<◌, List, [], ◌∷◌, ◌++◌, length, map, get_or, take, drop, None, refl, ap, ◌∙◌, sym, subst}
use Rattle.std.proofs.lemmas.List.{take_more, drop_more, map-append}
use Rattle.smv_language.specs.Language.{Place, FlatVariable, variable_tree, EachBoth}
use Rattle.smv_flat_laws.specs.Items.{Item as ItemOf, Visit, visits_of}
use Rattle.smv_scope.specs.declared.fault.FlatFault.{FlatFault}
use Rattle.smv_scope.specs.declared.items.Numbered.{Numbered}
use Rattle.smv_scope.specs.declared.modules.Modules.{Modules}
use Rattle.smv_scope.specs.declared.walk.Meaning.{Meaning as Found}
use Rattle.smv_scope.specs.declared.walk.Walk.{Walk}
use Rattle.smv_scope.specs.ItemTree.{numbered_tree}
use Rattle.smv_scope.specs.ModuleFaults.{told_first, IsTold}
use Rattle.smv_scope.specs.InstanceWalk.{Call, calls_in, calls_declared, variables_in, visits_told, program_in, call_of, calls_of, variables_of_walk, on_path_of, place_at, walk_from, visits_at, visits_here, told_from, IsOwnIn, HasWalked, HasMet, HasGone, IsStanding}
use Rattle.smv_scope.proofs.ReadingLaws.{told_as, told_here, none_first}
use Rattle.smv_scope.proofs.WalkLaws.{flat_join, walked_none, own_stays, calls_grow, variables_grow, spots_count, variables_count, path_stays, place_stays, walked_then, told_join}
use Rattle.smv_scope.proofs.SceneItems.{both_more}
use Rattle.smv_language.proofs.ListLaws.{flat_end}
use Rattle.smv_flat_laws.proofs.BothLaws.{both_push}

-- the items up to one of them, with what they mean, and what is told of those that are left
pub record GoneSoFar (ms : Modules) (w0 : Walk) (spot : ℕ) (items : List Numbered) (k : ℕ) (w1 : Walk) (meanings : List Found) : Type 0 where
  pub gone : HasGone ms w0 spot (map numbered_tree (take k items)) w1 meanings
  pub told : told_from ms w1 (visits_here ms w0 spot (map numbered_tree (drop k items))) ≡ told_from ms w0 (visits_here ms w0 spot (map numbered_tree items))

module _ (ms : Modules) (w0 : Walk) (spot : ℕ) (standing : IsStanding ms w0 spot) where
  -- an item's visits are the same, whatever was met before
  pub same_visits : (cs : List Call) (vs : List Visit) (w1 : Walk) (i : ℕ × ItemOf) → HasWalked ms w0 cs vs w1 → visits_at ms w1 spot i ≡ visits_at ms w0 spot i
  same_visits cs vs w1 i h =
      ap (λ on. visits_of (walk_from (program_in ms) on) on (place_at w1 spot) i.0 i.1) (path_stays ms w0 w1 cs vs h)
      ∙ ap (λ at. visits_of (walk_from (program_in ms) (on_path_of w0)) (on_path_of w0) at i.0 i.1) (place_stays ms w0 w1 cs vs h spot standing.within)

  module _ (items : List Numbered) (k : ℕ) (d : Numbered) (within : k < length items) (w1 : Walk) (meanings : List Found) (far : GoneSoFar ms w0 spot items k w1 meanings) where
    abbrev here : ℕ × ItemOf
    here = numbered_tree (get_or items k d)

    abbrev before : List (ℕ × ItemOf)
    before = map numbered_tree (take k items)

    one_more : map numbered_tree (take (k + 1) items) ≡ before ++ here ∷ []
    one_more = ap (map numbered_tree) (take_more items k d within) ∙ map-append numbered_tree (take k items) (get_or items k d ∷ [])

    visits_left : visits_here ms w0 spot (map numbered_tree (drop k items)) ≡ visits_at ms w0 spot here ++ visits_here ms w0 spot (map numbered_tree (drop (k + 1) items))
    visits_left = ap (λ ns. visits_here ms w0 spot (map numbered_tree ns)) (drop_more items k d within)

    told_left : told_from ms w1 (visits_here ms w0 spot (map numbered_tree (drop k items)))
        ≡ told_first (told_from ms w1 (visits_at ms w1 spot here))
        (visits_told (program_in ms) (length w1.spots.items + length (calls_in (visits_at ms w0 spot here))) (length w1.variables + length (variables_in (visits_at ms w0 spot here)))
        (visits_here ms w0 spot (map numbered_tree (drop (k + 1) items))))
    told_left =
        ap (told_from ms w1) visits_left
        ∙ told_join (program_in ms) (length w1.spots.items) (length w1.variables) (visits_at ms w0 spot here) (visits_here ms w0 spot (map numbered_tree (drop (k + 1) items)))
        ∙ ap (λ vs. told_first (told_from ms w1 vs)
        (visits_told (program_in ms) (length w1.spots.items + length (calls_in (visits_at ms w0 spot here))) (length w1.variables + length (variables_in (visits_at ms w0 spot here)))
        (visits_here ms w0 spot (map numbered_tree (drop (k + 1) items)))))
        (sym (same_visits (calls_in (visits_here ms w0 spot before)) (visits_here ms w0 spot before) w1 here far.gone.walked))

    pub gone_fault : (f : FlatFault) → IsTold (told_from ms w1 (visits_at ms w1 spot here)) f → IsTold (told_from ms w0 (visits_here ms w0 spot (map numbered_tree items))) f
    gone_fault f h = told_as _ (told_from ms w0 (visits_here ms w0 spot (map numbered_tree items))) f (sym told_left ∙ far.told) (told_here (told_from ms w1 (visits_at ms w1 spot here)) _ f h)

    module _ (w2 : Walk) (f : Found) (met : HasMet ms w1 spot here w2 f) where
      same_here : visits_at ms w1 spot here ≡ visits_at ms w0 spot here
      same_here = same_visits (calls_in (visits_here ms w0 spot before)) (visits_here ms w0 spot before) w1 here far.gone.walked

      stepped : HasWalked ms w1 (calls_in (visits_at ms w0 spot here)) (visits_at ms w0 spot here) w2
      stepped = subst (λ (vs : List Visit). HasWalked ms w1 (calls_in vs) vs w2) same_here met.walked

      visits_more : visits_here ms w0 spot (map numbered_tree (take (k + 1) items)) ≡ visits_here ms w0 spot before ++ visits_at ms w0 spot here
      visits_more = ap (visits_here ms w0 spot) one_more ∙ flat_end (visits_at ms w0 spot) before here

      walked_more : HasWalked ms w0 (calls_in (visits_here ms w0 spot (map numbered_tree (take (k + 1) items)))) (visits_here ms w0 spot (map numbered_tree (take (k + 1) items))) w2
      walked_more =
          subst (λ (vs : List Visit). HasWalked ms w0 (calls_in vs) vs w2) (sym visits_more)
          (subst (λ (cs : List Call). HasWalked ms w0 cs (visits_here ms w0 spot before ++ visits_at ms w0 spot here) w2)
          (sym (flat_join (λ v. calls_declared (v.decl.name ∷ v.place) v.decl.what) (visits_here ms w0 spot before) (visits_at ms w0 spot here)))
          (walked_then ms w0 w1 w2 (calls_in (visits_here ms w0 spot before)) (calls_in (visits_at ms w0 spot here)) (visits_here ms w0 spot before) (visits_at ms w0 spot here) far.gone.walked stepped))

      abbrev Owns : Walk → ℕ × ItemOf → Found → Type 0
      Owns w i g = IsOwnIn (calls_of ms w) (variables_of_walk w) (place_at w0 spot) i.1 g

      own_before : EachBoth (Owns w2) before meanings
      own_before =
          both_more (Owns w1) (Owns w2) before meanings
          (λ i g o. subst (λ (calls : List Call). IsOwnIn calls (variables_of_walk w2) (place_at w0 spot) i.1 g) (sym (calls_grow ms w1 w2 _ _ stepped))
          (subst (λ (vars : List FlatVariable). IsOwnIn (calls_of ms w1 ++ map (call_of ms) stepped.more) vars (place_at w0 spot) i.1 g) (sym (variables_grow ms w1 w2 _ _ stepped))
          (own_stays (calls_of ms w1) (map (call_of ms) stepped.more) (variables_of_walk w1) (map variable_tree stepped.added) (place_at w0 spot) i.1 g o)))
          far.gone.own

      own_here : Owns w2 here f
      own_here = subst (λ (at : Place). IsOwnIn (calls_of ms w2) (variables_of_walk w2) at here.1 f)
          (place_stays ms w0 w1 (calls_in (visits_here ms w0 spot before)) (visits_here ms w0 spot before) far.gone.walked spot standing.within) met.own

      own_more : EachBoth (Owns w2) (map numbered_tree (take (k + 1) items)) (meanings ++ f ∷ [])
      own_more = subst (λ (is : List (ℕ × ItemOf)). EachBoth (Owns w2) is (meanings ++ f ∷ [])) (sym one_more) (both_push (Owns w2) before meanings here f own_before own_here)

      told_more : told_from ms w1 (visits_at ms w1 spot here) ≡ None →
          told_from ms w2 (visits_here ms w0 spot (map numbered_tree (drop (k + 1) items))) ≡ told_from ms w0 (visits_here ms w0 spot (map numbered_tree items))
      told_more none =
          ap (λ n. visits_told (program_in ms) n (length w2.variables) (visits_here ms w0 spot (map numbered_tree (drop (k + 1) items)))) (spots_count ms w1 w2 _ _ stepped)
          ∙ ap (λ n. visits_told (program_in ms) (length w1.spots.items + length (calls_in (visits_at ms w0 spot here))) n (visits_here ms w0 spot (map numbered_tree (drop (k + 1) items))))
          (variables_count ms w1 w2 _ _ stepped)
          ∙ sym (none_first (told_from ms w1 (visits_at ms w1 spot here)) _ none)
          ∙ sym told_left
          ∙ far.told

      pub gone_more : told_from ms w1 (visits_at ms w1 spot here) ≡ None → GoneSoFar ms w0 spot items (k + 1) w2 (meanings ++ f ∷ [])
      gone_more none = record { gone = record { walked = walked_more; own = own_more }; told = told_more none }

-- At first nothing is gone through, and in the end all is.
pub gone_none : (ms : Modules) (w : Walk) (spot : ℕ) (items : List Numbered) (meanings : List Found) → meanings ≡ [] → GoneSoFar ms w spot items 0 w meanings
gone_none ms w spot items meanings e = record {
  gone = record { walked = walked_none ms w; own = subst (λ (fs : List Found). EachBoth (λ (i : ℕ × ItemOf). IsOwnIn (calls_of ms w) (variables_of_walk w) (place_at w spot) i.1) [] fs) (sym e) tt };
  told = refl;
}
