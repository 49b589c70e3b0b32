-- What the table of repeated instances has is right, one instance after another.
use Rattle.std.proofs.Common.{◌≡◌, ℕ, zero, suc, ◌+◌, ◌-◌, ◌<◌, ◌≤◌, ◌==◌, eqb-true, eq-eqb, arith, Bool, true, false, List, [], ◌∷◌, ◌++◌, length, reverse, map, Option, Some, None, refl, sym, ◌∙◌, ap, subst, ◌⊎◌, inl, inr, if◌then◌else◌}
use Rattle.std.specs.Prelude.{slice_get, nat_lt}
use Rattle.std.proofs.lemmas.Bool.{cases_lt, ltb-true}
use Rattle.std.proofs.lemmas.List.{length-set, nil_from_length, reverse-append}
use Rattle.std.proofs.lemmas.Option.{same_Some as some_same, slice_get_within as get_less}
use Rattle.base_values.proofs.ListLaws.{get_left, get_within, push_get}
use Rattle.smv_language.specs.Language.{Text, Path, Place, an_instance, Meaning, an_instance_at, Means, by_kind, means_in, kind_at, module_at, FlatInstance, place_of, tree_of, ModuleTree, ProgramTree, Formula}
use Rattle.smv_language.proofs.ProgramLaws.{found_named}
use Rattle.smv_flat_laws.specs.Items.{NumberedModule, modules_of, instances_of}
use Rattle.smv_flat_laws.specs.Alike.{IsLike, IsLikeIf, AreLikes}
use Rattle.smv_flat_laws.proofs.BothLaws.{both_long}
use Rattle.smv_flat_laws.proofs.Lists.{get_end, length_end}
use Rattle.smv_flat_laws.proofs.Repeats.{same_module_like, inside_like, repeated_module}
use Rattle.smv_flat_laws.proofs.Variables.{both_at_second}
use Rattle.smv_scope.specs.SceneTree.{HasNames, Denotes, IsFound, IsCalled, program_of, IsScene}
use Rattle.smv_scope.specs.TableLookUps.{names_of_spot, part_at}
use Rattle.smv_scope.specs.Components.{joined}
use Rattle.smv_scope.specs.KnownFormals.{formals_in, formals_at}
use Rattle.smv_scope.specs.NumberedScenes.{IsLaidSpot, IsLaid}
use Rattle.smv_scope.specs.Likes.{like_at, AreFound, last_of, earlier_of, named_inside, like_of, with_first_in, with_first}
use Rattle.smv_scope.specs.declared.modules.ModuleNames.{ModuleNames}
use Rattle.smv_scope.specs.declared.walk.Meaning.{Meaning as Found}
use Rattle.smv_scope.specs.declared.walk.Meaning.TheVariants as found
use Rattle.smv_scope.specs.declared.walk.Spot.{Spot}
use Rattle.smv_scope.specs.declared.names.Scene.{Scene}
use Rattle.smv_scope.proofs.ComponentLaws.{set_same, set_keeps, set_is}
use Rattle.smv_scope.proofs.SceneFound.{scene_found}
use Rattle.smv_scope.proofs.SceneItems.{set_laid, names_laid}

-- the last part of a path is the first of its turned parts
last_turned : (xs : List Text) (x : Text) → slice_get xs (length xs - 1) ≡ Some x → (ys : List Text) × (reverse xs ≡ x ∷ ys)
last_turned [] x e = cc
last_turned (y ∷ []) x e = ([], ap (λ z. z ∷ []) (some_same y x e))
last_turned (y ∷ z ∷ zs) x e =
    let number : suc (suc (length zs)) - 1 ≡ suc (length (z ∷ zs) - 1) = omega arith in
    let rest : (ys : List Text) × (reverse (z ∷ zs) ≡ x ∷ ys) = last_turned (z ∷ zs) x (sym (ap (slice_get (y ∷ z ∷ zs)) number) ∙ e) in
    (rest.0 ++ y ∷ [], reverse-append (y ∷ []) (z ∷ zs) ∙ ap (λ ws. ws ++ y ∷ []) rest.1)

last_of_place : (path : Option Path) (x : Text) → last_of path ≡ Some x → (at : Place) × (place_of path ≡ x ∷ at)
last_of_place None x e = cc
last_of_place (Some path) x e = last_turned path x e

joined_is : (o : Option (Option ℕ)) (n : ℕ) → joined o ≡ Some n → o ≡ Some (Some n)
joined_is None n e = cc
joined_is (Some o) n e = ap (λ (u : Option ℕ). Some u) e

-- what the table has for an instance, the instance repeats
pub is_like : (p : ProgramTree) (likes : List (Option ℕ)) → AreLikes p likes → (k j : ℕ) → like_at likes k ≡ Some j → IsLike p k j
is_like p likes h k j e = h.each k (Some j) (joined_is (slice_get likes k) j e)

-- an instance of the module of a number, before one
pub record IsFirst (s : Scene) (k m j : ℕ) : Type 0 where
  pub below : j < k
  pub spot : Spot
  pub is : slice_get s.spots.items j ≡ Some spot
  pub of : spot.«module» ≡ m

-- The instances so far: what they repeat, and of each module the first.
pub record LikesSoFar (s : Scene) (k : ℕ) (likes firsts : List (Option ℕ)) : Type 0 where
  pub size : length likes ≡ k
  pub each : (i : ℕ) (o : Option ℕ) → slice_get likes i ≡ Some o → IsLikeIf (program_of s) i o
  pub many : length firsts ≡ length s.modules.list.items
  pub are_first : (m j : ℕ) → like_at firsts m ≡ Some j → IsFirst s k m j
  pub noted : (j : ℕ) (b : Spot) → j < k → slice_get s.spots.items j ≡ Some b → (i : ℕ) × (like_at firsts b.«module» ≡ Some i)
  pub found :
      (i j : ℕ) (a b : Spot) (names : ModuleNames) → i < k → j < i → slice_get s.spots.items i ≡ Some a → slice_get s.spots.items j ≡ Some b →
      a.«module» ≡ b.«module» → slice_get s.modules.list.items a.«module» ≡ Some names → names.«module».now.formals ≡ [] →
      (l : ℕ) × (slice_get likes i ≡ Some (Some l))

module _ (s : Scene) (scene : IsScene s) where
  laid : IsLaid s
  laid = set_laid s scene.set

  no_formals : (k : ℕ) (at : FlatInstance) (own : Spot) → slice_get s.spots.items k ≡ Some own → (fits : IsLaidSpot (program_of s) at own) → formals_at s k ≡ 0 → fits.placed.tree.tree.formals ≡ []
  no_formals k at own is fits none =
      let names : (names : ModuleNames) × (names_of_spot s (slice_get s.spots.items k) ≡ Some names) × HasNames fits.placed.tree names = names_laid s laid k at own is fits in
      nil_from_length fits.placed.tree.tree.formals (ap (λ (m : ModuleTree). length m.formals) (sym names.2.tree) ∙ ap formals_in (sym names.1) ∙ none)

  -- an earlier instance of a module without formals is repeated
  first_repeated : (k j : ℕ) (at : FlatInstance) → slice_get (instances_of (program_of s)) k ≡ Some at → (own : Spot) → slice_get s.spots.items k ≡ Some own → IsLaidSpot (program_of s) at own →
      formals_at s k ≡ 0 → IsFirst s k own.«module» j → IsLike (program_of s) k j
  first_repeated k j at at_k own is fits none first =
      let other : (bt : FlatInstance) × (slice_get (instances_of (program_of s)) j ≡ Some bt) × IsLaidSpot (program_of s) bt first.spot =
      both_at_second (IsLaidSpot (program_of s)) (instances_of (program_of s)) s.spots.items j first.spot laid.spots first.is in
      let same : other.2.placed.tree ≡ fits.placed.tree =
      some_same other.2.placed.tree fits.placed.tree (sym other.2.placed.is ∙ ap (slice_get (modules_of (program_of s))) first.of ∙ fits.placed.is) in
      let same_name : other.0.module_name ≡ at.module_name =
      sym (found_named (program_of s) other.0.module_name other.2.placed.tree.tree other.2.placed.named)
      ∙ ap (λ (m : NumberedModule). m.tree.name) same
      ∙ found_named (program_of s) at.module_name fits.placed.tree.tree fits.placed.named in
      same_module_like (program_of s) laid.walkable k j at other.0 fits.placed.tree.tree first.below at_k other.1 same_name fits.placed.named (no_formals k at own is fits none)

  -- what a declared instance means in the instance that the caller repeats
  meant_inside : (c d : ℕ) (outer : IsLike (program_of s) c d) (x name : Text) (actuals : List Formula) → kind_at (module_at (program_of s) outer.later.place) x ≡ an_instance name actuals → (m : Meaning) →
      Means (program_of s) outer.first.place (x ∷ []) m → m ≡ an_instance_at (x ∷ outer.first.place)
  meant_inside c d outer x name actuals kind m (zero, e) = let bad : None ≡ Some m = e in cc
  meant_inside c d outer x name actuals kind m (suc n, e) =
      let there : kind_at (module_at (program_of s) outer.first.place) x ≡ an_instance name actuals =
      ap (λ o. kind_at o x) (repeated_module (program_of s) outer.first.place outer.later.place outer.repeats) ∙ kind in
      sym (some_same (an_instance_at (x ∷ outer.first.place)) m
      (sym (ap (λ k. by_kind (means_in n (program_of s)) (program_of s) outer.first.place k x []) there) ∙ e))

  denoted_inside : (j : ℕ) (bt : Place) (m : Meaning) → m ≡ an_instance_at bt → Denotes (program_of s) (found.Instance j) m →
      (i : FlatInstance) × (slice_get (instances_of (program_of s)) j ≡ Some i) × (i.place ≡ bt)
  denoted_inside j bt m e h = subst (Denotes (program_of s) (found.Instance j)) e h

  -- the instance of the same name in the one that the caller repeats is repeated
  inside_repeated : (k j d : ℕ) (at : FlatInstance) → slice_get (instances_of (program_of s)) k ≡ Some at → (own : Spot) → IsLaidSpot (program_of s) at own → (x : Text) →
      IsLike (program_of s) own.caller d → last_of own.path ≡ Some x → part_at s d true x ≡ found.Instance j → j < k → IsLike (program_of s) k j
  inside_repeated k j d at at_k own fits x outer last part below =
      inside_like (program_of s) laid.walkable own.caller d outer k j at inner.0 x below at_k inner.1 (place ∙ ap (λ bt. x ∷ bt) (sym outer_place)) inner.2
    where
      around : (bt : Place) × (place_of own.path ≡ x ∷ bt)
      around = last_of_place own.path x last

      place : at.place ≡ x ∷ around.0
      place = sym fits.placed.path ∙ around.1

      called : IsCalled (program_of s) at (x ∷ around.0) own.caller (map tree_of own.actuals.now)
      called = subst (λ bt. IsCalled (program_of s) at bt own.caller (map tree_of own.actuals.now)) place fits.placed.called

      outer_place : outer.later.place ≡ around.0
      outer_place = ap (λ (c : FlatInstance). c.place) (some_same outer.later called.0.0 (sym outer.is_later ∙ called.0.1)) ∙ called.0.2

      kind : kind_at (module_at (program_of s) outer.later.place) x ≡ an_instance at.module_name (map tree_of own.actuals.now)
      kind = ap (λ bt. kind_at (module_at (program_of s) bt) x) outer_place ∙ called.1

      meant : (m : Meaning) × Means (program_of s) outer.first.place (x ∷ []) m × Denotes (program_of s) (found.Instance j) m
      meant = subst (IsFound (program_of s) outer.first.place (x ∷ [])) part (scene_found s scene (x ∷ []) d outer.first outer.is_first)

      inner : (i : FlatInstance) × (slice_get (instances_of (program_of s)) j ≡ Some i) × (i.place ≡ x ∷ outer.first.place)
      inner =
          denoted_inside j (x ∷ outer.first.place) meant.0
          (meant_inside own.caller d outer x at.module_name (map tree_of own.actuals.now) kind meant.0 meant.1) meant.2

  module _ (k : ℕ) (likes firsts : List (Option ℕ)) (so_far : LikesSoFar s k likes firsts) (at : FlatInstance) (at_k : slice_get (instances_of (program_of s)) k ≡ Some at)
      (own : Spot) (is : slice_get s.spots.items k ≡ Some own) (fits : IsLaidSpot (program_of s) at own) where
    by_first : formals_at s k ≡ 0 → (o : Option ℕ) → like_at firsts own.«module» ≡ o → IsLikeIf (program_of s) k o
    by_first none None e = tt
    by_first none (Some j) e = first_repeated k j at at_k own is fits none (so_far.are_first own.«module» j e)

    by_caller : (o : Option ℕ) (l : Option Text) → like_at likes own.caller ≡ o → last_of own.path ≡ l → IsLikeIf (program_of s) k (named_inside s k o l)
    by_caller None l e f = tt
    by_caller (Some d) None e f = tt
    by_caller (Some d) (Some x) e f = by_part (part_at s d true x) refl
      where
        outer : IsLike (program_of s) own.caller d
        outer = so_far.each own.caller (Some d) (joined_is (slice_get likes own.caller) d e)

        by_test : (j : ℕ) → part_at s d true x ≡ found.Instance j → (b : Bool) → nat_lt j k ≡ b → IsLikeIf (program_of s) k (if b then Some j else None)
        by_test j part true t = inside_repeated k j d at at_k own fits x outer f part (ltb-true j k t)
        by_test j part false t = tt

        by_part : (g : Found) → part_at s d true x ≡ g → IsLikeIf (program_of s) k (earlier_of k g)
        by_part (found.Instance j) part = by_test j part (nat_lt j k) refl
        by_part (found.Variable number role) part = tt
        by_part (found.Definition j) part = tt
        by_part (found.Symbol j) part = tt
        by_part found.Nothing part = tt
        by_part found.Loop part = tt

    like_known : IsLikeIf (program_of s) k (like_of s likes firsts k (Some own))
    like_known = by_count (formals_at s k == 0) refl
      where
        by_count : (b : Bool) → (formals_at s k == 0) ≡ b → IsLikeIf (program_of s) k (if b then like_at firsts own.«module» else named_inside s k (like_at likes own.caller) (last_of own.path))
        by_count true t = by_first (eqb-true (formals_at s k) 0 t) (like_at firsts own.«module») refl
        by_count false t = by_caller (like_at likes own.caller) (last_of own.path) refl refl

    module_there : (names : ModuleNames) × (slice_get s.modules.list.items own.«module» ≡ Some names)
    module_there =
        let names : (names : ModuleNames) × (names_of_spot s (slice_get s.spots.items k) ≡ Some names) × HasNames fits.placed.tree names = names_laid s laid k at own is fits in
        (names.0, ap (names_of_spot s) (sym is) ∙ names.1)

    has_first : own.«module» < length firsts
    has_first = subst (λ n. own.«module» < n) (sym so_far.many) (get_less s.modules.list.items own.«module» module_there.0 module_there.1)

    later : (m j : ℕ) → IsFirst s k m j → IsFirst s (k + 1) m j
    later m j f = record { below = let below : j < k = f.below in omega (arith, below); spot = f.spot; is = f.is; of = f.of }

    firsts_after : (o : Option ℕ) → like_at firsts own.«module» ≡ o → (m j : ℕ) → like_at (with_first_in firsts own.«module» k o) m ≡ Some j → IsFirst s (k + 1) m j
    firsts_after (Some i) e m j h = later m j (so_far.are_first m j h)
    firsts_after None e m j h = by_place (set_is firsts own.«module» k m j has_first h)
      where
        by_place : ((own.«module» ≡ m) × (k ≡ j)) ⊎ (like_at firsts m ≡ Some j) → IsFirst s (k + 1) m j
        by_place (inl here) = record {
          below = let same : k ≡ j = here.1 in omega (arith, same);
          spot = own;
          is = ap (slice_get s.spots.items) (sym here.1) ∙ is;
          of = here.0;
        }
        by_place (inr there) = later m j (so_far.are_first m j there)

    noted_before : (o : Option ℕ) → like_at firsts own.«module» ≡ o → (b : Spot) (i : ℕ) → like_at firsts b.«module» ≡ Some i → (l : ℕ) × (like_at (with_first_in firsts own.«module» k o) b.«module» ≡ Some l)
    noted_before (Some n) e b i h = (i, h)
    noted_before None e b i h = (i, set_keeps firsts own.«module» k b.«module» i e h)

    noted_here : (o : Option ℕ) → like_at firsts own.«module» ≡ o → (l : ℕ) × (like_at (with_first_in firsts own.«module» k o) own.«module» ≡ Some l)
    noted_here (Some n) e = (n, e)
    noted_here None e = (k, set_same firsts own.«module» k has_first)

    noted_after : (o : Option ℕ) → like_at firsts own.«module» ≡ o → (j : ℕ) (b : Spot) → j < k + 1 → slice_get s.spots.items j ≡ Some b →
        (l : ℕ) × (like_at (with_first_in firsts own.«module» k o) b.«module» ≡ Some l)
    noted_after o e j b within h = by_place (cases_lt j k)
      where
        by_place : (j < k) ⊎ (k ≤ j) → (l : ℕ) × (like_at (with_first_in firsts own.«module» k o) b.«module» ≡ Some l)
        by_place (inl before) = let i : (i : ℕ) × (like_at firsts b.«module» ≡ Some i) = so_far.noted j b before h in noted_before o e b i.0 i.1
        by_place (inr past) =
            let same : j ≡ k = omega (arith, within, past) in
            let same_spot : own ≡ b = some_same own b (sym is ∙ ap (slice_get s.spots.items) (sym same) ∙ h) in
            subst (λ (c : Spot). (l : ℕ) × (like_at (with_first_in firsts own.«module» k o) c.«module» ≡ Some l)) same_spot (noted_here o e)

    -- an instance of a module without formals repeats one, where there is one before it
    found_here : (j : ℕ) (b : Spot) (names : ModuleNames) → j < k → slice_get s.spots.items j ≡ Some b → own.«module» ≡ b.«module» → slice_get s.modules.list.items own.«module» ≡ Some names →
        names.«module».now.formals ≡ [] → (l : ℕ) × (like_of s likes firsts k (Some own) ≡ Some l)
    found_here j b names before b_j same listed none =
        let l : (l : ℕ) × (like_at firsts b.«module» ≡ Some l) = so_far.noted j b before b_j in
        let counted : formals_at s k ≡ 0 = ap (λ o. formals_in (names_of_spot s o)) is ∙ ap formals_in listed ∙ ap (λ (xs : List Text). length xs) none in
        (l.0, ap (λ t. if t then like_at firsts own.«module» else named_inside s k (like_at likes own.caller) (last_of own.path)) (eq-eqb (formals_at s k) 0 counted) ∙ ap (like_at firsts) same ∙ l.1)

    one_known : (new noted : List (Option ℕ)) → new ≡ likes ++ like_of s likes firsts k (Some own) ∷ [] → noted ≡ with_first_in firsts own.«module» k (like_at firsts own.«module») → LikesSoFar s (k + 1) new noted
    one_known new noted is_new is_noted = subst (LikesSoFar s (k + 1) new) (sym is_noted) (subst (λ ls. LikesSoFar s (k + 1) ls after) (sym is_new) known)
      where
        like : Option ℕ
        like = like_of s likes firsts k (Some own)

        after : List (Option ℕ)
        after = with_first_in firsts own.«module» k (like_at firsts own.«module»)

        many_after : (o : Option ℕ) → length (with_first_in firsts own.«module» k o) ≡ length firsts
        many_after (Some n) = refl
        many_after None = length-set firsts own.«module» (Some k)

        at_end : slice_get (likes ++ like ∷ []) k ≡ Some like
        at_end = ap (slice_get (likes ++ like ∷ [])) (sym so_far.size) ∙ get_end likes like

        each_after : (i : ℕ) (o : Option ℕ) → slice_get (likes ++ like ∷ []) i ≡ Some o → IsLikeIf (program_of s) i o
        each_after i o e = by_place (push_get likes like i o e)
          where
            by_place : (slice_get likes i ≡ Some o) ⊎ ((i ≡ length likes) × (like ≡ o)) → IsLikeIf (program_of s) i o
            by_place (inl before) = so_far.each i o before
            by_place (inr here) = subst (λ n. IsLikeIf (program_of s) n o) (sym (here.0 ∙ so_far.size)) (subst (IsLikeIf (program_of s) k) here.1 like_known)

        found_after : (i j : ℕ) (a b : Spot) (names : ModuleNames) → i < k + 1 → j < i → slice_get s.spots.items i ≡ Some a → slice_get s.spots.items j ≡ Some b →
            a.«module» ≡ b.«module» → slice_get s.modules.list.items a.«module» ≡ Some names → names.«module».now.formals ≡ [] →
            (l : ℕ) × (slice_get (likes ++ like ∷ []) i ≡ Some (Some l))
        found_after i j a b names within below a_i b_j same listed none = by_place (cases_lt i k)
          where
            by_place : (i < k) ⊎ (k ≤ i) → (l : ℕ) × (slice_get (likes ++ like ∷ []) i ≡ Some (Some l))
            by_place (inl before) =
                let l : (l : ℕ) × (slice_get likes i ≡ Some (Some l)) = so_far.found i j a b names before below a_i b_j same listed none in
                (l.0, get_left likes (like ∷ []) i (Some l.0) l.1)
            by_place (inr past) =
                let here : i ≡ k = omega (arith, within, past) in
                let same_spot : a ≡ own = some_same a own (sym a_i ∙ ap (slice_get s.spots.items) here ∙ is) in
                let before : j < k = omega (arith, below, here) in
                let l : (l : ℕ) × (like ≡ Some l) =
                found_here j b names before b_j (ap (λ (c : Spot). c.«module») (sym same_spot) ∙ same) (ap (λ (c : Spot). slice_get s.modules.list.items c.«module») (sym same_spot) ∙ listed) none in
                (l.0, ap (slice_get (likes ++ like ∷ [])) here ∙ at_end ∙ ap (λ (o : Option ℕ). Some o) l.1)

        known : LikesSoFar s (k + 1) (likes ++ like ∷ []) after
        known = record {
          size = let size : length likes ≡ k = so_far.size in length_end likes like ∙ omega (arith, size);
          each = each_after;
          many = many_after (like_at firsts own.«module») ∙ so_far.many;
          are_first = firsts_after (like_at firsts own.«module») refl;
          noted = noted_after (like_at firsts own.«module») refl;
          found = found_after;
        }

  pub one_more : (k : ℕ) (likes firsts new noted : List (Option ℕ)) → k < length s.spots.items → new ≡ likes ++ like_of s likes firsts k (slice_get s.spots.items k) ∷ [] →
      noted ≡ with_first firsts k (slice_get s.spots.items k) → LikesSoFar s k likes firsts → LikesSoFar s (k + 1) new noted
  one_more k likes firsts new noted within is_new is_noted so_far =
      one_known k likes firsts so_far at.0 at.1 own.0 own.1 at.2 new noted
      (is_new ∙ ap (λ o. likes ++ like_of s likes firsts k o ∷ []) own.1) (is_noted ∙ ap (with_first firsts k) own.1)
    where
      own : (own : Spot) × (slice_get s.spots.items k ≡ Some own)
      own = get_within s.spots.items k within

      at : (at : FlatInstance) × (slice_get (instances_of (program_of s)) k ≡ Some at) × IsLaidSpot (program_of s) at own.0
      at = both_at_second (IsLaidSpot (program_of s)) (instances_of (program_of s)) s.spots.items k own.0 laid.spots own.1

  pub are_likes : (k : ℕ) (likes firsts : List (Option ℕ)) → k ≡ length s.spots.items → LikesSoFar s k likes firsts → AreLikes (program_of s) likes
  are_likes k likes firsts all so_far = record {
    size = so_far.size ∙ all ∙ both_long (IsLaidSpot (program_of s)) (instances_of (program_of s)) s.spots.items laid.spots;
    each = so_far.each;
  }

  pub are_found : (k : ℕ) (likes firsts : List (Option ℕ)) → k ≡ length s.spots.items → LikesSoFar s k likes firsts → AreFound s likes
  are_found k likes firsts all so_far i j a b names below a_i b_j =
      so_far.found i j a b names (subst (λ n. i < n) (sym all) (get_less s.spots.items i a a_i)) below a_i b_j
