-- What is found of the needs of a scene's definitions is what the program asks for.
use Rattle.std.proofs.Common.{◌≡◌, ℕ, zero, suc, ◌+◌, ◌<◌, arith, Bool, true, false, List, [], ◌∷◌, length, map, replicate, Option, Some, refl, ap, ◌∙◌, sym, subst}
use Rattle.std.proofs.lemmas.List.{length-map, length-replicate}
use Rattle.std.proofs.lemmas.Option.{slice_get_within}
use Rattle.std.specs.Prelude.{slice_get, Vec}
use Rattle.std.specs.declared.alloc.Global.{Global}
use Rattle.smv_language.specs.Language.{Key, Each, EachBoth}
use Rattle.smv_flat_laws.specs.Rules.{NeedsItself}
use Rattle.smv_flat_laws.specs.Model.{Root, roots_of, AddsAll}
use Rattle.smv_flat_laws.proofs.Conditions.{each_at}
use Rattle.smv_scope.specs.declared.names.Scene.{Scene}
use Rattle.smv_scope.specs.declared.links.Links.{Links}
use Rattle.smv_scope.specs.declared.needs.Named.{Named}
use Rattle.smv_scope.specs.declared.needs.Needs.{Needs}
use Rattle.smv_scope.specs.SceneTree.{IsDefined, IsScene, program_of}
use Rattle.smv_scope.specs.NeedsTree.{keys_of, IsKeyAt, HasCircle, HasInput, AreMeant, IsOrder, AreNeeds}
use Rattle.smv_scope.specs.Links.{Graph, Has, Reaches, graph_of, links_at, AreReached, IsCircle, AreCircles, AreTurned}
use Rattle.smv_scope.specs.DefinitionOrder.{upto, IsInto, IsLaid, placed_from}
use Rattle.smv_scope.specs.DefinitionNeeds.{needs_of, inputs_from, IsNamed}
use Rattle.smv_scope.proofs.LinkLaws.{graph_rows}
use Rattle.smv_scope.proofs.ReachLaws.{graph_within}
use Rattle.smv_scope.proofs.OrderLaws.{Grows, grown, has_at, at_has, in_upto, upto_below, placed_size, placed_is}
use Rattle.smv_scope.proofs.KeyLaws.{key_at}
use Rattle.smv_scope.proofs.NeedLaws.{IsLinked, linked, circle_is, circle_from, reads_is, reads_from_input}
use Rattle.smv_scope.proofs.AddLaws.{AreKeyed, keys_upto, keyed_each, adds_from}
use Rattle.smv_flat_laws.proofs.BothLaws.{both_size}
use Rattle.base_values.proofs.ListLaws.{get_within}

pub both_from : {A B : Type 0} (R : A → B → Type 0) (xs : List A) (ys : List B) → length xs ≡ length ys →
    ((k : ℕ) (x : A) (y : B) → slice_get xs k ≡ Some x → slice_get ys k ≡ Some y → R x y) → EachBoth R xs ys
both_from R [] [] e each = tt
both_from R [] (y ∷ ys) e each = absurd (omega (arith, e))
both_from R (x ∷ xs) [] e each = absurd (omega (arith, e))
both_from R (x ∷ xs) (y ∷ ys) e each = (each 0 x y refl refl, both_from R xs ys (omega (arith, e)) (λ k. each (suc k)))

row_at : {A : Type 0} (f : A → List ℕ) (xs : List A) (k : ℕ) (x : A) → slice_get xs k ≡ Some x → links_at (map f xs) k ≡ f x
row_at f [] k x e = cc
row_at f (y ∷ xs) zero x e = cc
row_at f (y ∷ xs) (suc k) x e = row_at f xs k x e

abbrev zeros : ℕ → List ℕ
zeros n = replicate n 0

zeros_size : (n : ℕ) → length (zeros n) ≡ n
zeros_size n = length-replicate n zero

module _ (s : Scene) (is : IsScene s) (named : Named) (n : IsNamed s named) where
  abbrev keys : List Key
  keys = keys_of (program_of s)

  abbrev graph : Graph
  graph = graph_of named.links

  pub count_is : length named.links.of.items ≡ length keys
  count_is =
      sym (length-map named.links.of.items (λ (v : Vec ℕ Global). v.items))
      ∙ ap (λ (rs : List (List ℕ)). length rs) n.links
      ∙ length-map s.definitions.items (needs_of s)
      ∙ sym (both_size (IsDefined (program_of s)) (roots_of (program_of s)) s.definitions.items is.set.definitions)
      ∙ sym (length-map (roots_of (program_of s)) (λ (r : Root). r.key))

  all_linked : (k : ℕ) (key : Key) → IsKeyAt (program_of s) k key → IsLinked (program_of s) graph (inputs_from s 0 s.definitions.items) k key
  all_linked =
      linked s is graph (λ k d e. graph_rows named.links k ∙ ap (λ rs. links_at rs k) n.links ∙ row_at (needs_of s) s.definitions.items k d e) n.found

  key_within : (k : ℕ) (key : Key) → IsKeyAt (program_of s) k key → k < length named.links.of.items
  key_within k key e = subst (λ m. k < m) (sym count_is) (slice_get_within keys k key e)

  key_of : (k : ℕ) → k < length named.links.of.items → (key : Key) × IsKeyAt (program_of s) k key
  key_of k h = get_within keys k (subst (λ m. k < m) count_is h)

  -- all links go to definitions
  pub links_into : IsInto graph (length named.links.of.items)
  links_into a b h = by_key (key_of a (graph_within named.links a b h))
    where
      by_other : (other : Key) × IsKeyAt (program_of s) b other → b < length named.links.of.items
      by_other (other, e) = key_within b other e

      by_key : (key : Key) × IsKeyAt (program_of s) a key → b < length named.links.of.items
      by_key (key, e) = by_other ((all_linked a key e).keyed b h)

  module _ (back : Links) (turned : AreTurned named.links back) (circle : Bool) (needs : Needs) (laid : IsLaid graph (length named.links.of.items) circle needs.order.items)
      (placed : needs.places.items ≡ placed_from (zeros (length s.definitions.items)) 0 needs.order.items) (circles : AreCircles graph (length named.links.of.items) circle needs.on_circle.items)
      (reached : AreReached (graph_of back) named.inputs.items (length back.of.items) needs.reads_input.items) where
    grown_order : circle ≡ false → Grows graph (upto (length named.links.of.items)) [] needs.order.items
    grown_order c = grown graph (upto (length named.links.of.items)) needs.order.items (laid.laid c)

    ordered : circle ≡ false → (k : ℕ) → k < length named.links.of.items → Has needs.order.items k
    ordered c k h = (grown_order c).has k (in_upto (length named.links.of.items) k h)

    loopless : circle ≡ false → (k : ℕ) → k < length named.links.of.items → Reaches graph (graph k) k → ⊥
    loopless c k h = (grown_order c).loopless k (subst (λ xs. Has xs k) (grown_order c).is (ordered c k h))

    circle_at : (k : ℕ) (key : Key) (b : Bool) → IsKeyAt (program_of s) k key → slice_get needs.on_circle.items k ≡ Some b → HasCircle (program_of s) key b
    circle_at k key b is_k is_b = by_circle circle refl
      where
        told : IsCircle graph circle k b
        told = circles.each k b is_b

        needs_itself : NeedsItself (program_of s) key → Reaches graph (graph k) k
        needs_itself = circle_from (program_of s) is.set.walkable graph (inputs_from s 0 s.definitions.items) all_linked k key is_k

        differs : b ≡ false → b ≡ true → ⊥
        differs e f = cc

        by_circle : (c : Bool) → circle ≡ c → HasCircle (program_of s) key b
        by_circle true c =
            ((λ e. circle_is (program_of s) is.set.walkable graph (inputs_from s 0 s.definitions.items) all_linked k key is_k ((told.told c).0 e)), (λ h. (told.told c).1 (needs_itself h)))
        by_circle false c = ((λ e. absurd (differs (told.none c) e)), (λ h. absurd (loopless c k (key_within k key is_k) (needs_itself h))))

    input_at : (k : ℕ) (key : Key) (b : Bool) → IsKeyAt (program_of s) k key → slice_get needs.reads_input.items k ≡ Some b → HasInput (program_of s) key b
    input_at k key b is_k is_b = (
      (λ e. reads_is (program_of s) is.set.walkable graph (inputs_from s 0 s.definitions.items) all_linked (graph_of back) turned_is turned_back k key is_k (there ((reached.told k b is_b).0 e))),
      (λ h. (reached.told k b is_b).1
          (subst (λ xs. Reaches (graph_of back) xs k) (sym n.inputs)
          (reads_from_input (program_of s) is.set.walkable graph (inputs_from s 0 s.definitions.items) all_linked (graph_of back) turned_is turned_back k key is_k h))),
    )
      where
        turned_is : (a b : ℕ) → Has (graph_of back b) a → Has (graph a) b
        turned_is a b h = (turned.links a b (subst (λ m. b < m) turned.size (graph_within back b a h))).0 h

        turned_back : (a b : ℕ) (key : Key) → IsKeyAt (program_of s) b key → Has (graph a) b → Has (graph_of back b) a
        turned_back a b key is_b h = (turned.links a b (key_within b key is_b)).1 h

        there : Reaches (graph_of back) named.inputs.items k → Reaches (graph_of back) (inputs_from s 0 s.definitions.items) k
        there r = subst (λ xs. Reaches (graph_of back) xs k) n.inputs r

    no_circle : Each (λ b. b ≡ false) needs.on_circle.items → circle ≡ false
    no_circle none = by_circle circle refl
      where
        marked : (k : ℕ) → k < length named.links.of.items → (b : Bool) × (slice_get needs.on_circle.items k ≡ Some b)
        marked k h = get_within needs.on_circle.items k (subst (λ m. k < m) (sym circles.size) h)

        differs : (b : Bool) → b ≡ false → b ≡ true → ⊥
        differs b e f = cc

        by_mark : (k : ℕ) → circle ≡ true → Reaches graph (graph k) k → (b : Bool) × (slice_get needs.on_circle.items k ≡ Some b) → ⊥
        by_mark k c r (b, e) = differs b (each_at (λ b. b ≡ false) needs.on_circle.items k b none e) (((circles.each k b e).told c).1 r)

        by_shown : circle ≡ true → (k : ℕ) × (k < length named.links.of.items) × Reaches graph (graph k) k → ⊥
        by_shown c (k, h, r) = by_mark k c r (marked k h)

        by_circle : (c : Bool) → circle ≡ c → circle ≡ false
        by_circle false c = c
        by_circle true c = absurd (by_shown c (laid.shown c))

    sizes : length s.definitions.items ≡ length keys
    sizes =
        sym (both_size (IsDefined (program_of s)) (roots_of (program_of s)) s.definitions.items is.set.definitions) ∙ sym (length-map (roots_of (program_of s)) (λ (r : Root). r.key))

    places_size : length needs.places.items ≡ length s.definitions.items
    places_size =
        ap (λ (xs : List ℕ). length xs) placed
        ∙ placed_size (zeros (length s.definitions.items)) 0 needs.order.items
        ∙ zeros_size (length s.definitions.items)

    order_is : circle ≡ false → AreMeant (program_of s) → IsOrder (program_of s) needs.order.items needs.places.items
    order_is c meant =
        record {
          ordered = map (key_at keys) needs.order.items;
          each = keyed_each (program_of s) needs.order.items added.1;
          adds = subst (λ ks. AddsAll (program_of s) [] ks (map (key_at keys) needs.order.items)) (ap (λ m. map (key_at keys) (upto m)) count_is ∙ keys_upto keys) added.0;
          size = places_size ∙ sizes;
          back = back_at;
          all = λ k i e. all_at k i e (at_has needs.order.items k (ordered c k (place_within k i e)));
        }
      where
        upto_keyed : AreKeyed (program_of s) (upto (length named.links.of.items))
        upto_keyed k h = key_of k (upto_below (length named.links.of.items) k h)

        added : AddsAll (program_of s) [] (map (key_at keys) (upto (length named.links.of.items))) (map (key_at keys) needs.order.items) × AreKeyed (program_of s) needs.order.items
        added =
            adds_from (program_of s) is.set.walkable graph (inputs_from s 0 s.definitions.items) all_linked meant (upto (length named.links.of.items)) needs.order.items upto_keyed (laid.laid c)

        in_order : (k : ℕ) → (key : Key) × IsKeyAt (program_of s) k key → k < length (zeros (length s.definitions.items))
        in_order k (key, e) = subst (λ m. k < m) (sym (zeros_size (length s.definitions.items) ∙ sizes)) (slice_get_within keys k key e)

        from_zero : (i : ℕ) → 0 + i ≡ i
        from_zero i = omega arith

        back_at : (k i : ℕ) → slice_get needs.order.items i ≡ Some k → slice_get needs.places.items k ≡ Some i
        back_at k i e =
            ap (λ (xs : List ℕ). slice_get xs k) placed
            ∙ placed_is (zeros (length s.definitions.items)) 0 needs.order.items i k (grown_order c).once (in_order k (added.1 k (has_at needs.order.items i k e))) e
            ∙ ap Some (from_zero i)

        place_within : (k i : ℕ) → slice_get needs.places.items k ≡ Some i → k < length named.links.of.items
        place_within k i e = subst (λ m. k < m) (places_size ∙ sizes ∙ sym count_is) (slice_get_within needs.places.items k i e)

        same_some : (i j : ℕ) (o : Option ℕ) → o ≡ Some i → o ≡ Some j → i ≡ j
        same_some i j o e f = cc

        all_at : (k i : ℕ) → slice_get needs.places.items k ≡ Some i → (j : ℕ) × (slice_get needs.order.items j ≡ Some k) → slice_get needs.order.items i ≡ Some k
        all_at k i e (j, f) = subst (λ m. slice_get needs.order.items m ≡ Some k) (same_some j i (slice_get needs.places.items k) (back_at k j f) e) f

    pub are_needs : AreNeeds (program_of s) needs
    are_needs =
        record {
          circles = both_from (HasCircle (program_of s)) keys needs.on_circle.items (sym (circles.size ∙ count_is)) circle_at;
          inputs = both_from (HasInput (program_of s)) keys needs.reads_input.items (sym (reached.size ∙ turned.size ∙ count_is)) input_at;
          order = λ none meant. order_is (no_circle none) meant;
        }
