-- The slices that are met, piece by piece.
use Rattle.std.proofs.Common.{◌≡◌, ℕ, suc, ◌+◌, ◌<◌, List, [], ◌∷◌, ◌++◌, map, length, drop, get_or, refl, sym, ◌∙◌, ap, append_assoc, append-nil, arith}
use Rattle.smv_language.specs.ProgramTree.{Text, DeclaredTree, ProgramTree}
use Rattle.fault_instructions.specs.declared.instructions.Slice.{Slice}
use Rattle.fault_instructions.specs.declared.instructions.Extension.{Extension}
use Rattle.fault_instructions.specs.Instructions.{ModeTree, SliceTree, slice_tree, extension_tree}
use Rattle.fault_instructions.specs.KindTypes.{type_of_kind}
use Rattle.fault_rules.specs.Sites.{OwnedSlice, owned, Site, mode_sites, slice_sites, extension_sites}
use Rattle.fault_rules.specs.Rules.{target_kind}
use Rattle.fault_rules.specs.Faults.{sites_of, owned_slices, slices_in}
use Rattle.fault_rules.specs.PlacedSlices.{PlacedSlice, placed_at, placed_from, seen_placed, places_in}
use Rattle.fault_rules.specs.declared.placed.Placed.{Placed}
use Rattle.fault_rules.specs.declared.items.MetItems.{MetItems}
use Rattle.fault_rules.proofs.KeyedLaws.{map_push}
use Rattle.fault_rules.proofs.SiteFaults.{slice_first}
use Rattle.smv_language.proofs.ListLaws.{drop_here}

module _ (p : ProgramTree) where
  pub places_joined : (n : ℕ) (xs ys : List Site) → placed_from p n (xs ++ ys) ≡ placed_from p n xs ++ placed_from p (n + length xs) ys
  places_joined n [] ys = ap (λ k. placed_from p k ys) (omega arith)
  places_joined n (x ∷ xs) ys =
      ap (λ ps. placed_at p (suc n) x ++ ps) (places_joined (suc n) xs ys ∙ ap (λ k. placed_from p (suc n) xs ++ placed_from p k ys) (shifted n (length xs)))
      ∙ sym (append_assoc (placed_at p (suc n) x) (placed_from p (suc n) xs) (placed_from p (n + suc (length xs)) ys))
    where
      shifted : (n k : ℕ) → suc n + k ≡ n + suc k
      shifted n k = omega arith

  -- modes are no slices
  pub no_places : (n : ℕ) (before : List OwnedSlice) (o : OwnedSlice) (earlier ms : List ModeTree) → placed_from p n (mode_sites before o earlier ms) ≡ []
  no_places n before o earlier [] = refl
  no_places n before o earlier (m ∷ ms) = no_places (suc n) before o (earlier ++ m ∷ []) ms

  -- a slice that is taken
  pub slice_placed : (n item : ℕ) (before : List OwnedSlice) (owner : Text) (s : SliceTree) (type : DeclaredTree) → item ≡ n + 1 → type ≡ type_of_kind (target_kind p (owned owner s)) →
      record { of = owned owner s; item = item; type = type } ∷ [] ≡ placed_from p n (slice_sites before owner (s ∷ []))
  slice_placed n item before owner s type at typed =
      ap (λ k. record { of = owned owner s; item = k; type = type } ∷ []) (at ∙ omega arith) ∙ ap (λ t. record { of = owned owner s; item = suc n; type = t } ∷ []) typed
      ∙ ap (λ ps. record { of = owned owner s; item = suc n; type = type_of_kind (target_kind p (owned owner s)) } ∷ ps)
      (sym (ap (placed_from p (suc n)) (append-nil (mode_sites before (owned owner s) [] s.modes)) ∙ no_places (suc n) before (owned owner s) [] s.modes))

  -- what is met and what is left, one piece on
  places_next : (all now new : List PlacedSlice) (n n' : ℕ) (sites rest : List Site) → now ++ placed_from p n (sites ++ rest) ≡ all → new ≡ now ++ placed_from p n sites → n' ≡ n + length sites →
      new ++ placed_from p n' rest ≡ all
  places_next all now new n n' sites rest left taken last =
      ap (λ xs. xs ++ placed_from p n' rest) taken ∙ append_assoc now (placed_from p n sites) (placed_from p n' rest) ∙ ap (λ k. now ++ (placed_from p n sites ++ placed_from p k rest)) last
      ∙ ap (λ xs. now ++ xs) (sym (places_joined n sites rest)) ∙ left

  pub slices_placed : (all : List PlacedSlice) (now new : MetItems) (owner : Text) (xs : List Slice) (i : ℕ) (x : Slice) → i < length xs → x ≡ get_or xs i x →
      places_in now ++ placed_from p now.last (slice_sites (slices_in now) owner (map slice_tree (drop i xs))) ≡ all →
      places_in new ≡ places_in now ++ placed_from p now.last (slice_sites (slices_in now) owner (slice_tree x ∷ [])) → slices_in new ≡ slices_in now ++ owned owner (slice_tree x) ∷ [] →
      new.last ≡ now.last + length (slice_sites (slices_in now) owner (slice_tree x ∷ [])) →
      places_in new ++ placed_from p new.last (slice_sites (slices_in new) owner (map slice_tree (drop (i + 1) xs))) ≡ all
  slices_placed all now new owner xs i x below here left taken slices last =
      let later : List SliceTree = map slice_tree (drop (i + 1) xs) in
      ap (λ before. places_in new ++ placed_from p new.last (slice_sites before owner later)) slices
      ∙ places_next all (places_in now) (places_in new) now.last new.last (slice_sites (slices_in now) owner (slice_tree x ∷ [])) (slice_sites (slices_in now ++ owned owner (slice_tree x) ∷ []) owner later)
      (ap (λ sites. places_in now ++ placed_from p now.last sites) (sym (slice_first (slices_in now) owner (slice_tree x) later))
      ∙ ap (λ ys. places_in now ++ placed_from p now.last (slice_sites (slices_in now) owner (map slice_tree ys))) (sym (drop_here xs i x below here)) ∙ left)
      taken last

  pub extensions_placed : (all : List PlacedSlice) (now new : MetItems) (xs : List Extension) (i : ℕ) (x : Extension) → i < length xs → x ≡ get_or xs i x →
      places_in now ++ placed_from p now.last (extension_sites (slices_in now) (map extension_tree (drop i xs))) ≡ all →
      places_in new ≡ places_in now ++ placed_from p now.last (sites_of (slices_in now) (extension_tree x)) → slices_in new ≡ slices_in now ++ owned_slices (extension_tree x) →
      new.last ≡ now.last + length (sites_of (slices_in now) (extension_tree x)) →
      places_in new ++ placed_from p new.last (extension_sites (slices_in new) (map extension_tree (drop (i + 1) xs))) ≡ all
  extensions_placed all now new xs i x below here left taken slices last =
      ap (λ before. places_in new ++ placed_from p new.last (extension_sites before (map extension_tree (drop (i + 1) xs)))) slices
      ∙ places_next all (places_in now) (places_in new) now.last new.last (sites_of (slices_in now) (extension_tree x)) (extension_sites (slices_in now ++ owned_slices (extension_tree x)) (map extension_tree (drop (i + 1) xs)))
      (ap (λ ys. places_in now ++ placed_from p now.last (extension_sites (slices_in now) (map extension_tree ys))) (sym (drop_here xs i x below here)) ∙ left)
      taken last

pub seen_more : (old new : List Placed) (placed : Placed) → new ≡ old ++ placed ∷ [] → map seen_placed new ≡ map seen_placed old ++ seen_placed placed ∷ []
seen_more old new placed e = ap (map seen_placed) e ∙ map_push seen_placed old placed
