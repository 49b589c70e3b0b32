-- The modes that are judged at an instance are those of the slices of its module.
use Rattle.std.proofs.Common.{◌≡◌, ℕ, suc, ◌+◌, Bool, true, false, List, [], ◌∷◌, ◌++◌, map, length, refl, sym, ◌∙◌, ap, arith}
use Rattle.std.specs.Prelude.{flat_map, if◌then◌else◌}
use Rattle.std.proofs.lemmas.Grind.{flat_map-append}
use Rattle.smv_language.specs.Language.{Text, ProgramTree, same_text, FlatInstance}
use Rattle.fault_instructions.specs.Instructions.{ModeTree, SliceTree, ExtensionTree, InstructionTree}
use Rattle.smv_flat_laws.proofs.Lists.{map_joined}
use Rattle.fault_instructions.specs.KindTypes.{type_of_kind}
use Rattle.fault_rules.specs.Sites.{OwnedSlice, owned, Site, mode_sites, slice_sites, extension_sites, item_sites}
use Rattle.fault_rules.specs.Rules.{target_kind}
use Rattle.fault_rules.specs.Faults.{owned_slices, file_slices}
use Rattle.fault_rules.specs.PlacedSlices.{PlacedSlice, placed_from}
use Rattle.fault_rules.proofs.PlacingLaws.{places_joined, no_places}
use Rattle.smv_flat_laws.specs.Items.{instances_of}
use Rattle.fault_extend_laws.specs.Uses.{Use, use_of_site, uses_from, uses_at, uses}
use Rattle.fault_extend_laws.specs.SliceUses.{modes_from, uses_of_slice, uses_of_slices}

module _ (p : ProgramTree) where
  -- of a slice's items the modes alone are left out
  places_of_slice : (n : ℕ) (before : List OwnedSlice) (o : OwnedSlice) (ms : List ModeTree) (rest : List Site) →
      placed_from p n (mode_sites before o [] ms ++ rest) ≡ placed_from p (n + length (mode_sites before o [] ms)) rest
  places_of_slice n before o ms rest =
      places_joined p n (mode_sites before o [] ms) rest ∙ ap (λ ps. ps ++ placed_from p (n + length (mode_sites before o [] ms)) rest) (no_places p n before o [] ms)

  -- the slices of a file
  slices_placed : (n : ℕ) (before : List OwnedSlice) (owner : Text) (ss : List SliceTree) → map (λ (s : PlacedSlice). s.of) (placed_from p n (slice_sites before owner ss)) ≡ map (owned owner) ss
  slices_placed n before owner [] = refl
  slices_placed n before owner (s ∷ ss) =
      ap (λ ps. owned owner s ∷ map (λ (s : PlacedSlice). s.of) ps) (places_of_slice (suc n) before (owned owner s) s.modes (slice_sites (before ++ owned owner s ∷ []) owner ss))
      ∙ ap (λ os. owned owner s ∷ os) (slices_placed (suc n + length (mode_sites before (owned owner s) [] s.modes)) (before ++ owned owner s ∷ []) owner ss)

  file_placed : (n : ℕ) (before : List OwnedSlice) (xs : List ExtensionTree) → map (λ (s : PlacedSlice). s.of) (placed_from p n (extension_sites before xs)) ≡ file_slices xs
  file_placed n before [] = refl
  file_placed n before (x ∷ xs) =
      let here : List Site = slice_sites before x.of_module x.slices in
      let later : List OwnedSlice = before ++ map (owned x.of_module) x.slices in
      ap (map (λ (s : PlacedSlice). s.of)) (places_joined p (suc n) here (extension_sites later xs))
      ∙ map_joined (λ (s : PlacedSlice). s.of) (placed_from p (suc n) here) (placed_from p (suc n + length here) (extension_sites later xs))
      ∙ ap (λ os. os ++ map (λ (s : PlacedSlice). s.of) (placed_from p (suc n + length here) (extension_sites later xs))) (slices_placed (suc n) before x.of_module x.slices)
      ∙ ap (λ os. owned_slices x ++ os) (file_placed (suc n + length here) later xs)

  pub placed_are : (i : InstructionTree) → map (λ (s : PlacedSlice). s.of) (placed_from p 0 (item_sites i)) ≡ file_slices i.extensions
  placed_are i = file_placed 0 [] i.extensions

module _ (p : ProgramTree) (at : FlatInstance) where
  uses_joined : (n : ℕ) (xs ys : List Site) → uses_from p at n (xs ++ ys) ≡ uses_from p at n xs ++ uses_from p at (n + length xs) ys
  uses_joined n [] ys = ap (λ k. uses_from p at k ys) (omega arith)
  uses_joined n (x ∷ xs) ys =
      ap (λ us. use_of_site p at n x ++ us) (uses_joined (suc n) xs ys ∙ ap (λ k. uses_from p at (suc n) xs ++ uses_from p at k ys) (shifted n (length xs)))
      ∙ joined (use_of_site p at n x) (uses_from p at (suc n) xs) (uses_from p at (n + suc (length xs)) ys)
    where
      shifted : (n k : ℕ) → suc n + k ≡ n + suc k
      shifted n k = omega arith

      joined : (us vs ws : List Use) → us ++ (vs ++ ws) ≡ (us ++ vs) ++ ws
      joined [] vs ws = refl
      joined (u ∷ us) vs ws = ap (λ xs. u ∷ xs) (joined us vs ws)

  -- the modes of a slice
  modes_used : (before : List OwnedSlice) (o : OwnedSlice) → same_text o.owner at.module_name ≡ true → (n : ℕ) (earlier ms : List ModeTree) →
      uses_from p at n (mode_sites before o earlier ms) ≡ modes_from at.place (type_of_kind (target_kind p o)) n ms
  modes_used before o t n earlier [] = refl
  modes_used before o t n earlier (m ∷ ms) =
      rw t (ap (λ us. record { place = at.place; item = n; type = type_of_kind (target_kind p o); mode = m } ∷ us) (modes_used before o t (suc n) (earlier ++ m ∷ []) ms))

  modes_passed : (before : List OwnedSlice) (o : OwnedSlice) → same_text o.owner at.module_name ≡ false → (n : ℕ) (earlier ms : List ModeTree) → uses_from p at n (mode_sites before o earlier ms) ≡ []
  modes_passed before o t n earlier [] = refl
  modes_passed before o t n earlier (m ∷ ms) = rw t (modes_passed before o t (suc n) (earlier ++ m ∷ []) ms)

  slice_used : (n : ℕ) (before : List OwnedSlice) (o : OwnedSlice) →
      uses_from p at (suc n) (mode_sites before o [] o.slice.modes) ≡ uses_of_slice at (record { of = o; item = n; type = type_of_kind (target_kind p o) })
  slice_used n before o = by_test (same_text o.owner at.module_name) refl
    where
      by_test : (b : Bool) → same_text o.owner at.module_name ≡ b →
          uses_from p at (suc n) (mode_sites before o [] o.slice.modes)
          ≡ (if same_text o.owner at.module_name then modes_from at.place (type_of_kind (target_kind p o)) (suc n) o.slice.modes else [])
      by_test true t = modes_used before o t (suc n) [] o.slice.modes ∙ sym (ap (λ b. if b then modes_from at.place (type_of_kind (target_kind p o)) (suc n) o.slice.modes else []) t)
      by_test false t = modes_passed before o t (suc n) [] o.slice.modes ∙ sym (ap (λ b. if b then modes_from at.place (type_of_kind (target_kind p o)) (suc n) o.slice.modes else []) t)

  slices_used : (n : ℕ) (before : List OwnedSlice) (owner : Text) (ss : List SliceTree) → uses_from p at (suc n) (slice_sites before owner ss) ≡ uses_of_slices (placed_from p n (slice_sites before owner ss)) at
  slices_used n before owner [] = refl
  slices_used n before owner (s ∷ ss) =
      let here : List Site = mode_sites before (owned owner s) [] s.modes in
      let later : List Site = slice_sites (before ++ owned owner s ∷ []) owner ss in
      uses_joined (suc (suc n)) here later
      ∙ ap (λ us. us ++ uses_from p at (suc (suc n) + length here) later) (slice_used (suc n) before (owned owner s))
      ∙ ap (λ us. uses_of_slice at (record { of = owned owner s; item = suc n; type = type_of_kind (target_kind p (owned owner s)) }) ++ us)
      (ap (λ k. uses_from p at k later) (shifted n (length here)) ∙ slices_used (suc n + length here) (before ++ owned owner s ∷ []) owner ss
      ∙ ap (λ ps. uses_of_slices ps at) (sym (places_of_slice p (suc n) before (owned owner s) s.modes later)))
    where
      shifted : (n k : ℕ) → suc (suc n) + k ≡ suc (suc n + k)
      shifted n k = omega arith

  file_used : (n : ℕ) (before : List OwnedSlice) (xs : List ExtensionTree) → uses_from p at (suc n) (extension_sites before xs) ≡ uses_of_slices (placed_from p n (extension_sites before xs)) at
  file_used n before [] = refl
  file_used n before (x ∷ xs) =
      let here : List Site = slice_sites before x.of_module x.slices in
      let others : List OwnedSlice = before ++ map (owned x.of_module) x.slices in
      let later : List Site = extension_sites others xs in
      uses_joined (suc (suc n)) here later
      ∙ ap (λ us. us ++ uses_from p at (suc (suc n) + length here) later) (slices_used (suc n) before x.of_module x.slices)
      ∙ ap (λ us. uses_of_slices (placed_from p (suc n) here) at ++ us) (ap (λ k. uses_from p at k later) (shifted n (length here)) ∙ file_used (suc n + length here) others xs)
      ∙ sym (flat_map-append (uses_of_slice at) (placed_from p (suc n) here) (placed_from p (suc n + length here) later))
      ∙ ap (λ ps. uses_of_slices ps at) (sym (places_joined p (suc n) here later))
    where
      shifted : (n k : ℕ) → suc (suc n) + k ≡ suc (suc n + k)
      shifted n k = omega arith

pub uses_are : (p : ProgramTree) (i : InstructionTree) (at : FlatInstance) → uses_at p i at ≡ uses_of_slices (placed_from p 0 (item_sites i)) at
uses_are p i at = file_used p at 0 [] i.extensions

-- the modes at all instances
pub all_uses : (p : ProgramTree) (i : InstructionTree) (ss : List PlacedSlice) (instances : List FlatInstance) → ss ≡ placed_from p 0 (item_sites i) → instances ≡ instances_of p →
    flat_map (uses_of_slices ss) instances ≡ uses p i
all_uses p i ss instances e f = (λ j. flat_map (uses_of_slices (e j)) (f j)) ∙ sym (λ j. flat_map (λ at. uses_are p i at j) (instances_of p))
