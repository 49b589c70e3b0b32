-- Where no item of instructions breaks a rule: the names that slices add are new, and slices of a module stand apart.
use Rattle.std.proofs.Common.{◌≡◌, Bool, true, false, ◌&&◌, List, [], ◌∷◌, ◌++◌, map, refl, subst}
use Rattle.std.specs.Prelude.{if◌then◌else◌}
use Rattle.smv_language.specs.Language.{Text, ProgramTree, same_text, Each}
use Rattle.smv_language.proofs.ValueLaws.{same_text_refl, same_text_equal}
use Rattle.smv_flat_laws.proofs.Lists.{each_of_map}
use Rattle.fault_instructions.specs.Instructions.{SliceTree, ExtensionTree, InstructionTree, slices_from, slices_of}
use Rattle.fault_instructions.specs.AddedNames.{own_name, mode_variable}
use Rattle.fault_instructions.specs.Weavable.{Among}
use Rattle.fault_instructions.proofs.AmongLaws.{each_all, each_at, each_mono}
use Rattle.fault_rules.specs.Sites.{OwnedSlice, owned, item_sites}
use Rattle.fault_rules.specs.Rules.{is_program_name, states_before, owns_before, broken_at}
use Rattle.fault_rules.specs.FirstBroken.{AllKept}
use Rattle.fault_rules.proofs.ProgramNames.{any_false}
use Rattle.fault_rules.proofs.KeptItems.{all_slices, slice_in_file, IsKeptSlice, AreKeptSlices, StandsAfter, kept_at, extensions_kept}
use Rattle.fault_rules.proofs.KeptFacts.{SliceKept, slice_facts, free}
use Rattle.fault_woven_laws.proofs.Orders.{EachAfter, pairs_after}
use Rattle.fault_rules.proofs.WeavableLaw.{both_false}
use Rattle.smv_language.proofs.AmongLaws.{not_itself}
use Rattle.smv_flat_laws.proofs.Pairs.{Pairwise, pairs_join, pairs_left, pairs_right, pairs_across}

-- two slices of a file: other names, and other variables where they are of one module
abbrev OwnedApart : OwnedSlice → OwnedSlice → Type 0
OwnedApart o q = (o.slice.name ≡ q.slice.name → ⊥) × (o.owner ≡ q.owner → o.slice.target ≡ q.slice.target → ⊥)

-- two slices of a module
abbrev pub SlicesApart : SliceTree → SliceTree → Type 0
SlicesApart s t = (s.name ≡ t.name → ⊥) × (s.target ≡ t.target → ⊥)

module _ (p : ProgramTree) where
  apart_before : (before : List OwnedSlice) (o : OwnedSlice) → IsKeptSlice p before o → Each (λ q. OwnedApart q o) before
  apart_before before o kept =
      let facts : SliceKept p before o = slice_facts p before o kept.0 in
      each_all (λ q. OwnedApart q o) before (λ q a. (
        (λ e. not_itself q.slice.name o.slice.name (any_false (λ b. same_text b.slice.name o.slice.name) before q facts.name a) e),
        (λ e f. both_false (same_text q.owner o.owner) (same_text q.slice.target o.slice.target) (any_false (λ b. same_text b.owner o.owner && same_text b.slice.target o.slice.target) before q facts.target a)
            (subst (λ z. same_text q.owner z ≡ true) e (same_text_refl q.owner)) (subst (λ z. same_text q.slice.target z ≡ true) f (same_text_refl q.slice.target))),
      ))

  all_apart : (before os : List OwnedSlice) → AreKeptSlices p before os → EachAfter (λ b o. Each (λ q. OwnedApart q o) b) before os
  all_apart before [] h = tt
  all_apart before (o ∷ os) h = (apart_before before o h.0, all_apart (before ++ o ∷ []) os h.1)

-- of the slices of a file those of a module
owned_pairs : (m owner : Text) (ss : List SliceTree) → Pairwise OwnedApart (map (owned owner) ss) → Pairwise SlicesApart ss
owned_pairs m owner [] h = tt
owned_pairs m owner (s ∷ ss) h =
    (each_mono _ (SlicesApart s) ss (λ t a (d : OwnedApart (owned owner s) (owned owner t)). (d.0, d.1 refl)) (each_of_map (OwnedApart (owned owner s)) (owned owner) ss h.0), owned_pairs m owner ss h.1)

module_pairs : (xs : List ExtensionTree) (m : Text) → Pairwise OwnedApart (all_slices xs) → Pairwise SlicesApart (slices_from xs m)
module_pairs [] m h = tt
module_pairs (x ∷ xs) m h = by_owner (same_text x.of_module m) refl (module_pairs xs m (pairs_right OwnedApart (map (owned x.of_module) x.slices) (all_slices xs) h))
  where
    by_owner : (b : Bool) → same_text x.of_module m ≡ b → Pairwise SlicesApart (slices_from xs m) → Pairwise SlicesApart (if b then x.slices ++ slices_from xs m else slices_from xs m)
    by_owner false e more = more
    by_owner true e more =
        pairs_join SlicesApart x.slices (slices_from xs m) (owned_pairs m x.of_module x.slices (pairs_left OwnedApart (map (owned x.of_module) x.slices) (all_slices xs) h)) more
        (each_all (λ s. Each (SlicesApart s) (slices_from xs m)) x.slices (λ s a. each_all (SlicesApart s) (slices_from xs m) (λ t b. one s t a b)))
      where
        across : Each (λ s. Each (OwnedApart (owned x.of_module s)) (all_slices xs)) x.slices
        across = each_of_map (λ o. Each (OwnedApart o) (all_slices xs)) (owned x.of_module) x.slices (pairs_across OwnedApart (map (owned x.of_module) x.slices) (all_slices xs) h)

        one : (s t : SliceTree) → Among x.slices s → Among (slices_from xs m) t → SlicesApart s t
        one s t a b =
            let d : OwnedApart (owned x.of_module s) (owned m t) =
            each_at (OwnedApart (owned x.of_module s)) (all_slices xs) (owned m t) (each_at (λ s. Each (OwnedApart (owned x.of_module s)) (all_slices xs)) x.slices s across a) (slice_in_file xs m t b) in
            (d.0, d.1 (same_text_equal x.of_module m e))

module _ (p : ProgramTree) (i : InstructionTree) (kept : AllKept (broken_at p) (item_sites i)) where
  -- slices of a module have other names and other variables
  pub slices_apart : (m : Text) → Pairwise SlicesApart (slices_of i m)
  slices_apart m = module_pairs i.extensions m (pairs_after OwnedApart [] (all_slices i.extensions) (all_apart p [] (all_slices i.extensions) (extensions_kept p [] i.extensions kept))).1

  after : (m : Text) (s : SliceTree) → Among (slices_of i m) s → StandsAfter p [] (owned m s)
  after m s a = kept_at p [] (all_slices i.extensions) (owned m s) (extensions_kept p [] i.extensions kept) (slice_in_file i.extensions m s a)

  -- the names of added variables are none of the program's
  pub own_new : (m : Text) (s : SliceTree) → Among (slices_of i m) s → is_program_name p (own_name s.target) ≡ false
  own_new m s a =
      let here : StandsAfter p [] (owned m s) = after m s a in
      (free p (states_before here.before) [] (own_name s.target) (slice_facts p here.before (owned m s) here.kept.0).own).program

  pub mode_new : (m : Text) (s : SliceTree) → Among (slices_of i m) s → is_program_name p (mode_variable s.name) ≡ false
  mode_new m s a =
      let here : StandsAfter p [] (owned m s) = after m s a in
      (free p (states_before here.before) (owns_before (here.before ++ owned m s ∷ [])) (mode_variable s.name) (slice_facts p here.before (owned m s) here.kept.0).switch).program
