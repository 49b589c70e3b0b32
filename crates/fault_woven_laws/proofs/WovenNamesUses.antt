-- The guards of modes and what they follow, at each instance of their module.
use Rattle.std.proofs.Common.{◌≡◌, ◌⊎◌, ℕ, suc, Bool, true, false, List, [], ◌∷◌, ◌++◌, map, Some, refl, subst}
use Rattle.std.specs.Prelude.{slice_get, if◌then◌else◌}
use Rattle.smv_language.specs.Language.{Text, ProgramTree, same_text, Place, Each, FlatInstance}
use Rattle.smv_language.proofs.ValueLaws.{same_text_refl, same_text_equal}
use Rattle.smv_flat_laws.specs.Items.{instances_of}
use Rattle.smv_flat_laws.specs.Rules.{Rule}
use Rattle.smv_flat_laws.proofs.Reaches.{each_left, each_right}
use Rattle.smv_flat_laws.proofs.Conditions.{each_at, each_join, each_flat}
use Rattle.fault_instructions.specs.Instructions.{ModeTree, SliceTree, ExtensionTree, InstructionTree, slices_from, slices_of}
use Rattle.fault_rules.specs.Sites.{OwnedSlice, owned, Site, an_extension, a_slice, a_mode, mode_sites, slice_sites, extension_sites, item_sites}
use Rattle.fault_extend_laws.specs.Uses.{use_of_site, uses_from, uses_at, uses}
use Rattle.fault_extend_laws.specs.Expressions.{followed, SomeBreaks, KeepsNames}

-- the guard and what is followed break no rule of names at the instance
abbrev pub KeepsMode : ProgramTree → Place → ModeTree → Type 0
KeepsMode p at mode = (r : Rule) → SomeBreaks p at false (followed mode.effect) r ⊎ SomeBreaks p at true mode.guard r → ⊥

module _ (p : ProgramTree) (at : FlatInstance) where
  abbrev SiteKept : Site → Type 0
  SiteKept (an_extension m) = Unit {0}
  SiteKept (a_slice before o) = Unit {0}
  SiteKept (a_mode before o earlier m) = o.owner ≡ at.module_name → KeepsMode p at.place m

  abbrev SlicesKept : List SliceTree → Type 0
  SlicesKept ss = Each (λ s. Each (KeepsMode p at.place) s.modes) ss

  sites_kept : (n : ℕ) (ss : List Site) → Each (KeepsNames p) (uses_from p at n ss) → Each SiteKept ss
  sites_kept n [] h = tt
  sites_kept n (an_extension m ∷ ss) h = (tt, sites_kept (suc n) ss h)
  sites_kept n (a_slice before o ∷ ss) h = (tt, sites_kept (suc n) ss h)
  sites_kept n (a_mode before o earlier m ∷ ss) h = (
    (λ e. by_owner (same_text o.owner at.module_name) refl (subst (λ y. same_text o.owner y ≡ true) e (same_text_refl o.owner)) (each_left (KeepsNames p) (use_of_site p at n (a_mode before o earlier m)) (uses_from p at (suc n) ss) h)),
    sites_kept (suc n) ss (each_right (KeepsNames p) (use_of_site p at n (a_mode before o earlier m)) (uses_from p at (suc n) ss) h),
  )
    where
      by_owner : (b : Bool) → same_text o.owner at.module_name ≡ b → same_text o.owner at.module_name ≡ true → Each (KeepsNames p) (use_of_site p at n (a_mode before o earlier m)) → KeepsMode p at.place m
      by_owner true t e k = (rw t at k).0
      by_owner false t e k = let bad : true ≡ false = rw e at t in cc

  modes_kept : (before : List OwnedSlice) (o : OwnedSlice) (earlier ms : List ModeTree) → o.owner ≡ at.module_name → Each SiteKept (mode_sites before o earlier ms) → Each (KeepsMode p at.place) ms
  modes_kept before o earlier [] e h = tt
  modes_kept before o earlier (m ∷ ms) e h = (h.0 e, modes_kept before o (earlier ++ m ∷ []) ms e h.1)

  slices_kept : (before : List OwnedSlice) (owner : Text) (ss : List SliceTree) → owner ≡ at.module_name → Each SiteKept (slice_sites before owner ss) → SlicesKept ss
  slices_kept before owner [] e h = tt
  slices_kept before owner (s ∷ ss) e h = (
    modes_kept before (owned owner s) [] s.modes e (each_left SiteKept (mode_sites before (owned owner s) [] s.modes) (slice_sites (before ++ owned owner s ∷ []) owner ss) h.1),
    slices_kept (before ++ owned owner s ∷ []) owner ss e (each_right SiteKept (mode_sites before (owned owner s) [] s.modes) (slice_sites (before ++ owned owner s ∷ []) owner ss) h.1),
  )

  extensions_kept : (before : List OwnedSlice) (xs : List ExtensionTree) → Each SiteKept (extension_sites before xs) → SlicesKept (slices_from xs at.module_name)
  extensions_kept before [] h = tt
  extensions_kept before (x ∷ xs) h =
      by_owner (same_text x.of_module at.module_name) refl
      (extensions_kept (before ++ map (owned x.of_module) x.slices) xs (each_right SiteKept (slice_sites before x.of_module x.slices) (extension_sites (before ++ map (owned x.of_module) x.slices) xs) h.1))
    where
      by_owner : (b : Bool) → same_text x.of_module at.module_name ≡ b → SlicesKept (slices_from xs at.module_name) → SlicesKept (if b then x.slices ++ slices_from xs at.module_name else slices_from xs at.module_name)
      by_owner true t more =
          each_join (λ s. Each (KeepsMode p at.place) s.modes) x.slices (slices_from xs at.module_name)
          (slices_kept before x.of_module x.slices (same_text_equal x.of_module at.module_name t) (each_left SiteKept (slice_sites before x.of_module x.slices) (extension_sites (before ++ map (owned x.of_module) x.slices) xs) h.1))
          more
      by_owner false t more = more

-- of the modes of an instance's module
pub uses_kept : (p : ProgramTree) (i : InstructionTree) → Each (KeepsNames p) (uses p i) → (k : ℕ) (at : FlatInstance) → slice_get (instances_of p) k ≡ Some at →
    Each (λ s. Each (KeepsMode p at.place) s.modes) (slices_of i at.module_name)
uses_kept p i h k at e =
    let here : Each (KeepsNames p) (uses_at p i at) = each_at (λ x. Each (KeepsNames p) (uses_at p i x)) (instances_of p) k at ((each_flat (KeepsNames p) (uses_at p i) (instances_of p)).0 h) e in
    extensions_kept p at [] i.extensions (sites_kept p at 1 (item_sites i) here)
