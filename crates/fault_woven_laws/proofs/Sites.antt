-- What the items of instructions say of a slice of a module and of its modes.
use Rattle.std.proofs.Common.{◌≡◌, ◌≢◌, ◌⊎◌, inl, inr, Bool, true, false, List, [], ◌∷◌, ◌++◌, map, flat_map, Some, None, refl, ap, subst}
use Rattle.std.specs.Prelude.{if◌then◌else◌, ◌||◌, codes}
use Rattle.smv_language.specs.declared.program.Member.{Member}
use Rattle.smv_language.specs.declared.program.Member.TheVariants as member
use Rattle.smv_language.specs.Language.{Text, ProgramTree, same_text, Each}
use Rattle.smv_language.proofs.ValueLaws.{same_text_equal, same_text_refl}
use Rattle.fault_instructions.specs.Instructions.{ModeTree, SliceTree, ExtensionTree, slices_from}
use Rattle.fault_instructions.specs.AddedNames.{mode_symbol}
use Rattle.fault_instructions.proofs.AddedNameLaws.{mode_symbol_same, nominal_symbol_same}
use Rattle.smv_type_laws.specs.ExpressionKinds.{symbol_class, mixed_enum, double_member, rule_if, unless_class, wide}
use Rattle.smv_type_laws.specs.DeclaredKinds.{member_kind, is_member_again, has_double, judged_declared}
use Rattle.fault_weave.specs.WovenProgram.{mode_type}
use Rattle.fault_instructions.specs.Weavable.{Among}
use Rattle.fault_rules.specs.Sites.{OwnedSlice, owned, Site, a_slice, a_mode, mode_sites, slice_sites, extension_sites}
use Rattle.fault_rules.specs.Rules.{broken_at}
use Rattle.fault_rules.specs.FirstBroken.{AllKept}
use Rattle.fault_rules.proofs.KeptItems.{among_left, among_right, among_either}
use Rattle.fault_rules.proofs.KeptFacts.{ModeKept, mode_facts}
use Rattle.fault_rules.proofs.ProgramNames.{any_false}
use Rattle.smv_flat_laws.proofs.Reaches.{each_left, each_right}
use Rattle.fault_woven_laws.proofs.Rightly.{none_joined}
use Rattle.std.proofs.lemmas.Bool.{or_from as or_none}
use Rattle.smv_language.proofs.BoolLaws.{not_both}

module _ (Q : Site → Type 0) where
  -- the item of the slice, and those of its modes
  pub record SliceItems (o : OwnedSlice) : Type 0 where
    pub before : List OwnedSlice
    pub slice : Q (a_slice before o)
    pub modes : Each Q (mode_sites before o [] o.slice.modes)

  among_slices : (before : List OwnedSlice) (owner : Text) (ss : List SliceTree) (s : SliceTree) → Each Q (slice_sites before owner ss) → Among ss s → SliceItems (owned owner s)
  among_slices before owner [] s h a = absurd a
  among_slices before owner (t ∷ ss) s h (inl e) =
      subst (λ u. SliceItems (owned owner u)) e (record { before = before; slice = h.0; modes = each_left Q (mode_sites before (owned owner t) [] t.modes) (slice_sites (before ++ owned owner t ∷ []) owner ss) h.1 })
  among_slices before owner (t ∷ ss) s h (inr a) =
      among_slices (before ++ owned owner t ∷ []) owner ss s (each_right Q (mode_sites before (owned owner t) [] t.modes) (slice_sites (before ++ owned owner t ∷ []) owner ss) h.1) a

  pub slice_items : (before : List OwnedSlice) (xs : List ExtensionTree) (m : Text) (s : SliceTree) → Each Q (extension_sites before xs) → Among (slices_from xs m) s → SliceItems (owned m s)
  slice_items before [] m s h a = absurd a
  slice_items before (x ∷ xs) m s h a =
      go (same_text x.of_module m) refl a
      (slice_items (before ++ map (owned x.of_module) x.slices) xs m s (each_right Q (slice_sites before x.of_module x.slices) (extension_sites (before ++ map (owned x.of_module) x.slices) xs) h.1))
    where
      either : x.of_module ≡ m → (Among (slices_from xs m) s → SliceItems (owned m s)) → Among x.slices s ⊎ Among (slices_from xs m) s → SliceItems (owned m s)
      either e more (inl b) =
          subst (λ o. SliceItems (owned o s)) e
          (among_slices before x.of_module x.slices s (each_left Q (slice_sites before x.of_module x.slices) (extension_sites (before ++ map (owned x.of_module) x.slices) xs) h.1) b)
      either e more (inr b) = more b

      go : (b : Bool) → same_text x.of_module m ≡ b → Among (if b then x.slices ++ slices_from xs m else slices_from xs m) s → (Among (slices_from xs m) s → SliceItems (owned m s)) → SliceItems (owned m s)
      go true t a more = either (same_text_equal x.of_module m t) more (among_either x.slices (slices_from xs m) s a)
      go false t a more = more a

  -- each mode has its item
  abbrev pub HasItem : List OwnedSlice → OwnedSlice → ModeTree → Type 0
  HasItem before o mode = (earlier : List ModeTree) × Q (a_mode before o earlier mode)

  pub mode_items : (before : List OwnedSlice) (o : OwnedSlice) (earlier ms : List ModeTree) → Each Q (mode_sites before o earlier ms) → Each (HasItem before o) ms
  mode_items before o earlier [] h = tt
  mode_items before o earlier (m ∷ ms) h = ((earlier, h.0), mode_items before o (earlier ++ m ∷ []) ms h.1)

-- The type of a mode breaks no rule: its symbols differ.
text_differs : (x y : Text) → x ≢ y → same_text x y ≡ false
text_differs x y h = by (same_text x y) refl
  where
    by : (b : Bool) → same_text x y ≡ b → same_text x y ≡ false
    by true e = absurd (h (same_text_equal x y e))
    by false e = e

abbrev symbol_of : Text → ModeTree → Member
symbol_of s m = member.Symbol (mode_symbol s (Some m.name))

module _ (p : ProgramTree) (before : List OwnedSlice) (o : OwnedSlice) where
  symbol_once : (m : ModeTree) (earlier ms : List ModeTree) → Among earlier m → AllKept (broken_at p) (mode_sites before o earlier ms) → is_member_again (symbol_of o.slice.name m) (map (symbol_of o.slice.name) ms) ≡ false
  symbol_once m earlier [] a kept = refl
  symbol_once m earlier (n ∷ ms) a kept =
      or_none (same_text (mode_symbol o.slice.name (Some m.name)) (mode_symbol o.slice.name (Some n.name))) (is_member_again (symbol_of o.slice.name m) (map (symbol_of o.slice.name) ms))
      (text_differs (mode_symbol o.slice.name (Some m.name)) (mode_symbol o.slice.name (Some n.name)) apart)
      (symbol_once m (earlier ++ n ∷ []) ms (among_left earlier (n ∷ []) m a) kept.1)
    where
      apart : mode_symbol o.slice.name (Some m.name) ≢ mode_symbol o.slice.name (Some n.name)
      apart e =
          let facts : ModeKept p before o earlier n = mode_facts p before o earlier n kept.0 in
          let other : same_text m.name n.name ≡ false = any_false (λ k. same_text k.name n.name) earlier m facts.name a in
          not_both (same_text m.name n.name) (subst (λ x. same_text m.name x ≡ true) (mode_symbol_same o.slice.name m.name n.name e) (same_text_refl m.name)) other

  no_double : (earlier ms : List ModeTree) → AllKept (broken_at p) (mode_sites before o earlier ms) → has_double (map (symbol_of o.slice.name) ms) ≡ false
  no_double earlier [] kept = refl
  no_double earlier (m ∷ ms) kept =
      or_none (is_member_again (symbol_of o.slice.name m) (map (symbol_of o.slice.name) ms)) (has_double (map (symbol_of o.slice.name) ms))
      (symbol_once m (earlier ++ m ∷ []) ms (among_right earlier (m ∷ []) m (inl refl)) kept.1) (no_double (earlier ++ m ∷ []) ms kept.1)

nominal_once : (s : Text) (ms : List ModeTree) → Each (λ m. m.name ≢ codes "nominal") ms → is_member_again (member.Symbol (mode_symbol s None)) (map (symbol_of s) ms) ≡ false
nominal_once s [] h = refl
nominal_once s (m ∷ ms) h =
    or_none (same_text (mode_symbol s None) (mode_symbol s (Some m.name))) (is_member_again (member.Symbol (mode_symbol s None)) (map (symbol_of s) ms))
    (text_differs (mode_symbol s None) (mode_symbol s (Some m.name)) (λ e. h.0 (nominal_symbol_same s m.name e))) (nominal_once s ms h.1)

symbols_alike : (s : Text) (ms : List ModeTree) → flat_map (unless_class symbol_class mixed_enum) (map member_kind (map (symbol_of s) ms)) ≡ []
symbols_alike s [] = refl
symbols_alike s (m ∷ ms) = symbols_alike s ms

symbols_small : (s : Text) (ms : List ModeTree) → flat_map (λ k. wide k.interval) (map member_kind (map (symbol_of s) ms)) ≡ []
symbols_small s [] = refl
symbols_small s (m ∷ ms) = symbols_small s ms

pub mode_type_right : (p : ProgramTree) (before : List OwnedSlice) (o : OwnedSlice) → AllKept (broken_at p) (mode_sites before o [] o.slice.modes) → Each (λ m. m.name ≢ codes "nominal") o.slice.modes →
    (judged_declared (mode_type o.slice)).broken ≡ []
mode_type_right p before o kept others =
    let s = o.slice.name in
    let ms = o.slice.modes in
    let alike = flat_map (unless_class symbol_class mixed_enum) (map member_kind (map (symbol_of s) ms)) in
    let double = is_member_again (member.Symbol (mode_symbol s None)) (map (symbol_of s) ms) || has_double (map (symbol_of s) ms) in
    let small = flat_map (λ k. wide k.interval) (map member_kind (map (symbol_of s) ms)) in
    none_joined (alike ++ (rule_if double double_member ++ small)) []
    (none_joined alike (rule_if double double_member ++ small) (symbols_alike s ms)
    (none_joined (rule_if double double_member) small
    (ap (λ b. rule_if b double_member) (or_none (is_member_again (member.Symbol (mode_symbol s None)) (map (symbol_of s) ms)) (has_double (map (symbol_of s) ms)) (nominal_once s ms others) (no_double p before o [] ms kept)))
    (symbols_small s ms))) refl
