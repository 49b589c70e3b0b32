-- Where no item breaks a rule, and the rest is judged, a program and instructions are such as a weave takes.
use Rattle.std.proofs.Common.{◌≡◌, ◌≢◌, ◌⊎◌, inl, inr, Bool, true, false, ◌&&◌, List, [], ◌∷◌, ◌++◌, Some, refl, sym, ◌∙◌, ap, subst}
use Rattle.smv_language.specs.Language.{Text, DeclaredTree, ModuleTree, ProgramTree, same_text, Place, state, a_variable, find_module, kind_in, kind_at, IsInstance, opposite}
use Rattle.smv_language.proofs.ValueLaws.{same_text_refl}
use Rattle.fault_instructions.specs.Instructions.{ModeTree, SliceTree, InstructionTree, slices_of}
use Rattle.fault_instructions.specs.AddedNames.{ModeState, own_name, mode_variable, mode_symbol}
use Rattle.fault_instructions.specs.Types.{IsKnown}
use Rattle.fault_instructions.specs.KindTypes.{type_of_kind}
use Rattle.fault_instructions.specs.Weavable.{Among, IsLawfulMode, IsLawfulSlice, IsWeavable, SymbolsAreFree, IsAllowed}
use Rattle.fault_instructions.proofs.AmongLaws.{each_all, each_at}
use Rattle.fault_instructions.proofs.FoundModules.{found_among}
use Rattle.fault_rules.specs.Sites.{OwnedSlice, owned, item_sites}
use Rattle.fault_rules.specs.Rules.{target_kind, is_state_variable, state_names, states_before, owns_before, hides_symbol, broken_at}
use Rattle.fault_rules.specs.FirstBroken.{AllKept}
use Rattle.fault_rules.specs.Prerequisites.{IsJudged, IsJudgedMode}
use Rattle.fault_rules.proofs.ProgramNames.{any_false, undeclared_there, no_symbol}
use Rattle.fault_rules.proofs.KeptItems.{among_left, among_right, among_map, among_flat, all_slices, slice_in_file, IsKeptSlice, StandsAfter, kept_at, two_slices, extensions_kept, ModeAfter, mode_at, two_modes}
use Rattle.fault_rules.proofs.KeptFacts.{SliceKept, slice_facts, ModeKept, mode_facts, IsFree, free, state_among, symbol_kept, not_nominal, state_type, finite_type, free_symbols, effect_allowed, instance_found}

abbrev slice_of : OwnedSlice → SliceTree
slice_of o = o.slice

same_twice : (x y : Text) → x ≡ y → same_text x y ≡ false → ⊥
same_twice x y e h = let t : same_text x x ≡ true = same_text_refl x in let u : same_text x x ≡ false = subst (λ z. same_text x z ≡ false) (sym e) h in cc

pub both_false : (a b : Bool) → (a && b) ≡ false → a ≡ true → b ≡ true → ⊥
both_false true true h e f = cc
both_false true false h e f = cc
both_false false b h e f = cc

module _ (p : ProgramTree) (i : InstructionTree) (judged : IsJudged p i) (kept : AllKept (broken_at p) (item_sites i)) where
  after : (m : Text) (s : SliceTree) → Among (slices_of i m) s → StandsAfter p [] (owned m s)
  after m s a = kept_at p [] (all_slices i.extensions) (owned m s) (extensions_kept p [] i.extensions kept) (slice_in_file i.extensions m s a)

  two : (m : Text) (s t : SliceTree) → Among (slices_of i m) s → Among (slices_of i m) t →
      (owned m s ≡ owned m t) ⊎ (StandsAfter p (owned m s ∷ []) (owned m t) ⊎ StandsAfter p (owned m t ∷ []) (owned m s))
  two m s t a b =
      two_slices p [] (all_slices i.extensions) (owned m s) (owned m t) (extensions_kept p [] i.extensions kept) (slice_in_file i.extensions m s a) (slice_in_file i.extensions m t b)

  -- of two slices with one name none stands after the other
  no_name_again : (m : Text) (s t : SliceTree) → s.name ≡ t.name → StandsAfter p (owned m s ∷ []) (owned m t) → ⊥
  no_name_again m s t e after =
      same_twice s.name t.name e (any_false (λ o. same_text o.slice.name t.name) after.before (owned m s) (slice_facts p after.before (owned m t) after.kept.0).name (after.all (owned m s) (inl refl)))

  no_target_again : (m : Text) (s t : SliceTree) → s.target ≡ t.target → StandsAfter p (owned m s ∷ []) (owned m t) → ⊥
  no_target_again m s t e after =
      both_false (same_text m m) (same_text s.target t.target)
      (any_false (λ b. same_text b.owner m && same_text b.slice.target t.target) after.before (owned m s) (slice_facts p after.before (owned m t) after.kept.0).target (after.all (owned m s) (inl refl)))
      (same_text_refl m) (subst (λ x. same_text s.target x ≡ true) e (same_text_refl s.target))

  names_differ : (m : Text) (s t : SliceTree) → Among (slices_of i m) s → Among (slices_of i m) t → s.name ≡ t.name → s ≡ t
  names_differ m s t a b e = go (two m s t a b)
    where
      go : (owned m s ≡ owned m t) ⊎ (StandsAfter p (owned m s ∷ []) (owned m t) ⊎ StandsAfter p (owned m t ∷ []) (owned m s)) → s ≡ t
      go (inl same) = ap slice_of same
      go (inr (inl after)) = absurd (no_name_again m s t e after)
      go (inr (inr after)) = absurd (no_name_again m t s (sym e) after)

  targets_differ : (m : Text) (s t : SliceTree) → Among (slices_of i m) s → Among (slices_of i m) t → s.target ≡ t.target → s ≡ t
  targets_differ m s t a b e = go (two m s t a b)
    where
      go : (owned m s ≡ owned m t) ⊎ (StandsAfter p (owned m s ∷ []) (owned m t) ⊎ StandsAfter p (owned m t ∷ []) (owned m s)) → s ≡ t
      go (inl same) = ap slice_of same
      go (inr (inl after)) = absurd (no_target_again m s t e after)
      go (inr (inr after)) = absurd (no_target_again m t s (sym e) after)

  -- a symbol of a slice is among the names before a slice after it
  symbol_before : (m : Text) (s : SliceTree) (st : ModeState) (before : List OwnedSlice) → IsKnown s st → Among before (owned m s) → Among (states_before before) (mode_symbol s.name st)
  symbol_before m s st before known a = among_flat (λ o. state_names o.slice.name o.slice.modes) before (owned m s) (mode_symbol s.name st) a (state_among s st known)

  switch_before : (m : Text) (t : SliceTree) (before : List OwnedSlice) → Among before (owned m t) → Among (states_before before) (mode_variable t.name)
  switch_before m t before a = among_flat (λ o. state_names o.slice.name o.slice.modes) before (owned m t) (mode_variable t.name) a (inl refl)

  own_before : (m : Text) (t : SliceTree) (before : List OwnedSlice) → Among before (owned m t) → Among (owns_before before) (own_name t.target)
  own_before m t before a = among_map (λ o. own_name o.slice.target) before (owned m t) a

  own_free : (m : Text) (t : SliceTree) (before : List OwnedSlice) → IsKeptSlice p before (owned m t) → IsFree p (states_before before) [] (own_name t.target)
  own_free m t before k = free p (states_before before) [] (own_name t.target) (slice_facts p before (owned m t) k.0).own

  switch_free : (m : Text) (t : SliceTree) (before : List OwnedSlice) → IsKeptSlice p before (owned m t) → IsFree p (states_before before) (owns_before (before ++ owned m t ∷ [])) (mode_variable t.name)
  switch_free m t before k = free p (states_before before) (owns_before (before ++ owned m t ∷ [])) (mode_variable t.name) (slice_facts p before (owned m t) k.0).switch

  symbol_not_own : (m : Text) (s t : SliceTree) (st : ModeState) → Among (slices_of i m) s → Among (slices_of i m) t → IsKnown s st → mode_symbol s.name st ≢ own_name t.target
  symbol_not_own m s t st a b known e = go (two m s t a b)
    where
      own_in : (o : OwnedSlice) → owned m s ≡ o → (before : List OwnedSlice) → Among (owns_before (before ++ owned m s ∷ [])) (own_name o.slice.target)
      own_in o same before = subst (λ q. Among (owns_before (before ++ owned m s ∷ [])) (own_name q.slice.target)) same (own_before m s (before ++ owned m s ∷ []) (among_right before (owned m s ∷ []) (owned m s) (inl refl)))

      go : (owned m s ≡ owned m t) ⊎ (StandsAfter p (owned m s ∷ []) (owned m t) ⊎ StandsAfter p (owned m t ∷ []) (owned m s)) → ⊥
      go (inl same) =
          let here : StandsAfter p [] (owned m s) = after m s a in
          (symbol_kept p here.before (owned m s) st here.kept known).owns_not (subst (λ x. Among (owns_before (here.before ++ owned m s ∷ [])) x) (sym e) (own_in (owned m t) same here.before))
      go (inr (inl later)) =
          (own_free m t later.before later.kept).states_not (subst (λ x. Among (states_before later.before) x) e (symbol_before m s st later.before known (later.all (owned m s) (inl refl))))
      go (inr (inr later)) =
          (symbol_kept p later.before (owned m s) st later.kept known).owns_not
          (subst (λ x. Among (owns_before (later.before ++ owned m s ∷ [])) x) (sym e)
          (own_before m t (later.before ++ owned m s ∷ []) (among_left later.before (owned m s ∷ []) (owned m t) (later.all (owned m t) (inl refl)))))

  symbol_not_mode : (m : Text) (s t : SliceTree) (st : ModeState) → Among (slices_of i m) s → Among (slices_of i m) t → IsKnown s st → mode_symbol s.name st ≢ mode_variable t.name
  symbol_not_mode m s t st a b known e = go (two m s t a b)
    where
      go : (owned m s ≡ owned m t) ⊎ (StandsAfter p (owned m s ∷ []) (owned m t) ⊎ StandsAfter p (owned m t ∷ []) (owned m s)) → ⊥
      go (inl same) =
          let here : StandsAfter p [] (owned m s) = after m s a in
          (symbol_kept p here.before (owned m s) st here.kept known).switch_not (e ∙ ap (λ o. mode_variable (slice_of o).name) (sym same))
      go (inr (inl later)) =
          (switch_free m t later.before later.kept).states_not (subst (λ x. Among (states_before later.before) x) e (symbol_before m s st later.before known (later.all (owned m s) (inl refl))))
      go (inr (inr later)) =
          (symbol_kept p later.before (owned m s) st later.kept known).states_not
          (subst (λ x. Among (states_before later.before) x) (sym e) (switch_before m t later.before (later.all (owned m t) (inl refl))))

  module _ (at : Place) (m : ModuleTree) (s : SliceTree) (here : IsInstance p at m) (a : Among (slices_of i m.name) s) where
    found : find_module p m.name ≡ Some m
    found = instance_found p at m here

    in_program : Among p m
    in_program = found_among p m.name m found

    place : StandsAfter p [] (owned m.name s)
    place = after m.name s a

    facts : SliceKept p place.before (owned m.name s)
    facts = slice_facts p place.before (owned m.name s) place.kept.0

    kind_is : target_kind p (owned m.name s) ≡ kind_in m s.target
    kind_is = ap (λ o. kind_at o s.target) found

    typed : (type : DeclaredTree) × (kind_in m s.target ≡ a_variable state type)
    typed = state_type (kind_in m s.target) (subst (λ k. opposite (is_state_variable k) ≡ false) kind_is facts.is_state)

    type_is : type_of_kind (target_kind p (owned m.name s)) ≡ typed.0
    type_is = ap type_of_kind (kind_is ∙ typed.1)

    lawful_mode : (mode : ModeTree) → Among s.modes mode → IsLawfulMode p at m typed.0 mode
    lawful_mode mode b =
        let stands : ModeAfter p place.before (owned m.name s) [] mode = mode_at p place.before (owned m.name s) [] s.modes mode place.kept.1 b in
        let of_mode : ModeKept p place.before (owned m.name s) stands.earlier mode = mode_facts p place.before (owned m.name s) stands.earlier mode stands.kept in
        let told : IsJudgedMode p at m mode = each_at (IsJudgedMode p at m) s.modes mode (judged.modes at m s here a) b in
        record {
          not_nominal = not_nominal p place.before (owned m.name s) stands.earlier mode of_mode;
          effect_allowed = subst (λ type. IsAllowed p at m mode.effect type) type_is (effect_allowed p at m mode.effect (type_of_kind (target_kind p (owned m.name s))) of_mode.effect told.effect);
          guard_lawful = told.guard;
        }

    no_mode_again : (x y : ModeTree) → x.name ≡ y.name → ModeAfter p place.before (owned m.name s) (x ∷ []) y → ⊥
    no_mode_again x y e later =
        same_twice x.name y.name e (any_false (λ n. same_text n.name y.name) later.earlier x (mode_facts p place.before (owned m.name s) later.earlier y later.kept).name (later.all x (inl refl)))

    modes_differ : (x y : ModeTree) → Among s.modes x → Among s.modes y → x.name ≡ y.name → x ≡ y
    modes_differ x y b c e = go (two_modes p place.before (owned m.name s) [] s.modes x y place.kept.1 b c)
      where
        go : (x ≡ y) ⊎ (ModeAfter p place.before (owned m.name s) (x ∷ []) y ⊎ ModeAfter p place.before (owned m.name s) (y ∷ []) x) → x ≡ y
        go (inl same) = same
        go (inr (inl later)) = absurd (no_mode_again x y e later)
        go (inr (inr later)) = absurd (no_mode_again y x (sym e) later)

    hidden_none : SymbolsAreFree m typed.0
    hidden_none =
        free_symbols m typed.0 (subst (λ type. hides_symbol (Some m) type ≡ false) type_is (subst (λ o. hides_symbol o (type_of_kind (target_kind p (owned m.name s))) ≡ false) found facts.symbols))

    lawful_slice : IsLawfulSlice p at m s
    lawful_slice = record {
      type = typed.0;
      target_kind = typed.1;
      finite = finite_type s.target state typed.0 m typed.1;
      uniform = judged.uniform at m s.target state typed.0 here typed.1;
      symbols_free = hidden_none;
      own_new = undeclared_there (own_name s.target) p m (own_free m.name s place.before place.kept).program in_program;
      own_no_symbol = no_symbol (own_name s.target) p (own_free m.name s place.before place.kept).program;
      mode_new = undeclared_there (mode_variable s.name) p m (switch_free m.name s place.before place.kept).program in_program;
      mode_no_symbol = no_symbol (mode_variable s.name) p (switch_free m.name s place.before place.kept).program;
      symbol_new = λ st known. undeclared_there (mode_symbol s.name st) p m (symbol_kept p place.before (owned m.name s) st place.kept known).program in_program;
      modes = each_all (IsLawfulMode p at m typed.0) s.modes lawful_mode;
      modes_differ = modes_differ;
    }

  pub weavable : IsWeavable p i
  weavable = record {
    instances = judged.instances;
    slices = λ at m s here a. lawful_slice at m s here a;
    targets_differ = λ m s t a b e. targets_differ m.name s t a b e;
    names_differ = λ m s t a b e. names_differ m.name s t a b e;
    symbol_not_own = λ m s t st a b known. symbol_not_own m.name s t st a b known;
    symbol_not_mode = λ m s t st a b known. symbol_not_mode m.name s t st a b known;
  }
