-- What the added names are and give in the woven program.
use Rattle.std.proofs.Common.{◌≡◌, ◌≢◌, inl, inr, ℕ, zero, suc, ◌<◌, arith, Bool, true, false, List, [], ◌∷◌, ◌++◌, length, Some, None, refl, sym, ◌∙◌, ap, subst}
use Rattle.std.specs.Prelude.{if◌then◌else◌, map, flat_map, Contains, slice_index_or, codes}
use Rattle.std.proofs.lemmas.List.{append_cancel_right}
use Rattle.std.proofs.lemmas.List.Elements.{Contains-append_right}
use Rattle.smv_language.specs.declared.program.Member.TheVariants as member
use Rattle.smv_language.specs.Language.{Text, SectionTree, var, ivar, frozen, define, constants, assign, init, invar, trans, ModuleTree, ProgramTree, same_text, is_among, state, a_variable, kind_declared, kind_in_sections, kind_in, is_symbol, is_symbol_of_sections, is_symbol_of_members, is_symbol_of_decls, AtSome}
use Rattle.smv_language.proofs.ValueLaws.{same_text_refl}
use Rattle.fault_instructions.specs.Instructions.{ModeTree, SliceTree, InstructionTree, is_target, is_affected}
use Rattle.fault_instructions.specs.AddedNames.{ModeState}
use Rattle.fault_instructions.specs.AddedNames.{own_name, mode_variable, mode_symbol}
use Rattle.fault_weave.specs.WovenProgram.{mode_type, slice_sections, woven_section, added_sections, woven}
use Rattle.fault_instructions.specs.KindTypes.{type_of_kind}
use Rattle.fault_instructions.specs.Weavable.{Among}
use Rattle.fault_instructions.specs.Types.{IsKnown}
use Rattle.fault_weave.proofs.WovenKinds.{slice_kind}
use Rattle.fault_weave.proofs.Declared.{or_true}
use Rattle.smv_language.proofs.OneTree.{same_text_equal}

-- the two ways to say that a list has a member
pub contains_among : {A : Type 0} (xs : List A) (x : A) → Among xs x → Contains xs x
contains_among [] x a = absurd a
contains_among (y ∷ ys) x (inl e) = (0, omega arith, e)
contains_among (y ∷ ys) x (inr a) = Contains-append_right (y ∷ []) ys x (contains_among ys x a)

among_at : {A : Type 0} (xs : List A) (x : A) (k : ℕ) → k < length xs → slice_index_or xs k x ≡ x → Among xs x
among_at [] x k lt e = absurd (omega arith)
among_at (y ∷ ys) x zero lt e = inl e
among_at (y ∷ ys) x (suc k) lt e = inr (among_at ys x k (omega arith) e)

pub among_contains : {A : Type 0} (xs : List A) (x : A) → Contains xs x → Among xs x
among_contains xs x h = among_at xs x h.0 h.1 h.2

pub own_name_same : (x y : Text) → own_name x ≡ own_name y → x ≡ y
own_name_same x y e = append_cancel_right x y (codes "#nominal") e

pub mode_variable_same : (x y : Text) → mode_variable x ≡ mode_variable y → x ≡ y
mode_variable_same x y e = append_cancel_right x y (codes "#mode") e

-- an affected variable is the target of a slice
pub affected_slice : (ss : List SliceTree) (x : Text) → is_target ss x ≡ true → (s : SliceTree) × Among ss s × (s.target ≡ x)
affected_slice [] x h = cc
affected_slice (s ∷ ss) x h = go (same_text s.target x) refl h (affected_slice ss x)
  where
    go : (b : Bool) → same_text s.target x ≡ b → (if b then true else is_target ss x) ≡ true →
        (is_target ss x ≡ true → (s : SliceTree) × Among ss s × (s.target ≡ x)) → (t : SliceTree) × Among (s ∷ ss) t × (t.target ≡ x)
    go true e h more = (s, inl refl, same_text_equal _ _ e)
    go false e h more = let found : (s : SliceTree) × Among ss s × (s.target ≡ x) = more h in (found.0, inr found.1, found.2)

pub target_affected : (ss : List SliceTree) (s : SliceTree) → Among ss s → is_target ss s.target ≡ true
target_affected [] s a = absurd a
target_affected (t ∷ ss) s (inl e) = rw (subst (λ u. same_text t.target u.target ≡ true) e (same_text_refl t.target)) refl
target_affected (t ∷ ss) s (inr a) = go (same_text t.target s.target) (target_affected ss s a)
  where
    go : (b : Bool) → is_target ss s.target ≡ true → (if b then true else is_target ss s.target) ≡ true
    go true h = refl
    go false h = h

-- kinds of the added names
pub own_kind : (m : ModuleTree) (ss : List SliceTree) (s : SliceTree) → Among ss s →
    ((t : SliceTree) → Among ss t → s.target ≡ t.target → s ≡ t) → ((t : SliceTree) → Among ss t → own_name s.target ≢ mode_variable t.name) →
    kind_in_sections (flat_map (slice_sections m) ss) (own_name s.target) ≡ kind_declared state (type_of_kind (kind_in m s.target))
own_kind m [] s a same other = absurd a
own_kind m (t ∷ ss) s a same other =
    slice_kind m t (flat_map (slice_sections m) ss) (own_name s.target)
    ∙ go (same_text (own_name t.target) (own_name s.target)) refl (same_text (mode_variable t.name) (own_name s.target)) refl a
    (λ b. own_kind m ss s b (λ u c. same u (inr c)) (λ u c. other u (inr c)))
  where
    go : (b : Bool) → same_text (own_name t.target) (own_name s.target) ≡ b → (c : Bool) → same_text (mode_variable t.name) (own_name s.target) ≡ c → Among (t ∷ ss) s →
        (Among ss s → kind_in_sections (flat_map (slice_sections m) ss) (own_name s.target) ≡ kind_declared state (type_of_kind (kind_in m s.target))) →
        (if b then kind_declared state (type_of_kind (kind_in m t.target)) else (if c then a_variable state (mode_type t) else kind_in_sections (flat_map (slice_sections m) ss) (own_name s.target)))
        ≡ kind_declared state (type_of_kind (kind_in m s.target))
    go true e c f a more = ap (λ x. kind_declared state (type_of_kind (kind_in m x))) (own_name_same _ _ (same_text_equal _ _ e))
    go false e true f a more = absurd (other t (inl refl) (sym (same_text_equal _ _ f)))
    go false e false f (inl is) more =
        let equal : same_text (own_name t.target) (own_name s.target) ≡ true = subst (λ u. same_text (own_name t.target) (own_name u.target) ≡ true) is (same_text_refl (own_name t.target)) in cc
    go false e false f (inr b) more = more b

pub mode_kind : (m : ModuleTree) (ss : List SliceTree) (s : SliceTree) → Among ss s →
    ((t : SliceTree) → Among ss t → t.name ≡ s.name → t ≡ s) → ((t : SliceTree) → Among ss t → own_name t.target ≢ mode_variable s.name) →
    kind_in_sections (flat_map (slice_sections m) ss) (mode_variable s.name) ≡ a_variable state (mode_type s)
mode_kind m [] s a same other = absurd a
mode_kind m (t ∷ ss) s a same other =
    slice_kind m t (flat_map (slice_sections m) ss) (mode_variable s.name)
    ∙ go (same_text (own_name t.target) (mode_variable s.name)) refl (same_text (mode_variable t.name) (mode_variable s.name)) refl a
    (λ b. mode_kind m ss s b (λ u c. same u (inr c)) (λ u c. other u (inr c)))
  where
    go : (b : Bool) → same_text (own_name t.target) (mode_variable s.name) ≡ b → (c : Bool) → same_text (mode_variable t.name) (mode_variable s.name) ≡ c → Among (t ∷ ss) s →
        (Among ss s → kind_in_sections (flat_map (slice_sections m) ss) (mode_variable s.name) ≡ a_variable state (mode_type s)) →
        (if b then kind_declared state (type_of_kind (kind_in m t.target)) else (if c then a_variable state (mode_type t) else kind_in_sections (flat_map (slice_sections m) ss) (mode_variable s.name)))
        ≡ a_variable state (mode_type s)
    go true e c f a more = absurd (other t (inl refl) (same_text_equal _ _ e))
    go false e true f a more = ap (λ u. a_variable state (mode_type u)) (same t (inl refl) (mode_variable_same _ _ (same_text_equal _ _ f)))
    go false e false f (inl is) more =
        let equal : same_text (mode_variable t.name) (mode_variable s.name) ≡ true = subst (λ u. same_text (mode_variable t.name) (mode_variable u.name) ≡ true) is (same_text_refl (mode_variable t.name)) in cc
    go false e false f (inr b) more = more b

sections_more : (ss ts : List SectionTree) (x : Text) → is_symbol_of_sections ts x ≡ true → is_symbol_of_sections (ss ++ ts) x ≡ true
sections_more [] ts x h = h
sections_more (var ds ∷ ss) ts x h = or_true (is_symbol_of_decls ds x) _ (inr (sections_more ss ts x h))
sections_more (ivar ds ∷ ss) ts x h = or_true (is_symbol_of_decls ds x) _ (inr (sections_more ss ts x h))
sections_more (frozen ds ∷ ss) ts x h = or_true (is_symbol_of_decls ds x) _ (inr (sections_more ss ts x h))
sections_more (define ds ∷ ss) ts x h = sections_more ss ts x h
sections_more (constants xs ∷ ss) ts x h = or_true (is_among xs x) _ (inr (sections_more ss ts x h))
sections_more (assign xs ∷ ss) ts x h = sections_more ss ts x h
sections_more (init e ∷ ss) ts x h = sections_more ss ts x h
sections_more (invar e ∷ ss) ts x h = sections_more ss ts x h
sections_more (trans e ∷ ss) ts x h = sections_more ss ts x h

modes_symbol : (s : Text) (ms : List ModeTree) (n : Text) → AtSome (λ m. m.name ≡ n) ms →
    is_symbol_of_members (map (λ m. member.Symbol (mode_symbol s (Some m.name))) ms) (mode_symbol s (Some n)) ≡ true
modes_symbol s [] n a = absurd a
modes_symbol s (m ∷ ms) n (inl e) =
    or_true (same_text (mode_symbol s (Some m.name)) (mode_symbol s (Some n))) _ (inl (subst (λ k. same_text (mode_symbol s (Some m.name)) (mode_symbol s (Some k)) ≡ true) e (same_text_refl (mode_symbol s (Some m.name)))))
modes_symbol s (m ∷ ms) n (inr a) = or_true (same_text (mode_symbol s (Some m.name)) (mode_symbol s (Some n))) _ (inr (modes_symbol s ms n a))

pub type_symbol : (s : SliceTree) (st : ModeState) → IsKnown s st → is_symbol_of_members (member.Symbol (mode_symbol s.name None) ∷ map (λ m. member.Symbol (mode_symbol s.name (Some m.name))) s.modes) (mode_symbol s.name st) ≡ true
type_symbol s None known = or_true (same_text (mode_symbol s.name None) (mode_symbol s.name None)) _ (inl (same_text_refl (mode_symbol s.name None)))
type_symbol s (Some n) known = or_true (same_text (mode_symbol s.name None) (mode_symbol s.name (Some n))) _ (inr (modes_symbol s.name s.modes n known))

pub slices_symbol : (m : ModuleTree) (ss : List SliceTree) (s : SliceTree) (st : ModeState) → Among ss s → IsKnown s st → is_symbol_of_sections (flat_map (slice_sections m) ss) (mode_symbol s.name st) ≡ true
slices_symbol m [] s st a known = absurd a
slices_symbol m (t ∷ ss) s st (inl e) known =
    subst (λ u. IsKnown u st → is_symbol_of_sections (flat_map (slice_sections m) (t ∷ ss)) (mode_symbol u.name st) ≡ true) e
    (λ k. or_true _ _ (inl (or_true _ _ (inr (or_true _ _ (inl (type_symbol t st k))))))) known
slices_symbol m (t ∷ ss) s st (inr a) known = sections_more (slice_sections m t) (flat_map (slice_sections m) ss) (mode_symbol s.name st) (slices_symbol m ss s st a known)

pub woven_symbol : (q : ProgramTree) (i : InstructionTree) (m : ModuleTree) (x : Text) → Among q m → is_symbol_of_sections (added_sections i m) x ≡ true → is_symbol (woven q i) x ≡ true
woven_symbol [] i m x a h = absurd a
woven_symbol (n ∷ q) i m x (inl e) h =
    or_true _ _ (inl (sections_more (map (woven_section (is_affected i n.name)) n.sections) (added_sections i n) x (subst (λ k. is_symbol_of_sections (added_sections i k) x ≡ true) (sym e) h)))
woven_symbol (n ∷ q) i m x (inr a) h = or_true _ _ (inr (woven_symbol q i m x a h))
