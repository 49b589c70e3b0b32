-- What is known of two slices, or of two modes of a slice, where no item breaks a rule: one stands before the
-- other, or they are the same.
use Rattle.std.proofs.Common.{◌≡◌, ◌⊎◌, inl, inr, Bool, true, false, List, [], ◌∷◌, ◌++◌, None, map, refl, sym, ◌∙◌, subst}
use Rattle.std.specs.Prelude.{if◌then◌else◌, flat_map}
use Rattle.std.proofs.lemmas.List.{append_assoc, append-nil}
use Rattle.smv_language.specs.Language.{Text, ProgramTree, same_text}
use Rattle.smv_language.proofs.ValueLaws.{same_text_equal}
use Rattle.fault_instructions.specs.Instructions.{ModeTree, SliceTree, ExtensionTree, slices_from}
use Rattle.fault_instructions.specs.Weavable.{Among}
use Rattle.fault_instructions.proofs.AmongLaws.{each_append}
use Rattle.fault_rules.specs.Sites.{OwnedSlice, owned, a_slice, a_mode, mode_sites, slice_sites, extension_sites}
use Rattle.fault_rules.specs.Rules.{broken_at}
use Rattle.fault_rules.specs.FirstBroken.{AllKept}

pub among_left : {A : Type 0} (xs ys : List A) (x : A) → Among xs x → Among (xs ++ ys) x
among_left [] ys x a = absurd a
among_left (y ∷ xs) ys x (inl e) = inl e
among_left (y ∷ xs) ys x (inr a) = inr (among_left xs ys x a)

pub among_right : {A : Type 0} (xs ys : List A) (x : A) → Among ys x → Among (xs ++ ys) x
among_right [] ys x a = a
among_right (y ∷ xs) ys x a = inr (among_right xs ys x a)

pub among_either : {A : Type 0} (xs ys : List A) (x : A) → Among (xs ++ ys) x → Among xs x ⊎ Among ys x
among_either [] ys x a = inr a
among_either (y ∷ xs) ys x (inl e) = inl (inl e)
among_either (y ∷ xs) ys x (inr a) = go (among_either xs ys x a)
  where
    go : Among xs x ⊎ Among ys x → Among (y ∷ xs) x ⊎ Among ys x
    go (inl b) = inl (inr b)
    go (inr b) = inr b

pub among_map : {A B : Type 0} (f : A → B) (xs : List A) (x : A) → Among xs x → Among (map f xs) (f x)
among_map f [] x a = absurd a
among_map f (y ∷ xs) x (inl e) = inl (subst (λ z. f y ≡ f z) e refl)
among_map f (y ∷ xs) x (inr a) = inr (among_map f xs x a)

pub among_flat : {A B : Type 0} (f : A → List B) (xs : List A) (x : A) (b : B) → Among xs x → Among (f x) b → Among (flat_map f xs) b
among_flat f [] x b a c = absurd a
among_flat f (y ∷ xs) x b (inl e) c = among_left (f y) (flat_map f xs) b (subst (λ z. Among (f z) b) (sym e) c)
among_flat f (y ∷ xs) x b (inr a) c = among_right (f y) (flat_map f xs) b (among_flat f xs x b a c)

abbrev pub all_slices : List ExtensionTree → List OwnedSlice
all_slices xs = flat_map (λ x. map (owned x.of_module) x.slices) xs

-- a slice of a module is one of the file
pub slice_in_file : (xs : List ExtensionTree) (m : Text) (s : SliceTree) → Among (slices_from xs m) s → Among (all_slices xs) (owned m s)
slice_in_file [] m s a = absurd a
slice_in_file (x ∷ xs) m s a = go (same_text x.of_module m) refl a (slice_in_file xs m s)
  where
    here : x.of_module ≡ m → Among x.slices s → Among (map (owned x.of_module) x.slices) (owned m s)
    here e b = subst (λ o. Among (map (owned x.of_module) x.slices) (owned o s)) e (among_map (owned x.of_module) x.slices s b)

    either : x.of_module ≡ m → (Among (slices_from xs m) s → Among (all_slices xs) (owned m s)) → Among x.slices s ⊎ Among (slices_from xs m) s → Among (all_slices (x ∷ xs)) (owned m s)
    either e more (inl b) = among_left (map (owned x.of_module) x.slices) (all_slices xs) (owned m s) (here e b)
    either e more (inr b) = among_right (map (owned x.of_module) x.slices) (all_slices xs) (owned m s) (more b)

    go : (b : Bool) → same_text x.of_module m ≡ b → Among (if b then x.slices ++ slices_from xs m else slices_from xs m) s →
        (Among (slices_from xs m) s → Among (all_slices xs) (owned m s)) → Among (all_slices (x ∷ xs)) (owned m s)
    go true t a more = either (same_text_equal x.of_module m t) more (among_either x.slices (slices_from xs m) s a)
    go false t a more = among_right (map (owned x.of_module) x.slices) (all_slices xs) (owned m s) (more a)

module _ (p : ProgramTree) where
  -- the slice's item and those of its modes break no rule
  abbrev pub IsKeptSlice : List OwnedSlice → OwnedSlice → Type 0
  IsKeptSlice before o = (broken_at p (a_slice before o) ≡ None) × AllKept (broken_at p) (mode_sites before o [] o.slice.modes)

  abbrev pub AreKeptSlices : List OwnedSlice → List OwnedSlice → Type 0
  AreKeptSlices before [] = Unit {0}
  AreKeptSlices before (o ∷ os) = IsKeptSlice before o × AreKeptSlices (before ++ o ∷ []) os

  slices_kept : (before : List OwnedSlice) (owner : Text) (ss : List SliceTree) → AllKept (broken_at p) (slice_sites before owner ss) → AreKeptSlices before (map (owned owner) ss)
  slices_kept before owner [] h = tt
  slices_kept before owner (s ∷ ss) h =
      let parts : AllKept (broken_at p) (mode_sites before (owned owner s) [] s.modes) × AllKept (broken_at p) (slice_sites (before ++ owned owner s ∷ []) owner ss) =
      (each_append (λ site. broken_at p site ≡ None) (mode_sites before (owned owner s) [] s.modes) (slice_sites (before ++ owned owner s ∷ []) owner ss)).0 h.1 in
      ((h.0, parts.0), slices_kept (before ++ owned owner s ∷ []) owner ss parts.1)

  join_kept : (before os qs : List OwnedSlice) → AreKeptSlices before os → AreKeptSlices (before ++ os) qs → AreKeptSlices before (os ++ qs)
  join_kept before [] qs h k = subst (λ b. AreKeptSlices b qs) (append-nil before) k
  join_kept before (o ∷ os) qs h k =
      (h.0, join_kept (before ++ o ∷ []) os qs h.1 (subst (λ b. AreKeptSlices b qs) (sym (append_assoc before (o ∷ []) os)) k))

  pub extensions_kept : (before : List OwnedSlice) (xs : List ExtensionTree) → AllKept (broken_at p) (extension_sites before xs) → AreKeptSlices before (all_slices xs)
  extensions_kept before [] h = tt
  extensions_kept before (x ∷ xs) h =
      let parts : AllKept (broken_at p) (slice_sites before x.of_module x.slices) × AllKept (broken_at p) (extension_sites (before ++ map (owned x.of_module) x.slices) xs) =
      (each_append (λ site. broken_at p site ≡ None) (slice_sites before x.of_module x.slices) (extension_sites (before ++ map (owned x.of_module) x.slices) xs)).0 h.1 in
      join_kept before (map (owned x.of_module) x.slices) (all_slices xs) (slices_kept before x.of_module x.slices parts.0)
      (extensions_kept (before ++ map (owned x.of_module) x.slices) xs parts.1)

  -- a slice after others, which break no rule
  pub record StandsAfter (some : List OwnedSlice) (o : OwnedSlice) : Type 0 where
    pub before : List OwnedSlice
    pub all : (b : OwnedSlice) → Among some b → Among before b
    pub kept : IsKeptSlice before o

  pub kept_at : (before os : List OwnedSlice) (o : OwnedSlice) → AreKeptSlices before os → Among os o → StandsAfter before o
  kept_at before [] o h a = absurd a
  kept_at before (q ∷ os) o h (inl e) = record { before = before; all = λ b c. c; kept = subst (λ r. IsKeptSlice before r) e h.0 }
  kept_at before (q ∷ os) o h (inr a) =
      let later : StandsAfter (before ++ q ∷ []) o = kept_at (before ++ q ∷ []) os o h.1 a in
      record { before = later.before; all = λ b c. later.all b (among_left before (q ∷ []) b c); kept = later.kept }

  pub two_slices : (before os : List OwnedSlice) (x y : OwnedSlice) → AreKeptSlices before os → Among os x → Among os y →
      (x ≡ y) ⊎ (StandsAfter (x ∷ []) y ⊎ StandsAfter (y ∷ []) x)
  two_slices before [] x y h a b = absurd a
  two_slices before (q ∷ os) x y h (inl e) (inl f) = inl (sym e ∙ f)
  two_slices before (q ∷ os) x y h (inl e) (inr b) = inr (inl (subst (λ z. StandsAfter (z ∷ []) y) e (after_last before q y (kept_at (before ++ q ∷ []) os y h.1 b))))
    where
      after_last : (before : List OwnedSlice) (q y : OwnedSlice) → StandsAfter (before ++ q ∷ []) y → StandsAfter (q ∷ []) y
      after_last before q y s = record { before = s.before; all = λ c d. s.all c (among_right before (q ∷ []) c d); kept = s.kept }
  two_slices before (q ∷ os) x y h (inr a) (inl f) = inr (inr (subst (λ z. StandsAfter (z ∷ []) x) f (after_last before q x (kept_at (before ++ q ∷ []) os x h.1 a))))
    where
      after_last : (before : List OwnedSlice) (q y : OwnedSlice) → StandsAfter (before ++ q ∷ []) y → StandsAfter (q ∷ []) y
      after_last before q y s = record { before = s.before; all = λ c d. s.all c (among_right before (q ∷ []) c d); kept = s.kept }
  two_slices before (q ∷ os) x y h (inr a) (inr b) = two_slices (before ++ q ∷ []) os x y h.1 a b

  module _ (before : List OwnedSlice) (o : OwnedSlice) where
    -- a mode after others of its slice, which breaks no rule
    pub record ModeAfter (some : List ModeTree) (m : ModeTree) : Type 0 where
      pub earlier : List ModeTree
      pub all : (b : ModeTree) → Among some b → Among earlier b
      pub kept : broken_at p (a_mode before o earlier m) ≡ None

    pub mode_at : (earlier ms : List ModeTree) (m : ModeTree) → AllKept (broken_at p) (mode_sites before o earlier ms) → Among ms m → ModeAfter earlier m
    mode_at earlier [] m h a = absurd a
    mode_at earlier (n ∷ ms) m h (inl e) = record { earlier = earlier; all = λ b c. c; kept = subst (λ r. broken_at p (a_mode before o earlier r) ≡ None) e h.0 }
    mode_at earlier (n ∷ ms) m h (inr a) =
        let later : ModeAfter (earlier ++ n ∷ []) m = mode_at (earlier ++ n ∷ []) ms m h.1 a in
        record { earlier = later.earlier; all = λ b c. later.all b (among_left earlier (n ∷ []) b c); kept = later.kept }

    after_mode : (earlier : List ModeTree) (n m : ModeTree) → ModeAfter (earlier ++ n ∷ []) m → ModeAfter (n ∷ []) m
    after_mode earlier n m s = record { earlier = s.earlier; all = λ c d. s.all c (among_right earlier (n ∷ []) c d); kept = s.kept }

    pub two_modes : (earlier ms : List ModeTree) (x y : ModeTree) → AllKept (broken_at p) (mode_sites before o earlier ms) → Among ms x → Among ms y →
        (x ≡ y) ⊎ (ModeAfter (x ∷ []) y ⊎ ModeAfter (y ∷ []) x)
    two_modes earlier [] x y h a b = absurd a
    two_modes earlier (n ∷ ms) x y h (inl e) (inl f) = inl (sym e ∙ f)
    two_modes earlier (n ∷ ms) x y h (inl e) (inr b) = inr (inl (subst (λ z. ModeAfter (z ∷ []) y) e (after_mode earlier n y (mode_at (earlier ++ n ∷ []) ms y h.1 b))))
    two_modes earlier (n ∷ ms) x y h (inr a) (inl f) = inr (inr (subst (λ z. ModeAfter (z ∷ []) x) f (after_mode earlier n x (mode_at (earlier ++ n ∷ []) ms x h.1 a))))
    two_modes earlier (n ∷ ms) x y h (inr a) (inr b) = two_modes (earlier ++ n ∷ []) ms x y h.1 a b
