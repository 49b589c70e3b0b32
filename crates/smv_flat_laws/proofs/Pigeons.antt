-- Different names of modules that are all there are no more than the modules.
use Rattle.std.proofs.Common.{◌≡◌, suc, ◌≤◌, arith, Bool, true, false, List, [], ◌∷◌, length, refl, sym, ◌∙◌, subst}
use Rattle.std.specs.Prelude.{if◌then◌else◌}
use Rattle.smv_language.specs.Language.{Text, ModuleTree, ProgramTree, find_module, is_missing, Each, same_text, is_among}
use Rattle.smv_language.proofs.ValueLaws.{same_text_refl}
use Rattle.smv_language.proofs.OneTree.{same_text_equal}
use Rattle.std.proofs.lemmas.Bool.{or_parts as neither}

abbrev pub IsThere : ProgramTree → Text → Type 0
IsThere p x = is_missing (find_module p x) ≡ false

-- no name stands twice
abbrev pub AreApart : List Text → Type 0
AreApart [] = Unit {0}
AreApart (x ∷ xs) = (is_among xs x ≡ false) × AreApart xs

-- without the first of this name
abbrev without : Text → List Text → List Text
without x [] = []
without x (y ∷ ys) = if same_text y x then ys else y ∷ without x ys

length_without : (x : Text) (ys : List Text) → length ys ≤ suc (length (without x ys))
length_without x [] = omega arith
length_without x (y ∷ ys) = by_name (same_text y x) refl (length_without x ys)
  where
    by_name : (b : Bool) → same_text y x ≡ b → length ys ≤ suc (length (without x ys)) → length (y ∷ ys) ≤ suc (length (without x (y ∷ ys)))
    by_name true t h = rw t (omega arith)
    by_name false t h = rw t (omega (arith, h))

not_among_without : (x z : Text) (ys : List Text) → is_among ys z ≡ false → is_among (without x ys) z ≡ false
not_among_without x z [] h = refl
not_among_without x z (y ∷ ys) h =
    let s : (same_text y z ≡ false) × (is_among ys z ≡ false) = neither _ _ h in by_name (same_text y x) refl s.0 s.1 (not_among_without x z ys s.1)
  where
    by_name : (b : Bool) → same_text y x ≡ b → same_text y z ≡ false → is_among ys z ≡ false → is_among (without x ys) z ≡ false → is_among (without x (y ∷ ys)) z ≡ false
    by_name true t s r k = rw t r
    by_name false t s r k = rw (t, s) k

apart_without : (x : Text) (ys : List Text) → AreApart ys → AreApart (without x ys)
apart_without x [] h = tt
apart_without x (y ∷ ys) h = by_name (same_text y x) refl (apart_without x ys h.1)
  where
    by_name : (b : Bool) → same_text y x ≡ b → AreApart (without x ys) → AreApart (without x (y ∷ ys))
    by_name true t k = rw t h.1
    by_name false t k = rw t (not_among_without x y ys h.0, k)

text_apart : (x y : Text) → same_text y x ≡ false → same_text x y ≡ false
text_apart x y h = by_name (same_text x y) refl
  where
    by_name : (b : Bool) → same_text x y ≡ b → same_text x y ≡ false
    by_name true t =
        let same : x ≡ y = same_text_equal x y t in
        let bad : true ≡ false = sym (same_text_refl x) ∙ subst (λ z. same_text z x ≡ false) (sym same) h in cc
    by_name false t = t

there_else : (m : ModuleTree) (p : ProgramTree) (z : Text) → same_text z m.name ≡ false → IsThere (m ∷ p) z → IsThere p z
there_else m p z n h = let other : same_text m.name z ≡ false = text_apart m.name z n in rw other at h

there_others : (m : ModuleTree) (p : ProgramTree) (ys : List Text) → is_among ys m.name ≡ false → Each (IsThere (m ∷ p)) ys → Each (IsThere p) ys
there_others m p [] n h = tt
there_others m p (y ∷ ys) n h =
    let s : (same_text y m.name ≡ false) × (is_among ys m.name ≡ false) = neither _ _ n in (there_else m p y s.0 h.0, there_others m p ys s.1 h.1)

there_without : (m : ModuleTree) (p : ProgramTree) (ys : List Text) → AreApart ys → Each (IsThere (m ∷ p)) ys → Each (IsThere p) (without m.name ys)
there_without m p [] a h = tt
there_without m p (y ∷ ys) a h = by_name (same_text y m.name) refl (there_without m p ys a.1 h.1)
  where
    by_name : (b : Bool) → same_text y m.name ≡ b → Each (IsThere p) (without m.name ys) → Each (IsThere p) (without m.name (y ∷ ys))
    by_name true t k = rw t (there_others m p ys (subst (λ z. is_among ys z ≡ false) (same_text_equal y m.name t) a.0) h.1)
    by_name false t k = rw t (there_else m p y t h.0, k)

pub no_more_names : (p : ProgramTree) (ys : List Text) → AreApart ys → Each (IsThere p) ys → length ys ≤ length p
no_more_names [] [] a h = omega arith
no_more_names [] (y ∷ ys) a h = let bad : true ≡ false = h.0 in cc
no_more_names (m ∷ p) ys a h =
    let rest : length (without m.name ys) ≤ length p = no_more_names p (without m.name ys) (apart_without m.name ys a) (there_without m p ys a h) in
    let less : length ys ≤ suc (length (without m.name ys)) = length_without m.name ys in
    omega (arith, rest, less)
