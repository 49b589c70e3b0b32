-- Lists in which each has a name that none before it has: no two have one name.
use Rattle.std.proofs.Common.{◌≡◌, ◌≢◌, inl, false, List, [], ◌∷◌, ◌++◌, refl}
use Rattle.std.specs.List.{list_any}
use Rattle.smv_language.specs.Language.{Text, same_text, Each}
use Rattle.smv_flat_laws.proofs.Lists.{each_more}
use Rattle.fault_instructions.specs.Weavable.{Among}
use Rattle.fault_rules.proofs.ProgramNames.{any_false}
use Rattle.fault_rules.proofs.KeptItems.{among_left, among_right}
use Rattle.fault_weave.proofs.WovenExamples.{texts_differ as differs}
use Rattle.smv_flat_laws.proofs.Pairs.{Pairwise}

-- each has a name that none before it has
abbrev pub AreNew : {A : Type 0} → (A → Text) → List A → List A → Type 0
AreNew name before [] = Unit {0}
AreNew name before (x ∷ xs) = (list_any (λ b. same_text (name b) (name x)) before ≡ false) × AreNew name (before ++ x ∷ []) xs

-- a name that none of these has
abbrev IsOther : {A : Type 0} → (A → Text) → List A → A → Type 0
IsOther name before x = (b : _) → Among before b → name b ≢ name x

pub new_differ : {A : Type 0} (name : A → Text) (before xs : List A) → AreNew name before xs → Pairwise (λ x y. name x ≢ name y) xs × Each (IsOther name before) xs
new_differ name before [] h = (tt, tt)
new_differ name before (x ∷ xs) h =
    let later : Pairwise (λ x y. name x ≢ name y) xs × Each (IsOther name (before ++ x ∷ [])) xs = new_differ name (before ++ x ∷ []) xs h.1 in (
      (each_more (IsOther name (before ++ x ∷ [])) (λ y. name x ≢ name y) xs (λ y f. f x (among_right before (x ∷ []) x (inl refl))) later.1, later.0),
      (
        (λ b a. differs (name b) (name x) (any_false (λ c. same_text (name c) (name x)) before b h.0 a)),
        each_more (IsOther name (before ++ x ∷ [])) (IsOther name before) xs (λ y f b a. f b (among_left before (x ∷ []) b a)) later.1,
      ),
    )
