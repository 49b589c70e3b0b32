-- Texts and entries in the order in which each text was first put.
use Rattle.std.specs.Prelude.{Bool, List, [], ◌∷◌, ◌++◌, is_some, ◌&&◌, if◌then◌else◌}
use Rattle.std.specs.List.{list_any}
use Rattle.smv_language.specs.Language.{Text, same_text, is_among, first_with}

-- texts, and one more where it is not among them
abbrev pub with_text : List Text → Text → List Text
with_text xs x = if is_among xs x then xs else xs ++ x ∷ []

-- texts, and each of some more where it is not yet among them
abbrev pub with_texts : List Text → List Text → List Text
with_texts xs [] = xs
with_texts xs (y ∷ ys) = with_texts (with_text xs y) ys

-- entries, and one more where its text has none
abbrev pub with_entry : {B : Type 0} → List (Text × B) → Text × B → List (Text × B)
with_entry es e = if is_some (first_with es e.0) then es else es ++ e ∷ []

-- entries, and each of some more where its text has none yet
abbrev pub with_entries : {B : Type 0} → List (Text × B) → List (Text × B) → List (Text × B)
with_entries es [] = es
with_entries es (f ∷ fs) = with_entries (with_entry es f) fs

-- the pair of texts is one of these
abbrev pub is_pair_among : List (Text × Text) → Text × Text → Bool
is_pair_among ps q = list_any (λ b. same_text b.0 q.0 && same_text b.1 q.1) ps

-- pairs, and one more where it is not among them
abbrev pub with_pair : List (Text × Text) → Text × Text → List (Text × Text)
with_pair ps q = if is_pair_among ps q then ps else ps ++ q ∷ []

-- pairs, and each of some more where it is not yet among them
abbrev pub with_pairs : List (Text × Text) → List (Text × Text) → List (Text × Text)
with_pairs ps [] = ps
with_pairs ps (q ∷ qs) = with_pairs (with_pair ps q) qs
