-- Texts as lists of bytes, and when two are the same.
use Rattle.std.specs.Prelude.{◌≡◌, ℕ, Bool, true, false, List, [], ◌∷◌, Option, Some, None, nat_eq, slice_get, ◌&&◌, ◌||◌, if◌then◌else◌}

-- both have the same bytes
abbrev pub same_text : List ℕ → List ℕ → Bool
same_text [] [] = true
same_text (c ∷ cs) (d ∷ ds) = nat_eq c d && same_text cs ds
same_text _ _ = false

-- the text is one of these
abbrev pub is_among : List (List ℕ) → List ℕ → Bool
is_among [] text = false
is_among (w ∷ ws) text = same_text w text || is_among ws text

-- what the first entry of the text has
abbrev pub first_with : {B : Type 0} → List (List ℕ × B) → List ℕ → Option B
first_with [] text = None
first_with (e ∷ es) text = if same_text e.0 text then Some e.1 else first_with es text

-- the text that is there; the empty one where there is none
abbrev pub text_or_none : Option (List ℕ) → List ℕ
text_or_none None = []
text_or_none (Some x) = x

-- no text stands at two places
abbrev pub AreApart : List (List ℕ) → Type 0
AreApart texts = (i j : ℕ) (x : List ℕ) → slice_get texts i ≡ Some x → slice_get texts j ≡ Some x → i ≡ j
