-- A look-up in a table is that of the first entry with the text.
use lib.Pointwise.{pointwise}
use Rattle.std.proofs.Common.{◌≡◌, ℕ, suc, List, [], ◌∷◌, refl, add-one, ◌∙◌}
use Rattle.std.specs.Prelude.{nat_eq, position}
use Rattle.std.specs.Borrow.{Bor}
use Rattle.std.specs.List.{position_from}
use Rattle.std.proofs.lemmas.Iterator.Adapters.{position_from-zero}
use Rattle.std.specs.Map.{lookup}
use Rattle.smv_language.specs.Language.{texts, first_with, formal_from as place_from}
use Rattle.smv_scope.specs.SceneTree.{named}
use Rattle.smv_language.proofs.BorrowedTexts.{same_bytes}

pub looked_up : {V : Type 0} (x : List ℕ) (es : List (Bor (List ℕ) × V)) → lookup (λ (k : Bor (List ℕ)). pointwise nat_eq x k.now) es ≡ first_with (named es) x
looked_up x [] = refl
looked_up x (e ∷ es) = rw (same_bytes x e.0.now, looked_up x es) refl

pub placed_from : (x : List ℕ) (k : ℕ) (ks : List (Bor (List ℕ))) → position_from (λ (y : Bor (List ℕ)). pointwise nat_eq x y.now) k ks ≡ place_from k (texts ks) x
placed_from x k [] = refl
placed_from x k (y ∷ ks) = rw (same_bytes x y.now, add-one, placed_from x (suc k) ks) refl

pub placed : (x : List ℕ) (ks : List (Bor (List ℕ))) → position (λ (y : Bor (List ℕ)). pointwise nat_eq x y.now) ks ≡ place_from 0 (texts ks) x
placed x ks = position_from-zero (λ (y : Bor (List ℕ)). pointwise nat_eq x y.now) ks ∙ placed_from x 0 ks
