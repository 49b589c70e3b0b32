-- A loop that builds a circuit item by item.
use Rattle.std.proofs.Common.{◌≡◌, ℕ, ◌+◌, ◌≤◌, List, [], ◌∷◌, length, drop, refl, sym, ◌∙◌, ap, subst, Some}
use Rattle.std.proofs.lemmas.List.{drop_all}
use Rattle.std.specs.Prelude.{slice_get}
use Rattle.sat_circuits.specs.Circuit.{Circuit, after, fold_gates}
use Rattle.sat_circuits.specs.Meaning.{BeginsWith, StopsWithin}
use Rattle.sat_circuits.proofs.Extension.{begins-after, BeginsWith-refl, BeginsWith-trans, StopsWithin-here, StopsWithin-from, StopsWithin-none}
use Rattle.base_values.proofs.ListLaws.{drop_there}

-- After i items the loop has given a and left the circuit g: what the items that are left build onto g is the whole,
-- and S holds of those items, g and a.
pub record Turns {X A : Type 0} (step : X → A → Circuit → Circuit × A) (S : List X → Circuit → A → Type 0)
    (xs : List X) (s : Circuit) (whole : Circuit × A) (i : ℕ) (a : A) (g : Circuit) : Type 0 where
  pub left : whole ≡ fold_gates step (drop i xs) a g
  pub begins : BeginsWith g.clauses s.clauses
  pub shape : S (drop i xs) g a

-- each step only adds clauses
abbrev pub OnlyAdds : {X A : Type 0} → (X → A → Circuit → Circuit × A) → Type 0
OnlyAdds {X} {A} step = (x : X) (a : A) (t : Circuit) → BeginsWith (step x a t).0.clauses t.clauses

pub fold_gates-begins : {X A : Type 0} (step : X → A → Circuit → Circuit × A) → OnlyAdds step
    → (xs : List X) (a : A) (s : Circuit) → BeginsWith (fold_gates step xs a s).0.clauses s.clauses
unfolding fold_gates
fold_gates-begins step adds [] a s = BeginsWith-refl s.clauses
fold_gates-begins step adds (x ∷ xs) a s = begins-after s _ _ (adds x a s) (λ b t. fold_gates-begins step adds xs b t)

pub Turns-first : {X A : Type 0} (step : X → A → Circuit → Circuit × A) (S : List X → Circuit → A → Type 0) (xs : List X) (a : A) (s : Circuit)
    → S xs s a → Turns step S xs s (fold_gates step xs a s) 0 a s
Turns-first step S xs a s h = record { left = refl; begins = BeginsWith-refl s.clauses; shape = h }

module _ {X A : Type 0} (step : X → A → Circuit → Circuit × A) (S : List X → Circuit → A → Type 0) (adds : OnlyAdds step)
    (xs : List X) (s : Circuit) (whole : Circuit × A) (i : ℕ) (a : A) (g : Circuit) (turns : Turns step S xs s whole i a g) where
  pub Turns-end : length xs ≤ i → whole ≡ (g, a)
  unfolding fold_gates
  Turns-end h = turns.left ∙ rw (drop_all i xs h) refl

  pub Turns-last : length xs ≤ i → S [] g a
  Turns-last h = subst (λ (ys : List X). S ys g a) (drop_all i xs h) turns.shape

  -- the loop can stop between two items
  pub Turns-between : StopsWithin s g whole.0
  Turns-between =
      subst (λ (z : Circuit × A). StopsWithin s g z.0) (sym turns.left)
      (StopsWithin-from s g g _ turns.begins (StopsWithin-none g _ (fold_gates-begins step adds (drop i xs) a g)))

  module _ (x : X) (e : slice_get xs i ≡ Some x) where
    here : whole ≡ fold_gates step (x ∷ drop (i + 1) xs) a g
    here = turns.left ∙ ap (λ ys. fold_gates step ys a g) (drop_there xs i x e)

    -- what the step may rely on
    pub Turns-here : S (x ∷ drop (i + 1) xs) g a
    Turns-here = subst (λ (ys : List X). S ys g a) (drop_there xs i x e) turns.shape

    pub Turns-next : (t : Circuit) (b : A) → step x a g ≡ (t, b) → S (drop (i + 1) xs) (step x a g).0 (step x a g).1 → Turns step S xs s whole (i + 1) b t
    unfolding fold_gates after
    Turns-next t b k h = record {
      left = here ∙ ap (λ (z : Circuit × A). fold_gates step (drop (i + 1) xs) z.1 z.0) k;
      begins = BeginsWith-trans s.clauses g.clauses t.clauses turns.begins (subst (λ (z : Circuit × A). BeginsWith z.0.clauses g.clauses) k (adds x a g));
      shape = subst (λ (z : Circuit × A). S (drop (i + 1) xs) z.0 z.1) k h;
    }

    pub Turns-stops : (new : Circuit) → StopsWithin g new (step x a g).0 → StopsWithin s new whole.0
    unfolding fold_gates
    Turns-stops new w =
        subst (λ (z : Circuit × A). StopsWithin s new z.0) (sym here)
        (StopsWithin-from s g new _ turns.begins (StopsWithin-here _ _ _ _ w (λ b t. fold_gates-begins step adds (drop (i + 1) xs) b t)))
