-- Lists in which each member is judged by those before it, and lists of which any two members are judged.
use Rattle.std.proofs.Common.{inl, inr, ℕ, suc, List, [], ◌∷◌, ◌++◌, map}
use Rattle.smv_language.specs.Trace.{Each, AtSome}
use Rattle.smv_flat_laws.specs.Items.{Item, NumberedItem, numbered_from}
use Rattle.smv_flat_laws.proofs.Reaches.{each_left, each_right}
use Rattle.smv_flat_laws.proofs.Conditions.{each_join}
use Rattle.smv_flat_laws.proofs.Lists.{each_more}
use Rattle.smv_flat_laws.proofs.KindLaws.{with_both}
use Rattle.smv_flat_laws.proofs.Pairs.{Pairwise, Across}

-- what holds at none holds not at some
pub none_some : {A : Type 0} (P : A → Type 0) (xs : List A) → Each (λ x. P x → ⊥) xs → AtSome P xs → ⊥
none_some P [] h a = a
none_some P (x ∷ xs) h (inl e) = h.0 e
none_some P (x ∷ xs) h (inr a) = none_some P xs h.1 a

-- each member by those before it
abbrev pub EachAfter : {A : Type 0} → (List A → A → Type 0) → List A → List A → Type 0
EachAfter P before [] = Unit {0}
EachAfter P before (x ∷ xs) = P before x × EachAfter P (before ++ x ∷ []) xs

pub after_numbered : (P : List Item → Item → Type 0) (n : ℕ) (before items : List Item) → Each (λ (i : NumberedItem). P i.before i.item) (numbered_from n before items) → EachAfter P before items
after_numbered P n before [] h = tt
after_numbered P n before (i ∷ items) h = (h.0, after_numbered P (suc n) (before ++ i ∷ []) items h.1)

pub numbered_after : (P : List Item → Item → Type 0) (n : ℕ) (before items : List Item) → EachAfter P before items → Each (λ (i : NumberedItem). P i.before i.item) (numbered_from n before items)
numbered_after P n before [] h = tt
numbered_after P n before (i ∷ items) h = (h.0, numbered_after P (suc n) (before ++ i ∷ []) items h.1)

pub after_more : {A : Type 0} (P Q : List A → A → Type 0) (before xs : List A) → ((b : List A) (x : A) → P b x → Q b x) → EachAfter P before xs → EachAfter Q before xs
after_more P Q before [] f h = tt
after_more P Q before (x ∷ xs) f h = (f before x h.0, after_more P Q (before ++ x ∷ []) xs f h.1)

pub after_two : {A : Type 0} (P Q R : List A → A → Type 0) (before xs : List A) → ((b : List A) (x : A) → P b x → Q b x → R b x) →
    EachAfter P before xs → EachAfter Q before xs → EachAfter R before xs
after_two P Q R before [] f h k = tt
after_two P Q R before (x ∷ xs) f h k = (f before x h.0 k.0, after_two P Q R (before ++ x ∷ []) xs f h.1 k.1)

pub after_each : {A : Type 0} (Q : A → Type 0) (before xs : List A) → EachAfter (λ b x. Q x) before xs → Each Q xs
after_each Q before [] h = tt
after_each Q before (x ∷ xs) h = (h.0, after_each Q (before ++ x ∷ []) xs h.1)

pub each_after : {A : Type 0} (Q : A → Type 0) (before xs : List A) → Each Q xs → EachAfter (λ b x. Q x) before xs
each_after Q before [] h = tt
each_after Q before (x ∷ xs) h = (h.0, each_after Q (before ++ x ∷ []) xs h.1)

-- where two that are good and apart become two that are apart
pub pairs_map : {A B : Type 0} (G : A → Type 0) (R : A → A → Type 0) (Q : B → B → Type 0) (f : A → B) (xs : List A) → ((x y : A) → G x → G y → R x y → Q (f x) (f y)) →
    Each G xs → Pairwise R xs → Pairwise Q (map f xs)
pairs_map G R Q f [] g h k = tt
pairs_map {A = A} G R Q f (x ∷ xs) g h k = (one xs h.1 k.0, pairs_map G R Q f xs g h.1 k.1)
  where
    one : (ys : List A) → Each G ys → Each (R x) ys → Each (Q (f x)) (map f ys)
    one [] a b = tt
    one (y ∷ ys) a b = (g x y h.0 a.0 b.0, one ys a.1 b.1)

-- members judged one by one by those before them, and pairs
pub pairs_after : {A : Type 0} (R : A → A → Type 0) (before xs : List A) → EachAfter (λ b x. Each (λ y. R y x) b) before xs → Across R before xs × Pairwise R xs
pairs_after {A = A} R before [] h = (empty before, tt)
  where
    empty : (b : List A) → Each (λ x. Unit {0}) b
    empty [] = tt
    empty (x ∷ b) = (tt, empty b)
pairs_after R before (x ∷ xs) h =
    let more : Across R (before ++ x ∷ []) xs × Pairwise R xs = pairs_after R (before ++ x ∷ []) xs h.1 in
    let last : Each (λ y. Each (R y) xs) (x ∷ []) = each_right (λ y. Each (R y) xs) before (x ∷ []) more.0 in (
      with_both (λ y. R y x) (λ y. Each (R y) xs) (λ y. R y x × Each (R y) xs) before (λ y a b. (a, b)) h.0 (each_left (λ y. Each (R y) xs) before (x ∷ []) more.0),
      (last.0, more.1),
    )

pub after_pairs : {A : Type 0} (R : A → A → Type 0) (before xs : List A) → Across R before xs → Pairwise R xs → EachAfter (λ b x. Each (λ y. R y x) b) before xs
after_pairs R before [] c h = tt
after_pairs R before (x ∷ xs) c h = (
  each_more (λ y. R y x × Each (R y) xs) (λ y. R y x) before (λ y a. a.0) c,
  after_pairs R (before ++ x ∷ []) xs
      (each_join (λ y. Each (R y) xs) before (x ∷ []) (each_more (λ y. R y x × Each (R y) xs) (λ y. Each (R y) xs) before (λ y a. a.1) c) (h.0, tt)) h.1,
)
