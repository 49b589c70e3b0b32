-- Lists that are cut at a separator.
use Rattle.std.proofs.Common.{◌≡◌, ◌⊎◌, inl, inr, ◌≢◌, ℕ, List, [], ◌∷◌, ◌++◌, length, refl, sym, ◌∙◌, ap, arith, append_assoc}
use Rattle.std.specs.List.{AllByRecursion}
use Rattle.std.proofs.lemmas.List.{append-nil}
use Rattle.cut_text_laws.specs.Lines.{Line, IsLine, fed}

-- no member is the separator
abbrev pub IsFree : {A : Type 0} → A → List A → Type 0
IsFree s xs = AllByRecursion (λ x. x ≢ s) xs

-- lists with a member in front, taken apart and put together
pub head_of : {A : Type 0} (x y : A) (xs ys : List A) → (x ∷ xs) ≡ (y ∷ ys) → x ≡ y
head_of x y xs ys e = cc

pub tail_of : {A : Type 0} (x y : A) (xs ys : List A) → (x ∷ xs) ≡ (y ∷ ys) → xs ≡ ys
tail_of x y xs ys e = cc

pub both_of : {A : Type 0} (x y : A) (xs ys : List A) → x ≡ y → xs ≡ ys → (x ∷ xs) ≡ (y ∷ ys)
both_of x y xs ys e f = cc

-- what holds of each member holds of one of them, and of each of a front
pub all_at : {A : Type 0} (P : A → Type 0) (xs : List A) (x : A) (ys : List A) → AllByRecursion P (xs ++ x ∷ ys) → P x
all_at P [] x ys h = h.0
all_at P (y ∷ xs) x ys h = all_at P xs x ys h.1

pub all_front : {A : Type 0} (P : A → Type 0) (xs ys : List A) → AllByRecursion P (xs ++ ys) → AllByRecursion P xs
all_front P [] ys h = tt
all_front P (x ∷ xs) ys h = (h.0, all_front P xs ys h.1)

none_there : {A : Type 0} (x : A) (xs : List A) → [] ≡ (x ∷ xs) → ⊥
none_there {A = A} x xs e = let bad : length {A = A} [] ≡ length (x ∷ xs) = ap (length {A = A}) e in omega (arith, bad)

-- fronts before the first separator are one, and so is what follows
pub same_front : {A : Type 0} (s : A) (xs ys rest more : List A) → IsFree s xs → IsFree s ys → xs ++ s ∷ rest ≡ ys ++ s ∷ more → (xs ≡ ys) × (rest ≡ more)
same_front s [] [] rest more f g e = (refl, tail_of s s rest more e)
same_front s [] (y ∷ ys) rest more f g e = absurd (g.0 (sym (head_of s y rest (ys ++ s ∷ more) e)))
same_front s (x ∷ xs) [] rest more f g e = absurd (f.0 (head_of x s (xs ++ s ∷ rest) more e))
same_front s (x ∷ xs) (y ∷ ys) rest more f g e =
    let same : (xs ≡ ys) × (rest ≡ more) = same_front s xs ys rest more f.1 g.1 (tail_of x y (xs ++ s ∷ rest) (ys ++ s ∷ more) e) in
    (both_of x y xs ys (head_of x y (xs ++ s ∷ rest) (ys ++ s ∷ more) e) same.0, same.1)

-- what is free of a separator has none in it
pub no_separator : {A : Type 0} (s : A) (xs ys rest : List A) → IsFree s xs → xs ≡ ys ++ s ∷ rest → ⊥
no_separator s [] [] rest f e = none_there s rest e
no_separator s [] (y ∷ ys) rest f e = none_there y (ys ++ s ∷ rest) e
no_separator s (x ∷ xs) [] rest f e = f.0 (head_of x s xs rest e)
no_separator s (x ∷ xs) (y ∷ ys) rest f e = no_separator s xs ys rest f.1 (tail_of x y xs (ys ++ s ∷ rest) e)

-- Lines.
pub fed_end : (xs : List Line) (x : Line) (rest : List ℕ) → fed xs ++ (x ++ 10 ∷ rest) ≡ fed (xs ++ x ∷ []) ++ rest
fed_end [] x rest = sym (ap (λ bs. bs ++ rest) (append-nil (x ++ 10 ∷ [])) ∙ append_assoc x (10 ∷ []) rest)
fed_end (y ∷ xs) x rest = append_assoc (y ++ 10 ∷ []) (fed xs) (x ++ 10 ∷ rest) ∙ ap (λ bs. (y ++ 10 ∷ []) ++ bs) (fed_end xs x rest) ∙ sym (append_assoc (y ++ 10 ∷ []) (fed (xs ++ x ∷ [])) rest)

pub grouped : (z : Line) (zs : List Line) (m : List ℕ) → fed (z ∷ zs) ++ m ≡ z ++ 10 ∷ (fed zs ++ m)
grouped z zs m = append_assoc (z ++ 10 ∷ []) (fed zs) m ∙ append_assoc z (10 ∷ []) (fed zs ++ m)

-- a list of lines begins another, or the other way round, where their bytes begin some bytes
pub comparable : (xs ys : List Line) (m n : List ℕ) → AllByRecursion IsLine xs → AllByRecursion IsLine ys → fed xs ++ m ≡ fed ys ++ n →
    ((zs : List Line) × (ys ≡ xs ++ zs) × (m ≡ fed zs ++ n)) ⊎ ((zs : List Line) × (xs ≡ ys ++ zs) × (n ≡ fed zs ++ m))
comparable [] ys m n f g e = inl (ys, refl, e)
comparable (x ∷ xs) [] m n f g e = inr (x ∷ xs, refl, sym e)
comparable (x ∷ xs) (y ∷ ys) m n f g e =
    let fronts : (x ≡ y) × (fed xs ++ m ≡ fed ys ++ n) = same_front 10 x y (fed xs ++ m) (fed ys ++ n) f.0 g.0 (sym (grouped x xs m) ∙ e ∙ grouped y ys n) in
    longer fronts.0 (comparable xs ys m n f.1 g.1 fronts.1)
  where
    longer : x ≡ y → ((zs : List Line) × (ys ≡ xs ++ zs) × (m ≡ fed zs ++ n)) ⊎ ((zs : List Line) × (xs ≡ ys ++ zs) × (n ≡ fed zs ++ m)) →
        ((zs : List Line) × ((y ∷ ys) ≡ (x ∷ xs) ++ zs) × (m ≡ fed zs ++ n)) ⊎ ((zs : List Line) × ((x ∷ xs) ≡ (y ∷ ys) ++ zs) × (n ≡ fed zs ++ m))
    longer e (inl h) = inl (h.0, both_of y x ys (xs ++ h.0) (sym e) h.1, h.2)
    longer e (inr h) = inr (h.0, both_of x y xs (ys ++ h.0) e h.1, h.2)
