-- The table of assigned variables tells whether an earlier assignment speaks of the same time.
use lib.Pointwise.{pointwise}
use Rattle.std.proofs.Common.{◌≡◌, ℕ, Bool, true, false, ◌||◌, ◌&&◌, List, [], ◌∷◌, ◌++◌, Option, Some, None, cond, if◌then◌else◌, refl, sym, ◌∙◌, ap, subst, inl, inr, Bor}
use Rattle.std.specs.Prelude.{◌↔◌, ◌⊎◌, nat_eq}
use Rattle.std.specs.Map.{lookup}
use Rattle.indexmap.specs.IndexMap.{insert_entry}
use Rattle.smv_language.specs.declared.program.Moment.{Moment}
use Rattle.smv_language.specs.declared.program.Moment.TheVariants.{Always, First, After}
use Rattle.smv_language.specs.Language.{Text, Path, AssignmentTree, same_text, AtSome, same_borrowed}
use Rattle.smv_language.proofs.ValueLaws.{same_text_refl}
use Rattle.smv_flat_laws.specs.Items.{Item, a_declaration, a_definition, an_assignment, some_constants, an_init, an_invar, a_trans}
use Rattle.smv_flat_laws.specs.Rules.{at_one_time, Assigns, is_later}
use Rattle.smv_flat.specs.Assignments.{is_always, is_first, no_times, with_moment, is_met, is_only, assigns_at, some_assigns, times_in, times_of, AreTimes}
use Rattle.smv_flat.specs.declared.judge.Times.{Times}
use Rattle.smv_language.proofs.BorrowedTexts.{same_bytes}
use Rattle.smv_lexer.proofs.SignLemmas.{both_true}
use Rattle.smv_language.proofs.OneTree.{same_text_equal}
use Rattle.smv_flat_laws.proofs.Apart.{or_true}
use Rattle.smv_language.proofs.BoolLaws.{or_false, or_assoc}

abbrev pub times_or : Option Times → Times
times_or None = no_times
times_or (Some t) = t

told_or : (b : Bool) (t : Times) (o : Option Times) → times_or (cond b (Some t) o) ≡ (if b then t else times_or o)
told_or true t o = refl
told_or false t o = refl

pub looked_up : (es : List (Bor (List ℕ) × Times)) (x : List ℕ) → times_or (lookup (λ (k : Bor (List ℕ)). pointwise nat_eq x k.now) es) ≡ times_of es x
looked_up [] x = refl
looked_up (e ∷ es) x =
    told_or (pointwise nat_eq x e.0.now) e.1 (lookup (λ (k : Bor (List ℕ)). pointwise nat_eq x k.now) es)
    ∙ ap (λ b. if b then e.1 else times_or (lookup (λ (k : Bor (List ℕ)). pointwise nat_eq x k.now) es)) (same_bytes x e.0.now)
    ∙ ap (λ t. if same_text e.0.now x then e.1 else t) (looked_up es x)

one_test : (b : Bool) (v w u : Times) → (if b then v else u) ≡ (if b then v else (if b then w else u))
one_test true v w u = refl
one_test false v w u = refl

two_tests : (x y z : List ℕ) (b c : Bool) → same_text x z ≡ b → same_text y z ≡ c → same_text x y ≡ false → (v w u : Times) → (if b then w else (if c then v else u)) ≡ (if c then v else (if b then w else u))
two_tests x y z true true e f other v w u = absurd (differ (sym other ∙ ap (λ t. same_text x t) same ∙ same_text_refl x))
  where
    same : y ≡ x
    same = same_text_equal y z f ∙ sym (same_text_equal x z e)

    differ : false ≡ true → ⊥
    differ q = cc
two_tests x y z true false e f other v w u = refl
two_tests x y z false true e f other v w u = refl
two_tests x y z false false e f other v w u = refl

pub inserted : (es : List (Bor (List ℕ) × Times)) (k : Bor (List ℕ)) (v : Times) (x : List ℕ) →
    times_of (insert_entry same_borrowed es k v) x ≡ (if same_text k.now x then v else times_of es x)
inserted [] k v x = refl
inserted (e ∷ es) k v x =
    ap (λ b. times_of (if b then (e.0, v) ∷ es else e ∷ insert_entry same_borrowed es k v) x) (same_bytes k.now e.0.now) ∙ by_key (same_text e.0.now k.now) refl (inserted es k v x)
  where
    by_key : (b : Bool) → same_text e.0.now k.now ≡ b → times_of (insert_entry same_borrowed es k v) x ≡ (if same_text k.now x then v else times_of es x) →
        times_of (if same_text e.0.now k.now then (e.0, v) ∷ es else e ∷ insert_entry same_borrowed es k v) x ≡ (if same_text k.now x then v else times_of (e ∷ es) x)
    by_key true q rest =
        ap (λ b. times_of (if b then (e.0, v) ∷ es else e ∷ insert_entry same_borrowed es k v) x) q
        ∙ one_test (same_text e.0.now x) v e.1 (times_of es x)
        ∙ ap (λ t. if same_text t x then v else times_of (e ∷ es) x) (same_text_equal e.0.now k.now q)
    by_key false q rest =
        ap (λ b. times_of (if b then (e.0, v) ∷ es else e ∷ insert_entry same_borrowed es k v) x) q
        ∙ ap (λ t. if same_text e.0.now x then e.1 else t) rest
        ∙ two_tests e.0.now k.now x (same_text e.0.now x) (same_text k.now x) refl refl q v e.1 (times_of es x)

assigns_more : (test : Moment → Bool) (x : Text) (is : List Item) (i : Item) → some_assigns test x (is ++ i ∷ []) ≡ (some_assigns test x is || assigns_at test x i)
assigns_more test x [] i = or_false (assigns_at test x i)
assigns_more test x (j ∷ is) i = ap (λ b. assigns_at test x j || b) (assigns_more test x is i) ∙ sym (or_assoc (assigns_at test x j) (some_assigns test x is) (assigns_at test x i))

abbrev times : Bool → Bool → Bool → Times
times a b c = record { always = a; first = b; after = c }

same_times : (a b c d e f : Bool) → a ≡ d → b ≡ e → c ≡ f → times a b c ≡ times d e f
same_times a b c d e f p q r = cc

none_more : (test : Moment → Bool) (x : Text) (is : List Item) (i : Item) → assigns_at test x i ≡ false → some_assigns test x (is ++ i ∷ []) ≡ some_assigns test x is
none_more test x is i e = assigns_more test x is i ∙ ap (λ b. some_assigns test x is || b) e ∙ or_false (some_assigns test x is)

times_same : (is : List Item) (i : Item) (x : Text) → ((test : Moment → Bool) → assigns_at test x i ≡ false) → times_in (is ++ i ∷ []) x ≡ times_in is x
times_same is i x none =
    same_times (some_assigns is_always x (is ++ i ∷ [])) (some_assigns is_first x (is ++ i ∷ [])) (some_assigns is_later x (is ++ i ∷ [])) (some_assigns is_always x is) (some_assigns is_first x is) (some_assigns is_later x is)
    (none_more is_always x is i (none is_always)) (none_more is_first x is i (none is_first)) (none_more is_later x is i (none is_later))

-- an item that is no assignment
abbrev pub is_assignment : Item → Bool
is_assignment (an_assignment a) = true
is_assignment (a_declaration role d) = false
is_assignment (a_definition d) = false
is_assignment (some_constants xs) = false
is_assignment (an_init e) = false
is_assignment (an_invar e) = false
is_assignment (a_trans e) = false

pub times_kept : (es : List (Bor (List ℕ) × Times)) (is : List Item) (i : Item) → is_assignment i ≡ false → AreTimes es is → AreTimes es (is ++ i ∷ [])
times_kept es is i e h x = h x ∙ sym (times_same is i x (λ test. by_item test i e))
  where
    by_item : (test : Moment → Bool) (j : Item) → is_assignment j ≡ false → assigns_at test x j ≡ false
    by_item test (an_assignment a) q = cc
    by_item test (a_declaration role d) q = refl
    by_item test (a_definition d) q = refl
    by_item test (some_constants xs) q = refl
    by_item test (an_init f) q = refl
    by_item test (an_invar f) q = refl
    by_item test (a_trans f) q = refl

with_is : (t : Times) (when : Moment) → with_moment t when ≡ times (t.always || is_always when) (t.first || is_first when) (t.after || is_later when)
with_is t Always = same_times true t.first t.after _ _ _ (sym (or_true t.always)) (sym (or_false t.first)) (sym (or_false t.after))
with_is t First = same_times t.always true t.after _ _ _ (sym (or_false t.always)) (sym (or_true t.first)) (sym (or_false t.after))
with_is t After = same_times t.always t.first true _ _ _ (sym (or_false t.always)) (sym (or_false t.first)) (sym (or_true t.after))

-- an assignment of a variable
pub times_added : (es new : List (Bor (List ℕ) × Times)) (is : List Item) (a : AssignmentTree) (x : Text) → a.target ≡ x ∷ [] →
    ((y : Text) → times_of new y ≡ (if same_text x y then with_moment (times_of es x) a.when else times_of es y)) → AreTimes es is → AreTimes new (is ++ an_assignment a ∷ [])
times_added es new is a x target added h y = added y ∙ by_text (same_text x y) refl
  where
    step : (test : Moment → Bool) → some_assigns test y (is ++ an_assignment a ∷ []) ≡ (some_assigns test y is || (same_text x y && test a.when))
    step test = assigns_more test y is (an_assignment a) ∙ ap (λ p. some_assigns test y is || (is_only p y && test a.when)) target

    by_text : (b : Bool) → same_text x y ≡ b → (if same_text x y then with_moment (times_of es x) a.when else times_of es y) ≡ times_in (is ++ an_assignment a ∷ []) y
    by_text true e =
        ap (λ b. if b then with_moment (times_of es x) a.when else times_of es y) e
        ∙ ap (λ z. with_moment (times_of es z) a.when) (same_text_equal x y e)
        ∙ ap (λ t. with_moment t a.when) (h y)
        ∙ with_is (times_in is y) a.when
        ∙ same_times _ _ _ _ _ _ (sym (here is_always)) (sym (here is_first)) (sym (here is_later))
      where
        here : (test : Moment → Bool) → some_assigns test y (is ++ an_assignment a ∷ []) ≡ (some_assigns test y is || test a.when)
        here test = step test ∙ ap (λ b. some_assigns test y is || (b && test a.when)) e
    by_text false e =
        ap (λ b. if b then with_moment (times_of es x) a.when else times_of es y) e
        ∙ h y
        ∙ same_times _ _ _ _ _ _ (sym (here is_always)) (sym (here is_first)) (sym (here is_later))
      where
        here : (test : Moment → Bool) → some_assigns test y (is ++ an_assignment a ∷ []) ≡ some_assigns test y is
        here test = step test ∙ ap (λ b. some_assigns test y is || (b && test a.when)) e ∙ or_false (some_assigns test y is)

-- Whether an earlier assignment speaks of the same time.
abbrev speaks_at : Moment → Moment → Bool
speaks_at when w = at_one_time w when

add_always : (b a f t : Bool) (w : Moment) → ((((b && is_always w) || a) || (((b && is_first w) || f) || ((b && is_later w) || t))) ≡ ((b && speaks_at Always w) || (a || (f || t))))
add_always true a f t Always = refl
add_always true true f t First = refl
add_always true false f t First = refl
add_always true true f t After = refl
add_always true false true t After = refl
add_always true false false t After = refl
add_always false a f t w = refl

add_first : (b a f : Bool) (w : Moment) → ((((b && is_always w) || a) || ((b && is_first w) || f)) ≡ ((b && speaks_at First w) || (a || f)))
add_first true a f Always = refl
add_first true true f First = refl
add_first true false f First = refl
add_first true a f After = refl
add_first false a f w = refl

add_after : (b a t : Bool) (w : Moment) → ((((b && is_always w) || a) || ((b && is_later w) || t)) ≡ ((b && speaks_at After w) || (a || t)))
add_after true a t Always = refl
add_after true true t After = refl
add_after true false t After = refl
add_after true a t First = refl
add_after false a t w = refl

same_met : (when : Moment) (x : Text) (i : Item) (is : List Item) → ((test : Moment → Bool) → assigns_at test x i ≡ false) → is_met (times_in is x) when ≡ some_assigns (speaks_at when) x is →
    is_met (times_in (i ∷ is) x) when ≡ some_assigns (speaks_at when) x (i ∷ is)
same_met when x i is none h =
    ap (λ t. is_met t when) (same_times _ _ _ _ _ _ (skip is_always) (skip is_first) (skip is_later)) ∙ h ∙ sym (skip (speaks_at when))
  where
    skip : (test : Moment → Bool) → some_assigns test x (i ∷ is) ≡ some_assigns test x is
    skip test = ap (λ b. b || some_assigns test x is) (none test)

met_is : (when : Moment) (x : Text) (is : List Item) → is_met (times_in is x) when ≡ some_assigns (speaks_at when) x is
met_is Always x [] = refl
met_is First x [] = refl
met_is After x [] = refl
met_is Always x (an_assignment a ∷ is) =
    add_always (is_only a.target x) (some_assigns is_always x is) (some_assigns is_first x is) (some_assigns is_later x is) a.when ∙ ap (λ b. (is_only a.target x && speaks_at Always a.when) || b) (met_is Always x is)
met_is First x (an_assignment a ∷ is) =
    add_first (is_only a.target x) (some_assigns is_always x is) (some_assigns is_first x is) a.when ∙ ap (λ b. (is_only a.target x && speaks_at First a.when) || b) (met_is First x is)
met_is After x (an_assignment a ∷ is) =
    add_after (is_only a.target x) (some_assigns is_always x is) (some_assigns is_later x is) a.when ∙ ap (λ b. (is_only a.target x && speaks_at After a.when) || b) (met_is After x is)
met_is when x (a_declaration role d ∷ is) = same_met when x (a_declaration role d) is (λ test. refl) (met_is when x is)
met_is when x (a_definition d ∷ is) = same_met when x (a_definition d) is (λ test. refl) (met_is when x is)
met_is when x (some_constants xs ∷ is) = same_met when x (some_constants xs) is (λ test. refl) (met_is when x is)
met_is when x (an_init e ∷ is) = same_met when x (an_init e) is (λ test. refl) (met_is when x is)
met_is when x (an_invar e ∷ is) = same_met when x (an_invar e) is (λ test. refl) (met_is when x is)
met_is when x (a_trans e ∷ is) = same_met when x (a_trans e) is (λ test. refl) (met_is when x is)

only_this : (p : Path) (x : Text) → is_only p x ≡ true → p ≡ x ∷ []
only_this [] x e = cc
only_this (y ∷ []) x e = ap (λ z. z ∷ []) (same_text_equal y x e)
only_this (y ∷ (z ∷ rest)) x e = cc

assigned_before : (a : AssignmentTree) (x : Text) → a.target ≡ x ∷ [] → (is : List Item) → (some_assigns (speaks_at a.when) x is ≡ true) ↔ AtSome (Assigns a) is
assigned_before a x target [] = (λ e. absurd (differ e), λ h. absurd h)
  where
    differ : false ≡ true → ⊥
    differ e = cc
assigned_before a x target (i ∷ is) = (to i (assigned_before a x target is).0, from i (assigned_before a x target is).1)
  where
    split : (b c : Bool) → (b || c) ≡ true → (b ≡ true) ⊎ (c ≡ true)
    split true c e = inl refl
    split false c e = inr e

    told : (j : Item) → assigns_at (speaks_at a.when) x j ≡ true → Assigns a j
    told (an_assignment b) e =
        let s : (is_only b.target x ≡ true) × (at_one_time b.when a.when ≡ true) = both_true (is_only b.target x) (at_one_time b.when a.when) e in
        (only_this b.target x s.0 ∙ sym target, s.1)
    told (a_declaration role d) e = cc
    told (a_definition d) e = cc
    told (some_constants xs) e = cc
    told (an_init f) e = cc
    told (an_invar f) e = cc
    told (a_trans f) e = cc

    back : (j : Item) → Assigns a j → assigns_at (speaks_at a.when) x j ≡ true
    back (an_assignment b) h =
        ap (λ p. is_only p x && at_one_time b.when a.when) (h.0 ∙ target) ∙ ap (λ t. t && at_one_time b.when a.when) (same_text_refl x) ∙ h.1
    back (a_declaration role d) h = absurd h
    back (a_definition d) h = absurd h
    back (some_constants xs) h = absurd h
    back (an_init f) h = absurd h
    back (an_invar f) h = absurd h
    back (a_trans f) h = absurd h

    to : (j : Item) → (some_assigns (speaks_at a.when) x is ≡ true → AtSome (Assigns a) is) → (assigns_at (speaks_at a.when) x j || some_assigns (speaks_at a.when) x is) ≡ true → AtSome (Assigns a) (j ∷ is)
    to j rest e = by_split (split (assigns_at (speaks_at a.when) x j) (some_assigns (speaks_at a.when) x is) e)
      where
        by_split : (assigns_at (speaks_at a.when) x j ≡ true) ⊎ (some_assigns (speaks_at a.when) x is ≡ true) → AtSome (Assigns a) (j ∷ is)
        by_split (inl q) = inl (told j q)
        by_split (inr q) = inr (rest q)

    from : (j : Item) → (AtSome (Assigns a) is → some_assigns (speaks_at a.when) x is ≡ true) → AtSome (Assigns a) (j ∷ is) → (assigns_at (speaks_at a.when) x j || some_assigns (speaks_at a.when) x is) ≡ true
    from j rest (inl h) = ap (λ b. b || some_assigns (speaks_at a.when) x is) (back j h)
    from j rest (inr h) = ap (λ b. assigns_at (speaks_at a.when) x j || b) (rest h) ∙ or_true (assigns_at (speaks_at a.when) x j)

-- what the table says
pub is_double : (es : List (Bor (List ℕ) × Times)) (is : List Item) (a : AssignmentTree) (x : Text) → a.target ≡ x ∷ [] → AreTimes es is →
    (is_met (times_of es x) a.when ≡ true) ↔ AtSome (Assigns a) is
is_double es is a x target h =
    let same : is_met (times_of es x) a.when ≡ some_assigns (speaks_at a.when) x is = ap (λ t. is_met t a.when) (h x) ∙ met_is a.when x is in
    subst (λ b. (b ≡ true) ↔ AtSome (Assigns a) is) (sym same) (assigned_before a x target is)
