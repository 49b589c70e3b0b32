-- One adviser of a list hears a clause, is asked, made ready or judged.
use Rattle.std.proofs.Common.{zero, suc, ◌≡◌, ◌+◌, ◌<◌, ◌≤◌, inl, inr, ⊎_elim, ◌∙◌, ℕ, List, [], ◌∷◌, length, map, min, refl, ap, sym, subst, slice_set, slice_index_or, arith}
use Rattle.std.specs.Prelude.{Option, None, remove, if◌then◌else◌, nat_lt}
use Rattle.std.specs.Option.{option_map}
use Rattle.std.proofs.lemmas.List.{map-set, get_or-map, length-map}
use Rattle.std.proofs.Math.Seq.{map-set_same}
use Rattle.sat_adviser.specs.Count.{risen_at}
use Rattle.sat_adviser.specs.Drops.{Drops}
use Rattle.sat_adviser.specs.Heard.{heard_at}
use Rattle.sat_clauses.specs.Literal.{Literal}
use Rattle.sat_adviser.specs.Judges.{Stays, Judges}
use Rattle.sat_adviser.specs.Room.{first_mapped, AreSomeReady}
use Rattle.base_values.specs.Counts.{next_count}

-- the counts where the adviser x at place i has become y, which was told or asked once more
pub counts_risen : {X : Type 0} (f : X → ℕ) (xs : List X) (i : ℕ) (x y : X)
    → i < length xs → x ≡ slice_index_or xs i x → f y ≡ next_count (f x)
    → map f (slice_set xs i y) ≡ risen_at (map f xs) i
counts_risen f xs i x y lt at e =
    let count : f x ≡ slice_index_or (map f xs) i 0 = ap f at ∙ sym (get_or-map f xs i x 0 lt) in
    map-set f xs i y ∙ ap (λ n. slice_set (map f xs) i n) (e ∙ ap next_count count)

-- the meanings where the adviser x at place i has become y, and means the same
pub counts_same : {X Y : Type 0} (f : X → Y) (xs : List X) (i : ℕ) (x y : X)
    → x ≡ slice_index_or xs i x → f y ≡ f x → map f (slice_set xs i y) ≡ map f xs
counts_same f xs i x y at e = map-set_same f xs i y x (e ∙ ap f at)

-- the clauses heard where the adviser x at place i has become y, which has heard a clause
pub clause_heard : {X : Type 0} (f : X → Option (List Literal)) (xs : List X) (i : ℕ) (x y : X) (lits : List Literal)
    → i < length xs → x ≡ slice_index_or xs i x → f y ≡ option_map (λ _. lits) (f x) → map f (slice_set xs i y) ≡ heard_at (map f xs) i lits
clause_heard f xs i x y lits lt at e =
    let here : f x ≡ slice_index_or (map f xs) i None = ap f at ∙ sym (get_or-map f xs i x None lt) in
    map-set f xs i y ∙ ap (λ o. slice_set (map f xs) i o) (e ∙ ap (option_map (λ _. lits)) here)

pub one_more_mapped : {Y : Type 0} (g : Y → Y) (n : ℕ) (ys : List Y) (d : Y) → n < length ys
    → slice_set (first_mapped g n ys) n (g (slice_index_or (first_mapped g n ys) n d)) ≡ first_mapped g (suc n) ys
one_more_mapped g zero [] d lt = absurd (omega (arith, lt))
one_more_mapped g zero (y ∷ ys) d lt = refl
one_more_mapped g (suc n) [] d lt = absurd (omega (arith, lt))
one_more_mapped g (suc n) (y ∷ ys) d lt = ap (λ zs. g y ∷ zs) (one_more_mapped g n ys d (omega (arith, lt)))

pub all_mapped : {Y : Type 0} (g : Y → Y) (n : ℕ) (ys : List Y) → length ys ≤ n → first_mapped g n ys ≡ map g ys
all_mapped g zero [] le = refl
all_mapped g zero (y ∷ ys) le = absurd (omega (arith, le))
all_mapped g (suc n) [] le = refl
all_mapped g (suc n) (y ∷ ys) le = ap (λ zs. g y ∷ zs) (all_mapped g n ys (omega (arith, le)))

pub length-first_mapped : {Y : Type 0} (g : Y → Y) (n : ℕ) (ys : List Y) → length (first_mapped g n ys) ≡ length ys
length-first_mapped g zero ys = refl
length-first_mapped g (suc n) [] = refl
length-first_mapped g (suc n) (y ∷ ys) = ap suc (length-first_mapped g n ys)

-- the meanings where the adviser x at place i has become y
pub next_mapped : {X Y : Type 0} (f : X → Y) (g : Y → Y) (xs : List X) (ys : List Y) (i : ℕ) (x y : X)
    → i < length xs → x ≡ slice_index_or xs i x → f y ≡ g (f x) → map f xs ≡ first_mapped g i ys
    → map f (slice_set xs i y) ≡ first_mapped g (i + 1) ys
next_mapped f g xs ys i x y lt at e so_far =
    let here : f x ≡ slice_index_or (first_mapped g i ys) i (f x) = ap f at ∙ (sym (get_or-map f xs i x (f x) lt) ∙ ap (λ zs. slice_index_or zs i (f x)) so_far) in
    let within : i < length ys = omega (arith, lt, length-map xs f, ap length so_far, length-first_mapped g i ys) in
    map-set f xs i y
    ∙ (ap (λ zs. slice_set zs i (f y)) so_far
    ∙ (ap (λ v. slice_set (first_mapped g i ys) i v) (e ∙ ap g here) ∙ (one_more_mapped g i ys (f x) within ∙ ap (λ n. first_mapped g n ys) (next i))))
  where
    next : (n : ℕ) → suc n ≡ n + 1
    next n = omega arith

-- where all were gone through, all are mapped
pub map_mapped : {X Y : Type 0} (f : X → Y) (g : Y → Y) (xs us : List X) (i : ℕ) → length xs ≤ i → map f xs ≡ first_mapped g i (map f us) → map f xs ≡ map g (map f us)
map_mapped f g xs us i le e =
    e ∙ all_mapped g i (map f us) (omega (arith, le, length-map xs f, ap length e, length-first_mapped g i (map f us)))

-- the first so many advisers were made ready, and x at the next place, which had no memory, has become y
pub some_ready : {X : Type 0} (f : X → Option ℕ) (vars : ℕ) (xs us : List X) (i : ℕ) (x y : X)
    → i < length xs → x ≡ slice_index_or xs i x → f y ≡ f x → map f xs ≡ first_mapped (option_map (λ _. vars)) i (map f us)
    → AreSomeReady vars (map f us) (map f (slice_set xs i y))
some_ready f vars xs us i x y lt at e so_far =
    let within : i < length (map f us) = omega (arith, lt, length-map xs f, ap length so_far, length-first_mapped (option_map (λ _. vars)) i (map f us)) in
    (i, within, counts_same f xs i x y at e ∙ so_far)

removed_mapped : {X Y : Type 0} (f : X → Y) (xs : List X) (i : ℕ) → map f (remove xs i) ≡ remove (map f xs) i
removed_mapped f [] zero = refl
removed_mapped f [] (suc i) = refl
removed_mapped f (x ∷ xs) zero = refl
removed_mapped f (x ∷ xs) (suc i) = ap (λ ys. f x ∷ ys) (removed_mapped f xs i)

dropped_mapped : {X Y : Type 0} (f : X → Y) (old : List X) (present : ℕ) (new : List X) (next after : ℕ)
    → Drops old present new next after → Drops (map f old) present (map f new) next after
dropped_mapped f old present new next after drops = record {
  left = ap (map f) drops.left ∙ removed_mapped f old present;
  present_is = drops.present_is ∙ ap (λ n. if nat_lt present n then present else 0) (sym (length-map new f));
  misses_is = drops.misses_is;
}

stays_mapped : {X Y : Type 0} (f : X → Y) (old : List X) (present misses : ℕ) (new : List X) (next after : ℕ)
    → Stays old present misses new next after → Stays (map f old) present misses (map f new) next after
stays_mapped f old present misses new next after stays = record { left = ap (map f) stays.left; present_is = stays.present_is; misses_is = stays.misses_is }

-- what is judged of advisers is so of their meanings, whatever says that the pick was taken
pub judged_mapped : {X Y : Type 0} (f : X → Y) (used taken : Type 0) (old : List X) (present misses : ℕ) (new : List X) (next after : ℕ)
    → (used → taken) → (taken → used) → Judges used old present misses new next after → Judges taken (map f old) present misses (map f new) next after
judged_mapped f used taken old present misses new next after to from judged = record {
  nobody = λ none. stays_mapped f old present misses new next after (judged.nobody (sym long ∙ none));
  used = λ some is. stays_mapped f old present 0 new next after (judged.used (omega (arith, some, long)) (from is));
  missed = λ some not few. stays_mapped f old present (min (misses + 1) 1000) new next after
      (judged.missed (omega (arith, some, long)) (λ u. not (to u)) (⊎_elim (λ l. inl l) (λ one. inr (sym long ∙ one)) few));
  dropped = λ many within not enough. dropped_mapped f old present new next after
      (judged.dropped (omega (arith, many, long)) (omega (arith, within, long)) (λ u. not (to u)) enough);
}
  where
    long : length (map f old) ≡ length old
    long = length-map old f

-- the same after a pick, which left the place of the present one and its misses
pub judged_after : {X Y : Type 0} (f : X → Y) (used taken : Type 0) (old : List X) (present misses : ℕ) (new : List X) (next after : ℕ)
    (counts : List Y) (place before : ℕ) → map f old ≡ counts → present ≡ place → misses ≡ before
    → (used → taken) → (taken → used) → Judges used old present misses new next after → Judges taken counts place before (map f new) next after
judged_after {Y = Y} f used taken old present misses new next after counts place before are is missed to from judged =
    subst (λ (n : ℕ). Judges taken counts place n (map f new) next after) missed
    (subst (λ (n : ℕ). Judges taken counts n misses (map f new) next after) is
    (subst (λ (ys : List Y). Judges taken ys present misses (map f new) next after) are
    (judged_mapped f used taken old present misses new next after to from judged)))
