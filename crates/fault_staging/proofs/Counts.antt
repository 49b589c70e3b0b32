-- How many variables and symbols causes add, and one cause more.
use Rattle.std.proofs.Common.{◌≡◌, ℕ, zero, suc, ◌+◌, ◌<◌, Bool, true, false, List, [], ◌∷◌, ◌++◌, Option, Some, None, length, map, drop, get_or, refl, sym, ◌∙◌, ap, arith}
use Rattle.std.specs.Prelude.{if◌then◌else◌}
use Rattle.std.proofs.lemmas.List.{length-append, append-nil, append_assoc, drop_more}
use Rattle.smv_language.specs.Language.{Tree, Each, FlatLeaf, FlatModel}
use Rattle.smv_flat_laws.specs.History.{Mode}
use Rattle.cut_right_laws.specs.Sets.{has_number}
use Rattle.fault_cause_laws.specs.Causes.{CommonCause}
use Rattle.fault_cause_laws.specs.StagedModel.{with_age, with_event, with_hit, with_hits, with_cause, with_each_cause, age_numbers, cause_events, in_window, windows_on, with_own, with_owns, own_events}
use Rattle.fault_staging.specs.CauseOf.{joined_from, either_tree}

module _ (fs : List Mode) (c : CommonCause) where
  hits_count : (is : List ℕ) (m : FlatModel) (age k : ℕ) → length (with_hits fs c age k is m).variables ≡ length m.variables + length is
  hits_count [] m age k = omega arith
  hits_count (i ∷ is) m age k =
      let one : length (with_hit fs c age k i m).variables ≡ length m.variables + 1 = length-append m.variables _ in
      let more : length (with_hits fs c age (suc k) is (with_hit fs c age k i m)).variables ≡ length (with_hit fs c age k i m).variables + length is = hits_count is (with_hit fs c age k i m) age (suc k) in
      omega arith

  hits_symbols : (is : List ℕ) (m : FlatModel) (age k : ℕ) → (with_hits fs c age k is m).symbols ≡ m.symbols
  hits_symbols [] m age k = refl
  hits_symbols (i ∷ is) m age k = hits_symbols is (with_hit fs c age k i m) age (suc k) ∙ append-nil m.symbols

  pub cause_count : (m : FlatModel) → length (with_cause fs m c).variables ≡ length m.variables + (2 + length c.strikes)
  cause_count m =
      let aged : length (with_age m c).variables ≡ length m.variables + 1 = length-append m.variables _ in
      let evented : length (with_event (with_age m c) c (length m.variables)).variables ≡ length (with_age m c).variables + 1 = length-append (with_age m c).variables _ in
      let all : length (with_cause fs m c).variables ≡ length (with_event (with_age m c) c (length m.variables)).variables + length c.strikes =
      hits_count c.strikes (with_event (with_age m c) c (length m.variables)) (length m.variables) 1 in
      omega arith

  pub cause_symbols : (m : FlatModel) → length (with_cause fs m c).symbols ≡ suc (suc (length m.symbols))
  cause_symbols m =
      let hit : length (with_cause fs m c).symbols ≡ length (with_event (with_age m c) c (length m.variables)).symbols =
      ap length (hits_symbols c.strikes (with_event (with_age m c) c (length m.variables)) (length m.variables) 1) in
      let evented : length (with_event (with_age m c) c (length m.variables)).symbols ≡ length (with_age m c).symbols + 2 = length-append (with_age m c).symbols _ in
      let aged : length (with_age m c).symbols ≡ length m.symbols = ap length (append-nil m.symbols) in
      omega arith

pub length_ages : (cs : List CommonCause) (n : ℕ) → length (age_numbers n cs) ≡ length cs
length_ages [] n = refl
length_ages (c ∷ cs) n = ap suc (length_ages cs (n + (2 + length c.strikes)))

-- a fact of each member holds of the one at a place
pub each_get : {A : Type 0} (P : A → Type 0) (xs : List A) (i : ℕ) (d : A) → Each P xs → i < length xs → P (get_or xs i d)
each_get P [] i d e h = absurd (omega (arith, h))
each_get P (x ∷ xs) zero d e h = e.0
each_get P (x ∷ xs) (suc i) d e h = each_get P xs i d e.1 (omega (arith, h))

-- one cause more in the loop over causes
module _ {A : Type 0} (fs : List Mode) (f : A → CommonCause) (xs : List A) (i : ℕ) (d : A) (within : i < length xs) where
  abbrev item : CommonCause
  item = f (get_or xs i d)

  left : map f (drop i xs) ≡ item ∷ map f (drop (i + 1) xs)
  left = ap (map f) (drop_more xs i d within)

  pub causes_next : (m m' all : FlatModel) → m' ≡ with_cause fs m item → with_each_cause fs m (map f (drop i xs)) ≡ all → with_each_cause fs m' (map f (drop (i + 1) xs)) ≡ all
  causes_next m m' all step rest = ap (λ z. with_each_cause fs z (map f (drop (i + 1) xs))) step ∙ sym (ap (with_each_cause fs m) left) ∙ rest

  pub ages_next : (m m' : FlatModel) (ages all : List ℕ) → m' ≡ with_cause fs m item → ages ++ age_numbers (length m.variables) (map f (drop i xs)) ≡ all →
      (ages ++ length m.variables ∷ []) ++ age_numbers (length m'.variables) (map f (drop (i + 1) xs)) ≡ all
  ages_next m m' ages all step rest =
      append_assoc ages (length m.variables ∷ []) (age_numbers (length m'.variables) (map f (drop (i + 1) xs)))
      ∙ ap (λ n. ages ++ length m.variables ∷ age_numbers n (map f (drop (i + 1) xs))) (ap (λ z. length z.variables) step ∙ cause_count fs item m)
      ∙ sym (ap (λ z. ages ++ age_numbers (length m.variables) z) left) ∙ rest

  pub events_next : (m m' : FlatModel) (events all : List Mode) → m' ≡ with_cause fs m item → events ++ cause_events (length m.variables) (length m.symbols) (map f (drop i xs)) ≡ all →
      (events ++ record { variable = suc (length m.variables); symbol = suc (length m.symbols) } ∷ []) ++ cause_events (length m'.variables) (length m'.symbols) (map f (drop (i + 1) xs)) ≡ all
  events_next m m' events all step rest =
      append_assoc events (record { variable = suc (length m.variables); symbol = suc (length m.symbols) } ∷ []) (cause_events (length m'.variables) (length m'.symbols) (map f (drop (i + 1) xs)))
      ∙ ap (λ n. events ++ record { variable = suc (length m.variables); symbol = suc (length m.symbols) } ∷ cause_events n (length m'.symbols) (map f (drop (i + 1) xs)))
      (ap (λ z. length z.variables) step ∙ cause_count fs item m)
      ∙ ap (λ n. events ++ record { variable = suc (length m.variables); symbol = suc (length m.symbols) } ∷ cause_events (length m.variables + (2 + length item.strikes)) n (map f (drop (i + 1) xs)))
      (ap (λ z. length z.symbols) step ∙ cause_symbols fs item m)
      ∙ sym (ap (λ z. events ++ cause_events (length m.variables) (length m.symbols) z) left) ∙ rest

-- an own event more
module _ (fs : List Mode) (cs : List CommonCause) (ages : List ℕ) where
  pub own_count : (i : ℕ) (m : FlatModel) → length (with_own fs cs ages i m).variables ≡ suc (length m.variables)
  own_count i m = let e : length (with_own fs cs ages i m).variables ≡ length m.variables + 1 = length-append m.variables _ in omega arith

  pub own_symbols : (i : ℕ) (m : FlatModel) → length (with_own fs cs ages i m).symbols ≡ suc (suc (length m.symbols))
  own_symbols i m = let e : length (with_own fs cs ages i m).symbols ≡ length m.symbols + 2 = length-append m.symbols _ in omega arith

  module _ {A : Type 0} (f : A → Mode) (xs : List A) (i : ℕ) (d : A) (within : i < length xs) where
    own_left : map f (drop i xs) ≡ f (get_or xs i d) ∷ map f (drop (i + 1) xs)
    own_left = ap (map f) (drop_more xs i d within)

    pub owns_next : (m m' all : FlatModel) → m' ≡ with_own fs cs ages (i + 1) m → with_owns fs cs ages (i + 1) (map f (drop i xs)) m ≡ all →
        with_owns fs cs ages (i + 1 + 1) (map f (drop (i + 1) xs)) m' ≡ all
    owns_next m m' all step rest =
        let one : i + 1 + 1 ≡ suc (i + 1) = omega arith in
        ap (λ z. with_owns fs cs ages (i + 1 + 1) (map f (drop (i + 1) xs)) z) step
        ∙ ap (λ n. with_owns fs cs ages n (map f (drop (i + 1) xs)) (with_own fs cs ages (i + 1) m)) one
        ∙ sym (ap (λ z. with_owns fs cs ages (i + 1) z m) own_left) ∙ rest

    pub own_events_next : (m m' : FlatModel) (events all : List Mode) → m' ≡ with_own fs cs ages (i + 1) m → events ++ own_events (length m.variables) (length m.symbols) (map f (drop i xs)) ≡ all →
        (events ++ record { variable = length m.variables; symbol = suc (length m.symbols) } ∷ []) ++ own_events (length m'.variables) (length m'.symbols) (map f (drop (i + 1) xs)) ≡ all
    own_events_next m m' events all step rest =
        append_assoc events (record { variable = length m.variables; symbol = suc (length m.symbols) } ∷ []) (own_events (length m'.variables) (length m'.symbols) (map f (drop (i + 1) xs)))
        ∙ ap (λ n. events ++ record { variable = length m.variables; symbol = suc (length m.symbols) } ∷ own_events n (length m'.symbols) (map f (drop (i + 1) xs)))
        (ap (λ z. length z.variables) step ∙ own_count (i + 1) m)
        ∙ ap (λ n. events ++ record { variable = length m.variables; symbol = suc (length m.symbols) } ∷ own_events (suc (length m.variables)) n (map f (drop (i + 1) xs)))
        (ap (λ z. length z.symbols) step ∙ own_symbols (i + 1) m)
        ∙ sym (ap (λ z. events ++ own_events (length m.variables) (length m.symbols) z) own_left) ∙ rest

-- a hit more
pub hits_next : (fs : List Mode) (c : CommonCause) (age : ℕ) (is : List ℕ) (i d : ℕ) (m m' all : FlatModel) → i < length is → m' ≡ with_hit fs c age (i + 1) (get_or is i d) m →
    with_hits fs c age (i + 1) (drop i is) m ≡ all → with_hits fs c age (i + 1 + 1) (drop (i + 1) is) m' ≡ all
hits_next fs c age is i d m m' all within step rest =
    let one : i + 1 + 1 ≡ suc (i + 1) = omega arith in
    ap (λ z. with_hits fs c age (i + 1 + 1) (drop (i + 1) is) z) step ∙ ap (λ n. with_hits fs c age n (drop (i + 1) is) (with_hit fs c age (i + 1) (get_or is i d) m)) one
    ∙ sym (ap (λ z. with_hits fs c age (i + 1) z m) (drop_more is i d within)) ∙ rest

-- a window more
module _ (fault : ℕ) {A : Type 0} (f : A → CommonCause) (xs : List A) (ages : List ℕ) (i : ℕ) (d : A) (e : ℕ) (within : i < length xs) (within_ages : i < length ages) where
  abbrev window : Tree FlatLeaf
  window = in_window (f (get_or xs i d)) (get_or ages i e)

  abbrev after : List (Tree FlatLeaf)
  after = windows_on fault (map f (drop (i + 1) xs)) (drop (i + 1) ages)

  window_left : windows_on fault (map f (drop i xs)) (drop i ages) ≡ (if has_number (f (get_or xs i d)).strikes fault then window ∷ after else after)
  window_left = (λ k. windows_on fault (map f (drop_more xs i d within k)) (drop_more ages i e within_ages k))

  joined_more : (o : Option (Tree FlatLeaf)) (w : Tree FlatLeaf) (ws : List (Tree FlatLeaf)) → joined_from (Some (either_tree o w)) ws ≡ joined_from o (w ∷ ws)
  joined_more None w ws = refl
  joined_more (Some v) w ws = refl

  if_true : {B : Type 0} (b : Bool) (x y : B) → b ≡ true → (if b then x else y) ≡ x
  if_true true x y h = refl
  if_true false x y h = cc

  if_false : {B : Type 0} (b : Bool) (x y : B) → b ≡ false → (if b then x else y) ≡ y
  if_false true x y h = cc
  if_false false x y h = refl

  pub window_next : (o : Option (Tree FlatLeaf)) (v all : Tree FlatLeaf) → has_number (f (get_or xs i d)).strikes fault ≡ true → v ≡ either_tree o window →
      joined_from o (windows_on fault (map f (drop i xs)) (drop i ages)) ≡ all → joined_from (Some v) after ≡ all
  window_next o v all is step rest =
      ap (λ z. joined_from (Some z) after) step ∙ joined_more o window after
      ∙ sym (ap (joined_from o) (window_left ∙ if_true (has_number (f (get_or xs i d)).strikes fault) (window ∷ after) after is)) ∙ rest

  pub window_passed : (o : Option (Tree FlatLeaf)) (all : Tree FlatLeaf) → has_number (f (get_or xs i d)).strikes fault ≡ false →
      joined_from o (windows_on fault (map f (drop i xs)) (drop i ages)) ≡ all → joined_from o after ≡ all
  window_passed o all is rest =
      sym (ap (joined_from o) (window_left ∙ if_false (has_number (f (get_or xs i d)).strikes fault) (window ∷ after) after is)) ∙ rest

-- a fact of what is made of each member holds at a place
pub each_map_get : {A B : Type 0} (P : B → Type 0) (f : A → B) (xs : List A) (i : ℕ) (d : A) → Each P (map f xs) → i < length xs → P (f (get_or xs i d))
each_map_get P f [] i d e h = absurd (omega (arith, h))
each_map_get P f (x ∷ xs) zero d e h = e.0
each_map_get P f (x ∷ xs) (suc i) d e h = each_map_get P f xs i d e.1 (omega (arith, h))

-- one name more is told
pub told_next : {A B : Type 0} (g : A → B) (xs : List A) (i : ℕ) (d : A) → i < length xs → (names all : List B) → names ++ map g (drop i xs) ≡ all →
    (names ++ g (get_or xs i d) ∷ []) ++ map g (drop (i + 1) xs) ≡ all
told_next g xs i d within names all rest =
    append_assoc names (g (get_or xs i d) ∷ []) (map g (drop (i + 1) xs))
    ∙ sym (ap (λ z. names ++ map g z) (drop_more xs i d within)) ∙ rest

-- a member of a list that has a place
pub first_of : {A : Type 0} (xs : List A) (i : ℕ) → i < length xs → A
first_of [] i h = absurd (omega (arith, h))
first_of (x ∷ xs) i h = x
