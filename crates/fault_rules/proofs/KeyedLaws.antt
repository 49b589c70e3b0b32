-- What sets and maps of texts hold, as lists.
use Rattle.std.proofs.Common.{◌≡◌, ℕ, ◌+◌, ◌<◌, Bool, true, false, List, [], ◌∷◌, ◌++◌, Option, Some, None, map, refl, sym, ◌∙◌, ap, subst, nat_eq, is_some, length, get_or, drop}
use Rattle.std.specs.Prelude.{◌||◌, ◌&&◌, cond, if◌then◌else◌, option_map, flat_map}
use Rattle.std.specs.List.{list_any}
use Rattle.std.specs.Cmp.Lexicographic.{pointwise}
use Rattle.std.specs.Map.{lookup}
use Rattle.std.proofs.lemmas.List.{drop_more}
use Rattle.indexmap.specs.IndexMap.{insert_entry}
use Rattle.smv_language.specs.Language.{Text, same_text, is_among, first_with}
use Rattle.smv_language.proofs.ValueLaws.{both_true, same_text_equal}
use Rattle.fault_rules.specs.KeyedLists.{with_text, with_texts, with_entry, with_entries, is_pair_among, with_pair, with_pairs}
use Rattle.smv_language.proofs.BorrowedTexts.{same_bytes}
use Rattle.smv_language.proofs.BoolLaws.{if_true, if_false, or_false, or_assoc}
use Rattle.smv_language.proofs.AmongLaws.{among_joined}

pub map_push : {A B : Type 0} (f : A → B) (xs : List A) (x : A) → map f (xs ++ x ∷ []) ≡ map f xs ++ f x ∷ []
map_push f [] x = refl
map_push f (y ∷ xs) x = ap (λ ys. f y ∷ ys) (map_push f xs x)

pub texts_more : (xs ys zs : List Text) → with_texts xs (ys ++ zs) ≡ with_texts (with_texts xs ys) zs
texts_more xs [] zs = refl
texts_more xs (y ∷ ys) zs = texts_more (with_text xs y) ys zs

-- what the first entry has, also through what texts and values stand for
pub found_first : {K V B : Type 0} (text : K → Text) (value : V → B) (es : List (K × V)) (x : Text) →
    option_map value (lookup (λ k. pointwise nat_eq x (text k)) es) ≡ first_with (map (λ e. (text e.0, value e.1)) es) x
found_first text value [] x = refl
found_first text value (e ∷ es) x = go (pointwise nat_eq x (text e.0)) (same_text (text e.0) x) (same_bytes x (text e.0)) (found_first text value es x)
  where
    go : (a b : Bool) → a ≡ b → option_map value (lookup (λ k. pointwise nat_eq x (text k)) es) ≡ first_with (map (λ e. (text e.0, value e.1)) es) x →
        option_map value (cond a (Some e.1) (lookup (λ k. pointwise nat_eq x (text k)) es)) ≡ (if b then Some (value e.1) else first_with (map (λ e. (text e.0, value e.1)) es) x)
    go true true h more = refl
    go false false h more = more
    go true false h more = cc
    go false true h more = cc

-- an entry that is put goes last, where its key is new
push_entry : {K V : Type 0} (eq : K → K → Bool) (es : List (K × V)) (k : K) (v : V) → lookup (eq k) es ≡ None → insert_entry eq es k v ≡ es ++ (k, v) ∷ []
push_entry eq [] k v h = refl
push_entry eq (e ∷ es) k v h = go (eq k e.0) h (λ g. push_entry eq es k v g)
  where
    go : (a : Bool) → cond a (Some e.1) (lookup (eq k) es) ≡ None → (lookup (eq k) es ≡ None → insert_entry eq es k v ≡ es ++ (k, v) ∷ []) →
        (if a then (e.0, v) ∷ es else e ∷ insert_entry eq es k v) ≡ e ∷ (es ++ (k, v) ∷ [])
    go true h more = cc
    go false h more = ap (λ fs. e ∷ fs) (more h)

none_of : {V B : Type 0} (value : V → B) (o : Option V) → is_some o ≡ false → o ≡ None
none_of value None h = refl
none_of value (Some v) h = cc

pub some_mapped : {V B : Type 0} (value : V → B) (o : Option V) → is_some (option_map value o) ≡ is_some o
some_mapped value None = refl
some_mapped value (Some v) = refl

module _ {K V B : Type 0} (text : K → Text) (value : V → B) (es : List (K × V)) (k : K) (v : V) where
  abbrev seen : List (K × V) → List (Text × B)
  seen fs = map (λ e. (text e.0, value e.1)) fs

  has_first : is_some (lookup (λ j. pointwise nat_eq (text k) (text j)) es) ≡ is_some (first_with (seen es) (text k))
  has_first = sym (some_mapped value (lookup (λ j. pointwise nat_eq (text k) (text j)) es)) ∙ ap is_some (found_first text value es (text k))

  -- and goes last where its text has none
  pub entry_put : is_some (lookup (λ j. pointwise nat_eq (text k) (text j)) es) ≡ false →
      seen (insert_entry (λ i j. pointwise nat_eq (text i) (text j)) es k v) ≡ with_entry (seen es) (text k, value v)
  entry_put h =
      ap seen (push_entry (λ i j. pointwise nat_eq (text i) (text j)) es k v (none_of value (lookup (λ j. pointwise nat_eq (text k) (text j)) es) h))
      ∙ map_push (λ e. (text e.0, value e.1)) es (k, v)
      ∙ sym (if_false (is_some (first_with (seen es) (text k))) (seen es) (seen es ++ (text k, value v) ∷ []) (sym has_first ∙ h))

pub entries_more : {B : Type 0} (es fs gs : List (Text × B)) → with_entries es (fs ++ gs) ≡ with_entries (with_entries es fs) gs
entries_more es [] gs = refl
entries_more es (f ∷ fs) gs = entries_more (with_entry es f) fs gs

-- a set of pairs has those of its list
both_bytes : (a b x y : Text) → (pointwise nat_eq a x && pointwise nat_eq b y) ≡ (same_text x a && same_text y b)
both_bytes a b x y = λ i. same_bytes a x i && same_bytes b y i

pub any_pair : {K : Type 0} (first second : K → Text) (ks : List K) (a b : Text) →
    list_any (λ k. pointwise nat_eq a (first k) && pointwise nat_eq b (second k)) ks ≡ is_pair_among (map (λ k. (first k, second k)) ks) (a, b)
any_pair first second [] a b = refl
any_pair first second (k ∷ ks) a b = λ i. both_bytes a b (first k) (second k) i || any_pair first second ks a b i

pub put_pair : {K : Type 0} (first second : K → Text) (ks : List K) (k : K) →
    map {B = Text × Text} (λ j. (first j, second j)) (if list_any (λ j. pointwise nat_eq (first k) (first j) && pointwise nat_eq (second k) (second j)) ks then ks else ks ++ k ∷ [])
    ≡ with_pair (map (λ j. (first j, second j)) ks) (first k, second k)
put_pair first second ks k =
    go (list_any (λ j. pointwise nat_eq (first k) (first j) && pointwise nat_eq (second k) (second j)) ks) (is_pair_among (map (λ j. (first j, second j)) ks) (first k, second k))
    (any_pair first second ks (first k) (second k))
  where
    go : (a b : Bool) → a ≡ b →
        map {B = Text × Text} (λ j. (first j, second j)) (if a then ks else ks ++ k ∷ []) ≡ (if b then map (λ j. (first j, second j)) ks else map (λ j. (first j, second j)) ks ++ (first k, second k) ∷ [])
    go true true e = refl
    go false false e = map_push {B = Text × Text} (λ j. (first j, second j)) ks k
    go true false e = cc
    go false true e = cc

pub pairs_more : (ps qs rs : List (Text × Text)) → with_pairs ps (qs ++ rs) ≡ with_pairs (with_pairs ps qs) rs
pairs_more ps [] rs = refl
pairs_more ps (q ∷ qs) rs = pairs_more (with_pair ps q) qs rs

-- a text is among texts with one more where it is among them or is that one
pub or_same : (xs : List Text) (y x : Text) (b : Bool) → is_among xs y ≡ true → (b ≡ true → y ≡ x) → is_among xs x ≡ (is_among xs x || b)
or_same xs y x false h e = sym (or_false (is_among xs x))
or_same xs y x true h e = let here : is_among xs x ≡ true = subst (λ z. is_among xs z ≡ true) (e refl) h in rw here refl

pub among_with : (xs : List Text) (y x : Text) → is_among (with_text xs y) x ≡ (is_among xs x || same_text y x)
among_with xs y x = go (is_among xs y) refl
  where
    go : (a : Bool) → is_among xs y ≡ a → is_among (if a then xs else xs ++ y ∷ []) x ≡ (is_among xs x || same_text y x)
    go true h = or_same xs y x (same_text y x) h (same_text_equal y x)
    go false h = among_joined xs (y ∷ []) x ∙ ap (λ b. is_among xs x || b) (or_false (same_text y x))

-- and with some more where it is among either
pub among_texts : (xs ys : List Text) (x : Text) → is_among (with_texts xs ys) x ≡ (is_among xs x || is_among ys x)
among_texts xs [] x = sym (or_false (is_among xs x))
among_texts xs (y ∷ ys) x = among_texts (with_text xs y) ys x ∙ ap (λ b. b || is_among ys x) (among_with xs y x) ∙ or_assoc (is_among xs x) (same_text y x) (is_among ys x)

-- the same of pairs
abbrev same_pair : Text × Text → Text × Text → Bool
same_pair b q = same_text b.0 q.0 && same_text b.1 q.1

pair_append : (ps qs : List (Text × Text)) (q : Text × Text) → is_pair_among (ps ++ qs) q ≡ (is_pair_among ps q || is_pair_among qs q)
pair_append [] qs q = refl
pair_append (p ∷ ps) qs q = ap (λ b. same_pair p q || b) (pair_append ps qs q) ∙ sym (or_assoc (same_pair p q) (is_pair_among ps q) (is_pair_among qs q))

or_same_pair : (ps : List (Text × Text)) (r q : Text × Text) (b : Bool) → is_pair_among ps r ≡ true → (b ≡ true → (r.0 ≡ q.0) × (r.1 ≡ q.1)) →
    is_pair_among ps q ≡ (is_pair_among ps q || b)
or_same_pair ps r q false h e = sym (or_false (is_pair_among ps q))
or_same_pair ps r q true h e =
    let first : is_pair_among ps (q.0, r.1) ≡ true = subst (λ z. is_pair_among ps (z, r.1) ≡ true) (e refl).0 h in
    let here : is_pair_among ps q ≡ true = subst (λ z. is_pair_among ps (q.0, z) ≡ true) (e refl).1 first in
    rw here refl

same_pair_equal : (r q : Text × Text) → same_pair r q ≡ true → (r.0 ≡ q.0) × (r.1 ≡ q.1)
same_pair_equal r q h =
    let parts : (same_text r.0 q.0 ≡ true) × (same_text r.1 q.1 ≡ true) = both_true (same_text r.0 q.0) (same_text r.1 q.1) h in
    (same_text_equal r.0 q.0 parts.0, same_text_equal r.1 q.1 parts.1)

pair_with : (ps : List (Text × Text)) (r q : Text × Text) → is_pair_among (with_pair ps r) q ≡ (is_pair_among ps q || same_pair r q)
pair_with ps r q = go (is_pair_among ps r) refl
  where
    go : (a : Bool) → is_pair_among ps r ≡ a → is_pair_among (if a then ps else ps ++ r ∷ []) q ≡ (is_pair_among ps q || same_pair r q)
    go true h = or_same_pair ps r q (same_pair r q) h (same_pair_equal r q)
    go false h = pair_append ps (r ∷ []) q ∙ ap (λ b. is_pair_among ps q || b) (or_false (same_pair r q))

pub among_pairs : (ps qs : List (Text × Text)) (q : Text × Text) → is_pair_among (with_pairs ps qs) q ≡ (is_pair_among ps q || is_pair_among qs q)
among_pairs ps [] q = sym (or_false (is_pair_among ps q))
among_pairs ps (r ∷ qs) q = among_pairs (with_pair ps r) qs q ∙ ap (λ b. b || is_pair_among qs q) (pair_with ps r q) ∙ or_assoc (is_pair_among ps q) (same_pair r q) (is_pair_among qs q)

-- the first of either
abbrev pub or_first : {B : Type 0} → Option B → Option B → Option B
or_first None o = o
or_first (Some b) o = Some b

first_none : {B : Type 0} (o : Option B) → or_first o None ≡ o
first_none None = refl
first_none (Some b) = refl

first_some : {B : Type 0} (o p : Option B) → is_some o ≡ true → o ≡ or_first o p
first_some None p h = cc
first_some (Some b) p h = refl

first_assoc : {B : Type 0} (o p q : Option B) → or_first (or_first o p) q ≡ or_first o (or_first p q)
first_assoc None p q = refl
first_assoc (Some b) p q = refl

pub first_append : {B : Type 0} (es fs : List (Text × B)) (x : Text) → first_with (es ++ fs) x ≡ or_first (first_with es x) (first_with fs x)
first_append [] fs x = refl
first_append {B} (e ∷ es) fs x = go (same_text e.0 x) (first_append es fs x)
  where
    go : (a : Bool) → first_with (es ++ fs) x ≡ or_first (first_with es x) (first_with fs x) →
        (if a then Some e.1 else first_with (es ++ fs) x) ≡ or_first (if a then Some e.1 else first_with es x) (first_with fs x)
    go true h = refl
    go false h = h

first_cons : {B : Type 0} (f : Text × B) (fs : List (Text × B)) (x : Text) → first_with (f ∷ fs) x ≡ or_first (first_with (f ∷ []) x) (first_with fs x)
first_cons f fs x = first_append (f ∷ []) fs x

first_entry : {B : Type 0} (es : List (Text × B)) (e : Text × B) (x : Text) → first_with (with_entry es e) x ≡ or_first (first_with es x) (first_with (e ∷ []) x)
first_entry {B} es e x = go (is_some (first_with es e.0)) refl
  where
    same : (b : Bool) → (b ≡ true → e.0 ≡ x) → is_some (first_with es e.0) ≡ true → first_with es x ≡ or_first (first_with es x) (if b then Some e.1 else None)
    same false t h = sym (first_none (first_with es x))
    same true t h = first_some (first_with es x) (Some e.1) (subst (λ z. is_some (first_with es z) ≡ true) (t refl) h)

    go : (a : Bool) → is_some (first_with es e.0) ≡ a → first_with (if a then es else es ++ e ∷ []) x ≡ or_first (first_with es x) (first_with (e ∷ []) x)
    go true h = same (same_text e.0 x) (same_text_equal e.0 x) h
    go false h = first_append es (e ∷ []) x

pub first_entries : {B : Type 0} (es fs : List (Text × B)) (x : Text) → first_with (with_entries es fs) x ≡ or_first (first_with es x) (first_with fs x)
first_entries es [] x = sym (first_none (first_with es x))
first_entries es (f ∷ fs) x =
    first_entries (with_entry es f) fs x ∙ ap (λ o. or_first o (first_with fs x)) (first_entry es f x) ∙ first_assoc (first_with es x) (first_with (f ∷ []) x) (first_with fs x)
    ∙ ap (or_first (first_with es x)) (sym (first_cons f fs x))

pub texts_tree_step : {A B : Type 0} (f : B → List Text) (g : A → B) (ts : List Text) (xs : List A) (i : ℕ) (d : A) → i < length xs →
    with_texts ts (flat_map f (map g (drop i xs))) ≡ with_texts (with_texts ts (f (g (get_or xs i d)))) (flat_map f (map g (drop (i + 1) xs)))
texts_tree_step f g ts xs i d h = ap (λ ys. with_texts ts (flat_map f (map g ys))) (drop_more xs i d h) ∙ texts_more ts (f (g (get_or xs i d))) (flat_map f (map g (drop (i + 1) xs)))

pub entries_flat_step : {A B C : Type 0} (f : B → List (Text × C)) (g : A → B) (es : List (Text × C)) (xs : List A) (i : ℕ) (d : A) → i < length xs →
    with_entries es (flat_map f (map g (drop i xs))) ≡ with_entries (with_entries es (f (g (get_or xs i d)))) (flat_map f (map g (drop (i + 1) xs)))
entries_flat_step f g es xs i d h =
    ap (λ ys. with_entries es (flat_map f (map g ys))) (drop_more xs i d h) ∙ entries_more es (f (g (get_or xs i d))) (flat_map f (map g (drop (i + 1) xs)))

-- a key is there where its text is
pub has_key : {K V B : Type 0} (text : K → Text) (value : V → B) (es : List (K × V)) (x : Text) →
    is_some (lookup (λ k. pointwise nat_eq x (text k)) es) ≡ is_some (first_with (map (λ e. (text e.0, value e.1)) es) x)
has_key text value es x = sym (some_mapped value (lookup (λ k. pointwise nat_eq x (text k)) es)) ∙ ap is_some (found_first text value es x)

-- an entry stays away or goes last, where the text is the key's
module _ {K V B : Type 0} (text : K → Text) (value : V → B) (es : List (K × V)) (x y : Text) (same : x ≡ y) where
  pub keep_entry : (b : B) → is_some (lookup (λ j. pointwise nat_eq x (text j)) es) ≡ true → map (λ e. (text e.0, value e.1)) es ≡ with_entry (map (λ e. (text e.0, value e.1)) es) (y, b)
  keep_entry b h =
      sym (if_true (is_some (first_with (map (λ e. (text e.0, value e.1)) es) y)) (map (λ e. (text e.0, value e.1)) es) (map (λ e. (text e.0, value e.1)) es ++ (y, b) ∷ [])
      (ap (λ z. is_some (first_with (map (λ e. (text e.0, value e.1)) es) z)) (sym same) ∙ sym (has_key text value es x) ∙ h))

  pub put_entry : (k : K) (v : V) → text k ≡ y → is_some (lookup (λ j. pointwise nat_eq x (text j)) es) ≡ false →
      map (λ e. (text e.0, value e.1)) (insert_entry (λ i j. pointwise nat_eq (text i) (text j)) es k v) ≡ with_entry (map (λ e. (text e.0, value e.1)) es) (y, value v)
  put_entry k v own h =
      entry_put text value es k v (ap (λ z. is_some (lookup (λ j. pointwise nat_eq z (text j)) es)) (own ∙ sym same) ∙ h)
      ∙ ap (λ z. with_entry (map (λ e. (text e.0, value e.1)) es) (z, value v)) own

-- the loops over trees, one on
pub texts_next : {A B : Type 0} (f : B → List Text) (g : A → B) (ts ts' all : List Text) (xs : List A) (i : ℕ) (x : A) → i < length xs → x ≡ get_or xs i x → ts' ≡ with_texts ts (f (g x)) →
    with_texts ts (flat_map f (map g (drop i xs))) ≡ all → with_texts ts' (flat_map f (map g (drop (i + 1) xs))) ≡ all
texts_next f g ts ts' all xs i x below here step rest =
    ap (λ us. with_texts us (flat_map f (map g (drop (i + 1) xs)))) (step ∙ ap (λ y. with_texts ts (f (g y))) here) ∙ sym (texts_tree_step f g ts xs i x below) ∙ rest

pub entries_next : {A B C : Type 0} (f : B → List (Text × C)) (g : A → B) (es es' all : List (Text × C)) (xs : List A) (i : ℕ) (x : A) → i < length xs → x ≡ get_or xs i x → es' ≡ with_entries es (f (g x)) →
    with_entries es (flat_map f (map g (drop i xs))) ≡ all → with_entries es' (flat_map f (map g (drop (i + 1) xs))) ≡ all
entries_next f g es es' all xs i x below here step rest =
    ap (λ fs. with_entries fs (flat_map f (map g (drop (i + 1) xs)))) (step ∙ ap (λ y. with_entries es (f (g y))) here) ∙ sym (entries_flat_step f g es xs i x below) ∙ rest

pub ruleset keyed_rules = (texts_more, entries_more)
