-- The definition that is listed at a number is that of the instance and the item which make it.
use Rattle.std.proofs.Common.{◌≡◌, ℕ, zero, suc, ◌+◌, ◌-◌, ◌<◌, ◌≤◌, arith, Bool, true, false, List, [], ◌∷◌, ◌++◌, length, Option, Some, None, refl, sym, ◌∙◌, ap}
use Rattle.std.specs.Prelude.{slice_get, flat_map, nat_lt, if◌then◌else◌, sum_by}
use Rattle.std.proofs.lemmas.Bool.{ltb-true, ltb-false}
use Rattle.std.proofs.lemmas.List.{length-append}
use Rattle.std.proofs.lemmas.List.Sums.{sum_by-cons}
use Rattle.smv_language.specs.Language.{Path, Formula, DeclaredTree, boolean, range, members, instance, ProgramTree, Place, actual_key, plain_name, FlatInstance}
use Rattle.smv_flat_laws.specs.Items.{Item, a_declaration, a_definition, an_assignment, some_constants, an_init, an_invar, a_trans, NumberedItem, items_named, instances_of}
use Rattle.smv_flat_laws.specs.Model.{Root, root_of_actual, roots_of_actuals, roots_of_type, roots_of_item, roots_of}
use Rattle.smv_flat_laws.proofs.KeysApart.{roots_of_items}
use Rattle.smv_flat_laws.specs.RootPlaces.{made_by_actual, made_by_type, made_by, made_at, root_or_later, root_of_actual_at, root_of_type_at, root_of_item_at, root_among_items, root_among, root_at}

-- Two lists, one after the other.
get_first : (xs ys : List Root) (k : ℕ) → k < length xs → slice_get (xs ++ ys) k ≡ slice_get xs k
get_first [] ys k h = absurd (omega (arith, h))
get_first (x ∷ xs) ys zero h = refl
get_first (x ∷ xs) ys (suc k) h = get_first xs ys k (omega (arith, h))

get_after : (xs ys : List Root) (k : ℕ) → length xs ≤ k → slice_get (xs ++ ys) k ≡ slice_get ys (k - length xs)
get_after [] ys k h = ap (slice_get ys) (minus_none k)
  where
    minus_none : (k : ℕ) → k ≡ k - 0
    minus_none k = omega arith
get_after (x ∷ xs) ys zero h = absurd (omega (arith, h))
get_after (x ∷ xs) ys (suc k) h = get_after xs ys k (omega (arith, h)) ∙ ap (slice_get ys) (minus_both k (length xs))
  where
    minus_both : (k n : ℕ) → k - n ≡ suc k - suc n
    minus_both k n = omega arith

-- Items.
actuals_long : (inside : Place) (i item : ℕ) (es : List Formula) → length (roots_of_actuals inside i item es) ≡ sum_by (λ e. made_by_actual (plain_name e)) es
actuals_long inside i item [] = refl
actuals_long inside i item (e ∷ es) = of_one (plain_name e) (actuals_long inside (suc i) item es) ∙ sym (sum_by-cons (λ e. made_by_actual (plain_name e)) e es)
  where
    of_one : (o : Option Path) → length (roots_of_actuals inside (suc i) item es) ≡ sum_by (λ e. made_by_actual (plain_name e)) es →
        length (root_of_actual inside i item o ++ roots_of_actuals inside (suc i) item es) ≡ made_by_actual o + sum_by (λ e. made_by_actual (plain_name e)) es
    of_one (Some name) h = h ∙ omega arith
    of_one None h = ap suc h ∙ omega arith

type_long : (inside : Place) (item : ℕ) (what : DeclaredTree) → length (roots_of_type inside item what) ≡ made_by_type what
type_long inside item boolean = refl
type_long inside item (range lo hi) = refl
type_long inside item (members ms) = refl
type_long inside item (instance m actuals) = actuals_long inside 0 item actuals

item_long : (at : Place) (n : ℕ) (i : Item) → length (roots_of_item at n i) ≡ made_by i
item_long at n (a_declaration role d) = type_long (d.name ∷ at) n d.what
item_long at n (a_definition d) = refl
item_long at n (an_assignment a) = refl
item_long at n (some_constants xs) = refl
item_long at n (an_init e) = refl
item_long at n (an_invar e) = refl
item_long at n (a_trans e) = refl

actual_there : (inside : Place) (i item : ℕ) (es : List Formula) (k : ℕ) → slice_get (roots_of_actuals inside i item es) k ≡ root_of_actual_at inside i item es k
actual_there inside i item [] k = refl
actual_there inside i item (e ∷ es) k = of_one (plain_name e) k (actual_there inside (suc i) item es)
  where
    of_one : (o : Option Path) (k : ℕ) → ((k : ℕ) → slice_get (roots_of_actuals inside (suc i) item es) k ≡ root_of_actual_at inside (suc i) item es k) →
        slice_get (root_of_actual inside i item o ++ roots_of_actuals inside (suc i) item es) k ≡ root_or_later (record { key = actual_key inside i; item = item }) (root_of_actual_at inside (suc i) item es) o k
    of_one (Some name) k rest = rest k
    of_one None zero rest = refl
    of_one None (suc k) rest = rest k

type_there : (inside : Place) (item : ℕ) (what : DeclaredTree) (k : ℕ) → slice_get (roots_of_type inside item what) k ≡ root_of_type_at inside item what k
type_there inside item boolean k = refl
type_there inside item (range lo hi) k = refl
type_there inside item (members ms) k = refl
type_there inside item (instance m actuals) k = actual_there inside 0 item actuals k

item_there : (at : Place) (n : ℕ) (i : Item) (k : ℕ) → slice_get (roots_of_item at n i) k ≡ root_of_item_at at n i k
item_there at n (a_declaration role d) k = type_there (d.name ∷ at) n d.what k
item_there at n (a_definition d) zero = refl
item_there at n (a_definition d) (suc k) = refl
item_there at n (an_assignment a) k = refl
item_there at n (some_constants xs) k = refl
item_there at n (an_init e) k = refl
item_there at n (an_invar e) k = refl
item_there at n (a_trans e) k = refl

-- A list that is one after another: what is listed in the first, or else in the second.
of_two : (xs ys : List Root) (before made k : ℕ) (first second : Option Root) → length xs ≡ made → before ≤ k → (k < before + made → slice_get xs (k - before) ≡ first) →
    (before + made ≤ k → slice_get ys (k - (before + made)) ≡ second) → slice_get (xs ++ ys) (k - before) ≡ (if nat_lt k (before + made) then first else second)
of_two xs ys before made k first second long from in_first in_second = by_test (nat_lt k (before + made)) refl
  where
    by_test : (b : Bool) → nat_lt k (before + made) ≡ b → slice_get (xs ++ ys) (k - before) ≡ (if nat_lt k (before + made) then first else second)
    by_test true t =
        let less : k < before + made = ltb-true k (before + made) t in
        rw t (get_first xs ys (k - before) (omega (arith, less, from, long)) ∙ in_first less)
    by_test false t =
        let past : before + made ≤ k = ltb-false k (before + made) t in
        let same : (k - before) - length xs ≡ k - (before + made) = omega (arith, past, from, long) in
        rw t (get_after xs ys (k - before) (omega (arith, past, from, long)) ∙ ap (slice_get ys) same ∙ in_second past)

among_items : (at : Place) (before : ℕ) (is : List NumberedItem) (k : ℕ) → before ≤ k → slice_get (roots_of_items at is) (k - before) ≡ root_among_items at before is k
among_items at before [] k from = refl
among_items at before (i ∷ is) k from =
    of_two (roots_of_item at i.number i.item) (roots_of_items at is) before (made_by i.item) k (root_of_item_at at i.number i.item (k - before)) (root_among_items at (before + made_by i.item) is k)
    (item_long at i.number i.item) from (λ less. item_there at i.number i.item (k - before)) (λ past. among_items at (before + made_by i.item) is k past)

items_long : (at : Place) (is : List NumberedItem) → length (roots_of_items at is) ≡ sum_by (λ (i : NumberedItem). made_by i.item) is
items_long at [] = refl
items_long at (i ∷ is) =
    length-append (roots_of_item at i.number i.item) (roots_of_items at is) ∙ ap (λ n. n + length (roots_of_items at is)) (item_long at i.number i.item)
    ∙ ap (λ n. made_by i.item + n) (items_long at is) ∙ sym (sum_by-cons (λ (i : NumberedItem). made_by i.item) i is)

among : (p : ProgramTree) (before : ℕ) (ats : List FlatInstance) (k : ℕ) → before ≤ k →
    slice_get (flat_map (λ (at : FlatInstance). roots_of_items at.place (items_named p at.module_name)) ats) (k - before) ≡ root_among p before ats k
among p before [] k from = refl
among p before (at ∷ ats) k from =
    of_two (roots_of_items at.place (items_named p at.module_name)) (flat_map (λ (at : FlatInstance). roots_of_items at.place (items_named p at.module_name)) ats) before (made_at p at) k
    (root_among_items at.place before (items_named p at.module_name) k) (root_among p (before + made_at p at) ats k)
    (items_long at.place (items_named p at.module_name)) from (λ less. among_items at.place before (items_named p at.module_name) k from) (λ past. among p (before + made_at p at) ats k past)

pub roots_by_items : (p : ProgramTree) (k : ℕ) → slice_get (roots_of p) k ≡ root_at p k
roots_by_items p k =
    let whole : k ≡ k - 0 = omega arith in
    let from : 0 ≤ k = omega arith in
    ap (slice_get (roots_of p)) whole ∙ among p 0 (instances_of p) k from
