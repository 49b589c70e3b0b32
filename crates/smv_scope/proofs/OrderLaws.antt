-- An order of numbers that are laid has each of them once, and none of them leads back to itself.
use Rattle.std.proofs.Common.{◌≡◌, ℕ, zero, suc, ◌+◌, ◌<◌, arith, List, [], ◌∷◌, ◌++◌, length, set, Some, refl, ap, ◌∙◌, sym, subst, ◌⊎◌, inl, inr}
use Rattle.std.proofs.lemmas.List.{append-nil, append_assoc, length-set}
use Rattle.std.specs.Prelude.{slice_get}
use Rattle.smv_scope.specs.Links.{Graph, Has, Reaches, start, further}
use Rattle.smv_scope.specs.DefinitionOrder.{upto, upto_from, Lays, stands, comes, LaysAll, no_more, one_more, placed_from, Once}
use Rattle.smv_scope.proofs.LinkLaws.{has_left, has_right, has_either}
use Rattle.smv_scope.proofs.LayLaws.{upto_within}

-- what is reached from some is reached from more
reaches_more : (g : Graph) (xs ys : List ℕ) (k : ℕ) → ((j : ℕ) → Has xs j → Reaches g ys j) → Reaches g xs k → Reaches g ys k
reaches_more g xs ys k each (start h) = each k h
reaches_more g xs ys k each (further {a = a} from to) = further (reaches_more g xs ys a each from) to

abbrev Closed : Graph → List ℕ → Type 0
Closed g xs = (a b : ℕ) → Has xs a → Has (g a) b → Has xs b

-- what is reached from inside stays inside
stays_in : (g : Graph) (xs starts : List ℕ) (k : ℕ) → Closed g xs → ((j : ℕ) → Has starts j → Has xs j) → Reaches g starts k → Has xs k
stays_in g xs starts k closed each (start h) = each k h
stays_in g xs starts k closed each (further {a = a} from to) = closed a k (stays_in g xs starts a closed each from) to

-- an element at the end of a list
at_end : (xs : List ℕ) (x i k : ℕ) → slice_get (xs ++ x ∷ []) i ≡ Some k → (slice_get xs i ≡ Some k) ⊎ ((i ≡ length xs) × (x ≡ k))
at_end [] x zero k e = inr (refl, some_same e)
  where
    some_same : Some x ≡ Some k → x ≡ k
    some_same e = cc
at_end [] x (suc i) k e = cc
at_end (y ∷ xs) x zero k e = inl e
at_end (y ∷ xs) x (suc i) k e = one_on (at_end xs x i k e)
  where
    one_on : (slice_get xs i ≡ Some k) ⊎ ((i ≡ length xs) × (x ≡ k)) → (slice_get xs i ≡ Some k) ⊎ ((suc i ≡ suc (length xs)) × (x ≡ k))
    one_on (inl h) = inl h
    one_on (inr h) = inr (ap suc h.0, h.1)

pub has_at : (xs : List ℕ) (i k : ℕ) → slice_get xs i ≡ Some k → Has xs k
has_at [] i k e = cc
has_at (x ∷ xs) zero k e = inl some_same
  where
    some_same : x ≡ k
    some_same = cc
has_at (x ∷ xs) (suc i) k e = inr (has_at xs i k e)

pub at_has : (xs : List ℕ) (k : ℕ) → Has xs k → (i : ℕ) × (slice_get xs i ≡ Some k)
at_has [] k h = absurd h
at_has (x ∷ xs) k (inl e) = (0, ap Some e)
at_has (x ∷ xs) k (inr h) = let more : (i : ℕ) × (slice_get xs i ≡ Some k) = at_has xs k h in (suc more.0, more.1)

once_more : (xs : List ℕ) (x : ℕ) → (Has xs x → ⊥) → Once xs → Once (xs ++ x ∷ [])
once_more xs x out once i j k e f = by_sides (at_end xs x i k e) (at_end xs x j k f)
  where
    by_sides : (slice_get xs i ≡ Some k) ⊎ ((i ≡ length xs) × (x ≡ k)) → (slice_get xs j ≡ Some k) ⊎ ((j ≡ length xs) × (x ≡ k)) → i ≡ j
    by_sides (inl a) (inl b) = once i j k a b
    by_sides (inl a) (inr b) = absurd (out (subst (Has xs) (sym b.1) (has_at xs i k a)))
    by_sides (inr a) (inl b) = absurd (out (subst (Has xs) (sym a.1) (has_at xs j k b)))
    by_sides (inr a) (inr b) = a.0 ∙ sym b.0

-- what laying some numbers does to an order
pub record Grows (g : Graph) (ks done after : List ℕ) : Type 0 where
  pub more : List ℕ
  pub is : after ≡ done ++ more
  pub closed : Closed g after
  pub has : (k : ℕ) → Has ks k → Has after k
  pub loopless : (x : ℕ) → Has more x → Reaches g (g x) x → ⊥
  pub reached : (x : ℕ) → Has more x → Reaches g ks x
  pub once : Once after

stands_grows : (g : Graph) (done : List ℕ) (k : ℕ) → Has done k → Closed g done → Once done → Grows g (k ∷ []) done done
stands_grows g done k h closed once =
    record {
      more = [];
      is = sym (append-nil done);
      closed = closed;
      has = λ j a. there j a;
      loopless = λ x a. absurd a;
      reached = λ x a. absurd a;
      once = once;
    }
  where
    there : (j : ℕ) → Has (k ∷ []) j → Has done j
    there j (inl e) = subst (Has done) e h
    there j (inr a) = absurd a

comes_grows : (g : Graph) (done after : List ℕ) (k : ℕ) → (Has done k → ⊥) → Grows g (g k) done after → Grows g (k ∷ []) done (after ++ k ∷ [])
comes_grows g done after k not m =
    record {
      more = m.more ++ k ∷ [];
      is = ap (λ xs. xs ++ k ∷ []) m.is ∙ append_assoc done m.more (k ∷ []);
      closed = λ a b h to. closed a b (has_either after (k ∷ []) a h) to;
      has = λ j h. there j h;
      loopless = λ x h. loopless x (has_either m.more (k ∷ []) x h);
      reached = λ x h. reached x (has_either m.more (k ∷ []) x h);
      once = once_more after k out m.once;
    }
  where
    new : Has m.more k → ⊥
    new h = m.loopless k h (m.reached k h)

    by_side : Has done k ⊎ Has m.more k → ⊥
    by_side (inl h) = not h
    by_side (inr h) = new h

    out : Has after k → ⊥
    out h = by_side (has_either done m.more k (subst (λ xs. Has xs k) m.is h))

    closed : (a b : ℕ) → Has after a ⊎ Has (k ∷ []) a → Has (g a) b → Has (after ++ k ∷ []) b
    closed a b (inl h) to = has_left after (k ∷ []) b (m.closed a b h to)
    closed a b (inr (inl e)) to = has_left after (k ∷ []) b (m.has b (subst (λ n. Has (g n) b) (sym e) to))
    closed a b (inr (inr h)) to = absurd h

    there : (j : ℕ) → Has (k ∷ []) j → Has (after ++ k ∷ []) j
    there j h = has_right after (k ∷ []) j h

    no_loop : Reaches g (g k) k → ⊥
    no_loop r = out (stays_in g after (g k) k m.closed m.has r)

    loopless : (x : ℕ) → Has m.more x ⊎ Has (k ∷ []) x → Reaches g (g x) x → ⊥
    loopless x (inl h) = m.loopless x h
    loopless x (inr (inl e)) = subst (λ n. Reaches g (g n) n → ⊥) e no_loop
    loopless x (inr (inr h)) = absurd h

    from_k : (x : ℕ) → Reaches g (g k) x → Reaches g (k ∷ []) x
    from_k x r = reaches_more g (g k) (k ∷ []) x (λ j to. further (start (inl refl)) to) r

    reached : (x : ℕ) → Has m.more x ⊎ Has (k ∷ []) x → Reaches g (k ∷ []) x
    reached x (inl h) = from_k x (m.reached x h)
    reached x (inr h) = start h

both_grow : (g : Graph) (done between after ks : List ℕ) (k : ℕ) → Grows g (k ∷ []) done between → Grows g ks between after → Grows g (k ∷ ks) done after
both_grow g done between after ks k a b =
    record {
      more = a.more ++ b.more;
      is = b.is ∙ ap (λ xs. xs ++ b.more) a.is ∙ append_assoc done a.more b.more;
      closed = b.closed;
      has = λ j h. there j h;
      loopless = λ x h. loopless x (has_either a.more b.more x h);
      reached = λ x h. reached x (has_either a.more b.more x h);
      once = b.once;
    }
  where
    there : (j : ℕ) → Has (k ∷ ks) j → Has after j
    there j (inl e) = subst (λ xs. Has xs j) (sym b.is) (has_left between b.more j (a.has j (inl e)))
    there j (inr h) = b.has j h

    loopless : (x : ℕ) → Has a.more x ⊎ Has b.more x → Reaches g (g x) x → ⊥
    loopless x (inl h) = a.loopless x h
    loopless x (inr h) = b.loopless x h

    one_of : (j : ℕ) → Has (k ∷ []) j → Reaches g (k ∷ ks) j
    one_of j (inl e) = start (inl e)
    one_of j (inr h) = absurd h

    reached : (x : ℕ) → Has a.more x ⊎ Has b.more x → Reaches g (k ∷ ks) x
    reached x (inl h) = reaches_more g (k ∷ []) (k ∷ ks) x one_of (a.reached x h)
    reached x (inr h) = reaches_more g ks (k ∷ ks) x (λ j i. start (inr i)) (b.reached x h)

mutual
  grows : (g : Graph) (done after : List ℕ) (k : ℕ) → Closed g done → Once done → Lays g done k after → Grows g (k ∷ []) done after
  grows g done after k closed once (stands h) = stands_grows g done k h closed once
  grows g done after k closed once (comes {after = mid} not all) = comes_grows g done mid k not (grows_all g done mid (g k) closed once all)

  grows_all : (g : Graph) (done after ks : List ℕ) → Closed g done → Once done → LaysAll g done ks after → Grows g ks done after
  grows_all g done after ks closed once no_more =
      record {
        more = [];
        is = sym (append-nil done);
        closed = closed;
        has = λ j a. absurd a;
        loopless = λ x a. absurd a;
        reached = λ x a. absurd a;
        once = once;
      }
  grows_all g done after ks closed once (one_more {between = between} {more = more} {k = k} lays all) =
      let a : Grows g (k ∷ []) done between = grows g done between k closed once lays in
      both_grow g done between after more k a (grows_all g between after more a.closed a.once all)

once_none : Once []
once_none i j k e f = cc

pub grown : (g : Graph) (ks order : List ℕ) → LaysAll g [] ks order → Grows g ks [] order
grown g ks order all = grows_all g [] order ks (λ a b h. absurd h) once_none all

upto_has : (from n k : ℕ) → k < n → Has (upto_from from n) (from + k)
upto_has from zero k h = absurd (omega (arith, h))
upto_has from (suc n) zero h = inl same
  where
    same : from ≡ from + 0
    same = omega arith
upto_has from (suc n) (suc k) h = inr (subst (Has (upto_from (suc from) n)) same (upto_has (suc from) n k (omega (arith, h))))
  where
    same : suc from + k ≡ from + suc k
    same = omega arith

pub in_upto : (n k : ℕ) → k < n → Has (upto n) k
in_upto n k h = subst (Has (upto n)) same (upto_has 0 n k h)
  where
    same : 0 + k ≡ k
    same = omega arith

pub upto_below : (n k : ℕ) → Has (upto n) k → k < n
upto_below n k h = let more : k < 0 + n = upto_within 0 n k h in omega (arith, more)

-- places that are set one after another
set_at : (ps : List ℕ) (k v : ℕ) → k < length ps → slice_get (set ps k v) k ≡ Some v
set_at [] k v h = absurd (omega arith)
set_at (p ∷ ps) zero v h = refl
set_at (p ∷ ps) (suc k) v h = set_at ps k v (omega arith)

set_besides : (ps : List ℕ) (k j v : ℕ) → (k ≡ j → ⊥) → slice_get (set ps k v) j ≡ slice_get ps j
set_besides [] k j v other = refl
set_besides (p ∷ ps) zero zero v other = absurd (other refl)
set_besides (p ∷ ps) zero (suc j) v other = refl
set_besides (p ∷ ps) (suc k) zero v other = refl
set_besides (p ∷ ps) (suc k) (suc j) v other = set_besides ps k j v (λ e. other (ap suc e))

pub placed_size : (ps : List ℕ) (i : ℕ) (ks : List ℕ) → length (placed_from ps i ks) ≡ length ps
placed_size ps i [] = refl
placed_size ps i (k ∷ ks) = placed_size (set ps k i) (suc i) ks ∙ length-set ps k i

placed_besides : (ps : List ℕ) (i : ℕ) (ks : List ℕ) (k : ℕ) → (Has ks k → ⊥) → slice_get (placed_from ps i ks) k ≡ slice_get ps k
placed_besides ps i [] k out = refl
placed_besides ps i (j ∷ ks) k out = placed_besides (set ps j i) (suc i) ks k (λ h. out (inr h)) ∙ set_besides ps j k i (λ e. out (inl e))

once_tail : (x : ℕ) (xs : List ℕ) → Once (x ∷ xs) → Once xs
once_tail x xs once i j k e f = one_back (once (suc i) (suc j) k e f)
  where
    one_back : suc i ≡ suc j → i ≡ j
    one_back h = cc

once_head : (x : ℕ) (xs : List ℕ) → Once (x ∷ xs) → Has xs x → ⊥
once_head x xs once h = let a : (i : ℕ) × (slice_get xs i ≡ Some x) = at_has xs x h in differs a.0 (once 0 (suc a.0) x refl a.1)
  where
    differs : (i : ℕ) → 0 ≡ suc i → ⊥
    differs i e = cc

pub placed_is : (ps : List ℕ) (i : ℕ) (ks : List ℕ) (j k : ℕ) → Once ks → k < length ps → slice_get ks j ≡ Some k → slice_get (placed_from ps i ks) k ≡ Some (i + j)
placed_is ps i [] j k once within e = cc
placed_is ps i (x ∷ ks) zero k once within e =
    placed_besides (set ps x i) (suc i) ks k (λ h. once_head x ks once (subst (Has ks) (sym same) h)) ∙ subst (λ n. slice_get (set ps n i) k ≡ Some i) (sym same) (set_at ps k i within) ∙ ap Some none
  where
    same : x ≡ k
    same = cc

    none : i ≡ i + 0
    none = omega arith
placed_is ps i (x ∷ ks) (suc j) k once within e =
    placed_is (set ps x i) (suc i) ks j k (once_tail x ks once) (subst (λ n. k < n) (sym (length-set ps x i)) within) e ∙ ap Some next
  where
    next : suc i + j ≡ i + suc j
    next = omega arith
