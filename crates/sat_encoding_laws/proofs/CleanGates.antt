-- Gates use no variables but those of their operands, the constant and their own.
use Rattle.std.proofs.Common.{ℕ, zero, suc, ◌+◌, ◌-◌, ◌/◌, ◌%◌, ◌≤◌, eqb, max, Bool, true, false, cond, ℤ, pos, negsuc, List, [], ◌∷◌, ◌++◌, map, take, drop, reverse, length, sym, subst, arith}
use Rattle.std.proofs.lemmas.List.{reverse-append}
use Rattle.std.specs.Prelude.{zip}
use Rattle.std.specs.List.{AllByRecursion}
use Rattle.sat_clauses.specs.Literal.{Literal, opposite}
use Rattle.sat_circuits.specs.Circuit.{Circuit, with_gate, after, fold_gates}
use Rattle.sat_circuits.specs.Gates.{and_gate, or_gate, xor_gate, mux_gate, constant_lit, differ}
use Rattle.sat_circuits.specs.Bits.{fit_from, last_from}
use Rattle.sat_circuits.specs.Words.{fit, sign_of, zeros, push_gate, map_gates}
use Rattle.sat_circuits.specs.Sums.{full_adder, sum_step, sum_gates, add_gates, subtract_gates, negate_gates, less_gates, equal_step, equal_gates}
use Rattle.sat_circuits.specs.Numbers.{digits_from, number_word}
use Rattle.sat_circuits.specs.Products.{row_gates, product_step, product_gates, multiply_gates}
use Rattle.sat_circuits.specs.Quotients.{choose_gates, negate_where_gates, magnitude_gates, divide_bit, quotient_step, long_division_gates, magnitudes_gates, divide_gates, remainder_gates}
use Rattle.sat_circuits.specs.Counts.{count_gate, count_step, first_from, at_most_gates}
use Rattle.base_values.proofs.ListLaws.{all_joined}

-- a set of variables with the constant's, and every one from n on
pub record IsOpen (n : ℕ) (A : ℕ → Type 0) : Type 0 where
  pub one : A 1
  pub gates : (x : ℕ) → n ≤ x → A x

module _ (n : ℕ) (A : ℕ → Type 0) (open_from : IsOpen n A) where
  -- a literal of such a variable
  abbrev pub CleanLiteral : Literal → Type 0
  CleanLiteral l = A l.var

  abbrev pub CleanWord : List Literal → Type 0
  CleanWord w = AllByRecursion CleanLiteral w

  abbrev pub CleanClauses : List (List Literal) → Type 0
  CleanClauses cs = AllByRecursion CleanWord cs

  pub record IsClean (s : Circuit) : Type 0 where
    pub clauses : CleanClauses s.clauses
    pub from : n ≤ s.free

  -- what was built is clean, and so is what was given
  pub record Clean {B : Type 0} (P : B → Type 0) (r : Circuit × B) : Type 0 where
    pub circuit : IsClean r.0
    pub given : P r.1

  pub clean_after : {B C : Type 0} (P : B → Type 0) (Q : C → Type 0) (r : Circuit × B) (k : B → Circuit → Circuit × C) → Clean P r → ((b : B) (t : Circuit) → IsClean t → P b → Clean Q (k b t)) → Clean Q (after r k)
  unfolding after
  clean_after P Q r k c f = f r.1 r.0 c.circuit c.given

  pub clean_fold : {X B : Type 0} (step : X → B → Circuit → Circuit × B) (I : X → Type 0) (P : B → Type 0) → ((x : X) (b : B) (t : Circuit) → I x → IsClean t → P b → Clean P (step x b t))
      → (xs : List X) (b : B) (s : Circuit) → AllByRecursion I xs → IsClean s → P b → Clean P (fold_gates step xs b s)
  unfolding fold_gates
  clean_fold step I P f [] b s h c p = record { circuit = c; given = p }
  clean_fold step I P f (x ∷ xs) b s h c p = clean_after P P _ _ (f x b s h.0 c p) (λ d t ct pd. clean_fold step I P f xs d t h.1 ct pd)

  -- ---- words

  pub clean_opposite : (w : List Literal) → CleanWord w → CleanWord (map opposite w)
  clean_opposite [] h = tt
  clean_opposite (l ∷ w) h = (h.0, clean_opposite w h.1)

  clean_fit_from : (d : Literal) (k : ℕ) (w : List Literal) → CleanLiteral d → CleanWord w → CleanWord (fit_from d k w)
  clean_fit_from d zero w hd h = tt
  clean_fit_from d (suc k) [] hd h = (hd, clean_fit_from d k [] hd tt)
  clean_fit_from d (suc k) (x ∷ w) hd h = (h.0, clean_fit_from x k w h.0 h.1)

  pub clean_fit : (k : ℕ) (w : List Literal) → CleanWord w → CleanWord (fit k w)
  unfolding fit
  clean_fit k w h = clean_fit_from (constant_lit false) k w open_from.one h

  clean_last : (d : Literal) (w : List Literal) → CleanLiteral d → CleanWord w → CleanLiteral (last_from d w)
  clean_last d [] hd h = hd
  clean_last d (x ∷ w) hd h = clean_last x w h.0 h.1

  pub clean_sign : (w : List Literal) → CleanWord w → CleanLiteral (sign_of w)
  clean_sign w h = clean_last (constant_lit false) w open_from.one h

  pub clean_zeros : (k : ℕ) → CleanWord (zeros k)
  clean_zeros zero = tt
  clean_zeros (suc k) = (open_from.one, clean_zeros k)

  pub clean_take : (k : ℕ) (w : List Literal) → CleanWord w → CleanWord (take k w)
  clean_take zero w h = tt
  clean_take (suc k) [] h = tt
  clean_take (suc k) (x ∷ w) h = (h.0, clean_take k w h.1)

  pub clean_drop : (k : ℕ) (w : List Literal) → CleanWord w → CleanWord (drop k w)
  clean_drop zero w h = h
  clean_drop (suc k) [] h = tt
  clean_drop (suc k) (x ∷ w) h = clean_drop k w h.1

  pub clean_append : (w u : List Literal) → CleanWord w → CleanWord u → CleanWord (w ++ u)
  clean_append w u h k = all_joined CleanLiteral w u h k

  abbrev CleanPair : Literal × Literal → Type 0
  CleanPair p = CleanLiteral p.0 × CleanLiteral p.1

  clean_zip : (xs ys : List Literal) → CleanWord xs → CleanWord ys → AllByRecursion CleanPair (zip xs ys)
  clean_zip [] ys h k = tt
  clean_zip (x ∷ xs) [] h k = tt
  clean_zip (x ∷ xs) (y ∷ ys) h k = ((h.0, k.0), clean_zip xs ys h.1 k.1)

  clean_digits : (most k : ℕ) (b : Bool) → CleanWord (digits_from most k b)
  unfolding digits_from
  clean_digits zero k b = (open_from.one, tt)
  clean_digits (suc most) k b = by (eqb k 0) (clean_digits most (k / 2) b)
    where
      by : (t : Bool) → CleanWord (digits_from most (k / 2) b) → CleanWord (cond t (constant_lit b ∷ []) (constant_lit (differ (eqb (k % 2) 1) b) ∷ digits_from most (k / 2) b))
      by true h = (open_from.one, tt)
      by false h = (open_from.one, h)

  pub clean_number : (z : ℤ) → CleanWord (number_word z)
  clean_number (pos k) = clean_digits 64 k false
  clean_number (negsuc k) = clean_digits 64 k true

  -- ---- gates

  clean_with : (s : Circuit) (cs : List (List Literal)) → IsClean s → CleanClauses cs → IsClean (with_gate s cs)
  unfolding with_gate
  clean_with s cs h k = record { clauses = all_joined CleanWord s.clauses cs h.clauses k; from = omega (arith, h.from) }

  pub clean_and : (a b : Literal) (s : Circuit) → IsClean s → CleanLiteral a → CleanLiteral b → Clean CleanLiteral (and_gate a b s)
  unfolding and_gate
  clean_and a b s h ha hb =
      let g = open_from.gates s.free h.from in
      record { circuit = clean_with s _ h ((g, (ha, tt)), ((g, (hb, tt)), ((g, (ha, (hb, tt))), tt))); given = g }

  pub clean_or : (a b : Literal) (s : Circuit) → IsClean s → CleanLiteral a → CleanLiteral b → Clean CleanLiteral (or_gate a b s)
  unfolding or_gate
  clean_or a b s h ha hb = let c = clean_and (opposite a) (opposite b) s h ha hb in record { circuit = c.circuit; given = c.given }

  pub clean_xor : (a b : Literal) (s : Circuit) → IsClean s → CleanLiteral a → CleanLiteral b → Clean CleanLiteral (xor_gate a b s)
  unfolding xor_gate
  clean_xor a b s h ha hb =
      let g = open_from.gates s.free h.from in
      record { circuit = clean_with s _ h ((g, (ha, (hb, tt))), ((g, (ha, (hb, tt))), ((g, (ha, (hb, tt))), ((g, (ha, (hb, tt))), tt)))); given = g }

  pub clean_mux : (c a b : Literal) (s : Circuit) → IsClean s → CleanLiteral c → CleanLiteral a → CleanLiteral b → Clean CleanLiteral (mux_gate c a b s)
  unfolding mux_gate
  clean_mux c a b s h hc ha hb =
      let g = open_from.gates s.free h.from in
      record { circuit = clean_with s _ h ((g, (hc, (ha, tt))), ((g, (hc, (hb, tt))), ((g, (hc, (ha, tt))), ((g, (hc, (hb, tt))), tt)))); given = g }

  clean_push : {X : Type 0} (gate : X → Circuit → Circuit × Literal) (I : X → Type 0) → ((x : X) (t : Circuit) → I x → IsClean t → Clean CleanLiteral (gate x t))
      → (x : X) (w : List Literal) (t : Circuit) → I x → IsClean t → CleanWord w → Clean CleanWord (push_gate gate x w t)
  unfolding push_gate
  clean_push gate I f x w t h c hw = clean_after CleanLiteral CleanWord _ _ (f x t h c) (λ l u cu hl. record { circuit = cu; given = clean_append w (l ∷ []) hw (hl, tt) })

  clean_map : {X : Type 0} (gate : X → Circuit → Circuit × Literal) (I : X → Type 0) → ((x : X) (t : Circuit) → I x → IsClean t → Clean CleanLiteral (gate x t))
      → (xs : List X) (w : List Literal) (s : Circuit) → AllByRecursion I xs → IsClean s → CleanWord w → Clean CleanWord (map_gates gate xs w s)
  clean_map gate I f xs w s h c hw = clean_fold (push_gate gate) I CleanWord (λ x b t hx ct hb. clean_push gate I f x b t hx ct hb) xs w s h c hw

  -- ---- sums and comparisons

  clean_adder : (x y c : Literal) (s : Circuit) → IsClean s → CleanLiteral x → CleanLiteral y → CleanLiteral c → Clean CleanPair (full_adder x y c s)
  unfolding full_adder
  clean_adder x y c s h hx hy hc =
      clean_after CleanLiteral CleanPair _ _ (clean_xor x y s h hx hy) (λ t s1 h1 ht.
      clean_after CleanLiteral CleanPair _ _ (clean_xor t c s1 h1 ht hc) (λ r s2 h2 hr.
      clean_after CleanLiteral CleanPair _ _ (clean_and x y s2 h2 hx hy) (λ p s3 h3 hp.
      clean_after CleanLiteral CleanPair _ _ (clean_and t c s3 h3 ht hc) (λ q s4 h4 hq.
      clean_after CleanLiteral CleanPair _ _ (clean_or p q s4 h4 hp hq) (λ d s5 h5 hd. record { circuit = h5; given = (hr, hd) })))))

  abbrev CleanSum : List Literal × Literal → Type 0
  CleanSum a = CleanWord a.0 × CleanLiteral a.1

  clean_sum_step : (p : Literal × Literal) (a : List Literal × Literal) (s : Circuit) → CleanPair p → IsClean s → CleanSum a → Clean CleanSum (sum_step p a s)
  unfolding sum_step
  clean_sum_step p a s hp h ha =
      clean_after CleanPair CleanSum _ _ (clean_adder p.0 p.1 a.1 s h hp.0 hp.1 ha.1) (λ r t ht hr. record { circuit = ht; given = (clean_append a.0 (r.0 ∷ []) ha.0 (hr.0, tt), hr.1) })

  clean_sum : (xs ys : List Literal) (c : Literal) (s : Circuit) → IsClean s → CleanWord xs → CleanWord ys → CleanLiteral c → Clean CleanWord (sum_gates xs ys c s)
  unfolding sum_gates
  clean_sum xs ys c s h hx hy hc =
      clean_after CleanSum CleanWord _ _ (clean_fold sum_step CleanPair CleanSum (λ p a t hp ht ha. clean_sum_step p a t hp ht ha) (zip xs ys) ([], c) s (clean_zip xs ys hx hy) h (tt, hc))
      (λ a t ht ha. record { circuit = ht; given = ha.0 })

  pub clean_add : (a b : List Literal) (k : ℕ) (s : Circuit) → IsClean s → CleanWord a → CleanWord b → Clean CleanWord (add_gates a b k s)
  unfolding add_gates
  clean_add a b k s h ha hb = clean_sum (fit k a) (fit k b) (constant_lit false) s h (clean_fit k a ha) (clean_fit k b hb) open_from.one

  pub clean_subtract : (a b : List Literal) (k : ℕ) (s : Circuit) → IsClean s → CleanWord a → CleanWord b → Clean CleanWord (subtract_gates a b k s)
  unfolding subtract_gates
  clean_subtract a b k s h ha hb = clean_sum (fit k a) (map opposite (fit k b)) (constant_lit true) s h (clean_fit k a ha) (clean_opposite (fit k b) (clean_fit k b hb)) open_from.one

  pub clean_negate : (a : List Literal) (k : ℕ) (s : Circuit) → IsClean s → CleanWord a → Clean CleanWord (negate_gates a k s)
  unfolding negate_gates
  clean_negate a k s h ha = clean_subtract (constant_lit false ∷ []) a k s h (open_from.one, tt) ha

  pub clean_less : (a b : List Literal) (s : Circuit) → IsClean s → CleanWord a → CleanWord b → Clean CleanLiteral (less_gates a b s)
  unfolding less_gates
  clean_less a b s h ha hb = clean_after CleanWord CleanLiteral _ _ (clean_subtract a b _ s h ha hb) (λ d t ht hd. record { circuit = ht; given = clean_sign d hd })

  clean_equal_step : (p : Literal × Literal) (r : Literal) (s : Circuit) → CleanPair p → IsClean s → CleanLiteral r → Clean CleanLiteral (equal_step p r s)
  unfolding equal_step
  clean_equal_step p r s hp h hr = clean_after CleanLiteral CleanLiteral _ _ (clean_xor p.0 p.1 s h hp.0 hp.1) (λ t u hu ht. clean_and r (opposite t) u hu hr ht)

  pub clean_equal : (a b : List Literal) (s : Circuit) → IsClean s → CleanWord a → CleanWord b → Clean CleanLiteral (equal_gates a b s)
  unfolding equal_gates
  clean_equal a b s h ha hb =
      clean_fold equal_step CleanPair CleanLiteral (λ p r t hp ht hr. clean_equal_step p r t hp ht hr) _ (constant_lit true) s
      (clean_zip _ _ (clean_fit (max (length a) (length b)) a ha) (clean_fit (max (length a) (length b)) b hb)) h open_from.one

  -- ---- products

  clean_row : (b : Literal) (i : ℕ) (a : List Literal) (s : Circuit) → IsClean s → CleanLiteral b → CleanWord a → Clean CleanWord (row_gates b i a s)
  unfolding row_gates
  clean_row b i a s h hb ha = clean_map (and_gate b) CleanLiteral (λ x t hx ht. clean_and b x t ht hb hx) (take (length a - i) a) (zeros i) s (clean_take (length a - i) a ha) h (clean_zeros i)

  abbrev CleanProduct : ℕ × List Literal → Type 0
  CleanProduct r = CleanWord r.1

  clean_product_step : (a : List Literal) → CleanWord a → (b : Literal) (r : ℕ × List Literal) (s : Circuit) → CleanLiteral b → IsClean s → CleanProduct r → Clean CleanProduct (product_step a b r s)
  unfolding product_step
  clean_product_step a ha b r s hb h hr =
      clean_after CleanWord CleanProduct _ _ (clean_row b r.0 a s h hb ha) (λ row t ht hrow.
      clean_after CleanWord CleanProduct _ _ (clean_sum r.1 row (constant_lit false) t ht hr hrow open_from.one) (λ sum u hu hsum. record { circuit = hu; given = hsum }))

  pub clean_multiply : (a b : List Literal) (k : ℕ) (s : Circuit) → IsClean s → CleanWord a → CleanWord b → Clean CleanWord (multiply_gates a b k s)
  unfolding multiply_gates product_gates
  clean_multiply a b k s h ha hb =
      clean_after CleanProduct CleanWord _ _
      (clean_fold (product_step (fit k a)) CleanLiteral CleanProduct (λ x r t hx ht hr. clean_product_step (fit k a) (clean_fit k a ha) x r t hx ht hr) (fit k b) (0, zeros (length (fit k a))) s (clean_fit k b hb) h
      (clean_zeros (length (fit k a))))
      (λ r t ht hr. record { circuit = ht; given = hr })

  -- ---- quotients

  clean_pairs : (xs ys : List Literal) → CleanWord xs → CleanWord ys → AllByRecursion CleanPair (zip xs ys)
  clean_pairs xs ys h k = clean_zip xs ys h k

  pub clean_choose : (c : Literal) (xs ys : List Literal) (s : Circuit) → IsClean s → CleanLiteral c → CleanWord xs → CleanWord ys → Clean CleanWord (choose_gates c xs ys s)
  unfolding choose_gates
  clean_choose c xs ys s h hc hx hy = clean_map (λ p. mux_gate c p.0 p.1) CleanPair (λ p t hp ht. clean_mux c p.0 p.1 t ht hc hp.0 hp.1) (zip xs ys) [] s (clean_pairs xs ys hx hy) h tt

  clean_negate_where : (c : Literal) (w : List Literal) (s : Circuit) → IsClean s → CleanLiteral c → CleanWord w → Clean CleanWord (negate_where_gates c w s)
  unfolding negate_where_gates
  clean_negate_where c w s h hc hw = clean_after CleanWord CleanWord _ _ (clean_negate w (length w) s h hw) (λ k t ht hk. clean_choose c k w t ht hc hk hw)

  clean_magnitude : (a : List Literal) (k : ℕ) (s : Circuit) → IsClean s → CleanWord a → Clean CleanWord (magnitude_gates a k s)
  unfolding magnitude_gates
  clean_magnitude a k s h ha = clean_negate_where (sign_of a) (fit k a) s h (clean_sign a ha) (clean_fit k a ha)

  abbrev CleanBit : Literal × List Literal → Type 0
  CleanBit r = CleanLiteral r.0 × CleanWord r.1

  clean_divide_bit : (b : List Literal) (x : Literal) (r : List Literal) (s : Circuit) → IsClean s → CleanWord b → CleanLiteral x → CleanWord r → Clean CleanBit (divide_bit b x r s)
  unfolding divide_bit
  clean_divide_bit b x r s h hb hx hr =
      let taken : CleanWord (take (length b) (x ∷ r)) = clean_take (length b) (x ∷ r) (hx, hr) in
      clean_after CleanLiteral CleanBit _ _ (clean_less (take (length b) (x ∷ r)) b s h taken hb) (λ l s1 h1 hl.
      clean_after CleanWord CleanBit _ _ (clean_subtract (take (length b) (x ∷ r)) b (length b) s1 h1 taken hb) (λ t s2 h2 ht.
      clean_after CleanWord CleanBit _ _ (clean_choose (opposite l) t (take (length b) (x ∷ r)) s2 h2 hl ht taken) (λ rest s3 h3 hrest. record { circuit = h3; given = (hl, hrest) })))

  abbrev CleanBoth : List Literal × List Literal → Type 0
  CleanBoth r = CleanWord r.0 × CleanWord r.1

  clean_quotient_step : (b : List Literal) → CleanWord b → (x : Literal) (a : List Literal × List Literal) (s : Circuit) → CleanLiteral x → IsClean s → CleanBoth a → Clean CleanBoth (quotient_step b x a s)
  unfolding quotient_step
  clean_quotient_step b hb x a s hx h ha =
      clean_after CleanBit CleanBoth _ _ (clean_divide_bit b x a.1 s h hb hx ha.1) (λ y t ht hy. record { circuit = ht; given = (clean_append a.0 (y.0 ∷ []) ha.0 (hy.0, tt), hy.1) })

  clean_reverse : (w : List Literal) → CleanWord w → CleanWord (reverse w)
  clean_reverse [] h = tt
  clean_reverse (x ∷ w) h = subst CleanWord (sym (reverse-append (x ∷ []) w)) (clean_append (reverse w) (x ∷ []) (clean_reverse w h.1) (h.0, tt))

  clean_long : (a b : List Literal) (s : Circuit) → IsClean s → CleanWord a → CleanWord b → Clean CleanBoth (long_division_gates a b s)
  unfolding long_division_gates
  clean_long a b s h ha hb =
      clean_after CleanBoth CleanBoth _ _
      (clean_fold (quotient_step b) CleanLiteral CleanBoth (λ x r t hx ht hr. clean_quotient_step b hb x r t hx ht hr) (reverse a) ([], zeros (length b)) s (clean_reverse a ha) h (tt, clean_zeros (length b)))
      (λ r t ht hr. record { circuit = ht; given = (clean_reverse r.0 hr.0, hr.1) })

  clean_magnitudes : (a b : List Literal) (k : ℕ) (s : Circuit) → IsClean s → CleanWord a → CleanWord b → Clean CleanBoth (magnitudes_gates a b k s)
  unfolding magnitudes_gates
  clean_magnitudes a b k s h ha hb =
      clean_after CleanWord CleanBoth _ _ (clean_magnitude a k s h ha) (λ x s1 h1 hx. clean_after CleanWord CleanBoth _ _ (clean_magnitude b k s1 h1 hb) (λ y s2 h2 hy. clean_long x y s2 h2 hx hy))

  pub clean_divide : (a b : List Literal) (k : ℕ) (s : Circuit) → IsClean s → CleanWord a → CleanWord b → Clean CleanWord (divide_gates a b k s)
  unfolding divide_gates
  clean_divide a b k s h ha hb =
      clean_after CleanBoth CleanWord _ _ (clean_magnitudes a b _ s h ha hb) (λ r s1 h1 hr.
      clean_after CleanLiteral CleanWord _ _ (clean_xor (sign_of a) (sign_of b) s1 h1 (clean_sign a ha) (clean_sign b hb)) (λ c s2 h2 hc.
      clean_after CleanWord CleanWord _ _ (clean_negate_where c r.0 s2 h2 hc hr.0) (λ q s3 h3 hq. record { circuit = h3; given = clean_fit k q hq })))

  pub clean_remainder : (a b : List Literal) (k : ℕ) (s : Circuit) → IsClean s → CleanWord a → CleanWord b → Clean CleanWord (remainder_gates a b k s)
  unfolding remainder_gates
  clean_remainder a b k s h ha hb =
      clean_after CleanBoth CleanWord _ _ (clean_magnitudes a b _ s h ha hb) (λ r s1 h1 hr.
      clean_after CleanWord CleanWord _ _ (clean_negate_where (sign_of a) r.1 s1 h1 (clean_sign a ha) hr.1) (λ q s2 h2 hq. record { circuit = h2; given = clean_fit k q hq }))

  -- ---- counts

  clean_count : (l : Literal) → CleanLiteral l → (p : Literal × Literal) (s : Circuit) → CleanPair p → IsClean s → Clean CleanLiteral (count_gate l p s)
  unfolding count_gate
  clean_count l hl p s hp h = clean_after CleanLiteral CleanLiteral _ _ (clean_and p.1 l s h hp.1 hl) (λ q t ht hq. clean_or p.0 q t ht hp.0 hq)

  clean_count_step : (l : Literal) (cs : List Literal) (s : Circuit) → CleanLiteral l → IsClean s → CleanWord cs → Clean CleanWord (count_step l cs s)
  unfolding count_step
  clean_count_step l cs s hl h hcs =
      clean_after CleanWord CleanWord _ _ (clean_map (count_gate l) CleanPair (λ p t hp ht. clean_count l hl p t hp ht) (zip cs (drop 1 cs)) [] s (clean_zip cs (drop 1 cs) hcs (clean_drop 1 cs hcs)) h tt)
      (λ w t ht hw. record { circuit = ht; given = clean_append w (sign_of cs ∷ []) hw (clean_sign cs hcs, tt) })

  clean_first : (w : List Literal) → CleanWord w → CleanLiteral (first_from (constant_lit false) w)
  clean_first [] h = open_from.one
  clean_first (x ∷ w) h = h.0

  pub clean_at_most : (ls : List Literal) (k : ℕ) (s : Circuit) → IsClean s → CleanWord ls → Clean CleanLiteral (at_most_gates ls k s)
  unfolding at_most_gates
  clean_at_most ls k s h hl =
      clean_after CleanWord CleanLiteral _ _
      (clean_fold count_step CleanLiteral CleanWord (λ l cs t hl' ht hcs. clean_count_step l cs t hl' ht hcs) ls (zeros (k + 1) ++ constant_lit true ∷ []) s hl h
      (clean_append (zeros (k + 1)) (constant_lit true ∷ []) (clean_zeros (k + 1)) (open_from.one, tt)))
      (λ cs t ht hcs. record { circuit = ht; given = clean_first cs hcs })
