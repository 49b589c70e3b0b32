-- Taking the first number out of a threaded list, and putting one in.
use Rattle.std.proofs.Common.{zero, suc, List, [], ◌∷◌, ◌++◌, length, set, replicate, ◌≡◌, ◌≢◌, ℕ, ◌+◌, ◌<◌, ◌≤◌, cond, eqb, refl, sym, ap, ◌∙◌, subst, arith, ⊎_elim}
use Rattle.std.proofs.lemmas.Bool.{cases_eq, eq-eqb, cond-true, cond-false, ne_eqb}
use Rattle.std.proofs.lemmas.List.{get_or-set_same, get_or-set_other, get_or_past, get_or-replicate, length-replicate}
use Rattle.std.proofs.lemmas.Bool.{cases_lt}
use Rattle.sat_solver.specs.Threads.{AreThreaded, at}

-- f, but with v at k
changed : (ℕ → ℕ) → ℕ → ℕ → ℕ → ℕ
changed f k v x = cond (eqb x k) v (f x)

changed_here : (f : ℕ → ℕ) (k v x : ℕ) → x ≡ k → changed f k v x ≡ v
unfolding changed
changed_here f k v x e = cond-true (eqb x k) v (f x) (eq-eqb x k e)

changed_there : (f : ℕ → ℕ) (k v x : ℕ) → x ≢ k → changed f k v x ≡ f x
unfolding changed
changed_there f k v x ne = cond-false (eqb x k) v (f x) (ne_eqb x k ne)

-- the first number n of the list l is taken out
pub popped : (lists : ℕ) (h h' nx hm hm' : ℕ → ℕ) (l n : ℕ) → AreThreaded lists h nx hm → 0 < l → h l ≡ n + 1
    → h' l ≡ nx n → ((x : ℕ) → x ≢ l → h' x ≡ h x) → hm' n ≡ 0 → ((m : ℕ) → m ≢ n → hm' m ≡ hm m) → AreThreaded lists h' nx hm'
popped lists h h' nx hm hm' l n t positive first head heads home homes =
    let at_top : hm n ≡ l = t.top l n positive first in
    let top_depth : t.depth n + 1 ≡ t.size l = t.top_depth l n positive first in
    let size' : ℕ → ℕ = changed t.size l (t.depth n) in
    let other : (m : ℕ) → 0 < hm' m → m ≢ n = λ m some e. let z : hm' m ≡ 0 = subst (λ (x : ℕ). hm' x ≡ 0) (sym e) home in absurd (omega arith) in
    record {
      depth = t.depth;
      size = size';
      in_lists = λ m. ⊎_elim (λ e. let z : hm' m ≡ 0 = subst (λ (x : ℕ). hm' x ≡ 0) (sym e) home in let k : hm n < lists = t.in_lists n in omega arith) (λ ne. let z = homes m ne in let k : hm m < lists = t.in_lists m in omega arith) (cases_eq m n);
      none = λ x some is. ⊎_elim
          (λ e. let z : nx n ≡ 0 = sym head ∙ (ap h' (sym e) ∙ is) in changed_here t.size l (t.depth n) x e ∙ t.last n (omega arith) z)
          (λ ne. changed_there t.size l (t.depth n) x ne ∙ t.none x some (sym (heads x ne) ∙ is)) (cases_eq x l);
      top = λ x m some is. ⊎_elim
          (λ e.
          let z : nx n ≡ m + 1 = sym head ∙ (ap h' (sym e) ∙ is) in
          let under = t.beneath n m (omega arith) z in
          let level = t.beneath_depth n m (omega arith) z in
          homes m (λ same. let k = ap t.depth same in absurd (omega arith)) ∙ (under ∙ (at_top ∙ sym e)))
          (λ ne.
          let z : h x ≡ m + 1 = sym (heads x ne) ∙ is in
          let up = t.top x m some z in
          homes m (λ same. ne (sym up ∙ (ap hm same ∙ at_top))) ∙ up) (cases_eq x l);
      top_depth = λ x m some is. ⊎_elim
          (λ e.
          let z : nx n ≡ m + 1 = sym head ∙ (ap h' (sym e) ∙ is) in
          t.beneath_depth n m (omega arith) z ∙ sym (changed_here t.size l (t.depth n) x e))
          (λ ne. t.top_depth x m some (sym (heads x ne) ∙ is) ∙ sym (changed_there t.size l (t.depth n) x ne)) (cases_eq x l);
      below_size = λ m some.
          let ne = other m some in
          let z = homes m ne in
          let less : t.depth m < t.size (hm m) = t.below_size m (omega arith) in
          ⊎_elim
          (λ e.
          let is_l : hm m ≡ l = sym z ∙ e in
          let level = ap t.size is_l in
          let here = changed_here t.size l (t.depth n) (hm' m) e in
          let differ : t.depth n ≢ t.depth m = λ same. ne (sym (t.apart n m (omega arith) (is_l ∙ sym at_top) same)) in
          omega (arith, here, level, less, differ, top_depth))
          (λ off. let here = changed_there t.size l (t.depth n) (hm' m) off ∙ ap t.size z in omega (arith, here, less)) (cases_eq (hm' m) l);
      last = λ m some is. let ne = other m some in let z = homes m ne in t.last m (omega arith) is;
      beneath = λ m k some is.
          let ne = other m some in
          let z = homes m ne in
          let up : 0 < hm m = omega arith in
          let under = t.beneath m k up is in
          let level = t.beneath_depth m k up is in
          let less = t.below_size m up in
          let differ : k ≢ n = λ same.
          let a = ap t.depth same in
          let b = ap t.size (sym under ∙ (ap hm same ∙ at_top)) in
          absurd (omega (arith, a, b, less, level, top_depth)) in
          homes k differ ∙ (under ∙ sym z);
      beneath_depth = λ m k some is. let ne = other m some in let z = homes m ne in t.beneath_depth m k (omega arith) is;
      apart = λ m k some same level.
          let z = homes m (other m some) in
          let some_k : 0 < hm' k = omega arith in
          let y = homes k (other k some_k) in
          t.apart m k (omega arith) (sym y ∙ (same ∙ z)) level;
    }

-- the number n, in no list, comes first in the list l
pub pushed : (lists : ℕ) (h h' nx nx' hm hm' : ℕ → ℕ) (l n : ℕ) → AreThreaded lists h nx hm → 0 < l → l < lists → hm n ≡ 0
    → h' l ≡ n + 1 → ((x : ℕ) → x ≢ l → h' x ≡ h x) → nx' n ≡ h l → ((m : ℕ) → m ≢ n → nx' m ≡ nx m) → hm' n ≡ l → ((m : ℕ) → m ≢ n → hm' m ≡ hm m) → AreThreaded lists h' nx' hm'
pushed lists h h' nx nx' hm hm' l n t positive within free head heads follows follow home homes =
    let depth' : ℕ → ℕ = changed t.depth n (t.size l) in
    let size' : ℕ → ℕ = changed t.size l (t.size l + 1) in
    let depth_n : (m : ℕ) → m ≡ n → depth' m ≡ t.size l = changed_here t.depth n (t.size l) in
    let depth_m : (m : ℕ) → m ≢ n → depth' m ≡ t.depth m = changed_there t.depth n (t.size l) in
    let size_l : (x : ℕ) → x ≡ l → size' x ≡ t.size l + 1 = changed_here t.size l (t.size l + 1) in
    let size_x : (x : ℕ) → x ≢ l → size' x ≡ t.size x = changed_there t.size l (t.size l + 1) in
    let is_in : (m : ℕ) → 0 < hm m → m ≢ n = λ m some e. let z = ap hm e in absurd (omega arith) in
    record {
      depth = depth';
      size = size';
      in_lists = λ m. ⊎_elim (λ e. let z : hm' m ≡ l = ap hm' e ∙ home in omega arith) (λ ne. let z = homes m ne in let k : hm m < lists = t.in_lists m in omega arith) (cases_eq m n);
      none = λ x some is. ⊎_elim
          (λ e. let z : h' x ≡ n + 1 = ap h' e ∙ head in absurd (omega arith))
          (λ ne. size_x x ne ∙ t.none x some (sym (heads x ne) ∙ is)) (cases_eq x l);
      top = λ x m some is. ⊎_elim
          (λ e. let z : h' x ≡ n + 1 = ap h' e ∙ head in let same : m ≡ n = omega arith in ap hm' same ∙ (home ∙ sym e))
          (λ ne. let up = t.top x m some (sym (heads x ne) ∙ is) in homes m (is_in m (omega arith)) ∙ up) (cases_eq x l);
      top_depth = λ x m some is. ⊎_elim
          (λ e. let z : h' x ≡ n + 1 = ap h' e ∙ head in let same : m ≡ n = omega arith in let a = depth_n m same in let b = size_l x e in omega arith)
          (λ ne. let z = sym (heads x ne) ∙ is in let up = t.top x m some z in let a = depth_m m (is_in m (omega arith)) in let b = size_x x ne in let k = t.top_depth x m some z in omega arith) (cases_eq x l);
      below_size = λ m some. ⊎_elim
          (λ e. let a = depth_n m e in let b = size_l (hm' m) (ap hm' e ∙ home) in omega arith)
          (λ ne.
          let a = depth_m m ne in
          let z = homes m ne in
          let less : t.depth m < t.size (hm m) = t.below_size m (omega arith) in
          ⊎_elim
          (λ e. let b = size_l (hm' m) e in let k = ap t.size (sym z ∙ e) in omega arith)
          (λ off. let b = size_x (hm' m) off in let k = ap t.size z in omega arith) (cases_eq (hm' m) l)) (cases_eq m n);
      last = λ m some is. ⊎_elim
          (λ e. depth_n m e ∙ t.none l positive (sym follows ∙ (ap nx' (sym e) ∙ is)))
          (λ ne. let z = homes m ne in depth_m m ne ∙ t.last m (omega arith) (sym (follow m ne) ∙ is)) (cases_eq m n);
      beneath = λ m k some is. ⊎_elim
          (λ e.
          let up = t.top l k positive (sym follows ∙ (ap nx' (sym e) ∙ is)) in
          homes k (is_in k (omega arith)) ∙ (up ∙ (sym home ∙ ap hm' (sym e))))
          (λ ne.
          let z = homes m ne in
          let under = t.beneath m k (omega arith) (sym (follow m ne) ∙ is) in
          homes k (is_in k (omega arith)) ∙ (under ∙ sym z)) (cases_eq m n);
      beneath_depth = λ m k some is. ⊎_elim
          (λ e.
          let z = sym follows ∙ (ap nx' (sym e) ∙ is) in
          let up = t.top l k positive z in
          let a = depth_m k (is_in k (omega arith)) in
          let b = depth_n m e in
          let d = t.top_depth l k positive z in omega arith)
          (λ ne.
          let z = homes m ne in
          let y = sym (follow m ne) ∙ is in
          let under = t.beneath m k (omega arith) y in
          let a = depth_m k (is_in k (omega arith)) in
          let b = depth_m m ne in
          let d = t.beneath_depth m k (omega arith) y in omega arith) (cases_eq m n);
      apart = λ m k some same level. ⊎_elim
          (λ e. ⊎_elim (λ f. e ∙ sym f)
          (λ ne.
          let z = homes k ne in
          let is_l : hm k ≡ l = sym z ∙ (same ∙ (ap hm' e ∙ home)) in
          let less : t.depth k < t.size (hm k) = t.below_size k (omega arith) in
          let a = depth_m k ne in
          let b = depth_n m e in
          let d = ap t.size is_l in absurd (omega arith)) (cases_eq k n))
          (λ ne.
          let z = homes m ne in
          let a = depth_m m ne in
          ⊎_elim
          (λ f.
          let is_l : hm m ≡ l = sym z ∙ (sym same ∙ (ap hm' f ∙ home)) in
          let less : t.depth m < t.size (hm m) = t.below_size m (omega arith) in
          let b = depth_n k f in
          let d = ap t.size is_l in absurd (omega arith))
          (λ off.
          let y = homes k off in
          let b = depth_m k off in
          t.apart m k (omega arith) (sym y ∙ (same ∙ z)) (sym a ∙ (level ∙ b))) (cases_eq k n)) (cases_eq m n);
    }

-- no number is in any list
pub nothing_threaded : (lists : ℕ) (h nx hm : ℕ → ℕ) → 0 < lists → ((x : ℕ) → h x ≡ 0) → ((m : ℕ) → hm m ≡ 0) → AreThreaded lists h nx hm
nothing_threaded lists h nx hm some heads homes = record {
  depth = λ m. 0;
  size = λ x. 0;
  in_lists = λ m. let z = homes m in omega arith;
  none = λ x p is. refl;
  top = λ x m p is. let z = heads x in absurd (omega arith);
  top_depth = λ x m p is. let z = heads x in absurd (omega arith);
  below_size = λ m p. let z = homes m in absurd (omega arith);
  last = λ m p is. refl;
  beneath = λ m k p is. let z = homes m in absurd (omega arith);
  beneath_depth = λ m k p is. let z = homes m in absurd (omega arith);
  apart = λ m k p same level. let z = homes m in absurd (omega arith);
}

-- what is past the end is 0, so one more 0 changes nothing
at_zero : (xs : List ℕ) (i : ℕ) → at (xs ++ 0 ∷ []) i ≡ at xs i
at_zero [] zero = refl
at_zero [] (suc i) = refl
at_zero (x ∷ xs) zero = refl
at_zero (x ∷ xs) (suc i) = at_zero xs i

pub at_replicate : (n i : ℕ) → at (replicate n 0) i ≡ 0
at_replicate n i = ⊎_elim (λ lt. get_or-replicate n i 0 0 lt) (λ le. get_or_past (replicate n 0) i 0 (omega (arith, length-replicate {A = ℕ} n 0))) (cases_lt i n)

pub within_from_some : (xs : List ℕ) (i : ℕ) → 0 < at xs i → i < length xs
within_from_some xs i some = ⊎_elim (λ lt. lt) (λ le. let z = get_or_past xs i 0 le in absurd (omega arith)) (cases_lt i (length xs))

-- the same lists, and maybe more of them
same_threads : (lists lists' : ℕ) (h h' nx nx' hm hm' : ℕ → ℕ) → AreThreaded lists h nx hm → lists ≤ lists' → ((x : ℕ) → h' x ≡ h x) → ((x : ℕ) → nx' x ≡ nx x) → ((x : ℕ) → hm' x ≡ hm x) → AreThreaded lists' h' nx' hm'
same_threads lists lists' h h' nx nx' hm hm' t more hs ns ms = record {
  depth = t.depth;
  size = t.size;
  in_lists = λ m. let z = ms m in let k : hm m < lists = t.in_lists m in omega arith;
  none = λ x p is. t.none x p (sym (hs x) ∙ is);
  top = λ x m p is. ms m ∙ t.top x m p (sym (hs x) ∙ is);
  top_depth = λ x m p is. t.top_depth x m p (sym (hs x) ∙ is);
  below_size = λ m p. let z = ms m in let e = ap t.size z in let k : t.depth m < t.size (hm m) = t.below_size m (omega arith) in omega arith;
  last = λ m p is. let z = ms m in t.last m (omega arith) (sym (ns m) ∙ is);
  beneath = λ m k p is. let z = ms m in ms k ∙ (t.beneath m k (omega arith) (sym (ns m) ∙ is) ∙ sym z);
  beneath_depth = λ m k p is. let z = ms m in t.beneath_depth m k (omega arith) (sym (ns m) ∙ is);
  apart = λ m k p same level. let z = ms m in t.apart m k (omega arith) (sym (ms k) ∙ (same ∙ z)) level;
}

pub one_more_number : (lists : ℕ) (heads next homes : List ℕ) → AreThreaded lists (at heads) (at next) (at homes) → AreThreaded lists (at heads) (at (next ++ 0 ∷ [])) (at (homes ++ 0 ∷ []))
one_more_number lists heads next homes t = same_threads lists lists (at heads) (at heads) (at next) (at (next ++ 0 ∷ [])) (at homes) (at (homes ++ 0 ∷ [])) t (omega arith) (λ x. refl) (at_zero next) (at_zero homes)

pub one_more_list : (lists : ℕ) (heads next homes : List ℕ) → AreThreaded lists (at heads) (at next) (at homes) → AreThreaded (lists + 1) (at (heads ++ 0 ∷ [])) (at next) (at homes)
one_more_list lists heads next homes t = same_threads lists (lists + 1) (at heads) (at (heads ++ 0 ∷ [])) (at next) (at next) (at homes) (at homes) t (omega arith) (at_zero heads) (λ x. refl) (λ x. refl)

pub popped_lists : (heads next homes : List ℕ) (l n head : ℕ) → AreThreaded (length heads) (at heads) (at next) (at homes) → 0 < l → l < length heads → at heads l ≡ n + 1 → head ≡ at next n
    → AreThreaded (length heads) (at (set heads l head)) (at next) (at (set homes n 0))
popped_lists heads next homes l n head t positive within first is =
    let here : at homes n ≡ l = t.top l n positive first in
    popped (length heads) (at heads) (at (set heads l head)) (at next) (at homes) (at (set homes n 0)) l n t positive first
    (get_or-set_same heads l head 0 within ∙ is) (λ x ne. get_or-set_other heads l x head 0 ne)
    (get_or-set_same homes n 0 0 (within_from_some homes n (omega arith))) (λ m ne. get_or-set_other homes n m 0 0 ne)

pub pushed_lists : (heads next homes : List ℕ) (l n head : ℕ) → AreThreaded (length heads) (at heads) (at next) (at homes) → 0 < l → l < length heads → n < length homes → n < length next → at homes n ≡ 0 → head ≡ at heads l
    → AreThreaded (length heads) (at (set heads l (n + 1))) (at (set next n head)) (at (set homes n l))
pushed_lists heads next homes l n head t positive within known known_next free is =
    pushed (length heads) (at heads) (at (set heads l (n + 1))) (at next) (at (set next n head)) (at homes) (at (set homes n l)) l n t positive within free
    (get_or-set_same heads l (n + 1) 0 within) (λ x ne. get_or-set_other heads l x (n + 1) 0 ne)
    (get_or-set_same next n head 0 known_next ∙ is) (λ m ne. get_or-set_other next n m head 0 ne)
    (get_or-set_same homes n l 0 known) (λ m ne. get_or-set_other homes n m l 0 ne)
