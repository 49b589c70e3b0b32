-- Paths, read as valuations.
use Rattle.std.proofs.Common.{◌≡◌, ℕ, zero, suc, ◌+◌, ◌-◌, ◌<◌, ◌≤◌, nat_eq, Bool, false, List, [], ◌∷◌, length, take, map, Some, refl, sym, ap, ◌∙◌, subst, arith, ◌⊎◌, inl, inr, eq-eqb, eqb-true}
use Rattle.std.proofs.lemmas.List.{length-map, length-append}
use Rattle.std.proofs.lemmas.Bool.{cases_lt, false_from_ne_true as refuted}
use Rattle.std.specs.Prelude.{slice_index_or, slice_get, if◌then◌else◌}
use Rattle.smv_language.specs.Language.{Text, Value}
use Rattle.base_values.specs.declared.value.Value.{Value as AValue}
use Rattle.smv_flat_laws.specs.History.{with_history, bit_variables}
use Rattle.smv_flat_laws.specs.FlatTrace.{AreInDomains}
use Rattle.sat_clauses.specs.Assignment.{Assignment}
use Rattle.cut_search_laws.specs.FlatSearch.{AreReadFrom, IsLawfulMoment}
use Rattle.cut_search_laws.specs.FoundSets.{Found}
use Rattle.sat_encoding_laws.specs.Encodings.{is_true_at}
use Rattle.sat_encoding_laws.specs.FlatTraces.{numbers_where, last_of, history_of, failed_in}
use Rattle.cut_search_laws.proofs.Paths.{place_of_each, each_by_place, last_place}
use Rattle.cut_search_laws.proofs.Chains.{get_place}
use Rattle.smv_flat_laws.proofs.HistoryTraces.{domains_length}
use Rattle.cut_search.specs.Values.{value_of, values_of, trace_of}
use Rattle.cut_search.specs.Bits.{is_set_at, bits_set}
use Rattle.cut_search.proofs.BitLemmas.{set_is_true}
use Rattle.cut_search.specs.Progress.{CodeFound, IsReadable, IsReadOf, AreReadBelow, Shown}
use Rattle.smv_flat_laws.proofs.HistoryLaws.{length_bits as bits_length}
use Rattle.smv_language.proofs.BoolLaws.{not_both}
use Rattle.cut_search_laws.specs.Problem.{Problem}

-- Lists by place.
pub index_any : {A : Type 0} (xs : List A) (k : ℕ) (d e : A) → k < length xs → slice_index_or xs k d ≡ slice_index_or xs k e
index_any [] k d e l = absurd (omega (arith, l))
index_any (x ∷ xs) zero d e l = refl
index_any (x ∷ xs) (suc k) d e l = index_any xs k d e (omega (arith, l))

map_at : {A B : Type 0} (h : A → B) (d : A) (xs : List A) (i : ℕ) → slice_index_or (map h xs) i (h d) ≡ h (slice_index_or xs i d)
map_at h d [] i = refl
map_at h d (x ∷ xs) zero = refl
map_at h d (x ∷ xs) (suc i) = map_at h d xs i

pub trace_at : (symbols : List Text) (long : List (List AValue)) (i : ℕ) → slice_index_or (trace_of symbols long) i [] ≡ values_of symbols (slice_index_or long i [])
trace_at symbols long i = map_at (values_of symbols) [] long i

pub take_mapped : {A B : Type 0} (h : A → B) (n : ℕ) (xs : List A) → map h (take n xs) ≡ take n (map h xs)
take_mapped h zero xs = refl
take_mapped h (suc n) [] = refl
take_mapped h (suc n) (x ∷ xs) = ap (λ more. h x ∷ more) (take_mapped h n xs)

pub cut_read : (symbols : List Text) (n : ℕ) (long : List (List AValue)) → trace_of symbols (map (take n) long) ≡ map (take n) (trace_of symbols long)
cut_read symbols n [] = refl
cut_read symbols n (v ∷ long) = both (values_of symbols (take n v)) (take n (values_of symbols v)) (trace_of symbols (map (take n) long)) (map (take n) (trace_of symbols long)) (take_mapped (value_of symbols) n v) (cut_read symbols n long)
  where
    both : (a b : List Value) (as' bs : List (List Value)) → a ≡ b → as' ≡ bs → (a ∷ as') ≡ (b ∷ bs)
    both a b as' bs e g = cc

where_same : {A : Type 0} (p q : A → Bool) → ((x : A) → p x ≡ q x) → (k : ℕ) (xs : List A) → numbers_where p k xs ≡ numbers_where q k xs
where_same p q f k [] = refl
where_same p q f k (x ∷ xs) = both (p x) (q x) (f x) (numbers_where p (suc k) xs) (numbers_where q (suc k) xs) (where_same p q f (suc k) xs)
  where
    both : (b c : Bool) → b ≡ c → (xs ys : List ℕ) → xs ≡ ys → (if b then k ∷ xs else xs) ≡ (if c then k ∷ ys else ys)
    both b c e xs ys h = rw (e, h) refl

abbrev made : List ℕ → List (List Value) → Found (List (List Value))
made s a = record { set = s; trace = a }

same_found : (s t : List ℕ) (a b : List (List Value)) → s ≡ t → a ≡ b → made s a ≡ made t b
same_found s t a b e g = ap (λ x. made x a) e ∙ ap (λ x. made t x) g

module _ (problem : Problem) where
  open problem use {model as m, modes as fs, system, state_of, inputs_of}

  pub readable : (path : List Assignment) (i : ℕ) → i < length path → IsLawfulMoment problem path i →
      IsReadable problem (nat_eq (i + 1) (length path)) (slice_index_or path i [])
  readable path i l h = record {
    values = h.values;
    domains = h.domains;
    state = h.state;
    inputs = λ e. h.inputs (more i (length path) l e);
  }
    where
      more : (i n : ℕ) → i < n → nat_eq (i + 1) n ≡ false → i + 1 < n
      more i n l e = by_order (cases_lt (i + 1) n)
        where
          by_order : (i + 1 < n) ⊎ (n ≤ i + 1) → i + 1 < n
          by_order (inl h) = h
          by_order (inr h) = absurd (not_both (nat_eq (i + 1) n) (eq-eqb (i + 1) n (whole i n l h)) e)
            where
              whole : (i n : ℕ) → i < n → n ≤ i + 1 → i + 1 ≡ n
              whole i n l h = omega (arith, l, h)

  pub readable_at : (path : List Assignment) (i n : ℕ) (a : Assignment) → n ≡ length path → slice_get path i ≡ Some a → i < length path → IsLawfulMoment problem path i →
      IsReadable problem (nat_eq (i + 1) n) a
  readable_at path i n a e g l h =
      subst (λ k. IsReadable problem (nat_eq (i + 1) k) a) (sym e)
      (subst (λ b. IsReadable problem (nat_eq (i + 1) (length path)) b) (get_place [] a path i g).0 (readable path i l h))

  pub read_at : (path : List Assignment) (i n : ℕ) (a : Assignment) (v : List AValue) → n ≡ length path → slice_get path i ≡ Some a → IsReadOf problem (nat_eq (i + 1) n) a v →
      IsReadOf problem (nat_eq (i + 1) (length path)) (slice_index_or path i []) v
  read_at path i n a v e g h =
      subst (λ k. IsReadOf problem (nat_eq (i + 1) k) (slice_index_or path i []) v) e
      (subst (λ b. IsReadOf problem (nat_eq (i + 1) n) b v) (sym (get_place [] a path i g).0) h)

  -- all moments of a path are read
  pub read_whole : (path : List Assignment) (long : List (List AValue)) (n : ℕ) → n ≡ length path → AreReadBelow problem n path long →
      AreReadFrom problem path (trace_of m.symbols long)
  read_whole path long n e read = record {
    one_each = length-map long (values_of m.symbols) ∙ read.count ∙ e;
    domains = each_by_place (AreInDomains (with_history m fs).variables) [] (trace_of m.symbols long)
        (λ i l. subst (AreInDomains (with_history m fs).variables) (sym (trace_at m.symbols long i)) (read.each i (within i l)).domains);
    states = λ i l. ap state_of (trace_at m.symbols long i) ∙ (read.each i (subst (λ k. i < k) (sym e) l)).state;
    inputs = λ i l. ap inputs_of (trace_at m.symbols long i) ∙ (read.each i (subst (λ k. i < k) (sym e) (less i (length path) l))).inputs (unequal i (length path) l);
  }
    where
      within : (i : ℕ) → i < length (trace_of m.symbols long) → i < n
      within i l = subst (λ k. i < k) (length-map long (values_of m.symbols) ∙ read.count) l

      less : (i n : ℕ) → i + 1 < n → i < n
      less i n l = omega (arith, l)

      unequal : (i n : ℕ) → i + 1 < n → nat_eq (i + 1) n ≡ false
      unequal i n l = refuted (nat_eq (i + 1) n) (λ e. no (i + 1) n (eqb-true (i + 1) n e) l)
        where
          no : (a b : ℕ) → a ≡ b → a < b → ⊥
          no a b e l = omega (arith, e, l)

  -- each has a value for every variable and every history bit
  pub moment_length : (path : List Assignment) (long : List (List AValue)) → AreReadFrom problem path (trace_of m.symbols long) → (k : ℕ) (d : List AValue) → k < length long →
      length (slice_index_or long k d) ≡ length m.variables + length fs
  moment_length path long read k d l =
      ap length (index_any long k d [] l)
      ∙ sym (length-map (slice_index_or long k []) (value_of m.symbols))
      ∙ domains_length (with_history m fs).variables (values_of m.symbols (slice_index_or long k []))
      (subst (AreInDomains (with_history m fs).variables) (trace_at m.symbols long k)
      (place_of_each (AreInDomains (with_history m fs).variables) (trace_of m.symbols long) k [] read.domains (subst (λ n. k < n) (sym (length-map long (values_of m.symbols))) l)))
      ∙ length-append m.variables (bit_variables 0 fs)
      ∙ ap (λ n. length m.variables + n) (bits_length 0 fs)

  pub value_count : (path : List Assignment) (long : List (List AValue)) → AreReadFrom problem path (trace_of m.symbols long) → (i : ℕ) (v : List AValue) →
      slice_get long i ≡ Some v → length v ≡ length m.variables + length fs
  value_count path long read i v e = let at : (slice_index_or long i [] ≡ v) × (i < length long) = get_place [] v long i e in ap length (sym at.0) ∙ moment_length path long read i [] at.1

  -- the bits of the last and the cut moments are those of the path
  pub shown_path : (path : List Assignment) (long : List (List AValue)) (v : List AValue) (f : CodeFound) → AreReadFrom problem path (trace_of m.symbols long) →
      slice_get long (length long - 1) ≡ Some v → f.set ≡ bits_set v (length m.variables) (length fs) → f.trace ≡ map (take (length m.variables)) long → Shown problem path f
  shown_path path long v f read at set trace = record {
    long = trace_of m.symbols long;
    read = read;
    is = same_found f.set (failed_in (history_of m fs) (last_of (trace_of m.symbols long))) (trace_of m.symbols f.trace) (map (take (length m.variables)) (trace_of m.symbols long))
        (set ∙ tells) (ap (trace_of m.symbols) trace ∙ cut_read m.symbols (length m.variables) long);
  }
    where
      last : last_of (trace_of m.symbols long) ≡ values_of m.symbols v
      last =
          last_place (trace_of m.symbols long)
          ∙ ap (λ n. slice_index_or (trace_of m.symbols long) (n - 1) []) (length-map long (values_of m.symbols))
          ∙ trace_at m.symbols long (length long - 1)
          ∙ ap (values_of m.symbols) (get_place [] v long (length long - 1) at).0

      tells : bits_set v (length m.variables) (length fs) ≡ failed_in (history_of m fs) (last_of (trace_of m.symbols long))
      tells =
          where_same (is_set_at v) (is_true_at (values_of m.symbols v)) (λ n. sym (set_is_true m.symbols v n)) 1 (history_of m fs)
          ∙ ap (λ u. failed_in (history_of m fs) u) (sym last)
