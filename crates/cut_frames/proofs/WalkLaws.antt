-- Moments that are linked by steps, and the paths that they are.
use Rattle.std.proofs.Common.{◌≡◌, ◌≤◌, ◌<◌, ℕ, zero, suc, ◌+◌, ◌*◌, ◌-◌, Bool, List, [], ◌∷◌, ◌++◌, Some, refl, sym, ◌∙◌, ap, subst, arith, length, ◌⊎◌, inl, inr}
use Rattle.std.specs.Prelude.{slice_get, slice_index_or, reverse, All, IsTrue}
use Rattle.std.proofs.lemmas.List.{length-reverse, get_or-reverse}
use Rattle.std.proofs.lemmas.List.Elements.{All-from_get_or, All-tail}
use Rattle.std.proofs.lemmas.Option.{slice_get-get_or, slice_get_within as get_within}
use Rattle.sat_clauses.specs.Assignment.{Assignment}
use Rattle.sat_clauses.specs.Literal.{Literal}
use Rattle.sat_clauses.specs.Models.{literal_value, values_of}
use Rattle.sat_clauses.specs.declared.system.System.{System}
use Rattle.cut_frames.specs.Bits.{literal_for, literals_from, read_from}
use Rattle.cut_frames.specs.Chain.{State, IsState, IsFirstState, IsBad}
use Rattle.cut_frames.specs.OwnVariables.{IsFoundAlone}
use Rattle.cut_frames.specs.Path.{Gives, Leads, IsPath, AreLinked, EndsBad, IsStepUnder, IsStateMoment, IsStepMoment, state_in, inputs_in}
use Rattle.cut_frames.specs.declared.guarded.Beside.TheVariants.{Step, Bad}
use Rattle.cut_frames.proofs.BitLemmas.{agrees_read, length_read}
use Rattle.cut_frames.proofs.LookLemmas.{agrees_assumed, now_met, next_met, inputs_met}
use Rattle.cut_frames.proofs.MomentLemmas.{taken_read, taken_gives}
use Rattle.base_values.proofs.ListLaws.{push_get}

pub length_push : {A : Type 0} (xs : List A) (x : A) → length (xs ++ x ∷ []) ≡ length xs + 1
length_push [] x = omega arith
length_push (y ∷ ys) x = let rest = length_push ys x in one (length (ys ++ x ∷ [])) (length ys) rest
  where
    one : (m n : ℕ) → m ≡ n + 1 → suc m ≡ suc n + 1
    one m n e = omega (arith, e)

pub newest : {A : Type 0} (xs : List A) (d : A) → 0 < length xs → slice_get xs (length xs - 1) ≡ Some (slice_index_or xs (length xs - 1) d)
newest {A = A} [] d lt = absurd (omega (arith, lt))
newest {A = A} (x ∷ xs) d lt = subst (λ n. slice_get (x ∷ xs) n ≡ Some (slice_index_or (x ∷ xs) n d)) (less (length xs)) (go x xs)
  where
    less : (n : ℕ) → n ≡ suc n - 1
    less n = omega arith

    go : (x : A) (xs : List A) → slice_get (x ∷ xs) (length xs) ≡ Some (slice_index_or (x ∷ xs) (length xs) d)
    go x [] = refl
    go x (y ∷ ys) = go y ys

pub some_or_none : {A : Type 0} (xs : List A) → (xs ≡ []) ⊎ (0 < length xs)
some_or_none [] = inl refl
some_or_none (x ∷ xs) = inr (grind arith)

-- the literals of a state behind another one
rest_of : (P : Literal → Type 0) (n : ℕ) (s t : State) → All P (literals_from n (s ++ t)) → All P (literals_from (n + length s) t)
rest_of P n [] t a = subst (λ m. All P (literals_from m t)) (none n) a
  where
    none : (n : ℕ) → n ≡ n + 0
    none n = omega arith
rest_of P n (b ∷ s) t a = subst (λ m. All P (literals_from m t)) (one n (length s)) (rest_of P (n + 1) s t (All-tail P (literal_for n b) (literals_from (n + 1) (s ++ t)) a))
  where
    one : (n k : ℕ) → n + 1 + k ≡ n + suc k
    one n k = omega arith

module _ (system : System) (bad : List (List Literal)) where
  -- the moment of a state that was found to be bad
  pub bad_begun : (lits : List Literal) (values a : Assignment) → IsFoundAlone system bad Bad lits values → IsStateMoment system values a → EndsBad system bad a
  bad_begun lits values a m moment =
      let is : state_in system a ≡ read_from 2 system.state_bits values = taken_read 2 system.state_bits values a moment.state in
      let e : IsState system (read_from 2 system.state_bits values) = length_read 2 system.state_bits values in
      let found : IsBad system bad (read_from 2 system.state_bits values) = (e, (m.beside.values, now_met system bad (values_of values) (read_from 2 system.state_bits values) e (agrees_read 2 system.state_bits values) m.beside, m.beside.all)) in
      (subst (IsBad system bad) (sym is) found, taken_gives 2 system.state_bits values a moment.state)

  -- the moment of a step that was found into a state
  pub stepped_back : (s t : State) (values a : Assignment) → IsState system s → IsState system t → IsFoundAlone system bad Step (literals_from 2 (s ++ t)) values → IsStepMoment system values a → Leads system a t
  stepped_back s t values a long e m moment =
      let is : state_in system a ≡ read_from 2 system.state_bits values = taken_read 2 system.state_bits values a moment.state in
      let are : inputs_in system a ≡ read_from (2 * system.state_bits + 2) system.input_bits values = taken_read (2 * system.state_bits + 2) system.input_bits values a moment.inputs in
      let now : IsState system (read_from 2 system.state_bits values) = length_read 2 system.state_bits values in
      let next : All (λ l. IsTrue (literal_value (values_of values) l)) (literals_from (system.state_bits + 2) t) =
      subst (λ n. All (λ l. IsTrue (literal_value (values_of values) l)) (literals_from n t)) (behind (length s) system.state_bits long) (rest_of (λ l. IsTrue (literal_value (values_of values) l)) 2 s t m.assumed) in
      let step : IsStepUnder system (read_from (2 * system.state_bits + 2) system.input_bits values) (read_from 2 system.state_bits values) t = (
        now,
        e,
        (
          m.beside.values,
          now_met system system.step (values_of values) (read_from 2 system.state_bits values) now (agrees_read 2 system.state_bits values) m.beside,
          next_met system system.step (values_of values) t e (agrees_assumed (values_of values) (system.state_bits + 2) t next) m.beside,
          inputs_met system system.step (values_of values) (read_from (2 * system.state_bits + 2) system.input_bits values) (length_read (2 * system.state_bits + 2) system.input_bits values)
              (agrees_read (2 * system.state_bits + 2) system.input_bits values) m.beside,
          m.beside.all,
        ),
      ) in (
        taken_gives 2 system.state_bits values a moment.state,
        taken_gives (2 * system.state_bits + 2) system.input_bits values a moment.inputs,
        subst (λ (u : List Bool). IsStepUnder system u (state_in system a) t) (sym are) (subst (λ (r : State). IsStepUnder system (read_from (2 * system.state_bits + 2) system.input_bits values) r t) (sym is) step),
      )
    where
      behind : (n b : ℕ) → n ≡ b → 2 + n ≡ b + 2
      behind n b e = omega (arith, e)

  -- one moment more: that of a bad state, or of one from which a step leads to the last
  pub linked_more : (owed : List Assignment) (r : Assignment) → AreLinked system bad owed → (owed ≡ [] → EndsBad system bad r) → (0 < length owed → Leads system r (state_in system (slice_index_or owed (length owed - 1) []))) →
      AreLinked system bad (owed ++ r ∷ [])
  linked_more owed r o first more = record {
    given = λ p s e. given p s (push_get owed r p s e);
    ends_bad = λ s e. ends s (push_get owed r 0 s e);
    steps = λ p s t e f. steps p s t (push_get owed r p t e) (push_get owed r (suc p) s f);
  }
    where
      one_less : (n p : ℕ) → suc p ≡ n → p ≡ n - 1
      one_less n p e = omega (arith, e)

      empty : (xs : List Assignment) → 0 ≡ length xs → xs ≡ []
      empty [] e = refl
      empty (x ∷ xs) e = absurd (omega (arith, e))

      some : (n p : ℕ) → suc p ≡ n → 0 < n
      some n p e = omega (arith, e)

      same : (s t : Assignment) → Some s ≡ Some t → s ≡ t
      same s t e = cc

      gives : Gives 2 system.state_bits r
      gives = by_case (some_or_none owed) where
        by_case : (owed ≡ []) ⊎ (0 < length owed) → Gives 2 system.state_bits r
        by_case (inl e) = (first e).1
        by_case (inr lt) = (more lt).0

      given : (p : ℕ) (s : Assignment) → (slice_get owed p ≡ Some s) ⊎ ((p ≡ length owed) × (r ≡ s)) → Gives 2 system.state_bits s
      given p s (inl e) = o.given p s e
      given p s (inr e) = subst (Gives 2 system.state_bits) e.1 gives

      ends : (s : Assignment) → (slice_get owed 0 ≡ Some s) ⊎ ((0 ≡ length owed) × (r ≡ s)) → IsBad system bad (state_in system s)
      ends s (inl e) = o.ends_bad s e
      ends s (inr e) = subst (λ z. IsBad system bad (state_in system z)) e.1 (first (empty owed e.0)).0

      steps : (p : ℕ) (s t : Assignment) → (slice_get owed p ≡ Some t) ⊎ ((p ≡ length owed) × (r ≡ t)) → (slice_get owed (suc p) ≡ Some s) ⊎ ((suc p ≡ length owed) × (r ≡ s)) → Leads system s (state_in system t)
      steps p s t (inl e) (inl f) = o.steps p s t e f
      steps p s t (inr e) (inl f) = let within = get_within owed (suc p) s f in absurd (omega (arith, within, e.0))
      steps p s t (inr e) (inr f) = absurd (omega (arith, e.0, f.0))
      steps p s t (inl e) (inr f) =
          let lt = some (length owed) p f.0 in
          let top : slice_get owed p ≡ Some (slice_index_or owed (length owed - 1) []) = subst (λ n. slice_get owed n ≡ Some (slice_index_or owed (length owed - 1) [])) (sym (one_less (length owed) p f.0)) (newest owed [] lt) in
          let is : slice_index_or owed (length owed - 1) [] ≡ t = same (slice_index_or owed (length owed - 1) []) t (sym top ∙ e) in
          subst (λ z. Leads system z (state_in system t)) f.1 (subst (λ z. Leads system r (state_in system z)) is (more lt))

  -- linked moments turned round are a path, where the last has a first state
  pub linked_path : (k : ℕ) (owed : List Assignment) → AreLinked system bad owed → 0 < length owed → length owed ≤ k + 1 →
      IsFirstState system (state_in system (slice_index_or owed (length owed - 1) [])) → IsPath system bad k (reverse owed)
  linked_path k owed o lt fits first = record {
    some = subst (λ n. 0 < n) (sym (length-reverse owed)) lt;
    short = subst (λ n. n ≤ k + 1) (sym (length-reverse owed)) fits;
    given = All-from_get_or (Gives 2 system.state_bits) (reverse owed) [] (λ i l. given i (subst (λ n. i < n) (length-reverse owed) l));
    starts_first = subst (λ a. IsFirstState system (state_in system a)) (sym (get_or-reverse owed 0 [] lt ∙ ap (λ n. slice_index_or owed n []) (none_less (length owed)))) first;
    steps = λ i l. steps i (subst (λ n. i + 1 < n) (length-reverse owed) l);
    ends_bad = subst (λ n. IsBad system bad (state_in system (slice_index_or (reverse owed) (n - 1) []))) (sym (length-reverse owed))
        (subst (λ a. IsBad system bad (state_in system a)) (sym (get_or-reverse owed (length owed - 1) [] (last (length owed) lt) ∙ ap (λ n. slice_index_or owed n []) (all_less (length owed))))
        (o.ends_bad (slice_index_or owed 0 []) (slice_get-get_or owed 0 [] lt)));
  }
    where
      none_less : (n : ℕ) → n - 1 - 0 ≡ n - 1
      none_less n = omega arith

      all_less : (n : ℕ) → n - 1 - (n - 1) ≡ 0
      all_less n = omega arith

      last : (n : ℕ) → 0 < n → n - 1 < n
      last n lt = omega arith

      back : (n i : ℕ) → i < n → n - 1 - i < n
      back n i lt = omega arith

      sooner : (n i : ℕ) → i + 1 < n → i < n
      sooner n i lt = omega arith

      one_back : (n i : ℕ) → i + 1 < n → n - 1 - i ≡ suc (n - 1 - (i + 1))
      one_back n i lt = omega arith

      given : (i : ℕ) → i < length owed → Gives 2 system.state_bits (slice_index_or (reverse owed) i [])
      given i l = subst (Gives 2 system.state_bits) (sym (get_or-reverse owed i [] l))
          (o.given (length owed - 1 - i) (slice_index_or owed (length owed - 1 - i) []) (slice_get-get_or owed (length owed - 1 - i) [] (back (length owed) i l)))

      steps : (i : ℕ) → i + 1 < length owed → Leads system (slice_index_or (reverse owed) i []) (state_in system (slice_index_or (reverse owed) (i + 1) []))
      steps i l =
          let p : ℕ = length owed - 1 - (i + 1) in
          let here : slice_index_or (reverse owed) i [] ≡ slice_index_or owed (suc p) [] =
          get_or-reverse owed i [] (sooner (length owed) i l) ∙ ap (λ n. slice_index_or owed n []) (one_back (length owed) i l) in
          let next : slice_index_or (reverse owed) (i + 1) [] ≡ slice_index_or owed p [] = get_or-reverse owed (i + 1) [] l in
          let inside : suc p < length owed = subst (λ n. n < length owed) (one_back (length owed) i l) (back (length owed) i (sooner (length owed) i l)) in
          subst (λ a. Leads system a (state_in system (slice_index_or (reverse owed) (i + 1) []))) (sym here)
          (subst (λ b. Leads system (slice_index_or owed (suc p) []) (state_in system b)) (sym next)
          (o.steps p (slice_index_or owed (suc p) []) (slice_index_or owed p []) (slice_get-get_or owed p [] (back (length owed) (i + 1) l)) (slice_get-get_or owed (suc p) [] inside)))
