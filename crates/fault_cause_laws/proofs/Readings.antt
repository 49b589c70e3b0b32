-- What the added variables of a told trace read, by their numbers.
use Rattle.std.proofs.Common.{◌≡◌, ℕ, zero, suc, ◌+◌, ◌<◌, Bool, List, [], ◌∷◌, length, Option, Some, refl, ap, ◌∙◌, sym, subst, arith}
use Rattle.std.proofs.lemmas.List.{length-append}
use Rattle.std.specs.Prelude.{slice_get, IsTrue}
use Rattle.smv_language.specs.Language.{Text, Value, Each, FlatModel}
use Rattle.smv_flat_laws.specs.History.{Mode}
use Rattle.fault_cause_laws.specs.Columns.{with_value}
use Rattle.fault_cause_laws.proofs.AddedReadings.{get_last}
use Rattle.fault_cause_laws.proofs.Columns.{EachFrom, grown, with_values_length}
use Rattle.fault_cause_laws.specs.Causes.{CommonCause, IsCauseOf}
use Rattle.fault_cause_laws.specs.CausedEvents.{AreCaused}
use Rattle.fault_cause_laws.specs.StagedModel.{quiet_name, now_name, none_name, self_name, with_hit, with_hits, with_age, with_event, with_cause, with_each_cause, with_own, with_owns, own_events, cause_events}
use Rattle.fault_cause_laws.specs.StagedValues.{age_value, event_value, hit_value, own_value, hits_told, cause_told, causes_told, owns_told}
use Rattle.fault_cause_laws.proofs.Formulas.{get_two}
use Rattle.fault_cause_laws.proofs.OneCause.{cause_symbols}
use Rattle.base_values.proofs.ListLaws.{get_left}

-- the variable has the values, moment by moment; and valuations have so many values
abbrev pub ReadsAt : ℕ → (ℕ → Value) → List (List Value) → Type 0
ReadsAt x value vs = EachFrom (λ k v. slice_get v x ≡ Some (value k)) 0 vs

abbrev pub HaveSize : ℕ → List (List Value) → Type 0
HaveSize n vs = EachFrom (λ k v. length v ≡ n) 0 vs

pub reads_more : (x : ℕ) (value more : ℕ → Value) (vs : List (List Value)) → ReadsAt x value vs → ReadsAt x value (with_value more vs)
reads_more x value more vs h = grown (λ k v. slice_get v x ≡ Some (value k)) (λ k v. slice_get v x ≡ Some (value k)) more 0 vs (λ k v e. get_left v (more k ∷ []) x (value k) e) h

pub size_more : (n : ℕ) (more : ℕ → Value) (vs : List (List Value)) → HaveSize n vs → HaveSize (n + 1) (with_value more vs)
size_more n more vs h = grown (λ k v. length v ≡ n) (λ k v. length v ≡ n + 1) more 0 vs (λ k v e. length-append v (more k ∷ []) ∙ ap (λ x. x + 1) e) h

pub reads_new : (n : ℕ) (value : ℕ → Value) (vs : List (List Value)) → HaveSize n vs → ReadsAt n value (with_value value vs)
reads_new n value vs h = grown (λ k v. length v ≡ n) (λ k v. slice_get v n ≡ Some (value k)) value 0 vs (λ k v e. get_last v (value k) n e) h

same_size : (n n' : ℕ) (vs : List (List Value)) → n ≡ n' → HaveSize n vs → HaveSize n' vs
same_size n n' vs e h = subst (λ x. HaveSize x vs) e h

module _ (stands : ℕ → ℕ → Bool) where
  hits_keep : (c : CommonCause) (time : Option ℕ) (x : ℕ) (value : ℕ → Value) (is : List ℕ) (vs : List (List Value)) → ReadsAt x value vs → ReadsAt x value (hits_told stands c time is vs)
  hits_keep c time x value [] vs h = h
  hits_keep c time x value (i ∷ is) vs h = hits_keep c time x value is (with_value (hit_value stands c time i) vs) (reads_more x value (hit_value stands c time i) vs h)

  hits_size : (c : CommonCause) (time : Option ℕ) (n : ℕ) (is : List ℕ) (vs : List (List Value)) → HaveSize n vs → HaveSize (n + length is) (hits_told stands c time is vs)
  hits_size c time n [] vs h = same_size n (n + 0) vs (omega arith) h
  hits_size c time n (i ∷ is) vs h =
      same_size ((n + 1) + length is) (n + suc (length is)) (hits_told stands c time is (with_value (hit_value stands c time i) vs)) (omega arith)
      (hits_size c time (n + 1) is (with_value (hit_value stands c time i) vs) (size_more n (hit_value stands c time i) vs h))

  cause_keep : (c : CommonCause) (time : Option ℕ) (x : ℕ) (value : ℕ → Value) (vs : List (List Value)) → ReadsAt x value vs → ReadsAt x value (cause_told stands c time vs)
  cause_keep c time x value vs h =
      hits_keep c time x value c.strikes (with_value (event_value c time) (with_value (age_value c time) vs))
      (reads_more x value (event_value c time) (with_value (age_value c time) vs) (reads_more x value (age_value c time) vs h))

  pub cause_size : (c : CommonCause) (time : Option ℕ) (n : ℕ) (vs : List (List Value)) → HaveSize n vs → HaveSize (n + (2 + length c.strikes)) (cause_told stands c time vs)
  cause_size c time n vs h =
      same_size (((n + 1) + 1) + length c.strikes) (n + (2 + length c.strikes)) (cause_told stands c time vs) (omega arith)
      (hits_size c time ((n + 1) + 1) c.strikes (with_value (event_value c time) (with_value (age_value c time) vs))
      (size_more (n + 1) (event_value c time) (with_value (age_value c time) vs) (size_more n (age_value c time) vs h)))

  cause_event : (c : CommonCause) (time : Option ℕ) (n : ℕ) (vs : List (List Value)) → HaveSize n vs → ReadsAt (suc n) (event_value c time) (cause_told stands c time vs)
  cause_event c time n vs h =
      hits_keep c time (suc n) (event_value c time) c.strikes (with_value (event_value c time) (with_value (age_value c time) vs))
      (reads_new (suc n) (event_value c time) (with_value (age_value c time) vs) (same_size (n + 1) (suc n) (with_value (age_value c time) vs) (omega arith) (size_more n (age_value c time) vs h)))

  causes_keep : (cs : List CommonCause) (times : List (Option ℕ)) (x : ℕ) (value : ℕ → Value) (vs : List (List Value)) → ReadsAt x value vs → ReadsAt x value (causes_told stands cs times vs)
  causes_keep [] times x value vs h = h
  causes_keep (c ∷ cs) [] x value vs h = h
  causes_keep (c ∷ cs) (time ∷ times) x value vs h = causes_keep cs times x value (cause_told stands c time vs) (cause_keep c time x value vs h)

  pub owns_keep : (cs : List CommonCause) (times : List (Option ℕ)) (i : ℕ) (more : List Mode) (x : ℕ) (value : ℕ → Value) (vs : List (List Value)) → ReadsAt x value vs → ReadsAt x value (owns_told stands cs times i more vs)
  owns_keep cs times i [] x value vs h = h
  owns_keep cs times i (f ∷ more) x value vs h = owns_keep cs times (suc i) more x value (with_value (own_value stands cs times i) vs) (reads_more x value (own_value stands cs times i) vs h)

  -- the own event of the j-th of these faults
  pub own_reads : (cs : List CommonCause) (times : List (Option ℕ)) (more : List Mode) (i n j : ℕ) (vs : List (List Value)) → j < length more → HaveSize n vs →
      ReadsAt (n + j) (own_value stands cs times (i + j)) (owns_told stands cs times i more vs)
  own_reads cs times [] i n j vs l h = absurd (omega arith)
  own_reads cs times (f ∷ more) i n zero vs l h =
      let e : n ≡ n + 0 = omega arith in
      let g : i ≡ i + 0 = omega arith in
      subst (λ x. ReadsAt x (own_value stands cs times (i + 0)) (owns_told stands cs times (suc i) more (with_value (own_value stands cs times i) vs))) e
      (subst (λ y. ReadsAt n (own_value stands cs times y) (owns_told stands cs times (suc i) more (with_value (own_value stands cs times i) vs))) g
      (owns_keep cs times (suc i) more n (own_value stands cs times i) (with_value (own_value stands cs times i) vs) (reads_new n (own_value stands cs times i) vs h)))
  own_reads cs times (f ∷ more) i n (suc j) vs l h =
      let e : (n + 1) + j ≡ n + suc j = omega arith in
      let g : suc i + j ≡ i + suc j = omega arith in
      subst (λ x. ReadsAt x (own_value stands cs times (i + suc j)) (owns_told stands cs times (suc i) more (with_value (own_value stands cs times i) vs))) e
      (subst (λ y. ReadsAt ((n + 1) + j) (own_value stands cs times y) (owns_told stands cs times (suc i) more (with_value (own_value stands cs times i) vs))) g
      (own_reads cs times more (suc i) (n + 1) j (with_value (own_value stands cs times i) vs) (omega arith) (size_more n (own_value stands cs times i) vs h)))

  -- the event of the j-th of these causes, whose mode is the j-th of their events
  pub record CauseRead (cs : List CommonCause) (times : List (Option ℕ)) (j n s : ℕ) (told : List (List Value)) : Type 0 where
    pub cause : CommonCause
    pub has_cause : slice_get cs j ≡ Some cause
    pub time : Option ℕ
    pub has_time : slice_get times j ≡ Some time
    pub variable : ℕ
    pub symbol : ℕ
    pub event : slice_get (cause_events n s cs) j ≡ Some (record { variable = variable; symbol = symbol })
    pub reads : ReadsAt variable (event_value cause time) told

  pub cause_reads : (total : ℕ) (cs : List CommonCause) (times : List (Option ℕ)) (j n s : ℕ) (vs : List (List Value)) → j < length cs → AreCaused total (λ k i. IsTrue (stands k i)) cs times → HaveSize n vs →
      CauseRead cs times j n s (causes_told stands cs times vs)
  cause_reads total [] times j n s vs l a h = absurd (omega arith)
  cause_reads total (c ∷ cs) [] j n s vs l a h = absurd a
  cause_reads total (c ∷ cs) (time ∷ times) zero n s vs l a h =
      record {
        cause = c;
        has_cause = refl;
        time = time;
        has_time = refl;
        variable = suc n;
        symbol = suc s;
        event = refl;
        reads = causes_keep cs times (suc n) (event_value c time) (cause_told stands c time vs) (cause_event c time n vs h);
      }
  cause_reads total (c ∷ cs) (time ∷ times) (suc j) n s vs l a h =
      let rest : CauseRead cs times j (n + (2 + length c.strikes)) (suc (suc s)) (causes_told stands cs times (cause_told stands c time vs)) =
      cause_reads total cs times j (n + (2 + length c.strikes)) (suc (suc s)) (cause_told stands c time vs) (omega arith) a.1 (cause_size c time n vs h) in
      record { cause = rest.cause; has_cause = rest.has_cause; time = rest.time; has_time = rest.has_time; variable = rest.variable; symbol = rest.symbol; event = rest.event; reads = rest.reads }

-- the events of faults, by their places
pub own_event_at : (fs : List Mode) (n s j : ℕ) → j < length fs → slice_get (own_events n s fs) j ≡ Some (record { variable = n + j; symbol = suc (s + (j + j)) })
own_event_at [] n s j l = absurd (omega arith)
own_event_at (f ∷ fs) n s zero l = same n (n + 0) (suc s) (suc (s + (0 + 0))) (omega arith) (omega arith)
  where
    same : (a b c d : ℕ) → a ≡ b → c ≡ d → Some (let x : Mode = record { variable = a; symbol = c } in x) ≡ Some (record { variable = b; symbol = d })
    same a b c d e g = cc
own_event_at (f ∷ fs) n s (suc j) l =
    own_event_at fs (suc n) (suc (suc s)) j (omega arith) ∙ same (suc n + j) (n + suc j) (suc (suc (suc s) + (j + j))) (suc (s + (suc j + suc j))) (omega arith) (omega arith)
  where
    same : (a b c d : ℕ) → a ≡ b → c ≡ d → Some (let x : Mode = record { variable = a; symbol = c } in x) ≡ Some (record { variable = b; symbol = d })
    same a b c d e g = cc

pub own_events_count : (fs : List Mode) (n s : ℕ) → length (own_events n s fs) ≡ length fs
own_events_count [] n s = refl
own_events_count (f ∷ fs) n s = ap suc (own_events_count fs (suc n) (suc (suc s)))

pub cause_events_count : (cs : List CommonCause) (n s : ℕ) → length (cause_events n s cs) ≡ length cs
cause_events_count [] n s = refl
cause_events_count (c ∷ cs) n s = ap suc (cause_events_count cs (n + (2 + length c.strikes)) (suc (suc s)))

-- The symbols of the staged model.
own_symbols_count : (fs : List Mode) (cs : List CommonCause) (ages : List ℕ) (i : ℕ) (m : FlatModel) → length (with_own fs cs ages i m).symbols ≡ length m.symbols + 2
own_symbols_count fs cs ages i m = length-append m.symbols (none_name i ∷ self_name i ∷ [])

pub owns_keep_symbol : (fs : List Mode) (cs : List CommonCause) (ages : List ℕ) (more : List Mode) (i : ℕ) (m : FlatModel) (s : ℕ) (x : Text) → slice_get m.symbols s ≡ Some x → slice_get (with_owns fs cs ages i more m).symbols s ≡ Some x
owns_keep_symbol fs cs ages [] i m s x e = e
owns_keep_symbol fs cs ages (f ∷ more) i m s x e = owns_keep_symbol fs cs ages more (suc i) (with_own fs cs ages i m) s x (get_left m.symbols (none_name i ∷ self_name i ∷ []) s x e)

pub own_symbol : (fs : List Mode) (cs : List CommonCause) (ages : List ℕ) (more : List Mode) (i j : ℕ) (m : FlatModel) → j < length more →
    slice_get (with_owns fs cs ages i more m).symbols (suc (length m.symbols + (j + j))) ≡ Some (self_name (i + j))
own_symbol fs cs ages [] i j m l = absurd (omega arith)
own_symbol fs cs ages (f ∷ more) i zero m l =
    let e : suc (length m.symbols) ≡ suc (length m.symbols + (0 + 0)) = omega arith in
    let g : i ≡ i + 0 = omega arith in
    subst (λ x. slice_get (with_owns fs cs ages (suc i) more (with_own fs cs ages i m)).symbols x ≡ Some (self_name (i + 0))) e
    (owns_keep_symbol fs cs ages more (suc i) (with_own fs cs ages i m) (suc (length m.symbols)) (self_name i) (get_two m.symbols (none_name i) (self_name i)).1 ∙ ap (λ x. Some (self_name x)) g)
own_symbol fs cs ages (f ∷ more) i (suc j) m l =
    let c : length (with_own fs cs ages i m).symbols ≡ length m.symbols + 2 = own_symbols_count fs cs ages i m in
    let e : suc (length (with_own fs cs ages i m).symbols + (j + j)) ≡ suc (length m.symbols + (suc j + suc j)) = omega arith in
    let g : suc i + j ≡ i + suc j = omega arith in
    subst (λ x. slice_get (with_owns fs cs ages (suc i) more (with_own fs cs ages i m)).symbols x ≡ Some (self_name (i + suc j))) e
    (own_symbol fs cs ages more (suc i) j (with_own fs cs ages i m) (omega arith) ∙ ap (λ x. Some (self_name x)) g)

-- the symbols of causes' events
module _ (fs : List Mode) (wanted : ℕ → Text) where
  hits_keep_symbol : (c : CommonCause) (age k : ℕ) (is : List ℕ) (m : FlatModel) (s : ℕ) (x : Text) → slice_get m.symbols s ≡ Some x → slice_get (with_hits fs c age k is m).symbols s ≡ Some x
  hits_keep_symbol c age k [] m s x e = e
  hits_keep_symbol c age k (i ∷ is) m s x e = hits_keep_symbol c age (suc k) is (with_hit fs c age k i m) s x (get_left m.symbols [] s x e)

  cause_keep_symbol : (c : CommonCause) (m : FlatModel) (s : ℕ) (x : Text) → slice_get m.symbols s ≡ Some x → slice_get (with_cause fs m c).symbols s ≡ Some x
  cause_keep_symbol c m s x e =
      hits_keep_symbol c (length m.variables) 1 c.strikes (with_event (with_age m c) c (length m.variables)) s x
      (get_left (with_age m c).symbols (quiet_name c.name ∷ now_name c.name ∷ []) s x (get_left m.symbols [] s x e))

  causes_keep_symbol : (cs : List CommonCause) (m : FlatModel) (s : ℕ) (x : Text) → slice_get m.symbols s ≡ Some x → slice_get (with_each_cause fs m cs).symbols s ≡ Some x
  causes_keep_symbol [] m s x e = e
  causes_keep_symbol (c ∷ cs) m s x e = causes_keep_symbol cs (with_cause fs m c) s x (cause_keep_symbol c m s x e)

  now_there : (c : CommonCause) (m : FlatModel) → slice_get (with_cause fs m c).symbols (suc (length m.symbols)) ≡ Some (now_name c.name)
  now_there c m =
      let e : length (with_age m c).symbols ≡ length m.symbols = length-append m.symbols [] ∙ plus_zero (length m.symbols) in
      hits_keep_symbol c (length m.variables) 1 c.strikes (with_event (with_age m c) c (length m.variables)) (suc (length m.symbols)) (now_name c.name)
      (subst (λ s. slice_get (with_event (with_age m c) c (length m.variables)).symbols (suc s) ≡ Some (now_name c.name)) e (get_two (with_age m c).symbols (quiet_name c.name) (now_name c.name)).1)
    where
      plus_zero : (n : ℕ) → n + 0 ≡ n
      plus_zero n = omega arith

  -- the event of the j-th cause has the cause's symbol
  pub record CauseSymbol (cs : List CommonCause) (j n s : ℕ) (m : FlatModel) : Type 0 where
    pub cause : CommonCause
    pub has_cause : slice_get cs j ≡ Some cause
    pub event : Mode
    pub has_event : slice_get (cause_events n s cs) j ≡ Some event
    pub has_symbol : slice_get (with_each_cause fs m cs).symbols event.symbol ≡ Some (now_name cause.name)

  pub cause_symbol : (cs : List CommonCause) (j n s : ℕ) (m : FlatModel) → Each (IsCauseOf (length fs)) cs → j < length cs → s ≡ length m.symbols → CauseSymbol cs j n s m
  cause_symbol [] j n s m are l e = absurd (omega arith)
  cause_symbol (c ∷ cs) zero n s m are l e =
      record {
        cause = c;
        has_cause = refl;
        event = record { variable = suc n; symbol = suc s };
        has_event = refl;
        has_symbol = causes_keep_symbol cs (with_cause fs m c) (suc s) (now_name c.name) (subst (λ x. slice_get (with_cause fs m c).symbols (suc x) ≡ Some (now_name c.name)) (sym e) (now_there c m));
      }
  cause_symbol (c ∷ cs) (suc j) n s m are l e =
      let g : length (with_cause fs m c).symbols ≡ length m.symbols + 2 = cause_symbols fs wanted c are.0 m in
      let rest : CauseSymbol cs j (n + (2 + length c.strikes)) (suc (suc s)) (with_cause fs m c) = cause_symbol cs j (n + (2 + length c.strikes)) (suc (suc s)) (with_cause fs m c) are.1 (omega arith) (omega arith) in
      record { cause = rest.cause; has_cause = rest.has_cause; event = rest.event; has_event = rest.has_event; has_symbol = rest.has_symbol }

pub owns_length : (stands : ℕ → ℕ → Bool) (cs : List CommonCause) (times : List (Option ℕ)) (i : ℕ) (more : List Mode) (vs : List (List Value)) → length (owns_told stands cs times i more vs) ≡ length vs
owns_length stands cs times i [] vs = refl
owns_length stands cs times i (f ∷ more) vs = owns_length stands cs times (suc i) more (with_value (own_value stands cs times i) vs) ∙ with_values_length (own_value stands cs times i) 0 vs
