-- What is told of two caused traces is the same only where they are.
use Rattle.std.proofs.Common.{◌≡◌, ℕ, zero, suc, ◌+◌, ◌<◌, Bool, List, [], ◌∷◌, ◌++◌, length, Option, Some, None, refl, ap, ◌∙◌, sym, subst, arith}
use Rattle.smv_language.specs.Language.{Text, Value, Each, FlatModel}
use Rattle.smv_flat_laws.specs.History.{Mode}
use Rattle.fault_cause_laws.specs.Columns.{with_values, with_value}
use Rattle.fault_cause_laws.specs.Causes.{CommonCause, IsCauseOf}
use Rattle.fault_cause_laws.specs.CausedEvents.{Occurs, AreCaused}
use Rattle.fault_cause_laws.specs.StagedValues.{age_at, age_value, event_value, hit_value, own_value, hits_told, cause_told, causes_told, owns_told, stands_at, caused_told}
use Rattle.fault_cause_laws.specs.Laws.{AreStaged, StandsAt, IsCausedTrace}
use Rattle.fault_cause_laws.proofs.Ages.{age_at_moment}
use Rattle.fault_cause_laws.proofs.EachCause.{causes_length}
use Rattle.fault_cause_laws.proofs.OneCause.{cause_length}
use Rattle.fault_cause_laws.proofs.StagedTraces.{wanted}
use Rattle.smv_flat_laws.proofs.HistoryTraces.{joined}
use Rattle.cut_text_laws.proofs.FlatNames.{same_number}

-- lists that end alike
snoc_front : (v w : List Value) (a b : Value) → (v ++ a ∷ []) ≡ (w ++ b ∷ []) → (v ≡ w) × (a ≡ b)
snoc_front [] [] a b e = let same : a ≡ b = heads a b [] [] e in (refl, same)
  where
    heads : (x y : Value) (xs ys : List Value) → (x ∷ xs) ≡ (y ∷ ys) → x ≡ y
    heads x y xs ys e = cc
snoc_front [] (y ∷ w) a b e = absurd (too_long w (tails a y [] (w ++ b ∷ []) e))
  where
    tails : (x y : Value) (xs ys : List Value) → (x ∷ xs) ≡ (y ∷ ys) → xs ≡ ys
    tails x y xs ys e = cc

    too_long : (w : List Value) → [] ≡ (w ++ b ∷ []) → ⊥
    too_long [] e = cc
    too_long (z ∷ w) e = cc
snoc_front (x ∷ v) [] a b e = absurd (too_long v (tails x b (v ++ a ∷ []) [] e))
  where
    tails : (x y : Value) (xs ys : List Value) → (x ∷ xs) ≡ (y ∷ ys) → xs ≡ ys
    tails x y xs ys e = cc

    too_long : (v : List Value) → (v ++ a ∷ []) ≡ [] → ⊥
    too_long [] e = cc
    too_long (z ∷ v) e = cc
snoc_front (x ∷ v) (y ∷ w) a b e =
    let rest : (v ≡ w) × (a ≡ b) = snoc_front v w a b (tails x y (v ++ a ∷ []) (w ++ b ∷ []) e) in
    (joined x y v w (heads x y (v ++ a ∷ []) (w ++ b ∷ []) e) rest.0, rest.1)
  where
    heads : (x y : Value) (xs ys : List Value) → (x ∷ xs) ≡ (y ∷ ys) → x ≡ y
    heads x y xs ys e = cc

    tails : (x y : Value) (xs ys : List Value) → (x ∷ xs) ≡ (y ∷ ys) → xs ≡ ys
    tails x y xs ys e = cc

    joined : (x y : Value) (xs ys : List Value) → x ≡ y → xs ≡ ys → (x ∷ xs) ≡ (y ∷ ys)
    joined x y xs ys e g = cc

heads : (x y : List Value) (xs ys : List (List Value)) → (x ∷ xs) ≡ (y ∷ ys) → x ≡ y
heads x y xs ys e = cc

tails : (x y : List Value) (xs ys : List (List Value)) → (x ∷ xs) ≡ (y ∷ ys) → xs ≡ ys
tails x y xs ys e = cc

-- one more value each: what it was added to is the same, and so are the values
values_from : (g h : ℕ → Value) (k : ℕ) (vs ws : List (List Value)) → with_values g k vs ≡ with_values h k ws → (vs ≡ ws) × ((j i : ℕ) → i ≡ k + j → j < length vs → g i ≡ h i)
values_from g h k [] [] e = (refl, λ j i s l. absurd (omega arith))
values_from g h k [] (w ∷ ws) e = cc
values_from g h k (v ∷ vs) [] e = cc
values_from g h k (v ∷ vs) (w ∷ ws) e =
    let here : (v ≡ w) × (g k ≡ h k) = snoc_front v w (g k) (h k) (heads (v ++ g k ∷ []) (w ++ h k ∷ []) (with_values g (suc k) vs) (with_values h (suc k) ws) e) in
    let rest : (vs ≡ ws) × ((j i : ℕ) → i ≡ suc k + j → j < length vs → g i ≡ h i) =
    values_from g h (suc k) vs ws (tails (v ++ g k ∷ []) (w ++ h k ∷ []) (with_values g (suc k) vs) (with_values h (suc k) ws) e) in
    (joined v w vs ws here.0 rest.0, at here.1 rest.1)
  where
    at : g k ≡ h k → ((j i : ℕ) → i ≡ suc k + j → j < length vs → g i ≡ h i) → (j i : ℕ) → i ≡ k + j → j < length (v ∷ vs) → g i ≡ h i
    at here later zero i s l = let same : k ≡ i = omega arith in subst (λ x. g x ≡ h x) same here
    at here later (suc j) i s l = later j i (omega arith) (omega arith)

pub value_from : (g h : ℕ → Value) (vs ws : List (List Value)) → with_value g vs ≡ with_value h ws → (vs ≡ ws) × ((j : ℕ) → j < length vs → g j ≡ h j)
value_from g h vs ws e = let x : (vs ≡ ws) × ((j i : ℕ) → i ≡ 0 + j → j < length vs → g i ≡ h i) = values_from g h 0 vs ws e in (x.0, λ j l. x.1 j j (omega arith) l)

owns_from : (s s' : ℕ → ℕ → Bool) (cs : List CommonCause) (times others : List (Option ℕ)) (i : ℕ) (more : List Mode) (vs ws : List (List Value)) → owns_told s cs times i more vs ≡ owns_told s' cs others i more ws → vs ≡ ws
owns_from s s' cs times others i [] vs ws e = e
owns_from s s' cs times others i (f ∷ more) vs ws e =
    (value_from (own_value s cs times i) (own_value s' cs others i) vs ws (owns_from s s' cs times others (suc i) more (with_value (own_value s cs times i) vs) (with_value (own_value s' cs others i) ws) e)).0

hits_from : (s s' : ℕ → ℕ → Bool) (c : CommonCause) (time other : Option ℕ) (is : List ℕ) (vs ws : List (List Value)) → hits_told s c time is vs ≡ hits_told s' c other is ws → vs ≡ ws
hits_from s s' c time other [] vs ws e = e
hits_from s s' c time other (i ∷ is) vs ws e =
    (value_from (hit_value s c time i) (hit_value s' c other i) vs ws (hits_from s s' c time other is (with_value (hit_value s c time i) vs) (with_value (hit_value s' c other i) ws) e)).0

-- ages at all moments tell the moment of the cause
same_time : (c : CommonCause) (total : ℕ) (S S' : ℕ → ℕ → Type 0) (time other : Option ℕ) → Occurs total S c time → Occurs total S' c other → ((j : ℕ) → j < total → age_value c time j ≡ age_value c other j) → time ≡ other
same_time c total S S' None None h g e = refl
same_time c total S S' None (Some t) h g e =
    let one : age_at c (Some t) t ≡ 1 = (age_at_moment c t t).1 refl in
    let zero_there : 0 ≡ age_at c (Some t) t = same_number 0 (age_at c (Some t) t) (e t g.0) in
    absurd (omega (arith, zero_there ∙ one))
same_time c total S S' (Some t) None h g e =
    let one : age_at c (Some t) t ≡ 1 = (age_at_moment c t t).1 refl in
    let zero_there : age_at c (Some t) t ≡ 0 = same_number (age_at c (Some t) t) 0 (e t h.0) in
    absurd (omega (arith, sym zero_there ∙ one))
same_time c total S S' (Some t) (Some u) h g e =
    let one : age_at c (Some t) t ≡ 1 = (age_at_moment c t t).1 refl in
    let both : age_at c (Some t) t ≡ age_at c (Some u) t = same_number (age_at c (Some t) t) (age_at c (Some u) t) (e t h.0) in
    ap Some (sym ((age_at_moment c u t).0 (sym both ∙ one)))

cause_from : (s s' : ℕ → ℕ → Bool) (c : CommonCause) (total : ℕ) (S S' : ℕ → ℕ → Type 0) (time other : Option ℕ) (vs ws : List (List Value)) → length vs ≡ total → Occurs total S c time → Occurs total S' c other →
    cause_told s c time vs ≡ cause_told s' c other ws → (vs ≡ ws) × (time ≡ other)
cause_from s s' c total S S' time other vs ws long h g e =
    let hits : with_value (event_value c time) (with_value (age_value c time) vs) ≡ with_value (event_value c other) (with_value (age_value c other) ws) =
    hits_from s s' c time other c.strikes (with_value (event_value c time) (with_value (age_value c time) vs)) (with_value (event_value c other) (with_value (age_value c other) ws)) e in
    let ages : (vs ≡ ws) × ((j : ℕ) → j < length vs → age_value c time j ≡ age_value c other j) =
    value_from (age_value c time) (age_value c other) vs ws (value_from (event_value c time) (event_value c other) (with_value (age_value c time) vs) (with_value (age_value c other) ws) hits).0 in
    (ages.0, same_time c total S S' time other h g (λ j l. ages.1 j (subst (λ n. j < n) (sym long) l)))

module _ (fs : List Mode) (text : ℕ → Text) where
  causes_from : (s s' : ℕ → ℕ → Bool) (total : ℕ) (S S' : ℕ → ℕ → Type 0) (cs : List CommonCause) → Each (IsCauseOf (length fs)) cs → (times others : List (Option ℕ)) (vs ws : List (List Value)) → length vs ≡ total →
      AreCaused total S cs times → AreCaused total S' cs others → causes_told s cs times vs ≡ causes_told s' cs others ws → (vs ≡ ws) × (times ≡ others)
  causes_from s s' total S S' [] are [] [] vs ws long a b e = (e, refl)
  causes_from s s' total S S' [] are (t ∷ times) others vs ws long a b e = absurd a
  causes_from s s' total S S' [] are [] (u ∷ others) vs ws long a b e = absurd b
  causes_from s s' total S S' (c ∷ cs) are [] others vs ws long a b e = absurd a
  causes_from s s' total S S' (c ∷ cs) are (t ∷ times) [] vs ws long a b e = absurd b
  causes_from s s' total S S' (c ∷ cs) are (t ∷ times) (u ∷ others) vs ws long a b e =
      let rest : (cause_told s c t vs ≡ cause_told s' c u ws) × (times ≡ others) =
      causes_from s s' total S S' cs are.1 times others (cause_told s c t vs) (cause_told s' c u ws) (cause_length fs text c are.0 s total (λ k v. Unit {0}) (λ k v b x. tt) t vs ∙ long) a.1 b.1 e in
      let here : (vs ≡ ws) × (t ≡ u) = cause_from s s' c total S S' t u vs ws long a.0 b.0 rest.0 in
      (here.0, both t u times others here.1 rest.1)
    where
      both : (t u : Option ℕ) (ts us : List (Option ℕ)) → t ≡ u → ts ≡ us → (t ∷ ts) ≡ (u ∷ us)
      both t u ts us e g = cc

pub one_each : (m : FlatModel) (fs : List Mode) (cs : List CommonCause) → AreStaged m fs cs → (trace other : List (List Value)) (times others : List (Option ℕ)) →
    IsCausedTrace m fs cs trace times → IsCausedTrace m fs cs other others → caused_told m fs cs trace times ≡ caused_told m fs cs other others → (trace ≡ other) × (times ≡ others)
one_each m fs cs are trace other times others h g e =
    let parts : causes_told (stands_at m fs trace) cs times trace ≡ causes_told (stands_at m fs other) cs others other =
    owns_from (stands_at m fs trace) (stands_at m fs other) cs times others 1 fs (causes_told (stands_at m fs trace) cs times trace) (causes_told (stands_at m fs other) cs others other) e in
    let long : length trace ≡ length other =
    sym (causes_length fs (wanted m fs are.modes) (stands_at m fs trace) (length trace) cs times are.causes trace) ∙ ap length parts
    ∙ causes_length fs (wanted m fs are.modes) (stands_at m fs other) (length other) cs others are.causes other in
    causes_from fs (wanted m fs are.modes) (stands_at m fs trace) (stands_at m fs other) (length trace) (StandsAt m fs trace) (StandsAt m fs other) cs are.causes times others trace other refl h.caused
    (subst (λ n. AreCaused n (StandsAt m fs other) cs others) (sym long) g.caused) parts
