-- Such a reader stops exactly at the first lexeme after which nothing can be spelled.
use Rattle.std.proofs.Common.{◌≡◌, Bool, true, false, List, [], ◌∷◌, ◌++◌, Option, Some, None, refl, sym, ◌∙◌, ap, subst, append_assoc, append-nil}
use Rattle.std.specs.Prelude.{◌&&◌, ◌||◌, ◌↔◌, if◌then◌else◌}
use Rattle.smv_language.specs.Lexemes.{Lexeme}
use Rattle.smv_expression_reader.specs.PredictiveReader.{Grammar, Means, taken, step, run, all_empty, is_some, can_start, Fits, IsPredictable}

module _ (Sym : Type 0) (g : Grammar Sym) (law : IsPredictable Sym g) where
  join : (s s' : List Sym) (xs ys : List Lexeme) → Means Sym g s xs → Means Sym g s' ys → Means Sym g (s ++ s') (xs ++ ys)
  join [] s' xs ys a b = subst (λ z. Means Sym g s' (z ++ ys)) (sym a) b
  join (x ∷ s) s' xs ys a b = (a.0, a.1 ++ ys, ap (λ z. z ++ ys) a.2 ∙ append_assoc a.0 a.1 ys, a.3, join s s' a.1 ys a.4 b)

  part : (s s' : List Sym) (ts : List Lexeme) → Means Sym g (s ++ s') ts → (xs : List Lexeme) × (ys : List Lexeme) × (ts ≡ xs ++ ys) × Means Sym g s xs × Means Sym g s' ys
  part [] s' ts m = ([], ts, refl, refl, m)
  part (x ∷ s) s' ts m =
      let rest = part s s' m.1 m.4 in
      (m.0 ++ rest.0, rest.1, m.2 ∙ ap (λ z. m.0 ++ z) rest.2 ∙ sym (append_assoc m.0 rest.0 rest.1), (m.0, rest.0, refl, m.3, rest.3), rest.4)

  step_sound : (s s' : List Sym) (t : Lexeme) (us : List Lexeme) → step Sym g s t ≡ Some s' → Means Sym g s' us → Means Sym g s (t ∷ us)
  step_sound [] s' t us e m = cc
  step_sound (x ∷ s) s' t us e m = go (g.next x t) refl (g.empty x) refl e (λ f. step_sound s s' t us f m)
    where
      go : (o : Option (List Sym)) → g.next x t ≡ o → (b : Bool) → g.empty x ≡ b → taken Sym g o s (if b then step Sym g s t else None) ≡ Some s' →
          (step Sym g s t ≡ Some s' → Means Sym g s (t ∷ us)) → Means Sym g (x ∷ s) (t ∷ us)
      go (Some new) n b h f rec =
          let same : new ++ s ≡ s' = cc in
          let parts = part new s us (subst (λ z. Means Sym g z us) (sym same) m) in
          (t ∷ parts.0, parts.1, ap (λ z. t ∷ z) parts.2, law.sound x t new n parts.0 parts.3, parts.4)
      go None n true h f rec = ([], t ∷ us, refl, law.empty_spelled x h, rec f)
      go None n false h f rec = cc

  run_none : (ts : List Lexeme) → run Sym g None ts ≡ None
  run_none [] = refl
  run_none (t ∷ ts) = refl

  run_sound : (s s' : List Sym) (ts us : List Lexeme) → run Sym g (Some s) ts ≡ Some s' → Means Sym g s' us → Means Sym g s (ts ++ us)
  run_sound s s' [] us e m = let same : s ≡ s' = cc in subst (λ z. Means Sym g z us) (sym same) m
  run_sound s s' (t ∷ ts) us e m = go (step Sym g s t) refl e (λ s1 f. run_sound s1 s' ts us f m)
    where
      go : (o : Option (List Sym)) → step Sym g s t ≡ o → run Sym g o ts ≡ Some s' → ((s1 : List Sym) → run Sym g (Some s1) ts ≡ Some s' → Means Sym g s1 (ts ++ us)) →
          Means Sym g s (t ∷ (ts ++ us))
      go (Some s1) f h rec = step_sound s s1 t (ts ++ us) f (rec s1 h)
      go None f h rec = let clash : None ≡ Some s' = sym (run_none ts) ∙ h in cc

  or_true : (b : Bool) → (b || true) ≡ true
  or_true true = refl
  or_true false = refl

  starts : (s : List Sym) (t : Lexeme) (us : List Lexeme) → Means Sym g s (t ∷ us) → can_start Sym g s t ≡ true
  starts [] t us m = cc
  starts (x ∷ s) t us m = go m.0 m.1 m.2 m.3 (λ f. starts s t us (subst (Means Sym g s) (sym f) m.4))
    where
      go : (xs ys : List Lexeme) → t ∷ us ≡ xs ++ ys → g.Spelled x xs → (t ∷ us ≡ ys → can_start Sym g s t ≡ true) → can_start Sym g (x ∷ s) t ≡ true
      go [] ys e d rec = rw (law.spelled_empty x d, rec e) (or_true (is_some Sym g (g.next x t)))
      go (t' ∷ xs) ys e d rec =
          let same : t' ≡ t = cc in
          let made = law.complete x t xs (subst (λ z. g.Spelled x (z ∷ xs)) same d) in
          rw made.1 refl

  -- what follows each symbol may follow it
  abbrev Good : List Sym → Type 0
  Good [] = Unit {0}
  Good (x ∷ s) = ((t : Lexeme) → can_start Sym g s t ≡ true → g.follow x t ≡ true) × Good s

  start_join : (new s : List Sym) (f : Lexeme → Bool) (t : Lexeme) → (can_start Sym g s t ≡ true → f t ≡ true) → can_start Sym g (new ++ s) t ≡ true →
      (can_start Sym g new t || (all_empty Sym g new && f t)) ≡ true
  start_join [] s f t h e = h e
  start_join (z ∷ new) s f t h e = go (is_some Sym g (g.next z t)) (g.empty z) e (λ r. start_join new s f t h r)
    where
      go : (a b : Bool) → (a || (b && can_start Sym g (new ++ s) t)) ≡ true →
          (can_start Sym g (new ++ s) t ≡ true → (can_start Sym g new t || (all_empty Sym g new && f t)) ≡ true) →
          ((a || (b && can_start Sym g new t)) || ((b && all_empty Sym g new) && f t)) ≡ true
      go true b r rec = refl
      go false true r rec = rec r
      go false false r rec = cc

  good_join : (new s : List Sym) (f : Lexeme → Bool) → Fits Sym g new f → ((t : Lexeme) → can_start Sym g s t ≡ true → f t ≡ true) → Good s → Good (new ++ s)
  good_join [] s f h c good = good
  good_join (y ∷ new) s f h c good = (λ t e. h.0 t (start_join new s f t (c t) e), good_join new s f h.1 c good)

  record Stepped (s : List Sym) (t : Lexeme) (us : List Lexeme) : Type 0 where
    new : List Sym
    path : step Sym g s t ≡ Some new
    means : Means Sym g new us
    good : Good new

  step_complete : (s : List Sym) (t : Lexeme) (us : List Lexeme) → Good s → Means Sym g s (t ∷ us) → Stepped s t us
  step_complete [] t us good m = absurd (let none : t ∷ us ≡ [] = m in cc)
  step_complete (x ∷ s) t us good m = go m.0 m.1 m.2 m.3 m.4 (λ f. step_complete s t us good.1 (subst (Means Sym g s) (sym f) m.4))
    where
      go : (xs ys : List Lexeme) → t ∷ us ≡ xs ++ ys → g.Spelled x xs → Means Sym g s ys → (t ∷ us ≡ ys → Stepped s t us) → Stepped (x ∷ s) t us
      go [] ys e d m rec =
          let inner = rec e in
          let none = law.apart x t (law.spelled_empty x d) (good.0 t (starts s t us (subst (Means Sym g s) (sym e) m))) in
          record { new = inner.new; path = rw (none, law.spelled_empty x d) inner.path; means = inner.means; good = inner.good }
      go (t' ∷ xs) ys e d m rec =
          let same : t' ≡ t = cc in
          let rest : us ≡ xs ++ ys = cc in
          let made = law.complete x t xs (subst (λ z. g.Spelled x (z ∷ xs)) same d) in
          record {
            new = made.0 ++ s;
            path = rw made.1 refl;
            means = subst (Means Sym g (made.0 ++ s)) (sym rest) (join made.0 s xs ys made.2 m);
            good = good_join made.0 s (g.follow x) (law.inner x t made.0 made.1) good.0 good.1;
          }

  record Ran (s : List Sym) (ts us : List Lexeme) : Type 0 where
    new : List Sym
    path : run Sym g (Some s) ts ≡ Some new
    means : Means Sym g new us

  run_complete : (s : List Sym) (ts us : List Lexeme) → Good s → Means Sym g s (ts ++ us) → Ran s ts us
  run_complete s [] us good m = record { new = s; path = refl; means = m }
  run_complete s (t ∷ ts) us good m =
      let first = step_complete s t (ts ++ us) good m in
      let rest = run_complete first.new ts us first.good first.means in
      record { new = rest.new; path = ap (λ z. run Sym g z ts) first.path ∙ rest.path; means = rest.means }

  least : List Sym → List Lexeme
  least [] = []
  least (x ∷ s) = g.shortest x ++ least s

  least_means : (s : List Sym) → Means Sym g s (least s)
  unfolding least
  least_means [] = refl
  least_means (x ∷ s) = (g.shortest x, least s, refl, law.completes x, least_means s)

  all_empty_means : (s : List Sym) → all_empty Sym g s ≡ true → Means Sym g s []
  all_empty_means [] e = refl
  all_empty_means (x ∷ s) e = go (g.empty x) refl e (λ f. all_empty_means s f)
    where
      go : (b : Bool) → g.empty x ≡ b → (b && all_empty Sym g s) ≡ true → (all_empty Sym g s ≡ true → Means Sym g s []) → Means Sym g (x ∷ s) []
      go true h f rec = ([], [], refl, law.empty_spelled x h, rec f)
      go false h f rec = cc

  means_all_empty : (s : List Sym) → Means Sym g s [] → all_empty Sym g s ≡ true
  means_all_empty [] m = refl
  means_all_empty (x ∷ s) m = go m.0 m.1 m.2 m.3 (λ f. means_all_empty s (subst (Means Sym g s) (sym f) m.4))
    where
      go : (xs ys : List Lexeme) → [] ≡ xs ++ ys → g.Spelled x xs → ([] ≡ ys → all_empty Sym g s ≡ true) → all_empty Sym g (x ∷ s) ≡ true
      go [] ys e d rec = rw (law.spelled_empty x d, rec e) refl
      go (t ∷ xs) ys e d rec = cc

  only : (x : Sym) (ts : List Lexeme) → Means Sym g (x ∷ []) ts → g.Spelled x ts
  only x ts m = subst (g.Spelled x) (sym (m.2 ∙ ap (λ z. m.0 ++ z) m.4 ∙ append-nil m.0)) m.3

  as_only : (x : Sym) (ts : List Lexeme) → g.Spelled x ts → Means Sym g (x ∷ []) ts
  as_only x ts d = (ts, [], sym (append-nil ts), d, refl)

  -- a list goes on exactly where it is the front of one that the symbol stands for
  pub goes_on_exactly : (x : Sym) (ts : List Lexeme) →
      ((s : List Sym) × (run Sym g (Some (x ∷ [])) ts ≡ Some s)) ↔ ((us : List Lexeme) × g.Spelled x (ts ++ us))
  goes_on_exactly x ts = (
    λ r. (least r.0, only x (ts ++ least r.0) (run_sound (x ∷ []) r.0 ts (least r.0) r.1 (least_means r.0))),
    λ f. let made = run_complete (x ∷ []) ts f.0 (λ t e. cc, tt) (as_only x (ts ++ f.0) f.1) in (made.new, made.path),
  )

  -- and it is accepted exactly where the symbol stands for it
  pub accepts_exactly : (x : Sym) (ts : List Lexeme) →
      ((s : List Sym) × (run Sym g (Some (x ∷ [])) ts ≡ Some s) × (all_empty Sym g s ≡ true)) ↔ g.Spelled x ts
  accepts_exactly x ts = (
    λ r. subst (g.Spelled x) (append-nil ts) (only x (ts ++ []) (run_sound (x ∷ []) r.0 ts [] r.1 (all_empty_means r.0 r.2))),
    λ d. let made = run_complete (x ∷ []) ts [] (λ t e. cc, tt) (as_only x (ts ++ []) (subst (g.Spelled x) (sym (append-nil ts)) d)) in
        (made.new, made.path, means_all_empty made.new made.means),
  )
