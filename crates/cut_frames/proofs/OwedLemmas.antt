-- Obligations, paths, and the measure of `clear`.
use Rattle.std.proofs.Common.{◌≡◌, ◌≤◌, ◌<◌, ℕ, zero, suc, ◌+◌, ◌*◌, ◌-◌, List, [], ◌∷◌, ◌++◌, Some, refl, sym, ◌∙◌, ap, subst, arith, length, ◌⊎◌, inl, inr}
use Rattle.std.specs.Prelude.{slice_get, slice_index_or, reverse, All}
use Rattle.std.proofs.lemmas.List.{length-reverse, get_or-reverse}
use Rattle.std.proofs.lemmas.List.Elements.{All-nil, All-from_get_or}
use Rattle.std.proofs.lemmas.Option.{slice_get-get_or, slice_get_within as get_within}
use Rattle.sat_clauses.specs.Assignment.{Assignment}
use Rattle.sat_clauses.specs.Literal.{Literal}
use Rattle.sat_clauses.specs.declared.system.System.{System}
use Rattle.cut_frames.specs.Chain.{State, IsFirstState, IsBad, InFrame}
use Rattle.cut_frames.specs.FrameLists.{frame_at, InNumber, IsFramed, IsClear, AreStronger}
use Rattle.cut_frames.specs.Path.{Gives, Leads, IsPath, AreOwed, state_in}
use Rattle.cut_frames.specs.StatesLeft.{states_left, work_left}
use Rattle.cut_frames.specs.ClearLooks.{Blocks, IsLook, IsStepLook}
use Rattle.cut_frames.specs.declared.clear.Look.{Look}
use Rattle.cut_frames.specs.declared.clear.Look.TheVariants.{Nothing, IsFirst, Deeper, Blocked}
use Rattle.cut_frames.specs.Levels.{frames_from, frames_of, with_clause, HasGained, IsLevelled, IsTightened}
use Rattle.cut_frames.specs.declared.levels.Held.{Held}
use Rattle.cut_frames.specs.declared.levels.Levels.{Levels}
use Rattle.cut_frames.proofs.LevelLaws.{level_is, level_low, frames_new}
use Rattle.cut_frames.proofs.Framing.{in_list, gained_true, framed_new, number_above}
use Rattle.cut_frames.proofs.PutLaws.{gained_put}
use Rattle.cut_frames.proofs.RaiseLaws.{tightened_raised}
use Rattle.cut_frames.proofs.StatesLeft.{left_less}
use Rattle.cut_frames.proofs.WalkLaws.{newest, some_or_none, length_push, linked_path}
use Rattle.base_values.proofs.ListLaws.{push_get}

get_left : {A : Type 0} (xs : List A) (x : A) (p : ℕ) (s : A) → slice_get xs p ≡ Some s → slice_get (xs ++ x ∷ []) p ≡ Some s
get_left [] x p s e = cc
get_left (y ∷ ys) x zero s e = e
get_left (y ∷ ys) x (suc p) s e = get_left ys x p s e

module _ (system : System) (bad : List (List Literal)) where
  pub look_newest : (frames : List (List (List Literal))) (owed : List Assignment) (look : Look) (t : State) → 0 < length owed → t ≡ state_in system (slice_index_or owed (length owed - 1) []) →
      IsStepLook system frames (length frames - length owed) t look → IsLook system bad frames owed look
  look_newest frames owed look t lt e b = record {
    at_bad = λ q. absurd (empty (subst (λ xs. 0 < length xs) q lt));
    at_newest = λ u f. subst (λ z. IsStepLook system frames (length frames - length owed) z look)
        (e ∙ ap (state_in system) (same (slice_index_or owed (length owed - 1) []) u (sym (newest owed [] lt) ∙ f))) b;
  }
    where
      empty : 0 < length {A = Assignment} [] → ⊥
      empty lt = omega (arith, lt)

      same : (t u : Assignment) → Some t ≡ Some u → t ≡ u
      same t u e = cc

  -- the state of the newest obligation is in its frame
  pub newest_inside : (frames : List (List (List Literal))) (owed : List Assignment) (t : State) → 0 < length owed → t ≡ state_in system (slice_index_or owed (length owed - 1) []) →
      AreOwed system bad frames owed → InNumber system frames (length frames - length owed) t
  newest_inside frames owed t lt e o = subst (InNumber system frames (length frames - length owed)) (sym e)
      (subst (λ n. InNumber system frames n (state_in system (slice_index_or owed (length owed - 1) []))) (at (length frames) (length owed) lt) (o.inside (length owed - 1) (slice_index_or owed (length owed - 1) []) (newest owed [] lt)))
    where
      at : (f n : ℕ) → 0 < n → f - 1 - (n - 1) ≡ f - n
      at f n lt = omega arith

  pub look_nothing : (frames : List (List (List Literal))) (owed : List Assignment) → IsLook system bad frames owed Nothing → IsClear system bad frames
  look_nothing frames owed look = by_case (some_or_none owed)
    where
      by_case : (owed ≡ []) ⊎ (0 < length owed) → IsClear system bad frames
      by_case (inl e) = look.at_bad e
      by_case (inr lt) = absurd (look.at_newest (slice_index_or owed (length owed - 1) []) (newest owed [] lt))

  -- the obligations turned round are a path, where the newest is first
  pub owed_path : (frames : List (List (List Literal))) (owed : List Assignment) → AreOwed system bad frames owed → 0 < length owed →
      IsFirstState system (state_in system (slice_index_or owed (length owed - 1) [])) → IsPath system bad (length frames - 1) (reverse owed)
  owed_path frames owed o lt first = linked_path system bad (length frames - 1) owed (record { given = o.given; ends_bad = o.ends_bad; steps = o.steps }) lt (fit (length owed) (length frames) o.fits) first
    where
      fit : (n k : ℕ) → n ≤ k → n ≤ k - 1 + 1
      fit n k le = omega arith

  pub look_first : (frames : List (List (List Literal))) (owed : List Assignment) → AreOwed system bad frames owed → IsLook system bad frames owed IsFirst → IsPath system bad (length frames - 1) (reverse owed)
  look_first frames owed o look = by_case (some_or_none owed)
    where
      by_case : (owed ≡ []) ⊎ (0 < length owed) → IsPath system bad (length frames - 1) (reverse owed)
      by_case (inl e) = absurd (look.at_bad e)
      by_case (inr lt) = owed_path frames owed o lt (look.at_newest (slice_index_or owed (length owed - 1) []) (newest owed [] lt))

  -- one obligation more
  pub look_deeper : (frames : List (List (List Literal))) (owed : List Assignment) (r : Assignment) → IsFramed system frames → AreOwed system bad frames owed → IsLook system bad frames owed (Deeper r) →
      (length owed < length frames) × AreOwed system bad frames (owed ++ r ∷ [])
  look_deeper frames owed r f o look = by_case (some_or_none owed)
    where
      by_case : (owed ≡ []) ⊎ (0 < length owed) → (length owed < length frames) × AreOwed system bad frames (owed ++ r ∷ [])
      by_case (inl e) = let found = look.at_bad e in
          subst (λ xs. (length xs < length frames) × AreOwed system bad frames (xs ++ r ∷ [])) (sym e) (f.some, one found)
        where
          one : InNumber system frames (length frames - 1) (state_in system r) × IsBad system bad (state_in system r) × Gives 2 system.state_bits r → AreOwed system bad frames (r ∷ [])
          one found = record {
            fits = (let lt = f.some in grind (arith, lt));
            given = given;
            inside = inside;
            ends_bad = λ s e. subst (λ a. IsBad system bad (state_in system a)) (same s e) found.1;
            steps = λ p s t e f. cc;
          }
            where
              same : (s : Assignment) → Some r ≡ Some s → r ≡ s
              same s e = cc

              less : (n : ℕ) → n - 1 ≡ n - 1 - 0
              less n = omega arith

              given : (p : ℕ) (s : Assignment) → slice_get (r ∷ []) p ≡ Some s → Gives 2 system.state_bits s
              given zero s e = subst (Gives 2 system.state_bits) (same s e) found.2
              given (suc p) s e = cc

              inside : (p : ℕ) (s : Assignment) → slice_get (r ∷ []) p ≡ Some s → InNumber system frames (length frames - 1 - p) (state_in system s)
              inside zero s e = subst (λ a. InNumber system frames (length frames - 1 - 0) (state_in system a)) (same s e)
                  (subst (λ n. InNumber system frames n (state_in system r)) (less (length frames)) found.0)
              inside (suc p) s e = cc
      by_case (inr lt) =
          let top = newest owed [] lt in
          let found = look.at_newest (slice_index_or owed (length owed - 1) []) top in
          (lower (length frames) (length owed) found.0, more found.0 found.1 found.2)
        where
          lower : (n k : ℕ) → 0 < n - k → k < n
          lower n k lt = omega arith

          fit : (k n m : ℕ) → m ≡ k + 1 → k < n → m ≤ n
          fit k n m e lt = omega arith

          less : (n k : ℕ) → n - k - 1 ≡ n - 1 - k
          less n k = omega arith

          one_less : (n p : ℕ) → suc p ≡ n → p ≡ n - 1
          one_less n p e = omega arith

          same : (s t : Assignment) → Some s ≡ Some t → s ≡ t
          same s t e = cc

          more : 0 < length frames - length owed → InNumber system frames (length frames - length owed - 1) (state_in system r) → Leads system r (state_in system (slice_index_or owed (length owed - 1) [])) →
              AreOwed system bad frames (owed ++ r ∷ [])
          more positive here step = record {
            fits = fit (length owed) (length frames) (length (owed ++ r ∷ [])) (length_push owed r) (lower (length frames) (length owed) positive);
            given = λ p s e. given p s (push_get owed r p s e);
            inside = λ p s e. inside p s (push_get owed r p s e);
            ends_bad = λ s e. ends s (push_get owed r 0 s e);
            steps = λ p s t e f. steps p s t (push_get owed r p t e) (push_get owed r (suc p) s f);
          }
            where
              given : (p : ℕ) (s : Assignment) → (slice_get owed p ≡ Some s) ⊎ ((p ≡ length owed) × (r ≡ s)) → Gives 2 system.state_bits s
              given p s (inl e) = o.given p s e
              given p s (inr e) = subst (Gives 2 system.state_bits) e.1 step.0

              inside : (p : ℕ) (s : Assignment) → (slice_get owed p ≡ Some s) ⊎ ((p ≡ length owed) × (r ≡ s)) → InNumber system frames (length frames - 1 - p) (state_in system s)
              inside p s (inl e) = o.inside p s e
              inside p s (inr e) = subst (λ n. InNumber system frames (length frames - 1 - n) (state_in system s)) (sym e.0)
                  (subst (λ n. InNumber system frames n (state_in system s)) (less (length frames) (length owed))
                  (subst (λ a. InNumber system frames (length frames - length owed - 1) (state_in system a)) e.1 here))

              ends : (s : Assignment) → (slice_get owed 0 ≡ Some s) ⊎ ((0 ≡ length owed) × (r ≡ s)) → IsBad system bad (state_in system s)
              ends s (inl e) = o.ends_bad s e
              ends s (inr e) = absurd (omega (arith, lt, e.0))

              steps : (p : ℕ) (s t : Assignment) → (slice_get owed p ≡ Some t) ⊎ ((p ≡ length owed) × (r ≡ t)) → (slice_get owed (suc p) ≡ Some s) ⊎ ((suc p ≡ length owed) × (r ≡ s)) → Leads system s (state_in system t)
              steps p s t (inl e) (inl f) = o.steps p s t e f
              steps p s t (inr e) (inl f) = let within = get_within owed (suc p) s f in absurd (omega (arith, within, e.0))
              steps p s t (inr e) (inr f) = absurd (omega (arith, e.0, f.0))
              steps p s t (inl e) (inr f) =
                  let top : slice_get owed p ≡ Some (slice_index_or owed (length owed - 1) []) = subst (λ n. slice_get owed n ≡ Some (slice_index_or owed (length owed - 1) [])) (sym (one_less (length owed) p f.0)) (newest owed [] lt) in
                  let is : slice_index_or owed (length owed - 1) [] ≡ t = same (slice_index_or owed (length owed - 1) []) t (sym top ∙ e) in
                  subst (λ z. Leads system z (state_in system t)) f.1 (subst (λ z. Leads system r (state_in system z)) is step)

  -- the look that a match has found
  pub look_is : (frames : List (List (List Literal))) (owed slice : List Assignment) (look found : Look) → slice ≡ owed → look ≡ found → IsLook system bad frames slice look → IsLook system bad frames owed found
  look_is frames owed slice look found e f h = subst (IsLook system bad frames owed) f (subst (λ o. IsLook system bad frames o look) e h)

  -- what blocks the newest obligation
  pub record BlocksNewest (frames : List (List (List Literal))) (owed : List Assignment) (c : List Literal) : Type 0 where
    pub some : 0 < length owed
    pub moment : Assignment
    pub is_newest : slice_get owed (length owed - 1) ≡ Some moment
    pub blocks : Blocks system frames (length frames - length owed) (state_in system moment) c

  pub look_blocked : (frames : List (List (List Literal))) (owed : List Assignment) (c : List Literal) → IsLook system bad frames owed (Blocked c) → BlocksNewest frames owed c
  look_blocked frames owed c look = by_case (some_or_none owed)
    where
      by_case : (owed ≡ []) ⊎ (0 < length owed) → BlocksNewest frames owed c
      by_case (inl e) = absurd (look.at_bad e)
      by_case (inr lt) =
          let top = newest owed [] lt in
          record { some = lt; moment = slice_index_or owed (length owed - 1) []; is_newest = top; blocks = look.at_newest (slice_index_or owed (length owed - 1) []) top }

  -- one obligation less
  pub owed_less : (frames now : List (List (List Literal))) (owed : List Assignment) (t : Assignment) (level : ℕ) (c : List Literal) → HasGained level c frames now → level ≡ length frames - length (owed ++ t ∷ []) →
      AreOwed system bad frames (owed ++ t ∷ []) → AreOwed system bad now owed
  owed_less frames now owed t level c g is o = record {
    fits = fit (length owed) (length (owed ++ t ∷ [])) (length frames) (length now) (length_push owed t) o.fits g.same;
    given = λ p s e. o.given p s (get_left owed t p s e);
    inside = λ p s e. subst (λ k. InNumber system now (k - 1 - p) (state_in system s)) (sym g.same)
        (number_above system level c frames now g (length frames - 1 - p) (state_in system s)
        (above (length frames) (length owed) (length (owed ++ t ∷ [])) p level is (length_push owed t) o.fits (get_within owed p s e)) (o.inside p s (get_left owed t p s e)));
    ends_bad = λ s e. o.ends_bad s (get_left owed t 0 s e);
    steps = λ p s u e f. o.steps p s u (get_left owed t p u e) (get_left owed t (suc p) s f);
  }
    where
      fit : (k m f l : ℕ) → m ≡ k + 1 → m ≤ f → l ≡ f → k ≤ l
      fit k m f l e le q = omega arith

      above : (f k m p l : ℕ) → l ≡ f - m → m ≡ k + 1 → m ≤ f → p < k → l < f - 1 - p
      above f k m p l is e le lt = omega arith

  -- the measure
  pub work_deeper : (frames : List (List (List Literal))) (owed : List Assignment) (r : Assignment) → length owed < length frames → work_left system.state_bits frames (owed ++ r ∷ []) < work_left system.state_bits frames owed
  work_deeper frames owed r lt = go (states_left system.state_bits frames * (length frames + 1)) (length frames) (length owed) (length (owed ++ r ∷ [])) (length_push owed r) lt
    where
      go : (a n k m : ℕ) → m ≡ k + 1 → k < n → a + (n - m) < a + (n - k)
      go a n k m e lt = omega arith

  pub work_blocked : (frames now : List (List (List Literal))) (owed : List Assignment) (t : Assignment) (level : ℕ) (c : List Literal) → IsFramed system frames → HasGained level c frames now →
      level ≡ length frames - length (owed ++ t ∷ []) → AreOwed system bad frames (owed ++ t ∷ []) → BlocksNewest frames (owed ++ t ∷ []) c →
      work_left system.state_bits now owed < work_left system.state_bits frames (owed ++ t ∷ [])
  work_blocked frames now owed t level c f g is o b =
      falls (states_left system.state_bits now) (states_left system.state_bits frames) (length now) (length frames) (length owed) (length (owed ++ t ∷ []))
      g.same (length_push owed t) o.fits less
    where
      here : InFrame system (frame_at frames level) (state_in system b.moment)
      here = in_list system frames level (state_in system b.moment) f
          (subst (λ n. InNumber system frames n (state_in system b.moment)) (at (length frames) (length (owed ++ t ∷ [])) level is b.some o.fits) (o.inside (length (owed ++ t ∷ []) - 1) b.moment b.is_newest))
        where
          at : (f m l : ℕ) → l ≡ f - m → 0 < m → m ≤ f → f - 1 - (m - 1) ≡ l
          at f m l is lt le = omega arith

      less : states_left system.state_bits now < states_left system.state_bits frames
      less = left_less system.state_bits level c frames now (state_in system b.moment) g.same (gained_true level c frames now g) here.0 g.within (g.here level (omega arith)) here.1 b.blocks.excludes

      falls : (a b l f k m : ℕ) → l ≡ f → m ≡ k + 1 → m ≤ f → a < b → a * (l + 1) + (l - k) < b * (f + 1) + (f - m)
      falls a b l f k m e q le lt = subst (λ z. a * (z + 1) + (z - k) < b * (f + 1) + (f - m)) (sym e) (grow (a * (f + 1)) (b * (f + 1)) f k m q le (product a b f lt))
        where
          product : (a b f : ℕ) → a < b → a * (f + 1) + (f + 1) ≤ b * (f + 1)
          product a b f lt = grind arith

          grow : (x y f k m : ℕ) → m ≡ k + 1 → m ≤ f → x + (f + 1) ≤ y → x + (f - k) < y + (f - m)
          grow x y f k m q le g = omega arith

  -- a clause that blocks the newest obligation is put into the frames up to its own, and the obligation is dropped
  pub record HasBlocked (l now : Levels) (all left : List Assignment) : Type 0 where
    pub owed : AreOwed system bad (frames_of now) left
    pub falls : work_left system.state_bits (frames_of now) left < work_left system.state_bits (frames_of l) all
    pub tightened : IsTightened system l now

  pub newest_blocked : (l now : Levels) (owed left : List Assignment) (top : Assignment) (level : ℕ) (c : List Literal) → IsLevelled system l → AreOwed system bad (frames_of l) owed →
      IsLook system bad (frames_of l) owed (Blocked c) → owed ≡ left ++ top ∷ [] → level ≡ l.last + 1 - length owed → now.last ≡ l.last → now.held.items ≡ with_clause level c l.held.items →
      HasBlocked l now owed left
  newest_blocked l now owed left top level c f o look popped e last items =
      record {
        owed = owed_less (frames_of l) (frames_of now) left top level c gained at whole;
        falls = subst (λ xs. work_left system.state_bits (frames_of now) left < work_left system.state_bits (frames_of l) xs) (sym popped)
            (work_blocked (frames_of l) (frames_of now) left top level c f.framed gained at whole (subst (λ xs. BlocksNewest (frames_of l) xs c) popped b));
        tightened = tightened_raised system l now level (state_in system b.moment) c f le last items (subst (λ n. Blocks system (frames_of l) n (state_in system b.moment) c) (sym is) b.blocks);
      }
    where
      b : BlocksNewest (frames_of l) owed c
      b = look_blocked (frames_of l) owed c look

      le : level ≤ l.last
      le = subst (λ n. n ≤ l.last) (sym e) (level_low l.last (length owed) b.some)

      is : level ≡ length (frames_of l) - length owed
      is = e ∙ sym (level_is l (length owed))

      at : level ≡ length (frames_of l) - length (left ++ top ∷ [])
      at = is ∙ ap (λ xs. length (frames_of l) - length xs) popped

      whole : AreOwed system bad (frames_of l) (left ++ top ∷ [])
      whole = subst (λ xs. AreOwed system bad (frames_of l) xs) popped o

      gained : HasGained level c (frames_of l) (frames_of now)
      gained = gained_put l now level c last le items

  -- the newest obligation's frame, where a clause blocks it
  pub level_some : (l : Levels) (owed : List Assignment) (c : List Literal) → BlocksNewest (frames_of l) owed c → 0 < l.last + 1 - length owed
  level_some l owed c b = subst (λ n. 0 < n) (level_is l (length owed)) b.blocks.from_one

-- nothing was put
pub same_frames : (l now : Levels) → now.last ≡ l.last → now.held.items ≡ l.held.items → frames_of now ≡ frames_of l
same_frames l now last items = ap (λ n. frames_from 0 (suc n) now.held.items) last ∙ ap (λ hs. frames_from 0 (suc l.last) hs) items

pub tightened_stays : (system : System) (l now : Levels) → now.last ≡ l.last → now.held.items ≡ l.held.items → IsLevelled system l → IsTightened system l now
tightened_stays system l now last items f = record {
  framed = record {
    numbers = subst (All (λ (h : Held). h.highest ≤ now.last)) (sym items) (subst (λ n. All (λ (h : Held). h.highest ≤ n) l.held.items) (sym last) f.numbers);
    framed = subst (IsFramed system) (sym (same_frames l now last items)) f.framed;
  };
  last = last;
  stronger = subst (AreStronger system (frames_of l)) (sym (same_frames l now last items)) (λ i s lt h. h);
}

-- frames to begin with
pub levelled_new : (system : System) (l : Levels) → l.held.items ≡ [] → l.last ≡ 0 → IsLevelled system l
levelled_new system l items last = record {
  numbers = subst (All (λ (h : Held). h.highest ≤ l.last)) (sym items) (All-nil (λ (h : Held). h.highest ≤ l.last));
  framed = subst (IsFramed system) (sym (frames_new l items last)) (framed_new system);
}
