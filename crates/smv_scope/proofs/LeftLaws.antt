-- Each turn leaves less to do.
use Rattle.std.proofs.Common.{◌≡◌, ℕ, zero, suc, ◌+◌, ◌<◌, ◌≤◌, ◌⊎◌, inl, inr, arith, Bool, true, false, List, [], ◌∷◌, ◌++◌, length, set, Some, refl, ap, ◌∙◌, sym, subst}
use Rattle.std.proofs.lemmas.Bool.{cases_lt}
use Rattle.std.proofs.lemmas.List.{length-append, length-map}
use Rattle.std.specs.Prelude.{slice_get}
use Rattle.smv_language.specs.Language.{Each, opposite}
use Rattle.smv_scope.specs.declared.needs.WalkMark.{WalkMark}
use Rattle.smv_scope.specs.declared.needs.WalkMark.TheVariants.{Unmet, Begun, Ended}
use Rattle.smv_scope.specs.declared.needs.Task.{Task}
use Rattle.smv_scope.specs.declared.needs.Task.TheVariants.{Visit, End}
use Rattle.smv_scope.specs.Links.{Has, Graph, IsWithin, Spread, is_marked, spread_by}
use Rattle.smv_scope.specs.DefinitionOrder.{Lay, mark_or, mark_at, visits, visit_by, lay_by, number_of, IsLaying}
use Rattle.smv_scope.specs.WorkLeft.{open_work, left_to_spread, is_unmet, left_to_lay}
use Rattle.std.proofs.lemmas.Option.{same_Some as some_same}
use Rattle.base_values.proofs.ListLaws.{get_within}
use Rattle.base_values.specs.Marks.{is_set}

-- an open mark is closed
pub work_taken : {M : Type 0} (is_open : M → Bool) (work : ℕ → ℕ) (marks : List M) (k : ℕ) (old new : M) → slice_get marks k ≡ Some old → is_open old ≡ true → is_open new ≡ false →
    open_work is_open work marks ≡ work k + open_work is_open work (set marks k new)
work_taken is_open work [] k old new is opened closed = cc
work_taken is_open work (m ∷ marks) zero old new is opened closed = rw (ap is_open (some_same m old is) ∙ opened, closed) (omega arith)
work_taken is_open work (m ∷ marks) (suc k) old new is opened closed =
    let more = work_taken is_open (λ i. work (suc i)) marks k old new is opened closed in
    omega (arith, more)

-- any mark is closed
pub work_not_more : {M : Type 0} (is_open : M → Bool) (work : ℕ → ℕ) (marks : List M) (k : ℕ) (new : M) → is_open new ≡ false →
    open_work is_open work (set marks k new) ≤ open_work is_open work marks
work_not_more is_open work [] k new closed = omega arith
work_not_more is_open work (m ∷ marks) zero new closed = rw closed (omega arith)
work_not_more is_open work (m ∷ marks) (suc k) new closed =
    let more = work_not_more is_open (λ i. work (suc i)) marks k new closed in
    omega (arith, more)

-- a number that is linked to nothing
pub unlinked : (ks : List ℕ) → ((b : ℕ) → Has ks b → ⊥) → length ks ≡ 0
unlinked [] none = refl
unlinked (k ∷ ks) none = absurd (none k (inl refl))

-- an unmarked number is marked
links_taken : (g : Graph) (count : ℕ) → IsWithin g count → (r : List Bool) (k : ℕ) → length r ≡ count → is_marked r k ≡ false →
    length (g k) + open_work opposite (λ i. length (g i)) (set r k true) ≤ open_work opposite (λ i. length (g i)) r
links_taken g count within r k size m = by_place (cases_lt k (length r))
  where
    is_false : (b : Bool) → slice_get r k ≡ Some b → b ≡ false
    is_false b e = sym (ap is_set e) ∙ m

    no_more : length r ≤ k → length (g k) ≡ 0
    no_more past = unlinked (g k) (λ b h. let inside : k < count = within k b h in absurd (omega (arith, inside, past, size)))

    by_value : (b : Bool) × (slice_get r k ≡ Some b) → length (g k) + open_work opposite (λ i. length (g i)) (set r k true) ≤ open_work opposite (λ i. length (g i)) r
    by_value (b, e) =
        let is = work_taken opposite (λ i. length (g i)) r k b true e (ap opposite (is_false b e)) refl in
        omega (arith, is)

    by_place : (k < length r) ⊎ (length r ≤ k) → length (g k) + open_work opposite (λ i. length (g i)) (set r k true) ≤ open_work opposite (λ i. length (g i)) r
    by_place (inl inside) = by_value (get_within r k inside)
    by_place (inr past) =
        let same = work_not_more opposite (λ i. length (g i)) r k true refl in
        let none = no_more past in
        omega (arith, same, none)

-- what waited last is looked at
pub spread_less : (g : Graph) (count : ℕ) → IsWithin g count → (now new : Spread) (w : List ℕ) (k : ℕ) → length now.reached ≡ count → now.waiting ≡ w ++ k ∷ [] →
    new ≡ spread_by g (record { reached = now.reached; waiting = w }) k → left_to_spread g new < left_to_spread g now
spread_less g count within now new w k size waits turn = subst (λ (s : Spread). left_to_spread g s < left_to_spread g now) (sym turn) (by_mark (is_marked now.reached k) refl)
  where
    with_last : length now.waiting ≡ length w + 1
    with_last = ap (λ (ks : List ℕ). length ks) waits ∙ length-append w (k ∷ [])

    with_links : length (w ++ g k) ≡ length w + length (g k)
    with_links = length-append w (g k)

    by_mark : (b : Bool) → is_marked now.reached k ≡ b → left_to_spread g (spread_by g (record { reached = now.reached; waiting = w }) k) < left_to_spread g now
    by_mark true m = rw m (omega (arith, with_last))
    by_mark false m = let taken = links_taken g count within now.reached k size m in rw m (omega (arith, with_last, with_links, taken))

-- a number that is not met yet is begun
visits_taken : (g : Graph) (ms : List WalkMark) (k : ℕ) → k < length ms → mark_at ms k ≡ Unmet →
    open_work is_unmet (λ i. suc (length (g i))) ms ≡ suc (length (g k)) + open_work is_unmet (λ i. suc (length (g i))) (set ms k Begun)
visits_taken g ms k inside unmet = by_value (get_within ms k inside)
  where
    by_value : (m : WalkMark) × (slice_get ms k ≡ Some m) → open_work is_unmet (λ i. suc (length (g i))) ms ≡ suc (length (g k)) + open_work is_unmet (λ i. suc (length (g i))) (set ms k Begun)
    by_value (m, e) = work_taken is_unmet (λ i. suc (length (g i))) ms k m Begun e (ap is_unmet (sym (ap mark_or e) ∙ unmet)) refl

abbrev popped : Lay → List Task → Lay
popped s ts = record { marks = s.marks; order = s.order; tasks = ts; circle = s.circle }

-- the first task is done
pub laying_less : (g : Graph) (count : ℕ) (now new : Lay) (t : Task) (ts : List Task) → IsLaying g count now → now.tasks ≡ t ∷ ts →
    new ≡ lay_by g (popped now ts) t → left_to_lay g new < left_to_lay g now
laying_less g count now new t ts h first turn = subst (λ (s : Lay). left_to_lay g s < left_to_lay g now) (sym turn) (by_task t (subst (Each (λ (u : Task). number_of u < count)) first h.within).0)
  where
    with_first : length now.tasks ≡ suc (length ts)
    with_first = ap (λ (us : List Task). length us) first

    by_mark : (k : ℕ) → k < count → (m : WalkMark) → mark_at now.marks k ≡ m → left_to_lay g (visit_by g (popped now ts) k (mark_at now.marks k)) < left_to_lay g now
    by_mark k inside Ended e = rw e (omega (arith, with_first))
    by_mark k inside Begun e = rw e (omega (arith, with_first))
    by_mark k inside Unmet e =
        let size : length (visits (g k) ++ End k ∷ ts) ≡ length (g k) + suc (length ts) = length-append (visits (g k)) (End k ∷ ts) ∙ ap (λ n. n + suc (length ts)) (length-map (g k) Visit) in
        let fits : k < length now.marks = omega (arith, inside, h.size) in
        let taken = visits_taken g now.marks k fits e in
        rw e (omega (arith, with_first, size, taken))

    by_task : (u : Task) → number_of u < count → left_to_lay g (lay_by g (popped now ts) u) < left_to_lay g now
    by_task (End k) inside = let closed = work_not_more is_unmet (λ i. suc (length (g i))) now.marks k Ended refl in omega (arith, with_first, closed)
    by_task (Visit k) inside = by_mark k inside (mark_at now.marks k) refl
