-- The walk ends each number after what it is linked to, or while what it is linked to leads to it.
use Rattle.std.proofs.Common.{◌≡◌, ℕ, zero, suc, ◌<◌, arith, Bool, false, List, [], ◌∷◌, ◌++◌, length, set, replicate, reverse, refl, ap, ◌∙◌, sym, subst, ◌⊎◌, inl, inr}
use Rattle.std.proofs.lemmas.List.{reverse-append}
use Rattle.smv_scope.specs.declared.needs.WalkMark.{WalkMark}
use Rattle.smv_scope.specs.declared.needs.WalkMark.TheVariants.{Unmet, Begun, Ended}
use Rattle.smv_scope.specs.declared.needs.Task.{Task}
use Rattle.smv_scope.specs.declared.needs.Task.TheVariants.{Visit, End}
use Rattle.smv_scope.specs.Links.{Graph, Has}
use Rattle.smv_scope.specs.DefinitionOrder.{upto, Lay, mark_at, visits, visit_by, lay_by, HasEnd, IsLaying}
use Rattle.smv_scope.specs.Components.{Leads, IsEnded, IsFinished, IsMet, Awaits, EndsOnce, IsFinishing}
use Rattle.smv_scope.proofs.LinkLaws.{has_left, has_right, has_either}
use Rattle.smv_scope.proofs.LayLaws.{ends_lead, mark_same, mark_other, same_or}
use Rattle.smv_scope.proofs.OrderLaws.{in_upto}
use Rattle.smv_scope.proofs.LeadLaws.{leads_self, reaches_leads}

unmet_begun : Unmet ≡ Begun → ⊥
unmet_begun e = cc

begun_ended : Begun ≡ Ended → ⊥
begun_ended e = cc

-- a list from its other end has the same numbers
has_reversed : (xs : List ℕ) (k : ℕ) → Has xs k → Has (reverse xs) k
has_reversed [] k h = absurd h
has_reversed (x ∷ xs) k (inl e) = subst (λ ys. Has ys k) (sym (reverse-append (x ∷ []) xs)) (has_right (reverse xs) (x ∷ []) k (inl e))
has_reversed (x ∷ xs) k (inr h) = subst (λ ys. Has ys k) (sym (reverse-append (x ∷ []) xs)) (has_left (reverse xs) (x ∷ []) k (has_reversed xs k h))

reversed_has : (xs : List ℕ) (k : ℕ) → Has (reverse xs) k → Has xs k
reversed_has [] k h = absurd h
reversed_has (x ∷ xs) k h = by_side (reversed_has xs k) (has_either (reverse xs) (x ∷ []) k (subst (λ ys. Has ys k) (reverse-append (x ∷ []) xs) h))
  where
    by_side : (Has (reverse xs) k → Has xs k) → Has (reverse xs) k ⊎ Has (x ∷ []) k → Has (x ∷ xs) k
    by_side more (inl a) = inr (more a)
    by_side more (inr (inl e)) = inl e
    by_side more (inr (inr n)) = absurd n

-- what is met stays so
met_after : (ms : List WalkMark) (k j : ℕ) (m : WalkMark) → k < length ms → (m ≡ Unmet → ⊥) → IsMet ms j → IsMet (set ms k m) j
met_after ms k j m within met h e = by_place (same_or k j)
  where
    by_place : (k ≡ j) ⊎ (k ≡ j → ⊥) → ⊥
    by_place (inl same) = met (sym (mark_same ms k m within) ∙ subst (λ i. mark_at (set ms k m) i ≡ Unmet) (sym same) e)
    by_place (inr other) = h (sym (mark_other ms k j m other) ∙ e)

met_now : (ms : List WalkMark) (k : ℕ) (m : WalkMark) → k < length ms → (m ≡ Unmet → ⊥) → IsMet (set ms k m) k
met_now ms k m within met e = met (sym (mark_same ms k m within) ∙ e)

awaits_on : (g : Graph) (count : ℕ) (ms ms' : List WalkMark) (before before' : List ℕ) (ts : List Task) → ((b : ℕ) → IsMet ms b → IsMet ms' b) →
    ((b : ℕ) → Has before b → IsMet ms' b ⊎ Has before' b) → Awaits g count ms before ts → Awaits g count ms' before' ts
awaits_on g count ms ms' before before' [] met on h = λ b inside. by_side b (h b inside)
  where
    by_side : (b : ℕ) → IsMet ms b ⊎ Has before b → IsMet ms' b ⊎ Has before' b
    by_side b (inl m) = inl (met b m)
    by_side b (inr a) = on b a
awaits_on g count ms ms' before before' (Visit k ∷ ts) met on h = awaits_on g count ms ms' (k ∷ before) (k ∷ before') ts met on_more h
  where
    one_more : (b : ℕ) → IsMet ms' b ⊎ Has before' b → IsMet ms' b ⊎ Has (k ∷ before') b
    one_more b (inl m) = inl m
    one_more b (inr a) = inr (inr a)

    on_more : (b : ℕ) → Has (k ∷ before) b → IsMet ms' b ⊎ Has (k ∷ before') b
    on_more b (inl e) = inr (inl e)
    on_more b (inr a) = one_more b (on b a)
awaits_on g count ms ms' before before' (End k ∷ ts) met on h = (λ b to. by_side b (h.0 b to), awaits_on g count ms ms' before before' ts met on h.1)
  where
    by_side : (b : ℕ) → IsMet ms b ⊎ Has before b → IsMet ms' b ⊎ Has before' b
    by_side b (inl m) = inl (met b m)
    by_side b (inr a) = on b a

awaits_visits : (g : Graph) (count : ℕ) (ms : List WalkMark) (before ks : List ℕ) (ts : List Task) →
    ((all : List ℕ) → ((b : ℕ) → Has before b ⊎ Has ks b → Has all b) → Awaits g count ms all ts) → Awaits g count ms before (visits ks ++ ts)
awaits_visits g count ms before [] ts h = h before (λ b. by_side b)
  where
    by_side : (b : ℕ) → Has before b ⊎ Has [] b → Has before b
    by_side b (inl a) = a
    by_side b (inr n) = absurd n
awaits_visits g count ms before (k ∷ ks) ts h = awaits_visits g count ms (k ∷ before) ks ts (λ all each. h all (λ b a. each b (by_side b a)))
  where
    by_side : (b : ℕ) → Has before b ⊎ Has (k ∷ ks) b → Has (k ∷ before) b ⊎ Has ks b
    by_side b (inl a) = inl (inr a)
    by_side b (inr (inl e)) = inl (inl e)
    by_side b (inr (inr a)) = inr a

end_front : (ks : List ℕ) (ts : List Task) (k : ℕ) → HasEnd (visits ks ++ ts) k → HasEnd ts k
end_front [] ts k h = h
end_front (j ∷ ks) ts k h = end_front ks ts k h

once_front : (ks : List ℕ) (ts : List Task) → EndsOnce ts → EndsOnce (visits ks ++ ts)
once_front [] ts h = h
once_front (k ∷ ks) ts h = once_front ks ts h

no_tail : (ts : List Task) → ts ++ [] ≡ ts
no_tail [] = refl
no_tail (t ∷ ts) = ap (λ us. t ∷ us) (no_tail ts)

pub finishing_first : (g : Graph) (count : ℕ) → IsFinishing g count (record { marks = replicate count Unmet; order = []; tasks = visits (upto count); circle = false })
finishing_first g count =
    record {
      awaits = subst (Awaits g count (replicate count Unmet) []) (no_tail (visits (upto count)))
          (awaits_visits g count (replicate count Unmet) [] (upto count) [] (λ all each b inside. inr (each b (inr (in_upto count b inside)))));
      opened = λ k h. absurd (end_front (upto count) [] k (subst (λ ts. HasEnd ts k) (sym (no_tail (visits (upto count)))) h));
      once = subst EndsOnce (no_tail (visits (upto count))) (once_front (upto count) [] tt);
      closed = λ a b h. absurd h;
      ended = tt;
    }

module _ (g : Graph) (count : ℕ) (ms : List WalkMark) (order : List ℕ) (ts : List Task) (circle : Bool) where
  abbrev before : Task → Lay
  before t = record { marks = ms; order = order; tasks = t ∷ ts; circle = circle }

  abbrev popped : Lay
  popped = record { marks = ms; order = order; tasks = ts; circle = circle }

  end_task : (k : ℕ) → IsLaying g count (before (End k)) → IsFinishing g count (before (End k)) → IsFinishing g count (lay_by g popped (End k))
  end_task k l f =
      record {
        awaits = awaits_on g count ms (set ms k Ended) [] [] ts met (λ b n. absurd n) f.awaits.1;
        opened = λ j h. mark_other ms k j Ended (λ e. f.once.0 (subst (HasEnd ts) (sym e) h)) ∙ f.opened j (inr h);
        once = f.once.1;
        closed = λ a b h to. met b (met_before a b (by_end a (has_either order (k ∷ []) a h)) to);
        ended = subst (IsEnded g) (sym (reverse-append order (k ∷ []))) (fresh, after, f.ended);
      }
    where
      differs : Ended ≡ Unmet → ⊥
      differs e = cc

      fits : k < length ms
      fits = let inside : k < count = l.within.0 in omega (arith, inside, l.size)

      met : (b : ℕ) → IsMet ms b → IsMet (set ms k Ended) b
      met b h = met_after ms k b Ended fits differs h

      by_end : (a : ℕ) → Has order a ⊎ Has (k ∷ []) a → Has order a ⊎ (k ≡ a)
      by_end a (inl h) = inl h
      by_end a (inr (inl e)) = inr e
      by_end a (inr (inr n)) = absurd n

      none_before : (b : ℕ) → IsMet ms b ⊎ Has [] b → IsMet ms b
      none_before b (inl m) = m
      none_before b (inr n) = absurd n

      met_before : (a b : ℕ) → Has order a ⊎ (k ≡ a) → Has (g a) b → IsMet ms b
      met_before a b (inl h) to = f.closed a b h to
      met_before a b (inr e) to = none_before b (f.awaits.0 b (subst (λ i. Has (g i) b) (sym e) to))

      fresh : Has (reverse order) k → ⊥
      fresh h = begun_ended (sym (f.opened k (inl refl)) ∙ l.ordered k (reversed_has order k h))

      leads : (b : ℕ) → (k ≡ b) ⊎ HasEnd ts b → Leads g b k
      leads b (inl e) = subst (λ i. Leads g i k) e (leads_self g k)
      leads b (inr h) = reaches_leads g b k (ends_lead g b k ts h l.hangs.0 l.hangs.1)

      by_mark : (b : ℕ) (m : WalkMark) → mark_at ms b ≡ m → IsMet ms b → Has (reverse order) b ⊎ Leads g b k
      by_mark b Unmet e h = absurd (h e)
      by_mark b Begun e h = inr (leads b (l.begun b e))
      by_mark b Ended e h = inl (has_reversed order b (l.ended b e))

      from_end : (a : ℕ) → Has (k ∷ reverse order) a → Has order a ⊎ (k ≡ a)
      from_end a (inl e) = inr e
      from_end a (inr h) = inl (reversed_has order a h)

      after : (a b : ℕ) → Has (k ∷ reverse order) a → Has (g a) b → Has (reverse order) b ⊎ Leads g b k
      after a b h to = by_mark b (mark_at ms b) refl (met_before a b (from_end a h) to)

  visit_met : (k : ℕ) → IsMet ms k → IsFinishing g count (before (Visit k)) → IsFinishing g count popped
  visit_met k m f =
      record {
        awaits = awaits_on g count ms ms (k ∷ []) [] ts (λ b h. h) by_side f.awaits;
        opened = f.opened;
        once = f.once;
        closed = f.closed;
        ended = f.ended;
      }
    where
      by_side : (b : ℕ) → Has (k ∷ []) b → IsMet ms b ⊎ Has [] b
      by_side b (inl e) = inl (subst (IsMet ms) e m)
      by_side b (inr n) = absurd n

  visit_unmet : (k : ℕ) → mark_at ms k ≡ Unmet → IsLaying g count (before (Visit k)) → IsFinishing g count (before (Visit k)) → IsFinishing g count (visit_by g popped k Unmet)
  visit_unmet k unmet l f =
      record {
        awaits = awaits_visits g count (set ms k Begun) [] (g k) (End k ∷ ts) (λ all each. (λ b to. inr (each b (inr to)), awaits_on g count ms (set ms k Begun) (k ∷ []) all ts met (by_side all) f.awaits));
        opened = λ j h. opened j (end_front (g k) (End k ∷ ts) j h);
        once = once_front (g k) (End k ∷ ts) (fresh, f.once);
        closed = λ a b h to. met b (f.closed a b h to);
        ended = f.ended;
      }
    where
      differs : Begun ≡ Unmet → ⊥
      differs e = cc

      fits : k < length ms
      fits = let inside : k < count = l.within.0 in omega (arith, inside, l.size)

      met : (b : ℕ) → IsMet ms b → IsMet (set ms k Begun) b
      met b h = met_after ms k b Begun fits differs h

      by_side : (all : List ℕ) (b : ℕ) → Has (k ∷ []) b → IsMet (set ms k Begun) b ⊎ Has all b
      by_side all b (inl e) = inl (subst (IsMet (set ms k Begun)) e (met_now ms k Begun fits differs))
      by_side all b (inr n) = absurd n

      fresh : HasEnd ts k → ⊥
      fresh h = unmet_begun (sym unmet ∙ f.opened k h)

      opened : (j : ℕ) → (k ≡ j) ⊎ HasEnd ts j → mark_at (set ms k Begun) j ≡ Begun
      opened j (inl e) = subst (λ i. mark_at (set ms k Begun) i ≡ Begun) e (mark_same ms k Begun fits)
      opened j (inr h) = mark_other ms k j Begun (λ e. fresh (subst (HasEnd ts) (sym e) h)) ∙ f.opened j h

  pub finishing_by : (t : Task) → IsLaying g count (before t) → IsFinishing g count (before t) → IsFinishing g count (lay_by g popped t)
  finishing_by (End k) l f = end_task k l f
  finishing_by (Visit k) l f = by_mark (mark_at ms k) refl
    where
      ended_unmet : Ended ≡ Unmet → ⊥
      ended_unmet e = cc

      same_state : IsFinishing g count popped → IsFinishing g count (visit_by g popped k Begun)
      same_state h = record { awaits = h.awaits; opened = h.opened; once = h.once; closed = h.closed; ended = h.ended }

      by_mark : (m : WalkMark) → mark_at ms k ≡ m → IsFinishing g count (visit_by g popped k (mark_at ms k))
      by_mark Ended e = rw e (visit_met k (λ u. ended_unmet (sym e ∙ u)) f)
      by_mark Begun e = rw e (same_state (visit_met k (λ u. unmet_begun (sym u ∙ e)) f))
      by_mark Unmet e = rw e (visit_unmet k e l f)

mark_within : (ms : List WalkMark) (k : ℕ) → mark_at ms k ≡ Ended → k < length ms
mark_within [] k e = cc
mark_within (m ∷ ms) zero e = omega arith
mark_within (m ∷ ms) (suc k) e = let more : k < length ms = mark_within ms k e in omega (arith, more)

-- nothing is left to be done
pub finished : (g : Graph) (count : ℕ) (ms : List WalkMark) (order : List ℕ) (circle : Bool) → IsLaying g count (record { marks = ms; order = order; tasks = []; circle = circle }) →
    IsFinishing g count (record { marks = ms; order = order; tasks = []; circle = circle }) → IsFinished g count order
finished g count ms order circle l f =
    record {
      ended = f.ended;
      all = λ k inside. has_reversed order k (l.ended k (by_mark k (mark_at ms k) refl (none_before k (f.awaits k inside))));
      within = λ k h. let inside : k < length ms = mark_within ms k (l.ordered k (reversed_has order k h)) in omega (arith, inside, l.size);
    }
  where
    none_before : (b : ℕ) → IsMet ms b ⊎ Has [] b → IsMet ms b
    none_before b (inl m) = m
    none_before b (inr n) = absurd n

    by_mark : (k : ℕ) (m : WalkMark) → mark_at ms k ≡ m → IsMet ms k → mark_at ms k ≡ Ended
    by_mark k Unmet e met = absurd (met e)
    by_mark k Begun e met = absurd (l.begun k e)
    by_mark k Ended e met = e
