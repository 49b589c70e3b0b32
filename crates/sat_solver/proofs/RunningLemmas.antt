-- What the search keeps between two steps: how it begins, and how it lasts.
use Rattle.std.proofs.Common.{◌≡◌, ℕ, ◌+◌, ◌≤◌, Bool, not, List, [], ◌∷◌, ◌++◌, length, take, reverse, Option, Some, None, Result, Ok, Err, OnOk, All, refl, sym, ap, ◌∙◌, subst, arith}
use Rattle.std.proofs.lemmas.List.{length-set, length-replicate}
use Rattle.sat_clauses.specs.Literal.{Literal}
use Rattle.sat_clauses.specs.Assignment.{Assignment, IsInRange, value_of, made_true}
use Rattle.sat_clauses.specs.StoreRecord.{StoreValue}
use Rattle.sat_clauses.specs.declared.clause.Truth.TheVariants.{False}
use Rattle.sat_clauses.specs.Derivation.{IsUpTo}
use Rattle.sat_clauses.specs.Hints.{truth_at}
use Rattle.sat_clauses.specs.declared.step.Step.{Step}
use Rattle.sat_solver.specs.declared.trail.TrailEntry.{TrailEntry}
use Rattle.sat_solver.specs.TrailRecord.{TrailValue}
use Rattle.sat_solver.specs.Trail.{assigned, lits_of, followed_whole, IsFresh, IsFollowed, IsIdle}
use Rattle.sat_solver.specs.Analysis.{analysed, begun}
use Rattle.sat_solver.specs.Search.{CanSolve, IsJustified, IsReason, IsSound, IsStep, Grows, Extends}
use Rattle.sat_solver.specs.SearchSteps.{IsRunning, Keeps, GoesOn}
use Rattle.sat_solver.proofs.TrailLemmas.{reverse_push}
use Rattle.sat_solver.proofs.StepLemmas.{learned_is_step}
use Rattle.sat_solver.proofs.SearchLemmas.{sound_undone, sound_more}
use Rattle.sat_solver.proofs.ChoiceLemmas.{sound_first}
use Rattle.sat_solver.proofs.FollowLemmas.{followed_none, followed_push, followed_undone, followed_all, sound_followed}

-- before the first step
pub running_first : (assumptions : List Literal) (s : StoreValue) (t : TrailValue) → CanSolve s.vars s.clauses assumptions → IsIdle s.vars t → IsRunning assumptions s t
running_first assumptions s t can idle = record {
  apart = can.apart;
  in_range = can.assumptions_in_range;
  places = sym (ap length idle.values ∙ length-replicate (s.vars + 1) None);
  sound = sound_first s.clauses assumptions s.vars t idle.values idle.entries can.clauses_in_range;
  followed = followed_none s.trail t idle.followed;
}

-- literals are taken back
pub running_undone : (assumptions : List Literal) (s : StoreValue) (t u : TrailValue) (k : ℕ) → IsRunning assumptions s t → length u.values ≡ length t.values → u.entries ≡ take k t.entries → u.values ≡ assigned (length t.values) (reverse (take k t.entries)) → u.followed ≤ t.followed → u.followed ≤ k → IsRunning assumptions s u
running_undone assumptions s t u k h same entries values fewer within = record {
  apart = h.apart;
  in_range = h.in_range;
  places = h.places ∙ sym same;
  sound = sound_undone s.clauses assumptions t u k h.sound same entries values;
  followed = followed_undone s.trail t u k fewer within entries h.followed;
}

-- one more literal is made true
sound_pushed : (cs : List (List Literal)) (assumptions : List Literal) (t u : TrailValue) (e : TrailEntry) → IsSound cs assumptions t → IsInRange t.values e.lit → value_of t.values e.lit ≡ None → IsReason cs assumptions t.values e.lit e.reason → u.values ≡ made_true t.values e.lit → u.entries ≡ t.entries ++ e ∷ [] → IsSound cs assumptions u
sound_pushed cs assumptions t u e sound inside free reason values entries =
    let n = length t.values in
    let same : length u.values ≡ n = ap length values ∙ length-set t.values e.lit.var (Some (not e.lit.negated)) in
    let turned : reverse u.entries ≡ e ∷ reverse t.entries = ap reverse entries ∙ reverse_push t.entries e in
    record {
      lawful = record {
        matches = values ∙ (ap (λ (a : Assignment). made_true a e.lit) sound.lawful.matches
            ∙ (ap (assigned n) (sym turned) ∙ ap (λ m. assigned m (reverse u.entries)) (sym same)));
        fresh = subst (λ m. IsFresh m (reverse u.entries)) (sym same) (subst (IsFresh n) (sym turned)
            (sound.lawful.fresh, inside, ap (λ (a : Assignment). value_of a e.lit) (sym sound.lawful.matches) ∙ free));
      };
      in_range = λ i d lt j l lt'. omega (arith, sound.in_range i d lt j l lt', same);
      justified = subst (λ m. IsJustified cs assumptions m (reverse u.entries)) (sym same) (subst (IsJustified cs assumptions n) (sym turned)
          (sound.justified, subst (λ (a : Assignment). IsReason cs assumptions a e.lit e.reason) sound.lawful.matches reason));
    }

pub running_pushed : {T E : Type 0} (assumptions : List Literal) (s : StoreValue) (t u : TrailValue) (e : TrailEntry) (r : Result T E) → IsRunning assumptions s t → IsInRange t.values e.lit → value_of t.values e.lit ≡ None → IsReason s.clauses assumptions t.values e.lit e.reason → OnOk r (u.values ≡ made_true t.values e.lit) → OnOk r (u.entries ≡ t.entries ++ e ∷ []) → OnOk r (u.followed ≡ t.followed) → OnOk r (IsRunning assumptions s u)
running_pushed assumptions s t u e (Ok x) h inside free reason values entries followed = record {
  apart = h.apart;
  in_range = h.in_range;
  places = h.places ∙ sym (ap length values ∙ length-set t.values e.lit.var (Some (not e.lit.negated)));
  sound = sound_pushed s.clauses assumptions t u e h.sound inside free reason values entries;
  followed = followed_push s.trail t u e followed entries h.followed;
}
running_pushed assumptions s t u e (Err x) h inside free reason values entries followed = tt

-- what a false clause teaches is a step
pub running_lesson : (assumptions : List Literal) (s : StoreValue) (t : TrailValue) (fully : Bool) (number : ℕ) (l : Step) → IsRunning assumptions s t → truth_at s.clauses t.values number ≡ Some False → l.clause ≡ (analysed s.clauses fully (begun (length t.values) s.clauses number) (reverse t.entries)).lits → l.hints ≡ reverse (analysed s.clauses fully (begun (length t.values) s.clauses number) (reverse t.entries)).used → IsStep s.vars s.clauses l
running_lesson assumptions s t fully number l h is_false lits hints =
    learned_is_step s.clauses assumptions s.vars (length t.values) fully (reverse t.entries) number l (sym h.places) h.sound.in_range h.sound.lawful.fresh h.sound.justified
    (ap (λ (a : Assignment). truth_at s.clauses a number) (sym h.sound.lawful.matches) ∙ is_false) lits hints

-- a clause is learned
pub running_learned : (assumptions : List Literal) (s u : StoreValue) (t : TrailValue) (l : Step) → IsRunning assumptions s t → IsStep s.vars s.clauses l → u.clauses ≡ s.clauses ++ l.clause ∷ [] → u.vars ≡ s.vars → u.trail ≡ s.trail → IsRunning assumptions u t
running_learned assumptions s u t l h step clauses vars trail = record {
  apart = h.apart;
  in_range = subst (λ n. All (IsUpTo n) assumptions) (sym vars) h.in_range;
  places = ap (λ n. n + 1) vars ∙ h.places;
  sound = subst (λ (xs : List (List Literal)). IsSound xs assumptions t) (sym clauses)
      (sound_more s.clauses l.clause assumptions t h.sound (λ k d lt. let z = step.in_range k d lt in omega (arith, z, h.places)));
  followed = subst (λ (xs : List Literal). IsFollowed xs t) (sym trail) h.followed;
}

-- the store has followed the trail
pub running_followed : (assumptions : List Literal) (s u : StoreValue) (t v : TrailValue) → IsRunning assumptions s t → v ≡ followed_whole t → u.trail ≡ lits_of t.entries → u.clauses ≡ s.clauses → u.vars ≡ s.vars → IsRunning assumptions u v
running_followed assumptions s u t v h is one clauses vars = subst (IsRunning assumptions u) (sym is) whole where
  whole : IsRunning assumptions u (followed_whole t)
  whole = record {
    apart = h.apart;
    in_range = subst (λ n. All (IsUpTo n) assumptions) (sym vars) h.in_range;
    places = ap (λ n. n + 1) vars ∙ h.places;
    sound = subst (λ (xs : List (List Literal)). IsSound xs assumptions (followed_whole t)) (sym clauses) (sound_followed s.clauses assumptions t (length t.entries) h.sound);
    followed = followed_all u.trail (followed_whole t) refl one;
  }

-- what holds since a store holds since one before it of the same clauses
pub goes_on_since : (assumptions : List Literal) (s u v : StoreValue) (k l : Option (List Step)) (t : TrailValue) → u.clauses ≡ s.clauses → u.vars ≡ s.vars → GoesOn assumptions u v k l t → GoesOn assumptions s v k l t
goes_on_since assumptions s u v k l t clauses vars h = record {
  grows = subst (λ n. Grows n s.clauses k v.clauses l) vars (subst (λ (xs : List (List Literal)). Grows u.vars xs k v.clauses l) clauses h.grows);
  running = h.running;
}

pub keeps_since : (s u v : StoreValue) → u.clauses ≡ s.clauses → u.vars ≡ s.vars → Keeps u v → Keeps s v
keeps_since s u v clauses vars h = record {
  vars = h.vars ∙ vars;
  extends = subst (λ n. Extends n s.clauses v.clauses) vars (subst (λ (xs : List (List Literal)). Extends u.vars xs v.clauses) clauses h.extends);
}
