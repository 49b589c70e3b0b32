-- A caused trace corresponds to what the staged model tells of it.
use Rattle.std.proofs.Common.{◌≡◌, ℕ, suc, ◌+◌, ◌≤◌, Bool, List, [], ◌∷◌, length, Option, refl, ◌∙◌, sym, subst}
use Rattle.std.specs.Prelude.{◌↔◌}
use Rattle.smv_language.specs.Language.{Tree, Value, Each, FlatLeaf, FlatModel}
use Rattle.smv_flat_laws.specs.History.{Mode}
use Rattle.smv_flat_laws.specs.FlatTrace.{IsFlatTrace}
use Rattle.smv_flat_laws.specs.NameResolution.{leaves_in}
use Rattle.fault_cause_laws.specs.Additions.{IsKnownName}
use Rattle.fault_cause_laws.specs.Columns.{with_value}
use Rattle.fault_cause_laws.proofs.Grown.{HasGrown, not_grown, grown_by, IsLonger, not_longer, longer_by, reaches_longer}
use Rattle.cut_right_laws.specs.Right.{IsWithin}
use Rattle.cut_right_laws.specs.Laws.{AreBoth, Correspond}
use Rattle.cut_right_laws.proofs.Carried.{right_carried}
use Rattle.sat_encoding_laws.specs.FlatTraces.{ReachesTop, HasFailedNumber, IsRightFlat}
use Rattle.fault_cause_laws.specs.Causes.{CommonCause}
use Rattle.fault_cause_laws.specs.StagedModel.{with_hit, with_hits, with_age, with_event, with_cause, with_each_cause, with_own, with_owns, with_causes, events_of, age_numbers}
use Rattle.fault_cause_laws.specs.StagedValues.{age_value, event_value, hit_value, own_value, hits_told, cause_told, causes_told, owns_told, caused_told, stands_at}
use Rattle.fault_cause_laws.specs.Laws.{AreStaged}
use Rattle.fault_cause_laws.proofs.StagedTraces.{wanted, told_is_trace}
use Rattle.fault_cause_laws.proofs.EachCause.{causes_length}
use Rattle.fault_cause_laws.proofs.Readings.{owns_length}
use Rattle.fault_cause_laws.proofs.Events.{events_same}
use Rattle.fault_cause_laws.specs.CausesRightLaws.{Caused, IsCaused, IsShortCaused, CausedReaches, EventHappened, Tells, IsRightCaused}

-- The staged model has grown from the model.
module _ (m : FlatModel) (fs : List Mode) where
  hits_grown : (c : CommonCause) (age k : ℕ) (is : List ℕ) (made : FlatModel) → HasGrown m made → HasGrown m (with_hits fs c age k is made)
  hits_grown c age k [] made g = g
  hits_grown c age k (i ∷ is) made g = hits_grown c age (suc k) is (with_hit fs c age k i made) (grown_by m made _ g)

  cause_grown : (c : CommonCause) (made : FlatModel) → HasGrown m made → HasGrown m (with_cause fs made c)
  cause_grown c made g =
      hits_grown c (length made.variables) 1 c.strikes (with_event (with_age made c) c (length made.variables)) (grown_by m (with_age made c) _ (grown_by m made _ g))

  causes_grown : (cs : List CommonCause) (made : FlatModel) → HasGrown m made → HasGrown m (with_each_cause fs made cs)
  causes_grown [] made g = g
  causes_grown (c ∷ cs) made g = causes_grown cs (with_cause fs made c) (cause_grown c made g)

  owns_grown : (cs : List CommonCause) (ages : List ℕ) (i : ℕ) (more : List Mode) (made : FlatModel) → HasGrown m made → HasGrown m (with_owns fs cs ages i more made)
  owns_grown cs ages i [] made g = g
  owns_grown cs ages i (f ∷ more) made g = owns_grown cs ages (suc i) more (with_own fs cs ages i made) (grown_by m made _ g)

  staged_grown : (cs : List CommonCause) → HasGrown m (with_causes m fs cs)
  staged_grown cs = owns_grown cs (age_numbers (length m.variables) cs) 1 fs (with_each_cause fs m cs) (causes_grown cs m (not_grown m))

-- And what is told is longer than the trace.
module _ (st : ℕ → ℕ → Bool) (trace : List (List Value)) where
  hits_longer : (c : CommonCause) (time : Option ℕ) (is : List ℕ) (long : List (List Value)) → IsLonger trace long → IsLonger trace (hits_told st c time is long)
  hits_longer c time [] long h = h
  hits_longer c time (i ∷ is) long h = hits_longer c time is (with_value (hit_value st c time i) long) (longer_by (hit_value st c time i) trace long h)

  causes_longer : (cs : List CommonCause) (times : List (Option ℕ)) (long : List (List Value)) → IsLonger trace long → IsLonger trace (causes_told st cs times long)
  causes_longer [] times long h = h
  causes_longer (c ∷ cs) [] long h = h
  causes_longer (c ∷ cs) (time ∷ times) long h =
      causes_longer cs times (cause_told st c time long)
      (hits_longer c time c.strikes (with_value (event_value c time) (with_value (age_value c time) long))
      (longer_by (event_value c time) trace (with_value (age_value c time) long) (longer_by (age_value c time) trace long h)))

  owns_longer : (cs : List CommonCause) (times : List (Option ℕ)) (i : ℕ) (more : List Mode) (long : List (List Value)) → IsLonger trace long → IsLonger trace (owns_told st cs times i more long)
  owns_longer cs times i [] long h = h
  owns_longer cs times i (f ∷ more) long h = owns_longer cs times (suc i) more (with_value (own_value st cs times i) long) (longer_by (own_value st cs times i) trace long h)

told_longer : (m : FlatModel) (fs : List Mode) (cs : List CommonCause) (trace : List (List Value)) (times : List (Option ℕ)) → IsLonger trace (caused_told m fs cs trace times)
told_longer m fs cs trace times =
    owns_longer (stands_at m fs trace) trace cs times 1 fs (causes_told (stands_at m fs trace) cs times trace) (causes_longer (stands_at m fs trace) trace cs times trace (not_longer trace))

module _ (m : FlatModel) (fs : List Mode) (cs : List CommonCause) (are : AreStaged m fs cs) (top : Tree FlatLeaf) (reads : Each (IsKnownName (length m.variables) (length m.symbols)) (leaves_in top)) where
  abbrev staged : FlatModel
  staged = with_causes m fs cs

  told_length : (c : Caused) → length (caused_told m fs cs c.0 c.1) ≡ length c.0
  told_length c =
      owns_length (stands_at m fs c.0) cs c.1 1 fs (causes_told (stands_at m fs c.0) cs c.1 c.0)
      ∙ causes_length fs (wanted m fs are.modes) (stands_at m fs c.0) (length c.0) cs c.1 are.causes c.0

  correspond : Correspond (List (List Value)) Caused (IsFlatTrace staged) (ReachesTop staged top) (HasFailedNumber staged (events_of m fs cs)) (IsCaused m fs cs) (CausedReaches m fs cs top) (EventHappened m fs cs) (Tells m fs cs)
  correspond =
      record {
        traces = λ t u r h. r.0;
        reaching = λ t u r.
            subst (λ us. ReachesTop staged top us ↔ ReachesTop m top u.0) (sym r.1)
            (reaches_longer m staged are.knows (staged_grown m fs cs) top reads u.0 (caused_told m fs cs u.0 u.1) (told_longer m fs cs u.0 u.1) r.0.is_trace.moments);
        failed = λ t u r i. subst (λ us. HasFailedNumber staged (events_of m fs cs) us i ↔ EventHappened m fs cs u i) (sym r.1) (events_same m fs cs are u.0 u.1 r.0 i);
      }

  pub all_right : (size : ℕ) (sets : List (List ℕ)) (longs : List (List (List Value))) (traces : List Caused) → AreBoth (Tells m fs cs) longs traces →
      IsRightFlat staged (events_of m fs cs) top size (IsFlatTrace staged) sets longs → IsRightCaused m fs cs top size (IsCaused m fs cs) sets traces
  all_right size sets longs traces both right =
      right_carried (List (List Value)) Caused (IsFlatTrace staged) (ReachesTop staged top) (HasFailedNumber staged (events_of m fs cs)) (IsCaused m fs cs) (CausedReaches m fs cs top) (EventHappened m fs cs) (Tells m fs cs)
      (IsFlatTrace staged) (IsCaused m fs cs) correspond (λ u h. (caused_told m fs cs u.0 u.1, (h, refl), told_is_trace m fs cs are u.0 u.1 h)) size sets longs traces both right

  pub short_right : (k size : ℕ) (sets : List (List ℕ)) (longs : List (List (List Value))) (traces : List Caused) → AreBoth (Tells m fs cs) longs traces →
      IsRightFlat staged (events_of m fs cs) top size (IsWithin (IsFlatTrace staged) k) sets longs → IsRightCaused m fs cs top size (IsShortCaused m fs cs k) sets traces
  short_right k size sets longs traces both right =
      right_carried (List (List Value)) Caused (IsFlatTrace staged) (ReachesTop staged top) (HasFailedNumber staged (events_of m fs cs)) (IsCaused m fs cs) (CausedReaches m fs cs top) (EventHappened m fs cs) (Tells m fs cs)
      (IsWithin (IsFlatTrace staged) k) (IsShortCaused m fs cs k) correspond
      (λ u h. (caused_told m fs cs u.0 u.1, (h.0, refl), (told_is_trace m fs cs are u.0 u.1 h.0, subst (λ n. n ≤ k + 1) (sym (told_length u)) h.1))) size sets longs traces both right
