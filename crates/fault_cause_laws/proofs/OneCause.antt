-- One cause: its age, its event and its hits.
use Rattle.std.proofs.Common.{◌≡◌, ℕ, ◌+◌, ◌<◌, Bool, List, [], ◌∷◌, length, Option, Some, ap, ◌∙◌, sym, subst, arith}
use Rattle.std.proofs.lemmas.List.{length-append}
use Rattle.std.specs.Prelude.{slice_get, IsTrue, pos}
use Rattle.smv_language.specs.declared.program.Member.TheVariants as member
use Rattle.smv_language.specs.Language.{Text, range, members, Value, Each, FlatModel, FlatVariable}
use Rattle.smv_flat_laws.specs.FlatTrace.{IsFlatTrace}
use Rattle.smv_flat_laws.specs.History.{Mode}
use Rattle.fault_cause_laws.specs.Additions.{Addition, beside, AreAdded}
use Rattle.fault_cause_laws.specs.Columns.{with_value}
use Rattle.fault_cause_laws.proofs.Traces.{taken_apart}
use Rattle.fault_cause_laws.proofs.AddedReadings.{get_last}
use Rattle.fault_cause_laws.proofs.Columns.{EachFrom, each_from_more, grown, one_added, forced, fitting, with_values_length}
use Rattle.fault_cause_laws.specs.Causes.{CommonCause, IsCauseOf}
use Rattle.fault_cause_laws.specs.CausedEvents.{Occurs}
use Rattle.fault_cause_laws.specs.StagedModel.{age_name, event_name, quiet_name, now_name, added_variable, age_at_first, age_at_step, event_at_each, with_age, with_event, with_cause}
use Rattle.fault_cause_laws.specs.StagedValues.{age_value, event_value, hits_told, cause_told}
use Rattle.fault_cause_laws.proofs.Ages.{IsMomentOf}
use Rattle.fault_cause_laws.proofs.AgeColumn.{Sized, age_added, age_tells, age_fits}
use Rattle.fault_cause_laws.proofs.EventColumn.{event_forced, event_fits}
use Rattle.fault_cause_laws.proofs.Known.{IsReady, ready_added, Lasting, Knows, reads_longer, known_value}
use Rattle.fault_cause_laws.proofs.Hits.{Landed, HitsTold, hits_ready, hits_count, hits_symbols, hits_forward, hits_backward, hits_known, hits_length}
use Rattle.fault_cause_laws.proofs.Occurrence.{to_occurs, from_occurs}
use Rattle.base_values.proofs.ListLaws.{get_left}

-- the age of the cause is known beside the rest
abbrev pub WithAge : CommonCause → Option ℕ → ℕ → (ℕ → List Value → Type 0) → ℕ → List Value → Type 0
WithAge c time age others k v = (slice_get v age ≡ Some (age_value c time k)) × others k v

pub with_age_lasts : (c : CommonCause) (time : Option ℕ) (age : ℕ) (others : ℕ → List Value → Type 0) → Lasting others → Lasting (WithAge c time age others)
with_age_lasts c time age others lasting k v b h = (get_left v (b ∷ []) age (age_value c time k) h.0, lasting k v b h.1)

module _ (fs : List Mode) (wanted : ℕ → Text) (c : CommonCause) (is_cause : IsCauseOf (length fs) c) where
  abbrev age_variable : FlatVariable
  age_variable = added_variable (age_name c.name) (range (pos 0) (pos (c.to + 2)))

  abbrev event_variable : FlatVariable
  event_variable = added_variable (event_name c.name) (members (member.Symbol (quiet_name c.name) ∷ member.Symbol (now_name c.name) ∷ []))

  abbrev aged : FlatModel → FlatModel
  aged m = with_age m c

  abbrev evented : FlatModel → FlatModel
  evented m = with_event (aged m) c (length m.variables)

  abbrev event_addition : FlatModel → Addition
  event_addition m =
      one_added event_variable (quiet_name c.name ∷ now_name c.name ∷ []) [] (event_at_each (length (aged m).variables) (length m.variables) (length (aged m).symbols) ∷ []) []

  aged_count : (m : FlatModel) → length (aged m).variables ≡ length m.variables + 1
  aged_count m = length-append m.variables (age_variable ∷ [])

  aged_symbols : (m : FlatModel) → length (aged m).symbols ≡ length m.symbols
  aged_symbols m = length-append m.symbols [] ∙ (let e : length m.symbols + 0 ≡ length m.symbols = omega arith in e)

  evented_count : (m : FlatModel) → length (evented m).variables ≡ length (aged m).variables + 1
  evented_count m = length-append (aged m).variables (event_variable ∷ [])

  evented_symbols : (m : FlatModel) → length (evented m).symbols ≡ length (aged m).symbols + 2
  evented_symbols m = length-append (aged m).symbols (quiet_name c.name ∷ now_name c.name ∷ [])

  aged_ready : (m : FlatModel) → IsReady fs wanted m → IsReady fs wanted (aged m)
  aged_ready m ready =
      ready_added fs wanted m (age_added m c) ready (record {
        at_first = ((omega arith, tt), tt);
        at_each = tt;
        at_step = ((omega arith, (omega arith, (omega arith, (omega arith, tt)))), tt);
      })

  evented_ready : (m : FlatModel) → IsReady fs wanted m → IsReady fs wanted (evented m)
  evented_ready m ready =
      let e : length (aged m).variables ≡ length m.variables + 1 = aged_count m in
      ready_added fs wanted (aged m) (event_addition m) (aged_ready m ready) (record {
        at_first = tt;
        at_each = ((omega arith, (omega arith, (omega arith, (omega arith, tt)))), tt);
        at_step = tt;
      })

  age_small : (m : FlatModel) → length m.variables < length (evented m).variables
  age_small m =
      let e : length (aged m).variables ≡ length m.variables + 1 = aged_count m in
      let g : length (evented m).variables ≡ length (aged m).variables + 1 = evented_count m in
      omega arith

  pub cause_ready : (m : FlatModel) → IsReady fs wanted m → IsReady fs wanted (with_cause fs m c)
  cause_ready m ready = hits_ready fs wanted c is_cause.window c.strikes (evented m) (length m.variables) 1 is_cause.numbers (evented_ready m ready) (age_small m)

  pub cause_count : (m : FlatModel) → length (with_cause fs m c).variables ≡ length m.variables + (2 + length c.strikes)
  cause_count m =
      let e : length (aged m).variables ≡ length m.variables + 1 = aged_count m in
      let g : length (evented m).variables ≡ length (aged m).variables + 1 = evented_count m in
      let h : length (with_cause fs m c).variables ≡ length (evented m).variables + length c.strikes = hits_count fs wanted c is_cause.window c.strikes (evented m) (length m.variables) 1 in
      omega arith

  pub cause_symbols : (m : FlatModel) → length (with_cause fs m c).symbols ≡ length m.symbols + 2
  cause_symbols m =
      hits_symbols fs wanted c is_cause.window c.strikes (evented m) (length m.variables) 1 ∙ evented_symbols m ∙ ap (λ x. x + 2) (aged_symbols m)

  module _ (stands : ℕ → ℕ → Bool) (total : ℕ) (others : ℕ → List Value → Type 0) (lasting : Lasting others) where
    sizes : (m : FlatModel) (part : List (List Value)) → EachFrom (Knows fs wanted stands total others (length m.variables)) 0 part → EachFrom (Sized m c) 0 part
    sizes m part known = each_from_more (Knows fs wanted stands total others (length m.variables)) (Sized m c) 0 part (λ k v h. h.sized) known

    -- after the age, after the event
    known_age : (time : Option ℕ) (n n' : ℕ) (part : List (List Value)) → n' ≡ n + 1 → EachFrom (Knows fs wanted stands total others n) 0 part →
        EachFrom (Knows fs wanted stands total (WithAge c time n others) n') 0 (with_value (age_value c time) part)
    known_age time n n' part e known =
        subst (λ x. EachFrom (Knows fs wanted stands total (WithAge c time n others) x) 0 (with_value (age_value c time) part)) (sym e)
        (grown (Knows fs wanted stands total others n) (Knows fs wanted stands total (WithAge c time n others) (n + 1)) (age_value c time) 0 part
        (λ k v h. record {
          sized = length-append v (age_value c time k ∷ []) ∙ ap (λ x. x + 1) h.sized;
          within = h.within;
          modes = λ i low high. reads_longer fs i (wanted i) stands k v (age_value c time k) (h.modes i low high);
          more = (get_last v (age_value c time k) n h.sized, lasting k v (age_value c time k) h.more);
        }) known)

    known_event : (time : Option ℕ) (m : FlatModel) (part : List (List Value)) → EachFrom (Knows fs wanted stands total others (length m.variables)) 0 part →
        EachFrom (Knows fs wanted stands total (WithAge c time (length m.variables) others) (length (evented m).variables)) 0 (with_value (event_value c time) (with_value (age_value c time) part))
    known_event time m part known =
        known_value fs wanted stands total (WithAge c time (length m.variables) others) (with_age_lasts c time (length m.variables) others lasting) (event_value c time) (length (aged m).variables) (length (evented m).variables)
        (with_value (age_value c time) part) (evented_count m) (known_age time (length m.variables) (length (aged m).variables) part (aged_count m) known)

    pub cause_known : (time : Option ℕ) (m : FlatModel) (part : List (List Value)) → EachFrom (Knows fs wanted stands total others (length m.variables)) 0 part →
        EachFrom (Knows fs wanted stands total (WithAge c time (length m.variables) others) (length (with_cause fs m c).variables)) 0 (cause_told stands c time part)
    cause_known time m part known =
        subst (λ x. EachFrom (Knows fs wanted stands total (WithAge c time (length m.variables) others) x) 0 (cause_told stands c time part)) (sym (hits_count fs wanted c is_cause.window c.strikes (evented m) (length m.variables) 1))
        (hits_known fs wanted c is_cause.window stands total time (WithAge c time (length m.variables) others) (with_age_lasts c time (length m.variables) others lasting) c.strikes (length (evented m).variables)
        (with_value (event_value c time) (with_value (age_value c time) part)) (known_event time m part known))

    pub cause_length : (time : Option ℕ) (part : List (List Value)) → length (cause_told stands c time part) ≡ length part
    cause_length time part =
        hits_length fs wanted c is_cause.window stands time c.strikes (with_value (event_value c time) (with_value (age_value c time) part))
        ∙ with_values_length (event_value c time) 0 (with_value (age_value c time) part) ∙ with_values_length (age_value c time) 0 part

    pub cause_backward : (time : Option ℕ) (m : FlatModel) → IsReady fs wanted m → (part : List (List Value)) → IsFlatTrace m part → EachFrom (Knows fs wanted stands total others (length m.variables)) 0 part →
        Occurs total (λ k i. IsTrue (stands k i)) c time → IsFlatTrace (with_cause fs m c) (cause_told stands c time part)
    cause_backward time m ready part h known occurs =
        let part1 : List (List Value) = with_value (age_value c time) part in
        let known1 : EachFrom (Knows fs wanted stands total (WithAge c time (length m.variables) others) (length (aged m).variables)) 0 part1 = known_age time (length m.variables) (length (aged m).variables) part (aged_count m) known in
        let trace1 : IsFlatTrace (aged m) part1 =
        fitting m age_variable [] (age_at_first (length m.variables) ∷ []) [] (age_at_step c (length m.variables) ∷ []) (Sized m c) (age_value c time) ready.knows (age_fits m c time) part (sizes m part known) h in
        let trace2 : IsFlatTrace (evented m) (with_value (event_value c time) part1) =
        fitting (aged m) event_variable (quiet_name c.name ∷ now_name c.name ∷ []) [] (event_at_each (length (aged m).variables) (length m.variables) (length (aged m).symbols) ∷ []) []
        (Knows fs wanted stands total (WithAge c time (length m.variables) others) (length (aged m).variables)) (event_value c time) (aged_ready m ready).knows
        (event_fits (aged m) c (length m.variables) time (Knows fs wanted stands total (WithAge c time (length m.variables) others) (length (aged m).variables)) (λ k v q. q.sized) (λ k v q. q.more.0)) part1 known1 trace1 in
        hits_backward fs wanted c is_cause.window c.strikes (evented m) (length m.variables) 1 is_cause.numbers (evented_ready m ready) (age_small m) (with_value (event_value c time) part1) trace2
        stands total time (WithAge c time (length m.variables) others) (with_age_lasts c time (length m.variables) others lasting) (λ k v q. q.0) (known_event time m part known)
        (from_occurs stands total c is_cause.window time occurs)

  -- what is told of a part, once its values are known
  pub record CauseTold (m : FlatModel) (long : List (List Value)) : Type 1 where
    pub part : List (List Value)
    pub is_trace : IsFlatTrace m part
    pub told : (stands : ℕ → ℕ → Bool) (total : ℕ) (others : ℕ → List Value → Type 0) → Lasting others → length part ≡ total → EachFrom (Knows fs wanted stands total others (length m.variables)) 0 part →
        (time : Option ℕ) × Occurs total (λ k i. IsTrue (stands k i)) c time × (long ≡ cause_told stands c time part)

  pub cause_forward : (m : FlatModel) → IsReady fs wanted m → (long : List (List Value)) → IsFlatTrace (with_cause fs m c) long → CauseTold m long
  cause_forward m ready long h =
      let hits : HitsTold fs wanted c is_cause.window (evented m) c.strikes (length m.variables) long =
      hits_forward fs wanted c is_cause.window c.strikes (evented m) (length m.variables) 1 is_cause.numbers (evented_ready m ready) (age_small m) long h in
      let event : (part : List (List Value)) × (more : List (List Value)) × IsFlatTrace (aged m) part × AreAdded (aged m) (event_addition m) part more × (hits.part ≡ beside part more) =
      taken_apart (aged m) (event_addition m) (aged_ready m ready).knows hits.part hits.is_trace in
      let age : (part : List (List Value)) × (more : List (List Value)) × IsFlatTrace m part × AreAdded m (age_added m c) part more × (event.0 ≡ beside part more) =
      taken_apart m (age_added m c) ready.knows event.0 event.2 in
      record {
        part = age.0;
        is_trace = age.2;
        told = λ stands total others lasting same known.
            let found : (time : Option ℕ) × IsMomentOf (length age.0) time × (beside age.0 age.1 ≡ with_value (age_value c time) age.0) =
            age_tells m c age.0 age.1 (sizes stands total others lasting m age.0 known) age.3 in
            let time : Option ℕ = found.0 in
            let part1_is : event.0 ≡ with_value (age_value c time) age.0 = age.4 ∙ found.2 in
            let known1 : EachFrom (Knows fs wanted stands total (WithAge c time (length m.variables) others) (length (aged m).variables)) 0 event.0 =
            subst (λ us. EachFrom (Knows fs wanted stands total (WithAge c time (length m.variables) others) (length (aged m).variables)) 0 us) (sym part1_is)
            (known_age stands total others lasting time (length m.variables) (length (aged m).variables) age.0 (aged_count m) known) in
            let part2_is : hits.part ≡ with_value (event_value c time) (with_value (age_value c time) age.0) =
            event.4 ∙ forced (aged m) event_variable (quiet_name c.name ∷ now_name c.name ∷ []) [] (event_at_each (length (aged m).variables) (length m.variables) (length (aged m).symbols) ∷ []) []
            (Knows fs wanted stands total (WithAge c time (length m.variables) others) (length (aged m).variables)) (event_value c time)
            (event_forced (aged m) c (length m.variables) time (Knows fs wanted stands total (WithAge c time (length m.variables) others) (length (aged m).variables)) (λ k v q. q.sized) (λ k v q. q.more.0)) event.0 event.1 known1 event.3
            ∙ ap (with_value (event_value c time)) part1_is in
            let known2 : EachFrom (Knows fs wanted stands total (WithAge c time (length m.variables) others) (length (evented m).variables)) 0 hits.part =
            subst (λ us. EachFrom (Knows fs wanted stands total (WithAge c time (length m.variables) others) (length (evented m).variables)) 0 us) (sym part2_is) (known_event stands total others lasting time m age.0 known) in
            let length_is : length hits.part ≡ total =
            ap length part2_is ∙ with_values_length (event_value c time) 0 (with_value (age_value c time) age.0) ∙ with_values_length (age_value c time) 0 age.0 ∙ same in
            let last : (long ≡ hits_told stands c time c.strikes hits.part) × Each (Landed stands c time total) c.strikes =
            hits.told stands total time (WithAge c time (length m.variables) others) (with_age_lasts c time (length m.variables) others lasting) (λ k v q. q.0) length_is known2 in
            (time, to_occurs stands total c time (moment_of time same found.1) last.1, last.0 ∙ ap (hits_told stands c time c.strikes) part2_is);
      }
    where
      moment_of : {n total : ℕ} (time : Option ℕ) → n ≡ total → IsMomentOf n time → IsMomentOf total time
      moment_of time e h = subst (λ x. IsMomentOf x time) e h
