-- Causes, one after another.
use Rattle.std.proofs.Common.{◌≡◌, ℕ, ◌+◌, ◌≤◌, Bool, List, [], ◌∷◌, length, Option, refl, ap, ◌∙◌, sym, subst}
use Rattle.std.specs.Prelude.{IsTrue}
use Rattle.smv_language.specs.Language.{Text, Value, Each, FlatModel}
use Rattle.smv_flat_laws.specs.FlatTrace.{IsFlatTrace}
use Rattle.smv_flat_laws.specs.History.{Mode}
use Rattle.fault_cause_laws.proofs.Columns.{EachFrom, each_from_more}
use Rattle.fault_cause_laws.specs.Causes.{CommonCause, IsCauseOf}
use Rattle.fault_cause_laws.specs.CausedEvents.{Occurs, AreCaused}
use Rattle.fault_cause_laws.specs.StagedModel.{with_cause, with_each_cause, age_numbers}
use Rattle.fault_cause_laws.specs.StagedValues.{cause_told, causes_told}
use Rattle.fault_cause_laws.proofs.Known.{IsReady, Lasting, Knows}
use Rattle.fault_cause_laws.proofs.OwnColumn.{AgesAt, ages_longer}
use Rattle.fault_cause_laws.proofs.OneCause.{WithAge, with_age_lasts, cause_ready, cause_count, cause_known, cause_length, cause_backward, CauseTold, cause_forward}

-- the ages of causes are known beside the rest
abbrev pub WithAges : List CommonCause → List (Option ℕ) → List ℕ → (ℕ → List Value → Type 0) → ℕ → List Value → Type 0
WithAges cs times ages others k v = AgesAt v cs times ages k × others k v

pub with_ages_lasts : (cs : List CommonCause) (times : List (Option ℕ)) (ages : List ℕ) (others : ℕ → List Value → Type 0) → Lasting others → Lasting (WithAges cs times ages others)
with_ages_lasts cs times ages others lasting k v b h = (ages_longer v (b ∷ []) cs times ages k h.0, lasting k v b h.1)

module _ (fs : List Mode) (wanted : ℕ → Text) where
  pub causes_ready : (cs : List CommonCause) (m : FlatModel) → Each (IsCauseOf (length fs)) cs → IsReady fs wanted m → IsReady fs wanted (with_each_cause fs m cs)
  causes_ready [] m are ready = ready
  causes_ready (c ∷ cs) m are ready = causes_ready cs (with_cause fs m c) are.1 (cause_ready fs wanted c are.0 m ready)

  module _ (stands : ℕ → ℕ → Bool) (total : ℕ) where
    abbrev Stands : ℕ → ℕ → Type 0
    Stands k i = IsTrue (stands k i)

    -- the knowledge of one more age, in its place
    regroup : (c : CommonCause) (small : c.from ≤ c.to) (cs : List CommonCause) (time : Option ℕ) (times : List (Option ℕ)) (age : ℕ) (ages : List ℕ) (others : ℕ → List Value → Type 0) (n : ℕ) (vs : List (List Value)) →
        EachFrom (Knows fs wanted stands total (WithAges cs times ages (WithAge c time age others)) n) 0 vs → EachFrom (Knows fs wanted stands total (WithAges (c ∷ cs) (time ∷ times) (age ∷ ages) others) n) 0 vs
    regroup c small cs time times age ages others n vs known =
        each_from_more (Knows fs wanted stands total (WithAges cs times ages (WithAge c time age others)) n) (Knows fs wanted stands total (WithAges (c ∷ cs) (time ∷ times) (age ∷ ages) others) n) 0 vs
        (λ k v h. record { sized = h.sized; within = h.within; modes = h.modes; more = ((small, h.more.1.0, h.more.0), h.more.1.1) }) known

    pub causes_known : (cs : List CommonCause) (times : List (Option ℕ)) (m : FlatModel) (others : ℕ → List Value → Type 0) → Lasting others → Each (IsCauseOf (length fs)) cs → (part : List (List Value)) →
        AreCaused total Stands cs times → EachFrom (Knows fs wanted stands total others (length m.variables)) 0 part →
        EachFrom (Knows fs wanted stands total (WithAges cs times (age_numbers (length m.variables) cs) others) (length (with_each_cause fs m cs).variables)) 0 (causes_told stands cs times part)
    causes_known [] [] m others lasting are part caused known =
        each_from_more (Knows fs wanted stands total others (length m.variables)) (Knows fs wanted stands total (WithAges [] [] [] others) (length m.variables)) 0 part
        (λ k v h. record { sized = h.sized; within = h.within; modes = h.modes; more = (tt, h.more) }) known
    causes_known [] (time ∷ times) m others lasting are part caused known = absurd caused
    causes_known (c ∷ cs) [] m others lasting are part caused known = absurd caused
    causes_known (c ∷ cs) (time ∷ times) m others lasting are part caused known =
        regroup c are.0.window cs time times (length m.variables) (age_numbers (length m.variables + (2 + length c.strikes)) cs) others (length (with_each_cause fs (with_cause fs m c) cs).variables) (causes_told stands cs times (cause_told stands c time part))
        (subst (λ x. EachFrom (Knows fs wanted stands total (WithAges cs times (age_numbers x cs) (WithAge c time (length m.variables) others)) (length (with_each_cause fs (with_cause fs m c) cs).variables)) 0 (causes_told stands cs times (cause_told stands c time part)))
        (cause_count fs wanted c are.0 m)
        (causes_known cs times (with_cause fs m c) (WithAge c time (length m.variables) others) (with_age_lasts c time (length m.variables) others lasting) are.1 (cause_told stands c time part) caused.1
        (cause_known fs wanted c are.0 stands total others lasting time m part known)))

    pub causes_length : (cs : List CommonCause) (times : List (Option ℕ)) → Each (IsCauseOf (length fs)) cs → (part : List (List Value)) → length (causes_told stands cs times part) ≡ length part
    causes_length [] times are part = refl
    causes_length (c ∷ cs) [] are part = refl
    causes_length (c ∷ cs) (time ∷ times) are part =
        causes_length cs times are.1 (cause_told stands c time part) ∙ cause_length fs wanted c are.0 stands total (λ k v. Unit {0}) (λ k v b h. tt) time part

    pub causes_backward : (cs : List CommonCause) (times : List (Option ℕ)) (m : FlatModel) (others : ℕ → List Value → Type 0) → Lasting others → Each (IsCauseOf (length fs)) cs → IsReady fs wanted m →
        (part : List (List Value)) → IsFlatTrace m part → AreCaused total Stands cs times → EachFrom (Knows fs wanted stands total others (length m.variables)) 0 part →
        IsFlatTrace (with_each_cause fs m cs) (causes_told stands cs times part)
    causes_backward [] [] m others lasting are ready part h caused known = h
    causes_backward [] (time ∷ times) m others lasting are ready part h caused known = absurd caused
    causes_backward (c ∷ cs) [] m others lasting are ready part h caused known = absurd caused
    causes_backward (c ∷ cs) (time ∷ times) m others lasting are ready part h caused known =
        causes_backward cs times (with_cause fs m c) (WithAge c time (length m.variables) others) (with_age_lasts c time (length m.variables) others lasting) are.1 (cause_ready fs wanted c are.0 m ready)
        (cause_told stands c time part) (cause_backward fs wanted c are.0 stands total others lasting time m ready part h known caused.0) caused.1
        (cause_known fs wanted c are.0 stands total others lasting time m part known)

  -- what is told of a part, once its values are known
  pub record CausesTold (cs : List CommonCause) (m : FlatModel) (long : List (List Value)) : Type 1 where
    pub part : List (List Value)
    pub is_trace : IsFlatTrace m part
    pub told : (stands : ℕ → ℕ → Bool) (total : ℕ) (others : ℕ → List Value → Type 0) → Lasting others → length part ≡ total → EachFrom (Knows fs wanted stands total others (length m.variables)) 0 part →
        (times : List (Option ℕ)) × AreCaused total (λ k i. IsTrue (stands k i)) cs times × (long ≡ causes_told stands cs times part)

  pub causes_forward : (cs : List CommonCause) (m : FlatModel) → Each (IsCauseOf (length fs)) cs → IsReady fs wanted m → (long : List (List Value)) → IsFlatTrace (with_each_cause fs m cs) long → CausesTold cs m long
  causes_forward [] m are ready long h = record { part = long; is_trace = h; told = λ stands total others lasting same known. ([], tt, refl) }
  causes_forward (c ∷ cs) m are ready long h =
      let rest : CausesTold cs (with_cause fs m c) long = causes_forward cs (with_cause fs m c) are.1 (cause_ready fs wanted c are.0 m ready) long h in
      let here : CauseTold fs wanted c are.0 m rest.part = cause_forward fs wanted c are.0 m ready rest.part rest.is_trace in
      record {
        part = here.part;
        is_trace = here.is_trace;
        told = λ stands total others lasting same known.
            let now : (time : Option ℕ) × Occurs total (λ k i. IsTrue (stands k i)) c time × (rest.part ≡ cause_told stands c time here.part) = here.told stands total others lasting same known in
            let known' : EachFrom (Knows fs wanted stands total (WithAge c now.0 (length m.variables) others) (length (with_cause fs m c).variables)) 0 rest.part =
            subst (λ us. EachFrom (Knows fs wanted stands total (WithAge c now.0 (length m.variables) others) (length (with_cause fs m c).variables)) 0 us) (sym now.2)
            (cause_known fs wanted c are.0 stands total others lasting now.0 m here.part known) in
            let later : (times : List (Option ℕ)) × AreCaused total (λ k i. IsTrue (stands k i)) cs times × (long ≡ causes_told stands cs times rest.part) =
            rest.told stands total (WithAge c now.0 (length m.variables) others) (with_age_lasts c now.0 (length m.variables) others lasting)
            (ap length now.2 ∙ cause_length fs wanted c are.0 stands total others lasting now.0 here.part ∙ same) known' in
            (now.0 ∷ later.0, (now.1, later.1), later.2 ∙ ap (causes_told stands cs later.0) now.2);
      }
