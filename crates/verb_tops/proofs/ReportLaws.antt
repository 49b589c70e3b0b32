-- Events that were analysed one after the other: one more, and all of them.
use Rattle.std.proofs.Common.{arith, ◌≡◌, Bool, true, false, ℕ, zero, suc, ◌+◌, ◌<◌, ◌≤◌, ◌++◌, List, [], ◌∷◌, Option, Some, None, length, map, take, get_or, refl, sym, ap, subst, ◌∙◌}
use Rattle.std.specs.Prelude.{nat_eq}
use Rattle.std.proofs.lemmas.List.{take_more, take_all, length-take-le, map-append}
use Rattle.base_files.specs.Desk.{said_more}
use Rattle.smv_language.specs.Language.{EachBoth, Text, Formula}
use Rattle.cut_text_laws.specs.Analysis.{told_ending}
use Rattle.cut_report_laws.specs.ExtendedTraces.{Ending, complete, bounded, Analysis}
use Rattle.cert_file.specs.declared.conclusion.Conclusion.{Conclusion}
use Rattle.verb_loading.specs.declared.status.Status.{Status}
use Rattle.verb_loading.specs.declared.status.Status.TheVariants as status
use Rattle.verb_loading.specs.Cases.{Case}
use Rattle.verb_loading.specs.CaseAnswers.{Told, Said, told_maybe}
use Rattle.cut_model_search.specs.CaseAnalysis.{IsFound}
use Rattle.verb_run.specs.Analyses.{report_of}
use Rattle.verb_run.specs.Findings.{IsCertifiedAs}
use Rattle.verb_run.specs.Tables.{ended_with_all}
use Rattle.verb_tops.specs.Each.{event_line, certificate_name, IsCertified, AreReported, HasReported}
use Rattle.verb_tops.specs.Work.{IsEventFinding, joined_with}

-- The status.
ends_more : (es : List Ending) (e : Ending) → ended_with_all (es ++ e ∷ []) ≡ joined_with (ended_with_all es) e
ends_more [] complete = refl
ends_more [] (bounded k) = refl
ends_more (complete ∷ es) e = ends_more es e
ends_more (bounded k ∷ es) e = refl

-- The files and what was said.
certified_by : (c : Case) (e : Formula) (size : ℕ) (a : Analysis) (name : Text) (before after : Told) (ending : Ending) (cert : Option (List ℕ)) →
    IsCertifiedAs c e size a ending cert → after ≡ told_maybe before name cert → IsCertified c e size a name before after ending
certified_by c e size a name before after complete (Some bytes) h is = (bytes, h, is)
certified_by c e size a name before after complete None h is = absurd h
certified_by c e size a name before after (bounded k) (Some bytes) h is = absurd h
certified_by c e size a name before after (bounded k) None h is = is

module _ (c : Case) (depth size : ℕ) (stem : Text) (e : Formula) (a : Analysis) (found : IsFound c e size depth a) (mid after : Told) (mid_said now : Said) where
  reported_more : (n at : ℕ) (es : List Formula) (as' : List Analysis) (before : Told) (said : Said) → at ≡ n + length es →
      AreReported c depth size stem n es as' before mid said mid_said →
      IsCertified c e size a (certificate_name stem at) mid after a.ending → now ≡ said_more mid_said (event_line at ++ report_of c size a) →
      AreReported c depth size stem n (es ++ e ∷ []) (as' ++ a ∷ []) before after said now
  reported_more n at [] [] before said same h cert line =
      let here : at ≡ n = omega (arith, same) in (
        found,
        (
          after,
          subst (λ t. IsCertified c e size a (certificate_name stem n) t after a.ending) h.0 (subst (λ k. IsCertified c e size a (certificate_name stem k) mid after a.ending) here cert),
          (refl, subst (λ t. now ≡ said_more t (event_line n ++ report_of c size a)) h.1 (subst (λ k. now ≡ said_more mid_said (event_line k ++ report_of c size a)) here line)),
        ),
      )
  reported_more n at [] (b ∷ as') before said same h cert line = absurd h
  reported_more n at (x ∷ es) [] before said same h cert line = absurd h
  reported_more n at (x ∷ es) (b ∷ as') before said same h cert line =
      (h.0, (h.1.0, h.1.1, reported_more (n + 1) at es as' h.1.0 (said_more said (event_line n ++ report_of c size b)) (omega (arith, same)) h.1.2 cert line))

-- one event more
pub has_reported_more : (c : Case) (es : List Formula) (depth size : ℕ) (stem : Text) (s : Status) (before mid after : Told) (said mid_said now : Said) →
    HasReported c es depth size stem s before mid said mid_said → (e : Formula) (at : ℕ) (f : Conclusion) → at ≡ 1 + length es → IsEventFinding c e depth size at f → (name : Text) →
    name ≡ certificate_name stem at → after ≡ told_maybe mid name f.cert → now ≡ said_more mid_said f.report → (t : Status) → t ≡ joined_with s (told_ending f.ending) →
    HasReported c (es ++ e ∷ []) depth size stem t before after said now
has_reported_more c es depth size stem s before mid after said mid_said now had e at f same it name named files line t ends =
    let cert = certified_by c e size it.analysis (certificate_name stem at) mid after it.analysis.ending f.cert it.certified (files ∙ ap (λ w. told_maybe mid w f.cert) named) in
    record {
      analyses = had.analyses ++ it.analysis ∷ [];
      reported = reported_more c depth size stem e it.analysis it.found mid after mid_said now 1 at es had.analyses before said same had.reported cert (line ∙ ap (said_more mid_said) it.reported);
      ends =
          ends ∙ ap (λ r. joined_with r (told_ending f.ending)) had.ends ∙ ap (joined_with (ended_with_all (map (λ (x : Analysis). x.ending) had.analyses))) it.ends
          ∙ sym (ends_more (map (λ (x : Analysis). x.ending) had.analyses) it.analysis.ending)
          ∙ ap ended_with_all (sym (map-append (λ (x : Analysis). x.ending) had.analyses (it.analysis ∷ [])));
    }

-- none
pub none_reported : (c : Case) (depth size : ℕ) (stem : Text) (before : Told) (said : Said) → HasReported c [] depth size stem status.Done before before said said
none_reported c depth size stem before said = record { analyses = []; reported = (refl, refl); ends = refl }

-- The events of a place.
module _ {A B C : Type 0} (R : A → C → Type 0) (g : B → C) where
  event_at : (es : List A) (ts : List B) (i : ℕ) (t : B) → EachBoth R es (map g ts) → i < length ts → t ≡ get_or ts i t → (e : A) × R e (g t) × (e ≡ get_or es i e)
  event_at [] [] i t h below here = absurd (omega (arith, below))
  event_at [] (b ∷ ts) i t h below here = absurd h
  event_at (e ∷ es) [] i t h below here = absurd (omega (arith, below))
  event_at (e ∷ es) (b ∷ ts) zero t h below here = (e, subst (λ x. R e (g x)) (sym here) h.0, refl)
  event_at (e ∷ es) (b ∷ ts) (suc i) t h below here = event_at es ts i t h.1 (omega (arith, below)) here

  same_long : (es : List A) (ts : List B) → EachBoth R es (map g ts) → length es ≡ length ts
  same_long [] [] h = refl
  same_long [] (b ∷ ts) h = absurd h
  same_long (e ∷ es) [] h = absurd h
  same_long (e ∷ es) (b ∷ ts) h = ap suc (same_long es ts h.1)

  -- an event of a place, with the events before it
  pub record IsNextEvent (es : List A) (i : ℕ) (tree : C) : Type 0 where
    pub event : A
    pub is_event : R event tree
    pub next : take (i + 1) es ≡ take i es ++ event ∷ []
    pub long : length (take i es) ≡ i

  pub next_event : (es : List A) (ts : List B) (i : ℕ) (t : B) → EachBoth R es (map g ts) → i < length ts → t ≡ get_or ts i t → IsNextEvent es i (g t)
  next_event es ts i t h below here =
      let it = event_at es ts i t h below here in
      let long = same_long es ts h in
      let within : i < length es = omega (arith, below, long) in
      record {
        event = it.0;
        is_event = it.1;
        next = take_more es i it.0 within ∙ ap (λ x. take i es ++ x ∷ []) (sym it.2);
        long = length-take-le i es (omega (arith, within));
      }

  -- all of them
  pub all_events : (es : List A) (ts : List B) (i : ℕ) → EachBoth R es (map g ts) → length ts ≤ i → take i es ≡ es
  all_events es ts i h past = let long = same_long es ts h in take_all i es (omega (arith, past, long))

  pub no_events : (es : List A) (ts : List B) → EachBoth R es (map g ts) → ts ≡ [] → es ≡ []
  no_events [] [] h none = refl
  no_events [] (b ∷ ts) h none = absurd h
  no_events (e ∷ es) [] h none = absurd h
  no_events (e ∷ es) (b ∷ ts) h none = cc

pub some_there : {A : Type 0} (xs : List A) (b : Bool) → b ≡ nat_eq (length xs) 0 → b ≡ false → 0 < length xs
some_there [] b e is = absurd (never (sym e ∙ is))
  where
    never : true ≡ false → ⊥
    never e = cc
some_there (x ∷ xs) b e is = omega arith
