-- From the answers of searches to an order of two faults, its certificate and its report.
use Rattle.std.proofs.Common.{◌≡◌, inl, inr, ℕ, ◌<◌, ◌↔◌, Bool, true, false, IsTrue, List, [], ◌∷◌, length, map, take, Option, Some, None, IfSome, refl, sym, ap, subst, ◌∙◌, arith}
use Rattle.std.specs.Prelude.{slice_get}
use Rattle.base_files.specs.declared.files.NamedFile.{NamedFile}
use Rattle.base_files.specs.Desk.{said_more, SaysPrefix}
use Rattle.smv_language.specs.Language.{Tree, Text, model_tree, flat_tree, FlatLeaf, FlatModel, told_trace}
use Rattle.base_values.specs.declared.value.Value.{Value as Numbered}
use Rattle.smv_type_laws.specs.Costs.{state_bits}
use Rattle.cut_text_laws.specs.Analysis.{told_ending}
use Rattle.base_values.specs.declared.ending.Ending.{Ending as Printed}
use Rattle.base_values.specs.declared.ending.Ending.TheVariants as printed
use Rattle.cut_search_laws.specs.Problem.{problem_of}
use Rattle.cut_search.specs.Progress.{HasChainFor}
use Rattle.cut_search.specs.Answer.{IsEnd}
use Rattle.cut_search.specs.declared.answer.End.{End}
use Rattle.cut_search.specs.declared.answer.End.TheVariants.{Complete, Bounded}
use Rattle.cut_report_laws.specs.SearchAnswer.{ending_of}
use Rattle.fault_orders.specs.declared.Relation.{Relation}
use Rattle.cut_search_laws.specs.FoundSets.{sets_of}
use Rattle.cut_reach_laws.specs.FaultlessLaws.{class_of, NoneReaches}
use Rattle.cut_reach_laws.proofs.Refuted.{empty_refute, found_reach}
use Rattle.cut_report_laws.specs.ExtendedTraces.{Ending, complete, bounded}
use Rattle.cut_model_search.specs.CaseAnalysis.{IsCertificateFor}
use Rattle.cut_model_search.specs.Searches.{HasCertificate}
use Rattle.verb_loading.specs.Cases.{Case, HoldsCase}
use Rattle.verb_loading.specs.CaseAnswers.{Told, Said, told_maybe, WritesPrefixMaybe}
use Rattle.verb_loading.specs.LoadedEvents.{case_in}
use Rattle.verb_loading.specs.declared.status.Status.{Status}
use Rattle.verb_loading.specs.declared.status.Status.TheVariants as status
use Rattle.verb_loading.specs.Statuses.{ended_with, IsBoundedAt}
use Rattle.verb_orders.specs.declared.pair.PairWords.{PairWords}
use Rattle.verb_orders.specs.declared.pair.PairCase.{PairCase}
use Rattle.verb_orders.specs.declared.searched.Searched.{Searched}
use Rattle.cert_file.specs.declared.conclusion.Conclusion.{Conclusion}
use Rattle.cert_file.specs.Conclusions.{ConcludesInPart}
use Rattle.verb_command_line.specs.Sets.{numbers_of}
use Rattle.verb_orders.specs.Pairs.{IsAsked, IsStagedCase}
use Rattle.verb_orders.specs.Orders.{Order, claimed, either, IsClaimed, IsShown, EndsOrder, IsClaimWritten, IsClaimBegun, order_text, order_report, HasOrder, OrdersInPart}
use Rattle.verb_orders.specs.ClaimSearch.{IsSearchOf, IsTraceAgainst, IsToldBy, IsCertifiedOrder, HasClaimCertificate, Concludes, IsConclusion, ConcludesFrom, relation_in}
use Rattle.verb_orders.proofs.StagedCases.{empty_sets, no_sets}
use Rattle.verb_orders.proofs.AskedLaws.{the_faults, are_faults, holds_asked, at_stage, claim_of_class, of_class}
use Rattle.verb_orders.proofs.ShownLaws.{shown_such, traces_differ}

-- ---- what is written and said

-- what was concluded of a staged case, over the words
pub concludes_from : (told : Option (List NamedFile)) (s : PairCase) → IsStagedCase s → (w : PairWords) (depth : ℕ) (k : Conclusion) → IfSome told (λ files. HoldsCase files w.model.now w.faults.now (case_in s.loaded)) → s.asked ≡ w →
    (IsAsked w → s.set.items ≡ numbers_of w.set.now) → IsConclusion s depth k → IsAsked w →
    IfSome told (λ files. ConcludesFrom files w.model.now w.faults.now w.top.now (numbers_of w.set.now) w.first w.second depth k)
concludes_from None s of w depth k holds same numbers is asked = tt
concludes_from (Some files) s of w depth k holds same numbers is asked =
    record {
      c = case_in s.loaded;
      holds = holds_asked s of files w (numbers_of w.set.now) same (numbers asked) holds;
      is =
          subst (λ (x : PairWords). Concludes (case_in s.loaded) x.top.now (numbers_of w.set.now) x.first x.second depth k) same
          (subst (λ set. Concludes (case_in s.loaded) s.asked.top.now set s.asked.first s.asked.second depth k) (numbers asked) is);
    }

module _ (c : Case) (set : List ℕ) (first second : ℕ) (tree : Tree FlatLeaf) (cert : Text) (before after : Told) where
  written_of : (order : Order) (ending : Ending) (o : Option (List ℕ)) → IsCertifiedOrder c set first second tree order ending o → after ≡ told_maybe before cert o →
      IsClaimWritten c set first second tree order ending cert before after
  written_of (claimed claim) complete None h is = absurd h
  written_of (claimed claim) complete (Some bytes) h is = (bytes, h, is)
  written_of (claimed claim) (bounded n) None h is = is
  written_of (claimed claim) (bounded n) (Some bytes) h is = absurd h
  written_of (either values others) complete None h is = is
  written_of (either values others) complete (Some bytes) h is = absurd h
  written_of (either values others) (bounded n) None h is = is
  written_of (either values others) (bounded n) (Some bytes) h is = absurd h

  begun_of : (order : Order) (ending : Ending) (o : Option (List ℕ)) → IsCertifiedOrder c set first second tree order ending o → WritesPrefixMaybe before after cert o →
      IsClaimBegun c set first second tree order ending cert before after
  begun_of (claimed claim) complete None h is = absurd h
  begun_of (claimed claim) complete (Some bytes) h is = (bytes, h, is)
  begun_of (claimed claim) (bounded n) None h is = is
  begun_of (claimed claim) (bounded n) (Some bytes) h is = absurd h
  begun_of (either values others) complete None h is = is
  begun_of (either values others) complete (Some bytes) h is = absurd h
  begun_of (either values others) (bounded n) None h is = is
  begun_of (either values others) (bounded n) (Some bytes) h is = absurd h

module _ (model faults top : Text) (set : List ℕ) (first second depth : ℕ) (cert : Text) (k : Conclusion) (before mid after : Told) (said mid_said now : Said) (kept : mid ≡ before) (silent : mid_said ≡ said) where
  -- all of it
  pub has_order : (told : Option (List NamedFile)) (st : Status) → IfSome told (λ files. ConcludesFrom files model faults top set first second depth k) → st ≡ ended_with (told_ending k.ending) →
      after ≡ told_maybe mid cert k.cert → now ≡ said_more mid_said k.report → IfSome told (λ files. HasOrder files model faults top set first second depth cert st before after said now)
  has_order None st from ends written says = tt
  has_order (Some files) st from ends written says =
      let found = from.is.found in
      record {
        c = from.c;
        holds = from.holds;
        found = found;
        ends = ends ∙ ap ended_with from.is.ends;
        written = written_of from.c set first second found.tree cert before after found.order found.ending k.cert from.is.certified (written ∙ ap (λ t. told_maybe t cert k.cert) kept);
        reported = says ∙ ap (λ t. said_more t k.report) silent ∙ ap (λ t. said_more said t) from.is.reported;
      }

  part_of : (files : List NamedFile) → ConcludesFrom files model faults top set first second depth k → ConcludesInPart cert k mid after mid_said now →
      OrdersInPart files model faults top set first second depth cert before after said now
  part_of files from (inl part) =
      let found = from.is.found in
      record {
        c = from.c;
        holds = from.holds;
        found = found;
        part = inl
            (begun_of from.c set first second found.tree cert before after found.order found.ending k.cert from.is.certified (subst (λ t. WritesPrefixMaybe t after cert k.cert) kept part.0), part.1 ∙ silent);
      }
  part_of files from (inr part) =
      let found = from.is.found in
      record {
        c = from.c;
        holds = from.holds;
        found = found;
        part = inr (
          written_of from.c set first second found.tree cert before after found.order found.ending k.cert from.is.certified (part.0 ∙ ap (λ t. told_maybe t cert k.cert) kept),
          subst (λ t. SaysPrefix said now t) from.is.reported (subst (λ t. SaysPrefix t now k.report) silent part.1),
        );
      }

  -- and a part
  pub orders_in_part : (told : Option (List NamedFile)) → IfSome told (λ files. ConcludesFrom files model faults top set first second depth k) → ConcludesInPart cert k mid after mid_said now →
      IfSome told (λ files. OrdersInPart files model faults top set first second depth cert before after said now)
  orders_in_part None from part = tt
  orders_in_part (Some files) from part = part_of files from part

-- ---- a claim without a trace against it

module _ (s : PairCase) (is : IsStagedCase s) (claim : Option Relation) (depth : ℕ) (r : Searched) (search : IsSearchOf s claim depth r) (none : length r.analysis.traces ≡ 0) where
  abbrev m : FlatModel
  m = model_tree s.typed.model

  abbrev e : Tree FlatLeaf
  e = flat_tree r.top

  -- the claim holds of the traces that the search speaks of
  pub claim_holds : IsClaimed (case_in s.loaded) is.event.event.top s.set.items (the_faults s is).one (the_faults s is).other (ending_of r.analysis.end) claim
  claim_holds =
      claim_of_class s is claim (class_of r.analysis.end) (ending_of r.analysis.end) (of_class r.analysis.end)
      (at_stage s is (λ m e. NoneReaches m e (class_of r.analysis.end)) claim e search.speaks
      (empty_refute (problem_of m [] e) depth 0 r.analysis search.answer none))

  -- how it ends
  pub claim_ends : EndsOrder (case_in s.loaded) s.set.items s.asked.first s.asked.second (flat_tree s.loaded.top) depth (claimed claim) (ending_of r.analysis.end)
  claim_ends = by r.analysis.end search.answer.ends
    where
      empty : sets_of search.answer.found ≡ []
      empty = empty_sets search.answer.found (sym (ap length search.answer.traces) ∙ none)

      by : (end : End) → IsEnd (problem_of m [] e) depth 0 search.answer.found end →
          EndsOrder (case_in s.loaded) s.set.items s.asked.first s.asked.second (flat_tree s.loaded.top) depth (claimed claim) (ending_of end)
      by (Complete clauses) h = tt
      by (Bounded k) h = (
        h.0,
        at_stage s is (λ m e. HasChainFor (problem_of m [] e) 0 [] k) claim e search.speaks
            (subst (λ sets. HasChainFor (problem_of m [] e) 0 sets k) empty h.1),
      )

  -- a trace that tells the relation shows that there is one
  pub claim_shown : IsToldBy s claim → IsShown (case_in s.loaded) is.event.event.top s.set.items (the_faults s is).one (the_faults s is).other claim
  claim_shown = by claim
    where
      by : (x : Option Relation) → IsToldBy s x → IsShown (case_in s.loaded) is.event.event.top s.set.items (the_faults s is).one (the_faults s is).other x
      by None h = tt
      by (Some relation) h = let one = shown_such s is h.0 h.1 in (one.0.trace, one.0.such)

  -- the certificate of a complete claim
  certified_order : (end : End) (o : Option (List ℕ)) → HasClaimCertificate s claim end o →
      IsCertifiedOrder (case_in s.loaded) s.set.items s.asked.first s.asked.second (flat_tree s.loaded.top) (claimed claim) (ending_of end) o
  certified_order (Complete clauses) None h = absurd h
  certified_order (Complete clauses) (Some bytes) h = h
  certified_order (Bounded k) None h = tt
  certified_order (Bounded k) (Some bytes) h = absurd h

  pub claim_concluded : (cert : Option (List ℕ)) (report : Text) (ending : Printed) (bits : ℕ) → IsToldBy s claim → HasClaimCertificate s claim r.analysis.end cert → told_ending ending ≡ ending_of r.analysis.end →
      bits ≡ state_bits (model_tree s.typed.model) →
      report ≡ order_text (case_in s.loaded).flat s.asked.first s.asked.second (claimed claim) (told_ending ending) bits → IsConclusion s depth (record { cert = cert; report = report; ending = ending })
  claim_concluded cert report ending bits told has ends counted says =
      record {
        found = record {
          event = is.event.event.top;
          is_event = is.event.event.is_word;
          tree = flat_tree s.loaded.top;
          is_tree = is.event.event.is_tree;
          one = (the_faults s is).one;
          other = (the_faults s is).other;
          are = are_faults s is;
          order = claimed claim;
          ending = ending_of r.analysis.end;
          right = (claim_holds, claim_shown told);
          ends_by = claim_ends;
        };
        ends = ends;
        certified = certified_order r.analysis.end cert has;
        reported =
            says ∙ ap (λ x. order_text (case_in s.loaded).flat s.asked.first s.asked.second (claimed claim) x bits) ends
            ∙ ap (λ n. order_text (case_in s.loaded).flat s.asked.first s.asked.second (claimed claim) (ending_of r.analysis.end) n) (counted ∙ ap state_bits is.staged.model);
      }

-- ---- two traces that differ

pub either_concluded : (s : PairCase) → IsStagedCase s → (n : ℕ) → n ≡ length s.loaded.case.limited.typed.model.variables → (one other : List (List Numbered)) → IsTraceAgainst s None one →
    IsTraceAgainst s (Some (relation_in one)) other → (depth : ℕ) (report : Text) →
    report ≡ order_report (case_in s.loaded) s.asked.first s.asked.second
    (either (told_trace s.loaded.case.limited.typed.model.symbols (map (take n) one)) (told_trace s.loaded.case.limited.typed.model.symbols (map (take n) other))) complete →
    IsConclusion s depth (record { cert = None; report = report; ending = printed.Complete })
either_concluded s is n counted one other h g depth report says =
    record {
      found = record {
        event = is.event.event.top;
        is_event = is.event.event.is_word;
        tree = flat_tree s.loaded.top;
        is_tree = is.event.event.is_tree;
        one = (the_faults s is).one;
        other = (the_faults s is).other;
        are = are_faults s is;
        order = either (told_trace s.loaded.case.limited.typed.model.symbols (map (take n) one)) (told_trace s.loaded.case.limited.typed.model.symbols (map (take n) other));
        ending = complete;
        right = traces_differ s is n counted one other h g;
        ends_by = tt;
      };
      ends = refl;
      certified = tt;
      reported = says;
    }

-- ---- the certificate

no_trace : (ts : List (List (List Numbered))) → length ts ≡ 0 → ts ≡ []
no_trace [] h = refl
no_trace (t ∷ ts) h = absurd (omega (arith, h))

-- what was certified of the staged model is a certificate of the claim
pub claim_certified : (s : PairCase) → IsStagedCase s → (claim : Option Relation) (depth : ℕ) (r : Searched) → IsSearchOf s claim depth r → length r.analysis.traces ≡ 0 → (end : End) (cert : Option (List ℕ)) →
    HasCertificate (model_tree s.typed.model) [] (flat_tree r.top) s.typed.model.symbols r.analysis end cert → HasClaimCertificate s claim end cert
claim_certified s is claim depth r search none (Complete clauses) (Some bytes) h =
    at_stage s is (λ m e. IsCertificateFor m [] e 0 [] [] bytes) claim (flat_tree r.top) search.speaks
    (subst (λ n. IsCertificateFor (model_tree s.typed.model) [] (flat_tree r.top) n [] [] bytes) search.answer.size_is
    (subst (λ sets. IsCertificateFor (model_tree s.typed.model) [] (flat_tree r.top) r.analysis.size sets [] bytes) (no_sets s claim depth r search none)
    (subst (λ traces. IsCertificateFor (model_tree s.typed.model) [] (flat_tree r.top) r.analysis.size r.analysis.sets (map (told_trace s.typed.model.symbols) traces) bytes) (no_trace r.analysis.traces none) h)))
claim_certified s is claim depth r search none (Complete clauses) None h = absurd h
claim_certified s is claim depth r search none (Bounded k) (Some bytes) h = absurd h
claim_certified s is claim depth r search none (Bounded k) None h = tt

-- the first trace of a search is one against its claim
pub trace_found : (s : PairCase) (claim : Option Relation) (depth : ℕ) (r : Searched) → IsSearchOf s claim depth r → (trace : List (List Numbered)) → slice_get r.analysis.traces 0 ≡ Some trace → IsTraceAgainst s claim trace
trace_found s claim depth r search trace at =
    let both =
    found_reach (problem_of (model_tree s.typed.model) [] (flat_tree r.top)) depth 0 r.analysis search.answer trace at in
    record { e = flat_tree r.top; speaks = search.speaks; is_trace = both.0; reaching = both.1 }

-- a list that is not empty has a first member
pub some_trace : (ts : List (List (List Numbered))) (b : Bool) → (IsTrue b ↔ (length ts ≡ 0)) → b ≡ false → 0 < length ts
some_trace [] b tells e = let bad : true ≡ false = sym (tells.1 refl) ∙ e in cc
some_trace (t ∷ ts) b tells e = omega arith

-- a search is bounded by its depth alone
pub concluded_within : (s : PairCase) (depth : ℕ) (k : Conclusion) → IsConclusion s depth k → IsBoundedAt depth (ended_with (told_ending k.ending))
concluded_within s depth k h n is = by_order h.found.order h.found.ending h.found.ends_by (sym (ap ended_with h.ends) ∙ is)
  where
    none : status.Done ≡ status.Bounded n → n ≡ depth
    none e = cc

    same : (j : ℕ) → status.Bounded j ≡ status.Bounded n → n ≡ j
    same j e = cc

    by_order : (order : Order) (ending : Ending) → EndsOrder (case_in s.loaded) s.set.items s.asked.first s.asked.second h.found.tree depth order ending → ended_with ending ≡ status.Bounded n → n ≡ depth
    by_order order complete ends e = none e
    by_order (claimed claim) (bounded j) ends e = same j e ∙ ends.0
    by_order (either values others) (bounded j) ends e = absurd ends
