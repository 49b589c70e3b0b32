-- Which rule is broken first at a site, or that all are kept, from what each test finds.
use Rattle.std.proofs.Common.{◌≡◌, ℕ, suc, ◌<◌, List, [], ◌∷◌, Option, Some, None, refl, subst, arith}
use Rattle.std.specs.Prelude.{All}
use Rattle.std.proofs.lemmas.List.Elements.{All-nil, All-cons}
use Rattle.cert_laws.specs.Sites.{clause_sites}
use Rattle.smv_language.specs.Values.{Value}
use Rattle.cut_text_laws.specs.Lines.{Line}
use Rattle.sat_clauses.specs.Literal.{Literal}
use Rattle.sat_clauses.specs.Hints.{HasNoOpposites}
use Rattle.sat_clauses.specs.declared.step.Step.{Step}
use Rattle.sat_clauses.specs.States.{IsOverBits}
use Rattle.smv_flat_laws.specs.FlatTrace.{IsFlatTrace}
use Rattle.sat_encoding_laws.specs.FlatTraces.{ReachesTop, HasFailedNumber}
use Rattle.cut_right_laws.specs.Right.{HasFailedExactly, Shows}
use Rattle.cut_text_laws.specs.TraceOfText.{IsPrintable, GivesTrace}
use Rattle.cut_text_laws.proofs.OneTrace.{one_trace}
use Rattle.cert_laws.specs.Certificate.{Part, Site, the_numbers, a_set, a_trace, a_clause, a_step, an_end}
use Rattle.cert_laws.specs.Acceptance.{Rule, other_numbers, no_set, contains_a_set, no_text, no_trace, does_not_reach, other_faults, foreign_literal, bad_hint, no_conflict, not_covered, number_of, Keeps, HasNumbers, IsSetAt, IsApart, HasLiterals, HasGoodHints, HasConflict, IsCovered}
use Rattle.cert_check.specs.Matter.{Matter}
use Rattle.cert_check.specs.SiteFindings.{IsKeptAt, IsBrokenAt, AreKept, FindsAt}
use Rattle.cert_check.specs.Moments.{FindsMoments, BreaksMoments, not_a_trace, not_reaching, not_exactly}

module _ (a : Matter) where
  -- what a rule asks at a site
  abbrev Kept : Site → Rule → Type 0
  Kept site rule = Keeps (List (List Value)) (GivesTrace a.model) (IsFlatTrace a.model) (ReachesTop a.model a.top) (HasFailedNumber a.model a.modes) a.subject a.certificate site rule

  -- The numbers.
  pub numbers_kept : HasNumbers a.subject a.certificate → IsKeptAt a the_numbers
  numbers_kept h = record { all = each }
    where
      each : (r : Rule) → Kept the_numbers r
      each other_numbers = h
      each _ = tt

  pub numbers_broken : (HasNumbers a.subject a.certificate → ⊥) → IsBrokenAt a the_numbers 1
  numbers_broken h = record { rule = other_numbers; has_number = refl; first = record { broken = h; smaller = less } }
    where
      less : (r : Rule) → number_of r < 1 → Kept the_numbers r
      less other_numbers l = absurd (omega (arith, l))
      less _ l = tt

  -- A set.
  module _ (k : ℕ) (set : List ℕ) where
    pub set_kept : IsSetAt a.subject a.certificate k set → IsApart a.subject a.certificate k set → IsKeptAt a (a_set k set)
    set_kept h f = record { all = each }
      where
        each : (r : Rule) → Kept (a_set k set) r
        each no_set = h
        each contains_a_set = f
        each _ = tt

    pub set_broken : (IsSetAt a.subject a.certificate k set → ⊥) → IsBrokenAt a (a_set k set) 2
    set_broken h = record { rule = no_set; has_number = refl; first = record { broken = h; smaller = less } }
      where
        less : (r : Rule) → number_of r < 2 → Kept (a_set k set) r
        less no_set l = absurd (omega (arith, l))
        less contains_a_set l = absurd (omega (arith, l))
        less _ l = tt

    pub apart_broken : IsSetAt a.subject a.certificate k set → (IsApart a.subject a.certificate k set → ⊥) → IsBrokenAt a (a_set k set) 3
    apart_broken h f = record { rule = contains_a_set; has_number = refl; first = record { broken = f; smaller = less } }
      where
        less : (r : Rule) → number_of r < 3 → Kept (a_set k set) r
        less no_set l = h
        less contains_a_set l = absurd (omega (arith, l))
        less _ l = tt

  -- A trace.
  module _ (k : ℕ) (set : List ℕ) (text : List Line) where
    pub text_broken : ((t : List (List Value)) → GivesTrace a.model text t → ⊥) → IsBrokenAt a (a_trace k set text) 4
    text_broken none = record { rule = no_text; has_number = refl; first = record { broken = λ h. none h.0 h.1; smaller = less } }
      where
        less : (r : Rule) → number_of r < 4 → Kept (a_trace k set text) r
        less no_text l = absurd (omega (arith, l))
        less no_trace l = absurd (omega (arith, l))
        less does_not_reach l = absurd (omega (arith, l))
        less other_faults l = absurd (omega (arith, l))
        less _ l = tt

    module _ (printable : IsPrintable a.model) (t : List (List Value)) (gives : GivesTrace a.model text t) where
      same : (u : List (List Value)) → GivesTrace a.model text u → t ≡ u
      same u g = (one_trace a.model printable).0 text t u gives g

      of_text : (P : List (List Value) → Type 0) → P t → (u : List (List Value)) → GivesTrace a.model text u → P u
      of_text P p u g = subst P (same u g) p

      abbrev Exactly : List (List Value) → Type 0
      Exactly u = HasFailedExactly (List (List Value)) (IsFlatTrace a.model) (ReachesTop a.model a.top) (HasFailedNumber a.model a.modes) u set

      pub trace_kept : Shows (List (List Value)) (IsFlatTrace a.model) (ReachesTop a.model a.top) (HasFailedNumber a.model a.modes) t set → IsKeptAt a (a_trace k set text)
      trace_kept s = record { all = each }
        where
          each : (r : Rule) → Kept (a_trace k set text) r
          each no_text = (t, gives)
          each no_trace = of_text (IsFlatTrace a.model) s.is_one
          each does_not_reach = of_text (ReachesTop a.model a.top) s.reaching
          each other_faults = of_text Exactly s.exactly
          each _ = tt

      pub trace_broken : (n : ℕ) → BreaksMoments a set t n → IsBrokenAt a (a_trace k set text) n
      trace_broken n (not_a_trace f) = record { rule = no_trace; has_number = refl; first = record { broken = λ h. f (h t gives); smaller = less } }
        where
          less : (r : Rule) → number_of r < 5 → Kept (a_trace k set text) r
          less no_text l = (t, gives)
          less no_trace l = absurd (omega (arith, l))
          less does_not_reach l = absurd (omega (arith, l))
          less other_faults l = absurd (omega (arith, l))
          less _ l = tt
      trace_broken n (not_reaching is f) = record { rule = does_not_reach; has_number = refl; first = record { broken = λ h. f (h t gives); smaller = less } }
        where
          less : (r : Rule) → number_of r < 6 → Kept (a_trace k set text) r
          less no_text l = (t, gives)
          less no_trace l = of_text (IsFlatTrace a.model) is
          less does_not_reach l = absurd (omega (arith, l))
          less other_faults l = absurd (omega (arith, l))
          less _ l = tt
      trace_broken n (not_exactly is reaches f) = record { rule = other_faults; has_number = refl; first = record { broken = λ h. f (h t gives); smaller = less } }
        where
          less : (r : Rule) → number_of r < 7 → Kept (a_trace k set text) r
          less no_text l = (t, gives)
          less no_trace l = of_text (IsFlatTrace a.model) is
          less does_not_reach l = of_text (ReachesTop a.model a.top) reaches
          less other_faults l = absurd (omega (arith, l))
          less _ l = tt

  -- A clause of the invariant.
  module _ (i : ℕ) (clause : List Literal) where
    pub clause_kept : IsOverBits a.subject.system clause × HasNoOpposites clause → IsKeptAt a (a_clause i clause)
    clause_kept h = record { all = each }
      where
        each : (r : Rule) → Kept (a_clause i clause) r
        each foreign_literal = h
        each _ = tt

    pub clause_broken : (IsOverBits a.subject.system clause × HasNoOpposites clause → ⊥) → IsBrokenAt a (a_clause i clause) 8
    clause_broken h = record { rule = foreign_literal; has_number = refl; first = record { broken = h; smaller = less } }
      where
        less : (r : Rule) → number_of r < 8 → Kept (a_clause i clause) r
        less foreign_literal l = absurd (omega (arith, l))
        less _ l = tt

  -- A step.
  module _ (part : Part) (i : ℕ) (s : Step) where
    pub step_kept : HasLiterals a.subject a.certificate part s → HasGoodHints a.subject a.certificate part i s → HasConflict a.subject a.certificate part i s → IsKeptAt a (a_step part i s)
    step_kept h g f = record { all = each }
      where
        each : (r : Rule) → Kept (a_step part i s) r
        each foreign_literal = h
        each bad_hint = g
        each no_conflict = f
        each _ = tt

    pub literals_broken : (HasLiterals a.subject a.certificate part s → ⊥) → IsBrokenAt a (a_step part i s) 8
    literals_broken h = record { rule = foreign_literal; has_number = refl; first = record { broken = h; smaller = less } }
      where
        less : (r : Rule) → number_of r < 8 → Kept (a_step part i s) r
        less foreign_literal l = absurd (omega (arith, l))
        less bad_hint l = absurd (omega (arith, l))
        less no_conflict l = absurd (omega (arith, l))
        less _ l = tt

    pub hints_broken : HasLiterals a.subject a.certificate part s → (HasGoodHints a.subject a.certificate part i s → ⊥) → IsBrokenAt a (a_step part i s) 9
    hints_broken h g = record { rule = bad_hint; has_number = refl; first = record { broken = g; smaller = less } }
      where
        less : (r : Rule) → number_of r < 9 → Kept (a_step part i s) r
        less foreign_literal l = h
        less bad_hint l = absurd (omega (arith, l))
        less no_conflict l = absurd (omega (arith, l))
        less _ l = tt

    pub conflict_broken : HasLiterals a.subject a.certificate part s → HasGoodHints a.subject a.certificate part i s → (HasConflict a.subject a.certificate part i s → ⊥) → IsBrokenAt a (a_step part i s) 10
    conflict_broken h g f = record { rule = no_conflict; has_number = refl; first = record { broken = f; smaller = less } }
      where
        less : (r : Rule) → number_of r < 10 → Kept (a_step part i s) r
        less foreign_literal l = h
        less bad_hint l = g
        less no_conflict l = absurd (omega (arith, l))
        less _ l = tt

  -- The end of a derivation.
  module _ (part : Part) where
    pub end_kept : IsCovered a.subject a.certificate part → IsKeptAt a (an_end part)
    end_kept h = record { all = each }
      where
        each : (r : Rule) → Kept (an_end part) r
        each not_covered = h
        each _ = tt

    pub end_broken : (IsCovered a.subject a.certificate part → ⊥) → IsBrokenAt a (an_end part) 11
    end_broken h = record { rule = not_covered; has_number = refl; first = record { broken = h; smaller = less } }
      where
        less : (r : Rule) → number_of r < 11 → Kept (an_end part) r
        less not_covered l = absurd (omega (arith, l))
        less _ l = tt

-- Where every clause keeps the rules, all are over the state bits now.
pub over_bits : (a : Matter) (i : ℕ) (clauses : List (List Literal)) → AreKept a (clause_sites i clauses) → All (IsOverBits a.subject.system) clauses
over_bits a i [] k = All-nil (IsOverBits a.subject.system)
over_bits a i (clause ∷ clauses) k = All-cons (IsOverBits a.subject.system) clause clauses (k.each.0 foreign_literal).0 (over_bits a (suc i) clauses (record { each = k.each.1 }))

-- What moments find is what their text finds.
pub moments_found : (a : Matter) (k : ℕ) (set : List ℕ) (text : List Line) → IsPrintable a.model → (t : List (List Value)) → GivesTrace a.model text t → (o : Option ℕ) → FindsMoments a set t o → FindsAt a (a_trace k set text) o
moments_found a k set text printable t gives None h = trace_kept a k set text printable t gives h
moments_found a k set text printable t gives (Some n) h = trace_broken a k set text printable t gives n h
