-- Each certificate is accepted or has an objection.
use Rattle.std.proofs.Common.{◌≡◌, ◌⊎◌, inl, inr, ℕ, zero, suc, ◌<◌, List, [], ◌∷◌, ◌++◌, Option, Some, None, refl, sym, ◌∙◌, ap, subst, arith}
use Rattle.std.specs.Prelude.{slice_get}
use Rattle.std.specs.List.{AllByRecursion}
use Rattle.std.proofs.lemmas.Bool.{cases_eq}
use Rattle.sat_clauses.specs.Literal.{Literal}
use Rattle.sat_clauses.specs.declared.step.Step.{Step}
use Rattle.cert_laws.specs.Certificate.{Certificate, Part, Site, the_numbers, a_set, a_trace, a_clause, a_step, an_end, line_of}
use Rattle.cut_text_laws.specs.Lines.{Line}
use Rattle.cert_laws.specs.Acceptance.{Subject, Rule, other_numbers, no_set, contains_a_set, no_text, no_trace, does_not_reach, other_faults, foreign_literal, bad_hint, no_conflict, not_covered, number_of, KeepsAtTrace, Keeps, IsAccepted, IsObjection}
use Rattle.cert_laws.specs.Sites.{sites_of, KeepsAll, BreaksFirst}
use Rattle.cert_laws.specs.Judgement.{IsSettled, EachIsJudged}
use Rattle.cert_laws.proofs.Objections.{numbered, found, same_rule}
use Rattle.cert_laws.proofs.Settled.{numbers_settled, set_settled, apart_settled, literals_of_step, clause_settled, hints_settled, covered_settled}
use Rattle.cert_laws.proofs.Sites.{first_broken}

-- each rule has a number below twelve
low : (r : Rule) → number_of r < 12
low other_numbers = omega arith
low no_set = omega arith
low contains_a_set = omega arith
low no_text = omega arith
low no_trace = omega arith
low does_not_reach = omega arith
low other_faults = omega arith
low foreign_literal = omega arith
low bad_hint = omega arith
low no_conflict = omega arith
low not_covered = omega arith

-- the rule of a number, where there is one
rule_of : (n : ℕ) → ((r : Rule) × (number_of r ≡ n)) ⊎ ((r : Rule) → number_of r ≡ n → ⊥)
rule_of n = by_place (slice_get numbered n) refl
  where
    nothing : (r : Rule) → None ≡ Some r → ⊥
    nothing r e = cc

    same : (r q : Rule) → Some r ≡ Some q → r ≡ q
    same r q e = cc

    by_place : (o : Option Rule) → slice_get numbered n ≡ o → ((r : Rule) × (number_of r ≡ n)) ⊎ ((r : Rule) → number_of r ≡ n → ⊥)
    by_place None e = inr (λ r h. nothing r (sym e ∙ ap (slice_get numbered) (sym h) ∙ found r))
    by_place (Some q) e = by_number (cases_eq (number_of q) n)
      where
        by_number : (number_of q ≡ n) ⊎ (number_of q ≡ n → ⊥) → ((r : Rule) × (number_of r ≡ n)) ⊎ ((r : Rule) → number_of r ≡ n → ⊥)
        by_number (inl h) = inl (q, h)
        by_number (inr h) = inr (λ r f. h (ap number_of (same q r (sym e ∙ ap (slice_get numbered) (sym f) ∙ found r)) ∙ f))

module _ (T : Type 0) (reads : List Line → T → Type 0) (is_trace reaches : T → Type 0) (has_failed : T → ℕ → Type 0) (subject : Subject) (c : Certificate)
    (texts : (set : List ℕ) (text : List Line) (rule : Rule) → IsSettled (KeepsAtTrace T reads is_trace reaches has_failed subject c set text rule)) where
  abbrev Kept : Site → Rule → Type 0
  Kept x r = Keeps T reads is_trace reaches has_failed subject c x r

  at_numbers : (r : Rule) → IsSettled (Kept the_numbers r)
  at_numbers other_numbers = numbers_settled subject c
  at_numbers _ = inl tt

  at_set : (k : ℕ) (set : List ℕ) (r : Rule) → IsSettled (Kept (a_set k set) r)
  at_set k set no_set = set_settled subject c k set
  at_set k set contains_a_set = apart_settled subject c k set
  at_set k set _ = inl tt

  at_clause : (i : ℕ) (clause : List Literal) (r : Rule) → IsSettled (Kept (a_clause i clause) r)
  at_clause i clause foreign_literal = clause_settled subject c clause
  at_clause i clause _ = inl tt

  at_step : (part : Part) (i : ℕ) (s : Step) (r : Rule) → IsSettled (Kept (a_step part i s) r)
  at_step part i s foreign_literal = literals_of_step subject c part s
  at_step part i s bad_hint = (hints_settled subject c part i s).0
  at_step part i s no_conflict = (hints_settled subject c part i s).1
  at_step part i s _ = inl tt

  at_end : (part : Part) (r : Rule) → IsSettled (Kept (an_end part) r)
  at_end part not_covered = covered_settled subject c part
  at_end part _ = inl tt

  at_site : (x : Site) (r : Rule) → IsSettled (Kept x r)
  at_site the_numbers r = at_numbers r
  at_site (a_set k set) r = at_set k set r
  at_site (a_trace k set text) r = texts set text r
  at_site (a_clause i clause) r = at_clause i clause r
  at_site (a_step part i s) r = at_step part i s r
  at_site (an_end part) r = at_end part r

  abbrev Broken : Site → Type 0
  Broken x = (r : Rule) × BreaksFirst T reads is_trace reaches has_failed subject c x r

  -- the rules below a number are kept, or one is the first broken
  below : (x : Site) (n : ℕ) → ((r : Rule) → number_of r < n → Kept x r) ⊎ Broken x
  below x zero = inl (λ r h. absurd (omega (arith, h)))
  below x (suc n) = by_before (below x n) (rule_of n)
    where
      by_rule : ((r : Rule) → number_of r < n → Kept x r) → (q : Rule) → number_of q ≡ n → IsSettled (Kept x q) → ((r : Rule) → number_of r < suc n → Kept x r) ⊎ Broken x
      by_rule kept q e (inl k) = inl (λ r h. by_number r h (cases_eq (number_of r) n))
        where
          strict : (m : ℕ) → (m ≡ n → ⊥) → m < suc n → m < n
          strict m d h = grind (arith, d, h)

          by_number : (r : Rule) → number_of r < suc n → (number_of r ≡ n) ⊎ (number_of r ≡ n → ⊥) → Kept x r
          by_number r h (inl f) = subst (Kept x) (same_rule q r (e ∙ sym f)) k
          by_number r h (inr d) = kept r (strict (number_of r) d h)
      by_rule kept q e (inr b) = inr (q, record { broken = b; smaller = λ r h. kept r (subst (λ m. number_of r < m) e h) })

      by_before : ((r : Rule) → number_of r < n → Kept x r) ⊎ Broken x → ((r : Rule) × (number_of r ≡ n)) ⊎ ((r : Rule) → number_of r ≡ n → ⊥) → ((r : Rule) → number_of r < suc n → Kept x r) ⊎ Broken x
      by_before (inr b) s = inr b
      by_before (inl kept) (inl q) = by_rule kept q.0 q.1 (at_site x q.0)
      by_before (inl kept) (inr none) = inl (λ r h. kept r (strict (number_of r) (none r) h))
        where
          strict : (m : ℕ) → (m ≡ n → ⊥) → m < suc n → m < n
          strict m d h = grind (arith, d, h)

  judged_at : (x : Site) → KeepsAll T reads is_trace reaches has_failed subject c x ⊎ Broken x
  judged_at x = by_all (below x 12)
    where
      by_all : ((r : Rule) → number_of r < 12 → Kept x r) ⊎ Broken x → KeepsAll T reads is_trace reaches has_failed subject c x ⊎ Broken x
      by_all (inl kept) = inl (λ r. kept r (low r))
      by_all (inr b) = inr b

  -- a first site at which a rule is broken
  record FirstOf (xs : List Site) : Type 0 where
    pub before : List Site
    pub site : Site
    pub after : List Site
    pub rule : Rule
    pub is : xs ≡ before ++ site ∷ after
    pub kept : AllByRecursion (KeepsAll T reads is_trace reaches has_failed subject c) before
    pub first : BreaksFirst T reads is_trace reaches has_failed subject c site rule

  judged_all : (xs : List Site) → AllByRecursion (KeepsAll T reads is_trace reaches has_failed subject c) xs ⊎ FirstOf xs
  judged_all [] = inl tt
  judged_all (x ∷ xs) = by_site (judged_at x) (judged_all xs)
    where
      by_site : KeepsAll T reads is_trace reaches has_failed subject c x ⊎ Broken x → AllByRecursion (KeepsAll T reads is_trace reaches has_failed subject c) xs ⊎ FirstOf xs →
          AllByRecursion (KeepsAll T reads is_trace reaches has_failed subject c) (x ∷ xs) ⊎ FirstOf (x ∷ xs)
      by_site (inr b) s = inr (record { before = []; site = x; after = xs; rule = b.0; is = refl; kept = tt; first = b.1 })
      by_site (inl k) (inl ks) = inl (k, ks)
      by_site (inl k) (inr f) = inr (record { before = x ∷ f.before; site = f.site; after = f.after; rule = f.rule; is = ap (λ ys. x ∷ ys) f.is; kept = (k, f.kept); first = f.first })

module _ (T : Type 0) (reads : List Line → T → Type 0) (is_trace reaches : T → Type 0) (has_failed : T → ℕ → Type 0) where
  pub each_judged : EachIsJudged T reads is_trace reaches has_failed
  each_judged subject c one_each texts = by_sites (judged_all T reads is_trace reaches has_failed subject c texts (sites_of c))
    where
      by_sites : AllByRecursion (KeepsAll T reads is_trace reaches has_failed subject c) (sites_of c) ⊎ FirstOf T reads is_trace reaches has_failed subject c texts (sites_of c) →
          IsAccepted T reads is_trace reaches has_failed subject c ⊎ ((line : ℕ) × (rule : Rule) × IsObjection T reads is_trace reaches has_failed subject c line rule)
      by_sites (inl kept) = inl ((first_broken T reads is_trace reaches has_failed subject c one_each).0 kept)
      by_sites (inr f) = inr (line_of c f.site, f.rule, (first_broken T reads is_trace reaches has_failed subject c one_each).1 f.before f.after f.site f.rule f.is f.kept f.first)
