-- What is answered of a certificate that may list no set.
use Rattle.std.proofs.Common.{◌≡◌, ◌≢◌, inl, inr, ℕ, zero, suc, ◌+◌, ◌<◌, ◌≤◌, List, [], ◌∷◌, ◌++◌, length, take, Some, refl, sym, ap, ◌∙◌, subst, arith}
use Rattle.std.specs.Prelude.{slice_get}
use Rattle.std.proofs.lemmas.List.Sums.{sum_by-cons}
use Rattle.cut_text_laws.specs.Lines.{Line}
use Rattle.smv_language.specs.Values.{Value}
use Rattle.smv_flat_laws.specs.FlatTrace.{IsFlatTrace}
use Rattle.sat_encoding_laws.specs.FlatTraces.{ReachesTop, HasFailedNumber}
use Rattle.cut_text_laws.specs.TraceOfText.{GivesTrace}
use Rattle.cert_laws.specs.Certificate.{head_line, Part, part_first, part_next, part_bad, Site, the_numbers, a_set, a_trace, a_clause, a_step, an_end, lines_of_sets, line_of, IsSite}
use Rattle.cert_laws.specs.Acceptance.{Rule, HasNumbers, Keeps}
use Rattle.cert_laws.specs.Sites.{set_sites, sites_of}
use Rattle.cert_check.specs.QuestionMatter.{proof_sites}
use Rattle.cert_check.specs.Matter.{Matter, KeepsAllIn}
use Rattle.cert_check.specs.SiteFindings.{IsKeptAt, IsBrokenAt, Finds, IsObjectionOf, FindsUnlisted, one_before, none_before, of_another, of_its_set, IsJudged, IsJudgedUnlisted}
use Rattle.cert_check.specs.declared.judged.Judged.{Judged}
use Rattle.cert_check.specs.declared.judged.Judged.TheVariants.{Yes, No}
use Rattle.cert_check.proofs.Finding.{kept_then, broken_here, judged_of_all}
use Rattle.cert_check.proofs.SiteLaws.{numbers_kept, numbers_broken}

some_lines : (text : List Line) (texts : List (List Line)) → 2 ≤ lines_of_sets (text ∷ texts)
some_lines text texts = let e = sum_by-cons (λ (t : List Line). length t + 2) text texts in omega (arith, e)

module _ (a : Matter) (one_each : length a.certificate.traces ≡ length a.certificate.sets) where
  -- the numbers are other ones
  pub unlisted_numbers : (HasNumbers a.subject a.certificate → ⊥) → IsJudgedUnlisted a (No 2 1)
  unlisted_numbers none =
      of_another 2 1
      (judged_of_all a one_each (No 2 1) (broken_here a the_numbers (set_sites 0 a.certificate.sets a.certificate.traces ++ proof_sites a.certificate) 2 1 refl (numbers_broken a none)))
      (inr (omega arith))

  -- no set is listed
  pub unlisted_none : a.certificate.sets ≡ [] → HasNumbers a.subject a.certificate → (j : Judged) → Finds a (proof_sites a.certificate) j → IsJudgedUnlisted a j
  unlisted_none empty numbers j found = by j (judged_of_all a one_each j (kept_then a the_numbers (set_sites 0 a.certificate.sets a.certificate.traces ++ proof_sites a.certificate) (numbers_kept a numbers) j all))
    where
      all : Finds a (set_sites 0 a.certificate.sets a.certificate.traces ++ proof_sites a.certificate) j
      all = subst (λ sets. Finds a (set_sites 0 sets a.certificate.traces ++ proof_sites a.certificate) j) (sym empty) found

      by : (k : Judged) → IsJudged a k → IsJudgedUnlisted a k
      by Yes h = (h, empty)
      by (No line number) h = of_another line number h (inl empty)

  module _ (set : List ℕ) (is : slice_get a.certificate.sets 0 ≡ Some set) (numbers : HasNumbers a.subject a.certificate) where
    record Front : Type 0 where
      text : List Line
      texts : List (List Line)
      sets : List (List ℕ)
      are_sets : a.certificate.sets ≡ set ∷ sets
      are_texts : a.certificate.traces ≡ text ∷ texts

    front : Front
    front = by a.certificate.sets a.certificate.traces refl refl is one_each
      where
        by : (sets : List (List ℕ)) (texts : List (List Line)) → a.certificate.sets ≡ sets → a.certificate.traces ≡ texts → slice_get sets 0 ≡ Some set → length texts ≡ length sets → Front
        by [] texts es et e l = cc
        by (s ∷ sets) [] es et e l = cc
        by (s ∷ sets) (t ∷ texts) es et e l =
            let same : s ≡ set = cc in
            record { text = t; texts = texts; sets = sets; are_sets = es ∙ ap (λ x. x ∷ sets) same; are_texts = et }

    nonempty : a.certificate.sets ≢ []
    nonempty e = let f = front.are_sets in cc

    sites : Front → List Site
    sites f = a_trace 0 set f.text ∷ (set_sites 1 f.sets f.texts ++ proof_sites a.certificate)

    -- a rule is broken at the first set
    by_a_rule : (number : ℕ) → IsBrokenAt a (a_set 0 set) number → IsJudgedUnlisted a (No 4 number)
    unfolding sites
    by_a_rule number broken = of_another 4 number (judged_of_all a one_each (No 4 number) found) (inr (omega arith))
      where
        at_line : line_of a.certificate (a_set 0 set) ≡ 4
        at_line = refl

        here : Finds a (the_numbers ∷ a_set 0 set ∷ sites front) (No 4 number)
        here = kept_then a the_numbers (a_set 0 set ∷ sites front) (numbers_kept a numbers) (No 4 number) (broken_here a (a_set 0 set) (sites front) 4 number at_line broken)

        found : Finds a (sites_of a.certificate) (No 4 number)
        found =
            subst (λ sets. Finds a (the_numbers ∷ (set_sites 0 sets a.certificate.traces ++ proof_sites a.certificate)) (No 4 number)) (sym front.are_sets)
            (subst (λ texts. Finds a (the_numbers ∷ (set_sites 0 (set ∷ front.sets) texts ++ proof_sites a.certificate)) (No 4 number)) (sym front.are_texts) here)

    -- all rules are kept there: what else is broken stands at a later line
    later : IsKeptAt a (a_set 0 set) → (line number : ℕ) → IsObjectionOf a line number → 4 < line
    later kept line number h = subst (λ n. 4 < n) h.objection.broken.at_line (by h.objection.broken.site h.rule h.objection.broken.is_site h.objection.broken.broken)
      where
        head : (part : Part) → 4 ≤ head_line a.certificate part
        head part_first = omega arith
        head part_next = omega arith
        head part_bad = omega arith

        by : (site : Site) (rule : Rule) → IsSite a.certificate site → (Keeps (List (List Value)) (GivesTrace a.model) (IsFlatTrace a.model) (ReachesTop a.model a.top) (HasFailedNumber a.model a.modes) a.subject a.certificate site rule → ⊥) → 4 < line_of a.certificate site
        by the_numbers rule s broken = absurd (broken ((numbers_kept a numbers).all rule))
        by (a_set zero other) rule s broken =
            let same : set ≡ other = let e : Some set ≡ Some other = sym is ∙ s in cc in
            absurd (broken (subst (λ x. KeepsAllIn a (a_set 0 x)) same kept.all rule))
        by (a_set (suc k) other) rule s broken =
            let some = some_lines front.text (take k front.texts) in
            subst (λ texts. 4 < 4 + lines_of_sets (take (suc k) texts)) (sym front.are_texts) (omega (arith, some))
        by (a_trace k other text) rule s broken = omega arith
        by (a_clause i clause) rule s broken = omega arith
        by (a_step part i step) rule s broken = let h = head part in omega (arith, h)
        by (an_end part) rule s broken = let h = head part in omega (arith, h)

    -- a set is listed
    pub unlisted_some : (number : ℕ) → FindsUnlisted a (a_set 0 set) number → IsJudgedUnlisted a (No 4 number)
    unlisted_some number (one_before n broken) = by_a_rule n broken
    unlisted_some number (none_before kept) = of_its_set nonempty (later kept)
