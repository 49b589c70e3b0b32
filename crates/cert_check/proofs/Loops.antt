-- What is found in the rest of a part's sites is found in all of them, site after site.
use Rattle.std.proofs.Common.{◌≡◌, ℕ, ◌+◌, ◌≤◌, List, [], ◌∷◌, length, drop, Some, sym, ap, subst, ◌∙◌}
use Rattle.std.specs.Prelude.{slice_get}
use Rattle.std.proofs.lemmas.List.{drop_all}
use Rattle.cut_text_laws.specs.Lines.{Line}
use Rattle.sat_clauses.specs.Literal.{Literal}
use Rattle.sat_clauses.specs.declared.step.Step.{Step}
use Rattle.cert_laws.specs.Certificate.{Part, Site, a_set, a_trace, a_clause, a_step, an_end, line_of}
use Rattle.cert_laws.specs.Sites.{set_sites, clause_sites, step_sites}
use Rattle.cert_check.specs.Matter.{Matter}
use Rattle.cert_check.specs.SiteFindings.{IsKeptAt, IsBrokenAt, AreKept, IsFirstBroken, Finds, GoesOn}
use Rattle.cert_check.specs.declared.judged.Judged.TheVariants.{Yes, No}
use Rattle.cert_check.proofs.Finding.{kept_none, kept_then, broken_here, kept_both, broken_front}
use Rattle.base_values.proofs.ListLaws.{drop_there}
use Rattle.std.proofs.Math.Numerals.{suc-eq-add-one}

module _ (a : Matter) where
  pub goes_itself : (xs : List Site) → GoesOn a xs xs
  goes_itself xs = record { on = λ j f. f }

  pub goes_kept : (site : Site) (rest all : List Site) → GoesOn a (site ∷ rest) all → IsKeptAt a site → GoesOn a rest all
  goes_kept site rest all g k = record { on = λ j f. g.on j (kept_then a site rest k j f) }

  pub goes_broken : (site : Site) (rest all : List Site) (line number : ℕ) → GoesOn a (site ∷ rest) all → line_of a.certificate site ≡ line → IsBrokenAt a site number → Finds a all (No line number)
  goes_broken site rest all line number g e b = g.on (No line number) (broken_here a site rest line number e b)

  pub goes_over : (rest all : List Site) → rest ≡ [] → GoesOn a rest all → Finds a all Yes
  goes_over rest all e g = g.on Yes (subst (AreKept a) (sym e) (kept_none a))

  -- Sets with their traces.
  set_next : (k : ℕ) (sets : List (List ℕ)) (texts : List (List Line)) (set : List ℕ) (text : List Line) → slice_get sets k ≡ Some set → slice_get texts k ≡ Some text →
      set_sites k (drop k sets) (drop k texts) ≡ a_set k set ∷ a_trace k set text ∷ set_sites (k + 1) (drop (k + 1) sets) (drop (k + 1) texts)
  set_next k sets texts set text e f =
      ap (λ xs. set_sites k xs (drop k texts)) (drop_there sets k set e) ∙ ap (set_sites k (set ∷ drop (k + 1) sets)) (drop_there texts k text f)
      ∙ ap (λ n. a_set k set ∷ a_trace k set text ∷ set_sites n (drop (k + 1) sets) (drop (k + 1) texts)) (suc-eq-add-one k)

  pub set_goes_on : (k : ℕ) (sets : List (List ℕ)) (texts : List (List Line)) (set : List ℕ) (text : List Line) (all : List Site) → slice_get sets k ≡ Some set → slice_get texts k ≡ Some text →
      GoesOn a (set_sites k (drop k sets) (drop k texts)) all → AreKept a (a_set k set ∷ a_trace k set text ∷ []) → GoesOn a (set_sites (k + 1) (drop (k + 1) sets) (drop (k + 1) texts)) all
  set_goes_on k sets texts set text all e f g kept =
      let rest = set_sites (k + 1) (drop (k + 1) sets) (drop (k + 1) texts) in
      record { on = λ j found. g.on j (subst (λ xs. Finds a xs j) (sym (set_next k sets texts set text e f)) (kept_both a (a_set k set ∷ a_trace k set text ∷ []) rest kept j found)) }

  pub set_ends : (k : ℕ) (sets : List (List ℕ)) (texts : List (List Line)) (set : List ℕ) (text : List Line) (all : List Site) (line number : ℕ) → slice_get sets k ≡ Some set → slice_get texts k ≡ Some text →
      GoesOn a (set_sites k (drop k sets) (drop k texts)) all → IsFirstBroken a (a_set k set ∷ a_trace k set text ∷ []) line number → Finds a all (No line number)
  set_ends k sets texts set text all line number e f g b =
      let rest = set_sites (k + 1) (drop (k + 1) sets) (drop (k + 1) texts) in
      g.on (No line number) (subst (λ xs. IsFirstBroken a xs line number) (sym (set_next k sets texts set text e f)) (broken_front a (a_set k set ∷ a_trace k set text ∷ []) rest line number b))

  pub sets_over : (k : ℕ) (sets : List (List ℕ)) (texts : List (List Line)) (all : List Site) → length sets ≤ k → GoesOn a (set_sites k (drop k sets) (drop k texts)) all → Finds a all Yes
  sets_over k sets texts all l g = goes_over (set_sites k (drop k sets) (drop k texts)) all (ap (λ xs. set_sites k xs (drop k texts)) (drop_all k sets l)) g

  -- Clauses.
  clause_next : (i : ℕ) (clauses : List (List Literal)) (clause : List Literal) → slice_get clauses i ≡ Some clause →
      clause_sites i (drop i clauses) ≡ a_clause i clause ∷ clause_sites (i + 1) (drop (i + 1) clauses)
  clause_next i clauses clause e = ap (clause_sites i) (drop_there clauses i clause e) ∙ ap (λ n. a_clause i clause ∷ clause_sites n (drop (i + 1) clauses)) (suc-eq-add-one i)

  pub clause_goes_on : (i : ℕ) (clauses : List (List Literal)) (clause : List Literal) (all : List Site) → slice_get clauses i ≡ Some clause →
      GoesOn a (clause_sites i (drop i clauses)) all → IsKeptAt a (a_clause i clause) → GoesOn a (clause_sites (i + 1) (drop (i + 1) clauses)) all
  clause_goes_on i clauses clause all e g k =
      goes_kept (a_clause i clause) (clause_sites (i + 1) (drop (i + 1) clauses)) all (subst (λ xs. GoesOn a xs all) (clause_next i clauses clause e) g) k

  pub clause_ends : (i : ℕ) (clauses : List (List Literal)) (clause : List Literal) (all : List Site) (line number : ℕ) → slice_get clauses i ≡ Some clause →
      GoesOn a (clause_sites i (drop i clauses)) all → line_of a.certificate (a_clause i clause) ≡ line → IsBrokenAt a (a_clause i clause) number → Finds a all (No line number)
  clause_ends i clauses clause all line number e g at b =
      goes_broken (a_clause i clause) (clause_sites (i + 1) (drop (i + 1) clauses)) all line number (subst (λ xs. GoesOn a xs all) (clause_next i clauses clause e) g) at b

  pub clauses_over : (i : ℕ) (clauses : List (List Literal)) (all : List Site) → length clauses ≤ i → GoesOn a (clause_sites i (drop i clauses)) all → Finds a all Yes
  clauses_over i clauses all l g = goes_over (clause_sites i (drop i clauses)) all (ap (clause_sites i) (drop_all i clauses l)) g

  -- Steps.
  step_next : (part : Part) (i : ℕ) (steps : List Step) (s : Step) → slice_get steps i ≡ Some s → step_sites part i (drop i steps) ≡ a_step part i s ∷ step_sites part (i + 1) (drop (i + 1) steps)
  step_next part i steps s e = ap (step_sites part i) (drop_there steps i s e) ∙ ap (λ n. a_step part i s ∷ step_sites part n (drop (i + 1) steps)) (suc-eq-add-one i)

  pub step_goes_on : (part : Part) (i : ℕ) (steps : List Step) (s : Step) (all : List Site) → slice_get steps i ≡ Some s → GoesOn a (step_sites part i (drop i steps)) all → IsKeptAt a (a_step part i s) →
      GoesOn a (step_sites part (i + 1) (drop (i + 1) steps)) all
  step_goes_on part i steps s all e g k = goes_kept (a_step part i s) (step_sites part (i + 1) (drop (i + 1) steps)) all (subst (λ xs. GoesOn a xs all) (step_next part i steps s e) g) k

  pub step_ends : (part : Part) (i : ℕ) (steps : List Step) (s : Step) (all : List Site) (line number : ℕ) → slice_get steps i ≡ Some s → GoesOn a (step_sites part i (drop i steps)) all →
      line_of a.certificate (a_step part i s) ≡ line → IsBrokenAt a (a_step part i s) number → Finds a all (No line number)
  step_ends part i steps s all line number e g at b =
      goes_broken (a_step part i s) (step_sites part (i + 1) (drop (i + 1) steps)) all line number (subst (λ xs. GoesOn a xs all) (step_next part i steps s e) g) at b

  pub steps_over : (part : Part) (i : ℕ) (steps : List Step) (all : List Site) → length steps ≤ i → GoesOn a (step_sites part i (drop i steps)) all → GoesOn a (an_end part ∷ []) all
  steps_over part i steps all l g = subst (λ xs. GoesOn a xs all) (ap (step_sites part i) (drop_all i steps l)) g
