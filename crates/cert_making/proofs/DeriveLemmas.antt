-- A derivation of one part, goal by goal, and that it can be written.
use Rattle.std.proofs.Common.{◌≡◌, ◌≢◌, ◌⊎◌, inl, inr, ℕ, zero, suc, nat_lt, ◌+◌, ◌-◌, ◌≤◌, ◌<◌, ◌^◌, Bool, true, false, nat_eq, eq-eqb, List, [], ◌∷◌, ◌++◌, length, take, get_or, max, Option, Some, None, refl, sym, ◌∙◌, ap, subst, arith, append_assoc, length-append}
use Rattle.std.specs.Prelude.{All, Any, Contains, slice_get, slice_index_or, map, replicate, if◌then◌else◌}
use Rattle.std.specs.Option.{option_map}
use Rattle.std.specs.List.{AllByRecursion}
use Rattle.std.proofs.lemmas.Bool.{cases_eq}
use Rattle.std.proofs.lemmas.List.{append-nil, replicate-append-replicate, take_more, take_all}
use Rattle.std.proofs.lemmas.List.Elements.{recursion_from_All, All-contains, Contains-push_cases}
use Rattle.std.proofs.lemmas.List.Folds.{Any-from_list_any, list_any-from_Any}
use Rattle.std.proofs.lemmas.Option.{same_Some, slice_get_within, get_or_from_slice_get}
use Rattle.sat_clauses.specs.Literal.{Literal, opposite}
use Rattle.sat_clauses.specs.Assignment.{Assignment, made_true}
use Rattle.sat_clauses.specs.Models.{FollowsFrom, literal_value}
use Rattle.sat_clauses.specs.Truth.{truth_of}
use Rattle.sat_clauses.specs.declared.clause.Truth.{Truth}
use Rattle.sat_clauses.specs.declared.clause.Truth.TheVariants.{False, Unit as UnitClause}
use Rattle.sat_clauses.specs.Derivation.{IsUpTo}
use Rattle.sat_clauses.specs.Hints.{HasNoOpposites, LeadsTo, EndsFalse, truth_at, assumed_false}
use Rattle.sat_clauses.specs.Steps.{AreSteps, with_steps}
use Rattle.sat_clauses.specs.declared.step.Step.{Step}
use Rattle.sat_solver.specs.Search.{CanSolve}
use Rattle.sat_solver.specs.KeptRecord.{KeptValue}
use Rattle.sat_solver.specs.LearnedClauses.{added_of, HasLearned, IsAnswer}
use Rattle.sat_solver.specs.declared.solve.Verdict.{Verdict}
use Rattle.sat_solver.specs.declared.solve.Verdict.TheVariants.{Sat, Unsat}
use Rattle.sat_clauses.proofs.FalseLemmas.{All-slice_get, opposite-opposite}
use Rattle.sat_clauses.proofs.ModelLemmas.{All-from_Satisfies}
use Rattle.sat_solver.proofs.KeptLemmas.{length_with_steps}
use Rattle.cert_laws.specs.Acceptance.{highest_in, highest, Covers}
use Rattle.cert_laws.specs.CertificateText.{IsCount, IsLiteral, IsHint, IsWritableStep, AreWritable}
use Rattle.cert_laws.specs.Derivations.{asked, MayBeAsked, IsContinued}
use Rattle.cert_laws.proofs.Asked.{derivations_go_on}
use Rattle.cert_laws.proofs.Steps.{with_joined, with_more}
use Rattle.cert_making.specs.Queries.{IsSoFar}
use Rattle.cert_making.specs.PartDerivations.{IsPartWay, HasPositive}
use Rattle.cert_making.proofs.Queries.{clauses_bounded, steps_bounded}
use Rattle.cert_laws.proofs.Highest.{at_least_one, at_least_one_of}

pub begins_highest_in : (c : List Literal) → max 1 (highest_in c) ≡ highest_in c
begins_highest_in c = let h : 1 ≤ highest_in c = at_least_one c in omega (arith, h)

pub begins_highest : (cs : List (List Literal)) → max 1 (highest cs) ≡ highest cs
begins_highest cs = let h : 1 ≤ highest cs = at_least_one_of cs in omega (arith, h)

pub ends_highest : (most whole : ℕ) → 1 ≤ most → max most 1 ≡ whole → most ≡ whole
ends_highest most whole low e = omega (arith, low, e)

-- What was added to a search that has learned steps since.
none_added : (ds : List (List Literal)) → added_of ds (replicate (length ds) true) ≡ []
none_added [] = refl
none_added (d ∷ ds) = none_added ds

first_added : (cs ds : List (List Literal)) → added_of (cs ++ ds) (replicate (length cs) false ++ replicate (length ds) true) ≡ cs
first_added [] ds = none_added ds
first_added (c ∷ cs) ds = ap (λ xs. c ∷ xs) (first_added cs ds)

abbrev clauses_of : List Step → List (List Literal)
clauses_of steps = map (λ (s : Step). s.clause) steps

length_clauses : (steps : List Step) → length (clauses_of steps) ≡ length steps
length_clauses [] = refl
length_clauses (s ∷ ss) = ap suc (length_clauses ss)

added_are : (givens : List (List Literal)) (steps : List Step) → added_of (with_steps givens steps) (replicate (length givens) false ++ replicate (length steps) true) ≡ givens
added_are givens steps =
    ap (λ cs. added_of cs (replicate (length givens) false ++ replicate (length steps) true)) (with_more givens steps)
    ∙ ap (λ n. added_of (givens ++ clauses_of steps) (replicate (length givens) false ++ replicate n true)) (sym (length_clauses steps))
    ∙ first_added givens (clauses_of steps)

marks_more : (givens : List (List Literal)) (done more : List Step) →
    (replicate (length givens) false ++ replicate (length done) true) ++ replicate (length more) true ≡ replicate (length givens) false ++ replicate (length (done ++ more)) true
marks_more givens done more =
    append_assoc (replicate (length givens) false) (replicate (length done) true) (replicate (length more) true)
    ∙ ap (λ ms. replicate (length givens) false ++ ms) (replicate-append-replicate (length done) (length more) true ∙ ap (λ n. replicate n true) (sym (length-append done more)))

-- What is asked of a goal may be asked, whether it follows or not.
follows_itself : (goal : List Literal) → FollowsFrom (goal ∷ []) goal
follows_itself goal v model = (All-from_Satisfies v (goal ∷ []) model) 0 [] (omega arith)

may_be_asked : (vars : ℕ) (goal : List Literal) → HasNoOpposites goal → MayBeAsked vars goal
may_be_asked vars goal apart = (derivations_go_on vars (goal ∷ []) [] goal tt apart (follows_itself goal)).0

-- A literal whose opposite is asked is one of the goal, so where a core of such literals follows the goal does.
in_goal : (vars : ℕ) (c : List Literal) (l : Literal) → Contains (asked vars c) (opposite l) → Contains c l
in_goal vars [] l m = absurd (omega (arith, m.1))
in_goal vars (k ∷ ks) l m = by_test (nat_lt vars k.var) m (λ n. in_goal vars ks l n)
  where
    behind : Contains ks l → Contains (k ∷ ks) l
    behind n = (suc n.0, omega (arith, n.1), n.2)

    by_place : (i : ℕ) → i < length (opposite k ∷ asked vars ks) → slice_index_or (opposite k ∷ asked vars ks) i (opposite l) ≡ opposite l →
        (Contains (asked vars ks) (opposite l) → Contains ks l) → Contains (k ∷ ks) l
    by_place zero h e rest = (0, omega arith, sym (opposite-opposite k) ∙ ap opposite e ∙ opposite-opposite l)
    by_place (suc i) h e rest = behind (rest (i, omega (arith, h), e))

    by_test : (b : Bool) → Contains (if b then asked vars ks else opposite k ∷ asked vars ks) (opposite l) → (Contains (asked vars ks) (opposite l) → Contains ks l) → Contains (k ∷ ks) l
    by_test true n rest = behind (rest n)
    by_test false n rest = by_place n.0 n.1 n.2 rest

goal_follows : (vars : ℕ) (givens : List (List Literal)) (goal core : List Literal) → All (λ l. Contains (asked vars goal) (opposite l)) core → FollowsFrom givens core → FollowsFrom givens goal
goal_follows vars givens goal core negated follows v model =
    let some : Any (λ l. literal_value v l ≡ true) core = Any-from_list_any (literal_value v) core (follows v model) in
    let inside : Contains goal some.1 = in_goal vars goal some.1 (All-contains (λ l. Contains (asked vars goal) (opposite l)) core some.1 negated (some.0, some.2, some.3)) in
    list_any-from_Any (literal_value v) goal (inside.0, some.1, inside.1, inside.2, some.4)

-- One goal further.
module _ (givens goals : List (List Literal)) (place : ℕ) (goal : List Literal) (search : KeptValue) (done : List Step) (low : highest givens < 2 ^ 62) (apart : All HasNoOpposites goals)
    (at : slice_get goals place ≡ Some goal) (way : IsPartWay givens search done (take place goals)) where
  pub can_be_asked : CanSolve search.vars search.clauses (asked search.vars goal)
  can_be_asked =
      subst (λ n. CanSolve n search.clauses (asked n goal)) (sym way.vars)
      (subst (λ cs. CanSolve (highest givens) cs (asked (highest givens) goal)) (sym way.clauses)
      (let may = may_be_asked (highest givens) goal (All-slice_get HasNoOpposites goals place goal at apart) in
      record {
        vars = low;
        clauses_in_range = steps_bounded (highest givens) givens done (clauses_bounded givens) way.so_far.are_steps;
        assumptions_in_range = may.in_range;
        apart = may.no_opposites;
      }))

  next_goals : take (place + 1) goals ≡ take place goals ++ goal ∷ []
  next_goals = take_more goals place goal (slice_get_within goals place goal at) ∙ ap (λ g. take place goals ++ g ∷ []) (get_or_from_slice_get goals place goal goal at)

  added : added_of search.clauses search.marks ≡ givens
  added = ap (λ cs. added_of cs search.marks) way.clauses ∙ ap (added_of (with_steps givens done)) way.marks ∙ added_are givens done

  -- of a goal that follows no assignment is found
  not_found : (new : KeptValue) (a : Assignment) → All (FollowsFrom givens) goals → IsAnswer true (highest givens) givens new.clauses (asked (highest givens) goal) (Sat a) → ⊥
  not_found new a follow is =
      (derivations_go_on (highest givens) givens [] goal tt (All-slice_get HasNoOpposites goals place goal at apart) (All-slice_get (FollowsFrom givens) goals place goal at follow)).1 a
      (record { places = is.places; clauses_true = is.clauses_true; assumptions_true = is.assumptions_true })

  -- with what was learned, a core is a refutation by it
  refuted : (new : KeptValue) (kept : List Step) (core : List Literal) → IsAnswer true (highest givens) givens new.clauses (asked (highest givens) goal) (Unsat core) →
      (learned : HasLearned (highest givens) search.clauses search.marks (Some done) new.clauses new.marks (Some kept)) → IsContinued (highest givens) givens done learned.steps goal
  refuted new kept core is learned =
      (derivations_go_on (highest givens) givens done goal way.so_far.are_steps (All-slice_get HasNoOpposites goals place goal at apart) (goal_follows (highest givens) givens goal core is.negated is.follows)).2 learned.steps
      (record {
        core = core;
        are_steps = subst (λ cs. AreSteps (highest givens) cs learned.steps) way.clauses learned.are_steps;
        negated = is.negated;
        listed = subst (λ cs. Contains cs core) (learned.clauses ∙ ap (λ cs. with_steps cs learned.steps) way.clauses) (is.listed refl);
      })

  -- the answer as one about the clauses given
  told_of : (new : KeptValue) (verdict : Verdict) → IsAnswer true search.vars (added_of search.clauses search.marks) new.clauses (asked search.vars goal) verdict →
      IsAnswer true (highest givens) givens new.clauses (asked (highest givens) goal) verdict
  told_of new verdict is =
      subst (λ cs. IsAnswer true (highest givens) cs new.clauses (asked (highest givens) goal) verdict) added
      (subst (λ n. IsAnswer true n (added_of search.clauses search.marks) new.clauses (asked n goal) verdict) way.vars is)

  pub follows_then : (new : KeptValue) (a : Assignment) → IsAnswer true search.vars (added_of search.clauses search.marks) new.clauses (asked search.vars goal) (Sat a) → All (FollowsFrom givens) goals → ⊥
  follows_then new a is follow = not_found new a follow (told_of new (Sat a) is)

  pub further : (new : KeptValue) (kept : List Step) (core : List Literal) → IsAnswer true search.vars (added_of search.clauses search.marks) new.clauses (asked search.vars goal) (Unsat core) →
      HasLearned search.vars search.clauses search.marks (Some done) new.clauses new.marks (Some kept) → new.vars ≡ search.vars → IsPartWay givens new kept (take (place + 1) goals)
  further new kept core is learned same =
      let told : IsAnswer true (highest givens) givens new.clauses (asked (highest givens) goal) (Unsat core) = told_of new (Unsat core) is in
      let more : HasLearned (highest givens) search.clauses search.marks (Some done) new.clauses new.marks (Some kept) =
      subst (λ n. HasLearned n search.clauses search.marks (Some done) new.clauses new.marks (Some kept)) way.vars learned in
      let next : IsContinued (highest givens) givens done more.steps goal = refuted new kept core told more in
      let kept_is : kept ≡ done ++ more.steps = same_Some kept (done ++ more.steps) more.kept in
      record {
        vars = same ∙ way.vars;
        clauses = more.clauses ∙ ap (λ cs. with_steps cs more.steps) way.clauses ∙ sym (with_joined givens done more.steps) ∙ ap (with_steps givens) (sym kept_is);
        marks = more.marks ∙ ap (λ ms. ms ++ replicate (length more.steps) true) way.marks ∙ marks_more givens done more.steps ∙ ap (λ ss. replicate (length givens) false ++ replicate (length ss) true) (sym kept_is);
        so_far = subst (λ gs. IsSoFar givens kept gs) (sym next_goals)
            (subst (λ ss. IsSoFar givens ss (take place goals ++ goal ∷ [])) (sym kept_is)
            (record { are_steps = next.are_steps; covers = λ d m. covered_too more.steps next d (Contains-push_cases (take place goals) goal d m) }));
      }
    where
      covered_too : (steps : List Step) → IsContinued (highest givens) givens done steps goal → (d : List Literal) → Contains (take place goals) d ⊎ (goal ≡ d) → Covers (with_steps givens (done ++ steps)) d
      covered_too steps next d (inl m) = next.earlier d (way.so_far.covers d m)
      covered_too steps next d (inr e) = subst (Covers (with_steps givens (done ++ steps))) e next.covers

-- The first and the last moment of the loop over goals.
pub begins : (givens : List (List Literal)) (search : KeptValue) (steps : List Step) → search.vars ≡ highest givens → search.clauses ≡ givens → search.marks ≡ replicate (length givens) false → steps ≡ [] → IsPartWay givens search steps []
begins givens search steps vars clauses marks none =
    record {
      vars = vars;
      clauses = clauses ∙ ap (with_steps givens) (sym none);
      marks = marks ∙ sym (append-nil (replicate (length givens) false)) ∙ ap (λ ss. replicate (length givens) false ++ replicate (length ss) true) (sym none);
      so_far = subst (λ ss. IsSoFar givens ss []) (sym none) nothing;
    }
  where
    nothing : IsSoFar givens [] []
    nothing = record { are_steps = tt; covers = λ goal m. absurd (omega (arith, m.1)) }

pub no_goal_yet : (givens goals : List (List Literal)) (search : KeptValue) (steps : List Step) (n : ℕ) → n ≡ 0 → IsPartWay givens search steps [] → IsPartWay givens search steps (take n goals)
no_goal_yet givens goals search steps n first way = subst (λ k. IsPartWay givens search steps (take k goals)) (sym first) (subst (IsPartWay givens search steps) (sym (take_none goals)) way)
  where
    take_none : {A : Type 0} (xs : List A) → take 0 xs ≡ []
    take_none [] = refl
    take_none (x ∷ xs) = refl

pub ends : (givens goals : List (List Literal)) (search : KeptValue) (steps : List Step) (n : ℕ) → length goals ≤ n → IsPartWay givens search steps (take n goals) → IsPartWay givens search steps goals
ends givens goals search steps n over way = subst (λ gs. IsPartWay givens search steps gs) (take_all n goals over) way

-- What can be written of steps.
module _ (cs : List (List Literal)) where
  -- a hint names one of the clauses
  named : (hint : ℕ) (a : Assignment) (t : Truth) → truth_at cs a hint ≡ Some t → (1 ≤ hint) × (hint ≤ length cs)
  named hint a t e = by_test (nat_eq hint 0) refl e
    where
      positive : nat_eq hint 0 ≡ false → (hint ≡ 0) ⊎ (hint ≢ 0) → 1 ≤ hint
      positive f (inl z) = let bad : true ≡ false = sym (eq-eqb hint 0 z) ∙ f in cc
      positive f (inr n) = omega (arith, n)

      by_clause : (o : Option (List Literal)) → slice_get cs (hint - 1) ≡ o → 1 ≤ hint → option_map (truth_of a) o ≡ Some t → (1 ≤ hint) × (hint ≤ length cs)
      by_clause None is low f = cc
      by_clause (Some c) is low f = let within : hint - 1 < length cs = slice_get_within cs (hint - 1) c is in (low, omega (arith, within, low))

      by_test : (b : Bool) → nat_eq hint 0 ≡ b → option_map (truth_of a) (if b then None else slice_get cs (hint - 1)) ≡ Some t → (1 ≤ hint) × (hint ≤ length cs)
      by_test true z f = cc
      by_test false z f = by_clause (slice_get cs (hint - 1)) refl (positive z (cases_eq hint 0)) f

  abbrev IsNamed : ℕ → Type 0
  IsNamed hint = (1 ≤ hint) × (hint ≤ length cs)

  units_named : (units : List ℕ) (a b : Assignment) → LeadsTo cs a units b → AllByRecursion IsNamed units
  units_named [] a b h = tt
  units_named (hint ∷ hints) a b h = (named hint a (UnitClause h.0) h.1, units_named hints (made_true a h.0) b h.2)

  and_last : (xs : List ℕ) (y : ℕ) → AllByRecursion IsNamed xs → IsNamed y → AllByRecursion IsNamed (xs ++ y ∷ [])
  and_last [] y all one = (one, tt)
  and_last (x ∷ xs) y all one = (all.0, and_last xs y all.1 one)

  hints_named : (a : Assignment) (hints : List ℕ) → EndsFalse cs a hints → AllByRecursion IsNamed hints
  hints_named a hints ends =
      subst (AllByRecursion IsNamed) (sym ends.in_turn) (and_last ends.units ends.last (units_named ends.units a ends.at_last ends.all_unit) (named ends.last ends.at_last False ends.is_false))

  hints_writable : (hints : List ℕ) → IsCount (length cs) → AllByRecursion IsNamed hints → AllByRecursion IsHint hints
  hints_writable [] few all = tt
  hints_writable (hint ∷ hints) few all = ((all.0.0, below hint (length cs) (2 ^ 63) all.0.1 few), hints_writable hints few all.1)
    where
      below : (n k m : ℕ) → n ≤ k → k < m → n < m
      below n k m h l = omega (arith, h, l)

literals_writable : (vars : ℕ) (c : List Literal) → IsCount vars → All (IsUpTo vars) c → All (λ (l : Literal). 1 ≤ l.var) c → AllByRecursion IsLiteral c
literals_writable vars c few in_range positive = recursion_from_All IsLiteral c (λ k d within. (positive k d within, below (get_or c k d).var vars (2 ^ 63) (in_range k d within) few))
  where
    below : (n k m : ℕ) → n ≤ k → k < m → n < m
    below n k m h l = omega (arith, h, l)

steps_writable : (vars : ℕ) (cs : List (List Literal)) (steps : List Step) → IsCount vars → IsCount (length cs + length steps) → AreSteps vars cs steps → AllByRecursion HasPositive steps → AllByRecursion IsWritableStep steps
steps_writable vars cs [] low few are positive = tt
steps_writable vars cs (s ∷ ss) low few are positive = (
  record {
    clause = literals_writable vars s.clause low are.0.in_range positive.0;
    hints = hints_writable cs s.hints (fewer (length cs) (length ss) (2 ^ 63) few) (hints_named cs (assumed_false vars s.clause) s.hints are.0.ends);
  },
  steps_writable vars (cs ++ s.clause ∷ []) ss low (subst (λ n. n + length ss < 2 ^ 63) (sym (length-append cs (s.clause ∷ []))) (one_on (length cs) (length ss) (2 ^ 63) few)) are.1 positive.1,
)
  where
    fewer : (n k m : ℕ) → n + suc k < m → n < m
    fewer n k m h = omega (arith, h)

    one_on : (n k m : ℕ) → n + suc k < m → n + 1 + k < m
    one_on n k m h = omega (arith, h)

-- the steps of a derivation of fewer than 2^63 clauses, over fewer variables
pub writable : (givens : List (List Literal)) (search : KeptValue) (steps : List Step) (covered : List (List Literal)) → IsPartWay givens search steps covered → highest givens < 2 ^ 62 → length search.clauses < 2 ^ 63 →
    All HasPositive steps → AreWritable steps
writable givens search steps covered way low few positive =
    let whole : length givens + length steps < 2 ^ 63 = subst (λ n. n < 2 ^ 63) (ap length way.clauses ∙ length_with_steps givens steps) few in
    record {
      count = fewer (length givens) (length steps) (2 ^ 63) whole;
      each = steps_writable (highest givens) givens steps (lower (highest givens) low) whole way.so_far.are_steps (recursion_from_All HasPositive steps positive);
    }
  where
    fewer : (n k m : ℕ) → n + k < m → k < m
    fewer n k m h = omega (arith, h)

    lower : (n : ℕ) → n < 2 ^ 62 → n < 2 ^ 63
    lower n h = omega (arith, h)
