-- What looks bring, over the sets as the code has them.
use Rattle.std.proofs.Common.{◌≡◌, ℕ, ◌+◌, ◌-◌, ◌^◌, ◌<◌, ◌≤◌, Bool, true, false, not, List, [], ◌∷◌, ◌++◌, length, Option, Some, refl, sym, ap, ◌∙◌, subst, arith, ◌⊎◌, inl, inr}
use Rattle.std.specs.Prelude.{◌↔◌, cond, if◌then◌else◌}
use Rattle.smv_language.specs.Language.{Text, Each, AtSome}
use Rattle.smv_flat_laws.specs.FlatTrace.{IsFlatTrace}
use Rattle.smv_flat_laws.proofs.Lists.{each_map}
use Rattle.sat_clauses.specs.Literal.{Literal}
use Rattle.sat_clauses.specs.Assignment.{Assignment}
use Rattle.sat_clauses.specs.declared.system.System.{System}
use Rattle.cut_frames.specs.Path.{IsPath}
use Rattle.cut_frames.specs.ClearLooks.{IsCleared}
use Rattle.cut_frames.specs.Chain.{State, IsFirstState, HasChain}
use Rattle.cut_frames.specs.FramesRecord.{FramesValue, frontier}
use Rattle.cut_frames.specs.FrameLists.{AreStronger}
use Rattle.cut_frames.proofs.Short.{chains_short}
use Rattle.cut_frames.specs.FramesByNumber.{AreNumbered}
use Rattle.cut_frames.specs.Advance.{IsAdvanced}
use Rattle.cut_frames.specs.declared.advance.Advanced.TheVariants.{Further}
use Rattle.cut_frames.specs.declared.advance.Advanced.{Advanced}
use Rattle.cut_frames.specs.declared.clear.Cleared.{Cleared}
use Rattle.cut_frames.specs.declared.clear.Cleared.TheVariants.{Path}
use Rattle.cut_right_laws.specs.Sets.{IsRising, is_contained, stands_before}
use Rattle.cut_search_laws.specs.FoundSets.{AreInOrder, Found, sets_of, traces_of, without, placed, with_found, IsFound, IsNew, ContainOneOf}
use Rattle.sat_encoding_laws.specs.FlatTraces.{IsNumbered, ReachesTop, HasFailedNumber, IsRightFlat}
use Rattle.cut_search_laws.specs.FlatSearch.{FlatTrace, IsSearched, IsBadFor, IsClauseOf, AreFoundFlat, IsFoundFlat, IsLawfulMoment}
use Rattle.cut_search_laws.proofs.FoundLaws.{each_found, some_kept, found_with, still_contain, found_in_order, found_rising}
use Rattle.sat_encoding_laws.proofs.SetLaws.{each_kept, contained_in_itself, contained_through}
use Rattle.cut_search_laws.proofs.Paths.{path_is_lawful, path_is_found}
use Rattle.cut_search.specs.Values.{found_of, all_found}
use Rattle.cut_search.specs.Progress.{CodeFound, AreListed, ListsOne, IsLooked, StillContain, Shown, AreKept, AreLooking, AreClear, IsBetween, AreProof, HasChainFor, HasGone}
use Rattle.cut_search.specs.Answer.{IsEnd}
use Rattle.cut_search.specs.declared.answer.End.TheVariants.{Complete, Bounded}
use Rattle.cut_search_laws.specs.UncoveredPatterns.{uncovered}
use Rattle.cut_search_laws.proofs.Clauses.{with_clause}
use Rattle.cut_search_laws.proofs.Chains.{fewer_are_bad, chain_stays, chain_grows}
use Rattle.cut_search_laws.proofs.Ends.{search_ends}
use Rattle.cut_search_laws.proofs.Excluded.{clear_is_right, invariant_is_right, first_states_show}
use Rattle.cut_search_laws.specs.Problem.{Problem}

-- the sets are the same, however values are read
pub sets_same : (symbols : List Text) (found : List CodeFound) → sets_of (all_found symbols found) ≡ sets_of found
sets_same symbols [] = refl
sets_same symbols (f ∷ fs) = ap (λ more. f.set ∷ more) (sets_same symbols fs)

-- and a new one is listed in the same way
without_same : (symbols : List Text) (set : List ℕ) (found : List CodeFound) → all_found symbols (without set found) ≡ without set (all_found symbols found)
without_same symbols set [] = refl
without_same symbols set (f ∷ fs) = by_test (not (is_contained set f.set)) (without_same symbols set fs)
  where
    by_test : (b : Bool) → all_found symbols (without set fs) ≡ without set (all_found symbols fs) →
        all_found symbols (cond b (f ∷ without set fs) (without set fs)) ≡ cond b (found_of symbols f ∷ without set (all_found symbols fs)) (without set (all_found symbols fs))
    by_test true h = ap (λ more. found_of symbols f ∷ more) h
    by_test false h = h

placed_same : (symbols : List Text) (new : CodeFound) (found : List CodeFound) → all_found symbols (placed new found) ≡ placed (found_of symbols new) (all_found symbols found)
placed_same symbols new [] = refl
placed_same symbols new (f ∷ fs) = by_test (stands_before new.set f.set) (placed_same symbols new fs)
  where
    by_test : (b : Bool) → all_found symbols (placed new fs) ≡ placed (found_of symbols new) (all_found symbols fs) →
        all_found symbols (if b then new ∷ f ∷ fs else f ∷ placed new fs)
        ≡ (if b then found_of symbols new ∷ found_of symbols f ∷ all_found symbols fs else found_of symbols f ∷ placed (found_of symbols new) (all_found symbols fs))
    by_test true h = refl
    by_test false h = ap (λ more. found_of symbols f ∷ more) h

pub with_same : (symbols : List Text) (new : CodeFound) (found : List CodeFound) → all_found symbols (with_found new found) ≡ with_found (found_of symbols new) (all_found symbols found)
with_same symbols new found = placed_same symbols new (without new.set found) ∙ ap (λ fs. placed (found_of symbols new) fs) (without_same symbols new.set found)

module _ (problem : Problem) where
  open problem use {model as m, modes as fs, top, system}

  pub sets_numbered : (size : ℕ) (found : List CodeFound) (listed : List (List ℕ)) → listed ≡ sets_of found → AreListed problem size found → Each (IsNumbered (length fs)) listed
  sets_numbered size found listed e are =
      subst (Each (IsNumbered (length fs))) (sets_same m.symbols found ∙ sym e)
      (each_map (IsNumbered (length fs)) (λ f. f.set) (all_found m.symbols found)
      (each_kept (IsFound FlatTrace (IsFlatTrace m) (ReachesTop m top) (HasFailedNumber m fs) (length fs) size) (λ f. IsNumbered (length fs) f.set) (λ f h. h.numbered) (all_found m.symbols found)
      (each_found FlatTrace (IsFlatTrace m) (ReachesTop m top) (HasFailedNumber m fs) (length fs) size (all_found m.symbols found) are)))

  -- the answer is a path, of at most some number of steps
  is_path : (sys : System) (bad : List (List Literal)) (frames : List (List (List Literal))) (most : ℕ) (answer : Cleared) (path : List Assignment) → sys ≡ system → answer ≡ Path path → IsCleared sys bad frames most answer →
      (k : ℕ) × IsPath system bad k path
  is_path sys bad frames most answer path s e cleared = by_case (subst (IsCleared sys bad frames most) e cleared)
    where
      by_case : IsPath sys bad (length frames - 1) path ⊎ IsPath sys bad most path → (k : ℕ) × IsPath system bad k path
      by_case (inl p) = (length frames - 1, subst (λ y. IsPath y bad (length frames - 1) path) s p)
      by_case (inr p) = (most, subst (λ y. IsPath y bad most path) s p)

  pub lawful_path : (size : ℕ) (sets : List (List ℕ)) (sys : System) (bad : List (List Literal)) (frames : List (List (List Literal))) (most : ℕ) (answer : Cleared) (path : List Assignment) →
      IsSearched problem → IsBadFor problem size sets bad → sys ≡ system → answer ≡ Path path → IsCleared sys bad frames most answer →
      (i : ℕ) → i < length path → IsLawfulMoment problem path i
  lawful_path size sets sys bad frames most answer path searched lists s e cleared i l =
      let p = is_path sys bad frames most answer path s e cleared in
      path_is_lawful problem size sets bad p.0 path searched lists p.1 i l

  -- and it shows a new set
  pub found_path : (size : ℕ) (found : List CodeFound) (sys : System) (bad : List (List Literal)) (frames : List (List (List Literal))) (most : ℕ) (answer : Cleared) (path : List Assignment) (new : CodeFound) →
      IsSearched problem → AreListed problem size found → IsBadFor problem size (sets_of found) bad →
      sys ≡ system → answer ≡ Path path → IsCleared sys bad frames most answer → Shown problem path new → IsFoundFlat problem size (found_of m.symbols new) × IsNew new.set (all_found m.symbols found)
  found_path size found sys bad frames most answer path new searched are lists s e cleared shown =
      let p = is_path sys bad frames most answer path s e cleared in
      let both =
      path_is_found problem size (all_found m.symbols found) bad p.0 path shown.long searched are
      (subst (λ sets. IsBadFor problem size sets bad) (sym (sets_same m.symbols found)) lists) p.1 shown.read in (
        subst (IsFoundFlat problem size) (sym shown.is) both.0,
        subst (λ (f : Found FlatTrace). IsNew f.set (all_found m.symbols found)) (sym shown.is) both.1,
      )

  -- The frames' list of bad states goes on with the sets.
  pub bad_more : (size : ℕ) (found now : List CodeFound) (new : CodeFound) (bad later : List (List Literal)) (clause : List Literal) → IsBadFor problem size (sets_of found) bad → IsClauseOf problem new.set clause →
      now ≡ with_found new found → later ≡ bad ++ clause ∷ [] → IsBadFor problem size (sets_of now) later
  bad_more size found now new bad later clause lists is e more =
      subst (λ list. IsBadFor problem size (sets_of list) later) (sym e) (subst (IsBadFor problem size (sets_of (with_found new found))) (sym more) (with_clause problem size new found bad clause lists is))

  -- a look that finds a path
  pub looks_along : (size : ℕ) (found now : List CodeFound) (sys : System) (bad : List (List Literal)) (frames : List (List (List Literal))) (most : ℕ) (answer : Cleared) (path : List Assignment) (new : CodeFound) (clause : List Literal) (last : FramesValue) →
      IsSearched problem → AreListed problem size found → IsBadFor problem size (sets_of found) bad → sys ≡ system → answer ≡ Path path → IsCleared sys bad frames most answer → Shown problem path new →
      IsClauseOf problem new.set clause → now ≡ with_found new found → last.bad ≡ bad ++ clause ∷ [] → IsLooked problem size found now last false
  looks_along size found now sys bad frames most answer path new clause last searched are lists s e cleared shown is listed more =
      let both = found_path size found sys bad frames most answer path new searched are lists s e cleared shown in (
        record { new = new; is_found = both.0; is_new = both.1; listed = listed },
        bad_more size found now new bad last.bad clause lists is listed more,
      )

  -- Listing keeps what is known of the list.
  pub listed_more : (size : ℕ) (before now : List CodeFound) → AreListed problem size before → ListsOne problem size before now → AreListed problem size now
  listed_more size before now are one =
      subst (AreFoundFlat problem size) (sym (with_same m.symbols one.new before) ∙ ap (all_found m.symbols) (sym one.listed))
      (found_with FlatTrace (IsFlatTrace m) (ReachesTop m top) (HasFailedNumber m fs) (length fs) size (found_of m.symbols one.new) (all_found m.symbols before) one.is_found one.is_new are)

  pub contain_more : (size : ℕ) (before now : List CodeFound) → ListsOne problem size before now → StillContain problem now before
  contain_more size before now one =
      subst (λ gs. ContainOneOf gs (all_found m.symbols before)) (sym (with_same m.symbols one.new before) ∙ ap (all_found m.symbols) (sym one.listed)) (still_contain (found_of m.symbols one.new) (all_found m.symbols before))

  -- What looks keep.
  pub kept_through : (a b c : List (List (List Literal))) → AreKept problem a b → AreKept problem b c → AreKept problem a c
  kept_through a b c h k = record {
    same = k.same ∙ h.same;
    stronger = λ i s l inside. h.stronger i s l (k.stronger i s (subst (λ n. i < n) (sym h.same) l) inside);
    numbered = k.numbered;
  }

  contain_itself : (fs' : List (Found FlatTrace)) → ContainOneOf fs' fs'
  contain_itself fs' = within fs' fs' (λ P h. h)
    where
      within : (all rest : List (Found FlatTrace)) → ((P : Found FlatTrace → Type 0) → AtSome P rest → AtSome P all) → ContainOneOf all rest
      within all [] up = tt
      within all (f ∷ rest) up = (up (λ g. is_contained g.set f.set ≡ true) (inl (contained_in_itself f.set)), within all rest (λ P h. up P (inr h)))

  contain_through : (a b c : List (Found FlatTrace)) → ContainOneOf b a → ContainOneOf c b → ContainOneOf c a
  contain_through a b c h k =
      each_kept (λ f. AtSome (λ g. is_contained g.set f.set ≡ true) b) (λ f. AtSome (λ g. is_contained g.set f.set ≡ true) c) (λ f some. on b f k some) a h
    where
      on : (gs : List (Found FlatTrace)) (f : Found FlatTrace) → ContainOneOf c gs → AtSome (λ g. is_contained g.set f.set ≡ true) gs → AtSome (λ g. is_contained g.set f.set ≡ true) c
      on [] f k some = absurd some
      on (g ∷ gs) f k (inl e) = some_kept (λ h. is_contained h.set g.set ≡ true) (λ h. is_contained h.set f.set ≡ true) (λ h i. contained_through h.set g.set f.set i e) c k.0
      on (g ∷ gs) f k (inr some) = on gs f k.1 some

  pub looking_begins : (size : ℕ) (found : List CodeFound) (frames : List (List (List Literal))) → AreNumbered system frames → AreListed problem size found →
      AreLooking problem size found found frames frames
  looking_begins size found frames numbered are = record {
    kept = record { same = refl; stronger = λ i s l inside. inside; numbered = numbered };
    are = are;
    contain = contain_itself (all_found m.symbols found);
  }

  pub looking_more : (size : ℕ) (first before now : List CodeFound) (f0 f1 f2 : List (List (List Literal))) (last : FramesValue) → AreLooking problem size first before f0 f1 →
      AreKept problem f1 f2 → IsLooked problem size before now last false → AreLooking problem size first now f0 f2
  looking_more size first before now f0 f1 f2 last looking kept looked = record {
    kept = kept_through f0 f1 f2 looking.kept kept;
    are = listed_more size before now looking.are looked.0;
    contain = contain_through (all_found m.symbols first) (all_found m.symbols before) (all_found m.symbols now) looking.contain (contain_more size before now looked.0);
  }

  pub falls_more : (size : ℕ) (before now : List CodeFound) (last : FramesValue) → AreListed problem size before → IsLooked problem size before now last false →
      uncovered (length fs) (sets_of now) < uncovered (length fs) (sets_of before)
  falls_more size before now last are looked =
      let one = looked.0 in
      subst (λ sets. uncovered (length fs) (sets_of now) < uncovered (length fs) sets) (sets_same m.symbols before)
      (subst (λ sets. uncovered (length fs) sets < uncovered (length fs) (sets_of (all_found m.symbols before)))
      (ap sets_of (sym (with_same m.symbols one.new before)) ∙ sets_same m.symbols (with_found one.new before) ∙ ap sets_of (sym one.listed))
      (search_ends problem size (found_of m.symbols one.new) (all_found m.symbols before) are one.is_found one.is_new))

  -- Between frontiers.
  lists_of : (size : ℕ) (found : List CodeFound) (bad : List (List Literal)) → IsBadFor problem size (sets_of found) bad → IsBadFor problem size (sets_of (all_found m.symbols found)) bad
  lists_of size found bad lists = subst (λ sets. IsBadFor problem size sets bad) (sym (sets_same m.symbols found)) lists

  -- at a further one the frames as they stood after `advance`
  pub between_next : (size : ℕ) (before now : List CodeFound) (old frames : FramesValue) (middle : List (List (List Literal))) → IsSearched problem →
      IsBetween problem size before old → length middle ≡ length old.frames + 1 → AreStronger system old.frames middle → IsAdvanced system old.frames middle Further →
      AreLooking problem size before now middle frames.frames → AreClear problem size now frames →
      (length frames.frames ≡ length old.frames + 1) × IsBetween problem size now frames
  between_next size before now old frames middle searched between longer stronger further looking clear = (
    looking.kept.same ∙ longer,
    record {
      are = looking.are;
      numbered = looking.kept.numbered;
      is_bad = clear.is_bad;
      clear = clear.clear;
      chain = subst (λ n. HasChain system frames.bad (n - 1)) (sym looking.kept.same)
          (chain_stays problem frames.bad old.bad (length middle - 1)
          (fewer_are_bad problem size (all_found m.symbols before) (all_found m.symbols now) frames.bad old.bad searched between.are looking.are looking.contain
          (lists_of size before old.bad between.is_bad) (lists_of size now frames.bad clear.is_bad))
          (chain_grows problem old.bad old.frames middle between.numbered between.clear stronger longer further.chain));
    },
  )

  -- the two endings
  pub ends_complete : (depth size : ℕ) (found : List CodeFound) (clauses : List (List Literal)) → IsSearched problem → AreListed problem size found →
      AreProof problem size (sets_of found) clauses → IsEnd problem depth size found (Complete clauses)
  ends_complete depth size found clauses searched are proof =
      (proof, invariant_is_right problem size (all_found m.symbols found) proof.bad clauses searched are (lists_of size found proof.bad proof.is_bad) proof.invariant.inductive proof.invariant.excludes)

  has_chain : (size : ℕ) (found : List CodeFound) (k : ℕ) (bad : List (List Literal)) → IsBadFor problem size (sets_of found) bad → HasChain system bad k →
      HasChainFor problem size (sets_of found) k
  has_chain size found k bad is_bad chain = record { bad = bad; is_bad = is_bad; chain = chain; short = below k (2 ^ system.state_bits) (chains_short system bad k chain) }
    where
      below : (k n : ℕ) → k ≤ n + 1 → k < n + 2
      below k n le = omega (arith, le)

  pub ends_bounded : (depth size : ℕ) (found : List CodeFound) (frames : FramesValue) → IsSearched problem → IsBetween problem size found frames →
      frontier frames ≡ depth → IsEnd problem depth size found (Bounded depth)
  ends_bounded depth size found frames searched between e = (
    refl,
    has_chain size found depth frames.bad between.is_bad (subst (HasChain system frames.bad) e between.chain),
    subst (λ k. IsRightFlat m fs top size (λ trace. IsFlatTrace m trace × (length trace ≤ k + 1)) (sets_of (all_found m.symbols found)) (traces_of (all_found m.symbols found))) e
        (clear_is_right problem size (all_found m.symbols found) frames.bad frames.frames searched between.are (lists_of size found frames.bad between.is_bad) between.numbered between.clear),
  )

  pub looked_with : (size : ℕ) (before now : List CodeFound) (frames : FramesValue) (a b : Bool) → a ≡ b → IsLooked problem size before now frames a →
      IsLooked problem size before now frames b
  looked_with size before now frames a b e h = subst (IsLooked problem size before now frames) e h

  -- What a further frontier brings, as `advance` and the looks tell it.
  one_longer : (a b : ℕ) → 0 < a → 0 < b → a - 1 ≡ b - 1 + 1 → a ≡ b + 1
  one_longer a b p q e = omega (arith, p, q, e)

  pub goes_further : (size : ℕ) (before now : List CodeFound) (old frames : FramesValue) (middle : List (List (List Literal))) (sys later : System) (answer : Advanced) → IsSearched problem →
      IsBetween problem size before old → sys ≡ system → AreNumbered later middle → length middle - 1 ≡ frontier old + 1 → AreStronger sys old.frames middle →
      answer ≡ Further → IsAdvanced sys old.frames middle answer → AreLooking problem size before now middle frames.frames → AreClear problem size now frames →
      (length frames.frames ≡ length old.frames + 1) × IsBetween problem size now frames
  goes_further size before now old frames middle sys later answer searched between s numbered longer stronger e advanced looking clear =
      between_next size before now old frames middle searched between (one_longer (length middle) (length old.frames) numbered.some between.numbered.some longer) (subst (λ y. AreStronger y old.frames middle) s stronger)
      (subst (λ y. IsAdvanced y old.frames middle Further) s (subst (IsAdvanced sys old.frames middle) e advanced)) looking clear

  -- what a search answers that found an invariant
  pub ends_proved : (depth size : ℕ) (before now : List CodeFound) (old : List (List (List Literal))) (frames : FramesValue) (proof : Option (List (List Literal))) (clauses : List (List Literal)) →
      IsSearched problem → AreListed problem size before → proof ≡ Some clauses → HasGone problem size before now old frames proof →
      IsEnd problem depth size now (Complete clauses)
  ends_proved depth size before now old frames proof clauses searched are e gone =
      let both = subst (HasGone problem size before now old frames) e gone in
      ends_complete depth size now clauses searched (subst (AreListed problem size) (sym both.0) are) both.1

  -- whether there is a trace
  pub tells_first : (told first : Bool) (sys : System) → IsSearched problem → told ≡ first → sys ≡ system → ((first ≡ true) ↔ ((s : State) × IsFirstState sys s)) →
      ((told ≡ true) ↔ ((trace : FlatTrace) × IsFlatTrace m trace))
  tells_first told first sys searched e s tells =
      let shows = first_states_show problem searched in
      let here : (first ≡ true) ↔ ((s : State) × IsFirstState system s) = subst (λ y. (first ≡ true) ↔ ((s : State) × IsFirstState y s)) s tells in
      ((λ h. shows.0 (here.0 (sym e ∙ h))), (λ t. e ∙ here.1 (shows.1 t)))

  -- the listed sets stand in order, and their numbers rise
  pub in_order : (size : ℕ) (found : List CodeFound) (sets : List (List ℕ)) → sets ≡ sets_of found → AreListed problem size found → AreInOrder sets
  in_order size found sets e are =
      subst AreInOrder (sets_same m.symbols found ∙ sym e) (found_in_order FlatTrace (IsFlatTrace m) (ReachesTop m top) (HasFailedNumber m fs) (length fs) size (all_found m.symbols found) are)

  pub all_rise : (size : ℕ) (found : List CodeFound) (sets : List (List ℕ)) → sets ≡ sets_of found → AreListed problem size found → Each IsRising sets
  all_rise size found sets e are =
      subst (Each IsRising) (sets_same m.symbols found ∙ sym e) (found_rising FlatTrace (IsFlatTrace m) (ReachesTop m top) (HasFailedNumber m fs) (length fs) size (all_found m.symbols found) are)
