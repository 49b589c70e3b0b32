-- The clauses of a variable that nothing else has may go: some value of it makes them true, whatever the others are.
use Rattle.std.proofs.Common.{◌≡◌, ◌⊎◌, ◌&&◌, inl, inr, ⊎_elim, ℕ, ◌+◌, ◌-◌, ◌<◌, ◌≤◌, Bool, true, false, List, [], ◌∷◌, ◌++◌, length, get_or, map, take, drop, reverse, All, Contains, refl, sym, ap, ◌∙◌, subst, arith, zero, suc}
use Rattle.std.specs.Prelude.{Any}
use Rattle.std.specs.List.{list_all, filter}
use Rattle.std.proofs.lemmas.Bool.{cases_Bool, cases_lt, cond-true, cond-false, both_ways, not_from_false, false_from_ne_true}
use Rattle.std.proofs.lemmas.List.{append-nil, append_assoc, take_all, take_more, take-append-drop, reverse-append, get_or_default, get_or_append_left, get_or_push, get_or-map, length-map, length-append}
use Rattle.std.proofs.lemmas.List.Elements.{All-contains, All-more, All-nil, All-cons, All-head, All-tail, All-weaker, Contains-append_left, Contains-append_right, Contains-append_cases, filter_passes}
use Rattle.std.proofs.lemmas.List.Folds.{Any-from_list_any}
use Rattle.sat_clauses.specs.Literal.{Literal, opposite}
use Rattle.sat_clauses.specs.Derivation.{IsUpTo}
use Rattle.sat_clauses.specs.Models.{TotalAssignment, literal_value, clause_value, Satisfies}
use Rattle.sat_clauses.specs.Truth.{is_same}
use Rattle.sat_clauses.proofs.ModelLemmas.{literal_value-opposite, Satisfies-from_All}
use Rattle.sat_clauses.proofs.FalseLemmas.{opposite-opposite}
use Rattle.sat_clauses.proofs.ClauseLists.{member_true}
use Rattle.sat_simplify.specs.SamePlaces.{IsMet, AreMetAlike, HasNoHigherVariable}
use Rattle.sat_simplify.specs.Resolution.{has_literal, without, each_once, resolvent}
use Rattle.sat_simplify.specs.Elimination.{unless_tautology, resolvents_with, resolvents}
use Rattle.sat_simplify.specs.CompactNumbers.{IsMarked, HasMarked, gaps, compacted_clause, compacted_list}
use Rattle.sat_simplify.specs.ClauseBase.{Becomes, IsEntered, AddsAll}
use Rattle.sat_simplify.specs.Slots.{standing}
use Rattle.sat_simplify.specs.declared.base.Base.{Base}
use Rattle.sat_simplify.specs.Unread.{is_clash, clash, clashes, is_closed_at, is_closed, AreTops, chosen, IsPlaceIn, IsLeft, CanGo, compacted_at, HasRead}
use Rattle.sat_simplify.proofs.Members.{cons_cases, from_flat_map, is_same-refl, same_literal, contains_from_has, in_without, joined_left, joined_right, in_once}
use Rattle.sat_simplify.proofs.ClauseLaws.{AreTrue, true_by, unless_true, turned, turned_other, lacking_stays, HasTurn, has_turn}
use Rattle.sat_simplify.proofs.CompactMarks.{kept_mark}
use Rattle.sat_simplify.proofs.CompactLaws.{compact_same, compact_low}
use Rattle.sat_simplify.proofs.BaseLaws.{entered_next, entered_all, simplified_same, simplified_low}
use Rattle.base_values.proofs.ListLaws.{all_from, none_contained, from_filter, to_filter}

-- each clause true makes the list true
all_of : (w : TotalAssignment) (cs : List (List Literal)) → AreTrue w cs → Satisfies w cs
all_of w cs each = Satisfies-from_All w cs (all_from (λ c. clause_value w c ≡ true) cs each)

-- a resolvent that is a tautology is true
clash_follows : (v : TotalAssignment) (l : Literal) (c d : List Literal) → clash l c d ≡ true → clause_value v (resolvent l c d) ≡ true
clash_follows v l c d e =
    let some : Any (λ m. is_clash l d m ≡ true) c = Any-from_list_any (is_clash l d) c e in
    by_test some.1 (some.0, some.2, some.3) some.4 (cases_Bool (is_same some.1 l)) (cases_Bool (literal_value v some.1))
  where
    by_test : (m : Literal) → Contains c m → is_clash l d m ≡ true → (is_same m l ≡ true) ⊎ (is_same m l ≡ false) → (literal_value v m ≡ true) ⊎ (literal_value v m ≡ false) → clause_value v (resolvent l c d) ≡ true
    by_test m has is (inl same) value = absurd (both_ways (is_clash l d m) (cond-true (is_same m l) false (has_literal (opposite m) d) same) is)
    by_test m has is (inr other) (inl on) = true_by v (resolvent l c d) m (joined_left (each_once (without l c)) (without (opposite l) d) m (in_once (without l c) m (in_without l c m has other))) on
    by_test m has is (inr other) (inr off) =
        let there : Contains d (opposite m) = contains_from_has (opposite m) d (sym (cond-false (is_same m l) false (has_literal (opposite m) d) other) ∙ is) in
        let apart : is_same (opposite m) (opposite l) ≡ false = false_from_ne_true (is_same (opposite m) (opposite l)) (λ same. both_ways (is_same m l) other (subst (λ x. is_same m x ≡ true) (sym (opposite-opposite m) ∙ (ap opposite (same_literal (opposite m) (opposite l) same) ∙ opposite-opposite l)) (is_same-refl m))) in
        true_by v (resolvent l c d) (opposite m) (joined_right (each_once (without l c)) (without (opposite l) d) (opposite m) (in_without (opposite l) d (opposite m) there apart)) (literal_value-opposite v m ∙ not_from_false (literal_value v m) off)

resolvents_true : (v : TotalAssignment) (l : Literal) (cs ds : List (List Literal)) → ((c d : List Literal) → Contains cs c → Contains ds d → clash l c d ≡ true) → AreTrue v (resolvents l cs ds)
resolvents_true v l cs ds each r has =
    let c = from_flat_map (resolvents_with l ds) cs r has in
    let d = from_flat_map (λ d. unless_tautology (resolvent l c.0 d)) ds r c.2 in
    unless_true v (resolvent l c.0 d.0) (clash_follows v l c.0 d.0 (each c.0 d.0 c.1 d.1)) r d.2

-- what passes a test among these
filter_has : {X : Type 0} (p : X → Bool) (xs : List X) (x : X) → Contains (filter p xs) x → p x ≡ true
filter_has p xs x has = All-contains (λ x. p x ≡ true) (filter p xs) x (filter_passes p xs) has

each_of : {X : Type 0} (p : X → Bool) (xs : List X) (x : X) → list_all p xs ≡ true → Contains xs x → p x ≡ true
each_of {X} p [] x e has = absurd (none_contained x has)
each_of {X} p (y ∷ xs) x e has = by_part (cons_cases y xs x has) (cases_Bool (p y)) (λ rest later. each_of p xs x rest later) where
  by_part : (y ≡ x) ⊎ Contains xs x → (p y ≡ true) ⊎ (p y ≡ false) → (list_all p xs ≡ true → Contains xs x → p x ≡ true) → p x ≡ true
  by_part (inl same) (inl on) more = subst (λ z. p z ≡ true) same on
  by_part (inr later) (inl on) more = more (sym (ap (λ b. b && list_all p xs) on) ∙ e) later
  by_part h (inr off) more = absurd (both_ways false refl (sym (ap (λ b. b && list_all p xs) off) ∙ e))

-- some value of the variable makes closed clauses true
closed_turn : (v : TotalAssignment) (l : Literal) (group : List (List Literal)) → is_closed l group ≡ true → (m : Literal) × ((m ≡ l) ⊎ (m ≡ opposite l)) × AreTrue (turned v m) group
closed_turn v l group closed = (turn.literal, turn.is, each) where
  with : List (List Literal)
  with = filter (has_literal l) group

  against : List (List Literal)
  against = filter (has_literal (opposite l)) group

  meets : (c d : List Literal) → Contains with c → Contains against d → clash l c d ≡ true
  meets c d left right =
      let at : is_closed_at l group c ≡ true = each_of (is_closed_at l group) group c closed (from_filter (has_literal l) group c left) in
      let all : list_all (clashes l c) group ≡ true = sym (cond-true (has_literal l c) (list_all (clashes l c) group) (has_literal (opposite l) c) (filter_has (has_literal l) group c left)) ∙ at in
      let one : clashes l c d ≡ true = each_of (clashes l c) group d all (from_filter (has_literal (opposite l)) group d right) in
      sym (cond-true (has_literal (opposite l) d) (clash l c d) true (filter_has (has_literal (opposite l)) group d right)) ∙ one

  turn : HasTurn v l with against
  turn = has_turn v l with against (λ c has. contains_from_has l c (filter_has (has_literal l) group c has)) (λ d has. contains_from_has (opposite l) d (filter_has (has_literal (opposite l)) group d has)) (resolvents_true v l with against meets)

  each : AreTrue (turned v turn.literal) group
  each c has = by_test (cases_Bool (has_literal l c)) where
    by_test : (has_literal l c ≡ true) ⊎ (has_literal l c ≡ false) → clause_value (turned v turn.literal) c ≡ true
    by_test (inl with_it) = turn.left c (to_filter (has_literal l) group c has with_it)
    by_test (inr lacks) = turn.right c (to_filter (has_literal (opposite l)) group c has (sym (cond-false (has_literal l c) (list_all (clashes l c) group) (has_literal (opposite l) c) lacks) ∙ each_of (is_closed_at l group) group c closed has))

-- no literal of the clause has the variable
abbrev pub Avoids : ℕ → List Literal → Type 0
Avoids x c = (k : Literal) → Contains c k → k.var ≡ x → ⊥

-- closed clauses of a variable that no other clause has, and that is no place, may go
unread_alike : (places : ℕ) (l : Literal) (before group after : List (List Literal)) → places < l.var → is_closed l group ≡ true → ((c : List Literal) → Contains before c → Avoids l.var c) → ((c : List Literal) → Contains after c → Avoids l.var c) → AreMetAlike places ((before ++ group) ++ after) (before ++ after)
unread_alike places l before group after own closed none_before none_after v = (there, back) where
  there : IsMet places ((before ++ group) ++ after) v → IsMet places (before ++ after) v
  there h = record {
    values = h.values;
    agree = h.agree;
    all = all_of h.values (before ++ after) (λ c has. member_true h.values ((before ++ group) ++ after) c h.all
        (⊎_elim (λ early. Contains-append_left (before ++ group) after c (Contains-append_left before group c early)) (λ late. Contains-append_right (before ++ group) after c late) (Contains-append_cases before after c has)));
  }

  var_of : (m : Literal) → (m ≡ l) ⊎ (m ≡ opposite l) → m.var ≡ l.var
  var_of m (inl same) = ap (λ (x : Literal). x.var) same
  var_of m (inr other) = ap (λ (x : Literal). x.var) other

  no_place : (x : ℕ) → x ≤ places → x ≡ l.var → ⊥
  no_place x to same = omega (arith, own, to, same)

  back : IsMet places (before ++ after) v → IsMet places ((before ++ group) ++ after) v
  back h =
      let w = h.values in
      let turn = closed_turn w l group closed in
      let lacks : (c : List Literal) → Avoids l.var c → Contains c (opposite turn.0) → ⊥ = λ c avoids has. avoids (opposite turn.0) has (var_of turn.0 turn.1) in
      let stays : (c : List Literal) → Avoids l.var c → Contains (before ++ after) c → clause_value (turned w turn.0) c ≡ true = λ c avoids has. lacking_stays w turn.0 c (lacks c avoids) (member_true w (before ++ after) c h.all has) in
      record {
        values = turned w turn.0;
        agree = λ x from to. turned_other w turn.0 x (λ same. no_place x to (same ∙ var_of turn.0 turn.1)) ∙ h.agree x from to;
        all = all_of (turned w turn.0) ((before ++ group) ++ after) (λ c has.
            ⊎_elim
            (λ early. ⊎_elim (λ first. stays c (none_before c first) (Contains-append_left before after c first)) (λ in_group. turn.2 c in_group) (Contains-append_cases before group c early))
            (λ late. stays c (none_after c late) (Contains-append_right before after c late))
            (Contains-append_cases (before ++ group) after c has));
      }

-- what is at most the top avoids a higher variable
pub up_to_avoids : (top x : ℕ) (cs : List (List Literal)) → top < x → All (All (IsUpTo top)) cs → (c : List Literal) → Contains cs c → Avoids x c
up_to_avoids top x cs low all c has k there same =
    let up : k.var ≤ top = All-contains (IsUpTo top) c k (All-contains (All (IsUpTo top)) cs c all has) there in
    omega (arith, low, up, same)

no_mark : {b : Bool} → b ≡ false → b ≡ true → ⊥
no_mark {b} off on = both_ways b off on

-- what is marked avoids a variable that is not
unmarked_avoids : (places x : ℕ) (marks : List Bool) (cs : List (List Literal)) → places < x → get_or marks (x - places - 1) false ≡ false → All (All (IsMarked places marks)) cs → (c : List Literal) → Contains cs c → Avoids x c
unmarked_avoids places x marks cs own off all c has k there same =
    let m : IsMarked places marks k = All-contains (IsMarked places marks) c k (All-contains (All (IsMarked places marks)) cs c all has) there in
    no_mark off (subst (λ y. get_or marks (y - places - 1) false ≡ true) same (m.at (subst (λ y. places < y) (sym same) own)))

same_alike : (places : ℕ) (a b : List (List Literal)) → a ≡ b → AreMetAlike places a b
same_alike places a b e v = (λ h. subst (λ s. IsMet places s v) e h, λ h. subst (λ s. IsMet places s v) (sym e) h)

both_alike : (places : ℕ) (a b c : List (List Literal)) → AreMetAlike places a b → AreMetAlike places b c → AreMetAlike places a c
both_alike places a b c f g v = (λ h. (g v).0 ((f v).0 h), λ h. (f v).1 ((g v).1 h))

-- at first all clauses are before the place
pub left_first : (places : ℕ) (list : List (List Literal)) (left : ℕ) (kept : List ℕ) (marks : List Bool) → left ≡ length list → kept ≡ [] → IsLeft places list left kept marks
left_first places list left kept marks e none = subst (λ (at : List ℕ). IsLeft places list left at marks) (sym none) (record {
  within = omega (arith, e);
  alike = same_alike places list (take left list ++ []) (sym (append-nil (take left list) ∙ take_all left list (omega (arith, e))));
  inside = All-nil (IsPlaceIn list);
  marked = All-nil (All (IsMarked places marks));
})

chosen_more : (list : List (List Literal)) (kept : List ℕ) (i : ℕ) → chosen list (kept ++ i ∷ []) ≡ get_or list i [] ∷ chosen list kept
chosen_more list kept i = ap (map (λ i. get_or list i [])) (reverse-append kept (i ∷ []))

-- the last of them is kept
pub left_keeps : (places : ℕ) (list : List (List Literal)) (left i : ℕ) (kept now : List ℕ) (marks more : List Bool) → i + 1 ≡ left → now ≡ kept ++ i ∷ [] → IsLeft places list left kept marks → HasMarked places marks more (get_or list i []) → IsLeft places list i now more
left_keeps places list left i kept now marks more last is f g = record {
  within = omega (arith, last, f.within);
  alike = both_alike places list (take left list ++ chosen list kept) (take i list ++ chosen list now) f.alike (same_alike places (take left list ++ chosen list kept) (take i list ++ chosen list now) whole);
  inside = subst (λ at. All (IsPlaceIn list) at) (sym (ap reverse is ∙ reverse-append kept (i ∷ []))) (All-cons (IsPlaceIn list) i (reverse kept) lt f.inside);
  marked = subst (λ cs. All (All (IsMarked places more)) cs) (sym (ap (chosen list) is ∙ chosen_more list kept i))
      (All-cons (All (IsMarked places more)) (get_or list i []) (chosen list kept) g.has
      (All-weaker (All (IsMarked places marks)) (All (IsMarked places more)) (λ d m. All-weaker (IsMarked places marks) (IsMarked places more) (kept_mark places marks more g.keeps) d m) (chosen list kept) f.marked));
} where
  lt : i < length list
  lt = omega (arith, last, f.within)

  whole : take left list ++ chosen list kept ≡ take i list ++ chosen list now
  whole =
      ap (λ n. take n list ++ chosen list kept) (sym last)
      ∙ (ap (λ s. s ++ chosen list kept) (take_more list i [] lt)
      ∙ (append_assoc (take i list) (get_or list i [] ∷ []) (chosen list kept)
      ∙ ap (λ s. take i list ++ s) (sym (ap (chosen list) is ∙ chosen_more list kept i))))

take_within : {X : Type 0} (n m : ℕ) (xs : List X) → n ≤ m → take n (take m xs) ≡ take n xs
take_within {X} zero m xs le = refl
take_within {X} (suc n) zero xs le = absurd (omega (arith, le))
take_within {X} (suc n) (suc m) [] le = refl
take_within {X} (suc n) (suc m) (x ∷ xs) le = ap (λ s. x ∷ s) (take_within n m xs (omega (arith, le)))

-- clauses that can go do
pub left_goes : (places : ℕ) (list : List (List Literal)) (left begin : ℕ) (kept : List ℕ) (marks : List Bool) → IsLeft places list left kept marks → CanGo places list marks left begin → IsLeft places list begin kept marks
left_goes places list left begin kept marks f g = record {
  within = omega (arith, f.within, g.within);
  alike = both_alike places list (take left list ++ chosen list kept) (take begin list ++ chosen list kept) f.alike
      (subst (λ s. AreMetAlike places (s ++ chosen list kept) (take begin list ++ chosen list kept)) whole
      (unread_alike places g.literal (take begin list) (drop begin (take left list)) (chosen list kept) g.own g.closed (up_to_avoids g.top g.literal.var (take begin list) g.low g.before) (unmarked_avoids places g.literal.var marks (chosen list kept) g.own g.unmarked f.marked)));
  inside = f.inside;
  marked = f.marked;
} where
  whole : take begin list ++ drop begin (take left list) ≡ take left list
  whole = ap (λ s. s ++ drop begin (take left list)) (sym (take_within begin left list g.within)) ∙ take-append-drop begin (take left list)

-- the clauses of places are clauses of the list
chosen_from : (list : List (List Literal)) (at : List ℕ) (c : List Literal) → All (IsPlaceIn list) at → Contains (map (λ i. get_or list i []) at) c → Contains list c
chosen_from list [] c all has = absurd (none_contained c has)
chosen_from list (i ∷ at) c all has = ⊎_elim (λ same. subst (Contains list) same (i, All-head (IsPlaceIn list) i at all, get_or_default list i (get_or list i []) [] (All-head (IsPlaceIn list) i at all))) (λ later. chosen_from list at c (All-tail (IsPlaceIn list) i at all) later) (cons_cases (get_or list i []) (map (λ i. get_or list i []) at) c has)

-- to choose and then to bring down is to choose what is brought down
both_maps : (places : ℕ) (gs : List ℕ) (list : List (List Literal)) (at : List ℕ) → map (compacted_at places gs list) at ≡ compacted_list places gs (map (λ i. get_or list i []) at)
both_maps places gs list [] = refl
both_maps places gs list (i ∷ at) = ap (λ r. compacted_at places gs list i ∷ r) (both_maps places gs list at)

-- at last what was kept says the same as the list
pub has_read : (places left : ℕ) (list : List (List Literal)) (kept at : List ℕ) (marks : List Bool) (gs : List ℕ) (b : Base) → left ≡ 0 → IsLeft places list left kept marks → at ≡ reverse kept → gs ≡ gaps 0 marks → IsEntered places (map (compacted_at places gs list) at) b → HasRead places list b
has_read places left list kept at marks gs b none f is from entered = record {
  read = compacted_list places gs (chosen list kept);
  entered = subst (λ s. IsEntered places s b) (ap (map (compacted_at places gs list)) is ∙ both_maps places gs list (reverse kept)) entered;
  alike = both_alike places list (chosen list kept) (compacted_list places gs (chosen list kept)) (subst (λ (n : ℕ). AreMetAlike places list (take n list ++ chosen list kept)) none f.alike) (compact_same places (chosen list kept) (compacted_list places gs (chosen list kept)) marks gs f.marked from refl);
  low = record {
    at = λ top up. (compact_low places (chosen list kept) (compacted_list places gs (chosen list kept)) gs refl).at top
        (all_from (All (IsUpTo top)) (chosen list kept) (λ c has. All-contains (All (IsUpTo top)) list c up (chosen_from list (reverse kept) c f.inside has)));
  };
}

pub tops_more : (list : List (List Literal)) (tops : List ℕ) (top : ℕ) → AreTops list tops → All (All (IsUpTo top)) (take (length tops) list) → AreTops list (tops ++ top ∷ [])
tops_more list tops top f up = record { at = λ i lt. by_place i (cases_lt i (length tops)) lt } where
  by_place : (i : ℕ) → (i < length tops) ⊎ (length tops ≤ i) → i < length (tops ++ top ∷ []) → All (All (IsUpTo (get_or (tops ++ top ∷ []) i 0))) (take i list)
  by_place i (inl lt) within = subst (λ n. All (All (IsUpTo n)) (take i list)) (sym (get_or_append_left tops (top ∷ []) 0 i lt)) (f.at i lt)
  by_place i (inr ge) within =
      let last : i ≡ length tops = omega (arith, ge, within, length-append tops (top ∷ [])) in
      subst (λ n. All (All (IsUpTo (get_or (tops ++ top ∷ []) n 0))) (take n list)) (sym last) (subst (λ n. All (All (IsUpTo n)) (take (length tops) list)) (sym (get_or_push tops top 0 (length tops) refl)) up)

-- a higher top is one too
pub all_raised : (n m : ℕ) (xs : List Literal) → n ≤ m → All (IsUpTo n) xs → All (IsUpTo m) xs
all_raised n m xs le a = λ k d lt. omega (arith, a k d lt, le)

pub lists_raised : (n m : ℕ) (xs : List (List Literal)) → n ≤ m → All (All (IsUpTo n)) xs → All (All (IsUpTo m)) xs
lists_raised n m xs le a = λ k d lt. all_raised n m (get_or xs k d) le (a k d lt)

pub raised_more : (list : List (List Literal)) (i n m : ℕ) (c : List Literal) → i < length list → c ≡ get_or list i c → n ≤ m → All (All (IsUpTo n)) (take i list) → All (IsUpTo m) c → All (All (IsUpTo m)) (take (i + 1) list)
raised_more list i n m c lt is le before here = All-more (All (IsUpTo m)) list i c lt (lists_raised n m (take i list) le before) (subst (λ (x : List Literal). All (IsUpTo m) x) is here)

-- clauses are entered place by place
pub place_entered : (places : ℕ) (gs : List ℕ) (list : List (List Literal)) (at : List ℕ) (a b : Base) (cs : List (List Literal)) (k : ℕ) (c d : List Literal) → k < length at → c ≡ get_or list (get_or at k 0) [] → d ≡ compacted_clause places gs c → IsEntered places (take k (map (compacted_at places gs list) at)) a → cs ≡ unless_tautology (each_once d) → AddsAll a b cs →
    IsEntered places (take (k + 1) (map (compacted_at places gs list) at)) b
place_entered places gs list at a b cs k c d lt there down f one g =
    let i = get_or at k 0 in
    let is : i ≡ get_or at k i = get_or_default at k 0 i lt in
    let here : d ≡ compacted_at places gs list i = down ∙ ap (compacted_clause places gs) there in
    entered_next places (map (compacted_at places gs list) at) a b cs k d (omega (arith, lt, length-map at (compacted_at places gs list)))
    (here ∙ (ap (compacted_at places gs list) is ∙ (sym (get_or-map (compacted_at places gs list) at k i (compacted_at places gs list i) lt) ∙ ap (λ x. get_or (map (compacted_at places gs list) at) k x) (sym here)))) f one g

pub all_entered : (places : ℕ) (gs : List ℕ) (list : List (List Literal)) (at : List ℕ) (b : Base) (k : ℕ) → length at ≤ k → IsEntered places (take k (map (compacted_at places gs list) at)) b → IsEntered places (map (compacted_at places gs list) at) b
all_entered places gs list at b k over f = entered_all places (map (compacted_at places gs list) at) b k (omega (arith, over, length-map at (compacted_at places gs list))) f

-- from a list to the clauses that stand in what its base becomes, and to what is made of these
pub read_same : (places : ℕ) (list left new : List (List Literal)) (a b : Base) → HasRead places list a → Becomes a b → left ≡ standing b.slots.items → AreMetAlike places left new → AreMetAlike places list new
read_same places list left new a b f g is same v =
    let next = simplified_same places f.read left new a b f.entered g is same v in
    (λ h. next.0 ((f.alike v).0 h), λ h. (f.alike v).1 (next.1 h))

pub read_low : (places : ℕ) (list left new : List (List Literal)) (a b : Base) → HasRead places list a → Becomes a b → left ≡ standing b.slots.items → HasNoHigherVariable left new → HasNoHigherVariable list new
read_low places list left new a b f g is low = record { at = λ top up. (simplified_low places f.read left new a b f.entered g is low).at top (f.low.at top up) }
