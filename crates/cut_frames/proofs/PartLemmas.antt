-- Parts of clauses: what holds of a part where it holds of the whole, and the other way round; and what cores say of a clause's parts.
use Rattle.std.proofs.Common.{◌≡◌, ◌≤◌, ◌<◌, ℕ, zero, suc, ◌+◌, ◌-◌, Bool, true, false, not, List, [], ◌∷◌, ◌++◌, refl, sym, ◌∙◌, ap, subst, arith, length, map, take, drop, ◌≢◌, ◌⊎◌, inl, inr, Option, Some, None}
use Rattle.std.specs.Prelude.{slice_index_or, slice_set, Contains, All, filter, IfSome}
use Rattle.std.proofs.lemmas.Option.{none-some}
use Rattle.std.proofs.lemmas.Bool.{cases_eq, cases_lt}
use Rattle.std.proofs.lemmas.List.{take_more, take-append-drop, get_or-set_same, get_or-set_other}
use Rattle.std.proofs.lemmas.List.Elements.{All-append, All-contains, All-contains_itself}
use Rattle.sat_clauses.specs.Literal.{Literal, opposite, signed}
use Rattle.sat_clauses.specs.Hints.{HasNoOpposites, LacksOpposite}
use Rattle.sat_clauses.specs.Models.{TotalAssignment, literal_value, clause_value}
use Rattle.sat_clauses.specs.declared.system.System.{System}
use Rattle.sat_clauses.proofs.FalseLemmas.{opposite-opposite}
use Rattle.sat_clauses.proofs.ModelLemmas.{literal_value-opposite}
use Rattle.sat_clauses.specs.Derivation.{IsUpTo}
use Rattle.cut_frames.specs.Chain.{State, state_values, IsState, IsFirstState, IsOverBits}
use Rattle.cut_frames.specs.Condition.{IsFit}
use Rattle.cut_frames.specs.FrameLists.{InNumber, IsFramed}
use Rattle.cut_frames.specs.Bits.{against_next, moved_on, moved_back, literal_for, literals_from}
use Rattle.cut_frames.specs.OwnVariables.{IsExcluded, IsKept, apart_system, apart_list}
use Rattle.cut_frames.specs.GuardedSearch.{HasAsked, places_of}
use Rattle.cut_frames.specs.ClearLooks.{Blocks}
use Rattle.cut_frames.specs.declared.guarded.Guarded.{Guarded}
use Rattle.cut_frames.specs.Parts.{IsPart, IsOfFirst, IsAfter, IsAgreed, AreAgreed, MayStand, HoldsFrames, IsAskable}
use Rattle.cut_frames.specs.declared.guarded.Beside.TheVariants.{Nothing, Step}
use Rattle.cut_frames.proofs.Sets.{part_itself}
use Rattle.cut_frames.proofs.PushLemmas.{from_map, to_map, next_value, opposite_moved}
use Rattle.cut_frames.proofs.BitLemmas.{agrees_at, IsOpposed, opposed, all_opposed, all_back, high_enough, all_false, none_apart}
use Rattle.cut_frames.proofs.LookLemmas.{clause_over, met_number, met_itself, opposed_over, next_over}
use Rattle.base_values.proofs.ListLaws.{from_filter, to_filter}
use Rattle.sat_simplify.proofs.ClauseLaws.{true_literal, true_by}

pub part_all : (P : Literal → Type 0) (d c : List Literal) → IsPart d c → All P c → All P d
part_all P d c p a = λ k x lt. All-contains P c (slice_index_or d k x) a (p k x lt)

pub part_apart : (d c : List Literal) → IsPart d c → HasNoOpposites c → HasNoOpposites d
part_apart d c p a = λ k x lt. record {
  absent = λ o. (All-contains (LacksOpposite c) c (slice_index_or d k x) a (p k x lt)).absent (All-contains (Contains c) d (opposite (slice_index_or d k x)) p o);
}

pub part_true : (v : TotalAssignment) (d c : List Literal) → IsPart d c → clause_value v d ≡ true → clause_value v c ≡ true
part_true v d c p t = let m = true_literal v d t in true_by v c m.0 (All-contains (Contains c) d m.0 p m.1) m.2

-- a filtered list is a part
pub filter_part : (p : Literal → Bool) (c : List Literal) → IsPart (filter p c) c
filter_part p c = λ k d lt. from_filter p c (slice_index_or (filter p c) k d) (All-contains_itself (filter p c) k d lt)

-- a part of a clause whose literals are marked stands in what is marked of the clause
pub part_marked : (marks : List Bool) (d c : List Literal) → IsPart d c → All (λ l. slice_index_or marks l.var false ≡ true) d → IsPart d (filter (λ l. slice_index_or marks l.var false) c)
part_marked marks d c p a = λ k x lt. to_filter (λ l. slice_index_or marks l.var false) c (slice_index_or d k x) (p k x lt) (a k x lt)

-- the opposites of what is assumed against a clause
pub turned_part : (c core : List Literal) → All (λ l. Contains (map opposite c) (opposite l)) core → IsPart core c
turned_part c core a = λ k d lt. at (slice_index_or core k d) (a k d lt)
  where
    at : (l : Literal) → Contains (map opposite c) (opposite l) → Contains c l
    at l m = let f = from_map opposite c (opposite l) m in
        subst (Contains c) (sym (opposite-opposite f.0) ∙ ap opposite f.2 ∙ opposite-opposite l) f.1

-- marks: what is set stays set
pub set_stays : (m : List Bool) (k x : ℕ) → k < length m → slice_index_or m x false ≡ true → slice_index_or (slice_set m k true) x false ≡ true
set_stays m k x inside h = by_case (cases_eq x k)
  where
    by_case : (x ≡ k) ⊎ (x ≢ k) → slice_index_or (slice_set m k true) x false ≡ true
    by_case (inl e) = ap (λ n. slice_index_or (slice_set m k true) n false) e ∙ get_or-set_same m k true false inside
    by_case (inr ne) = get_or-set_other m k x true false ne ∙ h

pub all_set : (m : List Bool) (k : ℕ) (c : List Literal) → k < length m → All (λ l. slice_index_or m l.var false ≡ true) c → All (λ l. slice_index_or (slice_set m k true) l.var false ≡ true) c
all_set m k c inside a = λ j d lt. set_stays m k (slice_index_or c j d).var inside (a j d lt)

pub all_set_more : (m : List Bool) (c : List Literal) (i : ℕ) (l : Literal) → i < length c → slice_index_or c i l ≡ l → l.var < length m → All (λ l. slice_index_or m l.var false ≡ true) (take i c) →
    All (λ k. slice_index_or (slice_set m l.var true) k.var false ≡ true) (take (i + 1) c)
all_set_more m c i l lt e inside a =
    subst (All (λ k. slice_index_or (slice_set m l.var true) k.var false ≡ true)) (sym (take_more c i l lt ∙ ap (λ k. take i c ++ k ∷ []) e))
    (All-append (λ k. slice_index_or (slice_set m l.var true) k.var false ≡ true) (take i c) (l ∷ []) (all_set m l.var (take i c) inside a) (λ j d in_one. here j d in_one))
  where
    here : (j : ℕ) (d : Literal) → j < length (l ∷ []) → slice_index_or (slice_set m l.var true) (slice_index_or (l ∷ []) j d).var false ≡ true
    here zero d in_one = get_or-set_same m l.var true false inside
    here (suc j) d in_one = absurd (omega (arith, in_one))

module _ (system : System) where
  pub first_whole : (d c : List Literal) → IsPart d c → IsOfFirst system d → IsOfFirst system c
  first_whole d c p h = λ t first. part_true (state_values system t) d c p (h t first)

  pub after_whole : (fs : List (List (List Literal))) (level : ℕ) (d c : List Literal) → IsPart d c → IsAfter system fs level d → IsAfter system fs level c
  after_whole fs level d c p h = λ m r t e i step. part_true (state_values system t) d c p (h m r t e i step)

  -- a core of a question about the first states is one of a clause that is true in them
  pub first_core : (fs : List (List (List Literal))) (bad : List (List Literal)) (assumed core : List Literal) → IsOverBits system core → IsExcluded system bad fs Nothing 0 assumed core → IsOfFirst system core
  first_core fs bad assumed core over c = λ t h.
      sym (clause_over system.state_bits h.1.0 t h.0 h.1.1 core over) ∙ c.follows h.1.0 (met_itself system system.first h.1.0 h.1.2) tt

  -- a literal of a core against a clause that was moved on
  pub back_part : (c core : List Literal) → All (λ l. Contains (against_next system.state_bits c) (opposite l)) core → IsPart (map (moved_back system.state_bits) core) c
  back_part c core a = λ k d lt. at (slice_index_or (map (moved_back system.state_bits) core) k d) (from_map (moved_back system.state_bits) core (slice_index_or (map (moved_back system.state_bits) core) k d) (All-contains_itself (map (moved_back system.state_bits) core) k d lt))
    where
      less : (b x : ℕ) → x + b - b ≡ x
      less b x = omega arith

      again : (l : Literal) → moved_back system.state_bits (moved_on system.state_bits l) ≡ l
      again l = ap (λ (x : ℕ). record { var = x; negated = l.negated }) (less system.state_bits l.var)

      at : (l : Literal) → (m : Literal) × Contains core m × (moved_back system.state_bits m ≡ l) → Contains c l
      at l w =
          let neg = All-contains (λ l. Contains (against_next system.state_bits c) (opposite l)) core w.0 a w.1 in
          let f = from_map (λ l. moved_on system.state_bits (opposite l)) c (opposite w.0) neg in
          let is : w.0 ≡ moved_on system.state_bits f.0 = sym (opposite-opposite w.0) ∙ ap opposite (sym f.2) ∙ opposite_moved system.state_bits f.0 in
          subst (Contains c) (sym (again f.0) ∙ ap (moved_back system.state_bits) (sym is) ∙ w.2) f.1

  -- a core of a question about steps, put back, is one of a clause that is true after them
  pub after_core : (fs : List (List (List Literal))) (level : ℕ) (bad : List (List Literal)) (c core : List Literal) → IsFit system → IsFramed system fs → IsOverBits system c →
      IsExcluded system bad fs Step (level - 1) (against_next system.state_bits c) core → IsAfter system fs level (map (moved_back system.state_bits) core)
  after_core fs level bad c core fit f over k = λ m r t e h step.
      let v : TotalAssignment = step.2.0 in
      let at : InNumber system fs (level - 1) r = subst (λ n. InNumber system fs n r) (less level m e) h in
      let holds : clause_value v core ≡ true = k.follows v (met_number system fs (level - 1) r v fit f step.2.1 at) (met_itself system system.step v step.2.3) in
      let w = true_literal v core holds in
      let back : Contains (map (moved_back system.state_bits) core) (moved_back system.state_bits w.0) = to_map (moved_back system.state_bits) core w.0 w.1 in
      let neg = All-contains (λ l. Contains (against_next system.state_bits c) (opposite l)) core w.0 k.negated w.1 in
      let f' = from_map (λ l. moved_on system.state_bits (opposite l)) c (opposite w.0) neg in
      let is : w.0 ≡ moved_on system.state_bits f'.0 = sym (opposite-opposite w.0) ∙ ap opposite (sym f'.2) ∙ opposite_moved system.state_bits f'.0 in
      let inside = All-contains (λ l. (2 ≤ l.var) × (l.var < system.state_bits + 2)) c f'.0 over f'.1 in
      let put : moved_back system.state_bits w.0 ≡ f'.0 = ap (moved_back system.state_bits) is ∙ again f'.0 in
      true_by (state_values system t) (map (moved_back system.state_bits) core) f'.0 (subst (Contains (map (moved_back system.state_bits) core)) put back)
      (sym (next_value system.state_bits v t f'.0 step.1 step.2.2 inside) ∙ ap (literal_value v) (sym is) ∙ w.2)
    where
      less : (level m : ℕ) → level ≡ suc m → m ≡ level - 1
      less level m q = omega (arith, q)

      minus : (b x : ℕ) → x + b - b ≡ x
      minus b x = omega arith

      again : (l : Literal) → moved_back system.state_bits (moved_on system.state_bits l) ≡ l
      again l = ap (λ (x : ℕ). record { var = x; negated = l.negated }) (minus system.state_bits l.var)

-- a core against a clause that was moved on has variables of states next
pub core_high : (bits : ℕ) (c core : List Literal) → All (λ l. (2 ≤ l.var) × (l.var < bits + 2)) c → All (λ l. Contains (against_next bits c) (opposite l)) core → All (λ l. bits + 2 ≤ l.var) core
core_high bits c core over a = λ k d lt. at (slice_index_or core k d) (a k d lt)
  where
    raise : (x b y : ℕ) → 2 ≤ x → y ≡ x + b → b + 2 ≤ y
    raise x b y le e = omega (arith, le, e)

    at : (l : Literal) → Contains (against_next bits c) (opposite l) → bits + 2 ≤ l.var
    at l m =
        let f = from_map (λ l. moved_on bits (opposite l)) c (opposite l) m in
        let inside = All-contains (λ l. (2 ≤ l.var) × (l.var < bits + 2)) c f.0 over f.1 in
        raise f.0.var bits l.var inside.0 (sym (ap (λ (k : Literal). k.var) f.2))

-- an answer that is there
pub some_of : {T : Type 0} (r : Option T) (x : T) (P : T → Type 0) → r ≡ Some x → IfSome r P → P x
some_of r x P e h = subst (λ o. IfSome o P) e h

-- what is assumed against a clause of state bits is up to their last one, and has no opposites
pub turned_up_to : (bits v : ℕ) (c : List Literal) → bits + 1 ≤ v → All (λ l. (2 ≤ l.var) × (l.var < bits + 2)) c → All (IsUpTo v) (map opposite c)
turned_up_to bits v c le over = λ k d lt. at (slice_index_or (map opposite c) k d) (from_map opposite c (slice_index_or (map opposite c) k d) (All-contains_itself (map opposite c) k d lt))
  where
    low : (x : ℕ) → x < bits + 2 → x ≤ v
    low x lt = omega (arith, lt, le)

    at : (x : Literal) → (l : Literal) × Contains c l × (opposite l ≡ x) → IsUpTo v x
    at x w = subst (IsUpTo v) w.2 (low w.0.var (All-contains (λ l. (2 ≤ l.var) × (l.var < bits + 2)) c w.0 over w.1).1)

pub turned_apart : (c : List Literal) → HasNoOpposites c → HasNoOpposites (map opposite c)
turned_apart c a = λ k d lt. record { absent = λ o. apart (slice_index_or (map opposite c) k d) (All-contains_itself (map opposite c) k d lt) o }
  where
    apart : (x : Literal) → Contains (map opposite c) x → Contains (map opposite c) (opposite x) → ⊥
    apart x m o =
        let f = from_map opposite c x m in
        let g = from_map opposite c (opposite x) o in
        let is : g.0 ≡ x = sym (opposite-opposite g.0) ∙ ap opposite g.2 ∙ opposite-opposite x in
        (All-contains (LacksOpposite c) c f.0 a f.1).absent (subst (Contains c) (is ∙ sym f.2) g.1)

-- a literal that is known to be true in each first state
pub agreed_one : (system : System) (values : List (Option Bool)) (l : Literal) → AreAgreed system values → 2 ≤ l.var → slice_index_or values (l.var - 2) None ≡ Some (not l.negated) → IsOfFirst system (l ∷ [])
agreed_one system values l agreed low e = λ t first.
    let is : slice_index_or t (l.var - 2) false ≡ not l.negated = agreed (l.var - 2) (not l.negated) e t first in
    true_by (state_values system t) (l ∷ []) l (0, grind arith, refl) (signs l.negated (slice_index_or t (l.var - 2) false) is)
  where
    signs : (n b : Bool) → b ≡ not n → signed n b ≡ true
    signs true true e = sym e
    signs true false e = refl
    signs false true e = refl
    signs false false e = e

pub one_part : (c : List Literal) (l : Literal) → Contains c l → IsPart (l ∷ []) c
one_part c l m = λ k d lt. at k d lt
  where
    at : (k : ℕ) (d : Literal) → k < length (l ∷ []) → Contains c (slice_index_or (l ∷ []) k d)
    at zero d lt = m
    at (suc k) d lt = absurd (omega (arith, lt))

-- one value more
pub agreed_more : (system : System) (values : List (Option Bool)) (v : Option Bool) → AreAgreed system values → IfSome v (λ b. IsAgreed system (length values) b) → AreAgreed system (values ++ v ∷ [])
agreed_more system values v agreed one = λ x b e. by_place x b e (cases_lt x (length values))
  where
    past : (xs : List (Option Bool)) (x : ℕ) → length xs < x → slice_index_or (xs ++ v ∷ []) x None ≡ None
    past [] zero lt = absurd (omega (arith, lt))
    past [] (suc x) lt = refl
    past (y ∷ xs) zero lt = absurd (omega (arith, lt))
    past (y ∷ xs) (suc x) lt = past xs x (grind (arith, lt))

    front : (xs : List (Option Bool)) (x : ℕ) → x < length xs → slice_index_or (xs ++ v ∷ []) x None ≡ slice_index_or xs x None
    front [] x lt = absurd (omega (arith, lt))
    front (y ∷ xs) zero lt = refl
    front (y ∷ xs) (suc x) lt = front xs x (grind (arith, lt))

    last : (xs : List (Option Bool)) → slice_index_or (xs ++ v ∷ []) (length xs) None ≡ v
    last [] = refl
    last (y ∷ xs) = last xs

    by_order : (x : ℕ) (b : Bool) → slice_index_or (values ++ v ∷ []) x None ≡ Some b → (length values < x) ⊎ (x ≤ length values) → length values ≤ x → IsAgreed system x b
    by_order x b e (inl lt) le = absurd (none-some b (sym (past values x lt) ∙ e))
    by_order x b e (inr le') le =
        let is : x ≡ length values = omega (arith, le, le') in
        let told : v ≡ Some b = sym (last values) ∙ ap (λ n. slice_index_or (values ++ v ∷ []) n None) (sym is) ∙ e in
        subst (λ n. IsAgreed system n b) (sym is) (some_of v b (λ b. IsAgreed system (length values) b) told one)

    by_place : (x : ℕ) (b : Bool) → slice_index_or (values ++ v ∷ []) x None ≡ Some b → (x < length values) ⊎ (length values ≤ x) → IsAgreed system x b
    by_place x b e (inl lt) = agreed x b (sym (front values x lt) ∙ e)
    by_place x b e (inr le) = by_order x b e (cases_lt (length values) x) le

-- a question about a bit whose answer is that no first state gives it the other value
pub agreed_bit : (system : System) (fs : List (List (List Literal))) (bad : List (List Literal)) (x : ℕ) (value : Bool) (core : List Literal) → IsFit system → x < system.state_bits →
    IsExcluded system bad fs Nothing 0 (record { var = x + 2; negated = value } ∷ []) core → IsAgreed system x value
agreed_bit system fs bad x value core fit inside c = λ t h. go t h (slice_index_or t x false) refl
  where
    other : Literal
    other = record { var = x + 2; negated = value }

    same : (t : State) (h : IsFirstState system t) → h.1.0 (2 + x) ≡ slice_index_or t x false
    same t h = agrees_at h.1.0 2 x t h.1.1 (subst (λ n. x < n) (sym h.0) inside)

    turn : (x : ℕ) → x + 2 ≡ 2 + x
    turn x = omega arith

    signs : (v b : Bool) → (v ≡ b → ⊥) → signed v b ≡ true
    signs true true n = absurd (n refl)
    signs true false n = refl
    signs false true n = refl
    signs false false n = absurd (n refl)

    decide : (a b : Bool) → (a ≡ b) ⊎ (a ≡ b → ⊥)
    decide true true = inl refl
    decide true false = inr (λ e. cc)
    decide false true = inr (λ e. cc)
    decide false false = inl refl

    go : (t : State) → (h : IsFirstState system t) → (b : Bool) → slice_index_or t x false ≡ b → slice_index_or t x false ≡ value
    go t h b e = by_case (decide value b)
      where
        by_case : (value ≡ b) ⊎ (value ≡ b → ⊥) → slice_index_or t x false ≡ value
        by_case (inl is) = e ∙ sym is
        by_case (inr n) =
            let holds : clause_value h.1.0 core ≡ true = c.follows h.1.0 (met_itself system system.first h.1.0 h.1.2) tt in
            let m = true_literal h.1.0 core holds in
            let is : opposite m.0 ≡ other = one_of (opposite m.0) (All-contains (λ l. Contains (other ∷ []) (opposite l)) core m.0 c.negated m.1) in
            let there : literal_value h.1.0 other ≡ true = ap (signed value) (ap h.1.0 (turn x) ∙ same t h ∙ e) ∙ signs value b n in
            let fails' : literal_value h.1.0 m.0 ≡ false = ap (literal_value h.1.0) (sym (opposite-opposite m.0) ∙ ap opposite is) ∙ literal_value-opposite h.1.0 other ∙ ap not there in
            let both : true ≡ false = sym m.2 ∙ fails' in cc
          where
            one_of : (l : Literal) → Contains (other ∷ []) l → l ≡ other
            one_of l m = by_place m.0 m.1 m.2
              where
                by_place : (i : ℕ) → i < length (other ∷ []) → slice_index_or (other ∷ []) i l ≡ l → l ≡ other
                by_place zero lt e = sym e
                by_place (suc i) lt e = absurd (omega (arith, lt))

-- what was asked in turn changes nothing that a search holds
pub asked_more : (a b c : Guarded) → HasAsked a b → HasAsked b c → HasAsked a c
asked_more a b c f g = λ system list frames h. g system list frames (f system list frames h)

pub kept_stays : (system : System) (bad : List (List Literal)) (frames : List (List (List Literal))) (a b : Guarded) → IsKept system bad frames a → HasAsked a b → IsKept system bad frames b
kept_stays system bad frames a b h asked = asked (apart_system system) (apart_list (places_of system) bad) frames h

pub holds_stays : (system : System) (frames : List (List (List Literal))) (a b : Guarded) → HoldsFrames system frames a → HasAsked a b → HoldsFrames system frames b
holds_stays system frames a b h asked = record { bad = h.bad; kept = kept_stays system h.bad frames a b h.kept asked }

pub askable_stays : (system : System) (a b : Guarded) → IsAskable system a → HasAsked a b → IsAskable system b
askable_stays system a b h asked = record { frames = h.frames; holds = holds_stays system h.frames a b h.holds asked }

pub holds_askable : (system : System) (frames : List (List (List Literal))) (g : Guarded) → HoldsFrames system frames g → IsAskable system g
holds_askable system frames g h = record { frames = frames; holds = h }

-- the clause that a state alone breaks
pub literals_at : (n i : ℕ) (s : State) → i < length s → Contains (literals_from n s) (literal_for (n + i) (slice_index_or s i false))
literals_at n i [] lt = absurd (omega (arith, lt))
literals_at n zero (b ∷ s) lt = (0, grind arith, ap (λ k. literal_for k b) (here n))
  where
    here : (n : ℕ) → n ≡ n + 0
    here n = omega arith
literals_at n (suc i) (b ∷ s) lt =
    let m = literals_at (n + 1) i s (grind (arith, lt)) in
    subst (λ k. Contains (literals_from n (b ∷ s)) (literal_for k (slice_index_or s i false))) (move n i) (suc m.0, (let r = m.1 in grind (arith, r)), m.2)
  where
    move : (n i : ℕ) → n + 1 + i ≡ n + suc i
    move n i = omega arith

pub opposed_in : (s : State) (l : Literal) → IsOpposed 2 s l → Contains (map opposite (literals_from 2 s)) l
opposed_in s l o =
    subst (Contains (map opposite (literals_from 2 s))) (sym o.is_it) (to_map opposite (literals_from 2 s) (literal_for (2 + o.place) (slice_index_or s o.place false)) (literals_at 2 o.place s o.inside))

pub broken_opposed : (s : State) (c : List Literal) → IsPart c (map opposite (literals_from 2 s)) → All (IsOpposed 2 s) c
broken_opposed s c p = λ k d lt. at (slice_index_or c k d) (from_map opposite (literals_from 2 s) (slice_index_or c k d) (p k d lt))
  where
    at : (l : Literal) → (k : Literal) × Contains (literals_from 2 s) k × (opposite k ≡ l) → IsOpposed 2 s l
    at l w = opposed 2 s l (subst (Contains (literals_from 2 s)) (sym (opposite-opposite w.0) ∙ ap opposite w.2) w.1)

pub broken_part : (n : ℕ) (s : State) (core : List Literal) → All (λ l. Contains (literals_from n s) (opposite l)) core → IsPart core (map opposite (literals_from n s))
broken_part n s core a = λ k d lt. at (slice_index_or core k d) (a k d lt)
  where
    at : (l : Literal) → Contains (literals_from n s) (opposite l) → Contains (map opposite (literals_from n s)) l
    at l m = subst (Contains (map opposite (literals_from n s))) (opposite-opposite l) (to_map opposite (literals_from n s) (opposite l) m)

pub opposed_back : (bits : ℕ) (s : State) (core : List Literal) → IsPart core (map opposite (literals_from (bits + 2) s)) → IsPart (map (moved_back bits) core) (map opposite (literals_from 2 s))
opposed_back bits s core p = λ k d lt. opposed_in s (slice_index_or (map (moved_back bits) core) k d) (all_back bits s core next_ones k d lt)
  where
    at : (l : Literal) → (k : Literal) × Contains (literals_from (bits + 2) s) k × (opposite k ≡ l) → IsOpposed (bits + 2) s l
    at l w = opposed (bits + 2) s l (subst (Contains (literals_from (bits + 2) s)) (sym (opposite-opposite w.0) ∙ ap opposite w.2) w.1)

    next_ones : All (IsOpposed (bits + 2) s) core
    next_ones = λ k d lt. at (slice_index_or core k d) (from_map opposite (literals_from (bits + 2) s) (slice_index_or core k d) (p k d lt))

pub next_above : (bits : ℕ) (s : State) (core : List Literal) → IsPart core (map opposite (literals_from (bits + 2) s)) → All (λ l. bits + 2 ≤ l.var) core
next_above bits s core p = λ k d lt. at (slice_index_or core k d) (from_map opposite (literals_from (bits + 2) s) (slice_index_or core k d) (p k d lt))
  where
    at : (l : Literal) → (k : Literal) × Contains (literals_from (bits + 2) s) k × (opposite k ≡ l) → bits + 2 ≤ l.var
    at l w = high_enough bits s l (opposed (bits + 2) s l (subst (Contains (literals_from (bits + 2) s)) (sym (opposite-opposite w.0) ∙ ap opposite w.2) w.1))

module _ (system : System) where
  -- what stands between the two cores of a state may be put into the frames up to a number
  pub may_stand : (fs : List (List (List Literal))) (level : ℕ) (s : State) (first after c : List Literal) → IsState system s → IsPart c (map opposite (literals_from 2 s)) → IsPart first c → IsPart after c →
      IsOfFirst system first → IsAfter system fs level after → MayStand system fs level c
  may_stand fs level s first after c e part one other f a = record {
    over_bits = opposed_over system.state_bits s c e (broken_opposed s c part);
    apart = none_apart s c (broken_opposed s c part);
    first = first_whole system first c one f;
    after = after_whole system fs level after c other a;
  }

  -- a part of a clause that may stand, which stands itself
  pub part_stands : (fs : List (List (List Literal))) (level : ℕ) (c d : List Literal) → IsOverBits system c → HasNoOpposites c → IsPart d c → IsOfFirst system d → IsAfter system fs level d → MayStand system fs level d
  part_stands fs level c d over apart part first after = record {
    over_bits = part_all (λ l. (2 ≤ l.var) × (l.var < system.state_bits + 2)) d c part over;
    apart = part_apart d c part apart;
    first = first;
    after = after;
  }

  pub blocks_of : (fs : List (List (List Literal))) (level : ℕ) (s : State) (c : List Literal) → 0 < level → MayStand system fs level c → IsPart c (map opposite (literals_from 2 s)) → Blocks system fs level s c
  blocks_of fs level s c some m part = record {
    from_one = some;
    over_bits = m.over_bits;
    apart = m.apart;
    first = m.first;
    after = m.after;
    excludes = all_false s c (broken_opposed s c part);
  }

  -- a core of a question about steps into a state, put back, is true after each step
  pub after_state : (fs : List (List (List Literal))) (level : ℕ) (bad : List (List Literal)) (s : State) (core : List Literal) → IsFit system → IsFramed system fs → IsState system s →
      IsExcluded system bad fs Step (level - 1) (literals_from (system.state_bits + 2) s) core → IsAfter system fs level (map (moved_back system.state_bits) core)
  after_state fs level bad s core fit f e d = λ m r t q h step.
      let at : InNumber system fs (level - 1) r = subst (λ n. InNumber system fs n r) (less level m q) h in
      let v : TotalAssignment = step.2.0 in
      let holds : clause_value v core ≡ true = d.follows v (met_number system fs (level - 1) r v fit f step.2.1 at) (met_itself system system.step v step.2.3) in
      sym (next_over system.state_bits v s t core e step.1 step.2.2 (all_opposed (system.state_bits + 2) s core d.negated)) ∙ holds
    where
      less : (level m : ℕ) → level ≡ suc m → m ≡ level - 1
      less level m q = omega (arith, q)

pub broken_over : (bits : ℕ) (s : State) → length s ≡ bits → All (λ l. (2 ≤ l.var) × (l.var < bits + 2)) (map opposite (literals_from 2 s))
broken_over bits s e = opposed_over bits s (map opposite (literals_from 2 s)) e (broken_opposed s (map opposite (literals_from 2 s)) (part_itself (map opposite (literals_from 2 s))))

-- one element
pub one_all : (P : Literal → Type 0) (l : Literal) → P l → All P (l ∷ [])
one_all P l p = λ k d lt. at k d lt
  where
    at : (k : ℕ) (d : Literal) → k < length (l ∷ []) → P (slice_index_or (l ∷ []) k d)
    at zero d lt = p
    at (suc k) d lt = absurd (omega (arith, lt))

pub one_apart : (l : Literal) → HasNoOpposites (l ∷ [])
one_apart l = one_all (LacksOpposite (l ∷ [])) l (record { absent = λ o. apart (only o) })
  where
    only : Contains (l ∷ []) (opposite l) → opposite l ≡ l
    only m = by_place m.0 m.1 m.2
      where
        by_place : (i : ℕ) → i < length (l ∷ []) → slice_index_or (l ∷ []) i (opposite l) ≡ opposite l → opposite l ≡ l
        by_place zero lt e = sym e
        by_place (suc i) lt e = absurd (omega (arith, lt))

    turned : (b : Bool) → not b ≡ b → ⊥
    turned true e = cc
    turned false e = cc

    apart : opposite l ≡ l → ⊥
    apart e = turned l.negated (ap (λ (k : Literal). k.negated) e)

pub in_front : (xs ys : List Literal) (x : Literal) → Contains xs x → Contains (xs ++ ys) x
in_front [] ys x m = absurd (omega (arith, m.1))
in_front (y ∷ xs) ys x m = by_place m.0 m.1 m.2 (λ r. in_front xs ys x r)
  where
    by_place : (i : ℕ) → i < length (y ∷ xs) → slice_index_or (y ∷ xs) i x ≡ x → (Contains xs x → Contains (xs ++ ys) x) → Contains (y ∷ xs ++ ys) x
    by_place zero lt e more = (0, grind arith, e)
    by_place (suc i) lt e more = let n = more (i, grind (arith, lt), e) in (suc n.0, (let r = n.1 in grind (arith, r)), n.2)

pub take_part : (i : ℕ) (c : List Literal) → IsPart (take i c) c
take_part i c = λ k d lt. from_take i c (slice_index_or (take i c) k d) (All-contains_itself (take i c) k d lt)
  where
    from_take : (i : ℕ) (c : List Literal) (l : Literal) → Contains (take i c) l → Contains c l
    from_take i c l m = subst (λ (r : List Literal). Contains r l) (take-append-drop i c) (in_front (take i c) (drop i c) l m)

-- a part that is marked stands in what is kept of the clause
pub chosen_has : (one two : List Bool) (d c r : List Literal) → IsPart d c → All (λ l. slice_index_or one l.var false ≡ true) d → ((x : ℕ) → slice_index_or one x false ≡ true → slice_index_or two x false ≡ true) →
    r ≡ filter (λ l. slice_index_or two l.var false) c → IsPart d r
chosen_has one two d c r p a stay e = subst (IsPart d) (sym e) (part_marked two d c p (λ k x lt. stay (slice_index_or d k x).var (a k x lt)))

pub chosen_part : (p : Literal → Bool) (c r : List Literal) → r ≡ filter p c → IsPart r c
chosen_part p c r e = subst (λ (d : List Literal). IsPart d c) (sym e) (filter_part p c)
