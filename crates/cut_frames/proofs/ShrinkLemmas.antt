-- What the answers of questions about smaller bad states say, and that the state that is left is minimal.
use Rattle.std.proofs.Common.{◌≡◌, ◌≤◌, ◌<◌, ◌⊎◌, inl, inr, ℕ, zero, suc, ◌+◌, Bool, true, false, not, List, [], ◌∷◌, ◌++◌, refl, sym, ◌∙◌, ap, subst, arith, length, map}
use Rattle.std.specs.Prelude.{slice_index_or, Contains, IsTrue, All, filter, if◌then◌else◌}
use Rattle.std.proofs.lemmas.List.Elements.{All-contains, All-contains_itself, All-append, Contains-append_cases, filter_passes}
use Rattle.sat_clauses.specs.Literal.{Literal, opposite}
use Rattle.sat_clauses.specs.Assignment.{Assignment}
use Rattle.sat_clauses.specs.Hints.{HasNoOpposites}
use Rattle.sat_clauses.specs.Models.{TotalAssignment, literal_value, clause_value, values_of}
use Rattle.sat_clauses.specs.declared.system.System.{System}
use Rattle.sat_clauses.proofs.ModelLemmas.{literal_value-opposite}
use Rattle.sat_clauses.proofs.FalseLemmas.{opposite-opposite}
use Rattle.cut_frames.specs.Chain.{State, state_values, IsOverBits}
use Rattle.cut_frames.specs.Condition.{IsFit}
use Rattle.cut_frames.specs.FrameLists.{InNumber, IsFramed}
use Rattle.cut_frames.specs.Bits.{read_from}
use Rattle.cut_frames.specs.OwnVariables.{IsFound, IsExcluded}
use Rattle.cut_frames.specs.Path.{IsStateMoment, state_in}
use Rattle.cut_frames.specs.Parts.{IsPart}
use Rattle.cut_frames.specs.Minimal.{IsPlain, IsWithin, given_up, IsNeeded, IsMinimal}
use Rattle.cut_frames.specs.declared.guarded.Beside.TheVariants.{Bad}
use Rattle.cut_frames.proofs.PushLemmas.{from_map, to_map}
use Rattle.cut_frames.proofs.PartLemmas.{filter_part, in_front, one_all}
use Rattle.cut_frames.proofs.BitLemmas.{agrees_read, length_read, over_value}
use Rattle.cut_frames.proofs.MomentLemmas.{taken_read}
use Rattle.cut_frames.proofs.LookLemmas.{met_number, met_itself}
use Rattle.base_values.proofs.ListLaws.{to_filter}
use Rattle.sat_simplify.proofs.ClauseLaws.{true_literal}

-- what is assumed: the literals that are given up, and one more
abbrev pub all_assumed : TotalAssignment → List Literal → Literal → List Literal
all_assumed v history more = given_up v history ++ opposite more ∷ []

to_last : (xs : List Literal) (x : Literal) → Contains (xs ++ x ∷ []) x
to_last [] x = (0, grind arith, refl)
to_last (y ∷ xs) x = let m = to_last xs x in (suc m.0, (let r = m.1 in grind (arith, r)), m.2)

one_of : (x y : Literal) → Contains (y ∷ []) x → x ≡ y
one_of x y m = by_place m.0 m.1 m.2
  where
    by_place : (i : ℕ) → i < length (y ∷ []) → slice_index_or (y ∷ []) i x ≡ x → x ≡ y
    by_place zero lt e = sym e
    by_place (suc i) lt e = absurd (omega (arith, lt))

-- a literal that is not true is given up
pub gives_up : (v : TotalAssignment) (history : List Literal) (more l : Literal) → Contains history l → literal_value v l ≡ false → Contains (all_assumed v history more) (opposite l)
gives_up v history more l m f =
    in_front (given_up v history) (opposite more ∷ []) (opposite l) (to_map opposite (filter (λ l. not (literal_value v l)) history) l (to_filter (λ l. not (literal_value v l)) history l m (ap not f)))

pub gives_one : (v : TotalAssignment) (history : List Literal) (more : Literal) → Contains (all_assumed v history more) (opposite more)
gives_one v history more = to_last (given_up v history) (opposite more)

-- what is assumed is a literal turned round that is not true, or the one more
pub from_assumed : (v : TotalAssignment) (history : List Literal) (more l : Literal) → Contains (all_assumed v history more) (opposite l) →
    (Contains history l × (literal_value v l ≡ false)) ⊎ (l ≡ more)
from_assumed v history more l m = by_case (Contains-append_cases (given_up v history) (opposite more ∷ []) (opposite l) m)
  where
    again : (k l : Literal) → opposite k ≡ opposite l → l ≡ k
    again k l e = sym (opposite-opposite l) ∙ ap opposite (sym e) ∙ opposite-opposite k

    turned : (b : Bool) → not b ≡ true → b ≡ false
    turned true e = sym e
    turned false e = refl

    by_case : Contains (given_up v history) (opposite l) ⊎ Contains (opposite more ∷ []) (opposite l) → (Contains history l × (literal_value v l ≡ false)) ⊎ (l ≡ more)
    by_case (inr n) = inr (again more l (sym (one_of (opposite l) (opposite more) n)))
    by_case (inl n) =
        let f = from_map opposite (filter (λ l. not (literal_value v l)) history) (opposite l) n in
        let is : l ≡ f.0 = again f.0 l f.2 in
        let here : Contains history f.0 = All-contains (Contains history) (filter (λ l. not (literal_value v l)) history) f.0 (filter_part (λ l. not (literal_value v l)) history) f.1 in
        inl (subst (λ k. Contains history k × (literal_value v k ≡ false)) (sym is) (here, turned (literal_value v f.0) (All-contains (λ l. not (literal_value v l) ≡ true) (filter (λ l. not (literal_value v l)) history) f.0 (filter_passes (λ l. not (literal_value v l)) history) f.1)))

-- what is assumed is turned round
pub assumed_negated : (v : TotalAssignment) (history : List Literal) (more : Literal) → All IsPlain history → IsPlain more → All (λ l. l.negated ≡ true) (all_assumed v history more)
assumed_negated v history more plain one = λ k d lt. at (slice_index_or (all_assumed v history more) k d) (All-contains_itself (all_assumed v history more) k d lt)
  where
    at : (l : Literal) → Contains (all_assumed v history more) l → l.negated ≡ true
    at l m = by_case (from_assumed v history more (opposite l) (subst (Contains (all_assumed v history more)) (sym (opposite-opposite l)) m))
      where
        turned : (b : Bool) → not b ≡ false → b ≡ true
        turned true e = refl
        turned false e = sym e

        by_case : (Contains history (opposite l) × (literal_value v (opposite l) ≡ false)) ⊎ (opposite l ≡ more) → l.negated ≡ true
        by_case (inl w) = turned l.negated (All-contains IsPlain history (opposite l) plain w.0)
        by_case (inr e) = turned l.negated (ap (λ (k : Literal). k.negated) e ∙ one)

-- literals that are all turned round have no opposites among them
pub negated_apart : (c : List Literal) → All (λ l. l.negated ≡ true) c → HasNoOpposites c
negated_apart c a = λ k d lt. record { absent = λ o. apart (slice_index_or c k d) (a k d lt) (All-contains (λ l. l.negated ≡ true) c (opposite (slice_index_or c k d)) a o) }
  where
    apart : (l : Literal) → l.negated ≡ true → not l.negated ≡ true → ⊥
    apart l e f = let both : false ≡ true = ap not (sym e) ∙ f in cc

-- what holds of the literals turned round holds of what is assumed
pub assumed_all : (P : ℕ → Type 0) (v : TotalAssignment) (history : List Literal) (more : Literal) → All (λ (l : Literal). P l.var) history → P more.var → All (λ (l : Literal). P l.var) (all_assumed v history more)
assumed_all P v history more a one = λ k d lt. at (slice_index_or (all_assumed v history more) k d) (All-contains_itself (all_assumed v history more) k d lt)
  where
    at : (l : Literal) → Contains (all_assumed v history more) l → P l.var
    at l m = by_case (from_assumed v history more (opposite l) (subst (Contains (all_assumed v history more)) (sym (opposite-opposite l)) m))
      where
        by_case : (Contains history (opposite l) × (literal_value v (opposite l) ≡ false)) ⊎ (opposite l ≡ more) → P l.var
        by_case (inl w) = All-contains (λ (l : Literal). P l.var) history (opposite l) a w.0
        by_case (inr e) = subst P (ap (λ (k : Literal). k.var) (sym e)) one

pub within_itself : (history : List Literal) (v : TotalAssignment) → IsWithin history v v
within_itself history v = λ k d lt t. t

pub within_more : (history : List Literal) (u v w : TotalAssignment) → IsWithin history u v → IsWithin history v w → IsWithin history u w
within_more history u v w a b = λ k d lt t. b k d lt (a k d lt t)

module _ (system : System) (bad : List (List Literal)) (frames : List (List (List Literal))) (history : List Literal) where
  -- the literal of an answer's assumptions that is turned round is not true
  opposite_true : (v : TotalAssignment) (l : Literal) → literal_value v (opposite l) ≡ true → literal_value v l ≡ true → ⊥
  opposite_true v l e f = let both : true ≡ false = sym e ∙ literal_value-opposite v l ∙ ap not f in cc

  pub found_within : (i : ℕ) (v : TotalAssignment) (more : Literal) (found : Assignment) → IsFound system bad frames Bad i (all_assumed v history more) found → IsWithin history (values_of found) v
  found_within i v more found m = λ k d lt t. go (slice_index_or history k d) (All-contains_itself history k d lt) t (literal_value v (slice_index_or history k d)) refl
    where
      go : (l : Literal) → Contains history l → IsTrue (literal_value (values_of found) l) → (b : Bool) → literal_value v l ≡ b → IsTrue (literal_value v l)
      go l inside t true e = e
      go l inside t false e = absurd (opposite_true (values_of found) l
          (All-contains (λ l. IsTrue (literal_value (values_of found) l)) (all_assumed v history more) (opposite l) m.assumed (gives_up v history more l inside e)) t)

  pub found_alone : (i : ℕ) (assumed : List Literal) (found : Assignment) → IsFound system bad frames Bad i assumed found → IsFound system bad frames Bad i [] found
  found_alone i assumed found m = record { frame = m.frame; beside = m.beside; assumed = λ k d lt. absurd (omega (arith, lt)) }

  pub found_without : (i : ℕ) (v : TotalAssignment) (more : Literal) (found : Assignment) → IsFound system bad frames Bad i (all_assumed v history more) found → IsNeeded system bad frames history i (values_of found) more
  found_without i v more found m t = absurd (opposite_true (values_of found) more
      (All-contains (λ l. IsTrue (literal_value (values_of found) l)) (all_assumed v history more) (opposite more) m.assumed (gives_one v history more)) t)

  pub not_true : (i : ℕ) (v : TotalAssignment) (l : Literal) → literal_value v l ≡ false → IsNeeded system bad frames history i v l
  not_true i v l f t = let both : true ≡ false = sym t ∙ f in cc

  pub is_needed : (i : ℕ) (v : TotalAssignment) (more : Literal) (core : List Literal) → IsFit system → IsFramed system frames → IsOverBits system history → Contains history more →
      IsExcluded system bad frames Bad i (all_assumed v history more) core → IsNeeded system bad frames history i v more
  is_needed i v more core fit f over one c held t inside is_bad within =
      let w : TotalAssignment = is_bad.1.0 in
      let holds : clause_value w core ≡ true = c.follows w (met_number system frames i t w fit f is_bad.1.1 inside) (met_itself system bad w is_bad.1.2) in
      let m = true_literal w core holds in
      by_case m.0 m.2 (from_assumed v history more m.0 (All-contains (λ l. Contains (all_assumed v history more) (opposite l)) core m.0 c.negated m.1))
    where
      same : (l : Literal) → Contains history l → literal_value is_bad.1.0 l ≡ literal_value (state_values system t) l
      same l m = let o = All-contains (λ l. (2 ≤ l.var) × (l.var < system.state_bits + 2)) history l over m in over_value system.state_bits is_bad.1.0 t l is_bad.0 is_bad.1.1 o.0 o.1

      by_case : (l : Literal) → literal_value is_bad.1.0 l ≡ true → (Contains history l × (literal_value v l ≡ false)) ⊎ (l ≡ more) → IsTrue (literal_value (state_values system t) more)
      by_case l e (inr is) = sym (same more one) ∙ ap (literal_value is_bad.1.0) (sym is) ∙ e
      by_case l e (inl n) =
          let there : IsTrue (literal_value v l) = All-contains (λ l. IsTrue (literal_value (state_values system t) l) → IsTrue (literal_value v l)) history l within n.0 (sym (same l n.0) ∙ e) in
          let both : true ≡ false = sym there ∙ n.1 in cc

  pub needed_less : (i : ℕ) (v w : TotalAssignment) (l : Literal) → Contains history l → IsWithin history w v → IsNeeded system bad frames history i v l → IsNeeded system bad frames history i w l
  needed_less i v w l m within n t s inside is_bad less =
      n (All-contains (λ l. IsTrue (literal_value w l) → IsTrue (literal_value v l)) history l within m t) s inside is_bad (within_more history (state_values system s) w v less within)

  pub all_less : (i : ℕ) (v w : TotalAssignment) (some : List Literal) → All (Contains history) some → IsWithin history w v → All (IsNeeded system bad frames history i v) some → All (IsNeeded system bad frames history i w) some
  all_less i v w some part within a = λ k d lt. needed_less i v w (slice_index_or some k d) (part k d lt) within (a k d lt)

  pub minimal : (last : ℕ) (values a : Assignment) → length frames ≡ suc last → IsOverBits system history → IsStateMoment system values a →
      All (IsNeeded system bad frames history last (values_of values)) history → IsMinimal system bad frames history (state_in system a)
  minimal last values a count over moment needed =
      subst (IsMinimal system bad frames history) (sym (taken_read 2 system.state_bits values a moment.state)) at_read
    where
      s : State
      s = read_from 2 system.state_bits values

      same : (l : Literal) → Contains history l → literal_value (values_of values) l ≡ literal_value (state_values system s) l
      same l m = let o = All-contains (λ l. (2 ≤ l.var) × (l.var < system.state_bits + 2)) history l over m in
          over_value system.state_bits (values_of values) s l (length_read 2 system.state_bits values) (agrees_read 2 system.state_bits values) o.0 o.1

      at_read : IsMinimal system bad frames history s
      at_read t inside is_bad within = λ k d lt holds.
          let m = All-contains_itself history k d lt in
          needed k d lt (same (slice_index_or history k d) m ∙ holds) t (subst (λ n. InNumber system frames n t) (omega (arith, count)) inside) is_bad
          (λ j e in_list there. same (slice_index_or history j e) (All-contains_itself history j e in_list) ∙ within j e in_list there)

-- plain literals turned round
pub turned_all : (P : Literal → Type 0) (c : List Literal) → All (λ (l : Literal). P (opposite l)) c → All P (map opposite c)
turned_all P c a = λ k d lt. at (slice_index_or (map opposite c) k d) (from_map opposite c (slice_index_or (map opposite c) k d) (All-contains_itself (map opposite c) k d lt))
  where
    at : (x : Literal) → (l : Literal) × Contains c l × (opposite l ≡ x) → P x
    at x w = subst P w.2 (All-contains (λ (l : Literal). P (opposite l)) c w.0 a w.1)

pub turned_plain : (c : List Literal) → All IsPlain c → All (λ (l : Literal). l.negated ≡ true) (map opposite c)
turned_plain c a = turned_all (λ (l : Literal). l.negated ≡ true) c (λ k d lt. ap not (a k d lt))

-- one literal more that is given up, or not
pub given_part : (gives : Bool) (old now : List Literal) (lit : Literal) (history : List Literal) → now ≡ (if gives then old ++ opposite lit ∷ [] else old) → IsPart old (map opposite history) → Contains history lit →
    IsPart now (map opposite history)
given_part true old now lit history e part m =
    subst (λ (ls : List Literal). IsPart ls (map opposite history)) (sym e) (All-append (Contains (map opposite history)) old (opposite lit ∷ []) part (one_all (Contains (map opposite history)) (opposite lit) (to_map opposite history lit m)))
given_part false old now lit history e part m = subst (λ (ls : List Literal). IsPart ls (map opposite history)) (sym e) part
