-- Lists that are met with the same values of the places, and one clause over these more.
use Rattle.std.proofs.Common.{◌≡◌, ◌⊎◌, inl, inr, ◌≤◌, ℕ, true, List, [], ◌∷◌, ◌++◌, ap, ◌∙◌, sym, refl}
use Rattle.std.specs.Prelude.{All, Contains}
use Rattle.std.proofs.lemmas.List.Elements.{All-head, All-tail, Contains-append_left, Contains-push, Contains-push_cases}
use Rattle.sat_clauses.specs.Literal.{Literal}
use Rattle.sat_clauses.specs.Derivation.{IsUpTo}
use Rattle.sat_clauses.specs.Models.{TotalAssignment, clause_value}
use Rattle.sat_clauses.proofs.ModelLemmas.{Satisfies-from_All}
use Rattle.sat_clauses.proofs.ClauseLists.{member_true}
use Rattle.base_values.proofs.ListLaws.{all_from}
use Rattle.cut_frames.specs.GuardedSearch.{Meets, MeetAlike}

-- a clause over the places is what these make it
clause_same : (p : ℕ) (v w : TotalAssignment) (c : List Literal) → ((x : ℕ) → x ≤ p → v x ≡ w x) → All (IsUpTo p) c → clause_value v c ≡ clause_value w c
clause_same p v w [] f low = refl
clause_same p v w (l ∷ c) f low = let one : v l.var ≡ w l.var = f l.var (All-head (IsUpTo p) l c low) in let more = clause_same p v w c f (All-tail (IsUpTo p) l c low) in rw (one, more) refl

module _ (p : ℕ) (c : List Literal) (low : All (IsUpTo p) c) where
  -- one list is met with the values, and so is another, each with the clause
  one_more : (a b : List (List Literal)) (v : TotalAssignment) → (Meets p a v → Meets p b v) → Meets p (a ++ c ∷ []) v → Meets p (b ++ c ∷ []) v
  one_more a b v f m = record { values = n.values; agree = n.agree; all = Satisfies-from_All n.values (b ++ c ∷ []) (all_from (λ d. clause_value n.values d ≡ true) (b ++ c ∷ []) (λ d has. by_push d (Contains-push_cases b c d has))) } where
    before : Meets p a v
    before = record {
      values = m.values;
      agree = m.agree;
      all = Satisfies-from_All m.values a (all_from (λ d. clause_value m.values d ≡ true) a (λ d has. member_true m.values (a ++ c ∷ []) d m.all (Contains-append_left a (c ∷ []) d has)));
    }

    n : Meets p b v
    n = f before

    of_c : clause_value n.values c ≡ true
    of_c = clause_same p n.values m.values c (λ x le. n.agree x le ∙ sym (m.agree x le)) low ∙ member_true m.values (a ++ c ∷ []) c m.all (Contains-push a c)

    by_push : (d : List Literal) → Contains b d ⊎ (c ≡ d) → clause_value n.values d ≡ true
    by_push d (inl has) = member_true n.values b d n.all has
    by_push d (inr e) = ap (clause_value n.values) (sym e) ∙ of_c

-- and so both say the same with it
pub alike_more : (p : ℕ) (a b : List (List Literal)) (c : List Literal) → All (IsUpTo p) c → MeetAlike p a b → MeetAlike p (a ++ c ∷ []) (b ++ c ∷ [])
alike_more p a b c low h = record { stays = λ v m. one_more p c low a b v (h.stays v) m; back = λ v m. one_more p c low b a v (h.back v) m }
