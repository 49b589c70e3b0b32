-- Which clauses stand in frames into which a clause is put: that one, and all that stood there but some of which it is a part.
use Rattle.std.proofs.Common.{◌≡◌, ◌≤◌, ◌<◌, ◌⊎◌, inl, inr, ℕ, Bool, true, false, not, nat_le, ◌&&◌, List, [], ◌∷◌, refl, sym, ◌∙◌, ap, subst, arith, length}
use Rattle.std.specs.Prelude.{Contains, All, filter}
use Rattle.std.proofs.lemmas.Bool.{and_parts, not_from_false}
use Rattle.std.proofs.lemmas.Bool.Decides.{leb_tells}
use Rattle.std.proofs.lemmas.List.{get_or_default}
use Rattle.std.proofs.lemmas.List.Elements.{All-filter, All-push, All-weaker, Contains-get_or, Contains-push, Contains-push_cases, Contains-append_left}
use Rattle.std.proofs.lemmas.List.Sums.{AllPass-from_list_all}
use Rattle.sat_clauses.specs.Literal.{Literal}
use Rattle.sat_simplify.specs.Resolution.{has_literal, subsumes}
use Rattle.sat_simplify.proofs.Members.{contains_from_has}
use Rattle.cut_frames.specs.Chain.{IsPart}
use Rattle.cut_frames.specs.Levels.{standing_in, frames_of, outdone, with_clause, HasGained}
use Rattle.cut_frames.specs.declared.levels.Held.{Held}
use Rattle.cut_frames.specs.declared.levels.Levels.{Levels}
use Rattle.cut_frames.proofs.LevelLaws.{held_in, standing_has, standing_of, gained_from}
use Rattle.base_values.proofs.ListLaws.{from_filter, to_filter}

-- a clause of a frame is that of a member with this number or a higher one
record IsOf (i : ℕ) (hs : List Held) (c : List Literal) : Type 0 where
  held : Held
  inside : Contains hs held
  high : i ≤ held.highest
  is_it : held.clause ≡ c

of_standing : (i : ℕ) (hs : List Held) (c : List Literal) → Contains (standing_in i hs) c → IsOf i hs c
of_standing i hs c m = let s = standing_has i hs c m in record { held = held_in hs s.place; inside = Contains-get_or hs s.place (record { clause = []; highest = 0 }) s.inside; high = s.high; is_it = s.is_it }

standing : (i : ℕ) (hs : List Held) (h : Held) → Contains hs h → i ≤ h.highest → Contains (standing_in i hs) h.clause
standing i hs h m le = subst (λ (g : Held). Contains (standing_in i hs) g.clause) same (standing_of i hs m.0 m.1 (subst (λ (g : Held). i ≤ g.highest) (sym same) le))
  where
    same : held_in hs m.0 ≡ h
    same = get_or_default hs m.0 (record { clause = []; highest = 0 }) h m.1 ∙ m.2

-- a clause that says no more stands in no higher frame, and has the other one as a part
outdone_tells : (j : ℕ) (c : List Literal) (h : Held) → outdone j c h ≡ true → (h.highest ≤ j) × IsPart c h.clause
outdone_tells j c h e =
    let both = and_parts (nat_le h.highest j) (nat_le (length c) (length h.clause) && subsumes c h.clause) e in
    (low both.0 (leb_tells h.highest j), part (and_parts (nat_le (length c) (length h.clause)) (subsumes c h.clause) both.1).1)
  where
    low : nat_le h.highest j ≡ true → ((nat_le h.highest j ≡ true) × (h.highest ≤ j)) ⊎ ((nat_le h.highest j ≡ false) × (j < h.highest)) → h.highest ≤ j
    low t (inl le) = le.1
    low t (inr gt) = let both : true ≡ false = sym t ∙ gt.0 in cc

    part : subsumes c h.clause ≡ true → IsPart c h.clause
    part t = All-weaker (λ l. has_literal l h.clause ≡ true) (Contains h.clause) (λ l has. contains_from_has l h.clause has) c (AllPass-from_list_all (λ l. has_literal l h.clause) c t)

module _ (j : ℕ) (c : List Literal) (hs : List Held) where
  abbrev pub newest : Held
  newest = record { clause = c; highest = j }

  abbrev left : List Held
  left = filter (λ h. not (outdone j c h)) hs

  put_here : (i : ℕ) → i ≤ j → Contains (standing_in i (with_clause j c hs)) c
  put_here i le = standing i (with_clause j c hs) newest (Contains-push left newest) le

  put_stays : (i : ℕ) (d : List Literal) → Contains (standing_in i hs) d → Contains (standing_in i (with_clause j c hs)) d ⊎ ((i ≤ j) × IsPart c d)
  put_stays i d m = by_held (of_standing i hs d m)
    where
      between : (a b n : ℕ) → a ≤ b → b ≤ n → a ≤ n
      between a b n le lt = omega (arith, le, lt)

      by_held : IsOf i hs d → Contains (standing_in i (with_clause j c hs)) d ⊎ ((i ≤ j) × IsPart c d)
      by_held o = by_test (outdone j c o.held) refl
        where
          by_test : (b : Bool) → outdone j c o.held ≡ b → Contains (standing_in i (with_clause j c hs)) d ⊎ ((i ≤ j) × IsPart c d)
          by_test true e = let t = outdone_tells j c o.held e in inr (between i o.held.highest j o.high t.0, subst (IsPart c) o.is_it t.1)
          by_test false e = inl (subst (Contains (standing_in i (with_clause j c hs))) o.is_it
              (standing i (with_clause j c hs) o.held (Contains-append_left left (newest ∷ []) o.held (to_filter (λ h. not (outdone j c h)) hs o.held o.inside (not_from_false (outdone j c o.held) e))) o.high))

  put_only : (i : ℕ) (d : List Literal) → Contains (standing_in i (with_clause j c hs)) d → Contains (standing_in i hs) d ⊎ ((d ≡ c) × (i ≤ j))
  put_only i d m = by_held (of_standing i (with_clause j c hs) d m)
    where
      by_held : IsOf i (with_clause j c hs) d → Contains (standing_in i hs) d ⊎ ((d ≡ c) × (i ≤ j))
      by_held o = by_case (Contains-push_cases left newest o.held o.inside)
        where
          by_case : Contains left o.held ⊎ (newest ≡ o.held) → Contains (standing_in i hs) d ⊎ ((d ≡ c) × (i ≤ j))
          by_case (inl m) = inl (subst (Contains (standing_in i hs)) o.is_it (standing i hs o.held (from_filter (λ h. not (outdone j c h)) hs o.held m) o.high))
          by_case (inr e) = inr (sym (ap (λ (g : Held). g.clause) e ∙ o.is_it), subst (λ n. i ≤ n) (sym (ap (λ (g : Held). g.highest) e)) o.high)

  -- what holds of each clause and of the new one holds of each after that
  pub put_all : (P : Held → Type 0) → All P hs → P newest → All P (with_clause j c hs)
  put_all P all here = All-push P left newest (All-filter (λ h. not (outdone j c h)) P hs all) here

pub gained_put : (l now : Levels) (j : ℕ) (c : List Literal) → now.last ≡ l.last → j ≤ l.last → now.held.items ≡ with_clause j c l.held.items → HasGained j c (frames_of l) (frames_of now)
gained_put l now j c last le items = gained_from l now j c last le
    (λ i below. subst (λ hs. Contains (standing_in i hs) c) (sym items) (put_here j c l.held.items i below))
    (λ i d m. subst (λ hs. Contains (standing_in i hs) d ⊎ ((i ≤ j) × IsPart c d)) (sym items) (put_stays j c l.held.items i d m))
    (λ i d m. put_only j c l.held.items i d (subst (λ hs. Contains (standing_in i hs) d) items m))
