-- What was noted stays noted.
use Rattle.std.proofs.Common.{◌≡◌, ◌⊎◌, inl, inr, ℕ, ◌+◌, ◌<◌, ◌≤◌, List, [], ◌∷◌, ◌++◌, length, get_or, set, take, Contains, sym, subst, arith}
use Rattle.std.proofs.lemmas.Bool.{cases_eq, cases_lt}
use Rattle.std.proofs.lemmas.List.{get_or-set_same, get_or-set_other, get_or_append_left, get_or_past, set_past, take_all}
use Rattle.std.proofs.lemmas.List.Elements.{Contains-append_left, Contains-push, All-more, All-weaker, All-nil}
use Rattle.sat_clauses.specs.Literal.{Literal}
use Rattle.sat_clauses.specs.Code.{code_of}
use Rattle.sat_simplify.specs.OccurrenceLists.{noted_at, KeepsNotes, IsNotedAt, HasNoted}

-- a list more keeps all notes
pub keeps_grown : (old : List (List ℕ)) → KeepsNotes old (old ++ [] ∷ [])
keeps_grown old = record { at = λ code i has. by_place code i has (cases_lt code (length old)) } where
  by_place : (code i : ℕ) → Contains (noted_at old code) i → (code < length old) ⊎ (length old ≤ code) → Contains (noted_at (old ++ [] ∷ []) code) i
  by_place code i has (inl lt) = subst (λ r. Contains r i) (sym (get_or_append_left old ([] ∷ []) [] code lt)) has
  by_place code i has (inr ge) = absurd (let none : noted_at old code ≡ [] = get_or_past old code [] ge in let h = subst (λ r. Contains r i) none has in omega (arith, h.1))

-- so does a longer list in the place of one
pub keeps_noted : (old : List (List ℕ)) (code number : ℕ) → KeepsNotes old (set old code (noted_at old code ++ number ∷ []))
keeps_noted old code number = record { at = λ k i has. by_place k i has (cases_eq k code) (cases_lt code (length old)) } where
  by_place : (k i : ℕ) → Contains (noted_at old k) i → (k ≡ code) ⊎ (k ≡ code → ⊥) → (code < length old) ⊎ (length old ≤ code) → Contains (noted_at (set old code (noted_at old code ++ number ∷ [])) k) i
  by_place k i has (inl e) (inl lt) =
      subst (λ r. Contains (noted_at (set old code (noted_at old code ++ number ∷ [])) r) i) (sym e) (subst (λ r. Contains r i) (sym (get_or-set_same old code (noted_at old code ++ number ∷ []) [] lt))
      (Contains-append_left (noted_at old code) (number ∷ []) i (subst (λ r. Contains (noted_at old r) i) e has)))
  by_place k i has (inr ne) _ = subst (λ r. Contains r i) (sym (get_or-set_other old code k (noted_at old code ++ number ∷ []) [] ne)) has
  by_place k i has (inl e) (inr ge) = subst (λ r. Contains (noted_at r k) i) (sym (set_past old code (noted_at old code ++ number ∷ []) ge)) has

pub has_noted : (old : List (List ℕ)) (code number : ℕ) → code < length old → Contains (noted_at (set old code (noted_at old code ++ number ∷ [])) code) number
has_noted old code number lt = subst (λ r. Contains r number) (sym (get_or-set_same old code (noted_at old code ++ number ∷ []) [] lt)) (Contains-push (noted_at old code) number)

pub keeps_itself : (a : List (List ℕ)) → KeepsNotes a a
keeps_itself a = record { at = λ code i has. has }

pub keeps_all : (a b c : List (List ℕ)) → KeepsNotes a b → KeepsNotes b c → KeepsNotes a c
keeps_all a b c f g = record { at = λ code i has. g.at code i (f.at code i has) }

-- a clause is noted literal by literal
pub noted_none : (a : List (List ℕ)) (number : ℕ) → HasNoted a a [] number
noted_none a number = record { has = All-nil (IsNotedAt a number); keeps = keeps_itself a }

pub noted_more : (a b c : List (List ℕ)) (lits : List Literal) (i : ℕ) (l : Literal) (number : ℕ) → i < length lits → l ≡ get_or lits i l → HasNoted a b (take i lits) number → IsNotedAt c number l → KeepsNotes b c → HasNoted a c (take (i + 1) lits) number
noted_more a b c lits i l number lt is before here keeps = record {
  has = All-more (IsNotedAt c number) lits i l lt (All-weaker (IsNotedAt b number) (IsNotedAt c number) (λ m h. keeps.at (code_of m) number h) (take i lits) before.has) (subst (IsNotedAt c number) is here);
  keeps = keeps_all a b c before.keeps keeps;
}

pub noted_all : (a b : List (List ℕ)) (lits : List Literal) (i number : ℕ) → length lits ≤ i → HasNoted a b (take i lits) number → HasNoted a b lits number
noted_all a b lits i number over h = subst (λ r. HasNoted a b r number) (take_all i lits over) h

pub ruleset growing_rules = (keeps_grown, keeps_itself, keeps_all)

pub ruleset noting_rules = (keeps_noted, has_noted, keeps_all)

pub ruleset noted_steps = (noted_none, noted_more, noted_all)
