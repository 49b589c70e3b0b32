-- The highest variable of clauses.
use Rattle.std.proofs.Common.{◌≡◌, ℕ, zero, suc, ◌<◌, ◌≤◌, List, [], ◌∷◌, ◌++◌, length, drop, get_or, sym, ap, subst, ◌∙◌, arith}
use Rattle.std.specs.Prelude.{max, All}
use Rattle.std.proofs.lemmas.List.Elements.{All-nil, All-cons}
use Rattle.sat_clauses.specs.Literal.{Literal}
use Rattle.sat_clauses.specs.Derivation.{IsUpTo}
use Rattle.cert_laws.specs.Acceptance.{highest, highest_in}
use Rattle.cert_laws.proofs.Highest.{at_least_one, at_least_one_of}

left : (a b n : ℕ) → max a b ≤ n → a ≤ n
left a b n h = omega (arith, h)

right : (a b n : ℕ) → max a b ≤ n → b ≤ n
right a b n h = omega (arith, h)

-- each literal is at most what the highest is at most
pub all_below : (n : ℕ) (ls : List Literal) → highest_in ls ≤ n → All (IsUpTo n) ls
all_below n [] h = All-nil (IsUpTo n)
all_below n (l ∷ ls) h = All-cons (IsUpTo n) l ls (left l.var (highest_in ls) n h) (all_below n ls (right l.var (highest_in ls) n h))

-- each clause's variables are at most the highest of all
pub each_below : (n : ℕ) (cs : List (List Literal)) (i : ℕ) (x : List Literal) → highest cs ≤ n → i < length cs → x ≡ get_or cs i x → All (IsUpTo n) x
each_below n [] i x h l e = absurd (omega (arith, l))
each_below n (c ∷ cs) zero x h l e = subst (All (IsUpTo n)) (sym e) (all_below n c (left (highest_in c) (highest cs) n h))
each_below n (c ∷ cs) (suc i) x h l e = each_below n cs i x (right (highest_in c) (highest cs) n h) (omega (arith, l)) e

-- from 1 on
from_one : (n : ℕ) → 1 ≤ n → max 1 n ≡ n
from_one n h = omega (arith, h)

pub begin_in : (ls : List Literal) → max 1 (highest_in (drop 0 ls)) ≡ highest_in ls
begin_in ls = from_one (highest_in ls) (at_least_one ls)

pub begin : (cs : List (List Literal)) → max 1 (highest (drop 0 cs)) ≡ highest cs
begin cs = from_one (highest cs) (at_least_one_of cs)

-- one more
grouped : (a b c : ℕ) → max (max a b) c ≡ max a (max b c)
grouped a b c = omega arith

-- two lists
pub of_both : (cs ds : List (List Literal)) → highest (cs ++ ds) ≡ max (highest cs) (highest ds)
of_both [] ds = sym (from_one (highest ds) (at_least_one_of ds))
of_both (c ∷ cs) ds = ap (max (highest_in c)) (of_both cs ds) ∙ sym (grouped (highest_in c) (highest cs) (highest ds))
