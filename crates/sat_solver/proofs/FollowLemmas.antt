-- The store's trail begins with the literals that it has followed, whatever is made true or taken back.
use Rattle.std.proofs.Common.{◌≡◌, ℕ, ◌+◌, ◌≤◌, Bool, List, [], ◌∷◌, ◌++◌, length, take, reverse, replicate, Option, None, Some, refl, sym, ap, ◌∙◌, arith}
use Rattle.std.specs.Prelude.{slice_get}
use Rattle.std.proofs.lemmas.List.{map-append, take-map, take-take, take-append-le, replicate-append-replicate, length-map, length-take, length-append, reverse-reverse, reverse-append}
use Rattle.sat_clauses.specs.Literal.{Literal}
use Rattle.sat_clauses.specs.Assignment.{Assignment, value_of, made_true}
use Rattle.sat_clauses.specs.Trail.{assigned_from, assigned_by}
use Rattle.sat_clauses.proofs.TrailLemmas.{assigned_from_push}
use Rattle.sat_solver.specs.declared.trail.TrailEntry.{TrailEntry}
use Rattle.sat_solver.specs.TrailRecord.{TrailValue}
use Rattle.sat_solver.specs.declared.solve.Verdict.{Verdict}
use Rattle.sat_solver.specs.declared.solve.Verdict.TheVariants.{Sat, Unsat}
use Rattle.sat_solver.specs.Trail.{assigned, IsFresh, below, lits_of, IsFollowed, IsIdle}
use Rattle.sat_solver.specs.Search.{IsSound}
use Rattle.sat_solver.specs.Verdict.{IsAdvance}
use Rattle.sat_solver.proofs.TrailLemmas.{slice_push}
use Rattle.sat_solver.proofs.LessonLemmas.{fresh_at}

lits_of_push : (xs : List TrailEntry) (e : TrailEntry) → lits_of (xs ++ e ∷ []) ≡ lits_of xs ++ e.lit ∷ []
lits_of_push xs e = map-append (λ (d : TrailEntry). d.lit) xs (e ∷ [])

lits_of_take : (k : ℕ) (xs : List TrailEntry) → take k (lits_of xs) ≡ lits_of (take k xs)
lits_of_take k xs = take-map (λ (d : TrailEntry). d.lit) k xs

length-lits_of : (xs : List TrailEntry) → length (lits_of xs) ≡ length xs
length-lits_of xs = length-map xs (λ (d : TrailEntry). d.lit)

-- nothing is followed yet
pub followed_none : (s : List Literal) (t : TrailValue) → t.followed ≡ 0 → IsFollowed s t
followed_none s t none = record {
  there = omega arith;
  within = omega arith;
  same = ap (λ k. take k s) none ∙ sym (ap (λ k. take k (lits_of t.entries)) none);
}

-- one more literal is made true
pub followed_push : (s : List Literal) (t u : TrailValue) (e : TrailEntry) → u.followed ≡ t.followed → u.entries ≡ t.entries ++ e ∷ [] → IsFollowed s t → IsFollowed s u
followed_push s t u e same longer h = record {
  there = let w = h.there in omega arith;
  within = omega (arith, h.within, ap length longer, length-append t.entries (e ∷ []));
  same = ap (λ k. take k s) same
      ∙ (h.same
      ∙ (sym (take-append-le t.followed (lits_of t.entries) (e.lit ∷ []) (omega (arith, h.within, length-lits_of t.entries)))
      ∙ (ap (take t.followed) (sym (lits_of_push t.entries e) ∙ ap lits_of (sym longer)) ∙ ap (λ k. take k (lits_of u.entries)) (sym same))));
}

-- literals are taken back
pub followed_undone : (s : List Literal) (t u : TrailValue) (k : ℕ) → u.followed ≤ t.followed → u.followed ≤ k → u.entries ≡ take k t.entries → IsFollowed s t → IsFollowed s u
followed_undone s t u k fewer within shorter h = record {
  there = let w = h.there in omega arith;
  within = omega (arith, h.within, ap length shorter, length-take k t.entries);
  same = sym (take-take u.followed t.followed s fewer)
      ∙ (ap (take u.followed) h.same
      ∙ (take-take u.followed t.followed (lits_of t.entries) fewer
      ∙ (sym (take-take u.followed k (lits_of t.entries) within)
      ∙ ap (take u.followed) (lits_of_take k t.entries ∙ ap lits_of (sym shorter)))));
}

-- what the store has once it took back what it had beyond what it has followed
pub followed_begins : (s : List Literal) (t : TrailValue) → IsFollowed s t → take t.followed s ≡ lits_of (take t.followed t.entries)
followed_begins s t h = h.same ∙ lits_of_take t.followed t.entries

-- the store made one more of them true
pub begins_more : (s : List Literal) (xs : List TrailEntry) (i : ℕ) (e : TrailEntry) → slice_get xs i ≡ Some e → s ≡ lits_of (take i xs) → s ++ e.lit ∷ [] ≡ lits_of (take (i + 1) xs)
begins_more s xs i e at is = ap (λ ls. ls ++ e.lit ∷ []) is ∙ (sym (lits_of_push (take i xs) e) ∙ ap lits_of (sym (slice_push xs i e at)))

-- all are followed
pub followed_all : (s : List Literal) (t : TrailValue) → t.followed ≡ length t.entries → s ≡ lits_of t.entries → IsFollowed s t
followed_all s t all is = record {
  there = omega (arith, all, ap length is, length-lits_of t.entries);
  within = omega (arith, all);
  same = ap (take t.followed) is;
}

-- the entries, the newest first, and their literals in order make the same assignment
assigned_same : (n : ℕ) (es : List TrailEntry) → assigned n es ≡ assigned_from (replicate n None) (lits_of (reverse es))
assigned_same n [] = refl
assigned_same n (e ∷ es) =
    let start : Assignment = replicate n None in
    ap (λ (a : Assignment). made_true a e.lit) (assigned_same n es)
    ∙ (sym (assigned_from_push start (lits_of (reverse es)) e.lit)
    ∙ ap (assigned_from start) (sym (lits_of_push (reverse es) e) ∙ ap lits_of (sym (reverse-append (e ∷ []) es))))

-- where the store has made true the literals before place i, the one at i is in range and free
pub next_in_range : (vars n : ℕ) (xs : List TrailEntry) (i : ℕ) (e : TrailEntry) → vars + 1 ≡ n → slice_get xs i ≡ Some e → IsFresh n (reverse xs) → e.lit.var ≤ vars
next_in_range vars n xs i e places at fresh = omega (arith, (fresh_at n xs i e at fresh).1)

pub next_free : (vars n : ℕ) (s : List Literal) (xs : List TrailEntry) (i : ℕ) (e : TrailEntry) → vars + 1 ≡ n → slice_get xs i ≡ Some e → IsFresh n (reverse xs) → s ≡ lits_of (take i xs) → value_of (assigned_by vars s) e.lit ≡ None
next_free vars n s xs i e places at fresh is =
    let same : assigned_by vars s ≡ assigned n (below xs i) =
    ap (assigned_by vars) (is ∙ ap lits_of (sym (reverse-reverse (take i xs))))
    ∙ (sym (assigned_same (vars + 1) (below xs i)) ∙ ap (λ m. assigned m (below xs i)) places) in
    ap (λ (a : Assignment). value_of a e.lit) same ∙ (fresh_at n xs i e at fresh).2

-- a trail without literals, once all were taken back or one more variable came
pub idle_undone : (vars : ℕ) (t u : TrailValue) → length t.values ≡ vars + 1 → u.values ≡ assigned (length t.values) [] → u.entries ≡ [] → u.followed ≤ 0 → IsIdle vars u
idle_undone vars t u places values none fewer = record {
  values = values ∙ ap (λ n. replicate n None) places;
  entries = none;
  followed = omega arith;
}

pub idle_more : (vars : ℕ) (t u : TrailValue) → IsIdle vars t → u.values ≡ t.values ++ None ∷ [] → u.entries ≡ t.entries → u.followed ≡ t.followed → IsIdle (vars + 1) u
idle_more vars t u idle values entries followed = record {
  values = values ∙ (ap (λ (a : Assignment). a ++ None ∷ []) idle.values ∙ replicate-append-replicate (vars + 1) 1 None);
  entries = entries ∙ idle.entries;
  followed = followed ∙ idle.followed;
}

-- how much is followed plays no part in the rest
pub sound_followed : (clauses : List (List Literal)) (assumptions : List Literal) (t : TrailValue) (k : ℕ) → IsSound clauses assumptions t → IsSound clauses assumptions (record t { followed = k })
sound_followed clauses assumptions t k h = record {
  lawful = record { matches = h.lawful.matches; fresh = h.lawful.fresh };
  in_range = h.in_range;
  justified = h.justified;
}

pub advance_followed : (cores : Bool) (clauses : List (List Literal)) (assumptions : List Literal) (t u : TrailValue) (k : ℕ) (answer : Option Verdict) → IsAdvance cores clauses assumptions (record t { followed = k }) u answer → IsAdvance cores clauses assumptions t u answer
advance_followed cores clauses assumptions t u k None h = h
advance_followed cores clauses assumptions t u k (Some (Sat a)) h = h
advance_followed cores clauses assumptions t u k (Some (Unsat c)) h = h
