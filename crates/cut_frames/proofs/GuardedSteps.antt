-- What each step of a search over guarded clauses leaves of its variables, guards and clauses.
use Rattle.std.proofs.Common.{◌≡◌, ◌≤◌, ◌<◌, ℕ, ◌+◌, ◌^◌, Bool, true, false, List, [], ◌∷◌, ◌++◌, length, refl, sym, ◌∙◌, ap, subst, arith, length-append, append_assoc, Option, replicate}
use Rattle.std.specs.Prelude.{slice_index_or, All}
use Rattle.std.proofs.lemmas.List.{append-nil, length-replicate}
use Rattle.std.proofs.lemmas.List.Elements.{All-append, All-nil, All-cons}
use Rattle.sat_clauses.specs.Literal.{Literal, plain, opposite}
use Rattle.sat_clauses.specs.declared.step.Step.{Step}
use Rattle.sat_solver.specs.KeptRecord.{KeptValue}
use Rattle.sat_solver.specs.LearnedClauses.{added_of, HasLearned}
use Rattle.sat_solver.specs.Search.{with_steps}
use Rattle.sat_solver.proofs.KeptLemmas.{length_with_steps, added_learned}
use Rattle.cut_frames.specs.GuardedSearch.{added_in, IsGuardIn, IsWell, HasSameGuards, HasPut, HasWidened, HasNewBad, HasNewFrame}
use Rattle.cut_frames.specs.declared.guarded.Guarded.{Guarded}

-- a clause that was added stands at the end of those that were added
added_push : (cs : List (List Literal)) (ms : List Bool) (c : List Literal) → length ms ≡ length cs → added_of (cs ++ c ∷ []) (ms ++ false ∷ []) ≡ added_of cs ms ++ c ∷ []
added_push [] [] c e = refl
added_push [] (m ∷ ms) c e = absurd (omega (arith, e))
added_push (d ∷ cs) [] c e = absurd (omega (arith, e))
added_push (d ∷ cs) (true ∷ ms) c e = added_push cs ms c (omega (arith, e))
added_push (d ∷ cs) (false ∷ ms) c e = ap (λ ds. d ∷ ds) (added_push cs ms c (omega (arith, e)))

marked_learned : (cs : List (List Literal)) (ms : List Bool) (ls : List Step) → length ms ≡ length cs → length (ms ++ replicate (length ls) true) ≡ length (with_steps cs ls)
marked_learned cs ms ls e = omega (arith, e, length-append ms (replicate (length ls) true), length-replicate (length ls) true, length_with_steps cs ls)

marked_push : (cs : List (List Literal)) (ms : List Bool) (c : List Literal) → length ms ≡ length cs → length (ms ++ false ∷ []) ≡ length (cs ++ c ∷ [])
marked_push cs ms c e = omega (arith, e, length-append ms (false ∷ []), length-append cs (c ∷ []))

-- a guard is one of a search with more variables
pub guard_raised : (p q v w : ℕ) (l : Literal) → q ≡ p → v ≤ w → IsGuardIn p v l → IsGuardIn q w l
guard_raised p q v w l e le g = record { positive = g.positive; above = subst (λ n. n < l.var) (sym e) g.above; in_range = up l.var v w g.in_range le } where
  up : (x v w : ℕ) → x ≤ v → v ≤ w → x ≤ w
  up x v w a b = omega (arith, a, b)

pub guards_raised : (p q v w : ℕ) (ls : List Literal) → q ≡ p → v ≤ w → All (IsGuardIn p v) ls → All (IsGuardIn q w) ls
guards_raised p q v w ls e le a = λ k d lt. guard_raised p q v w (slice_index_or ls k d) e le (a k d lt)

-- a search with the same guards, and no fewer variables
pub well_kept : (old new : Guarded) → IsWell old → HasSameGuards old new → new.vars ≡ new.search.kept.vars → old.search.kept.vars ≤ new.search.kept.vars → new.search.kept.vars < 2 ^ 62 →
    length new.search.kept.marks ≡ length new.search.kept.clauses → IsWell new
well_kept old new w s vars le small marked = record {
  low = subst (λ (n : ℕ). n < 2 ^ 31) (sym s.places) w.low;
  vars = vars;
  small = small;
  room = subst (λ (n : ℕ). n ≤ new.search.kept.vars) (sym s.places) (up old.places old.search.kept.vars new.search.kept.vars w.room le);
  some = subst (λ (ls : List Literal). 0 < length ls) (sym s.frames) w.some;
  frames = subst (All (IsGuardIn new.places new.search.kept.vars)) (sym s.frames) (guards_raised old.places new.places old.search.kept.vars new.search.kept.vars old.frames.items s.places le w.frames);
  step = subst (IsGuardIn new.places new.search.kept.vars) (sym s.step) (guard_raised old.places new.places old.search.kept.vars new.search.kept.vars old.step s.places le w.step);
  bad = subst (IsGuardIn new.places new.search.kept.vars) (sym s.bad) (guard_raised old.places new.places old.search.kept.vars new.search.kept.vars old.bad s.places le w.bad);
  marked = marked;
}
  where
    up : (x v w : ℕ) → x ≤ v → v ≤ w → x ≤ w
    up x v w a b = omega (arith, a, b)

pub equal_most : (v w : ℕ) → w ≡ v → v ≤ w
equal_most v w e = omega (arith, e)

one_over : (v w n : ℕ) → w ≡ v + n → v ≤ w
one_over v w n e = omega (arith, e)

-- after a clause was added to the search
pub put_well : (old new : Guarded) (c : List Literal) → IsWell old → HasSameGuards old new → new.vars ≡ old.vars →
    new.search.kept ≡ record old.search.kept { clauses = old.search.kept.clauses ++ c ∷ []; marks = old.search.kept.marks ++ false ∷ [] } → HasPut old new (c ∷ [])
put_well old new c w s vars kept = record {
  well = well_kept old new w s (vars ∙ w.vars ∙ sym same) (equal_most old.search.kept.vars new.search.kept.vars same) (subst (λ (n : ℕ). n < 2 ^ 62) (sym same) w.small)
      (ap (λ (k : KeptValue). length k.marks) kept ∙ marked_push old.search.kept.clauses old.search.kept.marks c w.marked ∙ sym (ap (λ (k : KeptValue). length k.clauses) kept));
  guards = s;
  vars = same;
  added = ap (λ (k : KeptValue). added_of k.clauses k.marks) kept ∙ added_push old.search.kept.clauses old.search.kept.marks c w.marked;
}
  where
    same : new.search.kept.vars ≡ old.search.kept.vars
    same = ap (λ (k : KeptValue). k.vars) kept

pub same_itself : (g : Guarded) → HasSameGuards g g
same_itself g = record { places = refl; simple = refl; step = refl; bad = refl; frames = refl }

pub same_both : (a b c : Guarded) → HasSameGuards a b → HasSameGuards b c → HasSameGuards a c
same_both a b c s t = record { places = t.places ∙ s.places; simple = t.simple ∙ s.simple; step = t.step ∙ s.step; bad = t.bad ∙ s.bad; frames = t.frames ∙ s.frames }

pub put_none : (g : Guarded) → IsWell g → HasPut g g []
put_none g w = record { well = w; guards = same_itself g; vars = refl; added = sym (append-nil (added_in g)) }

pub put_both : (a b c : Guarded) (cs ds : List (List Literal)) → HasPut a b cs → HasPut b c ds → HasPut a c (cs ++ ds)
put_both a b c cs ds p q = record {
  well = q.well;
  guards = same_both a b c p.guards q.guards;
  vars = q.vars ∙ p.vars;
  added = q.added ∙ ap (λ (es : List (List Literal)). es ++ ds) p.added ∙ append_assoc (added_in a) cs ds;
}

-- after a variable more
pub widen_more : (a b c : Guarded) (n : ℕ) → HasWidened a b n → HasSameGuards b c → c.vars ≡ b.search.kept.vars + 1 → b.search.kept.vars + 1 < 2 ^ 62 →
    c.search.kept ≡ record b.search.kept { vars = b.search.kept.vars + 1 } → HasWidened a c (n + 1)
widen_more a b c n h s vars small kept = record {
  well = well_kept b c h.well s (vars ∙ sym more) (one_over b.search.kept.vars c.search.kept.vars 1 more) (subst (λ (n : ℕ). n < 2 ^ 62) (sym more) small)
      (ap (λ (k : KeptValue). length k.marks) kept ∙ h.well.marked ∙ sym (ap (λ (k : KeptValue). length k.clauses) kept));
  guards = same_both a b c h.guards s;
  vars = more ∙ sum b.search.kept.vars a.search.kept.vars n h.vars;
  added = ap (λ (k : KeptValue). added_of k.clauses k.marks) kept ∙ h.added;
}
  where
    more : c.search.kept.vars ≡ b.search.kept.vars + 1
    more = ap (λ (k : KeptValue). k.vars) kept

    sum : (b a n : ℕ) → b ≡ a + n → b + 1 ≡ a + (n + 1)
    sum b a n e = omega (arith, e)

above_room : (p v : ℕ) → p ≤ v → p < v + 1
above_room p v le = omega (arith, le)

reached : (v w : ℕ) → w ≡ v + 1 → v + 1 ≤ w
reached v w e = omega (arith, e)

-- a variable that was made serves as a guard
new_guard : (old b : Guarded) → IsWell old → b.places ≡ old.places → b.search.kept.vars ≡ old.search.kept.vars + 1 → IsGuardIn b.places b.search.kept.vars (plain (old.search.kept.vars + 1))
new_guard old b w places vars = record {
  positive = refl;
  above = subst (λ (n : ℕ). n < old.search.kept.vars + 1) (sym places) (above_room old.places old.search.kept.vars w.room);
  in_range = reached old.search.kept.vars b.search.kept.vars vars;
}

-- another guard of bad states
pub bad_renewed : (old a b new : Guarded) → IsWell old → HasPut old a ((opposite old.bad ∷ []) ∷ []) → HasWidened a b 1 → new.search ≡ b.search → new.vars ≡ b.vars → new.places ≡ b.places → new.simple ≡ b.simple → new.step ≡ b.step →
    new.frames.items ≡ b.frames.items → new.bad ≡ plain b.vars → HasNewBad old new
bad_renewed old a b new w p h search vars places simple step frames bad = record {
  well = record {
    low = subst (λ (n : ℕ). n < 2 ^ 31) (sym places) h.well.low;
    vars = vars ∙ h.well.vars ∙ sym same;
    small = subst (λ (n : ℕ). n < 2 ^ 62) (sym same) h.well.small;
    room = subst (λ (n : ℕ). n ≤ new.search.kept.vars) (sym places) (subst (λ (n : ℕ). b.places ≤ n) (sym same) h.well.room);
    some = subst (λ (ls : List Literal). 0 < length ls) (sym frames) h.well.some;
    frames = subst (All (IsGuardIn new.places new.search.kept.vars)) (sym frames) (guards_raised b.places new.places b.search.kept.vars new.search.kept.vars b.frames.items places le h.well.frames);
    step = subst (IsGuardIn new.places new.search.kept.vars) (sym step) (guard_raised b.places new.places b.search.kept.vars new.search.kept.vars b.step places le h.well.step);
    bad = subst (IsGuardIn new.places new.search.kept.vars) (sym named) (guard_raised b.places new.places b.search.kept.vars new.search.kept.vars (plain (old.search.kept.vars + 1)) places le
        (new_guard old b w (h.guards.places ∙ p.guards.places) risen));
    marked = ap (λ s. length s.kept.marks) search ∙ h.well.marked ∙ sym (ap (λ s. length s.kept.clauses) search);
  };
  places = places ∙ h.guards.places ∙ p.guards.places;
  simple = simple ∙ h.guards.simple ∙ p.guards.simple;
  step = step ∙ h.guards.step ∙ p.guards.step;
  bad = named;
  frames = frames ∙ h.guards.frames ∙ p.guards.frames;
  vars = same ∙ risen;
  added = ap (λ s. added_of s.kept.clauses s.kept.marks) search ∙ h.added ∙ p.added;
}
  where
    same : new.search.kept.vars ≡ b.search.kept.vars
    same = ap (λ s. s.kept.vars) search

    le : b.search.kept.vars ≤ new.search.kept.vars
    le = equal_most b.search.kept.vars new.search.kept.vars same

    risen : b.search.kept.vars ≡ old.search.kept.vars + 1
    risen = h.vars ∙ ap (λ (n : ℕ). n + 1) p.vars

    named : new.bad ≡ plain (old.search.kept.vars + 1)
    named = bad ∙ ap plain (h.well.vars ∙ risen)

-- the guard of a frame more
pub frame_added : (old b new : Guarded) → IsWell old → HasWidened old b 1 → new.search ≡ b.search → new.vars ≡ b.vars → new.places ≡ b.places → new.simple ≡ b.simple → new.step ≡ b.step → new.bad ≡ b.bad →
    new.frames.items ≡ b.frames.items ++ plain b.vars ∷ [] → HasNewFrame old new
frame_added old b new w h search vars places simple step bad frames = record {
  well = record {
    low = subst (λ (n : ℕ). n < 2 ^ 31) (sym places) h.well.low;
    vars = vars ∙ h.well.vars ∙ sym same;
    small = subst (λ (n : ℕ). n < 2 ^ 62) (sym same) h.well.small;
    room = subst (λ (n : ℕ). n ≤ new.search.kept.vars) (sym places) (subst (λ (n : ℕ). b.places ≤ n) (sym same) h.well.room);
    some = subst (λ (ls : List Literal). 0 < length ls) (sym named) (longer old.frames.items (plain (old.search.kept.vars + 1)));
    frames = subst (All (IsGuardIn new.places new.search.kept.vars)) (sym named) (All-append (IsGuardIn new.places new.search.kept.vars) old.frames.items (plain (old.search.kept.vars + 1) ∷ []) before
        (All-cons (IsGuardIn new.places new.search.kept.vars) (plain (old.search.kept.vars + 1)) [] here (All-nil (IsGuardIn new.places new.search.kept.vars))));
    step = subst (IsGuardIn new.places new.search.kept.vars) (sym step) (guard_raised b.places new.places b.search.kept.vars new.search.kept.vars b.step places le h.well.step);
    bad = subst (IsGuardIn new.places new.search.kept.vars) (sym bad) (guard_raised b.places new.places b.search.kept.vars new.search.kept.vars b.bad places le h.well.bad);
    marked = ap (λ s. length s.kept.marks) search ∙ h.well.marked ∙ sym (ap (λ s. length s.kept.clauses) search);
  };
  places = places ∙ h.guards.places;
  simple = simple ∙ h.guards.simple;
  step = step ∙ h.guards.step;
  bad = bad ∙ h.guards.bad;
  frames = named;
  vars = same ∙ h.vars;
  added = ap (λ s. added_of s.kept.clauses s.kept.marks) search ∙ h.added;
}
  where
    same : new.search.kept.vars ≡ b.search.kept.vars
    same = ap (λ s. s.kept.vars) search

    le : b.search.kept.vars ≤ new.search.kept.vars
    le = equal_most b.search.kept.vars new.search.kept.vars same

    named : new.frames.items ≡ old.frames.items ++ plain (old.search.kept.vars + 1) ∷ []
    named = frames ∙ ap (λ (ls : List Literal). ls ++ plain b.vars ∷ []) h.guards.frames ∙ ap (λ (n : ℕ). old.frames.items ++ plain n ∷ []) (h.well.vars ∙ h.vars)

    before : All (IsGuardIn new.places new.search.kept.vars) old.frames.items
    before = subst (All (IsGuardIn new.places new.search.kept.vars)) h.guards.frames (guards_raised b.places new.places b.search.kept.vars new.search.kept.vars b.frames.items places le h.well.frames)

    here : IsGuardIn new.places new.search.kept.vars (plain (old.search.kept.vars + 1))
    here = guard_raised b.places new.places b.search.kept.vars new.search.kept.vars (plain (old.search.kept.vars + 1)) places le (new_guard old b w h.guards.places h.vars)

    longer : (ls : List Literal) (l : Literal) → 0 < length (ls ++ l ∷ [])
    longer ls l = omega (arith, length-append ls (l ∷ []))

-- after a question
pub asked_well : (old new : Guarded) (vars : ℕ) (k k' : Option (List Step)) → IsWell old → HasSameGuards old new → new.vars ≡ old.vars → new.search.kept.vars ≡ old.search.kept.vars →
    HasLearned vars old.search.kept.clauses old.search.kept.marks k new.search.kept.clauses new.search.kept.marks k' → HasPut old new []
asked_well old new v k k' w s vars same h = record {
  well = well_kept old new w s (vars ∙ w.vars ∙ sym same) (equal_most old.search.kept.vars new.search.kept.vars same) (subst (λ (n : ℕ). n < 2 ^ 62) (sym same) w.small)
      (ap (λ (ms : List Bool). length ms) h.marks ∙ marked_learned old.search.kept.clauses old.search.kept.marks h.steps w.marked ∙ sym (ap (λ (cs : List (List Literal)). length cs) h.clauses));
  guards = s;
  vars = same;
  added = ap (λ (ms : List Bool). added_of new.search.kept.clauses ms) h.marks ∙ ap (λ (cs : List (List Literal)). added_of cs (old.search.kept.marks ++ repeated h.steps)) h.clauses
      ∙ added_learned old.search.kept.clauses old.search.kept.marks h.steps w.marked ∙ sym (append-nil (added_in old));
}
  where
    repeated : List Step → List Bool
    repeated ls = replicate (length ls) true

-- after learned clauses went
pub forgot_well : (old new : Guarded) → IsWell old → HasSameGuards old new → new.vars ≡ old.vars → new.search.kept.vars ≡ old.search.kept.vars →
    length new.search.kept.marks ≡ length new.search.kept.clauses → added_in new ≡ added_in old → HasPut old new []
forgot_well old new w s vars same marked added = record {
  well = well_kept old new w s (vars ∙ w.vars ∙ sym same) (equal_most old.search.kept.vars new.search.kept.vars same) (subst (λ (n : ℕ). n < 2 ^ 62) (sym same) w.small) marked;
  guards = s;
  vars = same;
  added = added ∙ sym (append-nil (added_in old));
}
