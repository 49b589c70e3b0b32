use Rattle.std.proofs.Common.{⊎_elim, ◌≡◌, inl, inr, ℕ, ◌+◌, ◌*◌, ◌<◌, ◌≤◌, eqb, set, cond, ◌++◌, ◌∷◌, [], List, All, length, count_by, ap, sym, ◌∙◌, subst, arith}
use Rattle.std.proofs.lemmas.Bool.{cases_eq}
use Rattle.std.proofs.lemmas.List.{set-set}
use Rattle.std.proofs.lemmas.List.Sums.{count_by-le-length}
use Rattle.std.proofs.lemmas.List.Elements.{All-contains}
use Rattle.std.proofs.lemmas.Option.{get_or_from_slice_get, slice_get_within}
use Rattle.sat_clauses.specs.Literal.{Literal}
use Rattle.sat_clauses.specs.Code.{code_of}
use Rattle.sat_clauses.specs.Assignment.{Assignment, IsInRange}
use Rattle.sat_solver.specs.ThreadsRecord.{ThreadsValue}
use Rattle.sat_solver.specs.Threads.{at}
use Rattle.sat_solver.specs.Pass.{clause_of, is_hit, CanVisit, IsNewList, IsPassing}
use Rattle.sat_solver.proofs.ThreadLemmas.{within_from_some}
use Rattle.sat_solver.proofs.PassLemmas.{count_moved, pass_begin, pass_step, pass_end, watched_before, another_list, code_within}
use Rattle.sat_solver.proofs.pass.pass.Goals as goal

pub loop-i-init : goal.loop-i-init
loop-i-init c = record {
  lists = omega arith;
  passing = pass_begin c.args.assign.now c.args.lit c.args.clauses.now.clauses c.args.other.now.homes c.args.mine.now.homes c.args.found.now.items c.requires.can_pass.once;
  few = omega (arith, count_by-le-length (eqb c.code-list.result) c.args.mine.now.homes);
  room = omega arith;
}

pub lits-requires : goal.lits-requires
lits-requires c =
    let i = c.in-Some.i in
    let was : at c.loop-i.mine.homes i ≡ code_of c.args.lit = c.in-Some.ensures.was ∙ c.code-list.ensures.value in
    c.requires.can_pass.known i (watched_before c.args.assign.now c.args.lit c.args.clauses.now.clauses c.args.other.now.homes c.args.mine.now.homes c.args.found.now.items c.loop-i.mine.homes c.loop-i.found.items i c.loop-i.invariant.passing was)

pub home-requires : goal.home-requires
home-requires c = omega (arith, c.requires.can_pass.other_places, slice_get_within c.args.clauses.now.clauses c.in-Some.i c.lits.result.now c.lits.ensures)

-- the other code is one in range
other_within : (a : Assignment) (c : List Literal) (l : Literal) (other : ℕ) → All (IsInRange a) c → CanVisit a c l other → other < 2 * length a
other_within a c l other all v = ⊎_elim
    (λ z. let k = code_within (length a) l (All-contains (IsInRange a) c l all v.listed) in omega arith)
    (λ ne. let h = v.has ne in let e = h.coded in let k = code_within (length a) h.literal (All-contains (IsInRange a) c h.literal all h.listed) in omega arith)
    (cases_eq other 0)

pub visit-home-requires-clause-other : goal.visit-home-requires-clause-other
visit-home-requires-clause-other c =
    let cs = c.args.clauses.now.clauses in
    let a = c.args.assign.now in
    let i = c.in-Some.i in
    let was : at c.loop-i.mine.homes i ≡ code_of c.args.lit = c.in-Some.ensures.was ∙ c.code-list.ensures.value in
    let old = watched_before a c.args.lit cs c.args.other.now.homes c.args.mine.now.homes c.args.found.now.items c.loop-i.mine.homes c.loop-i.found.items i c.loop-i.invariant.passing was in
    let within = slice_get_within cs i c.lits.result.now c.lits.ensures in
    let k = other_within a (clause_of cs i) c.args.lit (at c.args.other.now.homes i) (c.requires.can_pass.in_range i [] within) (c.requires.can_pass.visit i old) in
    omega (arith, k, c.home.ensures.value)

pub visit-home-requires-clause-in_range : goal.visit-home-requires-clause-in_range
visit-home-requires-clause-in_range c =
    let cs = c.args.clauses.now.clauses in
    let i = c.in-Some.i in
    let lits = c.lits.result.now in
    subst (All (IsInRange c.args.assign.now)) (get_or_from_slice_get cs i lits lits c.lits.ensures) (c.requires.can_pass.in_range i lits (slice_get_within cs i lits c.lits.ensures))

pub visit-home-requires-clause-visit : goal.visit-home-requires-clause-visit
visit-home-requires-clause-visit c =
    let cs = c.args.clauses.now.clauses in
    let i = c.in-Some.i in
    let was : at c.loop-i.mine.homes i ≡ code_of c.args.lit = c.in-Some.ensures.was ∙ c.code-list.ensures.value in
    let old = watched_before c.args.assign.now c.args.lit cs c.args.other.now.homes c.args.mine.now.homes c.args.found.now.items c.loop-i.mine.homes c.loop-i.found.items i c.loop-i.invariant.passing was in
    let lits : clause_of cs i ≡ c.lits.result.now = get_or_from_slice_get cs i c.lits.result.now [] c.lits.ensures in
    subst (λ (x : ℕ). CanVisit c.args.assign.now c.lits.result.now c.args.lit x) (sym c.home.ensures.value)
    (subst (λ (x : List Literal). CanVisit c.args.assign.now x c.args.lit (at c.args.other.now.homes i)) lits (c.requires.can_pass.visit i old))

-- the new list is one of those that there are
new_within : (a : Assignment) (c : List Literal) (other g : ℕ) → All (IsInRange a) c → 0 < length a → IsNewList a c other 1 g → g < 2 * length a
new_within a c other g all some (inl h) = let z = h.0 in omega arith
new_within a c other g all some (inr m) = let z = m.coded in let k = code_within (length a) m.literal (All-contains (IsInRange a) c m.literal all m.listed) in omega arith

pub push-requires-clause-within : goal.push-requires-clause-within
push-requires-clause-within c =
    let cs = c.args.clauses.now.clauses in
    let i = c.in-Some.i in
    let lits = c.lits.result.now in
    let all = subst (All (IsInRange c.args.assign.now)) (get_or_from_slice_get cs i lits lits c.lits.ensures) (c.requires.can_pass.in_range i lits (slice_get_within cs i lits c.lits.ensures)) in
    let k = new_within c.args.assign.now lits c.home.result c.visit-home.result all (let r = c.requires.can_pass.literal in omega arith) c.visit-home.ensures.list in
    omega (arith, k, c.requires.lists, c.loop-i.invariant.lists, ap (λ (t : ThreadsValue). t.lists) c.in-Some.ensures.taken)

pub loop-i-smaller : goal.loop-i-smaller
loop-i-smaller c =
    let cs = c.args.clauses.now.clauses in
    let a = c.args.assign.now in
    let l = c.args.lit in
    let i = c.in-Some.i in
    let hs = c.loop-i.mine.homes in
    let os = c.args.other.now.homes in
    let g = c.visit-home.result in
    let lits = c.lits.result.now in
    let was : at hs i ≡ code_of l = c.in-Some.ensures.was ∙ c.code-list.ensures.value in
    let old = watched_before a l cs os c.args.mine.now.homes c.args.found.now.items hs c.loop-i.found.items i c.loop-i.invariant.passing was in
    let clause : lits ≡ clause_of cs i = sym (get_or_from_slice_get cs i lits [] c.lits.ensures) in
    let new : IsNewList a (clause_of cs i) (at os i) 1 g =
    subst (λ (x : List Literal). IsNewList a x (at os i) 1 g) clause (subst (λ (x : ℕ). IsNewList a lits x 1 g) c.home.ensures.value c.visit-home.ensures.list) in
    let real : 2 ≤ code_of l = let k = c.code-list.ensures in omega arith in
    let is_false = (c.requires.can_pass.visit i old).is_false in
    let homes : c.push.new.self.homes ≡ set hs i g =
    ap (λ (t : ThreadsValue). t.homes) c.push.ensures ∙ (ap (λ (t : ThreadsValue). set t.homes i g) c.in-Some.ensures.taken ∙ set-set hs i 0 g) in
    let less = count_moved hs i c.code-list.result g (within_from_some hs i (omega arith)) c.in-Some.ensures.was
    (λ e. another_list a l cs os c.args.mine.now.homes c.args.found.now.items (clause_of cs i) (at os i) g real is_false new (e ∙ c.code-list.ensures.value)) in
    omega (arith, less, ap (count_by (eqb c.code-list.result)) homes)

pub loop-i-preserved : goal.loop-i-preserved
loop-i-preserved c =
    let cs = c.args.clauses.now.clauses in
    let a = c.args.assign.now in
    let l = c.args.lit in
    let i = c.in-Some.i in
    let hs = c.loop-i.mine.homes in
    let os = c.args.other.now.homes in
    let g = c.visit-home.result in
    let lits = c.lits.result.now in
    let was : at hs i ≡ code_of l = c.in-Some.ensures.was ∙ c.code-list.ensures.value in
    let old = watched_before a l cs os c.args.mine.now.homes c.args.found.now.items hs c.loop-i.found.items i c.loop-i.invariant.passing was in
    let clause : lits ≡ clause_of cs i = sym (get_or_from_slice_get cs i lits [] c.lits.ensures) in
    let new : IsNewList a (clause_of cs i) (at os i) 1 g =
    subst (λ (x : List Literal). IsNewList a x (at os i) 1 g) clause (subst (λ (x : ℕ). IsNewList a lits x 1 g) c.home.ensures.value c.visit-home.ensures.list) in
    let real : 2 ≤ code_of l = let k = c.code-list.ensures in omega arith in
    let is_false = (c.requires.can_pass.visit i old).is_false in
    let homes : c.push.new.self.homes ≡ set hs i g =
    ap (λ (t : ThreadsValue). t.homes) c.push.ensures ∙ (ap (λ (t : ThreadsValue). set t.homes i g) c.in-Some.ensures.taken ∙ set-set hs i 0 g) in
    let less = count_moved hs i c.code-list.result g (within_from_some hs i (omega arith)) c.in-Some.ensures.was
    (λ e. another_list a l cs os c.args.mine.now.homes c.args.found.now.items (clause_of cs i) (at os i) g real is_false new (e ∙ c.code-list.ensures.value)) in
    let noted : c.visit-home.new.found.items ≡ cond (is_hit a (clause_of cs i)) (c.loop-i.found.items ++ (i + 1) ∷ []) c.loop-i.found.items =
    c.visit-home.ensures.found ∙ ap (λ (x : List Literal). cond (is_hit a x) (c.loop-i.found.items ++ (i + 1) ∷ []) c.loop-i.found.items) clause in
    record {
      lists = ap (λ (t : ThreadsValue). t.lists) c.push.ensures ∙ (ap (λ (t : ThreadsValue). t.lists) c.in-Some.ensures.taken ∙ c.loop-i.invariant.lists);
      passing = subst (λ (x : List ℕ). IsPassing a l cs os c.args.mine.now.homes x c.args.found.now.items c.visit-home.new.found.items) (sym homes)
          (pass_step a l cs os c.args.mine.now.homes c.args.found.now.items hs c.loop-i.found.items c.visit-home.new.found.items i g real is_false c.requires.can_pass.not_yet c.loop-i.invariant.passing was new noted);
      few = omega (arith, less, ap (count_by (eqb c.code-list.result)) homes, c.visit-home.ensures.few, c.loop-i.invariant.few);
      room = omega (arith, c.visit-home.ensures.room, c.loop-i.invariant.room);
    }

pub returns-clause-passed : goal.returns-clause-passed
returns-clause-passed c =
    let cs = c.args.clauses.now.clauses in
    let real : 2 ≤ code_of c.args.lit = let k = c.code-list.ensures in omega arith in
    let list = c.code-list.ensures.value in
    let same : c.pop.new.self.homes ≡ c.loop-i.mine.homes = ap (λ (t : ThreadsValue). t.homes) c.in_default.ensures.same in
    pass_end c.args.assign.now c.args.lit cs c.args.other.now.homes c.args.mine.now.homes c.args.found.now.items c.loop-i.mine.homes c.put_back.new.mine.homes c.loop-i.found.items real c.requires.can_pass.no_spare c.loop-i.invariant.passing
    (λ j e. c.in_default.ensures.empty j (e ∙ sym list))
    (c.put_back.ensures.places ∙ ap length same)
    (λ j e. c.put_back.ensures.back j (ap (λ (x : List ℕ). at x j) same ∙ e) ∙ list)
    (λ j ne. c.put_back.ensures.rest j (λ e. ne (sym (ap (λ (x : List ℕ). at x j) same) ∙ e)) ∙ ap (λ (x : List ℕ). at x j) same)
