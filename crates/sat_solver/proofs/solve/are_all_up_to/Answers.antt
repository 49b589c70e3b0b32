use Rattle.std.proofs.Common.{◌≡◌, ◌≤◌, IsTrue, List, All, false, length, get_or, refl, sym, subst, arith}
use Rattle.std.proofs.lemmas.Bool.{false≢true, both_ways}
use Rattle.std.proofs.lemmas.List.{take_all}
use Rattle.std.proofs.lemmas.List.Elements.{All-more}
use Rattle.std.proofs.lemmas.Option.{get_or_from_slice_get}
use Rattle.sat_clauses.specs.Literal.{Literal}
use Rattle.sat_clauses.specs.Derivation.{IsUpTo}
use Rattle.sat_clauses.proofs.FalseLemmas.{All-slice_get}
use Rattle.sat_solver.proofs.solve.are_all_up_to.Goals as goal

pub returns-then-not-are_up_to : goal.returns-then-not-are_up_to
returns-then-not-are_up_to c =
    let P : List Literal → Type 0 = All (IsUpTo c.args.vars) in
    let is_not : c.are_up_to.result ≡ false = grind arith in (
      (λ e. absurd (false≢true e)),
      (λ all. absurd (both_ways _ is_not (c.are_up_to.ensures.1 (subst P (sym c.lits.ensures) (All-slice_get P c.args.clauses.now c.loop-i.i c.at.result.now c.at.ensures all))))),
    )

pub loop-i-preserved : goal.loop-i-preserved
loop-i-preserved c =
    let P : List Literal → Type 0 = All (IsUpTo c.args.vars) in
    let cs = c.args.clauses.now in
    let i = c.loop-i.i in
    let clause = c.at.result.now in
    let is : IsTrue c.are_up_to.result = grind arith in
    let here : get_or cs i clause ≡ clause = get_or_from_slice_get cs i clause clause c.at.ensures in
    record {
      within = omega arith;
      in_range = All-more P cs i clause (omega arith) c.loop-i.invariant.in_range (subst P (sym here) (subst P c.lits.ensures (c.are_up_to.ensures.0 is)));
    }

pub returns : goal.returns
returns c =
    let P : List Literal → Type 0 = All (IsUpTo c.args.vars) in
    let over : length c.args.clauses.now ≤ c.loop-i.i = omega arith in
    ((λ e. subst (All P) (take_all c.loop-i.i c.args.clauses.now over) c.loop-i.invariant.in_range), (λ all. refl))
