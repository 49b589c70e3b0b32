use Rattle.std.proofs.Common.{◌≡◌, ◌+◌, ◌≤◌, ◌++◌, ◌∷◌, [], List, All, length, get_or, take, sym, ap, ◌∙◌, subst, append_assoc, arith}
use Rattle.std.proofs.lemmas.List.{take_more, take_all}
use Rattle.std.proofs.lemmas.Option.{get_or_from_slice_get, slice_get_within}
use Rattle.sat_clauses.specs.Literal.{Literal}
use Rattle.sat_clauses.specs.Models.{ClauseBelow}
use Rattle.sat_clauses.specs.StoreRecord.{StoreValue}
use Rattle.sat_clauses.specs.Derivation.{IsUpTo}
use Rattle.sat_solver.proofs.clauses.fill.Goals as goal

pub push-requires : goal.push-requires
push-requires g c =
    let cs = c.args.clauses.now in
    let i = c.loop-i.i in
    let clause = c.at.result.now in
    let lt = slice_get_within cs i clause c.at.ensures in
    let here : get_or cs i clause ≡ clause = get_or_from_slice_get cs i clause clause c.at.ensures in
    let all : All (IsUpTo (g.S.Store.held c.args.store.now).vars) clause = subst (All (IsUpTo (g.S.Store.held c.args.store.now).vars)) here (c.requires i clause lt) in
    subst (ClauseBelow ((g.S.Store.held c.loop-i.store).vars + 1)) (sym c.lits.ensures) (λ k d within. let z = all k d within in omega (arith, z, c.loop-i.invariant.vars))

pub loop-i-preserved : goal.loop-i-preserved
loop-i-preserved g c =
    let cs = c.args.clauses.now in
    let i = c.loop-i.i in
    let clause = c.at.result.now in
    let lt = slice_get_within cs i clause c.at.ensures in
    let here : get_or cs i clause ≡ clause = get_or_from_slice_get cs i clause clause c.at.ensures in
    let next : take (i + 1) cs ≡ take i cs ++ clause ∷ [] = take_more cs i clause lt ∙ ap (λ (x : List Literal). take i cs ++ x ∷ []) here in
    let pushed = c.in_ok-push.ensures.ok in
    let base = (g.S.Store.held c.args.store.now).clauses in
    record {
      within = omega arith;
      clauses = ap (λ (s : StoreValue). s.clauses) pushed
          ∙ (ap (λ (x : List Literal). (g.S.Store.held c.loop-i.store).clauses ++ x ∷ []) c.lits.ensures
          ∙ (ap (λ (x : List (List Literal)). x ++ clause ∷ []) c.loop-i.invariant.clauses
          ∙ (append_assoc base (take i cs) (clause ∷ []) ∙ ap (λ (x : List (List Literal)). base ++ x) (sym next))));
      vars = ap (λ (s : StoreValue). s.vars) pushed ∙ c.loop-i.invariant.vars;
      trail = ap (λ (s : StoreValue). s.trail) pushed ∙ c.loop-i.invariant.trail;
    }

pub returns-clause-clauses : goal.returns-clause-clauses
returns-clause-clauses g c =
    let over : length c.args.clauses.now ≤ c.loop-i.i = omega arith in
    c.loop-i.invariant.clauses ∙ ap (λ (x : List (List Literal)). (g.S.Store.held c.args.store.now).clauses ++ x) (take_all c.loop-i.i c.args.clauses.now over)
