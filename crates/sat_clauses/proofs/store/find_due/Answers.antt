use Rattle.std.proofs.Common.{◌≡◌, ℕ, ◌+◌, ◌<◌, ◌++◌, [], ◌∷◌, List, length, cond, drop, sym, ap, ◌∙◌, arith}
use Rattle.std.proofs.lemmas.List.{drop_more}
use Rattle.std.proofs.lemmas.Option.{get_or_from_slice_get}
use Rattle.sat_clauses.specs.Literal.{Literal}
use Rattle.sat_clauses.specs.Store.{is_due, due_from}
use Rattle.sat_clauses.proofs.StoreLemmas.{due_step}
use Rattle.sat_clauses.proofs.store.find_due.Goals as goal

pub loop-i-preserved : goal.loop-i-preserved
loop-i-preserved c =
    let cs = c.args.clauses.now in
    let i = c.loop-i.i in
    let clause = c.at.result.now in
    let a = c.args.assign.now in
    let l = c.args.lit in
    let lt : i < length cs = omega arith in
    let here = get_or_from_slice_get cs i clause clause c.at.ensures in
    let rest : drop i cs ≡ clause ∷ drop (i + 1) cs = drop_more cs i clause lt ∙ ap (λ (x : List Literal). x ∷ drop (i + 1) cs) here in
    let noted : c.note_due.new.found.items ≡ cond (is_due a l clause) (c.loop-i.found.items ++ (i + 1) ∷ []) c.loop-i.found.items = cc in
    record {
      within = omega arith;
      rest = ap (λ (x : List ℕ). x ++ due_from a l (i + 1 + 1) (drop (i + 1) cs)) noted
          ∙ (due_step a l (i + 1) clause (drop (i + 1) cs) c.loop-i.found.items
          ∙ (ap (λ (x : List (List Literal)). c.loop-i.found.items ++ due_from a l (i + 1) x) (sym rest) ∙ c.loop-i.invariant.rest));
      few = omega arith;
      room = omega arith;
      capacity = omega arith;
    }
