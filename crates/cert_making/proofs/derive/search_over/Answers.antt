use Rattle.std.proofs.Common.{◌≡◌, ◌∙◌, false, List, length, replicate, ap}
use Rattle.std.proofs.lemmas.List.{take_all}
use Rattle.sat_clauses.specs.Literal.{Literal}
use Rattle.cert_making.proofs.DeriveLemmas.{begins}
use Rattle.cert_making.proofs.derive.search_over.Goals as goal

pub returns-clause-begun : goal.returns-clause-begun
returns-clause-begun c =
    let inv = c.loop-clause.invariant in
    let clauses : c.loop-clause.search.kept.clauses ≡ c.args.part.now.givens.now =
    inv.clauses ∙ take_all c.loop-clause.clause-index c.as_slice-clause-items.result.now c.loop-clause-test.false ∙ c.as_slice-clause-items.ensures in
    begins c.args.part.now.givens.now c.loop-clause.search.kept c.loop-clause.search.recorder (inv.vars ∙ c.args.part.now.highest) clauses
    (inv.marks ∙ ap (λ (cs : List (List Literal)). replicate (length cs) false) clauses) inv.recorder
