use Rattle.std.proofs.Common.{◌++◌, ◌∷◌, [], ◌∙◌, ap, sym, subst, take, List, All}
use Rattle.std.proofs.lemmas.List.{take_more}
use Rattle.sat_clauses.specs.Literal.{Literal, opposite}
use Rattle.cut_frames.specs.Roles.{renamed_clause, under_list}
use Rattle.std.proofs.lemmas.List.Elements.{All-get_or}
use Rattle.cut_frames.specs.GuardedSearch.{HasPut, HasRoomFor}
use Rattle.cut_frames.proofs.GuardedLaws.{fill_more, fill_up_to}
use Rattle.cut_frames.proofs.guarded.Guarded.fill.Goals as goal

pub loop-clause-preserved : goal.loop-clause-preserved
loop-clause-preserved c =
    let items = c.as_slice-clause-items.result.now in
    let i = c.loop-clause.clause-index in
    let d = c.clause-item.result in
    let s = c.args.self.now in
    subst (λ (xs : List (List Literal)). HasPut s c.put.new.self (under_list s.places c.args.base c.args.guard.var xs))
    (sym (take_more items i d c.loop-clause-test.true ∙ ap (λ (e : List Literal). take i items ++ e ∷ []) (sym c.clause-item.is)))
    (fill_more s c.loop-clause.self c.put.new.self c.args.base c.args.guard (take i items) d c.in_ok-under.under c.requires.guard.positive c.loop-clause.invariant c.in_ok-put.ensures
    (c.in_ok-under.ensures ∙ ap (λ (ls : List Literal). opposite c.args.guard ∷ renamed_clause c.loop-clause.self.places c.args.base ls) c.lits.ensures))

pub put-requires-clause-up_to : goal.put-requires-clause-up_to
put-requires-clause-up_to c =
    let items = c.as_slice-clause-items.result.now in
    let i = c.loop-clause.clause-index in
    let d = c.clause-item.result in
    let s = c.args.self.now in
    let room : All (HasRoomFor s.places c.args.base s.search.kept.vars) d = subst (All (HasRoomFor s.places c.args.base s.search.kept.vars)) (sym c.clause-item.is)
    (All-get_or (All (HasRoomFor s.places c.args.base s.search.kept.vars)) items i d c.loop-clause-test.true
    (subst (All (All (HasRoomFor s.places c.args.base s.search.kept.vars))) (sym c.as_slice-clause-items.ensures) c.requires.room)) in
    fill_up_to s c.loop-clause.self c.args.base c.args.guard d c.in_ok-under.under
    (c.in_ok-under.ensures ∙ ap (λ (ls : List Literal). opposite c.args.guard ∷ renamed_clause c.loop-clause.self.places c.args.base ls) c.lits.ensures) c.requires.guard room c.loop-clause.invariant.guards.places c.loop-clause.invariant.vars
