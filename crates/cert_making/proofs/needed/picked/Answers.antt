use Rattle.std.proofs.Common.{◌≡◌, ◌∙◌, ◌++◌, ℕ, List, [], ◌∷◌, All, Contains, Some, slice_get, ap, sym, subst}
use Rattle.std.proofs.lemmas.List.Elements.{All-nil, All-cons, All-append}
use Rattle.std.proofs.lemmas.Option.{slice_get_within, get_or_from_slice_get}
use Rattle.sat_clauses.specs.Literal.{Literal}
use Rattle.cert_making.proofs.needed.picked.Goals.{then-place-len+in_ok-copy+in_ok-push, else-place-len}
use Rattle.cert_making.proofs.needed.picked.Goals as goal

at_place : (list : List (List Literal)) (n : ℕ) (clause : List Literal) → slice_get list n ≡ Some clause → Contains list clause
at_place list n clause e = (n, slice_get_within list n clause e, get_or_from_slice_get list n clause clause e)

pub loop-place-preserved : goal.loop-place-preserved
loop-place-preserved c = elim c.if-place-len.branch [
  | then-place-len+in_ok-copy+in_ok-push w ↦
      (let list : List (List Literal) = c.args.list.now in
      let clause : List Literal = w.at.result.now in
      subst (All (Contains list)) (sym (w.clauses-is ∙ w.in_ok-push.ensures.ok ∙ ap (λ x. c.loop-place.clauses ++ x ∷ []) w.in_ok-copy.ensures))
      (All-append (Contains list) c.loop-place.clauses (clause ∷ []) c.loop-place.invariant (All-cons (Contains list) clause [] (at_place list _ clause w.at.ensures) (All-nil (Contains list)))))
  | else-place-len w ↦ subst (All (Contains c.args.list.now)) (sym w.clauses-is) c.loop-place.invariant
]
