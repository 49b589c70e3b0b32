-- One number more.
use Rattle.std.proofs.Common.{rules, ◌≡◌, ◌++◌, ◌∷◌, [], ◌∙◌, ap, sym}
use Rattle.smv_scope.proofs.LayLaws.{upto_more}
use Rattle.smv_scope.proofs.needs.all_of.Goals as goal

pub loop-definition-preserved : goal.loop-definition-preserved
loop-definition-preserved c =
    let more : c.push.new.self.items ≡ c.loop-definition.all.items ++ c.loop-definition.definition ∷ [] = search rules in
    more ∙ ap (λ xs. xs ++ c.loop-definition.definition ∷ []) c.loop-definition.invariant ∙ sym (upto_more c.loop-definition.definition)
