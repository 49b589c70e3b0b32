use Rattle.std.proofs.Common.{◌∙◌, ◌++◌, ◌∷◌, [], sym, ap}
use Rattle.sat_encoding_laws.specs.Layout.{literals_from}
use Rattle.sat_encoding.proofs.NumberLaws.{literals_last}
use Rattle.sat_encoding.proofs.layout.literals_from.Goals as goal

pub loop-i-preserved : goal.loop-i-preserved
loop-i-preserved c =
    c.in_ok-push.ensures.ok ∙ ap (λ w. w ++ c.new.result ∷ []) c.loop-i.invariant ∙ ap (λ l. literals_from c.loop-i.i c.args.place ++ l ∷ []) c.new.ensures ∙ sym (literals_last c.loop-i.i c.args.place)
