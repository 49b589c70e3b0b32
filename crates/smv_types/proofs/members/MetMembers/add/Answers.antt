use Rattle.std.proofs.Common.{◌∙◌, ap, not, refl, sym, subst}
use Rattle.smv_language.specs.Language.{is_among, texts}
use Rattle.smv_types.specs.MemberTests.{has_met, AddsMember}
use Rattle.smv_types.specs.declared.members.MetMembers.{MetMembers}
use Rattle.smv_types.proofs.MetLaws.{symbol_added}
use Rattle.smv_types.proofs.members.MetMembers.add.Goals as goal
use Rattle.smv_language.proofs.BorrowedTexts.{any_among}

pub returns-in_ok-insert-in-Symbol-clause-new : goal.returns-in_ok-insert-in-Symbol-clause-new
returns-in_ok-insert-in-Symbol-clause-new c =
    let keys = c.args.self.now.texts.keys in
    c.in_ok-insert-in-Symbol.ensures.added ∙ ap not (any_among c.text.result.now keys ∙ ap (is_among (texts keys)) c.text.ensures ∙ ap (has_met c.args.self.now) (sym c.in-Symbol.is))

pub returns-in_ok-insert-in-Symbol-clause-added : goal.returns-in_ok-insert-in-Symbol-clause-added
returns-in_ok-insert-in-Symbol-clause-added c =
    let after : MetMembers = record { numbers = c.args.self.now.numbers; texts = c.insert-in-Symbol.new.self } in
    subst (λ m. AddsMember c.args.self.now m after) (sym c.in-Symbol.is)
    (symbol_added c.args.self.now after c.text.result c.in-Symbol.name c.text.ensures refl c.in_ok-insert-in-Symbol.ensures.keys)
