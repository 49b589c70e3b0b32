use Rattle.std.proofs.Common.{◌∙◌, sym, ap}
use Rattle.std.specs.Prelude.{option_map}
use Rattle.std.specs.Option.{option_copied}
use Rattle.smv_language.specs.Language.{program_tree, first_with}
use Rattle.fault_rules.specs.Locals.{locals_in, local_in}
use Rattle.fault_rules.proofs.LocalLaws.{local_there}
use Rattle.fault_rules.proofs.modules.KnownProgram.local.Goals as goal

pub returns-in-Some : goal.returns-in-Some
returns-in-Some c =
    c.local.ensures ∙ ap (λ r. local_in (option_map locals_in (option_copied r)) c.args.name.now) (sym c.in-Some.is) ∙ ap (λ o. local_in o c.args.name.now) c.find.ensures
    ∙ ap (λ s. local_in (first_with s c.args.owner.now) c.args.name.now) c.requires.scopes ∙ local_there c.args.name.now (program_tree c.args.self.now.program.now) c.args.owner.now

pub returns-in-None : goal.returns-in-None
returns-in-None c =
    ap (λ r. local_in (option_map locals_in (option_copied r)) c.args.name.now) (sym c.in-None.is) ∙ ap (λ o. local_in o c.args.name.now) c.find.ensures
    ∙ ap (λ s. local_in (first_with s c.args.owner.now) c.args.name.now) c.requires.scopes ∙ local_there c.args.name.now (program_tree c.args.self.now.program.now) c.args.owner.now
