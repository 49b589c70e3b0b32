use Rattle.std.proofs.Common.{◌≡◌, ◌∙◌, sym, subst, map}
use Rattle.std.specs.Prelude.{IfOk}
use Rattle.smv_language.specs.Language.{section_tree, declared_tree, kind_in_sections}
use Rattle.fault_weave.proofs.LookupLaws.{formal_type, no_formal_type}
use Rattle.fault_weave.proofs.lookup.target_type.Goals as goal

pub returns-then-has_formal : goal.returns-then-has_formal
returns-then-has_formal c =
    sym (formal_type c.args.m.now.formals c.args.x.now (kind_in_sections (map section_tree c.args.m.now.sections) c.args.x.now) (sym c.has_formal.ensures ∙ c.if-has_formal.true))

pub returns : goal.returns
returns c =
    subst (λ t. IfOk c.declared_type.result (λ made. declared_tree made ≡ t))
    (sym (no_formal_type c.args.m.now.formals c.args.x.now (kind_in_sections (map section_tree c.args.m.now.sections) c.args.x.now) (sym c.has_formal.ensures ∙ c.if-has_formal.false))) c.declared_type.ensures
