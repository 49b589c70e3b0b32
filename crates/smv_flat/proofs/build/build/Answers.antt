-- Definitions and formulas are made over as many things as the program has, and the whole is the program's model.
use Rattle.std.proofs.Common.{rules, ◌≡◌, ◌++◌, map, ap, ◌∙◌}
use Rattle.smv_flat_laws.specs.Items.{instances_of}
use Rattle.smv_scope.specs.declared.names.Scene.{Scene}
use Rattle.smv_scope.specs.declared.needs.Needs.{Needs}
use Rattle.smv_scope.specs.SceneTree.{program_of}
use Rattle.smv_language.specs.BorrowedTexts.{texts}
use Rattle.smv_flat.specs.declared.clauses.AskedFormulas.TheVariants as asked
use Rattle.smv_flat.specs.FormulaLists.{told, conditions_asked, asked_from}
use Rattle.smv_flat.proofs.BuildModel.{is_flat, many_variables, many_symbols, ready_within, known_within}
use Rattle.smv_flat.proofs.build.build.Goals as goal

pub definitions_of-requires : goal.definitions_of-requires
definitions_of-requires c =
    let s : Scene = c.args.scope.now.scene in let n : Needs = c.args.scope.now.needs in
    let symbols : c.in_ok-symbols.symbols ≡ texts s.symbols.keys = search rules in
    record {
      ready = ready_within s n c.requires.scope.1.scene c.requires.scope.1.needs c.requires.accepted c.len-variable_count.result c.len-symbol_count.result
          (c.len-variable_count.ensures ∙ many_variables s n c.requires.scope.1.scene c.requires.scope.1.needs c.requires.accepted c.args.variables c.requires.variables.declared)
          (c.len-symbol_count.ensures ∙ many_symbols s n c.requires.scope.1.scene c.requires.scope.1.needs c.requires.accepted c.in_ok-symbols.symbols symbols);
    }

pub formulas_of-requires-clause-known : goal.formulas_of-requires-clause-known
formulas_of-requires-clause-known c =
    known_within c.args.scope.now.scene c.args.scope.now.needs c.requires.scope.1.scene c.requires.scope.1.needs c.requires.accepted c.args.variables c.in_ok-symbols.symbols
    c.in_ok-definitions.definitions c.len-variable_count.result c.len-symbol_count.result c.len.result c.len-variable_count.ensures c.len-symbol_count.ensures c.len.ensures
    c.requires.variables.declared (search rules) (search rules) asked.First

pub formulas_of-requires-2-clause-known : goal.formulas_of-requires-2-clause-known
formulas_of-requires-2-clause-known c =
    known_within c.args.scope.now.scene c.args.scope.now.needs c.requires.scope.1.scene c.requires.scope.1.needs c.requires.accepted c.args.variables c.in_ok-symbols.symbols
    c.in_ok-definitions.definitions c.len-variable_count.result c.len-symbol_count.result c.len.result c.len-variable_count.ensures c.len-symbol_count.ensures c.len.ensures
    c.requires.variables.declared (search rules) (search rules) asked.Each

pub formulas_of-requires-3-clause-known : goal.formulas_of-requires-3-clause-known
formulas_of-requires-3-clause-known c =
    known_within c.args.scope.now.scene c.args.scope.now.needs c.requires.scope.1.scene c.requires.scope.1.needs c.requires.accepted c.args.variables c.in_ok-symbols.symbols
    c.in_ok-definitions.definitions c.len-variable_count.result c.len-symbol_count.result c.len.result c.len-variable_count.ensures c.len-symbol_count.ensures c.len.ensures
    c.requires.variables.declared (search rules) (search rules) asked.Step

pub add_formulas-requires-clause-known : goal.add_formulas-requires-clause-known
add_formulas-requires-clause-known c =
    known_within c.args.scope.now.scene c.args.scope.now.needs c.requires.scope.1.scene c.requires.scope.1.needs c.requires.accepted c.args.variables c.in_ok-symbols.symbols
    c.in_ok-definitions.definitions c.len-variable_count.result c.len-symbol_count.result c.len.result c.len-variable_count.ensures c.len-symbol_count.ensures c.len.ensures
    c.requires.variables.declared (search rules) (search rules) asked.Kept

pub returns-clause-flat : goal.returns-clause-flat
returns-clause-flat c =
    let s : Scene = c.args.scope.now.scene in let n : Needs = c.args.scope.now.needs in
    let step : map told c.in_ok-trans.trans ≡ asked_from s n (conditions_asked asked.Step) 0 (instances_of (program_of s)) = search rules in
    let kept : map told c.add_formulas.new.list ≡ map told c.in_ok-trans.trans ++ asked_from s n (conditions_asked asked.Kept) 0 (instances_of (program_of s)) = search rules in
    is_flat s n c.requires.scope.1.scene c.requires.scope.1.needs c.requires.accepted
    (record { instances = c.in_ok-instances.instances; variables = c.args.variables; definitions = c.in_ok-definitions.definitions; symbols = c.in_ok-symbols.symbols; init = c.in_ok-init.init; invar = c.in_ok-invar.invar; trans = c.add_formulas.new.list })
    c.requires.variables.declared (search rules) (search rules) (search rules) c.len-variable_count.result c.len-symbol_count.result (search rules) (search rules) (search rules)
    (kept ∙ ap (λ ts. ts ++ asked_from s n (conditions_asked asked.Kept) 0 (instances_of (program_of s))) step)
