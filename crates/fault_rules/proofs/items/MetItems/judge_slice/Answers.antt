use Rattle.std.proofs.Common.{◌≡◌, ◌∙◌, sym, ap, Some}
use Rattle.smv_language.specs.Language.{program_tree, declared_tree, is_among, find_module}
use Rattle.fault_instructions.specs.Instructions.{slice_tree}
use Rattle.fault_rules.specs.Sites.{owned}
use Rattle.fault_rules.specs.Rules.{target_kind, hides_symbol}
use Rattle.fault_rules.specs.KeyedLists.{is_pair_among}
use Rattle.fault_rules.specs.Locals.{variable, seen_kind}
use Rattle.fault_rules.specs.Faults.{slice_rule, adds_taken}
use Rattle.fault_rules.proofs.SiteFaults.{slice_broken}
use Rattle.fault_rules.proofs.items.MetItems.judge_slice.Goals as goal

pub returns-in-Some-clause-rule : goal.returns-in-Some-clause-rule
returns-in-Some-clause-rule c =
    let typed : seen_kind (target_kind (program_tree c.args.known.now.program.now) (owned c.args.owner.now (slice_tree c.args.slice.now))) ≡ Some (variable (declared_tree c.in_ok-declared.declared.now)) =
    sym c.local.ensures ∙ c.in_ok-declared.ensures.declared in
    sym c.in-Some.is ∙ c.later_rule.ensures
    ∙ ap (λ names.
    slice_rule (is_among c.args.self.now.slices c.args.slice.now.name) (is_pair_among c.args.self.now.targets (c.args.owner.now, c.args.slice.now.target))
    (adds_taken (program_tree c.args.known.now.program.now) c.args.self.now.states c.args.self.now.owns names)
    (hides_symbol (find_module (program_tree c.args.known.now.program.now) c.args.owner.now) (declared_tree c.in_ok-declared.declared.now))) c.requires.names
    ∙ slice_broken c.args.self.now c.requires.met (program_tree c.args.known.now.program.now) (owned c.args.owner.now (slice_tree c.args.slice.now)) (declared_tree c.in_ok-declared.declared.now) typed

pub returns-in-None-clause-rule : goal.returns-in-None-clause-rule
returns-in-None-clause-rule c =
    let typed : seen_kind (target_kind (program_tree c.args.known.now.program.now) (owned c.args.owner.now (slice_tree c.args.slice.now))) ≡ Some (variable (declared_tree c.in_ok-declared.declared.now)) =
    sym c.local.ensures ∙ c.in_ok-declared.ensures.declared in
    sym c.in-None.is ∙ c.later_rule.ensures
    ∙ ap (λ names.
    slice_rule (is_among c.args.self.now.slices c.args.slice.now.name) (is_pair_among c.args.self.now.targets (c.args.owner.now, c.args.slice.now.target))
    (adds_taken (program_tree c.args.known.now.program.now) c.args.self.now.states c.args.self.now.owns names)
    (hides_symbol (find_module (program_tree c.args.known.now.program.now) c.args.owner.now) (declared_tree c.in_ok-declared.declared.now))) c.requires.names
    ∙ slice_broken c.args.self.now c.requires.met (program_tree c.args.known.now.program.now) (owned c.args.owner.now (slice_tree c.args.slice.now)) (declared_tree c.in_ok-declared.declared.now) typed
