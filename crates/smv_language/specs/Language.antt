-- What other crates name of the definitions of models, programs, texts and values.
pub use Rattle.smv_language.specs.Tree.{leaf, not_of, negate, next_of, binary, choice, case_of, set_of, span, no_tree, tree_then, no_branch}
pub use Rattle.smv_language.specs.Tree.{branch_then, trees_from, branches_from, height_of, trees_height, branches_height, size_of}
pub use Rattle.smv_language.specs.Tree.{trees_size, branches_size, Tree, Trees, Branches}
pub use Rattle.smv_language.specs.ExpressionTree.{node_tree, tree_of, trees_of, branch_trees, branches_of}
pub use Rattle.smv_language.specs.ProgramTree.{Text, Path, Formula, DeclaredTree, boolean, range, members, instance, IsType, DeclTree}
pub use Rattle.smv_language.specs.ProgramTree.{DefineTree, AssignmentTree, SectionTree, var, ivar, frozen, define, constants, assign, init}
pub use Rattle.smv_language.specs.ProgramTree.{invar, trans, ModuleTree, ProgramTree, declared_tree, decl_tree, define_tree}
pub use Rattle.smv_language.specs.ProgramTree.{assignment_tree, section_tree, module_tree, program_tree}
pub use Rattle.smv_language.specs.Text.{each_after, joined, dotted_text, text_of, declared_text, line, decl_line, define_line, all_of}
pub use Rattle.smv_language.specs.Text.{section_text, module_text, program_text}
pub use Rattle.smv_language.specs.Texts.{same_text, is_among, first_with, text_or_none, AreApart}
pub use Rattle.smv_language.specs.Lexemes.{Lexeme, word, num, sign, lexeme_of, lexemes_of, section_words, left_out_words, is_reserved}
pub use Rattle.smv_language.specs.Spells.{at_expr, at_iff, at_choice, at_or, at_sum, at_prod, at_neg, at_not, line_of, operator, minus}
pub use Rattle.smv_language.specs.Spells.{SpellsInt, plain_int, minus_int, SpellsDotted, one_name, more_names, begins_span, is_repeated}
pub use Rattle.smv_language.specs.Spells.{repeated, Spells, only_iff, implies, only_or, chooses, only_not, negates, only_atom, inverts}
pub use Rattle.smv_language.specs.Spells.{SpellsMore, no_operator, one_operator, SpellsAtom, is_true, is_false, is_number, is_span, is_name}
pub use Rattle.smv_language.specs.Spells.{in_parentheses, is_next, is_set, is_case, SpellsTrees, one_tree, more_trees, SpellsBranches}
pub use Rattle.smv_language.specs.Spells.{one_branch, more_branches}
pub use Rattle.smv_language.specs.SpellsProgram.{no_more, one_more, last_one, one_comma, no_brackets, brackets, SpellsName, a_name}
pub use Rattle.smv_language.specs.SpellsProgram.{SpellsExpr, SpellsMember, SpellsType, is_boolean, is_range, is_members, SpellsDeclared}
pub use Rattle.smv_language.specs.SpellsProgram.{is_type, is_instance, is_empty_instance, declares, SpellsDefine, defines, SpellsTarget}
pub use Rattle.smv_language.specs.SpellsProgram.{always, first, after, SpellsAssignment, assigns, SpellsFormula, open_ended, ended}
pub use Rattle.smv_language.specs.SpellsProgram.{skipped_words, HasNoSection, SpellsSection, a_var, an_ivar, a_frozen, some_constants}
pub use Rattle.smv_language.specs.SpellsProgram.{an_assign, an_init, an_invar, a_trans, SpellsSections, no_section, a_section, skipped}
pub use Rattle.smv_language.specs.SpellsProgram.{SpellsFormals, some_formals, empty_formals, SpellsModule, a_module, SpellsProgram}
pub use Rattle.smv_language.specs.SpellsProgram.{SpellsExpressions, last_expression, more_expressions, SpellsMany, SpellsCommas}
pub use Rattle.smv_language.specs.SpellsProgram.{SpellsBracketed, SpellsDecl}
pub use Rattle.smv_language.specs.Nesting.{nesting_of, more_nesting, atom_nesting, trees_nesting, branches_nesting}
pub use Rattle.smv_language.specs.Bytes.{BytesSpellProgram, BytesSpellExpr, HasDepths}
pub use Rattle.smv_language.specs.PrintedTokens.{printed_int, in_brackets, printed, IsName, AreNames, IsSmall, IsEnd, IsWritable}
pub use Rattle.smv_language.specs.PrintedTokens.{AreWritable, AreWritableBranches}
pub use Rattle.smv_language.specs.Leaves.{tree_map, trees_map, branches_map}
pub use Rattle.smv_language.specs.Values.{Value, symbol, value_text, same_int, opposite, same_bool, same_value, Values, no_value, one}
pub use Rattle.smv_language.specs.Values.{from_to, either, at_most, is_between, has, on_numbers, on_truths, on_symbols, apply}
pub use Rattle.smv_language.specs.Evaluate.{Leaves, gives_one, gives_not, gives_negative, gives_either, gives_within, gives_applied}
pub use Rattle.smv_language.specs.Evaluate.{gives_binary, gives_choice, evaluate, evaluate_trees, evaluate_branches}
pub use Rattle.smv_language.specs.Scope.{Place, Role, state, input, frozen_role, Kind, a_formal, a_variable, an_instance, undeclared}
pub use Rattle.smv_language.specs.Scope.{find_module, is_missing, formal_from, kind_declared, kind_in_decls, kind_in_defines}
pub use Rattle.smv_language.specs.Scope.{kind_in_sections, kind_after_formals, kind_in, module_of_kind, kind_at, module_at, nth_formula}
pub use Rattle.smv_language.specs.Scope.{actual_of_kind, is_symbol_of_members, is_symbol_of_type, is_symbol_of_decls, is_symbol_of_sections}
pub use Rattle.smv_language.specs.Scope.{is_symbol, Key, define_key, actual_key, Meaning, a_variable_at, an_expression_at, an_instance_at}
pub use Rattle.smv_language.specs.Scope.{LookUp, plain_name, through_plain, through_actual, through_formal, by_kind, means_in, Means}
pub use Rattle.smv_language.specs.May.{Valuation, values_of_meaning, name_values, Reading, reading, MayRead, May}
pub use Rattle.smv_language.specs.Trace.{value_of_member, is_member, is_truth, in_domain, IsInstance, IsVariable, Each, EachBoth, EachPair}
pub use Rattle.smv_language.specs.Trace.{AtSome, AtLast, AtFirst, FirstAssigned, FirstSection, Declares, DomainSection, EachAssigned}
pub use Rattle.smv_language.specs.Trace.{EachSection, Keeps, NextAssigned, StepSection, IsFirst, InDomains, IsInvariant, IsMoment, IsStep}
pub use Rattle.smv_language.specs.Trace.{IsTrace}
pub use Rattle.smv_language.specs.WritableProgram.{IsPlain, IsWritableMember, IsWritableType, IsWritableDeclared, IsWritableDecl}
pub use Rattle.smv_language.specs.WritableProgram.{IsWritableTyped, IsWritableAssignment, IsWritableSection, IsWritableModule}
pub use Rattle.smv_language.specs.WritableProgram.{IsWritableProgram}
pub use Rattle.smv_language.specs.Laws.{AllLeaves, AllLeavesOfTrees, AllLeavesOfBranches}
pub use Rattle.smv_language.specs.Flat.{FlatLeaf, flat_variable, flat_symbol, flat_definition, FlatInstance, FlatVariable, FlatFormula}
pub use Rattle.smv_language.specs.Flat.{FlatModel, one_of, symbol_of, given, flat_leaves, definition_gives, table_after, leaves_at}
pub use Rattle.smv_language.specs.Flat.{FlatGives, FlatMay, Holds, Numbers}
pub use Rattle.smv_language.specs.ModelTree.{leaf_of, role_of, flat_tree, place_of, name_in, place_in, instance_tree, variable_tree}
pub use Rattle.smv_language.specs.ModelTree.{formula_tree, model_tree, name_of_fault}
pub use Rattle.smv_language.specs.BorrowedTexts.{same_borrowed, texts}
pub use Rattle.smv_language.specs.NumberedValues.{told_value, told_moment, told_trace}
