-- A program that some tokens spell has its instances in sections of variables alone.
use Rattle.std.proofs.Common.{List}
use Rattle.smv_language.specs.Language.{Each, Lexeme, DeclaredTree, DeclTree, SectionTree, ModuleTree, ProgramTree, SpellsMany, no_more, one_more, SpellsType, is_boolean, is_range, is_members, SpellsDecl, declares, SpellsSection, a_var, an_ivar, a_frozen, some_constants, an_assign, an_init, an_invar, a_trans, SpellsSections, no_section, a_section, skipped, SpellsModule, a_module, SpellsProgram}
use Rattle.smv_language.specs.SpellsProgram.{a_define}
use Rattle.fault_extend.specs.InstanceLaws.{IsNoInstance, AreNoInstances, DeclaresInVar, HasInstancesInVar}

a_type : {ts : List Lexeme} {t : DeclaredTree} → SpellsType ts t → IsNoInstance t
a_type is_boolean = tt
a_type (is_range low high) = tt
a_type (is_members ms) = tt

one_type : {ts : List Lexeme} {d : DeclTree} → SpellsDecl SpellsType ts d → IsNoInstance d.what
one_type (declares free type) = a_type type

types : {ts : List Lexeme} {ds : List DeclTree} → SpellsMany (SpellsDecl SpellsType) ts ds → AreNoInstances ds
types no_more = tt
types (one_more d more) = (one_type d, types more)

of_section : {ts : List Lexeme} {s : SectionTree} → SpellsSection ts s → DeclaresInVar s
of_section (a_var ds) = tt
of_section (an_ivar ds) = types ds
of_section (a_frozen ds) = types ds
of_section (a_define ds) = tt
of_section (some_constants xs) = tt
of_section (an_assign list) = tt
of_section (an_init e) = tt
of_section (an_invar e) = tt
of_section (a_trans e) = tt

of_sections : {ts : List Lexeme} {ss : List SectionTree} → SpellsSections ts ss → Each DeclaresInVar ss
of_sections no_section = tt
of_sections (a_section s more) = (of_section s, of_sections more)
of_sections (skipped x ts word none more) = of_sections more

of_module : {ts : List Lexeme} {m : ModuleTree} → SpellsModule ts m → Each DeclaresInVar m.sections
of_module (a_module free formals ss) = of_sections ss

pub spelled_in_var : {ts : List Lexeme} {p : ProgramTree} → SpellsProgram ts p → HasInstancesInVar p
spelled_in_var no_more = tt
spelled_in_var (one_more m more) = (of_module m, spelled_in_var more)
