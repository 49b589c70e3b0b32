-- Guards and what is followed, by the rules of names and of kinds.
use Rattle.std.proofs.Common.{◌≡◌, ◌⊎◌, inl, inr, ℕ, false, List, [], ◌∷◌, map, flat_map, Option, Some, None, sym, ◌∙◌, subst}
use Rattle.std.specs.Prelude.{◌||◌, slice_get, codes}
use Rattle.smv_language.specs.declared.program.Member.{Member}
use Rattle.smv_language.specs.declared.program.Member.TheVariants as member
use Rattle.smv_language.specs.Language.{Tree, Trees, Branches, leaf, not_of, negate, next_of, binary, choice, case_of, set_of, span, no_tree, tree_then, no_branch, branch_then, Formula, DeclaredTree, boolean, range, members, instance, ModuleTree, ProgramTree, Place, find_module, Each, IsVariable, EachBoth, FlatLeaf, FlatVariable, FlatModel}
use Rattle.smv_language.specs.Tree.{truth as is_truth, number as is_number}
use Rattle.fault_instructions.specs.Instructions.{EffectTree, plain, of_constant, of_expression, of_number, of_numbers}
use Rattle.fault_instructions.specs.Types.{IsUniform, IsNumberMember, IsSymbolMember}
use Rattle.fault_instructions.specs.Weavable.{NoNext, NoNextInTrees, NoNextInBranches, HasMeaning, IsReadable, IsReadableEffect, IsLawfulGuard}
use Rattle.smv_flat_laws.specs.Items.{Visit, visits, variables_of}
use Rattle.smv_flat_laws.specs.NameResolution.{Definition, Resolver, IsSound, IsResolved, leaves_in, has_next, trees_have_next, branches_have_next}
use Rattle.smv_flat_laws.specs.Rules.{IsAccepted}
use Rattle.smv_flat_laws.specs.Model.{IsVariableOf, IsFlatOf}
use Rattle.smv_flat_laws.proofs.Conditions.{each_at}
use Rattle.smv_flat_laws.proofs.Lists.{each_more}
use Rattle.smv_flat_laws.proofs.Resolving.{Known, names_known, each_leaf}
use Rattle.smv_flat_laws.proofs.Places.{has_main}
use Rattle.smv_flat_laws.proofs.Walkable.{accepted_walkable, main_is_there}
use Rattle.smv_flat_laws.proofs.Variables.{variables_are, RealVariable, real_variables}
use Rattle.smv_type_laws.specs.ExpressionKinds.{Class, number_class, symbol_class, mixed_enum, unless_class, first_class}
use Rattle.smv_type_laws.specs.DeclaredKinds.{member_kind, judged_declared}
use Rattle.smv_type_laws.specs.Models.{variable_breaches, IsTyped}
use Rattle.smv_type_laws.proofs.Parts.{none_first, none_second, class_kept}
use Rattle.smv_type_laws.proofs.ClosedLaws.{all_leaves}
use Rattle.smv_type_laws.proofs.WrittenLaws.{written_conditions_decided}
use Rattle.fault_rules.specs.Prerequisites.{IsJudgedMode}
use Rattle.fault_extend.specs.JudgedLaws.{IsGoodMode, IsGoodEffect, IsGoodGuard, GoodModesAreJudged, TypesAreUniform, GoodIsJudged}
use Rattle.smv_type_laws.proofs.TraceLaws.{one_type}
use Rattle.smv_type_laws.proofs.SetRows.{or_false_second as or_right, or_false_first as or_left}
use Rattle.smv_type_laws.proofs.VariableTypes.{types_right}

mutual
  pub no_next : {L : Type 0} (t : Tree L) → has_next t ≡ false → NoNext t
  no_next (is_truth b) h = tt
  no_next (is_number n) h = tt
  no_next (leaf l) h = tt
  no_next (not_of a) h = no_next a h
  no_next (negate a) h = no_next a h
  no_next (next_of a) h = cc
  no_next (binary o a b) h = (no_next a (or_left (has_next a) (has_next b) h), no_next b (or_right (has_next a) (has_next b) h))
  no_next (choice c a b) h =
      let sides : (has_next a || has_next b) ≡ false = or_right (has_next c) (has_next a || has_next b) h in
      (no_next c (or_left (has_next c) (has_next a || has_next b) h), no_next a (or_left (has_next a) (has_next b) sides), no_next b (or_right (has_next a) (has_next b) sides))
  no_next (case_of bs) h = no_next_branches bs h
  no_next (set_of ts) h = no_next_trees ts h
  no_next (span lo hi) h = tt

  no_next_trees : {L : Type 0} (ts : Trees L) → trees_have_next ts ≡ false → NoNextInTrees ts
  no_next_trees no_tree h = tt
  no_next_trees (tree_then t ts) h = (no_next t (or_left (has_next t) (trees_have_next ts) h), no_next_trees ts (or_right (has_next t) (trees_have_next ts) h))

  no_next_branches : {L : Type 0} (bs : Branches L) → branches_have_next bs ≡ false → NoNextInBranches bs
  no_next_branches no_branch h = tt
  no_next_branches (branch_then c a bs) h =
      let rest : (has_next a || branches_have_next bs) ≡ false = or_right (has_next c) (has_next a || branches_have_next bs) h in
      (no_next c (or_left (has_next c) (has_next a || branches_have_next bs) h), no_next a (or_left (has_next a) (branches_have_next bs) rest), no_next_branches bs (or_right (has_next a) (branches_have_next bs) rest))

pub resolved_readable : (p : ProgramTree) (m : FlatModel) (ds : List Definition) (r : Resolver) → IsSound p m ds r → (at : Place) (e : Formula) (flat : Tree FlatLeaf) → IsResolved (r at) e flat → IsReadable p at e
resolved_readable p m ds r sound at e flat is =
    all_leaves (HasMeaning p at) e (each_more (λ name. Known (λ l. Unit {0}) (r at name)) (HasMeaning p at) (leaves_in e)
    (λ name known. let found = sound at name known.found known.is in (found.0, found.1)) (names_known (λ l. Unit {0}) (r at) e flat is (each_leaf (leaves_in flat))))

effect_readable : (p : ProgramTree) (m : FlatModel) (ds : List Definition) (at : Place) (e : EffectTree) → IsGoodEffect p m ds at e → IsReadableEffect p at e
effect_readable p m ds at (plain k) good = tt
effect_readable p m ds at (of_constant k c) good = tt
effect_readable p m ds at (of_expression k e) good = resolved_readable p m ds good.resolver good.sound at e good.flat good.resolved
effect_readable p m ds at (of_number k n) good = tt
effect_readable p m ds at (of_numbers k m' n) good = (tt, tt)

guard_lawful : (p : ProgramTree) (m : FlatModel) → IsAccepted p → (is : IsFlatOf p m) → IsTyped m → (at : Place) (k : ModuleTree) (g : Option Formula) → IsGoodGuard p m is.written at g → IsLawfulGuard p at k g
guard_lawful p m accepted is typed at k None good = tt
guard_lawful p m accepted is typed at k (Some e) good = (
  resolved_readable p m is.written good.resolver good.sound at e good.flat good.resolved,
  no_next e good.no_next,
  λ v within. written_conditions_decided p m accepted is typed good.resolver good.sound v v within within at e good.flat good.resolved good.kept,
)

pub good_modes : GoodModesAreJudged
good_modes p m accepted is typed at k mode good =
    record { effect = effect_readable p m is.written at mode.effect good.effect; guard = guard_lawful p m accepted is typed at k mode.guard good.guard }

-- the members of a type that breaks no rule
all_of_class : (c : Class) (ms : List Member) → flat_map (unless_class c mixed_enum) (map member_kind ms) ≡ [] → Each (λ m. (member_kind m).class ≡ c) ms
all_of_class c [] h = tt
all_of_class c (m ∷ ms) h = (
  class_kept c mixed_enum (member_kind m) (none_first (unless_class c mixed_enum (member_kind m)) (flat_map (unless_class c mixed_enum) (map member_kind ms)) h),
  all_of_class c ms (none_second (unless_class c mixed_enum (member_kind m)) (flat_map (unless_class c mixed_enum) (map member_kind ms)) h),
)

numbers_all : (ms : List Member) → Each (λ m. (member_kind m).class ≡ number_class) ms → Each IsNumberMember ms
numbers_all [] h = tt
numbers_all (member.Number n ∷ ms) h = (tt, numbers_all ms h.1)
numbers_all (member.Symbol x ∷ ms) h = absurd (cc (h.0))

symbols_all : (ms : List Member) → Each (λ m. (member_kind m).class ≡ symbol_class) ms → Each IsSymbolMember ms
symbols_all [] h = tt
symbols_all (member.Number n ∷ ms) h = absurd (cc (h.0))
symbols_all (member.Symbol x ∷ ms) h = (tt, symbols_all ms h.1)

members_uniform : (ms : List Member) → flat_map (unless_class (first_class (map member_kind ms)) mixed_enum) (map member_kind ms) ≡ [] → Each IsNumberMember ms ⊎ Each IsSymbolMember ms
members_uniform [] h = inl tt
members_uniform (member.Number n ∷ ms) h = inl (numbers_all (member.Number n ∷ ms) (all_of_class number_class (member.Number n ∷ ms) h))
members_uniform (member.Symbol x ∷ ms) h = inr (symbols_all (member.Symbol x ∷ ms) (all_of_class symbol_class (member.Symbol x ∷ ms) h))

type_uniform : (type : DeclaredTree) → (judged_declared type).broken ≡ [] → IsUniform type
type_uniform boolean h = tt
type_uniform (range lo hi) h = tt
type_uniform (instance k actuals) h = tt
type_uniform (members ms) h = members_uniform ms (none_first _ _ (none_first _ _ h))

-- a flat variable at a place of the list, with the declaration that it comes from
record From (p : ProgramTree) (m : FlatModel) (x : FlatVariable) : Type 0 where
  visit : Visit
  is : IsVariableOf m visit x
  real : RealVariable p visit

from : (p : ProgramTree) (m : FlatModel) (ws : List Visit) (xs : List FlatVariable) → EachBoth (IsVariableOf m) ws xs → Each (RealVariable p) ws → Each (From p m) xs
from p m [] [] b r = tt
from p m [] (x ∷ xs) b r = absurd b
from p m (w ∷ ws) [] b r = absurd b
from p m (w ∷ ws) (x ∷ xs) b r = (record { visit = w; is = b.0; real = r.0 }, from p m ws xs b.1 r.1)

pub types_uniform : TypesAreUniform
types_uniform p m accepted is typed at k x role type here kind =
    let listed : (i : ℕ) × (v : FlatVariable) × (slice_get m.variables i ≡ Some v) × (v.place ≡ at) × (v.name ≡ x) = (variables_are p (accepted_walkable p accepted) m is at x).0 (role, type, (k, here, kind)) in
    let main : (n : ModuleTree) × (find_module p (codes "main") ≡ Some n) = main_is_there p (accepted_walkable p accepted) in
    let origin : From p m listed.1 = each_at (From p m) m.variables listed.0 listed.1 (from p m (variables_of p) m.variables is.variables (real_variables p (visits p) (has_main p (accepted_walkable p accepted) main.0 main.1))) listed.2 in
    let right : (judged_declared listed.1.declared).broken ≡ [] =
    each_at (λ y. (judged_declared y.declared).broken ≡ []) m.variables listed.0 listed.1 (types_right m.variables (none_first (variable_breaches m.variables) _ typed.kept)) listed.2 in
    let there : IsVariable p at x origin.visit.role origin.visit.decl.what =
    subst (λ y. IsVariable p at y origin.visit.role origin.visit.decl.what) (sym origin.is.name ∙ listed.4)
    (subst (λ a. IsVariable p a origin.visit.decl.name origin.visit.role origin.visit.decl.what) (sym origin.is.place ∙ listed.3) origin.real) in
    let same : type ≡ listed.1.declared = one_type p at x role origin.visit.role type origin.visit.decl.what (k, here, kind) there ∙ sym origin.is.declared in
    type_uniform type (subst (λ t. (judged_declared t).broken ≡ []) (sym same) right)

pub good_is_judged : GoodIsJudged
good_is_judged p m i accepted is typed lawful good = record {
  instances = lawful;
  uniform = λ at k x role type here kind. types_uniform p m accepted is typed at k x role type here kind;
  modes = λ at k s here a. each_more (IsGoodMode p m is.written at) (IsJudgedMode p at k) s.modes (λ mode g. good_modes p m accepted is typed at k mode g) (good at k s here a);
}
