-- A top event of a model over the flat model of its extension, and the rule for which it is refused, as it is told.
use Rattle.std.proofs.Common.{◌≡◌, Bool, false, List, [], ◌∷◌, Option, Some, None, IfSome, Result, Ok, Err, refl, ap, ◌∙◌}
use Rattle.std.specs.Prelude.{slice_get, nat_lt}
use Rattle.base_values.specs.declared.limits.TheConstants.{MOST_TOP_COST}
use Rattle.smv_language.specs.Language.{Tree, Text, Formula, ProgramTree, FlatLeaf, FlatModel}
use Rattle.smv_flat_laws.specs.Model.{IsFlatOf}
use Rattle.smv_flat_laws.specs.ResolvedAt.{IsResolvedAt}
use Rattle.smv_flat_laws.specs.Rules.{Rule, IsAccepted}
use Rattle.smv_flat_laws.specs.ValueRules.{IsLeastBroken, KeepsValue}
use Rattle.smv_flat_laws.proofs.Walkable.{accepted_walkable}
use Rattle.smv_flat.specs.ResolvedAt.{IsAt, IsValueFault}
use Rattle.smv_scope.specs.Faults.{rule_of}
use Rattle.smv_scope.specs.declared.fault.FlatFault.{FlatFault}
use Rattle.smv_type_laws.specs.ExpressionKinds.{KindRule}
use Rattle.smv_type_laws.specs.Models.{judged_in, broken_condition, least, least_after, size_fault, top_fault}
use Rattle.smv_type_laws.specs.Costs.{cost_of}
use Rattle.smv_types.specs.Answers.{told_rule}
use Rattle.smv_types.specs.Calls.{top_answer}
use Rattle.smv_types.specs.declared.fault.TypeFault.{TypeFault}
use Rattle.fault_woven_laws.specs.Tops.{HaveFlatModels, IsReadAs}
use Rattle.fault_woven_laws.proofs.Judging.{woven_own, none_refused}
use Rattle.fault_woven_laws.proofs.Names.{values_kept}
use Rattle.verb_loading.specs.declared.status.InputFault.{InputFault}
use Rattle.verb_loading.specs.declared.wrong.Wrong.TheVariants as wrong
use Rattle.verb_loading.specs.Wrongs.{flat_wrong, type_wrong, names_fault}
use Rattle.verb_loading.specs.Models.{IsLawful}
use Rattle.verb_loading.specs.Cases.{Case, extension_of, IsCase, IsTop, IsWrongTop, by_names, by_kinds}
use Rattle.verb_loading.specs.LoadedCases.{IsTopIn, IsTopText}
use Rattle.verb_loading.proofs.Told.{one_refusal, names_wrong, flat_is, type_is}
use Rattle.smv_flat_laws.specs.Items.{main_instance}

pub main_is_at : (p : ProgramTree) (m : FlatModel) → IsAccepted p → IsFlatOf p m → IsAt p m 0 main_instance
main_is_at p m accepted is = record { accepted = accepted; flat = is; is_at = ap (λ xs. slice_get xs 0) is.instances }

-- the least broken rule of names, as it is told
pub wrong_by_names : (p : ProgramTree) (e : Formula) (f : FlatFault) (told : InputFault) → IsValueFault p [] false e f → wrong.Refused told ≡ flat_wrong f → IsWrongTop p e 0 told
wrong_by_names p e f told h is = by_rule (rule_of f.rule) h (is ∙ flat_is f.rule f.item)
  where
    by_rule : (o : Option Rule) → IfSome o (λ r. (f.item ≡ 0) × IsLeastBroken p [] false e r) → wrong.Refused told ≡ names_wrong o f.item → IsWrongTop p e 0 told
    by_rule None h is = cc
    by_rule (Some r) h is = by_names r h.1 (one_refusal is ∙ ap (names_fault r) h.0)

-- where no rule of names is broken, nothing is told but want of memory
pub names_untold : (p : ProgramTree) (e : Formula) (f : FlatFault) (told : InputFault) → KeepsValue p [] false e → IsValueFault p [] false e f → wrong.Refused told ≡ flat_wrong f → ⊥
names_untold p e f told kept h is = by_rule (rule_of f.rule) h (is ∙ flat_is f.rule f.item)
  where
    by_rule : (o : Option Rule) → IfSome o (λ r. (f.item ≡ 0) × IsLeastBroken p [] false e r) → wrong.Refused told ≡ names_wrong o f.item → ⊥
    by_rule None h is = cc
    by_rule (Some r) h is = kept r h.1.broken

-- nothing is told of want of memory
pub want_untold : (f : FlatFault) (told : InputFault) → rule_of f.rule ≡ None → wrong.Refused told ≡ flat_wrong f → ⊥
want_untold f told none is = by_rule (rule_of f.rule) none (is ∙ flat_is f.rule f.item)
  where
    by_rule : (o : Option Rule) → o ≡ None → wrong.Refused told ≡ names_wrong o f.item → ⊥
    by_rule None none is = cc
    by_rule (Some r) none is = cc

-- the rule of kinds, as it is told
pub wrong_by_kinds : (p : ProgramTree) (e : Formula) (m : FlatModel) (tree : Tree FlatLeaf) (f : TypeFault) (told : InputFault) → IsLawful p m → KeepsValue p [] false e → IsResolvedAt p m [] e tree →
    ◌≡◌ {A = Result (Unit {0}) TypeFault} (Err f) (top_answer (top_fault m tree)) → wrong.Refused told ≡ type_wrong f → IsWrongTop p e 0 told
wrong_by_kinds p e m tree f told lawful kept resolved answer is = by_fault (top_fault m tree) refl answer
  where
    by_fault : (o : Option KindRule) → top_fault m tree ≡ o → ◌≡◌ {A = Result (Unit {0}) TypeFault} (Err f) (top_answer o) → IsWrongTop p e 0 told
    by_fault None found answer = cc
    by_fault (Some r) found answer =
        let same : f ≡ record { rule = told_rule r; item = 0 } = cc in
        by_kinds m tree r kept lawful.model resolved found (one_refusal (is ∙ ap type_wrong same ∙ type_is r 0))

-- and none where there is none
pub kinds_kept : (o : Option KindRule) (done : Unit {0}) → ◌≡◌ {A = Result (Unit {0}) TypeFault} (Ok done) (top_answer o) → o ≡ None
kinds_kept None done e = refl
kinds_kept (Some r) done e = cc

pub top_of_parts : (p : ProgramTree) (e : Formula) (m : FlatModel) (tree : Tree FlatLeaf) → IsLawful p m → KeepsValue p [] false e → IsResolvedAt p m [] e tree → top_fault m tree ≡ None → IsTop p e
top_of_parts p e m tree lawful kept resolved none = record { names = kept; flat = m; is_flat = lawful.model; tree = tree; resolved = resolved; kinds = none }

-- a condition that is refused for nothing breaks no rule
unbroken : (rs : List KindRule) (large : Bool) → elim (least rs) as (λ o. Option KindRule) [ Some r ↦ Some r | None ↦ size_fault large ] ≡ None → rs ≡ []
unbroken [] large e = refl
unbroken (r ∷ rs) large e = by_least (least rs) e
  where
    by_least : (o : Option KindRule) → elim (least_after r o) as (λ o. Option KindRule) [ Some r ↦ Some r | None ↦ size_fault large ] ≡ None → r ∷ rs ≡ []
    by_least None e = cc
    by_least (Some q) e = cc

module _ (c : Case) (is : IsCase c) (m : FlatModel) (lawful : IsLawful c.program m) where
  pub have_models : (e : Formula) (top : IsTop c.program e) → HaveFlatModels c.program top.flat c.instructions c.flat
  have_models e top =
      record {
        weavable = is.taken.weavable;
        program = accepted_walkable c.program lawful.accepted;
        flat = top.is_flat.is;
        woven_program = accepted_walkable (extension_of c) is.within.accepted;
        woven_flat = is.is_flat.is;
      }

  -- it breaks no rule of names over the extension
  pub names_over : (e : Formula) → IsTop c.program e → KeepsValue (extension_of c) [] false e
  names_over e top = values_kept c.program c.instructions is.taken.weavable [] false e top.names

  -- and is one there
  pub top_over : (word : Text) (e : Formula) (tree : Tree FlatLeaf) → IsTopText word e → IsTop c.program e → IsResolvedAt (extension_of c) c.flat [] e tree → IsTopIn c word tree
  top_over word e tree text top resolved =
      let read : IsReadAs c.program top.flat c.instructions c.flat [] e top.tree tree = record { before = top.resolved; after = resolved } in
      let none : top_fault c.flat tree ≡ None = (none_refused c.program top.flat c.instructions c.flat (have_models e top) [] e top.tree tree read top.kinds c.modes).0 in
      record {
        top = e;
        is_word = record { short = text.short; spelled = text.spelled; only = text.only; depths = text.depths; is_top = top };
        is_tree = resolved;
        own = woven_own c.program top.flat c.instructions c.flat (have_models e top) [] e top.tree tree read;
        kept = unbroken (broken_condition (judged_in c.flat false tree)) (nat_lt MOST_TOP_COST (cost_of tree)) none;
      }
