-- The first rule of kinds of a mode, from what is told of its expressions.
use Rattle.std.proofs.Common.{◌≡◌, Bool, true, false, not, ◌++◌, Option, Some, None, refl, sym, ◌∙◌, ap, subst}
use Rattle.std.specs.Option.{option_map}
use Rattle.smv_language.specs.Language.{Tree, DeclaredTree, ProgramTree, FlatLeaf, FlatModel}
use Rattle.smv_type_laws.specs.Intervals.{Interval}
use Rattle.smv_type_laws.specs.ExpressionKinds as found
use Rattle.smv_type_laws.specs.ExpressionKinds.{Class, truth_class, number_class, symbol_class, KindRule, mismatch, not_boolean, same_class, rule_if}
use Rattle.smv_type_laws.specs.Models.{judged_in, least}
use Rattle.smv_types.specs.Answers.{told_first, told_rules, told_rule}
use Rattle.smv_types.specs.Calls.{fault_of, shown}
use Rattle.smv_types.specs.Rows.{lower, unless}
use Rattle.smv_types.specs.declared.calls.Kind.{Kind}
use Rattle.smv_types.specs.declared.fault.TypeRule.{TypeRule}
use Rattle.smv_types.specs.declared.fault.TypeRule.TheVariants.{Mismatch, NotBoolean}
use Rattle.smv_types.proofs.ToldLaws.{told_join}
use Rattle.fault_extend_laws.specs.Uses.{Use}
use Rattle.fault_extend_laws.specs.Expressions.{followed, KeepsNames, IsForm, broken_by, class_of_followed, class_of_guard, or_else, kind_rule, KeepsUse, of_kinds, IsBrokenAt, by_kinds}
use Rattle.fault_extend.specs.declared.fault.WeaveCause.{WeaveCause}
use Rattle.fault_extend.specs.declared.fault.WeaveCause.TheVariants.{Kinds}
use Rattle.fault_extend.specs.FirstRefusal.{IsWantOr}
use Rattle.fault_extend.specs.GuardJudgement.{kind_of_form, class_shown, fits_class}
use Rattle.smv_type_laws.specs.DeclaredKinds.{class_declared}

or_told : (o q : Option KindRule) (rule : TypeRule) → told_first o ≡ Some rule → Some rule ≡ told_first (or_else o q)
or_told None q rule e = cc
or_told (Some r) q rule e = sym e

or_none : (o q : Option KindRule) → told_first o ≡ None → told_first (or_else o q) ≡ told_first q
or_none None q e = refl
or_none (Some r) q e = cc

class_kept : (c : Class) (i : Option Interval) → class_shown (shown (record { class = c; interval = i })) ≡ c
class_kept truth_class i = refl
class_kept number_class None = refl
class_kept number_class (Some i) = refl
class_kept symbol_class i = refl

told_mismatch : (b : Bool) → told_rules (rule_if (not b) mismatch) ≡ unless b Mismatch
told_mismatch true = refl
told_mismatch false = refl

told_not_boolean : (b : Bool) → told_rules (rule_if (not b) not_boolean) ≡ unless b NotBoolean
told_not_boolean true = refl
told_not_boolean false = refl

module _ (m : FlatModel) (type : DeclaredTree) where
  told_followed : (form : Option (Tree FlatLeaf)) → told_rules (class_of_followed m type form) ≡ unless (fits_class (option_map shown (kind_of_form m form)) (class_declared type)) Mismatch
  told_followed None = refl
  told_followed (Some t) =
      let k : found.Kind = (judged_in m false t).kind in
      told_mismatch (same_class k.class (class_declared type)) ∙ ap (λ c. unless (same_class c (class_declared type)) Mismatch) (sym (class_kept k.class k.interval))

  told_guard : (form : Option (Tree FlatLeaf)) → told_rules (class_of_guard m form) ≡ unless (fits_class (option_map shown (kind_of_form m form)) truth_class) NotBoolean
  told_guard None = refl
  told_guard (Some t) =
      let k : found.Kind = (judged_in m false t).kind in
      told_not_boolean (same_class k.class truth_class) ∙ ap (λ c. unless (same_class c truth_class) NotBoolean) (sym (class_kept k.class k.interval))

  -- a rule that an expression breaks is told before the demands on classes
  pub kinds_some : (f g : Option (Tree FlatLeaf)) (fr gr : Option TypeRule) (rule : TypeRule) → fr ≡ told_rules (broken_by m f) → gr ≡ told_rules (broken_by m g) → lower fr gr ≡ Some rule →
      Some rule ≡ told_first (kind_rule m type f g)
  kinds_some f g fr gr rule a b e =
      or_told (least (broken_by m f ++ broken_by m g)) (least (class_of_followed m type f ++ class_of_guard m g)) rule
      (told_join (broken_by m f) (broken_by m g) ∙ sym (λ i. lower (a i) (b i)) ∙ e)

  -- and where there is none, they are
  pub kinds_none : (f g : Option (Tree FlatLeaf)) (fr gr : Option TypeRule) (fk gk : Option Kind) → fr ≡ told_rules (broken_by m f) → gr ≡ told_rules (broken_by m g) → lower fr gr ≡ None →
      (fr ≡ None → fk ≡ option_map shown (kind_of_form m f)) → (gr ≡ None → gk ≡ option_map shown (kind_of_form m g)) →
      lower (unless (fits_class fk (class_declared type)) Mismatch) (unless (fits_class gk truth_class) NotBoolean) ≡ told_first (kind_rule m type f g)
  kinds_none f g fr gr fk gk a b e fits suits =
      let none : (fr ≡ None) × (gr ≡ None) = lower_none fr gr e in
      (λ i. lower (unless (fits_class (fits none.0 i) (class_declared type)) Mismatch) (unless (fits_class (suits none.1 i) truth_class) NotBoolean))
      ∙ sym (λ i. lower (told_followed f i) (told_guard g i)) ∙ sym (told_join (class_of_followed m type f) (class_of_guard m g))
      ∙ sym (or_none (least (broken_by m f ++ broken_by m g)) (least (class_of_followed m type f ++ class_of_guard m g)) (told_join (broken_by m f) (broken_by m g) ∙ sym (λ i. lower (a i) (b i)) ∙ e))
    where
      lower_none : (x y : Option TypeRule) → lower x y ≡ None → (x ≡ None) × (y ≡ None)
      lower_none None y e = (refl, e)
      lower_none (Some r) None e = cc
      lower_none (Some r) (Some q) e = cc

-- what is told of a rule is a rule
told_some : (o : Option KindRule) (rule : TypeRule) → told_first o ≡ Some rule → (r : KindRule) × (o ≡ Some r) × (rule ≡ told_rule r)
told_some None rule e = cc
told_some (Some r) rule e = let same : told_rule r ≡ rule = cc in (r, refl, sym same)

told_none : (o : Option KindRule) → told_first o ≡ None → o ≡ None
told_none None e = refl
told_none (Some r) e = cc

-- a mode that keeps the rules of names, by its forms
pub mode_told : (p : ProgramTree) (m : FlatModel) (u : Use) (f g : Option (Tree FlatLeaf)) (rule : TypeRule) (cause : WeaveCause) → KeepsNames p u → IsForm p m u.place (followed u.mode.effect) f → IsForm p m u.place u.mode.guard g →
    told_first (kind_rule m u.type f g) ≡ Some rule → cause ≡ Kinds (fault_of rule) → IsWantOr cause (IsBrokenAt p m u)
mode_told p m u f g rule cause names is_followed is_guard told e =
    let r : (r : KindRule) × (kind_rule m u.type f g ≡ Some r) × (rule ≡ told_rule r) = told_some (kind_rule m u.type f g) rule told in
    subst (λ x. IsWantOr x (IsBrokenAt p m u)) (sym e) (record {
      rule = of_kinds r.0;
      is_cause = ap fault_of r.2;
      holds = by_kinds r.0 names (record { follows_as = f; guard_as = g; is_followed = is_followed; is_guard = is_guard }) r.1;
    })

pub mode_kept : (p : ProgramTree) (m : FlatModel) (u : Use) (f g : Option (Tree FlatLeaf)) → KeepsNames p u → IsForm p m u.place (followed u.mode.effect) f → IsForm p m u.place u.mode.guard g →
    told_first (kind_rule m u.type f g) ≡ None → KeepsUse p m u
mode_kept p m u f g names is_followed is_guard told =
    record { names = names; forms = record { follows_as = f; guard_as = g; is_followed = is_followed; is_guard = is_guard }; kinds = told_none (kind_rule m u.type f g) told }
