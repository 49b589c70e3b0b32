-- The first broken rule, as it is told.
use Rattle.std.proofs.Common.{◌≡◌, inl, inr, ℕ, Option, Some, None, IfSome, refl, ap, ◌∙◌}
use Rattle.smv_language.specs.Language.{ProgramTree, FlatModel}
use Rattle.smv_flat_laws.specs.Rules.{Rule, IsFirstBroken}
use Rattle.smv_scope.specs.Faults.{rule_of, IsFaultOf}
use Rattle.smv_scope.specs.declared.fault.FlatFault.{FlatFault}
use Rattle.smv_scope.specs.declared.fault.FlatRule.{FlatRule}
use Rattle.smv_scope.specs.declared.fault.FlatRule.TheVariants as flat
use Rattle.smv_type_laws.specs.ExpressionKinds as kinds
use Rattle.smv_type_laws.specs.ExpressionKinds.{KindRule}
use Rattle.smv_type_laws.specs.Models.{IsFault}
use Rattle.smv_types.specs.Answers.{told_rule}
use Rattle.smv_types.specs.Faults.{IsToldOf}
use Rattle.smv_types.specs.declared.fault.TypeFault.{TypeFault}
use Rattle.verb_loading.specs.declared.status.InputFault.{InputFault}
use Rattle.verb_loading.specs.declared.wrong.Wrong.{Wrong}
use Rattle.verb_loading.specs.declared.wrong.Wrong.TheVariants as wrong
use Rattle.verb_loading.specs.Wrongs.{flat_rule, type_rule, names_fault, kinds_fault, IfRefused}

pub one_refusal : {a b : InputFault} → wrong.Refused a ≡ wrong.Refused b → a ≡ b
one_refusal e = cc

-- what is so of each fault for which something is wrong
pub if_refused : (P : InputFault → Type 0) (w : Wrong) → ((fault : InputFault) → wrong.Refused fault ≡ w → P fault) → IfRefused P w
if_refused P (wrong.Refused fault) h = h fault refl
if_refused P wrong.Memory h = tt

pub refused_weaker : (P Q : InputFault → Type 0) → ((fault : InputFault) → P fault → Q fault) → (w : Wrong) → IfRefused P w → IfRefused Q w
refused_weaker P Q h (wrong.Refused fault) so = h fault so
refused_weaker P Q h wrong.Memory so = tt

-- a rule of names where one is told
abbrev pub names_wrong : Option Rule → ℕ → Wrong
names_wrong None place = wrong.Memory
names_wrong (Some r) place = wrong.Refused (names_fault r place)

pub flat_is : (c : FlatRule) (place : ℕ) → flat_rule c place ≡ names_wrong (rule_of c) place
flat_is flat.NoMain place = refl
flat_is flat.MainHasParameters place = refl
flat_is flat.DoubleModule place = refl
flat_is flat.DoubleName place = refl
flat_is flat.NoSuchModule place = refl
flat_is flat.WrongCount place = refl
flat_is flat.ModuleLoop place = refl
flat_is flat.NoSuchName place = refl
flat_is flat.NotATarget place = refl
flat_is flat.DoubleAssign place = refl
flat_is flat.DefineLoop place = refl
flat_is flat.NextHere place = refl
flat_is flat.InputHere place = refl
flat_is flat.TooMany place = refl
flat_is flat.OutOfMemory place = refl

-- the first broken rule of names, told at some place
pub record IsNamed (p : ProgramTree) (item place : ℕ) (told : InputFault) : Type 0 where
  pub rule : Rule
  pub broken : IsFirstBroken p rule item
  pub is : told ≡ names_fault rule place

pub named : (p : ProgramTree) (f : FlatFault) (place : ℕ) (told : InputFault) → IsFaultOf p f → wrong.Refused told ≡ flat_rule f.rule place → IsNamed p f.item place told
named p f place told h e = by_rule (rule_of f.rule) h (e ∙ flat_is f.rule place)
  where
    by_rule : (o : Option Rule) → IfSome o (λ r. IsFirstBroken p r f.item) → wrong.Refused told ≡ names_wrong o place → IsNamed p f.item place told
    by_rule None h e = cc
    by_rule (Some r) h e = record { rule = r; broken = h; is = one_refusal e }

-- the first broken rule of kinds, told at some place
pub record IsKind (m : FlatModel) (item place : ℕ) (told : InputFault) : Type 0 where
  pub rule : KindRule
  pub broken : IsFault m rule item
  pub is : told ≡ kinds_fault rule place

pub type_is : (r : KindRule) (place : ℕ) → type_rule (told_rule r) place ≡ wrong.Refused (kinds_fault r place)
type_is kinds.mismatch place = refl
type_is kinds.not_boolean place = refl
type_is kinds.set_here place = refl
type_is kinds.may_divide_by_zero place = refl
type_is kinds.too_wide place = refl
type_is kinds.empty_range place = refl
type_is kinds.mixed_enum place = refl
type_is kinds.case_end place = refl
type_is kinds.too_large place = refl
type_is kinds.double_member place = refl

pub of_kind : (m : FlatModel) (f : TypeFault) (place : ℕ) (told : InputFault) → IsToldOf m f → wrong.Refused told ≡ type_rule f.rule place → IsKind m f.item place told
of_kind m f place told (inl memory) e = let bad : wrong.Refused told ≡ wrong.Memory = e ∙ ap (λ r. type_rule r place) memory in cc
of_kind m f place told (inr fault) e = record { rule = fault.rule; broken = fault.is_fault; is = one_refusal (e ∙ ap (λ r. type_rule r place) fault.is_rule ∙ type_is fault.rule place) }
