-- The one fault of kinds that a woven program's flat model may have.
use Rattle.std.proofs.Common.{◌≡◌, ℕ, true, List, [], ◌∷◌, ap, subst}
use Rattle.smv_language.specs.Language.{ProgramTree, state, Each, AtSome, IsVariable, in_domain, FlatModel}
use Rattle.smv_language.specs.Values.{number}
use Rattle.fault_instructions.specs.Instructions.{InstructionTree, slices_of}
use Rattle.fault_instructions.specs.AddedNames.{mode_variable}
use Rattle.fault_weave.specs.WovenProgram.{mode_type, woven}
use Rattle.fault_instructions.specs.Weavable.{Among}
use Rattle.fault_weave.proofs.Added.{among_contains}
use Rattle.fault_weave.proofs.LeafValues.{mode_variable_kind}
use Rattle.smv_flat_laws.specs.History.{Mode, with_history}
use Rattle.smv_flat_laws.proofs.Lists.{each_more}
use Rattle.smv_type_laws.specs.ExpressionKinds.{KindRule, too_large}
use Rattle.smv_type_laws.specs.DeclaredKinds.{judged_declared}
use Rattle.smv_type_laws.specs.Models.{Breach, breaches, IsFault, at_an_item, of_its_size}
use Rattle.smv_type_laws.proofs.ClosedLaws.{models_closed}
use Rattle.fault_woven_laws.specs.Modes.{HasSymbols, IsSliceMode}
use Rattle.fault_woven_laws.specs.Laws.{AreWoven, WovenBreaksNone, ModesHaveSymbols, SliceModesAreModes, HistoryBreaksNone, WovenBreaksSizeAlone}
use Rattle.smv_type_laws.proofs.Leaves.{declared_so}
use Rattle.smv_type_laws.proofs.StandFor.{variable_there}
use Rattle.fault_woven_laws.proofs.WovenModel.{woven_kept}
use Rattle.fault_woven_laws.proofs.History.{history_kept}
use Rattle.cert_laws.proofs.Own.{type_symbol}
use Rattle.smv_type_laws.proofs.TraceLaws.{one_type}

pub woven_none : WovenBreaksNone
woven_none p m i w a = woven_kept p i a.weavable m w a.program a.woven_program a.flat a.woven_flat a.no_breach a.items a.expressions

-- the variable of such a mode has the type of the slice's states
state_type : (p : ProgramTree) (m : FlatModel) (i : InstructionTree) (w : FlatModel) → AreWoven p m i w → (f : Mode) → (s : IsSliceMode p i w f) → s.number.variable.declared ≡ mode_type s.slice
state_type p m i w a f s =
    let q = woven p i in
    let k = s.is_slice.0 in
    let among : Among (slices_of i k.name) s.slice = among_contains (slices_of i k.name) s.slice s.is_slice.2 in
    let there : IsVariable q s.place (mode_variable s.slice.name) state (mode_type s.slice) =
    variable_there q s.place (mode_variable s.slice.name) state (mode_type s.slice) (mode_variable_kind p i a.weavable s.place k s.slice s.is_slice.1 among) in
    let v = s.number.variable in
    let so : IsVariable q s.place (mode_variable s.slice.name) v.role v.declared =
    subst (λ b. IsVariable q b (mode_variable s.slice.name) v.role v.declared) s.number.same_place
    (subst (λ y. IsVariable q v.place y v.role v.declared) s.number.same_name (declared_so q w a.woven_program a.woven_flat f.variable v s.number.is)) in
    one_type q s.place (mode_variable s.slice.name) v.role state v.declared (mode_type s.slice) so there

pub modes_symbols : ModesHaveSymbols
modes_symbols p m i w a f s =
    record { variable = s.number.variable; is_variable = s.number.is; symbols = ap (λ t. (judged_declared t).kind.class) (state_type p m i w a f s) }

pub modes_are_modes : SliceModesAreModes
modes_are_modes p m i w a f s x e =
    record {
      variable = s.number.variable;
      is_variable = s.number.is;
      symbols_alone = λ v within. type_symbol s.slice v (subst (λ t. in_domain t v ≡ true) (state_type p m i w a f s) within);
      text = x;
      is_symbol = e;
    }

pub history_none : HistoryBreaksNone
history_none m fs closed s right = history_kept m fs closed s right

-- where no rule is broken at an item there is the fault of the size alone
pub none_among : (first : Breach) (bs : List Breach) → bs ≡ [] → AtSome (λ b. b ≡ first) bs → ⊥
none_among first [] e h = h
none_among first (b ∷ bs) e h = cc

pub size_alone : (m : FlatModel) → breaches m ≡ [] → (rule : KindRule) (item : ℕ) → IsFault m rule item → (rule ≡ too_large) × (item ≡ 0)
size_alone m right rule item (at_an_item first is r n) = absurd (none_among first (breaches m) right is.among)
size_alone m right rule item (of_its_size none large r n) = (r, n)

pub size_alone_woven : WovenBreaksSizeAlone
size_alone_woven p m i w a fs modes rule item =
    let right = woven_none p m i w a in
    let symbols : Each (HasSymbols w) fs = each_more (IsSliceMode p i w) (HasSymbols w) fs (λ f s. modes_symbols p m i w a f s) modes in
    (size_alone w right rule item, size_alone (with_history w fs) (history_none w fs (models_closed (woven p i) w a.woven_flat) symbols right) rule item)
