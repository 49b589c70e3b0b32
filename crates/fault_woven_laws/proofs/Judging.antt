-- An expression is judged over the woven program's flat model, with history or without, as over the program's.
use Rattle.std.proofs.Common.{◌≡◌, ℕ, Bool, false, Option, Some, None, List, refl, sym, ◌∙◌}
use Rattle.std.specs.Prelude.{length, nat_lt}
use Rattle.base_values.specs.declared.limits.TheConstants.{MOST_TOP_COST}
use Rattle.smv_language.specs.Language.{Tree, Formula, ProgramTree, Place, FlatLeaf, FlatModel}
use Rattle.fault_instructions.specs.Instructions.{InstructionTree}
use Rattle.fault_weave.specs.WovenProgram.{woven}
use Rattle.smv_flat_laws.specs.History.{Mode, with_history}
use Rattle.smv_flat_laws.specs.NameResolution.{Resolver, IsSound, IsResolved}
use Rattle.smv_type_laws.specs.Costs.{cost_of}
use Rattle.smv_type_laws.specs.ExpressionKinds.{KindRule, Judged}
use Rattle.smv_type_laws.specs.Laws.{IsKnown, ReadsOwn}
use Rattle.smv_type_laws.specs.Models.{kind_of_leaf, judged_in, broken_condition, least, size_fault}
use Rattle.smv_type_laws.proofs.ClosedLaws.{own_by, models_closed}
use Rattle.smv_type_laws.proofs.ModelLaws.{judge_agrees, all_leaves_more}
use Rattle.fault_woven_laws.proofs.Definitions.{written_agrees}
use Rattle.fault_woven_laws.proofs.History.{own_kind}
use Rattle.smv_type_laws.proofs.Leaves.{resolved_judged, has_leaves}
use Rattle.fault_woven_laws.specs.Tops.{HaveFlatModels, IsReadAs, IsJudgedAlike}
use Rattle.fault_woven_laws.specs.WovenTopsLaws.{WovenJudgesAlike, HistoryJudgesAlike, WovenRefusesNone}
use Rattle.smv_type_laws.proofs.ResolvedCosts.{resolved_cost}

-- what a condition is refused for, from what is judged of it and what it costs
abbrev told : Judged → ℕ → Option KindRule
told j cost = elim (least (broken_condition j)) [ Some r ↦ Some r | None ↦ size_fault (nat_lt MOST_TOP_COST cost) ]

alike : (m : FlatModel) (e : Tree FlatLeaf) (n : FlatModel) (f : Tree FlatLeaf) → ((sets : Bool) → judged_in n sets f ≡ judged_in m sets e) → cost_of f ≡ cost_of e → IsJudgedAlike m e n f
alike m e n f judged cost = record { judged = judged; cost = cost; fault = λ z. told (judged false z) (cost z) }

pub woven_alike : WovenJudgesAlike
woven_alike p m i w have at e tree woven_tree read =
    let r : (r : Resolver) × IsSound p m have.flat.written r × IsResolved (r at) e tree = read.before have.flat in
    let s : (s : Resolver) × IsSound (woven p i) w have.woven_flat.written s × IsResolved (s at) e woven_tree = read.after have.woven_flat in
    alike m tree w woven_tree
    (λ sets. resolved_judged w (s.0 at) e woven_tree sets s.2
    ∙ sym (written_agrees p i have.weavable m w have.program have.woven_program have.flat have.woven_flat r.0 s.0 r.1 s.1 at e tree sets r.2 (has_leaves (s.0 at) e woven_tree s.2)))
    (resolved_cost (s.0 at) e woven_tree s.2 ∙ sym (resolved_cost (r.0 at) e tree r.2))

pub history_alike : HistoryJudgesAlike
history_alike m fs closed e own =
    alike m e (with_history m fs) e
    (λ sets. judge_agrees (kind_of_leaf (with_history m fs)) (kind_of_leaf m) sets e
    (all_leaves_more (IsKnown (length m.variables) (length m.symbols) (length m.definitions)) (λ l. kind_of_leaf (with_history m fs) l ≡ kind_of_leaf m l) (own_kind m fs closed) e own))
    refl

-- what is read over the woven program reads the model's own names
pub woven_own : (p : ProgramTree) (m : FlatModel) (i : InstructionTree) (w : FlatModel) → HaveFlatModels p m i w → (at : Place) (e : Formula) (tree woven_tree : Tree FlatLeaf) →
    IsReadAs p m i w at e tree woven_tree → ReadsOwn w woven_tree
woven_own p m i w have at e tree woven_tree read =
    let s : (s : Resolver) × IsSound (woven p i) w have.woven_flat.written s × IsResolved (s at) e woven_tree = read.after have.woven_flat in
    own_by (woven p i) w have.woven_flat s.0 s.1 at e woven_tree s.2

-- over the model with history as over the program's
pub whole_alike : (p : ProgramTree) (m : FlatModel) (i : InstructionTree) (w : FlatModel) → HaveFlatModels p m i w → (at : Place) (e : Formula) (tree woven_tree : Tree FlatLeaf) →
    IsReadAs p m i w at e tree woven_tree → (fs : List Mode) → IsJudgedAlike m tree (with_history w fs) woven_tree
whole_alike p m i w have at e tree woven_tree read fs =
    let here : IsJudgedAlike m tree w woven_tree = woven_alike p m i w have at e tree woven_tree read in
    let more : IsJudgedAlike w woven_tree (with_history w fs) woven_tree =
    history_alike w fs (models_closed (woven p i) w have.woven_flat) woven_tree (woven_own p m i w have at e tree woven_tree read) in
    record { judged = λ sets. more.judged sets ∙ here.judged sets; cost = more.cost ∙ here.cost; fault = more.fault ∙ here.fault }

pub none_refused : WovenRefusesNone
none_refused p m i w have at e tree woven_tree read kept fs = (
  (woven_alike p m i w have at e tree woven_tree read).fault ∙ kept,
  (whole_alike p m i w have at e tree woven_tree read fs).fault ∙ kept,
)
