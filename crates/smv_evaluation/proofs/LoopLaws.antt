-- Lists gone through one after the other.
use Rattle.std.proofs.Common.{◌≡◌, ℕ, ◌+◌, ◌<◌, cond, List, [], ◌∷◌, ◌++◌, length, get_or, take, drop, set, ap, sym, subst, ◌∙◌, arith}
use Rattle.std.proofs.lemmas.List.{drop_more, take_more, take_more_set}
use Rattle.smv_language.specs.Tree.{Tree}
use Rattle.base_values.specs.declared.value.Value.{Value}
use Rattle.smv_language.specs.declared.model.Flat.{Flat}
use Rattle.smv_language.specs.declared.model.Formula.{Formula}
use Rattle.smv_language.specs.declared.model.FlatModel.{FlatModel}
use Rattle.smv_evaluation.specs.declared.trace.Replayed.TheVariants.{BadStep}
use Rattle.smv_evaluation.specs.Entries.{Entries}
use Rattle.smv_evaluation.specs.MomentTables.{definition_value, definition_values, filled, step_holds}
use Rattle.smv_evaluation.specs.Replay.{replayed_from}

pub definitions_more : (variables done : List Value) (ds : List Formula) (i : ℕ) (d : Formula) → i < length ds →
    definition_values variables done (drop i ds) ≡ definition_values variables (done ++ definition_value variables done (get_or ds i d) ∷ []) (drop (i + 1) ds)
definitions_more variables done ds i d h = ap (definition_values variables done) (drop_more ds i d h)

pub replay_more : (m : FlatModel) (top : Tree Flat) (now : Entries) (vs : List (List Value)) (i : ℕ) (d : List Value) → i < length vs →
    replayed_from m top now i (drop i vs) ≡ cond (step_holds m now (filled m (get_or vs i d))) (replayed_from m top (filled m (get_or vs i d)) (i + 1) (drop (i + 1) vs)) (BadStep i)
replay_more m top now vs i d h = ap (replayed_from m top now i) (drop_more vs i d h) ∙ ap (λ n. cond (step_holds m now (filled m (get_or vs i d))) (replayed_from m top (filled m (get_or vs i d)) n (drop (i + 1) vs)) (BadStep i)) (omega arith)

-- a list written up to a place
pub wrote_more : {X : Type 0} (xs ys : List X) (i : ℕ) (x : X) → i < length xs → length xs ≡ length ys → get_or ys i x ≡ x → take i xs ≡ take i ys → take (i + 1) (set xs i x) ≡ take (i + 1) ys
wrote_more xs ys i x h same is e =
    take_more_set xs i x h ∙ (ap (λ zs. zs ++ x ∷ []) e ∙ (ap (λ y. take i ys ++ y ∷ []) (sym is) ∙ sym (take_more ys i x (subst (λ n. i < n) same h))))
