use Rattle.std.proofs.Common.{arith, ◌≡◌, ◌+◌, ◌<◌, Option, [], true, false, length, map, drop, sym, ap, ◌∙◌, get_or}
use Rattle.std.specs.Prelude.{option_map}
use Rattle.std.proofs.lemmas.List.{drop_all}
use Rattle.smv_language.specs.declared.expr.Expr.{Expr}
use Rattle.smv_language.specs.declared.model.Flat.{Flat}
use Rattle.smv_language.specs.ModelTree.{flat_tree}
use Rattle.cut_right_laws.specs.Sets.{has_number}
use Rattle.fault_cause_laws.specs.StagedModel.{in_window, joined, windows_on}
use Rattle.fault_staging.specs.CauseOf.{cause_of, either_tree, joined_from}
use Rattle.fault_staging.proofs.Counts.{window_next, window_passed}
use Rattle.fault_staging.proofs.events.windows_on.Goals.{then-has_number+in_ok-in_window+in_ok-either, else-has_number}
use Rattle.fault_staging.proofs.events.windows_on.Goals as goal

pub loop-k-preserved : goal.loop-k-preserved
loop-k-preserved c =
    let within_ages : c.loop-k.k < length c.args.ages.now = omega (arith, c.requires, c.loop-k-test.true) in
    let has : has_number (cause_of (get_or c.args.causes.now c.loop-k.k c.index-causes-k.result)).strikes c.args.fault ≡ c.has_number.result =
    ap (λ z. has_number (cause_of z).strikes c.args.fault) (sym c.index-causes-k.is) ∙ sym c.has_number.ensures in
    let left = windows_on c.args.fault (map cause_of (drop (c.loop-k.k + 1) c.args.causes.now)) (drop (c.loop-k.k + 1) c.args.ages.now) in
    let all = joined (windows_on c.args.fault (map cause_of c.args.causes.now) c.args.ages.now) in
    elim c.if-has_number.branch [
      | then-has_number+in_ok-in_window+in_ok-either w ↦
          let step = w.in_ok-either.ensures ∙ ap (either_tree (option_map flat_tree c.loop-k.windows)) (w.in_ok-in_window.ensures ∙ ap (λ z. in_window (cause_of z) (get_or c.args.ages.now c.loop-k.k 0)) c.index-causes-k.is) in
          ap (λ (z : Option (Expr Flat)). joined_from (option_map flat_tree z) left) w.windows-is
          ∙ window_next c.args.fault cause_of c.args.causes.now c.args.ages.now c.loop-k.k c.index-causes-k.result 0 c.loop-k-test.true within_ages (option_map flat_tree c.loop-k.windows)
          (flat_tree w.in_ok-either.field-0) all (has ∙ w.if-has_number.true) step c.loop-k.invariant
      | else-has_number w ↦
          ap (λ (z : Option (Expr Flat)). joined_from (option_map flat_tree z) left) w.windows-is
          ∙ window_passed c.args.fault cause_of c.args.causes.now c.args.ages.now c.loop-k.k c.index-causes-k.result 0 c.loop-k-test.true within_ages (option_map flat_tree c.loop-k.windows)
          all (has ∙ w.if-has_number.false) c.loop-k.invariant
    ]

pub returns-in-None : goal.returns-in-None
returns-in-None c =
    c.falsehood.ensures
    ∙ sym (ap (λ (z : Option (Expr Flat)). joined_from (option_map flat_tree z) []) c.in-None.is)
    ∙ sym (ap (λ zs. joined_from (option_map flat_tree c.loop-k.windows) (windows_on c.args.fault (map cause_of zs) (drop c.loop-k.k c.args.ages.now))) (drop_all c.loop-k.k c.args.causes.now c.loop-k-test.false))
    ∙ c.loop-k.invariant
