use Rattle.std.proofs.Common.{arith, map, sym, ◌∙◌, subst}
use Rattle.smv_language.specs.Language.{Formula, flat_tree, EachBoth}
use Rattle.verb_run.specs.Tables.{IsEventOf, IsColumn, tabulated_case, tabulated_events}
use Rattle.verb_run.proofs.TableLemmas.{first_at, both_next, both_whole}
use Rattle.verb_run.proofs.Columns.{columns_of_events}
use Rattle.verb_run.proofs.tops.columns_in.Goals as goal

pub column_of-requires-clause-event : goal.column_of-requires-clause-event
column_of-requires-clause-event g c =
    let a = c.args.asked.now in
    let xs = c.as_slice-top-items.result.now in
    first_at (IsEventOf (tabulated_case a)) flat_tree (tabulated_events a) xs c.loop-top.top-index c.top-item.result
    (subst (λ trees. EachBoth (IsEventOf (tabulated_case a)) (tabulated_events a) (map flat_tree trees)) (sym c.as_slice-top-items.ensures) c.requires.able.events) c.loop-top-test.true c.top-item.is

pub column_of-requires-clause-system : goal.column_of-requires-clause-system
column_of-requires-clause-system g c = c.loop-top.invariant.system ∙ c.requires.system

pub loop-top-preserved : goal.loop-top-preserved
loop-top-preserved g c =
    let a = c.args.asked.now in
    let xs = c.as_slice-top-items.result.now in
    record {
      system = c.column_of.ensures.system ∙ c.loop-top.invariant.system;
      columns =
          both_next (λ tree column. (e : Formula) → IsEventOf (tabulated_case a) e (flat_tree tree) → IsColumn (tabulated_case a) a.depth e column) xs c.loop-top.columns c.push.new.self c.loop-top.top-index c.top-item.result
          c.in_ok-column_of.field-0 c.loop-top-test.true c.top-item.is c.loop-top.invariant.columns c.in_ok-column_of.ensures.column c.in_ok-push.ensures.ok;
    }

pub returns : goal.returns
returns g c =
    let a = c.args.asked.now in
    let xs = c.as_slice-top-items.result.now in
    columns_of_events (tabulated_case a) a.depth flat_tree (tabulated_events a) xs c.loop-top.columns
    (subst (λ trees. EachBoth (IsEventOf (tabulated_case a)) (tabulated_events a) (map flat_tree trees)) (sym c.as_slice-top-items.ensures) c.requires.able.events)
    (both_whole (λ tree column. (e : Formula) → IsEventOf (tabulated_case a) e (flat_tree tree) → IsColumn (tabulated_case a) a.depth e column) xs c.loop-top.columns c.loop-top.top-index (omega (arith, c.loop-top-test.false)) c.loop-top.invariant.columns)
