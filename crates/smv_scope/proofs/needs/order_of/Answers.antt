-- Each task keeps the invariant, and leaves less to do.
use Rattle.std.proofs.Common.{rules, ◌≡◌, ℕ, List, false, [], ◌∷◌, ◌++◌, length, replicate, reverse, ◌∙◌, sym, subst, ap}
use Rattle.std.proofs.lemmas.List.{reverse-append}
use Rattle.smv_scope.specs.declared.needs.WalkMark.TheVariants.{Unmet}
use Rattle.smv_scope.specs.declared.needs.Task.{Task}
use Rattle.smv_scope.specs.Links.{graph_of}
use Rattle.smv_scope.specs.DefinitionOrder.{upto, visits, Lay, lay_of, lay_by, IsLaying}
use Rattle.smv_scope.specs.Components.{IsFinishing}
use Rattle.smv_scope.proofs.LayLaws.{laying_first, laying_by}
use Rattle.smv_scope.proofs.FinishLaws.{finishing_first, finishing_by, finished}
use Rattle.smv_scope.proofs.LeftLaws.{laying_less}
use Rattle.smv_scope.proofs.needs.order_of.Goals as goal

abbrev first_lay : ℕ → Lay
first_lay n = record { marks = replicate n Unmet; order = []; tasks = visits (upto n); circle = false }

pub loop-task-init : goal.loop-task-init
loop-task-init c =
    let count : c.len.result ≡ length c.args.links.now.of.items = search rules in
    let is : lay_of c.in_ok-laying.laying ≡ first_lay c.len.result = search rules in
    record {
      laying = subst (λ (s : Lay). IsLaying (graph_of c.args.links.now) (length c.args.links.now.of.items) s) (sym (is ∙ ap first_lay count))
          (laying_first (graph_of c.args.links.now) (length c.args.links.now.of.items));
      finishing = subst (λ (s : Lay). IsFinishing (graph_of c.args.links.now) (length c.args.links.now.of.items) s) (sym (is ∙ ap first_lay count))
          (finishing_first (graph_of c.args.links.now) (length c.args.links.now.of.items));
    }

pub loop-task-smaller : goal.loop-task-smaller
loop-task-smaller c =
    let more : c.loop-task.laying.tasks.items ≡ c.pop.new.self.items ++ c.in-Some.task ∷ [] = search rules in
    let first : reverse c.loop-task.laying.tasks.items ≡ c.in-Some.task ∷ reverse c.pop.new.self.items = ap (λ (ts : List Task). reverse ts) more ∙ reverse-append c.pop.new.self.items (c.in-Some.task ∷ []) in
    let is : lay_of c.by.new.self ≡ lay_by (graph_of c.args.links.now) (record { marks = c.loop-task.laying.marks.items; order = c.loop-task.laying.order.items; tasks = reverse c.pop.new.self.items; circle = c.loop-task.laying.circle }) c.in-Some.task = search rules in
    laying_less (graph_of c.args.links.now) (length c.args.links.now.of.items) (lay_of c.loop-task.laying) (lay_of c.by.new.self) c.in-Some.task (reverse c.pop.new.self.items) c.loop-task.invariant.laying first is

pub loop-task-preserved : goal.loop-task-preserved
loop-task-preserved c =
    let more : c.loop-task.laying.tasks.items ≡ c.pop.new.self.items ++ c.in-Some.task ∷ [] = search rules in
    let first : reverse c.loop-task.laying.tasks.items ≡ c.in-Some.task ∷ reverse c.pop.new.self.items = ap (λ (ts : List Task). reverse ts) more ∙ reverse-append c.pop.new.self.items (c.in-Some.task ∷ []) in
    let is : lay_of c.by.new.self ≡ lay_by (graph_of c.args.links.now) (record { marks = c.loop-task.laying.marks.items; order = c.loop-task.laying.order.items; tasks = reverse c.pop.new.self.items; circle = c.loop-task.laying.circle }) c.in-Some.task = search rules in
    let laid = subst (λ (ts : List Task). IsLaying (graph_of c.args.links.now) (length c.args.links.now.of.items) (record { marks = c.loop-task.laying.marks.items; order = c.loop-task.laying.order.items; tasks = ts; circle = c.loop-task.laying.circle })) first c.loop-task.invariant.laying in
    record {
      laying = subst (λ (s : Lay). IsLaying (graph_of c.args.links.now) (length c.args.links.now.of.items) s) (sym is)
          (laying_by (graph_of c.args.links.now) (length c.args.links.now.of.items) (c.requires) c.loop-task.laying.marks.items c.loop-task.laying.order.items (reverse c.pop.new.self.items) c.loop-task.laying.circle c.in-Some.task laid);
      finishing = subst (λ (s : Lay). IsFinishing (graph_of c.args.links.now) (length c.args.links.now.of.items) s) (sym is)
          (finishing_by (graph_of c.args.links.now) (length c.args.links.now.of.items) c.loop-task.laying.marks.items c.loop-task.laying.order.items (reverse c.pop.new.self.items) c.loop-task.laying.circle c.in-Some.task laid
          (subst (λ (ts : List Task). IsFinishing (graph_of c.args.links.now) (length c.args.links.now.of.items) (record { marks = c.loop-task.laying.marks.items; order = c.loop-task.laying.order.items; tasks = ts; circle = c.loop-task.laying.circle })) first c.loop-task.invariant.finishing));
    }

pub returns-clause-finished : goal.returns-clause-finished
returns-clause-finished c =
    let none : c.loop-task.laying.tasks.items ≡ [] = search rules in
    let no_tasks : reverse c.loop-task.laying.tasks.items ≡ [] = ap (λ (ts : List Task). reverse ts) none in
    finished (graph_of c.args.links.now) (length c.args.links.now.of.items) c.loop-task.laying.marks.items c.loop-task.laying.order.items c.loop-task.laying.circle
    (subst (λ (ts : List Task). IsLaying (graph_of c.args.links.now) (length c.args.links.now.of.items) (record { marks = c.loop-task.laying.marks.items; order = c.loop-task.laying.order.items; tasks = ts; circle = c.loop-task.laying.circle })) no_tasks c.loop-task.invariant.laying)
    (subst (λ (ts : List Task). IsFinishing (graph_of c.args.links.now) (length c.args.links.now.of.items) (record { marks = c.loop-task.laying.marks.items; order = c.loop-task.laying.order.items; tasks = ts; circle = c.loop-task.laying.circle })) no_tasks c.loop-task.invariant.finishing)
