-- Looking at what waits keeps the invariant, and where nothing waits all is told.
use Rattle.std.proofs.Common.{rules, ◌≡◌, List, ℕ, false, [], ◌∷◌, ◌++◌, length, replicate, ◌∙◌, sym, subst, ap}
use Rattle.smv_scope.specs.Links.{graph_of, Spread, spread_by, IsSpreading}
use Rattle.smv_scope.specs.Spreads.{spread_of}
use Rattle.smv_scope.proofs.ReachLaws.{graph_within, spreading_first, spreading_by, spread_all}
use Rattle.smv_scope.proofs.LeftLaws.{spread_less}
use Rattle.smv_scope.proofs.needs.reached_from.Goals as goal

abbrev the_spread : ℕ → List ℕ → Spread
the_spread n w = record { reached = replicate n false; waiting = w }

pub loop-definition-init : goal.loop-definition-init
loop-definition-init c =
    let count : c.len.result ≡ length c.args.links.now.of.items = search rules in
    let is : spread_of c.in_ok-spread.spread ≡ record { reached = replicate c.len.result false; waiting = c.args.starts.now } = search rules in
    subst (λ (s : Spread). IsSpreading (graph_of c.args.links.now) c.args.starts.now (length c.args.links.now.of.items) s)
    (sym (is ∙ ap (λ (n : ℕ). (the_spread n c.args.starts.now)) count))
    (spreading_first (graph_of c.args.links.now) c.args.starts.now (length c.args.links.now.of.items))

pub returns : goal.returns
returns c =
    let none : c.loop-definition.spread.waiting.items ≡ [] = search rules in
    record {
      reached = spread_all (graph_of c.args.links.now) c.args.starts.now (length c.args.links.now.of.items) c.loop-definition.spread.reached.items (graph_within c.args.links.now)
          (subst (λ (w : List ℕ). IsSpreading (graph_of c.args.links.now) c.args.starts.now (length c.args.links.now.of.items) (record { reached = c.loop-definition.spread.reached.items; waiting = w })) none c.loop-definition.invariant);
    }

pub loop-definition-smaller : goal.loop-definition-smaller
loop-definition-smaller c =
    let more : c.loop-definition.spread.waiting.items ≡ c.pop.new.self.items ++ c.in-Some.definition ∷ [] = search rules in
    let is : spread_of c.by.new.self ≡ spread_by (graph_of c.args.links.now) (record { reached = c.loop-definition.spread.reached.items; waiting = c.pop.new.self.items }) c.in-Some.definition = search rules in
    spread_less (graph_of c.args.links.now) (length c.args.links.now.of.items) (graph_within c.args.links.now) (spread_of c.loop-definition.spread) (spread_of c.by.new.self) c.pop.new.self.items c.in-Some.definition
    c.loop-definition.invariant.size more is

pub loop-definition-preserved : goal.loop-definition-preserved
loop-definition-preserved c =
    let more : c.loop-definition.spread.waiting.items ≡ c.pop.new.self.items ++ c.in-Some.definition ∷ [] = search rules in
    let is : spread_of c.by.new.self ≡ spread_by (graph_of c.args.links.now) (record { reached = c.loop-definition.spread.reached.items; waiting = c.pop.new.self.items }) c.in-Some.definition = search rules in
    subst (λ (s : Spread). IsSpreading (graph_of c.args.links.now) c.args.starts.now (length c.args.links.now.of.items) s) (sym is)
    (spreading_by (graph_of c.args.links.now) c.args.starts.now (length c.args.links.now.of.items) c.loop-definition.spread.reached.items c.pop.new.self.items c.in-Some.definition
    (subst (λ (w : List ℕ). IsSpreading (graph_of c.args.links.now) c.args.starts.now (length c.args.links.now.of.items) (record { reached = c.loop-definition.spread.reached.items; waiting = w })) more c.loop-definition.invariant))
