-- Looking at what waits keeps the invariant, and where nothing waits all are in their components.
use Rattle.std.proofs.Common.{rules, ◌≡◌, List, ℕ, None, [], ◌∷◌, ◌++◌, length, replicate, reverse, ◌∙◌, sym, subst, ap}
use Rattle.std.proofs.lemmas.List.{reverse-append}
use Rattle.smv_scope.specs.declared.circles.CircleMember.{CircleMember}
use Rattle.smv_scope.specs.Links.{graph_of, IsWithin}
use Rattle.smv_scope.specs.Components.{Joined, with_own, joined_of, join_by, IsJoined}
use Rattle.smv_scope.proofs.ReachLaws.{graph_within}
use Rattle.smv_scope.proofs.ComponentLaws.{join_first, join_next, join_last, join_less}
use Rattle.smv_scope.proofs.circles.components_of.Goals as goal

abbrev first_joined : List ℕ → ℕ → Joined
first_joined order n = record { of = replicate n None; waiting = with_own [] 0 order }

pub loop-member-init : goal.loop-member-init
loop-member-init c =
    let count : c.len.result ≡ length c.args.links.now.of.items = search rules in
    let is : joined_of c.in_ok-components.components ≡ first_joined c.args.order.now c.len.result = search rules in
    subst (λ (s : Joined). IsJoined (graph_of c.args.links.now) (length c.args.links.now.of.items) s) (sym (is ∙ ap (first_joined c.args.order.now) count))
    (join_first (graph_of c.args.links.now) (length c.args.links.now.of.items) c.args.order.now c.requires.finished)

pub loop-member-smaller : goal.loop-member-smaller
loop-member-smaller c =
    let more : c.loop-member.components.waiting.items ≡ c.pop.new.self.items ++ c.in-Some.member ∷ [] = search rules in
    let first : reverse c.loop-member.components.waiting.items ≡ c.in-Some.member ∷ reverse c.pop.new.self.items = ap (λ (ms : List CircleMember). reverse ms) more ∙ reverse-append c.pop.new.self.items (c.in-Some.member ∷ []) in
    let is : joined_of c.by.new.self ≡ join_by (graph_of c.args.back.now) (record { of = c.loop-member.components.of.items; waiting = reverse c.pop.new.self.items }) c.in-Some.member = search rules in
    join_less (graph_of c.args.back.now) (length c.args.links.now.of.items) (subst (IsWithin (graph_of c.args.back.now)) c.requires.turned.size (graph_within c.args.back.now)) (joined_of c.loop-member.components) (joined_of c.by.new.self) c.in-Some.member (reverse c.pop.new.self.items)
    c.loop-member.invariant.joining.size first is

pub loop-member-preserved : goal.loop-member-preserved
loop-member-preserved c =
    let more : c.loop-member.components.waiting.items ≡ c.pop.new.self.items ++ c.in-Some.member ∷ [] = search rules in
    let first : reverse c.loop-member.components.waiting.items ≡ c.in-Some.member ∷ reverse c.pop.new.self.items = ap (λ (ms : List CircleMember). reverse ms) more ∙ reverse-append c.pop.new.self.items (c.in-Some.member ∷ []) in
    let is : joined_of c.by.new.self ≡ join_by (graph_of c.args.back.now) (record { of = c.loop-member.components.of.items; waiting = reverse c.pop.new.self.items }) c.in-Some.member = search rules in
    subst (λ (s : Joined). IsJoined (graph_of c.args.links.now) (length c.args.links.now.of.items) s) (sym is)
    (join_next (graph_of c.args.links.now) (length c.args.links.now.of.items) (graph_within c.args.links.now) (graph_of c.args.back.now) c.requires.turned.links c.loop-member.components.of.items c.in-Some.member (reverse c.pop.new.self.items)
    (subst (λ (ms : List CircleMember). IsJoined (graph_of c.args.links.now) (length c.args.links.now.of.items) (record { of = c.loop-member.components.of.items; waiting = ms })) first c.loop-member.invariant))

pub returns : goal.returns
returns c =
    let none : c.loop-member.components.waiting.items ≡ [] = search rules in
    join_last (graph_of c.args.links.now) (length c.args.links.now.of.items) c.loop-member.components.of.items
    (subst (λ (ms : List CircleMember). IsJoined (graph_of c.args.links.now) (length c.args.links.now.of.items) (record { of = c.loop-member.components.of.items; waiting = ms })) (ap (λ (ms : List CircleMember). reverse ms) none) c.loop-member.invariant)
