use Rattle.std.proofs.Common.{◌≡◌, ◌+◌, ◌++◌, [], ◌∷◌, None, slice_set, length, reverse, ap, ◌∙◌, sym, subst, arith}
use Rattle.std.proofs.lemmas.List.{length-append}
use Rattle.sat_clauses.specs.Assignment.{Assignment}
use Rattle.sat_solver.specs.Trail.{IsFresh, IsLeast}
use Rattle.sat_solver.proofs.ChoiceLemmas.{least_freed, least_kept}
use Rattle.sat_solver.proofs.TrailLemmas.{length-assigned, reverse_push, undone_values, undone_fresh, take_from_push}
use Rattle.sat_solver.proofs.trail.Trail.undo.Goals as goal

pub clear-requires : goal.clear-requires
clear-requires c =
    let n = length c.args.self.now.values in
    let zs = c.pop.new.self.items in
    let e = c.in-Some.entry in
    let turned : reverse c.loop-self.self-inside.entries.items ≡ e ∷ reverse zs = ap reverse c.in-Some.ensures.items ∙ reverse_push zs e in
    let fresh = subst (IsFresh n) turned c.loop-self.invariant.fresh in
    omega (arith, fresh.1, c.var-var.ensures.value, ap length c.loop-self.invariant.matches, length-assigned n (reverse c.loop-self.self-inside.entries.items))

pub loop-self-preserved-then-var-self : goal.loop-self-preserved-then-var-self
loop-self-preserved-then-var-self c =
    let n = length c.args.self.now.values in
    let xs = c.args.self.now.entries in
    let ys = c.loop-self.self-inside.entries.items in
    let zs = c.pop.new.self.items in
    let e = c.in-Some.entry in
    let is : ys ≡ zs ++ e ∷ [] = c.in-Some.ensures.items in
    let longer : length ys ≡ length zs + 1 = ap length is ∙ length-append zs (e ∷ []) in
    record {
      at_least = omega arith;
      at_most = omega arith;
      first = take_from_push xs ys zs e is c.loop-self.invariant.first c.loop-self.invariant.at_most;
      matches = undone_values n ys zs e c.loop-self.self-inside.assign c.clear.new.self is c.loop-self.invariant.matches c.loop-self.invariant.fresh
          (c.clear.ensures ∙ ap (λ v. slice_set c.loop-self.self-inside.assign v None) c.var-var.ensures.value);
      fresh = undone_fresh n ys zs e is c.loop-self.invariant.fresh;
      followed = c.loop-self.invariant.followed;
      followed_within = c.loop-self.invariant.followed_within;
      least = subst (λ (a : Assignment). IsLeast a c.var-var.result) (sym c.clear.ensures)
          (least_freed c.loop-self.self-inside.assign c.loop-self.self-inside.least c.var-var.result c.loop-self.invariant.least c.var-var.ensures.positive c.if-var-self.true);
    }

pub loop-self-preserved-else-var-self : goal.loop-self-preserved-else-var-self
loop-self-preserved-else-var-self c =
    let n = length c.args.self.now.values in
    let xs = c.args.self.now.entries in
    let ys = c.loop-self.self-inside.entries.items in
    let zs = c.pop.new.self.items in
    let e = c.in-Some.entry in
    let is : ys ≡ zs ++ e ∷ [] = c.in-Some.ensures.items in
    let longer : length ys ≡ length zs + 1 = ap length is ∙ length-append zs (e ∷ []) in
    record {
      at_least = omega arith;
      at_most = omega arith;
      first = take_from_push xs ys zs e is c.loop-self.invariant.first c.loop-self.invariant.at_most;
      matches = undone_values n ys zs e c.loop-self.self-inside.assign c.clear.new.self is c.loop-self.invariant.matches c.loop-self.invariant.fresh
          (c.clear.ensures ∙ ap (λ v. slice_set c.loop-self.self-inside.assign v None) c.var-var.ensures.value);
      fresh = undone_fresh n ys zs e is c.loop-self.invariant.fresh;
      followed = c.loop-self.invariant.followed;
      followed_within = c.loop-self.invariant.followed_within;
      least = subst (λ (a : Assignment). IsLeast a c.loop-self.self-inside.least) (sym c.clear.ensures)
          (least_kept c.loop-self.self-inside.assign c.loop-self.self-inside.least c.var-var.result c.loop-self.invariant.least c.if-var-self.false);
    }

pub returns-clause-same_vars : goal.returns-clause-same_vars
returns-clause-same_vars c = ap length c.loop-self.invariant.matches ∙ length-assigned (length c.args.self.now.values) (reverse c.loop-self.self-inside.entries.items)
