use Rattle.std.proofs.Common.{◌≡◌, ℕ, ◌+◌, ◌++◌, [], ◌∷◌, List, Bool, Option, None, slice_set, length, replicate, take, min, get_or, ap, sym, ◌∙◌, subst, arith}
use Rattle.std.proofs.lemmas.List.{length-append, length-replicate, length-take, get_or-take}
use Rattle.sat_clauses.specs.Literal.{Literal}
use Rattle.sat_clauses.specs.TrailRecord.{TrailValue}
use Rattle.sat_clauses.specs.Trail.{assigned_from, AreFresh}
use Rattle.sat_clauses.proofs.TrailLemmas.{undone_values, undone_fresh, take_from_push, length-assigned_from}
use Rattle.sat_clauses.proofs.trail.LiteralTrail.undo.Goals as goal

-- as many places as at first
same_places : (n : ℕ) (a : List (Option Bool)) (ys : List Literal) → a ≡ assigned_from (replicate n None) ys → n ≡ length a
same_places n a ys e = sym (ap length e ∙ (length-assigned_from (replicate n None) ys ∙ length-replicate n None))

pub invariant_of-self : goal.invariant_of-self
invariant_of-self c =
    let n = length c.self.inside.assign in
    let a = c.loop-self.self-inside.assign in
    let ys = c.loop-self.self-inside.lits.items in
    let same = same_places n a ys c.loop-self.invariant.matches in
    record {
      matches = subst (λ (m : ℕ). a ≡ assigned_from (replicate m None) ys) same c.loop-self.invariant.matches;
      fresh = subst (λ (m : ℕ). AreFresh (replicate m None) ys) same c.loop-self.invariant.fresh;
      positive = omega (arith, same, c.self.invariant.positive);
      small = omega (arith, same, c.self.invariant.small);
      room = omega (arith, same, c.loop-self.invariant.room);
      as_many = ap length c.loop-self.invariant.places ∙ (c.self.invariant.as_many ∙ same);
      placed = λ i d lt.
          let xs = c.self.inside.lits.items in
          let first : ys ≡ take (length ys) xs = c.loop-self.invariant.first ∙ ap (λ (t : TrailValue). take (length ys) t.lits) (sym c.self.view_is) in
          let longer : length ys ≡ min (length ys) (length xs) = ap length first ∙ length-take (length ys) xs in
          let here : get_or ys i d ≡ get_or xs i d = ap (λ (x : List Literal). get_or x i d) first ∙ get_or-take (length ys) xs i d lt in
          ap (λ (x : List ℕ). get_or x (get_or ys i d).var 0) c.loop-self.invariant.places
          ∙ (ap (λ (x : Literal). get_or c.self.inside.places.items x.var 0) here ∙ c.self.invariant.placed i d (omega (arith, longer)));
    }

pub clear-requires : goal.clear-requires
clear-requires c =
    let n = length c.self.inside.assign in
    let a = c.loop-self.self-inside.assign in
    let ys = c.loop-self.self-inside.lits.items in
    let h = undone_fresh n ys c.pop.new.self.items c.in-Some.lit c.in-Some.ensures.items c.loop-self.invariant.fresh in
    omega (arith, h.in_range, c.var.ensures.value, length-replicate {A = Option Bool} n None, same_places n a ys c.loop-self.invariant.matches)

pub loop-self-preserved-in-Some : goal.loop-self-preserved-in-Some
loop-self-preserved-in-Some c =
    let n = length c.self.inside.assign in
    let xs = c.args.self.now.lits in
    let ys = c.loop-self.self-inside.lits.items in
    let zs = c.pop.new.self.items in
    let l = c.in-Some.lit in
    let is : ys ≡ zs ++ l ∷ [] = c.in-Some.ensures.items in
    let longer : length ys ≡ length zs + 1 = ap length is ∙ length-append zs (l ∷ []) in
    record {
      at_least = omega arith;
      first = take_from_push xs ys zs l is c.loop-self.invariant.first;
      matches = undone_values n ys zs l c.loop-self.self-inside.assign c.clear.new.self is c.loop-self.invariant.matches c.loop-self.invariant.fresh
          (c.clear.ensures ∙ ap (λ v. slice_set c.loop-self.self-inside.assign v None) c.var.ensures.value);
      fresh = (undone_fresh n ys zs l is c.loop-self.invariant.fresh).fresh;
      room = omega (arith, c.loop-self.invariant.room);
      places = c.loop-self.invariant.places;
    }

same_trail : (v w : ℕ) (xs ys : List Literal) → v ≡ w → xs ≡ ys → ◌≡◌ {A = TrailValue} (record { vars = v; lits = xs }) (record { vars = w; lits = ys })
same_trail v w xs ys e f = cc

pub returns : goal.returns
returns c =
    let n = length c.self.inside.assign in
    let a = c.loop-self.self-inside.assign in
    let ys = c.loop-self.self-inside.lits.items in
    let same = same_places n a ys c.loop-self.invariant.matches in
    let all : length ys ≡ c.args.keep = omega arith in
    same_trail _ _ _ _ (omega (arith, same, ap (λ (t : TrailValue). t.vars) c.self.view_is))
    (c.loop-self.invariant.first ∙ ap (λ k. take k c.args.self.now.lits) all)
