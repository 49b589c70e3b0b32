use Rattle.std.proofs.Common.{◌≡◌, ℕ, ◌+◌, get_or, length, ap, ◌∙◌, arith}
use Rattle.std.proofs.lemmas.List.{get_or_read}
use Rattle.sat_clauses.specs.TrailRecord.{TrailValue}
use Rattle.sat_clauses.proofs.TrailLemmas.{false_since_place}
use Rattle.sat_clauses.proofs.trail.LiteralTrail.place.Goals as goal

pub index-requires : goal.index-requires
index-requires c =
    omega (arith, c.requires.in_range, c.var.ensures.value, c.self.invariant.as_many, c.self.invariant.positive, c.self.inside.places.ok.0, ap (λ (t : TrailValue). t.vars) c.self.view_is)

pub returns-clause-within : goal.returns-clause-within
returns-clause-within c =
    let a = c.self.inside.assign in
    let t = c.args.self.now in
    let n : length a ≡ t.vars + 1 = omega (arith, ap (λ (t : TrailValue). t.vars) c.self.view_is, c.self.invariant.positive) in
    let read : c.index.result.now ≡ get_or c.self.inside.places.items c.args.lit.var 0 =
    get_or_read c.self.inside.places.items c.var.result c.index.result.now (omega (arith, c.var.ensures.value, c.requires.in_range, n, c.self.invariant.as_many)) c.index.ensures 0
    ∙ ap (λ (v : ℕ). get_or c.self.inside.places.items v 0) c.var.ensures.value in
    let f = false_since_place (length a) t.vars c.self.inside.places.items c.self.inside.lits.items t.lits c.args.lit c.index.result.now n (ap (λ (t : TrailValue). t.lits) c.self.view_is) c.self.invariant.fresh c.self.invariant.placed c.requires.is_false read in
    f.within

pub returns-clause-since : goal.returns-clause-since
returns-clause-since c =
    let a = c.self.inside.assign in
    let t = c.args.self.now in
    let n : length a ≡ t.vars + 1 = omega (arith, ap (λ (t : TrailValue). t.vars) c.self.view_is, c.self.invariant.positive) in
    let read : c.index.result.now ≡ get_or c.self.inside.places.items c.args.lit.var 0 =
    get_or_read c.self.inside.places.items c.var.result c.index.result.now (omega (arith, c.var.ensures.value, c.requires.in_range, n, c.self.invariant.as_many)) c.index.ensures 0
    ∙ ap (λ (v : ℕ). get_or c.self.inside.places.items v 0) c.var.ensures.value in
    let f = false_since_place (length a) t.vars c.self.inside.places.items c.self.inside.lits.items t.lits c.args.lit c.index.result.now n (ap (λ (t : TrailValue). t.lits) c.self.view_is) c.self.invariant.fresh c.self.invariant.placed c.requires.is_false read in
    f.since
