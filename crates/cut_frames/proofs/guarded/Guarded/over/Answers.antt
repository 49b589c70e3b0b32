use Rattle.std.proofs.Common.{◌≡◌, ◌≤◌, ◌+◌, ◌-◌, ◌∙◌, ◌∷◌, [], List, ℕ, All, refl, sym, subst, ap, arith}
use Rattle.cut_frames.specs.GuardedSearch.{HasRoomFor, IsHolding}
use Rattle.sat_clauses.specs.Literal.{Literal}
use Rattle.cut_frames.proofs.GuardedLaws.{made_from, all_room, with_simple, simple_of}
use Rattle.cut_frames.proofs.guarded.Guarded.over.Goals as goal
use Rattle.sat_simplify.proofs.UnreadLaws.{lists_raised}

sum : (h m p : ℕ) → h ≤ m → p ≤ m → h ≤ p + (m - p)
sum h m p a b = omega (arith, a, b)

pub returns : goal.returns
returns c =
    let p = c.args.places in
    let reach : c.highest.result ≤ c.max.result = grind arith in
    let more : p ≤ c.max.result = grind arith in
    let reach_step : c.highest-2.result ≤ c.max-2.result = grind arith in
    let more_step : p ≤ c.max-2.result = grind arith in
    λ system is_places first_alike step_alike.
    subst (λ (bs : List (List Literal)). IsHolding system [] ([] ∷ []) (with_simple c.fill-2.new.self (record (simple_of c.args.first c.args.step) { bad = bs }))) (sym c.new-3.ensures)
    (made_from system c.args.first c.args.step c.in_ok-held.held c.fill.new.self c.fill-2.new.self p (c.max.result - p) (c.max-2.result - p) c.new.result.var c.new-2.result.var
    c.requires.first c.requires.step is_places first_alike step_alike c.in_ok-held.ensures
    (lists_raised c.highest.result (p + (c.max.result - p)) c.args.first (sum c.highest.result c.max.result p reach more) c.highest.ensures.up_to)
    (lists_raised c.highest-2.result (p + (c.max-2.result - p)) c.args.step (sum c.highest-2.result c.max-2.result p reach_step more_step) c.highest-2.ensures.up_to)
    (ap (λ (l : Literal). l.var) c.new.ensures) (ap (λ (l : Literal). l.var) c.new-2.ensures) c.in_ok-fill.ensures c.in_ok-fill-2.ensures)

low_room : (p n m v q : ℕ) → v ≡ p + 3 + n + m → q ≡ p → p + 3 + n ≤ v
low_room p n m v q e f = omega (arith, e, f)

place_room : (p n m v q : ℕ) → v ≡ p + 3 + n + m → q ≡ p → q ≤ v
place_room p n m v q e f = omega (arith, e, f)

step_room : (p n m v w : ℕ) → v ≡ p + 3 + n + m → w ≡ v → p + 3 + n + m ≤ w
step_room p n m v w e f = omega (arith, e, f)

pub fill-requires-clause-room : goal.fill-requires-clause-room
fill-requires-clause-room c =
    let p = c.args.places in
    let reach : c.highest.result ≤ c.max.result = grind arith in
    let more : p ≤ c.max.result = grind arith in
    let empty = c.in_ok-held.ensures in
    subst (λ (q : ℕ). All (All (HasRoomFor q (p + 3) c.in_ok-held.held.search.kept.vars)) c.args.first) (sym empty.places)
    (all_room p (p + 3) c.in_ok-held.held.search.kept.vars (c.max.result - p) c.args.first
    (lists_raised c.highest.result (p + (c.max.result - p)) c.args.first (sum c.highest.result c.max.result p reach more) c.highest.ensures.up_to)
    (low_room p (c.max.result - p) (c.max-2.result - p) c.in_ok-held.held.search.kept.vars p empty.vars refl)
    (place_room p (c.max.result - p) (c.max-2.result - p) c.in_ok-held.held.search.kept.vars p empty.vars refl))

pub fill-requires-2-clause-room : goal.fill-requires-2-clause-room
fill-requires-2-clause-room c =
    let p = c.args.places in
    let reach : c.highest-2.result ≤ c.max-2.result = grind arith in
    let more : p ≤ c.max-2.result = grind arith in
    let empty = c.in_ok-held.ensures in
    let put = c.in_ok-fill.ensures in
    subst (λ (q : ℕ). All (All (HasRoomFor q (p + 3 + (c.max.result - p)) c.fill.new.self.search.kept.vars)) c.args.step) (sym (put.guards.places ∙ empty.places))
    (all_room p (p + 3 + (c.max.result - p)) c.fill.new.self.search.kept.vars (c.max-2.result - p) c.args.step
    (lists_raised c.highest-2.result (p + (c.max-2.result - p)) c.args.step (sum c.highest-2.result c.max-2.result p reach more) c.highest-2.ensures.up_to)
    (step_room p (c.max.result - p) (c.max-2.result - p) c.in_ok-held.held.search.kept.vars c.fill.new.self.search.kept.vars empty.vars put.vars)
    (place_room p (c.max.result - p) (c.max-2.result - p) c.fill.new.self.search.kept.vars p (put.vars ∙ empty.vars) refl))
