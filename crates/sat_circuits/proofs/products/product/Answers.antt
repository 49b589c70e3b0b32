use Rattle.std.proofs.Common.{◌≡◌, ◌+◌, ◌-◌, ◌*◌, ◌∷◌, length, drop, refl, sym, ◌∙◌, ap, subst, arith}
use Rattle.sat_clauses.specs.Literal.{Literal}
use Rattle.sat_circuits.specs.Meaning.{StopsWithin}
use Rattle.sat_circuits.proofs.Extension.{OnErr-from, StopsWithin-none, AllBelow-more}
use Rattle.sat_circuits.proofs.Turns.{Turns-first}
use Rattle.sat_circuits.specs.Words.{zeros, IsSized}
use Rattle.sat_circuits.specs.Sums.{sum_gates}
use Rattle.sat_circuits.specs.Products.{product_step}
use Rattle.sat_circuits.proofs.ProductMeans.{ProductShape, product-first, product_gates-adds, row-sized, product_loop-end, product_loop-here, product_loop-first, product_loop-second, product_loop-next}
use Rattle.sat_circuits.proofs.products.product.Goals as goal
use Rattle.sat_circuits.proofs.products.product.Goals.{After-at, In_ok-row}

pub returns-in_err-product-clause-err : goal.returns-in_err-product-clause-err
returns-in_err-product-clause-err c = OnErr-from _ _ (StopsWithin-none c.args.g.now _ (product_gates-adds c.args.a.now c.args.b.now c.args.g.now))

pub loop-i-init : goal.loop-i-init
loop-i-init c =
    rw (c.in_ok-product.ensures.items, c.len.ensures)
    (Turns-first (product_step c.args.a.now) (ProductShape (length c.args.a.now) (c.args.g.now.free + 6 * length c.args.a.now * length c.args.a.now) c.args.a.now) c.args.b.now (0, zeros (length c.args.a.now)) c.args.g.now
    (product-first c.args.a.now c.args.b.now (length c.args.a.now) c.args.g.now refl (sym c.requires.same) c.in_ok-product.ensures.least c.requires.left c.requires.right))

here : (c : After-at) → ProductShape (length c.args.a.now) (c.args.g.now.free + 6 * length c.args.a.now * length c.args.a.now) c.args.a.now (c.at.result.now ∷ drop (c.loop-i.i + 1) c.args.b.now) c.loop-i.g (c.loop-i.i, c.loop-i.product)
here c = product_loop-here c.args.a.now c.args.b.now c.args.g.now (length c.args.a.now) (c.args.g.now.free + 6 * length c.args.a.now * length c.args.a.now) c.loop-i.product c.loop-i.i c.loop-i.g c.loop-i.invariant c.at.result.now c.at.ensures

pub shifted_row-requires-clause-within : goal.shifted_row-requires-clause-within
shifted_row-requires-clause-within c = omega (arith, (here (goal.at.shifted_row-requires-clause-within c).After-at).place)

pub shifted_row-requires-clause-left : goal.shifted_row-requires-clause-left
shifted_row-requires-clause-left c = (here (goal.at.shifted_row-requires-clause-left c).After-at).bits.0

pub shifted_row-requires-clause-right : goal.shifted_row-requires-clause-right
shifted_row-requires-clause-right c = (here (goal.at.shifted_row-requires-clause-right c).After-at).factor

pub shifted_row-requires-clause-room : goal.shifted_row-requires-clause-room
shifted_row-requires-clause-room c = omega (arith, (here (goal.at.shifted_row-requires-clause-room c).After-at).room, c.requires.room)

pub returns-in_err-row-clause-err : goal.returns-in_err-row-clause-err
returns-in_err-row-clause-err c = OnErr-from _ _ (product_loop-first c.args.a.now c.args.b.now c.args.g.now (length c.args.a.now) (c.args.g.now.free + 6 * length c.args.a.now * length c.args.a.now) c.loop-i.product c.loop-i.i c.loop-i.g c.loop-i.invariant c.at.result.now c.at.ensures c.shifted_row.new.g c.in_err-row.ensures.err)

sized : (c : In_ok-row) → IsSized (length c.args.a.now) (c.loop-i.g.free + (length c.args.a.now - c.loop-i.i)) c.shifted_row.new.g c.in_ok-row.row
sized c =
    let h : ProductShape (length c.args.a.now) (c.args.g.now.free + 6 * length c.args.a.now * length c.args.a.now) c.args.a.now (c.at.result.now ∷ drop (c.loop-i.i + 1) c.args.b.now) c.loop-i.g (c.loop-i.i, c.loop-i.product) =
    product_loop-here c.args.a.now c.args.b.now c.args.g.now (length c.args.a.now) (c.args.g.now.free + 6 * length c.args.a.now * length c.args.a.now) c.loop-i.product c.loop-i.i c.loop-i.g c.loop-i.invariant c.at.result.now c.at.ensures
    in
    row-sized c.at.result.now c.loop-i.i c.args.a.now c.loop-i.g c.shifted_row.new.g c.in_ok-row.row h.least (omega (arith, h.place)) h.bits.0 h.factor c.in_ok-row.ensures.exact

pub sum-requires-clause-same : goal.sum-requires-clause-same
sum-requires-clause-same c = c.loop-i.invariant.shape.long ∙ sym (sized (goal.at.sum-requires-clause-same c).In_ok-row).long

pub sum-requires-clause-left : goal.sum-requires-clause-left
sum-requires-clause-left c = AllBelow-more c.loop-i.g.free c.shifted_row.new.g.free (omega (arith, (sized (goal.at.sum-requires-clause-left c).In_ok-row).free)) _ c.loop-i.invariant.shape.word

pub sum-requires-clause-right : goal.sum-requires-clause-right
sum-requires-clause-right c = (sized (goal.at.sum-requires-clause-right c).In_ok-row).below

pub sum-requires-clause-carry : goal.sum-requires-clause-carry
sum-requires-clause-carry c =
    omega (arith, ap (λ (l : Literal). l.var) c.constant-off.ensures.literal, c.loop-i.invariant.shape.least, (sized (goal.at.sum-requires-clause-carry c).In_ok-row).free)

pub sum-requires-clause-room : goal.sum-requires-clause-room
sum-requires-clause-room c =
    omega (arith, (here (goal.at.sum-requires-clause-room c).After-at).room, c.loop-i.invariant.shape.long, (sized (goal.at.sum-requires-clause-room c).In_ok-row).free, c.requires.room)

pub returns-in_err-product-2-clause-err : goal.returns-in_err-product-2-clause-err
returns-in_err-product-2-clause-err c =
    OnErr-from _ _
    (product_loop-second c.args.a.now c.args.b.now c.args.g.now (length c.args.a.now) (c.args.g.now.free + 6 * length c.args.a.now * length c.args.a.now) c.loop-i.product c.loop-i.i c.loop-i.g c.loop-i.invariant c.at.result.now c.at.ensures c.shifted_row.new.g c.in_ok-row.row c.in_ok-row.ensures.exact c.sum.new.g
    (subst (λ (l : Literal). StopsWithin c.shifted_row.new.g c.sum.new.g (sum_gates c.loop-i.product c.in_ok-row.row l c.shifted_row.new.g).0) c.constant-off.ensures.literal c.in_err-product-2.ensures.err))

pub loop-i-preserved : goal.loop-i-preserved
loop-i-preserved c =
    product_loop-next c.args.a.now c.args.b.now c.args.g.now (length c.args.a.now) (c.args.g.now.free + 6 * length c.args.a.now * length c.args.a.now) c.loop-i.product c.loop-i.i c.loop-i.g c.loop-i.invariant c.at.result.now c.at.ensures c.shifted_row.new.g c.in_ok-row.row c.in_ok-row.ensures.exact c.sum.new.g c.in_ok-product-2.product
    (subst (λ (l : Literal). sum_gates c.loop-i.product c.in_ok-row.row l c.shifted_row.new.g ≡ (c.sum.new.g, c.in_ok-product-2.product)) c.constant-off.ensures.literal c.in_ok-product-2.ensures.exact)

pub returns-clause-exact : goal.returns-clause-exact
returns-clause-exact c = product_loop-end c.args.a.now c.args.b.now c.args.g.now (length c.args.a.now) (c.args.g.now.free + 6 * length c.args.a.now * length c.args.a.now) c.loop-i.product c.loop-i.i c.loop-i.g c.loop-i.invariant (omega arith)
