use Rattle.std.proofs.Common.{rules, w64, Fits, ◌+◌, ◌≡◌, ◌≢◌, ◌<◌, ◌≤◌, List, ℕ, [], ◌∷◌, length, refl, sym, ap, subst, arith}
use Rattle.cert_text.specs.Faults.{IsFaultOf}
use Rattle.cut_text_laws.proofs.Cuts.{rest_shorter}
use Rattle.cert_text.proofs.WholeLaws.{read_start, read_more, read_few, read_refused, read_tail, read_given, read_wanting}
use Rattle.cert_text.proofs.whole.read_lines.Goals as goal

none_left : (xs : List ℕ) → length xs ≤ 0 → xs ≡ []
none_left [] h = refl
none_left (x ∷ xs) h = absurd (omega (arith, h))

some_left : (xs : List ℕ) → 0 < length xs → xs ≢ []
some_left xs h e = let none : length xs ≡ length {A = ℕ} [] = ap (length {A = ℕ}) e in omega (arith, h, none)

pub loop-line-init : goal.loop-line-init
loop-line-init c = read_start c.args.bytes.now c.new-reading.result c.new-reading.ensures

pub overflow_add-number : goal.overflow_add-number
overflow_add-number c =
    let few : c.loop-line.number ≤ length c.args.bytes.now = read_few c.args.bytes.now c.loop-line.rest.now c.in-Some.line.now c.in-Some.after.now c.loop-line.number c.loop-line.reading c.loop-line.invariant c.in-Some.ensures in
    let room : Fits w64 (length c.args.bytes.now + 1) = search rules in
    first_of (omega (arith, few, room), grind (arith, few, room))

pub loop-line-preserved : goal.loop-line-preserved
loop-line-preserved c =
    read_more c.args.bytes.now c.loop-line.rest.now c.in-Some.line.now c.in-Some.after.now c.loop-line.number c.loop-line.reading c.take.new.self c.loop-line.invariant c.in-Some.ensures c.in_default-take.ensures.ok

pub loop-line-smaller : goal.loop-line-smaller
loop-line-smaller c = rest_shorter c.loop-line.rest.now c.in-Some.line.now c.in-Some.after.now c.in-Some.ensures

pub returns-in-Err-clause-err : goal.returns-in-Err-clause-err
returns-in-Err-clause-err c =
    subst (IsFaultOf c.args.bytes.now) (sym c.at_line.ensures)
    (read_refused c.args.bytes.now c.loop-line.rest.now c.in-Some.line.now c.in-Some.after.now c.loop-line.number c.loop-line.reading c.in-Err.refusal c.loop-line.invariant c.in-Some.ensures c.in-Err.ensures.err)

pub returns-then-rest-gt0-clause-err : goal.returns-then-rest-gt0-clause-err
returns-then-rest-gt0-clause-err c =
    read_tail c.args.bytes.now c.loop-line.rest.now c.loop-line.number c.loop-line.reading c.loop-line.invariant c.in_default.ensures (some_left c.loop-line.rest.now c.if-rest-gt0.true)

pub returns-clause-ok : goal.returns-clause-ok
returns-clause-ok c = read_given c.args.bytes.now c.loop-line.rest.now c.loop-line.number c.loop-line.reading c.loop-line.invariant (none_left c.loop-line.rest.now c.if-rest-gt0.false) c.finished.result c.finished.ensures.ok

pub returns-clause-err : goal.returns-clause-err
returns-clause-err c = read_wanting c.args.bytes.now c.loop-line.rest.now c.loop-line.number c.loop-line.reading c.loop-line.invariant (none_left c.loop-line.rest.now c.if-rest-gt0.false) c.finished.result c.finished.ensures.err
