use Rattle.std.proofs.Common.{rules, w64, Fits, ◌+◌, ◌≡◌, ◌≢◌, ◌<◌, ◌≤◌, List, ℕ, [], ◌∷◌, length, false, Result, Ok, Err, refl, sym, ◌∙◌, ap, arith, IfOk, IfErr}
use Rattle.std.proofs.lemmas.List.{length-map}
use Rattle.smv_language.specs.Language.{model_tree, variable_tree, told_trace}
use Rattle.base_values.specs.declared.value.Value.TheVariants.{Bool as ABool}
use Rattle.cut_text_laws.specs.TraceOfText.{BytesGive}
use Rattle.cut_report.specs.Faults.{IsFaultOf}
use Rattle.cut_report.specs.TraceReading.{IsFinished, IsUnfinished, ended}
use Rattle.cut_report.proofs.WholeLaws.{first_after, read_start, read_more, read_few, begun_fewer, read_tail, read_fault, read_gives}
use Rattle.cut_report.proofs.whole.read_lines.Goals as goal

none_left : (xs : List ℕ) → length xs ≤ 0 → xs ≡ []
none_left [] h = refl
none_left (x ∷ xs) h = absurd (omega (arith, h))

pub loop-line-init : goal.loop-line-init
loop-line-init c =
    read_start (model_tree c.args.lookup.now.typed.now.model) c.args.bytes.now c.in_ok-reading.reading
    (first_after (model_tree c.args.lookup.now.typed.now.model) c.in_ok-reading.reading c.len.result (record { moment = 0; value = ABool false }) c.in_ok-reading.ensures.0 c.in_ok-reading.ensures.1 c.in_ok-reading.ensures.2 refl
    (c.len.ensures ∙ ap (λ m. length m.variables) c.model.ensures.model ∙ sym (length-map c.args.lookup.now.typed.now.model.variables variable_tree)))

pub take-requires-clause-room : goal.take-requires-clause-room
take-requires-clause-room c =
    let less : c.loop-line.reading.begun < c.loop-line.number = begun_fewer (model_tree c.args.lookup.now.typed.now.model) c.args.bytes.now c.loop-line.rest.now c.loop-line.number c.loop-line.reading c.loop-line.invariant in
    let fits = c.loop-line.auto.number-fits in
    omega (arith, less, fits)

pub overflow_add-number : goal.overflow_add-number
overflow_add-number c =
    let few : c.loop-line.number ≤ length c.args.bytes.now = read_few (model_tree c.args.lookup.now.typed.now.model) c.args.bytes.now c.loop-line.rest.now c.in-Some.line.now c.in-Some.after.now c.loop-line.number c.loop-line.reading c.loop-line.invariant c.in-Some.ensures in
    let room : Fits w64 (length c.args.bytes.now + 1) = search rules in
    first_of (omega (arith, few, room), grind (arith, few, room))

pub loop-line-preserved : goal.loop-line-preserved
loop-line-preserved c =
    read_more (model_tree c.args.lookup.now.typed.now.model) c.args.bytes.now c.loop-line.rest.now c.in-Some.line.now c.in-Some.after.now c.loop-line.number c.loop-line.reading c.take.new.self c.loop-line.invariant c.in-Some.ensures
    (λ lines h. c.in_default-take.ensures.after lines h)

if_ok : {A E : Type 0} (P Q : A → Type 0) (r : Result A E) → ((x : A) → P x → Q x) → IfOk r P → IfOk r Q
if_ok P Q (Ok x) f h = f x h
if_ok P Q (Err e) f h = tt

if_err : {A E : Type 0} (P Q : E → Type 0) (r : Result A E) → ((e : E) → P e → Q e) → IfErr r P → IfErr r Q
if_err P Q (Ok x) f h = tt
if_err P Q (Err e) f h = f e h

some_left : (xs : List ℕ) → 0 < length xs → xs ≢ []
some_left xs h e = let none : length xs ≡ length {A = ℕ} [] = ap (length {A = ℕ}) e in omega (arith, h, none)

pub returns-then-rest-gt0-clause-fault : goal.returns-then-rest-gt0-clause-fault
returns-then-rest-gt0-clause-fault c =
    read_tail (model_tree c.args.lookup.now.typed.now.model) c.args.bytes.now c.loop-line.rest.now c.loop-line.number c.loop-line.reading c.loop-line.invariant c.in_default.ensures (some_left c.loop-line.rest.now c.if-rest-gt0.true)

pub returns-clause-trace : goal.returns-clause-trace
returns-clause-trace c =
    if_ok (IsFinished (ended c.loop-line.reading)) (λ trace. BytesGive (model_tree c.args.lookup.now.typed.now.model) c.args.bytes.now (told_trace c.args.lookup.now.typed.now.model.symbols trace)) c.finished.result
    (λ trace f. read_gives (model_tree c.args.lookup.now.typed.now.model) c.requires.printable c.args.bytes.now c.loop-line.rest.now c.loop-line.number c.loop-line.reading trace c.loop-line.invariant (none_left c.loop-line.rest.now c.if-rest-gt0.false) f)
    c.finished.ensures.trace

pub returns-clause-fault : goal.returns-clause-fault
returns-clause-fault c =
    if_err (IsUnfinished (ended c.loop-line.reading)) (IsFaultOf (model_tree c.args.lookup.now.typed.now.model) c.args.bytes.now) c.finished.result
    (λ f u. read_fault (model_tree c.args.lookup.now.typed.now.model) c.requires.printable c.args.bytes.now c.loop-line.rest.now c.loop-line.number c.loop-line.reading f c.loop-line.invariant (none_left c.loop-line.rest.now c.if-rest-gt0.false) u)
    c.finished.ensures.fault
