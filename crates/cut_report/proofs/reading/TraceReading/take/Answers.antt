use Rattle.std.proofs.Common.{◌≡◌, ◌≢◌, ◌++◌, List, ℕ, [], ◌∷◌, length, true, false, nat_eq, Result, Ok, Err, refl, sym, ◌∙◌, ap, arith, eqb-true, OnOk, IfErr}
use Rattle.smv_language.specs.ModelTree.{model_tree}
use Rattle.cut_report.specs.TraceReading.{Begins, GivesLine, IsRefusedLine, IsAfter}
use Rattle.cut_report.specs.Faults.{IsCauseOf}
use Rattle.cut_report.proofs.Steps.{after_empty, after_value, after_moment}
use Rattle.cut_report.proofs.Causes.{line_cause}
use Rattle.cut_report.proofs.reading.TraceReading.take.Goals as goal

on_ok : {A E : Type 0} (P Q : Type 0) (r : Result A E) → (P → Q) → OnOk r P → OnOk r Q
on_ok P Q (Ok x) f h = f h
on_ok P Q (Err e) f h = tt

if_err : {A E : Type 0} (P Q : E → Type 0) (r : Result A E) → ((e : E) → P e → Q e) → IfErr r P → IfErr r Q
if_err P Q (Ok x) f h = tt
if_err P Q (Err e) f h = f e h

none_long : (xs : List ℕ) → nat_eq (length xs) 0 ≡ true → xs ≡ []
none_long [] e = refl
none_long (x ∷ xs) e = let bad : length (x ∷ xs) ≡ 0 = eqb-true (length (x ∷ xs)) 0 e in absurd (omega (arith, bad))

some_long : (xs : List ℕ) → nat_eq (length xs) 0 ≡ false → xs ≢ []
some_long [] e f = differ e
  where
    differ : true ≡ false → ⊥
    differ e = cc
some_long (x ∷ xs) e f = let bad : length (x ∷ xs) ≡ length {A = ℕ} [] = ap (length {A = ℕ}) f in omega (arith, bad)

clash : true ≡ false → ⊥
clash e = cc

pub returns-then-is_empty-clause-after : goal.returns-then-is_empty-clause-after
returns-then-is_empty-clause-after c = λ lines h.
    after_empty (model_tree c.args.lookup.now.typed.now.model) lines c.args.line.now c.args.self.now (none_long c.args.line.now (sym c.is_empty.ensures ∙ c.if-is_empty.true)) h

pub returns-then-branch-clause-after : goal.returns-then-branch-clause-after
returns-then-branch-clause-after c = λ lines h.
    on_ok (Begins c.args.self.now c.begin.new.self) (IsAfter (model_tree c.args.lookup.now.typed.now.model) (lines ++ c.args.line.now ∷ []) c.begin.new.self) c.begin.result
    (λ b. after_moment (model_tree c.args.lookup.now.typed.now.model) c.requires.printable lines c.args.line.now c.args.self.now c.begin.new.self h (c.in_ok-is_moment_line.ensures.0 c.if-branch.true) b.begun b.slots b.moments)
    c.begin.ensures.ok

pub returns-clause-after : goal.returns-clause-after
returns-clause-after c = λ lines h.
    on_ok (GivesLine (model_tree c.args.lookup.now.typed.now.model) c.args.self.now c.take_value.new.self c.args.line.now) (IsAfter (model_tree c.args.lookup.now.typed.now.model) (lines ++ c.args.line.now ∷ []) c.take_value.new.self) c.take_value.result
    (λ g. after_value (model_tree c.args.lookup.now.typed.now.model) c.requires.printable lines c.args.line.now g.name g.text c.args.self.now c.take_value.new.self h g.words g.some g.gives)
    c.take_value.ensures.ok

pub returns-clause-cause : goal.returns-clause-cause
returns-clause-cause c = λ lines h.
    if_err (IsRefusedLine (model_tree c.args.lookup.now.typed.now.model) c.args.self.now c.args.line.now) (IsCauseOf (model_tree c.args.lookup.now.typed.now.model) lines c.args.line.now) c.take_value.result
    (λ made f.
    line_cause (model_tree c.args.lookup.now.typed.now.model) c.requires.printable lines c.args.line.now c.args.self.now made h (some_long c.args.line.now (sym c.is_empty.ensures ∙ c.if-is_empty.false))
    (λ e. clash (sym (c.in_ok-is_moment_line.ensures.1 e) ∙ c.if-branch.false)) f)
    c.take_value.ensures.err
