use Rattle.std.proofs.Common.{◌≡◌, ◌+◌, ◌++◌, ◌∷◌, [], ℕ, Bool, List, Option, refl, sym, ◌∙◌, ap, subst, arith, length}
use Rattle.std.proofs.lemmas.Grind.{common_steps}
use Rattle.cut_frames.specs.Parts.{IsAgreed, AreAgreed}
use Rattle.cut_frames.proofs.PartLemmas.{agreed_more, asked_more, askable_stays}
use Rattle.std.specs.Prelude.{IfSome}
use Rattle.cut_frames.proofs.outline.Outline.find.Goals as goal

pub returns-then-self-clause-asked : goal.returns-then-self-clause-asked
returns-then-self-clause-asked g c = λ system list frames h. h

pub ask-requires-clause-well : goal.ask-requires-clause-well
ask-requires-clause-well g c = c.requires.kept.holds.kept.well

pub ask-requires-clause-frame : goal.ask-requires-clause-frame
ask-requires-clause-frame g c = c.requires.kept.holds.kept.well.some

pub returns-in-Unsat-clause-asked : goal.returns-in-Unsat-clause-asked
returns-in-Unsat-clause-asked g c = c.in_ok-values.ensures.asked

pub bits-init : goal.bits-init
bits-init g c =
    let same : c.note.new.self.agreed.items ≡ c.args.self.now.agreed.items = grind (arith, common_steps) in
    let empty : length c.args.self.now.agreed.items ≡ 0 = grind (arith, common_steps) in
    record {
      count = ap (λ (vs : List (Option Bool)). length vs) same ∙ empty;
      agreed = subst (AreAgreed c.args.system.now) (sym same) c.requires.agreed;
      askable = askable_stays c.args.system.now c.args.kept.now c.ask.new.self c.requires.kept c.in_ok-values.ensures.asked;
      asked = λ system list frames h. h;
    }

pub value_of-requires-clause-kept : goal.value_of-requires-clause-kept
value_of-requires-clause-kept g c = c.bits.invariant.askable

pub bits-preserved : goal.bits-preserved
bits-preserved g c =
    let pushed : c.push.new.self.items ≡ c.value_of.new.self.agreed.items ++ c.in_ok-value.value ∷ [] = c.in_ok-push.ensures.items in
    let same : c.value_of.new.self.agreed.items ≡ c.bits.self.agreed.items = c.value_of.ensures.same in
    let now : c.push.new.self.items ≡ c.bits.self.agreed.items ++ c.in_ok-value.value ∷ [] = pushed ∙ ap (λ (vs : List (Option Bool)). vs ++ c.in_ok-value.value ∷ []) same in
    record {
      count = ap (λ (vs : List (Option Bool)). length vs) now ∙ length_more c.bits.self.agreed.items c.in_ok-value.value ∙ ap (λ (n : ℕ). n + 1) c.bits.invariant.count;
      agreed = subst (AreAgreed c.args.system.now) (sym now) (agreed_more c.args.system.now c.bits.self.agreed.items c.in_ok-value.value c.bits.invariant.agreed
          (subst (λ (n : ℕ). IfSome c.in_ok-value.value (λ b. IsAgreed c.args.system.now n b)) (sym c.bits.invariant.count) c.in_ok-value.ensures.agreed));
      askable = askable_stays c.args.system.now c.bits.kept c.value_of.new.kept c.bits.invariant.askable c.in_ok-value.ensures.asked;
      asked = asked_more c.ask.new.self c.bits.kept c.value_of.new.kept c.bits.invariant.asked c.in_ok-value.ensures.asked;
    }
  where
    length_more : (vs : List (Option Bool)) (v : Option Bool) → length (vs ++ v ∷ []) ≡ length vs + 1
    length_more [] v = refl
    length_more (w ∷ vs) v = let r = length_more vs v in grind (arith, r)

pub returns-clause-agreed : goal.returns-clause-agreed
returns-clause-agreed g c = c.bits.invariant.agreed

pub returns-clause-asked : goal.returns-clause-asked
returns-clause-asked g c = asked_more c.args.kept.now c.ask.new.self c.bits.kept c.in_ok-values.ensures.asked c.bits.invariant.asked
