use Rattle.std.proofs.Common.{◌≡◌, IfOk, List, Some, sym, ap, ◌∙◌, subst}
use Rattle.smv_language.specs.Lexemes.{Lexeme}
use Rattle.smv_expression_reader.specs.SecondPass.{got, rest_of, has_word}
use Rattle.fault_instructions.specs.declared.effects.EffectKind.{EffectKind}
use Rattle.fault_instructions.specs.Effects.{effect_kinds, first_kind}
use Rattle.fault_instructions.specs.Instructions.{effect_tree}
use Rattle.fault_reader.specs.InstructionParts.{arguments_at, kind_from, effect_at}
use Rattle.fault_reader.proofs.build.effect.Goals as goal

-- an effect that was found among all is read from what stands behind its word
reads : (ts rest : List Lexeme) (ks : List EffectKind) (k : EffectKind) → ks ≡ effect_kinds → first_kind (λ w. has_word w ts) ks ≡ Some k → rest ≡ rest_of ts → effect_at ts ≡ arguments_at k rest
reads ts rest ks k all found behind =
    ap (λ o. kind_from o (rest_of ts)) (ap (first_kind (λ w. has_word w ts)) (sym all) ∙ found) ∙ ap (arguments_at k) (sym behind)

pub returns-in-Some-clause-ok : goal.returns-in-Some-clause-ok
returns-in-Some-clause-ok c =
    subst (λ z. IfOk c.arguments.result (λ made. z ≡ got (effect_tree made) c.arguments.new.cursor))
    (sym (reads c.args.cursor.now c.skip.new.self c.effect_kinds.result.now c.in-Some.kind c.effect_kinds.ensures (sym c.effect_among.ensures ∙ c.in-Some.is) c.skip.ensures)) c.arguments.ensures.ok

pub returns-in-Some-clause-deep : goal.returns-in-Some-clause-deep
returns-in-Some-clause-deep c = λ e.
    reads c.args.cursor.now c.skip.new.self c.effect_kinds.result.now c.in-Some.kind c.effect_kinds.ensures (sym c.effect_among.ensures ∙ c.in-Some.is) c.skip.ensures ∙ c.arguments.ensures.deep e

pub returns-in-Some-clause-none : goal.returns-in-Some-clause-none
returns-in-Some-clause-none c = λ e.
    reads c.args.cursor.now c.skip.new.self c.effect_kinds.result.now c.in-Some.kind c.effect_kinds.ensures (sym c.effect_among.ensures ∙ c.in-Some.is) c.skip.ensures ∙ c.arguments.ensures.none e
