use Rattle.std.proofs.Common.{◌≡◌, ◌++◌, ap, ◌∙◌}
use Rattle.std.specs.Prelude.{codes}
use Rattle.std.specs.Fmt.{decimal}
use Rattle.std.proofs.lemmas.List.{append_assoc}
use Rattle.smv_language.specs.ProgramTree.{Text}
use Rattle.cut_text_laws.specs.Analysis.{told_ending}
use Rattle.verb_run.specs.AnswerTexts.{summary_ending}
use Rattle.verb_run.proofs.make.summary_of.Goals as goal

-- a number and the word after it, before the rest of a line
joined : (digits word rest whole end : Text) → rest ++ end ≡ whole → (digits ++ (word ++ rest)) ++ end ≡ digits ++ (word ++ whole)
joined digits word rest whole end h = append_assoc digits (word ++ rest) end ∙ ap (λ t. digits ++ t) (append_assoc word rest end ∙ ap (λ t. word ++ t) h)

-- the numbers of a summary with their words, before its ending
line_joined : (a b c d e end : Text) →
    (a ++ (codes " variables " ++ (b ++ (codes " faults " ++ (c ++ (codes " bits " ++ (d ++ (codes " sets " ++ (e ++ codes " "))))))))) ++ end
    ≡ a ++ (codes " variables " ++ (b ++ (codes " faults " ++ (c ++ (codes " bits " ++ (d ++ (codes " sets " ++ (e ++ (codes " " ++ end)))))))))
line_joined a b c d e end =
    joined a (codes " variables ") _ _ end (joined b (codes " faults ") _ _ end (joined c (codes " bits ") _ _ end (joined d (codes " sets ") _ _ end (append_assoc e (codes " ") end))))

pub returns : goal.returns
returns c =
    let s = decimal c.args.counts.now.stages in
    let v = decimal c.args.counts.now.variables in
    let f = decimal c.args.counts.now.faults in
    let b = decimal c.args.counts.now.bits in
    let n = decimal c.args.counts.now.sets in
    let end = summary_ending (told_ending c.args.ending) in
    let begun : c.in_ok-line.line ≡ codes "stages " ++ (s ++ (codes " variables " ++ (v ++ (codes " faults " ++ (f ++ (codes " bits " ++ (b ++ (codes " sets " ++ (n ++ codes " ")))))))))
    = c.in_ok-line.ensures ∙ c.as_bytes.ensures.value ∙ c.in_ok-begin.ensures.ok in
    c.in_ok-append_ending.ensures ∙ ap (λ t. t ++ end) begun ∙ ap (λ t. codes "stages " ++ t) (line_joined s v f b n end)
