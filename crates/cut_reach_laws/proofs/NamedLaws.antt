-- Causes that break no rule leave names apart, and causes that are spelled have words as names.
use Rattle.std.proofs.Common.{List, [], subst}
use Rattle.smv_lexer.specs.Tokens.{IsWord}
use Rattle.smv_language.specs.Language.{Lexeme, Each}
use Rattle.smv_language.proofs.Spelled.{AllFit, many_writable, tokens_fit}
use Rattle.fault_cause_laws.specs.Causes.{IsCauseOf}
use Rattle.fault_cause_laws.specs.CausesText.{WrittenCause, SpellsCause, a_cause}
use Rattle.cut_reach_laws.specs.CausedLaws.{SpelledAreWords, CausedAreNamed}
use Rattle.cut_reach_laws.proofs.Naming.{NamedWith, staged_named}
use Rattle.cut_reach_laws.proofs.Lawful.{lawful_good}

cause_word : (ts : List Lexeme) (c : WrittenCause) → SpellsCause ts c → AllFit ts → IsWord c.name []
cause_word ts c (a_cause r p) h = h.1.0

pub spelled_words : SpelledAreWords
spelled_words bytes written s = many_writable SpellsCause (λ c. IsWord c.name []) cause_word s.2 (tokens_fit bytes s.0 s.1)

pub caused_named : CausedAreNamed
caused_named faults w m fs written cs accepted flat named apart few same lawful read words =
    let good = lawful_good faults w m accepted flat few written cs fs same lawful read words in
    let goes : NamedWith _ [] = staged_named fs m cs good.2 (record { named = named; apart = apart; new = good.0 }) in
    record { strikes = subst (λ n. Each (IsCauseOf n) cs) same good.1; named = goes.named; apart = goes.apart }
