-- A text that is refused is refused for one reason.
use Rattle.std.proofs.Common.{arith, ◌≡◌, ⊎_elim, ◌<◌, ◌≤◌, ◌+◌, ℕ, Bool, true, false, List, [], ◌++◌, Some, take, drop, sym, ap, subst, ◌∙◌, append_assoc, append-nil, slice_get}
use Rattle.std.proofs.lemmas.Bool.{cases_lt}
use Rattle.std.proofs.lemmas.List.{take-append-drop, take-take}
use Rattle.smv_lexer.specs.declared.token.Token.{Token}
use Rattle.smv_lexer.specs.declared.token.LexFault.{LexFault}
use Rattle.smv_lexer.specs.Tokens.{HasTokens}
use Rattle.smv_lexer.specs.Faults.{HasNoSplit, IsFaultOf}
use Rattle.smv_lexer.proofs.SplitLemmas.{one_answer}
use Rattle.smv_lexer.proofs.FaultLemmas.{one_fault}
use Rattle.smv_language.specs.Lexemes.{Lexeme, lexemes_of}
use Rattle.smv_expression_reader.specs.declared.fault.ParseFault.{ParseFault}
use Rattle.smv_expression_reader.specs.declared.fault.ParseFault.TheVariants as parse
use Rattle.smv_expression_reader.specs.Stops.{IsFrontOf, StopsAt, Unfinished, FaultMeans, is_left_out}
use Rattle.smv_expression_reader.specs.Places.{lexeme_at}
use Rattle.verb_loading.specs.declared.status.InputFault.{InputFault}
use Rattle.verb_loading.specs.declared.status.Part.TheVariants as part
use Rattle.verb_loading.specs.declared.wrong.Wrong.{Wrong}
use Rattle.verb_loading.specs.declared.wrong.Wrong.TheVariants as wrong
use Rattle.verb_loading.specs.Wrongs.{broken, lex_wrong, parse_wrong}

-- where reading stops, at a word that is left out or at another token
abbrev stop_wrong : Bool → ℕ → Wrong
stop_wrong true at = broken part.Parse 4 at
stop_wrong false at = broken part.Parse 1 at

module _ (IsSpelled : List Lexeme → Type 0) (Deep : Type 0) (bytes : List ℕ) where
  front_of_front : (ts : List Lexeme) (n : ℕ) → IsFrontOf IsSpelled ts → IsFrontOf IsSpelled (take n ts)
  front_of_front ts n (us, whole) =
      (drop n ts ++ us, subst IsSpelled (ap (λ f. f ++ us) (sym (take-append-drop n ts)) ∙ append_assoc (take n ts) (drop n ts) us) whole)

  shorter : (ts : List Lexeme) (n m : ℕ) → n ≤ m → IsFrontOf IsSpelled (take m ts) → IsFrontOf IsSpelled (take n ts)
  shorter ts n m le front = subst (IsFrontOf IsSpelled) (take-take n m ts le) (front_of_front (take m ts) n front)

  -- no stop comes before another
  no_earlier : {at bt : ℕ} {a b : Bool} (x : StopsAt IsSpelled bytes at a) (y : StopsAt IsSpelled bytes bt b) → x.number < y.number → ⊥
  no_earlier x y less =
      let ts = lexemes_of bytes y.tokens in
      let front = shorter ts (x.number + 1) y.number (omega (arith, less)) y.before in
      x.behind (subst (λ tokens. IsFrontOf IsSpelled (take (x.number + 1) (lexemes_of bytes tokens))) (one_answer bytes x.tokens y.tokens x.split y.split) front)

  same_number : {at bt : ℕ} {a b : Bool} (x : StopsAt IsSpelled bytes at a) (y : StopsAt IsSpelled bytes bt b) → x.number ≡ y.number
  same_number x y =
      ⊎_elim (λ less. absurd (no_earlier x y less)) (λ most. ⊎_elim (λ less. absurd (no_earlier y x less)) (λ least. omega (arith, most, least)) (cases_lt y.number x.number)) (cases_lt x.number y.number)

  same_stop : {at bt : ℕ} {a b : Bool} (x : StopsAt IsSpelled bytes at a) (y : StopsAt IsSpelled bytes bt b) → (at ≡ bt) × (a ≡ b)
  same_stop x y =
      let tokens = one_answer bytes x.tokens y.tokens x.split y.split in
      let one : Some x.token ≡ Some y.token = sym x.stands ∙ ap (λ n. slice_get x.tokens n) (same_number x y) ∙ ap (λ ts. slice_get ts y.number) (sym tokens) ∙ y.stands in
      let token : x.token ≡ y.token = cc in
      (sym x.place ∙ ap (λ t. t.start) token ∙ y.place, sym x.kind ∙ ap (λ t. is_left_out (lexeme_at bytes t)) token ∙ y.kind)

  -- where reading stops, the tokens are none of this kind
  stop_spells_none : {at : ℕ} {a : Bool} (x : StopsAt IsSpelled bytes at a) (tokens : List Token) → HasTokens bytes tokens → IsFrontOf IsSpelled (lexemes_of bytes tokens) → ⊥
  stop_spells_none x tokens split front =
      x.behind (subst (λ ts. IsFrontOf IsSpelled (take (x.number + 1) (lexemes_of bytes ts))) (one_answer bytes x.tokens tokens x.split split)
      (front_of_front (lexemes_of bytes tokens) (x.number + 1) front))

  -- the four reasons
  pub data Reason (w : Wrong) : Type 0 where
    lexical : (f : LexFault) → w ≡ lex_wrong f → IsFaultOf bytes f → HasNoSplit bytes → Reason w
    stopped : (at : ℕ) (left : Bool) → w ≡ stop_wrong left at → StopsAt IsSpelled bytes at left → Reason w
    unfinished : (at : ℕ) → w ≡ broken part.Parse 2 at → Unfinished IsSpelled bytes at → Reason w
    deep : w ≡ broken part.Parse 3 0 → Deep → Reason w

  pub reason : (f : ParseFault) (fault : InputFault) → wrong.Refused fault ≡ parse_wrong f → FaultMeans IsSpelled Deep bytes f → Reason (wrong.Refused fault)
  reason (parse.Lex f) fault e h = lexical f e h.0 h.1
  reason (parse.Unexpected at) fault e h = stopped at false e h
  reason (parse.End at) fault e h = unfinished at e h
  reason parse.TooDeep fault e h = deep e h
  reason (parse.LeftOut at) fault e h = stopped at true e h
  reason parse.OutOfMemory fault e h = cc

  -- a reason does not stand where the bytes are of this kind
  no_split_tokens : (tokens : List Token) → HasNoSplit bytes → HasTokens bytes tokens → ⊥
  no_split_tokens tokens none has = none has.0 has.1

  pub of_this_kind : (tokens : List Token) → HasTokens bytes tokens → IsSpelled (lexemes_of bytes tokens) → (Deep → ⊥) → {w : Wrong} → Reason w → ⊥
  of_this_kind tokens split whole flat (lexical f e h none) = no_split_tokens tokens none split
  of_this_kind tokens split whole flat (stopped at left e x) = stop_spells_none x tokens split ([], subst IsSpelled (sym (append-nil (lexemes_of bytes tokens))) whole)
  of_this_kind tokens split whole flat (unfinished at e x) =
      x.incomplete (subst (λ ts. IsSpelled (lexemes_of bytes ts)) (one_answer bytes x.tokens tokens x.split split) whole)
  of_this_kind tokens split whole flat (deep e h) = flat h

  module _ (spelled : Deep → (tokens : List Token) × HasTokens bytes tokens × IsSpelled (lexemes_of bytes tokens)) where
    pub same_reason : {v w : Wrong} → Reason v → Reason w → v ≡ w
    same_reason (lexical f e h none) (lexical g e' h' none') = e ∙ ap lex_wrong (one_fault bytes g f h' h) ∙ sym e'
    same_reason (lexical f e h none) (stopped at left e' y) = absurd (no_split_tokens y.tokens none y.split)
    same_reason (lexical f e h none) (unfinished at e' y) = absurd (no_split_tokens y.tokens none y.split)
    same_reason (lexical f e h none) (deep e' d) = absurd (no_split_tokens (spelled d).0 none (spelled d).1)
    same_reason (stopped at left e x) (lexical g e' h' none') = absurd (no_split_tokens x.tokens none' x.split)
    same_reason (stopped at left e x) (stopped bt right e' y) = e ∙ ap (λ l. stop_wrong l at) (same_stop x y).1 ∙ ap (stop_wrong right) (same_stop x y).0 ∙ sym e'
    same_reason (stopped at left e x) (unfinished bt e' y) = absurd (stop_spells_none x y.tokens y.split y.front)
    same_reason (stopped at left e x) (deep e' d) = let s = spelled d in absurd (stop_spells_none x s.0 s.1 ([], subst IsSpelled (sym (append-nil (lexemes_of bytes s.0))) s.2))
    same_reason (unfinished at e x) (lexical g e' h' none') = absurd (no_split_tokens x.tokens none' x.split)
    same_reason (unfinished at e x) (stopped bt right e' y) = absurd (stop_spells_none y x.tokens x.split x.front)
    same_reason (unfinished at e x) (unfinished bt e' y) = e ∙ ap (broken part.Parse 2) (x.place ∙ sym y.place) ∙ sym e'
    same_reason (unfinished at e x) (deep e' d) =
        let s = spelled d in absurd (x.incomplete (subst (λ ts. IsSpelled (lexemes_of bytes ts)) (one_answer bytes x.tokens s.0 x.split s.1) s.2))
    same_reason (deep e d) (lexical g e' h' none') = absurd (no_split_tokens (spelled d).0 none' (spelled d).1)
    same_reason (deep e d) (stopped bt right e' y) = let s = spelled d in absurd (stop_spells_none y s.0 s.1 ([], subst IsSpelled (sym (append-nil (lexemes_of bytes s.0))) s.2))
    same_reason (deep e d) (unfinished bt e' y) =
        let s = spelled d in absurd (y.incomplete (subst (λ ts. IsSpelled (lexemes_of bytes ts)) (one_answer bytes y.tokens s.0 y.split s.1) s.2))
    same_reason (deep e d) (deep e' d') = e ∙ sym e'
