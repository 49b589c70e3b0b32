-- What a list of expected symbols stands for.
use Rattle.std.proofs.Common.{◌≡◌, inl, inr, ◌⊎◌, ℕ, Bool, true, false, List, [], ◌∷◌, ◌++◌, Option, Some, None, refl, sym, ◌∙◌, ap}
use Rattle.std.specs.Prelude.{if◌then◌else◌}
use Rattle.std.specs.Option.{option_map}
use Rattle.smv_lexer.specs.declared.token.TokenKind.TheVariants as k
use Rattle.smv_language.specs.Lexemes.{Lexeme, word, num, sign, is_reserved}
use Rattle.smv_expression_reader.specs.Recogniser.{State, stuck, is_whole}
use Rattle.smv_expression_reader.specs.Recogniser as machine
use Rattle.smv_expression_reader.specs.Places.{is_word}
use Rattle.smv_expression_reader.specs.PredictiveReader.{Means}
use Rattle.smv_expression_reader.specs.Marks.{mark_of}
use Rattle.smv_expression_reader.proofs.Meanings.{Leads}
use Rattle.smv_expression_reader.proofs.Accepted.{run_stuck}
use Rattle.smv_expression_reader.proofs.Marks.{Marked, marked, mark_of_name, word_there}
use Rattle.fault_reader.specs.InstructionGrammar.{Sym, is_single, spelled, live, where_so, effect_in, arguments, next, instructions}
use Rattle.fault_reader.specs.InstructionGrammar as s
use Rattle.smv_language.proofs.ValueLaws.{same_text_refl as same_as_it}
use Rattle.fault_instructions.specs.declared.effects.EffectKind.{EffectKind}
use Rattle.smv_expression_reader.specs.declared.mark.Mark.{Mark}
use Rattle.smv_expression_reader.specs.declared.mark.Mark.TheVariants as marks
use Rattle.fault_reader.specs.declared.symbols.Single.{Single}
use Rattle.fault_reader.specs.declared.symbols.Single.TheVariants as the

-- single lexemes
unfoldable pub That : Single → Lexeme → Type 0
That the.Name t = (x : List ℕ) × (t ≡ word x) × (is_reserved x ≡ false)
That the.Number t = (n : ℕ) × (d : List ℕ) × (t ≡ num n d)
That the.Open t = t ≡ sign k.Open
That the.Close t = t ≡ sign k.Close
That the.Comma t = t ≡ sign k.Comma
That the.Colon t = t ≡ sign k.Colon
That the.Semicolon t = t ≡ sign k.Semicolon

that_marked : (w : Single) (c : Mark) (t : Lexeme) → Marked c t → is_single w c ≡ true → That w t
unfolding Marked That
that_marked the.Name marks.Name t m h = m
that_marked the.Number marks.Number t m h = m
that_marked the.Open marks.Open t m h = m
that_marked the.Close marks.Close t m h = m
that_marked the.Comma marks.Comma t m h = m
that_marked the.Colon marks.Colon t m h = m
that_marked the.Semicolon marks.Semicolon t m h = m
that_marked w c t m h = cc

pub that : (w : Single) (t : Lexeme) → is_single w (mark_of t) ≡ true → That w t
that w t h = that_marked w (mark_of t) t (marked t) h

pub is_that : (w : Single) (t : Lexeme) → That w t → is_single w (mark_of t) ≡ true
unfolding That
is_that the.Name t m = ap (λ z. is_single the.Name (mark_of z)) m.1 ∙ ap (is_single the.Name) (mark_of_name m.0 m.2)
is_that the.Number t m = ap (λ z. is_single the.Number (mark_of z)) m.2
is_that the.Open t m = ap (λ z. is_single the.Open (mark_of z)) m
is_that the.Close t m = ap (λ z. is_single the.Close (mark_of z)) m
is_that the.Comma t m = ap (λ z. is_single the.Comma (mark_of z)) m
is_that the.Colon t m = ap (λ z. is_single the.Colon (mark_of z)) m
is_that the.Semicolon t m = ap (λ z. is_single the.Semicolon (mark_of z)) m

pub is_the_word : (w : List ℕ) → is_word (word w) w ≡ true
is_the_word w = same_as_it w

-- what a list of symbols stands for
abbrev pub Means_of : List Sym → List Lexeme → Type 0
Means_of = Means Sym instructions

pub record One (w : Single) (syms : List Sym) (ts : List Lexeme) : Type 0 where
  pub lexeme : Lexeme
  pub rest : List Lexeme
  pub whole : ts ≡ lexeme ∷ rest
  pub that : That w lexeme
  pub means : Means_of syms rest

pub one : (w : Single) (syms : List Sym) (ts : List Lexeme) → Means_of (s.single w ∷ syms) ts → One w syms ts
one w syms ts m = record {
  lexeme = m.3.0;
  rest = m.1;
  whole = m.2 ∙ ap (λ z. z ++ m.1) m.3.1;
  that = that w m.3.0 m.3.2;
  means = m.4;
}

pub as_one : (w : Single) (syms : List Sym) (t : Lexeme) (ts : List Lexeme) → That w t → Means_of syms ts → Means_of (s.single w ∷ syms) (t ∷ ts)
as_one w syms t ts h m = (t ∷ [], ts, refl, (t, refl, is_that w t h), m)

pub key : (w : List ℕ) (syms : List Sym) (ts : List Lexeme) → Means_of (s.keyword w ∷ syms) ts → (rest : List Lexeme) × (ts ≡ word w ∷ rest) × Means_of syms rest
key w syms ts m = (m.1, m.2 ∙ ap (λ z. z ++ m.1) m.3, m.4)

pub as_key : (w : List ℕ) (syms : List Sym) (rest : List Lexeme) → Means_of syms rest → Means_of (s.keyword w ∷ syms) (word w ∷ rest)
as_key w syms rest m = (word w ∷ [], rest, refl, refl, m)

pub as_other : (x : Sym) (syms : List Sym) (xs ys : List Lexeme) → spelled x xs → Means_of syms ys → Means_of (x ∷ syms) (xs ++ ys)
as_other x syms xs ys d m = (xs, ys, refl, d, m)

-- what a choice of symbols stands for
abbrev pub Through : Option (List Sym) → List Lexeme → Type 0
Through = Leads instructions

pub where_true : (b : Bool) (syms : List Sym) (ts : List Lexeme) → Through (where_so b syms) ts → (b ≡ true) × Means_of syms ts
unfolding Leads
where_true true syms ts h = (refl, h)
where_true false syms ts h = absurd h

pub true_where : (b : Bool) (syms : List Sym) (ts : List Lexeme) → b ≡ true → Means_of syms ts → Through (where_so b syms) ts
unfolding Leads
true_where true syms ts e h = h
true_where false syms ts e h = cc

pub where_word : (t : Lexeme) (w : List ℕ) (syms : List Sym) (ts : List Lexeme) → Through (where_so (is_word t w) syms) ts → (t ≡ word w) × Means_of syms ts
where_word t w syms ts h = let both = where_true (is_word t w) syms ts h in (word_there t w both.0, both.1)

pub if_word : (t : Lexeme) (w : List ℕ) (a b : Option (List Sym)) (ts : List Lexeme) → Through (if is_word t w then a else b) ts → ((t ≡ word w) × Through a ts) ⊎ Through b ts
if_word t w a b ts h = go (is_word t w) refl h
  where
    go : (c : Bool) → is_word t w ≡ c → Through (if c then a else b) ts → ((t ≡ word w) × Through a ts) ⊎ Through b ts
    go true e h = inl (word_there t w e, h)
    go false e h = inr h

pub live_sound : (st : State) (rest : List Sym) (ts : List Lexeme) → Through (live st rest) ts →
    (xs : List Lexeme) × (ys : List Lexeme) × (ts ≡ xs ++ ys) × (is_whole (machine.run st xs) ≡ true) × Means_of rest ys
unfolding Leads
live_sound stuck rest ts h = absurd h
live_sound st rest ts h = h

pub live_complete : (st : State) (rest : List Sym) (xs ys : List Lexeme) → is_whole (machine.run st xs) ≡ true → Means_of rest ys → Through (live st rest) (xs ++ ys)
unfolding Leads
live_complete stuck rest xs ys e m = let clash : false ≡ true = ap is_whole (sym (run_stuck xs)) ∙ e in cc
live_complete st rest xs ys e m = (xs, ys, refl, e, m)

-- an effect by its word
pub effect_found : (t : Lexeme) (k : EffectKind) → effect_in t ≡ Some k → next s.effect t ≡ Some (arguments k)
effect_found t k h = ap (option_map arguments) h

pub no_effect : (t : Lexeme) → effect_in t ≡ None → next s.effect t ≡ None
no_effect t h = ap (option_map arguments) h

pub ruleset effect_comes = (effect_found, no_effect)
