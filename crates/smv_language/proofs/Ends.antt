-- Which lexemes end an expression at a line of the grammar: those that go on with nothing of it.
use Rattle.std.proofs.Common.{◌≡◌, ◌≢◌, ℕ, suc, ◌<◌, ◌≤◌, false, List, [], ◌∷◌, ◌++◌, Option, Some, None, refl, sym, ◌∙◌, ap, subst, arith}
use Rattle.std.specs.Prelude.{codes, if◌then◌else◌}
use Rattle.smv_lexer.specs.declared.token.TokenKind.TheVariants as k
use Rattle.smv_language.specs.declared.expr.Op.{Op}
use Rattle.smv_language.specs.declared.expr.Op.TheVariants as op
use Rattle.smv_language.specs.Tree.{Tree}
use Rattle.smv_language.specs.ProgramTree.{Path}
use Rattle.smv_language.specs.Lexemes.{Lexeme, word, num, sign}
use Rattle.smv_language.specs.Texts.{same_text}
use Rattle.smv_language.specs.Spells.{at_expr, at_iff, at_choice, at_or, line_of, operator, SpellsMore, no_operator, one_operator}

-- the operator of a lexeme
pub op_of : Lexeme → Option Op
op_of (sign k.Star) = Some op.Times
op_of (sign k.Slash) = Some op.Over
op_of (sign k.Plus) = Some op.Plus
op_of (sign k.Minus) = Some op.Minus
op_of (sign k.Equal) = Some op.Equal
op_of (sign k.NotEqual) = Some op.Differs
op_of (sign k.Less) = Some op.Less
op_of (sign k.Greater) = Some op.Greater
op_of (sign k.AtMost) = Some op.AtMost
op_of (sign k.AtLeast) = Some op.AtLeast
op_of (sign k.And) = Some op.And
op_of (sign k.Bar) = Some op.Or
op_of (sign k.Iff) = Some op.Iff
op_of (sign k.Implies) = Some op.Implies
op_of (sign s) = None
op_of (num n d) = None
op_of (word x) =
    if same_text x (codes "mod") then Some op.Mod else (if same_text x (codes "union") then Some op.Union else
    (if same_text x (codes "in") then Some op.Within else (if same_text x (codes "xor") then Some op.Xor else
    (if same_text x (codes "xnor") then Some op.Xnor else None))))

op_of_operator : (o : Op) → op_of (operator o) ≡ Some o
unfolding op_of
op_of_operator op.Times = refl
op_of_operator op.Over = refl
op_of_operator op.Mod = refl
op_of_operator op.Plus = refl
op_of_operator op.Minus = refl
op_of_operator op.Union = refl
op_of_operator op.Within = refl
op_of_operator op.Equal = refl
op_of_operator op.Differs = refl
op_of_operator op.Less = refl
op_of_operator op.Greater = refl
op_of_operator op.AtMost = refl
op_of_operator op.AtLeast = refl
op_of_operator op.And = refl
op_of_operator op.Or = refl
op_of_operator op.Xor = refl
op_of_operator op.Xnor = refl
op_of_operator op.Iff = refl
op_of_operator op.Implies = refl

pub same_operator : (o o' : Op) → operator o ≡ operator o' → o ≡ o'
same_operator o o' e = let both : Some o ≡ Some o' = sym (op_of_operator o) ∙ ap op_of e ∙ op_of_operator o' in cc

no_operator_is : (o : Op) (t : Lexeme) → op_of t ≡ None → operator o ≡ t → ⊥
no_operator_is o t n e = let both : Some o ≡ None = sym (op_of_operator o) ∙ ap op_of e ∙ n in cc

-- what may follow an expression of line l: nothing that goes on with it
pub record Ends (l : ℕ) (t : Lexeme) : Type 0 where
  pub operators : (o : Op) (m : ℕ) → operator o ≡ t → line_of o ≡ Some m → m < l
  pub no_arrow : t ≡ sign k.Implies → at_expr < l
  pub no_question : t ≡ sign k.Question → at_choice < l
  pub no_dot : t ≢ sign k.Dot
  pub no_dots : t ≢ sign k.Dots

unfoldable pub Stops : ℕ → List Lexeme → Type 0
Stops l [] = Unit {0}
Stops l (t ∷ ts) = Ends l t

pub stops_tighter : (l m : ℕ) (r : List Lexeme) → l ≤ m → Stops l r → Stops m r
unfolding Stops
stops_tighter l m [] h u = tt
stops_tighter l m (t ∷ ts) h u = record {
  operators = λ o n e f. let b : n < l = u.operators o n e f in omega (arith, b, h);
  no_arrow = λ e. let b : at_expr < l = u.no_arrow e in omega (arith, b, h);
  no_question = λ e. let b : at_choice < l = u.no_question e in omega (arith, b, h);
  no_dot = u.no_dot;
  no_dots = u.no_dots;
}

-- a lexeme that is no operator, arrow, question mark or dots
pub ends_at : (l : ℕ) (t : Lexeme) → op_of t ≡ None → t ≢ sign k.Question → t ≢ sign k.Dot → t ≢ sign k.Dots → Ends l t
unfolding op_of
ends_at l t n q d dd = record {
  operators = λ o m e f. absurd (no_operator_is o t n e);
  no_arrow = λ e. let none : op_of (sign k.Implies) ≡ None = subst (λ z. op_of z ≡ None) e n in cc;
  no_question = λ e. absurd (q e);
  no_dot = d;
  no_dots = dd;
}

pub ends_question : Ends at_or (sign k.Question)
unfolding op_of
ends_question = record {
  operators = λ o m e f. absurd (no_operator_is o (sign k.Question) refl e);
  no_arrow = λ e. cc;
  no_question = λ e. omega arith;
  no_dot = λ e. cc;
  no_dots = λ e. cc;
}

pub ends_arrow : Ends at_iff (sign k.Implies)
unfolding op_of
ends_arrow = record {
  operators = λ o m e f.
      let same : o ≡ op.Implies = same_operator o op.Implies e in
      let none : line_of op.Implies ≡ Some m = subst (λ z. line_of z ≡ Some m) same f in cc;
  no_arrow = λ e. omega arith;
  no_question = λ e. cc;
  no_dot = λ e. cc;
  no_dots = λ e. cc;
}

ends_operator : (l : ℕ) (o : Op) → line_of o ≡ Some l → Ends (suc l) (operator o)
unfolding op_of
ends_operator l o f = record {
  operators = λ o' m e f'.
      let same : o' ≡ o = same_operator o' o e in
      let both : Some m ≡ Some l = sym f' ∙ ap line_of same ∙ f in
      let lines : m ≡ l = cc in omega (arith, lines);
  no_arrow = λ e. omega arith;
  no_question = λ e. absurd (no_operator_is o (sign k.Question) refl e);
  no_dot = λ e. no_operator_is o (sign k.Dot) refl e;
  no_dots = λ e. no_operator_is o (sign k.Dots) refl e;
}

pub closes : (l : ℕ) (t : Lexeme) (r : List Lexeme) → Ends l t → Stops l (t ∷ r)
unfolding Stops
closes l t r h = h

pub head_ends : (l : ℕ) (r : List Lexeme) (t : Lexeme) (more : List Lexeme) → Stops l r → r ≡ t ∷ more → Ends l t
unfolding Stops
head_ends l [] t more u e = cc
head_ends l (x ∷ xs) t more u e = let same : x ≡ t = cc in subst (Ends l) same u

pub end_of_bracket : (l : ℕ) (r : List Lexeme) → Stops l (sign k.Close ∷ r)
unfolding op_of
end_of_bracket l r = closes l (sign k.Close) r (ends_at l (sign k.Close) refl (λ e. cc) (λ e. cc) (λ e. cc))

pub end_of_brace : (l : ℕ) (r : List Lexeme) → Stops l (sign k.CloseBrace ∷ r)
unfolding op_of
end_of_brace l r = closes l (sign k.CloseBrace) r (ends_at l (sign k.CloseBrace) refl (λ e. cc) (λ e. cc) (λ e. cc))

pub end_of_comma : (l : ℕ) (r : List Lexeme) → Stops l (sign k.Comma ∷ r)
unfolding op_of
end_of_comma l r = closes l (sign k.Comma) r (ends_at l (sign k.Comma) refl (λ e. cc) (λ e. cc) (λ e. cc))

pub end_of_colon : (l : ℕ) (r : List Lexeme) → Stops l (sign k.Colon ∷ r)
unfolding op_of
end_of_colon l r = closes l (sign k.Colon) r (ends_at l (sign k.Colon) refl (λ e. cc) (λ e. cc) (λ e. cc))

pub end_of_semicolon : (l : ℕ) (r : List Lexeme) → Stops l (sign k.Semicolon ∷ r)
unfolding op_of
end_of_semicolon l r = closes l (sign k.Semicolon) r (ends_at l (sign k.Semicolon) refl (λ e. cc) (λ e. cc) (λ e. cc))

pub stops_more : {l : ℕ} {ys : List Lexeme} {a t : Tree Path} (r : List Lexeme) → SpellsMore l ys a t → Stops l r → Stops (suc l) (ys ++ r)
stops_more {l} r no_operator h = stops_tighter l (suc l) r (omega arith) h
stops_more {l} r (one_operator {o = o} f s m) h = closes (suc l) (operator o) _ (ends_operator l o f)

-- lexemes that are no operators
pub no_word_operator : (x : List ℕ) → same_text x (codes "mod") ≡ false → same_text x (codes "union") ≡ false → same_text x (codes "in") ≡ false → same_text x (codes "xor") ≡ false →
    same_text x (codes "xnor") ≡ false → op_of (word x) ≡ None
unfolding op_of
no_word_operator x h1 h2 h3 h4 h5 = rw (h1, h2, h3, h4, h5) refl

pub end_of_becomes : (l : ℕ) (r : List Lexeme) → Stops l (sign k.Becomes ∷ r)
unfolding op_of
end_of_becomes l r = closes l (sign k.Becomes) r (ends_at l (sign k.Becomes) refl (λ e. cc) (λ e. cc) (λ e. cc))

-- nothing ends each line
pub nothing_stops : (l : ℕ) → Stops l []
unfolding Stops
nothing_stops l = tt
