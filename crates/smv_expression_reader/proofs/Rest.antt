-- What is accepted spells a tree.
use Rattle.std.proofs.Common.{◌≡◌, ℕ, ℤ, true, false, List, [], ◌∷◌, ◌++◌, ◌⊎◌, inl, inr, refl, sym, ◌∙◌, ap, subst, arith, append_assoc, append-nil}
use Rattle.std.specs.Prelude.{pos, codes}
use Rattle.smv_lexer.specs.declared.token.TokenKind.TheVariants as k
use Rattle.smv_language.specs.declared.expr.Op.TheVariants as op
use Rattle.smv_language.specs.Language.{Tree, Trees, Branches, Lexeme, word, num, sign, is_reserved, Path, at_expr, at_neg, at_not, operator, minus, SpellsInt, plain_int, minus_int, SpellsDotted, one_name, more_names, Spells, only_not, only_atom, inverts, SpellsAtom, is_true, is_false, is_number, is_span, is_name, in_parentheses, is_next, is_set, is_case, SpellsTrees, one_tree, more_trees, SpellsBranches, one_branch, more_branches}
use Rattle.smv_language.specs.Tree.{truth}
use Rattle.smv_expression_reader.specs.Recogniser.{role_of, Ended, by_number, by_name, by_other, State, wants, wants_not, wants_low, wants_dots, wants_high, wants_digits, wants_name, wants_open, wants_branch, had, stuck, begin, close, follow, step, run, is_whole, start}
use Rattle.smv_expression_reader.specs.Words.{use_of}
use Rattle.smv_expression_reader.proofs.WordLaws.{in_words}
use Rattle.smv_language.proofs.PrintedSpells.{loosened}
use Rattle.smv_expression_reader.proofs.Prepended.{IsSpelled, prepended, chosen, minus_before}
use Rattle.smv_expression_reader.proofs.Accepted.{regrouped_twice as ending}
use Rattle.smv_expression_reader.specs.declared.frames.OpenFrame.{OpenFrame as Frame}
use Rattle.smv_expression_reader.specs.declared.machine.TokenRole.{TokenRole as Role}
use Rattle.smv_expression_reader.specs.declared.frames.OpenFrame.TheVariants as frame
use Rattle.smv_expression_reader.specs.declared.machine.TokenRole.TheVariants as role

-- the lexemes of a role
Meant : Role → Lexeme → Type 0
Meant (role.Truth b) t = SpellsAtom (t ∷ []) (truth b)
Meant role.Name t = (x : List ℕ) × (t ≡ word x) × (is_reserved x ≡ false)
Meant role.Number t = (n : ℕ) × (d : List ℕ) × (t ≡ num n d)
Meant role.Next t = t ≡ word (codes "next")
Meant role.Case t = t ≡ word (codes "case")
Meant role.Esac t = t ≡ word (codes "esac")
Meant role.Minus t = t ≡ sign k.Minus
Meant role.Bang t = t ≡ sign k.Bang
Meant (role.Joins o) t = t ≡ operator o
Meant role.Asks t = t ≡ sign k.Question
Meant role.Colon t = t ≡ sign k.Colon
Meant role.Semicolon t = t ≡ sign k.Semicolon
Meant role.Comma t = t ≡ sign k.Comma
Meant role.Dot t = t ≡ sign k.Dot
Meant role.Dots t = t ≡ sign k.Dots
Meant role.Opens t = t ≡ sign k.Open
Meant role.Closes t = t ≡ sign k.Close
Meant role.OpensSet t = t ≡ sign k.OpenBrace
Meant role.ClosesSet t = t ≡ sign k.CloseBrace
Meant role.Nothing t = Unit {0}

meant_word : (x : List ℕ) → Meant (use_of x).0 (word x)
unfolding Meant
meant_word x =
    in_words (λ w row. Meant row.0 (word w)) x
    (tt, (tt, (tt, (tt, (tt, (tt, (tt, (tt, (tt, (tt, (tt, (tt, (tt, (tt, (tt, (tt, (tt, (tt, (tt, (refl, (refl, (refl, (refl, (tt, (refl, (refl, (refl, (refl, (is_true, (is_false, (tt, (tt, (tt, (tt, (tt, (tt, (tt, (tt, (tt, (tt, (tt, (tt, (tt, (tt, tt))))))))))))))))))))))))))))))))))))))))))))
    (λ n. (x, refl, n))

meant : (t : Lexeme) → Meant (role_of t) t
unfolding Meant
meant (word x) = meant_word x
meant (num n d) = (n, d, refl)
meant (sign k.Word) = tt
meant (sign k.Number) = tt
meant (sign k.Becomes) = tt
meant (sign k.OpenSquare) = tt
meant (sign k.CloseSquare) = tt
meant (sign s) = refl

-- lists that make a part of an expression
IsInt : List Lexeme → Type 0
IsInt xs = (n : ℤ) × SpellsInt xs n

IsDotted : List Lexeme → Type 0
IsDotted xs = (p : Path) × SpellsDotted xs p

IsBranches : List Lexeme → Type 0
IsBranches xs = (bs : Branches Path) × SpellsBranches xs bs

IsTrees : List Lexeme → Type 0
IsTrees xs = (us : Trees Path) × SpellsTrees xs us

-- what follows an operand inside an expression
IsTail : List Lexeme → Type 0
IsTail w = (us : List Lexeme) → IsSpelled at_neg us → IsSpelled at_expr (us ++ w)

-- a list that ends with a last lexeme
EndsWith : Lexeme → (List Lexeme → Type 0) → List Lexeme → Type 0
EndsWith t One xs = (ys : List Lexeme) × (xs ≡ ys ++ t ∷ []) × One ys

-- what closes a frame, after the expression inside it
Inside : Frame → List Lexeme → Type 0
Inside frame.Group w = w ≡ sign k.Close ∷ []
Inside frame.Moment w = w ≡ sign k.Close ∷ []
Inside frame.Members w = (xs : List Lexeme) → IsSpelled at_expr xs → EndsWith (sign k.CloseBrace) IsTrees (xs ++ w)
Inside frame.FirstChoice w = (us : List Lexeme) × (w ≡ sign k.Colon ∷ us) × IsSpelled at_neg us
Inside frame.Condition w = (zs : List Lexeme) → IsSpelled at_expr zs → EndsWith (word (codes "esac")) IsBranches (zs ++ w)
Inside frame.Outcome w = (zs xs : List Lexeme) → IsSpelled at_expr zs → IsSpelled at_expr xs → EndsWith (word (codes "esac")) IsBranches (zs ++ sign k.Colon ∷ (xs ++ w))

-- the tail of an expression, and then what closes
record HasTail (Closed : List Lexeme → Type 0) (ts : List Lexeme) : Type 0 where
  tail : List Lexeme
  rest : List Lexeme
  whole : ts ≡ tail ++ rest
  is_tail : IsTail tail
  closed : Closed rest

-- what ends an operand, then the tail of an expression, and then what closes
record HasOperand (One : List Lexeme → Type 0) (Closed : List Lexeme → Type 0) (ts : List Lexeme) : Type 0 where
  first : List Lexeme
  after : List Lexeme
  whole : ts ≡ first ++ after
  one : One first
  tail : HasTail Closed after

-- an expression, and then what closes
record HasExpr (Closed : List Lexeme → Type 0) (ts : List Lexeme) : Type 0 where
  expr : List Lexeme
  rest : List Lexeme
  whole : ts ≡ expr ++ rest
  is_expr : IsSpelled at_expr expr
  closed : Closed rest

Closed : List Frame → List Lexeme → Type 0
Closed [] = λ r. r ≡ []
Closed (f ∷ s) = HasOperand (Inside f) (Closed s)

Dotted_on : List Lexeme → Type 0
Dotted_on xs = (ys : List Lexeme) × (xs ≡ sign k.Dot ∷ ys) × IsDotted ys

Span_on : List Lexeme → Type 0
Span_on xs = (ys : List Lexeme) × (xs ≡ sign k.Dots ∷ ys) × IsInt ys

-- what may still end an operand
Ending : Ended → List Lexeme → Type 0
Ending by_number xs = (xs ≡ []) ⊎ Span_on xs
Ending by_name xs = (xs ≡ []) ⊎ Dotted_on xs
Ending by_other xs = xs ≡ []

Low_on : List Lexeme → Type 0
Low_on xs = (n : ℕ) × (d : List ℕ) × (ys : List Lexeme) × (xs ≡ num n d ∷ ys) × Span_on ys

Digits : List Lexeme → Type 0
Digits xs = (n : ℕ) × (d : List ℕ) × (xs ≡ num n d ∷ [])

Next_on : List Lexeme → Type 0
Next_on xs = (ys : List Lexeme) × (xs ≡ sign k.Open ∷ (ys ++ sign k.Close ∷ [])) × IsSpelled at_expr ys

Branches_on : List Lexeme → Type 0
Branches_on xs = (xs ≡ word (codes "esac") ∷ []) ⊎ EndsWith (word (codes "esac")) IsBranches xs

-- what a list that is accepted from a state is
Rest : State → List Lexeme → Type 0
Rest (wants s) ts = HasOperand (IsSpelled at_neg) (Closed s) ts
Rest (wants_not s) ts = HasOperand (IsSpelled at_not) (Closed s) ts
Rest (wants_low s) ts = HasOperand Low_on (Closed s) ts
Rest (wants_dots s) ts = HasOperand Span_on (Closed s) ts
Rest (wants_high s) ts = HasOperand IsInt (Closed s) ts
Rest (wants_digits s) ts = HasOperand Digits (Closed s) ts
Rest (wants_name s) ts = HasOperand IsDotted (Closed s) ts
Rest (wants_open s) ts = HasOperand Next_on (Closed s) ts
Rest (wants_branch s) ts = HasOperand Branches_on (Closed s) ts
Rest (had e s) ts = HasOperand (Ending e) (Closed s) ts
Rest stuck ts = ⊥

-- the operand is of another kind
seen_as : {One Other C : List Lexeme → Type 0} {ts : List Lexeme} → ((xs : List Lexeme) → One xs → Other xs) → HasOperand One C ts → HasOperand Other C ts
seen_as f h = record { first = h.first; after = h.after; whole = h.whole; one = f h.first h.one; tail = h.tail }

-- the operand begins with one lexeme more
longer : {One Other C : List Lexeme → Type 0} {ts : List Lexeme} (t : Lexeme) → ((xs : List Lexeme) → One xs → Other (t ∷ xs)) → HasOperand One C ts → HasOperand Other C (t ∷ ts)
longer t f h = record { first = t ∷ h.first; after = h.after; whole = ap (λ z. t ∷ z) h.whole; one = f h.first h.one; tail = h.tail }

-- an operand and its tail are an expression
as_expr : {C : List Lexeme → Type 0} {ts : List Lexeme} → HasOperand (IsSpelled at_neg) C ts → HasExpr C ts
unfolding IsTail
as_expr {C} {ts} h = record {
  expr = h.first ++ h.tail.tail;
  rest = h.tail.rest;
  whole = h.whole ∙ ap (λ z. h.first ++ z) h.tail.whole ∙ sym (append_assoc h.first h.tail.tail h.tail.rest);
  is_expr = h.tail.is_tail h.first h.one;
  closed = h.tail.closed;
}

-- an expression, and what closes it, as the operand of what is outside
past_expr : {One Other C : List Lexeme → Type 0} {ts : List Lexeme} → ((xs w : List Lexeme) → IsSpelled at_expr xs → One w → Other (xs ++ w)) →
    HasExpr (HasOperand One C) ts → HasOperand Other C ts
past_expr f h = record {
  first = h.expr ++ h.closed.first;
  after = h.closed.after;
  whole = h.whole ∙ ap (λ z. h.expr ++ z) h.closed.whole ∙ sym (append_assoc h.expr h.closed.first h.closed.after);
  one = f h.expr h.closed.first h.is_expr h.closed.one;
  tail = h.closed.tail;
}

-- no tail
no_tail : {C : List Lexeme → Type 0} {ts : List Lexeme} → C ts → HasTail C ts
unfolding IsTail
no_tail {C} {ts} c = record {
  tail = [];
  rest = ts;
  whole = refl;
  is_tail = λ us u. (u.0, subst (λ z. Spells at_expr z u.0) (sym (append-nil us)) (loosened at_neg at_expr at_neg (omega arith) (omega arith) u.1));
  closed = c;
}

-- the operand has ended
nothing_more : {One C : List Lexeme → Type 0} {ts : List Lexeme} → One [] → HasTail C ts → HasOperand One C ts
nothing_more {One} {C} {ts} o h = record { first = []; after = ts; whole = refl; one = o; tail = h }

spelled_at : {l : ℕ} {xs ys : List Lexeme} → xs ≡ ys → IsSpelled l ys → IsSpelled l xs
spelled_at {l} e p = subst (IsSpelled l) (sym e) p

an_atom : {xs ys : List Lexeme} {a : Tree Path} → SpellsAtom ys a → xs ≡ ys → IsSpelled at_not xs
an_atom {a = a} p e = spelled_at e (a, only_atom p)

-- the last branch of a list, and the branches after another
closed_condition : (xs w : List Lexeme) → IsSpelled at_expr xs → Inside frame.Condition w → EndsWith (word (codes "esac")) IsBranches (xs ++ w)
unfolding Inside
closed_condition xs w e i = i xs e

closed_members : (xs w : List Lexeme) → IsSpelled at_expr xs → Inside frame.Members w → EndsWith (sign k.CloseBrace) IsTrees (xs ++ w)
unfolding Inside
closed_members xs w e i = i xs e

closed_by : {xs w : List Lexeme} (t : Lexeme) → IsSpelled at_expr xs → w ≡ t ∷ [] → EndsWith t (IsSpelled at_expr) (xs ++ w)
unfolding EndsWith
closed_by {xs} {w} t e i = (xs, ap (λ z. xs ++ z) i, e)

-- a lexeme that begins an operand
begin_back : (s : List Frame) (c : Role) (t : Lexeme) (ts : List Lexeme) → Meant c t → Rest (begin s c) ts → HasOperand (IsSpelled at_not) (Closed s) (t ∷ ts)
unfolding Meant Rest Closed Inside EndsWith Ending Dotted_on Span_on Next_on IsInt IsDotted IsTrees IsBranches
begin_back s (role.Truth b) t ts m h = longer t (λ xs e. (truth b, only_atom (subst (λ z. SpellsAtom (t ∷ z) (truth b)) (sym e) m))) h
begin_back s role.Name t ts m h = longer t (λ xs e. go xs e) h
  where
    go : (xs : List Lexeme) → (xs ≡ []) ⊎ Dotted_on xs → IsSpelled at_not (t ∷ xs)
    go xs (inl e) = let name = m.1 in an_atom {ys = word m.0 ∷ []} (is_name (one_name m.2)) cc
    go xs (inr d) = let name = m.1 in let on = d.1 in an_atom {ys = word m.0 ∷ sign k.Dot ∷ d.0} (is_name (more_names m.2 d.2.1)) cc
begin_back s role.Number t ts m h = longer t (λ xs e. go xs e) h
  where
    go : (xs : List Lexeme) → (xs ≡ []) ⊎ Span_on xs → IsSpelled at_not (t ∷ xs)
    go xs (inl e) = let number = m.2 in an_atom {ys = num m.0 m.1 ∷ []} is_number cc
    go xs (inr d) = let number = m.2 in let on = d.1 in an_atom {ys = num m.0 m.1 ∷ sign k.Dots ∷ d.0} (is_span plain_int d.2.1) cc
begin_back s role.Next t ts m h = longer t (λ xs d. let on = d.1 in an_atom (is_next d.2.1) cc) h
begin_back s role.Case t ts m h =
    longer t (λ xs d. let on = d.1 in an_atom (is_case d.2.1) cc)
    (past_expr {One = Inside frame.Condition} {Other = EndsWith (word (codes "esac")) IsBranches} closed_condition (as_expr h))
begin_back s role.Bang t ts m h = longer t (λ xs p. subst (λ z. IsSpelled at_not (z ∷ xs)) (sym m) (_, inverts p.1)) h
begin_back s role.Opens t ts m h =
    longer t (λ xs d. let on = d.1 in an_atom (in_parentheses d.2.1) cc)
    (past_expr {One = Inside frame.Group} {Other = EndsWith (sign k.Close) (IsSpelled at_expr)} (λ xs w e i. closed_by (sign k.Close) e i) (as_expr h))
begin_back s role.OpensSet t ts m h =
    longer t (λ xs d. let on = d.1 in an_atom (is_set d.2.1) cc)
    (past_expr {One = Inside frame.Members} {Other = EndsWith (sign k.CloseBrace) IsTrees} closed_members (as_expr h))
begin_back s c t ts m h = absurd h

-- a lexeme that closes a frame
close_back : (s : List Frame) (c : Role) (t : Lexeme) (ts : List Lexeme) → Meant c t → Rest (close s c) ts → Closed s (t ∷ ts)
unfolding Meant Rest Closed Inside EndsWith Ending IsTrees IsBranches Branches_on
close_back (frame.Group ∷ s) role.Closes t ts m h = longer t (λ xs n. cc) h
close_back (frame.Moment ∷ s) role.Closes t ts m h = longer t (λ xs n. cc) h
close_back (frame.Members ∷ s) role.ClosesSet t ts m h = longer t (λ xs n zs e. (zs, ap (λ z. zs ++ z) (let both : t ∷ xs ≡ sign k.CloseBrace ∷ [] = cc in both), (_, one_tree e.1))) h
close_back (frame.Members ∷ s) role.Comma t ts m h =
    longer t (λ xs d zs e. (
      zs ++ sign k.Comma ∷ d.0,
      ap (λ z. zs ++ z) (let on = d.1 in let both : t ∷ xs ≡ sign k.Comma ∷ (d.0 ++ sign k.CloseBrace ∷ []) = cc in both) ∙ sym (append_assoc zs (sign k.Comma ∷ d.0) (sign k.CloseBrace ∷ [])),
      (_, more_trees e.1 d.2.1),
    ))
    (past_expr {One = Inside frame.Members} {Other = EndsWith (sign k.CloseBrace) IsTrees} closed_members (as_expr h))
close_back (frame.FirstChoice ∷ s) role.Colon t ts m h = longer t (λ xs p. (xs, ap (λ z. z ∷ xs) m, p)) h
close_back (frame.Condition ∷ s) role.Colon t ts m h =
    longer t (λ xs d zs e. subst (λ z. EndsWith (word (codes "esac")) IsBranches (zs ++ z ∷ xs)) (sym m) (d zs e))
    (past_expr {One = Inside frame.Outcome} {Other = λ xs. (zs : List Lexeme) → IsSpelled at_expr zs → EndsWith (word (codes "esac")) IsBranches (zs ++ sign k.Colon ∷ xs)}
    (λ xs w e i zs c. i zs xs c e) (as_expr h))
close_back (frame.Outcome ∷ s) role.Semicolon t ts m h = longer t (λ xs d zs us c a. go xs d zs us c a) h
  where
    go : (xs : List Lexeme) → Branches_on xs → (zs us : List Lexeme) → IsSpelled at_expr zs → IsSpelled at_expr us → EndsWith (word (codes "esac")) IsBranches (zs ++ sign k.Colon ∷ (us ++ t ∷ xs))
    go xs (inl e) zs us c a = (
      zs ++ sign k.Colon ∷ (us ++ sign k.Semicolon ∷ []),
      ap (λ z. zs ++ sign k.Colon ∷ (us ++ z)) (let both : t ∷ xs ≡ sign k.Semicolon ∷ word (codes "esac") ∷ [] = cc in both) ∙ sym (ending zs us []),
      (_, one_branch c.1 a.1),
    )
    go xs (inr d) zs us c a = (
      zs ++ sign k.Colon ∷ (us ++ sign k.Semicolon ∷ d.0),
      ap (λ z. zs ++ sign k.Colon ∷ (us ++ z)) (let on = d.1 in let both : t ∷ xs ≡ sign k.Semicolon ∷ (d.0 ++ word (codes "esac") ∷ []) = cc in both) ∙ sym (ending zs us d.0),
      (_, more_branches c.1 a.1 d.2.1),
    )
close_back s c t ts m h = absurd h

-- an operator, a `?`, or what closes a frame, after an operand
follow_back : (s : List Frame) (c : Role) (t : Lexeme) (ts : List Lexeme) → Meant c t → Rest (follow s c) ts → HasTail (Closed s) (t ∷ ts)
unfolding Meant Rest Closed Inside IsTail
follow_back s (role.Joins o) t ts m h = let e = as_expr h in record {
  tail = t ∷ e.expr;
  rest = e.rest;
  whole = ap (λ z. t ∷ z) e.whole;
  is_tail = λ us u. subst (λ z. IsSpelled at_expr (us ++ z ∷ e.expr)) (sym m) (prepended o u e.is_expr);
  closed = e.closed;
}
follow_back s role.Minus t ts m h = let e = as_expr h in record {
  tail = t ∷ e.expr;
  rest = e.rest;
  whole = ap (λ z. t ∷ z) e.whole;
  is_tail = λ us u. subst (λ z. IsSpelled at_expr (us ++ z ∷ e.expr)) (sym m) (prepended op.Minus u e.is_expr);
  closed = e.closed;
}
follow_back s role.Asks t ts m h = let e = as_expr h in
    let on = e.closed.one.1 in
    let whole : t ∷ ts ≡ (t ∷ (e.expr ++ sign k.Colon ∷ (e.closed.one.0 ++ e.closed.tail.tail))) ++ e.closed.tail.rest =
    ap (λ z. t ∷ z) (e.whole ∙ ap (λ z. e.expr ++ z) (e.closed.whole ∙ ap (λ z. z ++ e.closed.after) on ∙
    ap (λ z. sign k.Colon ∷ (e.closed.one.0 ++ z)) e.closed.tail.whole ∙ ap (λ z. sign k.Colon ∷ z) (sym (append_assoc e.closed.one.0 e.closed.tail.tail e.closed.tail.rest))) ∙
    sym (append_assoc e.expr (sign k.Colon ∷ (e.closed.one.0 ++ e.closed.tail.tail)) e.closed.tail.rest)) in
    record {
      tail = t ∷ (e.expr ++ sign k.Colon ∷ (e.closed.one.0 ++ e.closed.tail.tail));
      rest = e.closed.tail.rest;
      whole = whole;
      is_tail = λ us u. subst (λ z. IsSpelled at_expr (us ++ z ∷ (e.expr ++ sign k.Colon ∷ (e.closed.one.0 ++ e.closed.tail.tail)))) (sym m)
          (chosen u e.is_expr (e.closed.tail.is_tail e.closed.one.0 e.closed.one.2));
      closed = e.closed.tail.closed;
    }
follow_back s c t ts m h = no_tail (close_back s c t ts m h)

had_back : (e : Ended) (s : List Frame) (c : Role) (t : Lexeme) (ts : List Lexeme) → Meant c t → Rest (step (had e s) c) ts → HasOperand (Ending e) (Closed s) (t ∷ ts)
unfolding Meant Rest Closed Ending Span_on Dotted_on
had_back by_number s role.Dots t ts m h = longer t (λ xs i. inr (xs, ap (λ z. z ∷ xs) m, i)) h
had_back by_name s role.Dot t ts m h = longer t (λ xs p. inr (xs, ap (λ z. z ∷ xs) m, p)) h
had_back by_number s c t ts m h = nothing_more (inl refl) (follow_back s c t ts m h)
had_back by_name s c t ts m h = nothing_more (inl refl) (follow_back s c t ts m h)
had_back by_other s c t ts m h = nothing_more refl (follow_back s c t ts m h)

-- an operand in the place of a branch
branch_back : (s : List Frame) (ts : List Lexeme) → HasOperand (IsSpelled at_neg) (Closed (frame.Condition ∷ s)) ts → HasOperand Branches_on (Closed s) ts
unfolding Closed Branches_on
branch_back s ts h = past_expr {One = Inside frame.Condition} {Other = Branches_on} (λ xs w e i. inr (closed_condition xs w e i)) (as_expr h)

wants_back : (s : List Frame) (c : Role) (t : Lexeme) (ts : List Lexeme) → Meant c t → Rest (step (wants s) c) ts → HasOperand (IsSpelled at_neg) (Closed s) (t ∷ ts)
unfolding Meant Rest
wants_back s role.Minus t ts m h = longer t (λ xs u. subst (λ z. IsSpelled at_neg (z ∷ xs)) (sym m) (minus_before u)) h
wants_back s c t ts m h = seen_as (λ xs p. (p.0, only_not p.1)) (begin_back s c t ts m h)

-- one lexeme, from the state after it to the state before it
back : (st : State) (c : Role) (t : Lexeme) (ts : List Lexeme) → Meant c t → Rest (step st c) ts → Rest st (t ∷ ts)
unfolding Meant Rest Ending Span_on Dotted_on Low_on Digits Next_on Branches_on IsInt IsDotted EndsWith Closed Inside
back (wants s) c t ts m h = wants_back s c t ts m h
back (wants_not s) role.Minus t ts m h = longer t (λ xs low. let on = low.3 in let dots = low.4.1 in an_atom {ys = sign k.Minus ∷ num low.0 low.1 ∷ sign k.Dots ∷ low.4.0} (is_span minus_int low.4.2.1) cc) h
back (wants_not s) c t ts m h = begin_back s c t ts m h
back (wants_low s) role.Number t ts m h = longer t (λ xs on. (m.0, m.1, xs, ap (λ z. z ∷ xs) m.2, on)) h
back (wants_dots s) role.Dots t ts m h = longer t (λ xs i. (xs, ap (λ z. z ∷ xs) m, i)) h
back (wants_high s) role.Minus t ts m h = longer t (λ xs d. (minus d.0, subst (λ z. SpellsInt z (minus d.0)) (let on = d.2 in let both : sign k.Minus ∷ num d.0 d.1 ∷ [] ≡ t ∷ xs = cc in both) (minus_int {n = d.0} {d = d.1}))) h
back (wants_high s) role.Number t ts m h = longer t (λ xs n. (pos m.0, subst (λ z. SpellsInt z (pos m.0)) (let on = m.2 in let both : num m.0 m.1 ∷ [] ≡ t ∷ xs = cc in both) (plain_int {n = m.0} {d = m.1}))) h
back (wants_digits s) role.Number t ts m h = longer t (λ xs n. (m.0, m.1, (let on = m.2 in cc))) h
back (wants_name s) role.Name t ts m h = longer t (λ xs d. go xs d) h
  where
    go : (xs : List Lexeme) → (xs ≡ []) ⊎ Dotted_on xs → IsDotted (t ∷ xs)
    go xs (inl n) = (m.0 ∷ [], subst (λ z. SpellsDotted z (m.0 ∷ [])) (let on = m.1 in let both : word m.0 ∷ [] ≡ t ∷ xs = cc in both) (one_name m.2))
    go xs (inr d) = (m.0 ∷ d.2.0, subst (λ z. SpellsDotted z (m.0 ∷ d.2.0)) (let on = m.1 in let dot = d.1 in let both : word m.0 ∷ sign k.Dot ∷ d.0 ≡ t ∷ xs = cc in both) (more_names m.2 d.2.1))
back (wants_open s) role.Opens t ts m h =
    longer t (λ xs d. (d.0, (let on = d.1 in cc), d.2))
    (past_expr {One = Inside frame.Moment} {Other = EndsWith (sign k.Close) (IsSpelled at_expr)} (λ xs w e i. closed_by (sign k.Close) e i) (as_expr h))
back (wants_branch s) role.Esac t ts m h = longer t (λ xs n. inl cc) h
back (wants_branch s) role.Minus t ts m h = branch_back s (t ∷ ts) (wants_back (frame.Condition ∷ s) role.Minus t ts m h)
back (wants_branch s) c t ts m h = branch_back s (t ∷ ts) (seen_as (λ xs p. (p.0, only_not p.1)) (begin_back (frame.Condition ∷ s) c t ts m h))
back (had e s) c t ts m h = had_back e s c t ts m h
back st c t ts m h = absurd h

at_end : (st : State) → is_whole st ≡ true → Rest st []
unfolding Rest Closed Ending
at_end (had by_number []) e = nothing_more (inl refl) (no_tail refl)
at_end (had by_name []) e = nothing_more (inl refl) (no_tail refl)
at_end (had by_other []) e = nothing_more refl (no_tail refl)
at_end st e = cc

rest : (st : State) (ts : List Lexeme) → is_whole (run st ts) ≡ true → Rest st ts
rest st [] e = at_end st e
rest st (t ∷ ts) e = back st (role_of t) t ts (meant t) (rest (step st (role_of t)) ts e)

-- what is accepted spells an expression
pub accepted_spelled : (ts : List Lexeme) → is_whole (run start ts) ≡ true → (t : Tree Path) × Spells at_expr ts t
unfolding Rest Closed
accepted_spelled ts e =
    let made = as_expr (rest start ts e) in
    spelled_at (made.whole ∙ ap (λ z. made.expr ++ z) made.closed ∙ append-nil made.expr) made.is_expr

pub meant_semicolon : (t : Lexeme) → role_of t ≡ role.Semicolon → t ≡ sign k.Semicolon
unfolding Meant
meant_semicolon t e = subst (λ c. Meant c t) e (meant t)
