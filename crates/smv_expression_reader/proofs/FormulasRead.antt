-- The laws of the grammar of a list of expressions.
use Rattle.std.proofs.Common.{◌≡◌, inl, inr, Bool, true, false, List, [], ◌∷◌, ◌++◌, Some, None, refl, sym, ◌∙◌, ap, subst, append-nil}
use Rattle.std.specs.Prelude.{◌||◌}
use Rattle.smv_lexer.specs.declared.token.TokenKind.TheVariants as k
use Rattle.smv_language.specs.Language.{Formula, Lexeme, num, sign, SpellsExpressions, last_expression, more_expressions, open_ended, ended}
use Rattle.smv_expression_reader.specs.Recogniser.{role_of, by_number, by_name, by_other, State, had, stuck, is_whole, start}
use Rattle.smv_expression_reader.specs.Recogniser as machine
use Rattle.smv_expression_reader.specs.PredictiveReader.{Means, run, Fits, IsPredictable}
use Rattle.smv_expression_reader.specs.Formulas.{Sym, formula, more, again, expressions, is_semicolon, live, IsAgain, IsMore, spelled, empty, after_semicolon, next, follow, shortest, formulas}
use Rattle.smv_expression_reader.proofs.Accepted.{run_stuck, spelled_accepted}
use Rattle.smv_expression_reader.proofs.Rest.{accepted_spelled, meant_semicolon}
use Rattle.smv_expression_reader.proofs.Exact.{completes}
use Rattle.smv_expression_reader.specs.declared.machine.TokenRole.{TokenRole as Role}
use Rattle.smv_expression_reader.specs.declared.machine.TokenRole.TheVariants as role

-- a list of expressions is one, and then what follows
pub record Split (ts : List Lexeme) : Type 0 where
  pub expr : List Lexeme
  pub rest : List Lexeme
  pub whole : ts ≡ expr ++ rest
  pub is_expr : is_whole (machine.run start expr) ≡ true
  pub is_more : IsMore rest

pub split : (ts : List Lexeme) (es : List Formula) → SpellsExpressions ts es → Split ts
split ts es (last_expression (open_ended p)) = record { expr = ts; rest = []; whole = sym (append-nil ts); is_expr = spelled_accepted p; is_more = inl refl }
split ts es (last_expression (ended {ts = xs} p)) =
    record { expr = xs; rest = sign k.Semicolon ∷ []; whole = refl; is_expr = spelled_accepted p; is_more = inr ([], refl, inl refl) }
split ts es (more_expressions {ts = xs} {us = us} {more = fs} p m) =
    record { expr = xs; rest = sign k.Semicolon ∷ us; whole = refl; is_expr = spelled_accepted p; is_more = inr (us, refl, inr (fs, m)) }

whole_list : (xs ys : List Lexeme) → is_whole (machine.run start xs) ≡ true → IsMore ys → (es : List Formula) × SpellsExpressions (xs ++ ys) es
whole_list xs ys e (inl n) =
    let made = accepted_spelled xs e in
    (made.0 ∷ [], subst (λ z. SpellsExpressions z (made.0 ∷ [])) (sym (ap (λ z. xs ++ z) n ∙ append-nil xs)) (last_expression (open_ended made.1)))
whole_list xs ys e (inr m) = go m.0 m.1 m.2
  where
    go : (us : List Lexeme) → ys ≡ sign k.Semicolon ∷ us → IsAgain us → (es : List Formula) × SpellsExpressions (xs ++ ys) es
    go us f (inl n) =
        let made = accepted_spelled xs e in
        let same : sign k.Semicolon ∷ [] ≡ ys = cc in
        (made.0 ∷ [], subst (λ z. SpellsExpressions (xs ++ z) (made.0 ∷ [])) same (last_expression (ended made.1)))
    go us f (inr a) =
        let made = accepted_spelled xs e in
        (made.0 ∷ a.0, subst (λ z. SpellsExpressions (xs ++ z) (made.0 ∷ a.0)) (sym f) (more_expressions made.1 a.1))

-- a state that goes on, and then a list of symbols
live_sound : (st : State) (rest s : List Sym) (ts : List Lexeme) → live st rest ≡ Some s → Means Sym formulas s ts →
    (xs : List Lexeme) × (ys : List Lexeme) × (ts ≡ xs ++ ys) × (is_whole (machine.run st xs) ≡ true) × Means Sym formulas rest ys
live_sound stuck rest s ts e m = cc
live_sound st rest s ts e m = let same : s ≡ formula st refl ∷ rest = cc in subst (λ z. Means Sym formulas z ts) same m

live_complete : (st : State) (rest : List Sym) (xs ys : List Lexeme) → is_whole (machine.run st xs) ≡ true → Means Sym formulas rest ys →
    (s : List Sym) × (live st rest ≡ Some s) × Means Sym formulas s (xs ++ ys)
live_complete stuck rest xs ys e m = let clash : false ≡ true = ap is_whole (sym (run_stuck xs)) ∙ e in cc
live_complete st rest xs ys e m = (formula st refl ∷ rest, refl, (xs, ys, refl, e, m))

only_more : (ts : List Lexeme) → Means Sym formulas (more ∷ []) ts → IsMore ts
only_more ts m = subst IsMore (sym (m.2 ∙ ap (λ z. m.0 ++ z) m.4 ∙ append-nil m.0)) m.3

as_more : (ts : List Lexeme) → IsMore ts → Means Sym formulas (more ∷ []) ts
as_more ts m = (ts, [], sym (append-nil ts), m, refl)

list_sound : (t : Lexeme) (s : List Sym) → live (machine.step start (role_of t)) (more ∷ []) ≡ Some s → (ts : List Lexeme) → Means Sym formulas s ts →
    (es : List Formula) × SpellsExpressions (t ∷ ts) es
list_sound t s e ts m =
    let parts = live_sound (machine.step start (role_of t)) (more ∷ []) s ts e m in
    let made = whole_list (t ∷ parts.0) parts.1 parts.3 (only_more parts.1 parts.4) in
    (made.0, subst (λ z. SpellsExpressions z made.0) (sym (ap (λ z. t ∷ z) parts.2)) made.1)

list_complete : (t : Lexeme) (ts : List Lexeme) (es : List Formula) → SpellsExpressions (t ∷ ts) es →
    (s : List Sym) × (live (machine.step start (role_of t)) (more ∷ []) ≡ Some s) × Means Sym formulas s ts
list_complete t ts es p = let parts = split (t ∷ ts) es p in go parts.expr parts.rest parts.whole parts.is_expr parts.is_more
  where
    go : (xs ys : List Lexeme) → t ∷ ts ≡ xs ++ ys → is_whole (machine.run start xs) ≡ true → IsMore ys →
        (s : List Sym) × (live (machine.step start (role_of t)) (more ∷ []) ≡ Some s) × Means Sym formulas s ts
    go [] ys e w m = cc
    go (t' ∷ xs) ys e w m =
        let same : t' ≡ t = cc in
        let rest : xs ++ ys ≡ ts = cc in
        let made = live_complete (machine.step start (role_of t)) (more ∷ []) xs ys (subst (λ z. is_whole (machine.run start (z ∷ xs)) ≡ true) same w) (as_more ys m) in
        (made.0, made.1, subst (Means Sym formulas made.0) rest made.2)

list_not_empty : (es : List Formula) → SpellsExpressions [] es → ⊥
list_not_empty es p = let parts = split [] es p in go parts.expr parts.rest parts.whole parts.is_expr
  where
    go : (xs ys : List Lexeme) → [] ≡ xs ++ ys → is_whole (machine.run start xs) ≡ true → ⊥
    go [] ys e w = cc
    go (t ∷ xs) ys e w = cc

pub semicolon_role : (t : Lexeme) → is_semicolon (role_of t) ≡ true → role_of t ≡ role.Semicolon
semicolon_role t h = go (role_of t) h
  where
    go : (c : Role) → is_semicolon c ≡ true → c ≡ role.Semicolon
    go role.Semicolon h = refl
    go c h = cc

more_sound : (c : Role) (t : Lexeme) → (role_of t ≡ c) → (s : List Sym) → after_semicolon c ≡ Some s → (ts : List Lexeme) → Means Sym formulas s ts → IsMore (t ∷ ts)
more_sound role.Semicolon t r s e ts m =
    let same : s ≡ again ∷ [] = cc in
    let n : Means Sym formulas (again ∷ []) ts = subst (λ z. Means Sym formulas z ts) same m in
    inr (ts, ap (λ z. z ∷ ts) (meant_semicolon t r), subst IsAgain (sym (n.2 ∙ ap (λ z. n.0 ++ z) n.4 ∙ append-nil n.0)) n.3)
more_sound c t r s e ts m = cc

pub whole_stops : (st : State) → is_whole st ≡ true → machine.step st role.Semicolon ≡ stuck
whole_stops (had by_number []) h = refl
whole_stops (had by_name []) h = refl
whole_stops (had by_other []) h = refl
whole_stops st h = cc

live_inner : (st : State) (s : List Sym) → live st [] ≡ Some s → (f : Lexeme → Bool) → ((t : Lexeme) → f t ≡ true → is_semicolon (role_of t) ≡ true) → Fits Sym formulas s f
live_inner stuck s e f h = cc
live_inner st s e f h = let same : s ≡ formula st refl ∷ [] = cc in subst (λ z. Fits Sym formulas z f) (sym same) (λ t g. h t g, tt)

live_inner_more : (st : State) (s : List Sym) → live st (more ∷ []) ≡ Some s → Fits Sym formulas s (λ t. false)
live_inner_more stuck s e = cc
live_inner_more st s e = let same : s ≡ formula st refl ∷ more ∷ [] = cc in subst (λ z. Fits Sym formulas z (λ t. false)) (sym same) (λ t g. go (role_of t) g, (λ t g. g, tt))
  where
    go : (c : Role) → ((Rattle.smv_expression_reader.specs.PredictiveReader.is_some Sym formulas (after_semicolon c) || false) || false) ≡ true → is_semicolon c ≡ true
    go role.Semicolon g = refl
    go c g = cc

pub formulas_predictable : IsPredictable Sym formulas
formulas_predictable = record {
  empty_spelled = empties;
  spelled_empty = emptied;
  sound = sounds;
  complete = completed;
  apart = parted;
  inner = inners;
  completes = completing;
}
  where
    empties : (x : Sym) → empty x ≡ true → spelled x []
    empties (formula st h) e = e
    empties more e = inl refl
    empties again e = inl refl
    empties expressions e = cc

    emptied : (x : Sym) → spelled x [] → empty x ≡ true
    emptied (formula st h) e = e
    emptied more e = refl
    emptied again e = refl
    emptied expressions p = absurd (list_not_empty p.0 p.1)

    sounds : (x : Sym) (t : Lexeme) (s : List Sym) → next x t ≡ Some s → (ts : List Lexeme) → Means Sym formulas s ts → spelled x (t ∷ ts)
    sounds (formula st h) t s e ts m =
        let parts = live_sound (machine.step st (role_of t)) [] s ts e m in
        subst (λ z. is_whole (machine.run (machine.step st (role_of t)) z) ≡ true) (sym (parts.2 ∙ ap (λ z. parts.0 ++ z) parts.4 ∙ append-nil parts.0)) parts.3
    sounds more t s e ts m = more_sound (role_of t) t refl s e ts m
    sounds again t s e ts m = inr (list_sound t s e ts m)
    sounds expressions t s e ts m = list_sound t s e ts m

    completed : (x : Sym) (t : Lexeme) (ts : List Lexeme) → spelled x (t ∷ ts) → (s : List Sym) × (next x t ≡ Some s) × Means Sym formulas s ts
    completed (formula st h) t ts w =
        let made = live_complete (machine.step st (role_of t)) [] ts [] w refl in
        (made.0, made.1, subst (Means Sym formulas made.0) (append-nil ts) made.2)
    completed more t ts (inl n) = cc
    completed more t ts (inr m) =
        let same : t ≡ sign k.Semicolon = (let e = m.1 in cc) in
        let rest : m.0 ≡ ts = (let e = m.1 in cc) in
        (again ∷ [], ap (λ z. after_semicolon (role_of z)) same, (ts, [], sym (append-nil ts), subst IsAgain rest m.2, refl))
    completed again t ts (inl n) = cc
    completed again t ts (inr p) = list_complete t ts p.0 p.1
    completed expressions t ts p = list_complete t ts p.0 p.1

    parted : (x : Sym) (t : Lexeme) → empty x ≡ true → follow x t ≡ true → next x t ≡ None
    parted (formula st h) t e f = ap (λ z. live (machine.step st z) []) (semicolon_role t f) ∙ ap (λ z. live z []) (whole_stops st e)
    parted x t e f = cc

    inners : (x : Sym) (t : Lexeme) (s : List Sym) → next x t ≡ Some s → Fits Sym formulas s (follow x)
    inners (formula st h) t s e = live_inner (machine.step st (role_of t)) s e (λ u. is_semicolon (role_of u)) (λ u g. g)
    inners more t s e = go (role_of t) e
      where
        go : (c : Role) → after_semicolon c ≡ Some s → Fits Sym formulas s (λ u. false)
        go role.Semicolon e = let same : s ≡ again ∷ [] = cc in subst (λ z. Fits Sym formulas z (λ u. false)) (sym same) (λ u g. g, tt)
        go c e = cc
    inners again t s e = live_inner_more (machine.step start (role_of t)) s e
    inners expressions t s e = live_inner_more (machine.step start (role_of t)) s e

    completing : (x : Sym) → spelled x (shortest x)
    completing (formula st h) = completes st h
    completing more = inl refl
    completing again = inl refl
    completing expressions = whole_list (num 0 [] ∷ []) [] refl (inl refl)
