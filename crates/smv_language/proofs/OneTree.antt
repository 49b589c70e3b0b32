-- No tokens spell two expressions.
use Rattle.std.proofs.Common.{◌≡◌, ◌≢◌, ℕ, ◌<◌, ℤ, Bool, true, false, List, [], ◌∷◌, ◌++◌, refl, sym, ◌∙◌, ap, subst, arith, append_assoc}
use Rattle.std.specs.Prelude.{pos, codes, if◌then◌else◌}
use Rattle.smv_lexer.specs.declared.token.TokenKind.TheVariants as k
use Rattle.smv_language.specs.Tree.{Tree, Trees, Branches, binary}
use Rattle.smv_language.specs.ProgramTree.{Path}
use Rattle.smv_language.specs.Lexemes.{Lexeme, word, num, sign, is_reserved}
use Rattle.smv_language.specs.Texts.{same_text}
use Rattle.smv_language.specs.Spells.{at_expr, at_iff, at_choice, at_or, at_neg, at_not, operator, minus, SpellsInt, plain_int, minus_int, SpellsDotted, one_name, more_names, begins_span, Spells, only_iff, implies, repeated, only_or, chooses, only_not, negates, only_atom, inverts, SpellsMore, no_operator, one_operator, SpellsAtom, is_true, is_false, is_number, is_span, is_name, in_parentheses, is_next, is_set, is_case, SpellsTrees, one_tree, more_trees, SpellsBranches, one_branch, more_branches}
pub use Rattle.smv_language.proofs.ValueLaws.{same_text_equal}
use Rattle.smv_language.proofs.Ends.{same_operator, Stops, stops_tighter, ends_question, ends_arrow, closes, head_ends, end_of_bracket, end_of_brace, end_of_comma, end_of_colon, end_of_semicolon, stops_more}
use Rattle.std.proofs.lemmas.Bool.{false≢true}

-- a word that is not reserved is none of the reserved ones
pub not_reserved : (x w : List ℕ) → is_reserved w ≡ true → is_reserved x ≡ false → x ≡ w → ⊥
not_reserved x w h n e = let both : true ≡ false = sym h ∙ ap is_reserved (sym e) ∙ n in cc

-- how an atom begins: a number for each form of atom
abbrev begins_with : List Lexeme → ℕ
begins_with [] = 0
begins_with (word x ∷ ts) =
    if same_text x (codes "TRUE") then 1 else (if same_text x (codes "FALSE") then 2 else (if same_text x (codes "next") then 3 else
    (if same_text x (codes "case") then 4 else 5)))
begins_with (num n d ∷ sign k.Dots ∷ ts) = 6
begins_with (num n d ∷ ts) = 7
begins_with (sign k.Minus ∷ ts) = 6
begins_with (sign k.Open ∷ ts) = 8
begins_with (sign k.OpenBrace ∷ ts) = 9
begins_with (sign s ∷ ts) = 0

pub is_none_of : (x : List ℕ) (w : List ℕ) → is_reserved w ≡ true → is_reserved x ≡ false → same_text x w ≡ false
is_none_of x w h n = go (same_text x w) refl
  where
    go : (b : Bool) → same_text x w ≡ b → b ≡ false
    go true e = absurd (not_reserved x w h n (same_text_equal x w e))
    go false e = refl

name_begins : (x : List ℕ) (ts : List Lexeme) → is_reserved x ≡ false → begins_with (word x ∷ ts) ≡ 5
name_begins x ts n =
    rw (is_none_of x (codes "TRUE") refl n, is_none_of x (codes "FALSE") refl n, is_none_of x (codes "next") refl n, is_none_of x (codes "case") refl n) refl

abbrev form_of : {xs : List Lexeme} {a : Tree Path} → SpellsAtom xs a → ℕ
form_of is_true = 1
form_of is_false = 2
form_of (is_next p) = 3
form_of (is_case p) = 4
form_of (is_name p) = 5
form_of (is_span p q) = 6
form_of is_number = 7
form_of (in_parentheses p) = 8
form_of (is_set p) = 9

number_begins : (n : ℕ) (d : List ℕ) (r : List Lexeme) → Stops at_not r → begins_with (num n d ∷ r) ≡ 7
unfolding Stops
number_begins n d [] u = refl
number_begins n d (word x ∷ r) u = refl
number_begins n d (num m e ∷ r) u = refl
number_begins n d (sign k.Dots ∷ r) u = absurd (u.no_dots refl)
number_begins n d (sign s ∷ r) u = refl

span_begins : {xs : List Lexeme} {lo : ℤ} (r : List Lexeme) → SpellsInt xs lo → begins_with (xs ++ sign k.Dots ∷ r) ≡ 6
span_begins r plain_int = refl
span_begins r minus_int = refl

dotted_begins : {xs : List Lexeme} {p : Path} (r : List Lexeme) → SpellsDotted xs p → begins_with (xs ++ r) ≡ 5
dotted_begins r (one_name {x = x} n) = name_begins x r n
dotted_begins r (more_names {x = x} {ts = ts} n p) = name_begins x (sign k.Dot ∷ (ts ++ r)) n

atom_begins : {xs : List Lexeme} {a : Tree Path} (r : List Lexeme) (p : SpellsAtom xs a) → Stops at_not r → begins_with (xs ++ r) ≡ form_of p
atom_begins r is_true u = refl
atom_begins r is_false u = refl
atom_begins r (is_next p) u = refl
atom_begins r (is_case p) u = refl
atom_begins r (is_name p) u = dotted_begins r p
atom_begins r (is_span {xs = xs} {ys = ys} p q) u = rw append_assoc (span_begins (ys ++ r) p)
atom_begins r (is_number {n = n} {d = d}) u = number_begins n d r u
atom_begins r (in_parentheses p) u = refl
atom_begins r (is_set p) u = refl

-- two spellings at the front of one list are the same
abbrev pub Same : {A : Type 0} → List Lexeme → List Lexeme → A → A → List Lexeme → List Lexeme → Type 0
Same xs ys a b r s = (xs ≡ ys) × (a ≡ b) × (r ≡ s)

pub one_int : {xs ys : List Lexeme} {a b : ℤ} (r s : List Lexeme) → SpellsInt xs a → SpellsInt ys b → xs ++ r ≡ ys ++ s → Same xs ys a b r s
one_int r s (plain_int {n = n} {d = d}) (plain_int {n = m} {d = f}) e =
    let a : n ≡ m = cc in let b : d ≡ f = cc in let c : r ≡ s = cc in (rw (a, b) refl, ap pos a, c)
one_int r s plain_int minus_int e = cc
one_int r s minus_int plain_int e = cc
one_int r s (minus_int {n = n} {d = d}) (minus_int {n = m} {d = f}) e =
    let a : n ≡ m = cc in let b : d ≡ f = cc in let c : r ≡ s = cc in (rw (a, b) refl, ap minus a, c)

pub one_dotted : {xs ys : List Lexeme} {p q : Path} (r s : List Lexeme) → SpellsDotted xs p → SpellsDotted ys q → xs ++ r ≡ ys ++ s → Stops at_not r → Stops at_not s →
    Same xs ys p q r s
unfolding Stops
one_dotted r s (one_name {x = x} n) (one_name {x = y} m) e u v =
    let a : x ≡ y = cc in let b : r ≡ s = cc in (rw a refl, rw a refl, b)
one_dotted r s (one_name n) (more_names {ts = ts} m q) e u v =
    let b : r ≡ sign k.Dot ∷ (ts ++ s) = cc in let ended : Stops at_not (sign k.Dot ∷ (ts ++ s)) = subst (Stops at_not) b u in absurd (ended.no_dot refl)
one_dotted r s (more_names {ts = ts} n p) (one_name m) e u v =
    let b : sign k.Dot ∷ (ts ++ r) ≡ s = cc in let ended : Stops at_not (sign k.Dot ∷ (ts ++ r)) = subst (Stops at_not) (sym b) v in absurd (ended.no_dot refl)
one_dotted r s (more_names {x = x} {ts = xs} {p = p'} n p) (more_names {x = y} {ts = ys} {p = q'} m q) e u v =
    let a : x ≡ y = cc in
    let tails : xs ++ r ≡ ys ++ s = cc in
    let inner : Same xs ys p' q' r s = one_dotted r s p q tails u v in
    (rw (a, inner.0) refl, rw (a, inner.1) refl, inner.2)

-- what an expression begins with: a property of lists that holds of those that an atom, a `!` or a `-` begins
module _ (P : List Lexeme → Type 0)
    (at_atom : (xs : List Lexeme) (a : Tree Path) (r : List Lexeme) → SpellsAtom xs a → P (xs ++ r))
    (at_bang : (r : List Lexeme) → P (sign k.Bang ∷ r)) (at_minus : (r : List Lexeme) → P (sign k.Minus ∷ r)) where
  pub begins : {l : ℕ} {xs : List Lexeme} {a : Tree Path} (r : List Lexeme) → Spells l xs a → P (xs ++ r)
  begins r (only_iff p) = begins r p
  begins r (implies {xs = xs} {ys = ys} p q) = subst P (sym (append_assoc xs (sign k.Implies ∷ ys) r)) (begins _ p)
  begins r (repeated {xs = xs} {ys = ys} h p m) = subst P (sym (append_assoc xs ys r)) (begins _ p)
  begins r (only_or p) = begins r p
  begins r (chooses {zs = zs} {xs = xs} {ys = ys} p q t) = subst P (sym (append_assoc zs (sign k.Question ∷ (xs ++ sign k.Colon ∷ ys)) r)) (begins _ p)
  begins r (only_not p) = begins r p
  begins r (negates n p) = at_minus _
  begins r (only_atom p) = at_atom _ _ r p
  begins r (inverts p) = at_bang _

-- an expression does not begin with `esac`, and has a token
abbrev is_esac : Lexeme → Bool
is_esac (word x) = same_text x (codes "esac")
is_esac (num n d) = false
is_esac (sign s) = false

abbrev NotEsac : List Lexeme → Type 0
NotEsac [] = Unit {0}
NotEsac (t ∷ ts) = is_esac t ≡ false

abbrev pub IsSome : List Lexeme → Type 0
IsSome ts = ts ≢ []

int_not_esac : {xs : List Lexeme} {n : ℤ} (r : List Lexeme) → SpellsInt xs n → NotEsac (xs ++ r)
int_not_esac r plain_int = refl
int_not_esac r minus_int = refl

dotted_not_esac : {xs : List Lexeme} {p : Path} (r : List Lexeme) → SpellsDotted xs p → NotEsac (xs ++ r)
dotted_not_esac r (one_name {x = x} n) = is_none_of x (codes "esac") refl n
dotted_not_esac r (more_names {x = x} n p) = is_none_of x (codes "esac") refl n

atom_not_esac : (xs : List Lexeme) (a : Tree Path) (r : List Lexeme) → SpellsAtom xs a → NotEsac (xs ++ r)
atom_not_esac xs a r is_true = refl
atom_not_esac xs a r is_false = refl
atom_not_esac xs a r (is_next p) = refl
atom_not_esac xs a r (is_case p) = refl
atom_not_esac xs a r (is_name p) = dotted_not_esac r p
atom_not_esac xs a r (is_span {xs = us} {ys = ys} p q) = subst NotEsac (sym (append_assoc us (sign k.Dots ∷ ys) r)) (int_not_esac (sign k.Dots ∷ (ys ++ r)) p)
atom_not_esac xs a r is_number = refl
atom_not_esac xs a r (in_parentheses p) = refl
atom_not_esac xs a r (is_set p) = refl

not_esac : {l : ℕ} {xs : List Lexeme} {a : Tree Path} (r : List Lexeme) → Spells l xs a → NotEsac (xs ++ r)
not_esac r p = begins NotEsac atom_not_esac (λ r. refl) (λ r. refl) r p

branches_not_esac : {xs : List Lexeme} {bs : Branches Path} (r : List Lexeme) → SpellsBranches xs bs → NotEsac (xs ++ r)
branches_not_esac r (one_branch {zs = zs} {xs = xs} p q) = subst NotEsac (sym (append_assoc zs (sign k.Colon ∷ (xs ++ sign k.Semicolon ∷ [])) r)) (not_esac _ p)
branches_not_esac r (more_branches {zs = zs} {xs = xs} {ys = ys} p q m) = subst NotEsac (sym (append_assoc zs (sign k.Colon ∷ (xs ++ sign k.Semicolon ∷ ys)) r)) (not_esac _ p)

no_esac : {xs : List Lexeme} {bs : Branches Path} (r s : List Lexeme) → SpellsBranches xs bs → word (codes "esac") ∷ s ≡ xs ++ r → ⊥
no_esac r s p e = let shown : NotEsac (word (codes "esac") ∷ s) = subst NotEsac (sym e) (branches_not_esac r p) in cc

dotted_some : {xs : List Lexeme} {p : Path} (r : List Lexeme) → SpellsDotted xs p → IsSome (xs ++ r)
dotted_some r (one_name n) e = cc
dotted_some r (more_names n p) e = cc

int_some : {xs : List Lexeme} {n : ℤ} (r : List Lexeme) → SpellsInt xs n → IsSome (xs ++ r)
int_some r plain_int e = cc
int_some r minus_int e = cc

atom_some : (xs : List Lexeme) (a : Tree Path) (r : List Lexeme) → SpellsAtom xs a → IsSome (xs ++ r)
atom_some xs a r is_true = λ e. cc
atom_some xs a r is_false = λ e. cc
atom_some xs a r (is_next p) = λ e. cc
atom_some xs a r (is_case p) = λ e. cc
atom_some xs a r (is_name p) = dotted_some r p
atom_some xs a r (is_span {xs = us} {ys = ys} p q) = subst IsSome (sym (append_assoc us (sign k.Dots ∷ ys) r)) (int_some (sign k.Dots ∷ (ys ++ r)) p)
atom_some xs a r is_number = λ e. cc
atom_some xs a r (in_parentheses p) = λ e. cc
atom_some xs a r (is_set p) = λ e. cc

pub some_token : {l : ℕ} {xs : List Lexeme} {a : Tree Path} (r : List Lexeme) → Spells l xs a → IsSome (xs ++ r)
some_token r p = begins IsSome atom_some (λ r e. cc) (λ r e. cc) r p

-- an atom does not begin with `!`, and where it begins with `-` a number and two dots follow
atom_no_bang : {xs : List Lexeme} {a : Tree Path} (r s : List Lexeme) → SpellsAtom xs a → xs ++ r ≡ sign k.Bang ∷ s → ⊥
atom_no_bang r s is_true e = cc
atom_no_bang r s is_false e = cc
atom_no_bang r s (is_next p) e = cc
atom_no_bang r s (is_case p) e = cc
atom_no_bang r s (is_name (one_name n)) e = cc
atom_no_bang r s (is_name (more_names n p)) e = cc
atom_no_bang r s (is_span plain_int q) e = cc
atom_no_bang r s (is_span minus_int q) e = cc
atom_no_bang r s is_number e = cc
atom_no_bang r s (in_parentheses p) e = cc
atom_no_bang r s (is_set p) e = cc

abbrev IsSpanNext : List Lexeme → Type 0
IsSpanNext s = (n : ℕ) × (d : List ℕ) × (more : List Lexeme) × (s ≡ num n d ∷ sign k.Dots ∷ more)

atom_minus : {xs : List Lexeme} {a : Tree Path} (r s : List Lexeme) → SpellsAtom xs a → xs ++ r ≡ sign k.Minus ∷ s → IsSpanNext s
atom_minus r s is_true e = cc
atom_minus r s is_false e = cc
atom_minus r s (is_next p) e = cc
atom_minus r s (is_case p) e = cc
atom_minus r s (is_name (one_name n)) e = cc
atom_minus r s (is_name (more_names n p)) e = cc
atom_minus r s (is_span plain_int q) e = cc
atom_minus r s (is_span {ys = ys} (minus_int {n = n} {d = d}) q) e = let same : s ≡ num n d ∷ sign k.Dots ∷ (ys ++ r) = cc in (n, d, ys ++ r, same)
atom_minus r s is_number e = cc
atom_minus r s (in_parentheses p) e = cc
atom_minus r s (is_set p) e = cc

-- so an operand of `-` and what ends it do not begin so
ended_by_dots : (s more : List Lexeme) → Stops at_neg s → s ≡ sign k.Dots ∷ more → ⊥
unfolding Stops
ended_by_dots [] more v e = cc
ended_by_dots (u ∷ us) more v e = let same : u ≡ sign k.Dots = cc in v.no_dots same

span_shows : (ts s : List Lexeme) → begins_span ts ≡ false → IsSome (ts ++ []) → Stops at_neg s → IsSpanNext (ts ++ s) → ⊥
span_shows [] s h some v i = some refl
span_shows (t ∷ []) s h some v (n, d, more, e) = let rest : s ≡ sign k.Dots ∷ more = cc in ended_by_dots s more v rest
span_shows (t ∷ u ∷ us) s h some v (n, d, more, e) =
    let a : t ≡ num n d = cc in
    let b : u ≡ sign k.Dots = cc in
    let shown : begins_span (num n d ∷ sign k.Dots ∷ us) ≡ false = subst (λ z. begins_span (z ∷ sign k.Dots ∷ us) ≡ false) a (subst (λ z. begins_span (t ∷ z ∷ us) ≡ false) b h) in cc

no_span_next : {ts : List Lexeme} {t : Tree Path} (s : List Lexeme) → begins_span ts ≡ false → Spells at_neg ts t → Stops at_neg s → IsSpanNext (ts ++ s) → ⊥
no_span_next {ts} s h p v i = span_shows ts s h (some_token [] p) v i

-- a `-` of its own does not begin an expression of the line `not`
not_minus : {xs ts : List Lexeme} {a t : Tree Path} (r s : List Lexeme) → Spells at_not xs a → begins_span ts ≡ false → Spells at_neg ts t → Stops at_neg s →
    xs ++ r ≡ sign k.Minus ∷ (ts ++ s) → ⊥
not_minus r s (only_atom p) h q v e = no_span_next s h q v (atom_minus r _ p e)
not_minus r s (inverts p) h q v e = cc
not_minus r s (repeated i p m) h q v e = cc

-- a list in three parts
pub regrouped : (xs ys zs : List Lexeme) (t : Lexeme) → (xs ++ t ∷ ys) ++ zs ≡ xs ++ t ∷ (ys ++ zs)
regrouped xs ys zs t = append_assoc xs (t ∷ ys) zs

pub second : {t : Lexeme} {xs ys : List Lexeme} → ◌≡◌ {A = List Lexeme} (t ∷ xs) (t ∷ ys) → xs ≡ ys
second e = cc

forms : {xs ys : List Lexeme} {a b : Tree Path} (r s : List Lexeme) (p : SpellsAtom xs a) (q : SpellsAtom ys b) → xs ++ r ≡ ys ++ s → Stops at_not r → Stops at_not s →
    form_of p ≡ form_of q
forms r s p q e u v = sym (atom_begins r p u) ∙ ap begins_with e ∙ atom_begins s q v

not_below_itself : (n : ℕ) → n < n → ⊥
not_below_itself n h = omega (arith, h)

brace_no_comma : {r s : List Lexeme} → ◌≡◌ {A = List Lexeme} (sign k.CloseBrace ∷ r) (sign k.Comma ∷ s) → ⊥
brace_no_comma e = cc

mutual
  pub one_line : {l : ℕ} {xs ys : List Lexeme} {a b : Tree Path} (r s : List Lexeme) → Spells l xs a → Spells l ys b → xs ++ r ≡ ys ++ s → Stops l r → Stops l s →
      Same xs ys a b r s
  one_line r s (only_iff p) (only_iff q) e u v = one_line r s p q e (stops_tighter at_expr at_iff r (omega arith) u) (stops_tighter at_expr at_iff s (omega arith) v)
  one_line r s (only_iff {ts = xs} {t = a} p) (implies {xs = ys} {ys = zs} {a = b} q q') e u v =
      let first : Same xs ys a b r (sign k.Implies ∷ (zs ++ s)) =
      one_line r (sign k.Implies ∷ (zs ++ s)) p q (e ∙ regrouped ys zs s (sign k.Implies)) (stops_tighter at_expr at_iff r (omega arith) u) (closes at_iff (sign k.Implies) (zs ++ s) ends_arrow) in
      absurd (not_below_itself at_expr ((head_ends at_expr r (sign k.Implies) (zs ++ s) u first.2).no_arrow refl))
  one_line r s (implies {xs = ys} {ys = zs} {a = b} p p') (only_iff {ts = xs} {t = a} q) e u v =
      let first : Same ys xs b a (sign k.Implies ∷ (zs ++ r)) s =
      one_line (sign k.Implies ∷ (zs ++ r)) s p q (sym (regrouped ys zs r (sign k.Implies)) ∙ e) (closes at_iff (sign k.Implies) (zs ++ r) ends_arrow) (stops_tighter at_expr at_iff s (omega arith) v) in
      absurd (not_below_itself at_expr ((head_ends at_expr s (sign k.Implies) (zs ++ r) v (sym first.2)).no_arrow refl))
  one_line r s (implies {xs = x0} {ys = x1} {a = a0} {b = a1} p p') (implies {xs = y0} {ys = y1} {a = b0} {b = b1} q q') e u v =
      let first : Same x0 y0 a0 b0 (sign k.Implies ∷ (x1 ++ r)) (sign k.Implies ∷ (y1 ++ s)) =
      one_line (sign k.Implies ∷ (x1 ++ r)) (sign k.Implies ∷ (y1 ++ s)) p q
      (sym (regrouped x0 x1 r (sign k.Implies)) ∙ e ∙ regrouped y0 y1 s (sign k.Implies))
      (closes at_iff (sign k.Implies) (x1 ++ r) ends_arrow) (closes at_iff (sign k.Implies) (y1 ++ s) ends_arrow) in
      let rest : Same x1 y1 a1 b1 r s = one_line r s p' q' (second first.2) u v in
      (rw (first.0, rest.0) refl, rw (first.1, rest.1) refl, rest.2)
  one_line {l} r s (repeated {xs = x0} {ys = x1} {a = a0} {t = a} h p pm) (repeated {xs = y0} {ys = y1} {a = b0} {t = b} h' q qm) e u v =
      let joined : x0 ++ (x1 ++ r) ≡ y0 ++ (y1 ++ s) = sym (append_assoc x0 x1 r) ∙ e ∙ append_assoc y0 y1 s in
      let first : Same x0 y0 a0 b0 (x1 ++ r) (y1 ++ s) = one_line (x1 ++ r) (y1 ++ s) p q joined (stops_more r pm u) (stops_more s qm v) in
      let qm' : SpellsMore l y1 a0 b = subst (λ c. SpellsMore l y1 c b) (sym first.1) qm in
      let rest : Same x1 y1 a b r s = one_more r s pm qm' first.2 u v in
      (rw (first.0, rest.0) refl, rest.1, rest.2)
  one_line r s (only_or p) (only_or q) e u v = one_line r s p q e (stops_tighter at_choice at_or r (omega arith) u) (stops_tighter at_choice at_or s (omega arith) v)
  one_line r s (only_or {ts = xs} {t = a} p) (chooses {zs = y0} {xs = y1} {ys = y2} {c = b} q q1 q2) e u v =
      let more : List Lexeme = (y1 ++ sign k.Colon ∷ y2) ++ s in
      let first : Same xs y0 a b r (sign k.Question ∷ more) =
      one_line r (sign k.Question ∷ more) p q (e ∙ regrouped y0 (y1 ++ sign k.Colon ∷ y2) s (sign k.Question)) (stops_tighter at_choice at_or r (omega arith) u) (closes at_or (sign k.Question) more ends_question) in
      absurd (not_below_itself at_choice ((head_ends at_choice r (sign k.Question) more u first.2).no_question refl))
  one_line r s (chooses {zs = y0} {xs = y1} {ys = y2} {c = b} p p1 p2) (only_or {ts = xs} {t = a} q) e u v =
      let more : List Lexeme = (y1 ++ sign k.Colon ∷ y2) ++ r in
      let first : Same y0 xs b a (sign k.Question ∷ more) s =
      one_line (sign k.Question ∷ more) s p q (sym (regrouped y0 (y1 ++ sign k.Colon ∷ y2) r (sign k.Question)) ∙ e) (closes at_or (sign k.Question) more ends_question) (stops_tighter at_choice at_or s (omega arith) v) in
      absurd (not_below_itself at_choice ((head_ends at_choice s (sign k.Question) more v (sym first.2)).no_question refl))
  one_line r s (chooses {zs = x0} {xs = x1} {ys = x2} {c = c} {a = a} {b = b} p p1 p2) (chooses {zs = y0} {xs = y1} {ys = y2} {c = c'} {a = a'} {b = b'} q q1 q2) e u v =
      let more : List Lexeme = (x1 ++ sign k.Colon ∷ x2) ++ r in
      let more' : List Lexeme = (y1 ++ sign k.Colon ∷ y2) ++ s in
      let first : Same x0 y0 c c' (sign k.Question ∷ more) (sign k.Question ∷ more') =
      one_line (sign k.Question ∷ more) (sign k.Question ∷ more') p q
      (sym (regrouped x0 (x1 ++ sign k.Colon ∷ x2) r (sign k.Question)) ∙ e ∙ regrouped y0 (y1 ++ sign k.Colon ∷ y2) s (sign k.Question))
      (closes at_or (sign k.Question) more ends_question) (closes at_or (sign k.Question) more' ends_question) in
      let middle : Same x1 y1 a a' (sign k.Colon ∷ (x2 ++ r)) (sign k.Colon ∷ (y2 ++ s)) =
      one_line (sign k.Colon ∷ (x2 ++ r)) (sign k.Colon ∷ (y2 ++ s)) p1 q1
      (sym (regrouped x1 x2 r (sign k.Colon)) ∙ second first.2 ∙ regrouped y1 y2 s (sign k.Colon))
      (end_of_colon at_expr (x2 ++ r)) (end_of_colon at_expr (y2 ++ s)) in
      let rest : Same x2 y2 b b' r s = one_line r s p2 q2 (second middle.2) u v in
      (rw (first.0, middle.0, rest.0) refl, rw (first.1, middle.1, rest.1) refl, rest.2)
  one_line r s (only_not p) (only_not q) e u v = one_line r s p q e (stops_tighter at_neg at_not r (omega arith) u) (stops_tighter at_neg at_not s (omega arith) v)
  one_line r s (only_not p) (negates h q) e u v = absurd (not_minus r s p h q v e)
  one_line r s (negates h p) (only_not q) e u v = absurd (not_minus s r q h p u (sym e))
  one_line r s (negates {ts = xs} {t = a} h p) (negates {ts = ys} {t = b} h' q) e u v =
      let inner : Same xs ys a b r s = one_line r s p q (second e) u v in (rw inner.0 refl, rw inner.1 refl, inner.2)
  one_line r s (only_atom p) (only_atom q) e u v = one_form r s p q (forms r s p q e u v) e u v
  one_line r s (only_atom p) (inverts q) e u v = absurd (atom_no_bang r _ p e)
  one_line r s (inverts p) (only_atom q) e u v = absurd (atom_no_bang s _ q (sym e))
  one_line r s (inverts {ts = xs} {t = a} p) (inverts {ts = ys} {t = b} q) e u v =
      let inner : Same xs ys a b r s = one_line r s p q (second e) u v in (rw inner.0 refl, rw inner.1 refl, inner.2)
  one_line r s (repeated h p m) (only_iff q) e u v = absurd (false≢true h)
  one_line r s (repeated h p m) (implies q q') e u v = absurd (false≢true h)
  one_line r s (repeated h p m) (only_or q) e u v = absurd (false≢true h)
  one_line r s (repeated h p m) (chooses q q1 q2) e u v = absurd (false≢true h)
  one_line r s (repeated h p m) (only_not q) e u v = absurd (false≢true h)
  one_line r s (repeated h p m) (negates i q) e u v = absurd (false≢true h)
  one_line r s (repeated h p m) (only_atom q) e u v = absurd (false≢true h)
  one_line r s (repeated h p m) (inverts q) e u v = absurd (false≢true h)
  one_line r s (only_iff p) (repeated h q m) e u v = absurd (false≢true h)
  one_line r s (implies p p') (repeated h q m) e u v = absurd (false≢true h)
  one_line r s (only_or p) (repeated h q m) e u v = absurd (false≢true h)
  one_line r s (chooses p p1 p2) (repeated h q m) e u v = absurd (false≢true h)
  one_line r s (only_not p) (repeated h q m) e u v = absurd (false≢true h)
  one_line r s (negates i p) (repeated h q m) e u v = absurd (false≢true h)
  one_line r s (only_atom p) (repeated h q m) e u v = absurd (false≢true h)
  one_line r s (inverts p) (repeated h q m) e u v = absurd (false≢true h)

  one_more : {l : ℕ} {xs ys : List Lexeme} {c a b : Tree Path} (r s : List Lexeme) → SpellsMore l xs c a → SpellsMore l ys c b → xs ++ r ≡ ys ++ s →
      Stops l r → Stops l s → Same xs ys a b r s
  one_more r s no_operator no_operator e u v = (refl, refl, e)
  one_more {l} r s no_operator (one_operator {o = o} {xs = y0} {ys = y1} f q qm) e u v =
      absurd (not_below_itself l ((head_ends l r (operator o) ((y0 ++ y1) ++ s) u e).operators o l refl f))
  one_more {l} r s (one_operator {o = o} {xs = x0} {ys = x1} f p pm) no_operator e u v =
      absurd (not_below_itself l ((head_ends l s (operator o) ((x0 ++ x1) ++ r) v (sym e)).operators o l refl f))
  one_more {l} {c = c} {a = a} {b = b} r s (one_operator {o = o} {xs = x0} {ys = x1} {b = a0} f p pm) (one_operator {o = o'} {xs = y0} {ys = y1} {b = b0} f' q qm) e u v =
      let heads : operator o ≡ operator o' = cc in
      let same : o ≡ o' = same_operator o o' heads in
      let tails : (x0 ++ x1) ++ r ≡ (y0 ++ y1) ++ s = cc in
      let joined : x0 ++ (x1 ++ r) ≡ y0 ++ (y1 ++ s) = sym (append_assoc x0 x1 r) ∙ tails ∙ append_assoc y0 y1 s in
      let first : Same x0 y0 a0 b0 (x1 ++ r) (y1 ++ s) = one_line (x1 ++ r) (y1 ++ s) p q joined (stops_more r pm u) (stops_more s qm v) in
      let whole : binary o' c b0 ≡ binary o c a0 = rw (same, first.1) refl in
      let qm' : SpellsMore l y1 (binary o c a0) b = subst (λ z. SpellsMore l y1 z b) whole qm in
      let rest : Same x1 y1 a b r s = one_more r s pm qm' first.2 u v in
      (rw (same, first.0, rest.0) refl, rest.1, rest.2)

  one_form : {xs ys : List Lexeme} {a b : Tree Path} (r s : List Lexeme) (p : SpellsAtom xs a) (q : SpellsAtom ys b) → form_of p ≡ form_of q → xs ++ r ≡ ys ++ s →
      Stops at_not r → Stops at_not s → Same xs ys a b r s
  one_form r s is_true is_true c e u v = (refl, refl, second e)
  one_form r s is_false is_false c e u v = (refl, refl, second e)
  one_form r s (is_number {n = n} {d = d}) (is_number {n = m} {d = f}) c e u v =
      let x : n ≡ m = cc in let y : d ≡ f = cc in let z : r ≡ s = cc in (rw (x, y) refl, rw x refl, z)
  one_form r s (is_span {xs = x0} {ys = x1} {lo = lo} {hi = hi} p p') (is_span {xs = y0} {ys = y1} {lo = lo'} {hi = hi'} q q') c e u v =
      let first : Same x0 y0 lo lo' (sign k.Dots ∷ (x1 ++ r)) (sign k.Dots ∷ (y1 ++ s)) =
      one_int (sign k.Dots ∷ (x1 ++ r)) (sign k.Dots ∷ (y1 ++ s)) p q (sym (regrouped x0 x1 r (sign k.Dots)) ∙ e ∙ regrouped y0 y1 s (sign k.Dots)) in
      let rest : Same x1 y1 hi hi' r s = one_int r s p' q' (second first.2) in
      (rw (first.0, rest.0) refl, rw (first.1, rest.1) refl, rest.2)
  one_form r s (is_name {ts = xs} {p = n} p) (is_name {ts = ys} {p = m} q) c e u v =
      let inner : Same xs ys n m r s = one_dotted r s p q e u v in (inner.0, rw inner.1 refl, inner.2)
  one_form r s (in_parentheses {ts = xs} {t = a} p) (in_parentheses {ts = ys} {t = b} q) c e u v =
      let inner : Same xs ys a b (sign k.Close ∷ r) (sign k.Close ∷ s) =
      one_line (sign k.Close ∷ r) (sign k.Close ∷ s) p q (sym (append_assoc xs (sign k.Close ∷ []) r) ∙ second e ∙ append_assoc ys (sign k.Close ∷ []) s) (end_of_bracket at_expr r) (end_of_bracket at_expr s) in
      (rw inner.0 refl, inner.1, second inner.2)
  one_form r s (is_next {ts = xs} {t = a} p) (is_next {ts = ys} {t = b} q) c e u v =
      let inner : Same xs ys a b (sign k.Close ∷ r) (sign k.Close ∷ s) =
      one_line (sign k.Close ∷ r) (sign k.Close ∷ s) p q (sym (append_assoc xs (sign k.Close ∷ []) r) ∙ second (second e) ∙ append_assoc ys (sign k.Close ∷ []) s) (end_of_bracket at_expr r) (end_of_bracket at_expr s) in
      (rw inner.0 refl, rw inner.1 refl, second inner.2)
  one_form r s (is_set {ts = xs} {us = a} p) (is_set {ts = ys} {us = b} q) c e u v =
      let inner : Same xs ys a b r s =
      one_list r s p q (sym (append_assoc xs (sign k.CloseBrace ∷ []) r) ∙ second e ∙ append_assoc ys (sign k.CloseBrace ∷ []) s) in
      (rw inner.0 refl, rw inner.1 refl, inner.2)
  one_form r s (is_case {ts = xs} {bs = a} p) (is_case {ts = ys} {bs = b} q) c e u v =
      let inner : Same xs ys a b r s =
      one_case r s p q (sym (append_assoc xs (word (codes "esac") ∷ []) r) ∙ second e ∙ append_assoc ys (word (codes "esac") ∷ []) s) in
      (rw inner.0 refl, rw inner.1 refl, inner.2)
  one_form r s p q c e u v = absurd (omega (arith, c))

  one_list : {xs ys : List Lexeme} {us vs : Trees Path} (r s : List Lexeme) → SpellsTrees xs us → SpellsTrees ys vs → xs ++ sign k.CloseBrace ∷ r ≡ ys ++ sign k.CloseBrace ∷ s →
      Same xs ys us vs r s
  one_list r s (one_tree {ts = xs} {t = a} p) (one_tree {ts = ys} {t = b} q) e =
      let inner : Same xs ys a b (sign k.CloseBrace ∷ r) (sign k.CloseBrace ∷ s) =
      one_line (sign k.CloseBrace ∷ r) (sign k.CloseBrace ∷ s) p q e (end_of_brace at_expr r) (end_of_brace at_expr s) in
      (inner.0, rw inner.1 refl, second inner.2)
  one_list r s (one_tree {ts = xs} {t = a} p) (more_trees {ts = y0} {us = y1} {t = b} q qm) e =
      let more : List Lexeme = y1 ++ sign k.CloseBrace ∷ s in
      let inner : Same xs y0 a b (sign k.CloseBrace ∷ r) (sign k.Comma ∷ more) =
      one_line (sign k.CloseBrace ∷ r) (sign k.Comma ∷ more) p q (e ∙ regrouped y0 y1 (sign k.CloseBrace ∷ s) (sign k.Comma)) (end_of_brace at_expr r) (end_of_comma at_expr more) in
      absurd (brace_no_comma inner.2)
  one_list r s (more_trees {ts = y0} {us = y1} {t = b} p pm) (one_tree {ts = xs} {t = a} q) e =
      let more : List Lexeme = y1 ++ sign k.CloseBrace ∷ r in
      let inner : Same y0 xs b a (sign k.Comma ∷ more) (sign k.CloseBrace ∷ s) =
      one_line (sign k.Comma ∷ more) (sign k.CloseBrace ∷ s) p q (sym (regrouped y0 y1 (sign k.CloseBrace ∷ r) (sign k.Comma)) ∙ e) (end_of_comma at_expr more) (end_of_brace at_expr s) in
      absurd (brace_no_comma (sym inner.2))
  one_list r s (more_trees {ts = x0} {us = x1} {t = a} {more = am} p pm) (more_trees {ts = y0} {us = y1} {t = b} {more = bm} q qm) e =
      let more : List Lexeme = x1 ++ sign k.CloseBrace ∷ r in
      let more' : List Lexeme = y1 ++ sign k.CloseBrace ∷ s in
      let first : Same x0 y0 a b (sign k.Comma ∷ more) (sign k.Comma ∷ more') =
      one_line (sign k.Comma ∷ more) (sign k.Comma ∷ more') p q (sym (regrouped x0 x1 (sign k.CloseBrace ∷ r) (sign k.Comma)) ∙ e ∙ regrouped y0 y1 (sign k.CloseBrace ∷ s) (sign k.Comma))
      (end_of_comma at_expr more) (end_of_comma at_expr more') in
      let rest : Same x1 y1 am bm r s = one_list r s pm qm (second first.2) in
      (rw (first.0, rest.0) refl, rw (first.1, rest.1) refl, rest.2)

  one_case : {xs ys : List Lexeme} {bs cs : Branches Path} (r s : List Lexeme) → SpellsBranches xs bs → SpellsBranches ys cs →
      xs ++ word (codes "esac") ∷ r ≡ ys ++ word (codes "esac") ∷ s → Same xs ys bs cs r s
  one_case r s (one_branch {zs = x0} {xs = x1} {c = c} {a = a} p p') (one_branch {zs = y0} {xs = y1} {c = d} {a = b} q q') e =
      let inner : Same x0 y0 c d _ _ = one_line _ _ p q (sym (regrouped x0 (x1 ++ sign k.Semicolon ∷ []) (word (codes "esac") ∷ r) (sign k.Colon)) ∙ e ∙ regrouped y0 (y1 ++ sign k.Semicolon ∷ []) (word (codes "esac") ∷ s) (sign k.Colon)) (end_of_colon at_expr _) (end_of_colon at_expr _) in
      let rest : Same x1 y1 a b (sign k.Semicolon ∷ word (codes "esac") ∷ r) (sign k.Semicolon ∷ word (codes "esac") ∷ s) =
      one_line _ _ p' q' (sym (regrouped x1 [] (word (codes "esac") ∷ r) (sign k.Semicolon)) ∙ second inner.2 ∙ regrouped y1 [] (word (codes "esac") ∷ s) (sign k.Semicolon)) (end_of_semicolon at_expr _) (end_of_semicolon at_expr _) in
      (rw (inner.0, rest.0) refl, rw (inner.1, rest.1) refl, second (second rest.2))
  one_case r s (one_branch {zs = x0} {xs = x1} {c = c} {a = a} p p') (more_branches {zs = y0} {xs = y1} {ys = y2} {c = d} {a = b} q q' qm) e =
      let inner : Same x0 y0 c d _ _ = one_line _ _ p q (sym (regrouped x0 (x1 ++ sign k.Semicolon ∷ []) (word (codes "esac") ∷ r) (sign k.Colon)) ∙ e ∙ regrouped y0 (y1 ++ sign k.Semicolon ∷ y2) (word (codes "esac") ∷ s) (sign k.Colon)) (end_of_colon at_expr _) (end_of_colon at_expr _) in
      let rest : Same x1 y1 a b (sign k.Semicolon ∷ word (codes "esac") ∷ r) (sign k.Semicolon ∷ (y2 ++ word (codes "esac") ∷ s)) =
      one_line _ _ p' q' (sym (regrouped x1 [] (word (codes "esac") ∷ r) (sign k.Semicolon)) ∙ second inner.2 ∙ regrouped y1 y2 (word (codes "esac") ∷ s) (sign k.Semicolon)) (end_of_semicolon at_expr _) (end_of_semicolon at_expr _) in
      absurd (no_esac _ r qm (second rest.2))
  one_case r s (more_branches {zs = x0} {xs = x1} {ys = x2} {c = c} {a = a} p p' pm) (one_branch {zs = y0} {xs = y1} {c = d} {a = b} q q') e =
      let inner : Same x0 y0 c d _ _ = one_line _ _ p q (sym (regrouped x0 (x1 ++ sign k.Semicolon ∷ x2) (word (codes "esac") ∷ r) (sign k.Colon)) ∙ e ∙ regrouped y0 (y1 ++ sign k.Semicolon ∷ []) (word (codes "esac") ∷ s) (sign k.Colon)) (end_of_colon at_expr _) (end_of_colon at_expr _) in
      let rest : Same x1 y1 a b (sign k.Semicolon ∷ (x2 ++ word (codes "esac") ∷ r)) (sign k.Semicolon ∷ word (codes "esac") ∷ s) =
      one_line _ _ p' q' (sym (regrouped x1 x2 (word (codes "esac") ∷ r) (sign k.Semicolon)) ∙ second inner.2 ∙ regrouped y1 [] (word (codes "esac") ∷ s) (sign k.Semicolon)) (end_of_semicolon at_expr _) (end_of_semicolon at_expr _) in
      absurd (no_esac _ s pm (sym (second rest.2)))
  one_case r s (more_branches {zs = x0} {xs = x1} {ys = x2} {c = c} {a = a} {more = am} p p' pm) (more_branches {zs = y0} {xs = y1} {ys = y2} {c = d} {a = b} {more = bm} q q' qm) e =
      let inner : Same x0 y0 c d _ _ = one_line _ _ p q (sym (regrouped x0 (x1 ++ sign k.Semicolon ∷ x2) (word (codes "esac") ∷ r) (sign k.Colon)) ∙ e ∙ regrouped y0 (y1 ++ sign k.Semicolon ∷ y2) (word (codes "esac") ∷ s) (sign k.Colon)) (end_of_colon at_expr _) (end_of_colon at_expr _) in
      let rest : Same x1 y1 a b (sign k.Semicolon ∷ (x2 ++ word (codes "esac") ∷ r)) (sign k.Semicolon ∷ (y2 ++ word (codes "esac") ∷ s)) =
      one_line _ _ p' q' (sym (regrouped x1 x2 (word (codes "esac") ∷ r) (sign k.Semicolon)) ∙ second inner.2 ∙ regrouped y1 y2 (word (codes "esac") ∷ s) (sign k.Semicolon)) (end_of_semicolon at_expr _) (end_of_semicolon at_expr _) in
      let last : Same x2 y2 am bm r s = one_case r s pm qm (second rest.2) in
      (rw (inner.0, rest.0, last.0) refl, rw (inner.1, rest.1, last.1) refl, last.2)

-- the rest of lists that are the same
pub tails : {t u : Lexeme} {xs ys : List Lexeme} → ◌≡◌ {A = List Lexeme} (t ∷ xs) (u ∷ ys) → xs ≡ ys
tails e = cc

-- no list of tokens spells two expressions
pub one_expression : {ts : List Lexeme} {a b : Tree Path} → Spells at_expr ts a → Spells at_expr ts b → a ≡ b
unfolding Stops
one_expression p q = (one_line [] [] p q refl tt tt).1
