-- Tables of signs: the first with which bytes begin, where longer ones stand before shorter ones.
use Rattle.std.proofs.Common.{◌≡◌, ℕ, ◌≤◌, ◌<◌, Bool, true, false, cond, List, [], ◌∷◌, ◌++◌, length, take, drop, Some, None, sym, ap, ◌∙◌, refl, subst, inl, inr, ⊎_elim, arith}
use Rattle.std.specs.Prelude.{◌⊎◌, ◌&&◌, not, nat_eq, nat_le}
use Rattle.std.specs.List.{starts_with, list_all}
use Rattle.std.specs.Str.{bytes_eq}
use Rattle.std.specs.Char.{is_ascii_digit}
use Rattle.std.proofs.lemmas.Bool.Decides.{Decides-eqb}
use Rattle.std.proofs.lemmas.Bool.{leb-true}
use Rattle.std.proofs.lemmas.Slice.Eq.{starts_is, bytes_eq-Decides}
use Rattle.std.proofs.Math.Seq.{take-append_seam}
use Rattle.smv_lexer.specs.declared.token.TokenKind.{TokenKind}
use Rattle.smv_lexer.specs.declared.token.TokenKind.TheVariants.{Number}
use Rattle.smv_lexer.specs.Bytes.{is_blank, is_word_start}
use Rattle.smv_lexer.specs.Tokens.{Sign, signs, IsAmong}
use Rattle.smv_lexer.specs.Scan.{sign_at}

-- which way a test went
pub chosen_by : {A : Type 0} (test : Bool) (x y z : A) → cond test x y ≡ z → ((test ≡ true) × (x ≡ z)) ⊎ ((test ≡ false) × (y ≡ z))
chosen_by true x y z e = inl (refl, e)
chosen_by false x y z e = inr (refl, e)

pub both_true : (a b : Bool) → (a && b) ≡ true → (a ≡ true) × (b ≡ true)
both_true true b e = (refl, e)
both_true false b e = cc

pub not_true : (a : Bool) → not a ≡ true → a ≡ false
not_true true e = cc
not_true false e = refl

-- bytes that begin with a text
pub starts_with-begins : (bytes front : List ℕ) → starts_with nat_eq bytes front ≡ true → bytes ≡ front ++ drop (length front) bytes
starts_with-begins bytes front starts = (starts_is Decides-eqb bytes front (starts_with nat_eq bytes front) refl).0 starts

pub starts_with-append : (front rest : List ℕ) → starts_with nat_eq (front ++ rest) front ≡ true
starts_with-append front rest =
    ap (λ text. bytes_eq front text) (take-append_seam front rest) ∙ (bytes_eq-Decides front front).1 refl

-- two fronts of one text that are equally long are equal
pub same_front : (a b x y : List ℕ) → a ++ x ≡ b ++ y → length a ≡ length b → a ≡ b
same_front a b x y same len =
    sym (take-append_seam a x) ∙ ap (take (length a)) same ∙ ap (λ n. take n (b ++ y)) len ∙ take-append_seam b y

pub sign_at-none : (table : List Sign) (bytes : List ℕ) → sign_at table bytes ≡ None → (kind : TokenKind) (text after : List ℕ) → bytes ≡ text ++ after → IsAmong table kind text → ⊥
sign_at-none [] bytes none kind text after begins among = among
sign_at-none (sign ∷ table) bytes none kind text after begins among =
    ⊎_elim
    (λ hit. let clash : Some sign ≡ None = hit.1 in cc)
    (λ miss. ⊎_elim
    (λ same. let clash : true ≡ false = sym (subst (λ bs. starts_with nat_eq bs sign.text ≡ true) (ap (λ t. t ++ after) same.1 ∙ sym begins) (starts_with-append sign.text after)) ∙ miss.0 in cc)
    (λ later. sign_at-none table bytes miss.1 kind text after begins later)
    among)
    (chosen_by (starts_with nat_eq bytes sign.text) (Some sign) (sign_at table bytes) None none)

-- what is found is among the signs, and the bytes begin with it
pub sign_at-some : (table : List Sign) (bytes : List ℕ) (found : Sign) → sign_at table bytes ≡ Some found → IsAmong table found.kind found.text × (bytes ≡ found.text ++ drop (length found.text) bytes)
sign_at-some [] bytes found none = cc
sign_at-some (sign ∷ table) bytes found some =
    ⊎_elim
    (λ hit. let same : sign ≡ found = cc (hit.1) in (inl (ap (λ s. s.kind) same, ap (λ s. s.text) same), starts_with-begins bytes found.text (subst (λ s. starts_with nat_eq bytes s.text ≡ true) same hit.0)))
    (λ miss. let later = sign_at-some table bytes found miss.1 in (inr later.0, later.1))
    (chosen_by (starts_with nat_eq bytes sign.text) (Some sign) (sign_at table bytes) (Some found) some)

-- no sign is longer than one that stands before it
abbrev pub descends : List Sign → Bool
descends [] = true
descends (sign ∷ table) = list_all (λ later. nat_le (length later.text) (length sign.text)) table && descends table

pub among_all : (test : Sign → Bool) (table : List Sign) (kind : TokenKind) (text : List ℕ) → list_all test table ≡ true → IsAmong table kind text → (sign : Sign) × (test sign ≡ true) × (sign.kind ≡ kind) × (sign.text ≡ text)
among_all test [] kind text all among = absurd among
among_all test (sign ∷ table) kind text all among =
    let parts = both_true (test sign) (list_all test table) all in
    ⊎_elim (λ same. (sign, parts.0, same.0, same.1)) (λ later. among_all test table kind text parts.1 later) among

pub sign_at-longest : (table : List Sign) (bytes : List ℕ) (found : Sign) → descends table ≡ true → sign_at table bytes ≡ Some found → (kind : TokenKind) (text after : List ℕ) → bytes ≡ text ++ after → IsAmong table kind text → length text ≤ length found.text
sign_at-longest [] bytes found falls some kind text after begins among = absurd among
sign_at-longest (sign ∷ table) bytes found falls some kind text after begins among =
    let parts = both_true (list_all (λ later. nat_le (length later.text) (length sign.text)) table) (descends table) falls in
    ⊎_elim
    (λ hit. let same : sign ≡ found = cc (hit.1) in ⊎_elim
    (λ here. omega (arith, ap length here.1, ap (λ s. length s.text) same))
    (λ later.
    let place = among_all (λ later. nat_le (length later.text) (length sign.text)) table kind text parts.0 later in
    omega (arith, ap length place.3, ap (λ s. length s.text) same, leb-true (length place.0.text) (length sign.text) place.1))
    among)
    (λ miss. ⊎_elim
    (λ here. let clash : true ≡ false = sym (subst (λ bs. starts_with nat_eq bs sign.text ≡ true) (ap (λ t. t ++ after) here.1 ∙ sym begins) (starts_with-append sign.text after)) ∙ miss.0 in cc)
    (λ later. sign_at-longest table bytes found parts.1 miss.1 kind text after begins later)
    among)
    (chosen_by (starts_with nat_eq bytes sign.text) (Some sign) (sign_at table bytes) (Some found) some)

-- no two signs have one text
abbrev pub differs : List Sign → Bool
differs [] = true
differs (sign ∷ table) = list_all (λ later. not (bytes_eq later.text sign.text)) table && differs table

not_again : (sign : Sign) (table : List Sign) (kind : TokenKind) (text : List ℕ) → list_all (λ later. not (bytes_eq later.text sign.text)) table ≡ true → sign.text ≡ text → IsAmong table kind text → ⊥
not_again sign table kind text apart same among =
    let place = among_all (λ later. not (bytes_eq later.text sign.text)) table kind text apart among in
    let clash : true ≡ false = sym ((bytes_eq-Decides place.0.text sign.text).1 (place.3 ∙ sym same)) ∙ not_true (bytes_eq place.0.text sign.text) place.1 in
    cc

-- a text is a sign of one kind
pub one_kind : (table : List Sign) (a b : TokenKind) (text : List ℕ) → differs table ≡ true → IsAmong table a text → IsAmong table b text → a ≡ b
one_kind [] a b text apart first second = absurd first
one_kind (sign ∷ table) a b text apart first second =
    let parts = both_true (list_all (λ later. not (bytes_eq later.text sign.text)) table) (differs table) apart in
    ⊎_elim
    (λ here. ⊎_elim (λ there. sym here.0 ∙ there.0) (λ later. absurd (not_again sign table b text parts.0 here.1 later)) second)
    (λ later. ⊎_elim (λ there. absurd (not_again sign table a text parts.0 there.1 later)) (λ further. one_kind table a b text parts.1 later further) second)
    first

-- a sign begins with a byte that begins nothing else
abbrev pub begins_apart : List ℕ → Bool
begins_apart [] = false
begins_apart (b ∷ bs) = (not (is_blank b) && not (is_word_start b)) && not (is_ascii_digit b)

pub record StartsSign (b : ℕ) : Type 0 where
  pub no_blank : is_blank b ≡ false
  pub no_word : is_word_start b ≡ false
  pub no_digit : is_ascii_digit b ≡ false

apart_parts : (b : ℕ) (bs : List ℕ) → begins_apart (b ∷ bs) ≡ true → StartsSign b
apart_parts b bs apart =
    let all = both_true (not (is_blank b) && not (is_word_start b)) (not (is_ascii_digit b)) apart in
    let two = both_true (not (is_blank b)) (not (is_word_start b)) all.0 in
    record { no_blank = not_true (is_blank b) two.0; no_word = not_true (is_word_start b) two.1; no_digit = not_true (is_ascii_digit b) all.1 }

pub signs_descend : descends signs ≡ true
signs_descend = refl

pub signs_differ : differs signs ≡ true
signs_differ = refl

signs_apart : list_all (λ sign. begins_apart sign.text) signs ≡ true
signs_apart = refl

pub sign_starts : (kind : TokenKind) (b : ℕ) (bs : List ℕ) → IsAmong signs kind (b ∷ bs) → StartsSign b
sign_starts kind b bs among =
    let place = among_all (λ sign. begins_apart sign.text) signs kind (b ∷ bs) signs_apart among in
    apart_parts b bs (subst (λ t. begins_apart t ≡ true) place.3 place.1)

pub sign_some : (kind : TokenKind) → IsAmong signs kind [] → ⊥
sign_some kind among =
    let place = among_all (λ sign. begins_apart sign.text) signs kind [] signs_apart among in
    let clash : false ≡ true = subst (λ t. begins_apart t ≡ true) place.3 place.1 in
    cc

abbrev pub is_number_kind : TokenKind → Bool
is_number_kind Number = true
is_number_kind other = false

no_numbers : list_all (λ sign. not (is_number_kind sign.kind)) signs ≡ true
no_numbers = refl

-- no sign is a number
pub sign_no_number : (kind : TokenKind) (text : List ℕ) → IsAmong signs kind text → kind ≡ Number → ⊥
sign_no_number kind text among number =
    let place = among_all (λ sign. not (is_number_kind sign.kind)) signs kind text no_numbers among in
    let clash : false ≡ true = subst (λ k. not (is_number_kind k) ≡ true) (place.2 ∙ number) place.1 in
    cc

pub sign_long : (kind : TokenKind) (text : List ℕ) → IsAmong signs kind text → 0 < length text
sign_long kind [] among = absurd (sign_some kind among)
sign_long kind (b ∷ bs) among = omega arith
