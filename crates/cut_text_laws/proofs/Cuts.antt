-- Bytes cut into lines.
use Rattle.std.proofs.Common.{◌≡◌, ◌⊎◌, inl, inr, ℕ, suc, ◌+◌, ◌<◌, ◌≤◌, Bool, true, false, nat_eq, List, [], ◌∷◌, ◌++◌, length, refl, sym, ◌∙◌, ap, arith, append_assoc, length-append, eq-eqb, eqb-true}
use Rattle.std.specs.List.{AllByRecursion}
use Rattle.base_values.specs.Separators.{IsLineThen}
use Rattle.cut_text_laws.specs.Lines.{Line, fed, IsLine}
pub use Rattle.cut_text_laws.proofs.Separators.{grouped}
use Rattle.cut_text_laws.proofs.Separators.{no_separator, comparable, fed_end}
use Rattle.std.proofs.lemmas.List.{append-nil as append_none}

-- a line is no line with its feed and more
pub no_feed : (t z : Line) (zs : List Line) (m : List ℕ) → IsLine t → t ≡ fed (z ∷ zs) ++ m → ⊥
no_feed t z zs m f e = no_separator 10 t z (fed zs ++ m) f (e ∙ grouped z zs m)

same_lines : (xs ys : List Line) (t u : Line) → AllByRecursion IsLine xs → AllByRecursion IsLine ys → IsLine t → IsLine u → fed xs ++ t ≡ fed ys ++ u → xs ≡ ys
same_lines xs ys t u f g a b e = by_side (comparable xs ys t u f g e)
  where
    by_rest : (zs : List Line) (xs ys : List Line) (t u : Line) → IsLine t → ys ≡ xs ++ zs → t ≡ fed zs ++ u → xs ≡ ys
    by_rest [] xs ys t u a e h = sym (append_none xs) ∙ sym e
    by_rest (z ∷ zs) xs ys t u a e h = absurd (no_feed t z zs u a h)

    by_side : ((zs : List Line) × (ys ≡ xs ++ zs) × (t ≡ fed zs ++ u)) ⊎ ((zs : List Line) × (xs ≡ ys ++ zs) × (u ≡ fed zs ++ t)) → xs ≡ ys
    by_side (inl h) = by_rest h.0 xs ys t u a h.1 h.2
    by_side (inr h) = sym (by_rest h.0 ys xs u t b h.1 h.2)

pub same_fed : (bytes : List ℕ) (xs ys : List Line) → AllByRecursion IsLine xs → AllByRecursion IsLine ys → bytes ≡ fed xs → bytes ≡ fed ys → xs ≡ ys
same_fed bytes xs ys f g e h = same_lines xs ys [] [] f g tt tt (append_none (fed xs) ∙ sym e ∙ h ∙ sym (append_none (fed ys)))

-- Bytes are lines with their feeds, and a tail without one.
pub record Cut (bytes : List ℕ) : Type 0 where
  pub lines : List Line
  pub tail : Line
  pub lie : bytes ≡ fed lines ++ tail
  pub are_lines : AllByRecursion IsLine lines
  pub is_line : IsLine tail

pub cut : (bytes : List ℕ) → Cut bytes
cut [] = record { lines = []; tail = []; lie = refl; are_lines = tt; is_line = tt }
cut (b ∷ bytes) = by_byte (nat_eq b 10) refl (cut bytes)
  where
    same_bytes_more : (bs cs : List ℕ) → bs ≡ cs → (b ∷ bs) ≡ (b ∷ cs)
    same_bytes_more bs cs e = ap (λ x. b ∷ x) e

    unequal : nat_eq b 10 ≡ false → b ≡ 10 → ⊥
    unequal t e = let bad : true ≡ false = sym (eq-eqb b 10 e) ∙ t in cc

    longer : nat_eq b 10 ≡ false → (lines : List Line) (tail : Line) → bytes ≡ fed lines ++ tail → AllByRecursion IsLine lines → IsLine tail → Cut (b ∷ bytes)
    longer t [] tail e f g = record { lines = []; tail = b ∷ tail; lie = same_bytes_more bytes tail e; are_lines = tt; is_line = (unequal t, g) }
    longer t (l ∷ lines) tail e f g = record { lines = (b ∷ l) ∷ lines; tail = tail; lie = same_bytes_more bytes (fed (l ∷ lines) ++ tail) e; are_lines = ((unequal t, f.0), f.1); is_line = g }

    by_byte : (t : Bool) → nat_eq b 10 ≡ t → Cut bytes → Cut (b ∷ bytes)
    by_byte true t c = record { lines = [] ∷ c.lines; tail = c.tail; lie = fed_byte b (eqb-true b 10 t) bytes (fed c.lines ++ c.tail) c.lie; are_lines = (tt, c.are_lines); is_line = c.is_line }
      where
        fed_byte : (b : ℕ) → b ≡ 10 → (bs cs : List ℕ) → bs ≡ cs → (b ∷ bs) ≡ (10 ∷ cs)
        fed_byte b e bs cs f = cc
    by_byte false t c = longer t c.lines c.tail c.lie c.are_lines c.is_line

pub fed_joined : (xs ys : List Line) → fed (xs ++ ys) ≡ fed xs ++ fed ys
fed_joined [] ys = refl
fed_joined (x ∷ xs) ys = ap (λ bs. (x ++ 10 ∷ []) ++ bs) (fed_joined xs ys) ∙ sym (append_assoc (x ++ 10 ∷ []) (fed xs) (fed ys))

-- the bytes up to the end of one more line
pub line_lies : (bytes rest line after : List ℕ) (lines : List Line) → bytes ≡ fed lines ++ rest → IsLineThen rest line after → bytes ≡ fed (lines ++ line ∷ []) ++ after
line_lies bytes rest line after lines e l = e ∙ ap (λ bs. fed lines ++ bs) l.lie ∙ fed_end lines line after

-- one more line is one more
pub length_more : (lines : List Line) (line : Line) → length (lines ++ line ∷ []) ≡ suc (length lines)
length_more [] line = refl
length_more (l ∷ lines) line = ap suc (length_more lines line)

-- a line takes a byte
pub fed_long : (lines : List Line) → length lines ≤ length (fed lines)
fed_long [] = omega arith
fed_long (l ∷ lines) =
    let both : length ((l ++ 10 ∷ []) ++ fed lines) ≡ length (l ++ 10 ∷ []) + length (fed lines) = length-append (l ++ 10 ∷ []) (fed lines) in
    let one : length (l ++ 10 ∷ []) ≡ length l + 1 = length-append l (10 ∷ []) in
    omega (arith, both, one, fed_long lines)

-- what stands after a line is shorter
pub rest_shorter : (rest line after : List ℕ) → IsLineThen rest line after → length after < length rest
rest_shorter rest line after l =
    let whole : length rest ≡ length (line ++ 10 ∷ after) = ap length l.lie in
    let sum : length (line ++ 10 ∷ after) ≡ length line + suc (length after) = length-append line (10 ∷ after) in
    omega (arith, whole, sum)
