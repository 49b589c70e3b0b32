-- How many lines the texts of traces have.
use Rattle.std.proofs.Common.{◌≡◌, ℕ, zero, suc, ◌+◌, ◌<◌, ◌≤◌, ◌^◌, subst, List, [], ◌∷◌, ◌++◌, length, take, drop, get_or, refl, sym, ap, ◌∙◌, arith, take-append-drop}
use Rattle.std.specs.Prelude.{Some, slice_get}
use Rattle.std.proofs.lemmas.Option.{slice_get_within, get_or_from_slice_get}
use Rattle.std.proofs.lemmas.List.{take_more, take_all}
use Rattle.cut_text_laws.specs.Lines.{Line}
use Rattle.std.specs.List.{AllByRecursion}
use Rattle.cert_laws.specs.Certificate.{Certificate, lines_of_sets, an_end, part_bad, line_of}
use Rattle.cert_laws.proofs.Sites.{lines_first, lines_joined}

lines_one : (x : List Line) → lines_of_sets (x ∷ []) ≡ length x + 2
lines_one x = let e = lines_first x [] in let z : lines_of_sets [] ≡ 0 = refl in omega (arith, e, z)

pub lines_more : (texts : List (List Line)) (i : ℕ) (x : List Line) → i < length texts → x ≡ get_or texts i x → lines_of_sets (take (i + 1) texts) ≡ lines_of_sets (take i texts) + (length x + 2)
lines_more texts i x l e =
    let joined = lines_joined (take i texts) (x ∷ []) in
    let one = lines_one x in
    ap lines_of_sets (take_more texts i x l ∙ ap (λ y. take i texts ++ y ∷ []) (sym e)) ∙ omega (arith, joined, one)

-- no beginning has more
pub lines_few : (texts : List (List Line)) (i : ℕ) → lines_of_sets (take i texts) ≤ lines_of_sets texts
lines_few texts i =
    let whole = ap lines_of_sets (take-append-drop i texts) in
    let joined = lines_joined (take i texts) (drop i texts) in
    omega (arith, whole, joined)

pub lines_all : (texts : List (List Line)) (i : ℕ) → length texts ≤ i → lines_of_sets (take i texts) ≡ lines_of_sets texts
lines_all texts i l = ap lines_of_sets (take_all i texts l)

-- the same at a place
pub lines_there : (texts : List (List Line)) (i : ℕ) (x : List Line) → slice_get texts i ≡ Some x → lines_of_sets (take (i + 1) texts) ≡ lines_of_sets (take i texts) + (length x + 2)
lines_there texts i x e = lines_more texts i x (slice_get_within texts i x e) (sym (get_or_from_slice_get texts i x x e))

-- what holds of each text holds of the one at a place
pub text_at : (P : List Line → Type 0) (texts : List (List Line)) (k : ℕ) (x : List Line) → AllByRecursion P texts → slice_get texts k ≡ Some x → P x
text_at P [] k x h e = cc
text_at P (t ∷ ts) zero x h e = subst P (same e) h.0
  where
    same : Some t ≡ Some x → t ≡ x
    same e = cc
text_at P (t ∷ ts) (suc k) x h e = text_at P ts k x h.1 e

-- the lines of sets are among all lines
pub sets_within : (c : Certificate) → 5 + lines_of_sets c.traces ≤ line_of c (an_end part_bad)
sets_within c = omega arith

-- so are those up to a set and its text
pub room_at : (c : Certificate) (k line n : ℕ) (x : List Line) → line_of c (an_end part_bad) < 2 ^ 64 → line ≡ 4 + lines_of_sets (take k c.traces) → slice_get c.traces k ≡ Some x → n ≡ length x → line + (n + 2) < 2 ^ 64
room_at c k line n x few at there is =
    let within = sets_within c in
    let more = lines_there c.traces k x there in
    let all = lines_few c.traces (k + 1) in
    omega (arith, few, at, is, within, more, all)

pub line_next : (c : Certificate) (k line n : ℕ) (x : List Line) → line ≡ 4 + lines_of_sets (take k c.traces) → slice_get c.traces k ≡ Some x → n ≡ length x → line + (n + 2) ≡ 4 + lines_of_sets (take (k + 1) c.traces)
line_next c k line n x at there is =
    let more = lines_there c.traces k x there in
    omega (arith, at, is, more)
