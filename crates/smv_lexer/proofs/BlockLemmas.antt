-- The first `--/` of a text.
use Rattle.std.proofs.Common.{◌≡◌, ℕ, ◌+◌, ◌≤◌, true, false, List, [], ◌∷◌, ◌++◌, length, drop, Option, Some, None, sym, ap, ◌∙◌, refl, subst, ⊎_elim, arith, length-append, append_assoc, length-drop}
use Rattle.std.specs.Prelude.{nat_eq, codes}
use Rattle.std.specs.List.{starts_with}
use Rattle.std.specs.Option.{option_map}
use Rattle.std.specs.Str.{bytes_eq}
use Rattle.std.proofs.lemmas.List.{take-append-le}
use Rattle.smv_lexer.specs.Runs.{block_len}
use Rattle.smv_lexer.proofs.SignLemmas.{chosen_by, starts_with-begins, starts_with-append}
use Rattle.std.proofs.lemmas.Bool.{false_from_ne_true}

abbrev pub block_end : List ℕ
block_end = codes "--/"

-- where these bytes and an end stand, there is no earlier end
abbrev pub EndsFirst : List ℕ → Type 0
EndsFirst inner = (front back : List ℕ) → inner ++ block_end ≡ front ++ (block_end ++ back) → back ≡ []

pub nil_of_length : (xs : List ℕ) → length xs ≡ 0 → xs ≡ []
nil_of_length [] e = refl
nil_of_length (x ∷ xs) e = absurd (omega arith)

pub tail_same : (x y : ℕ) (xs ys : List ℕ) → x ∷ xs ≡ y ∷ ys → xs ≡ ys
tail_same x y xs ys e = ap (drop 1) e

ends_first_tail : (b : ℕ) (inner : List ℕ) → EndsFirst (b ∷ inner) → EndsFirst inner
ends_first_tail b inner first front back e = first (b ∷ front) back (ap (λ t. b ∷ t) e)

no_end_yet : (b : ℕ) (inner after : List ℕ) → EndsFirst (b ∷ inner) → starts_with nat_eq (((b ∷ inner) ++ block_end) ++ after) block_end ≡ false
no_end_yet b inner after first = false_from_ne_true _ (λ starts.
    let text = (b ∷ inner) ++ block_end in
    let long : 3 ≤ length ((b ∷ inner) ++ block_end) = omega (arith, length-append (b ∷ inner) block_end) in
    let here : starts_with nat_eq ((b ∷ inner) ++ block_end) block_end ≡ true = ap (bytes_eq block_end) (sym (take-append-le 3 ((b ∷ inner) ++ block_end) after long)) ∙ starts in
    let begins = starts_with-begins ((b ∷ inner) ++ block_end) block_end here in
    let empty : drop 3 ((b ∷ inner) ++ block_end) ≡ [] = first [] (drop 3 ((b ∷ inner) ++ block_end)) begins in
    omega (arith, ap length empty, length-drop 3 ((b ∷ inner) ++ block_end), length-append (b ∷ inner) block_end))

-- a first end is found
pub block_len-first : (inner after : List ℕ) → EndsFirst inner → block_len ((inner ++ block_end) ++ after) ≡ Some (length inner + 3)
block_len-first [] after first = refl
block_len-first (b ∷ inner) after first =
    rw (no_end_yet b inner after first) (ap (option_map (λ len. len + 1)) (block_len-first inner after (ends_first_tail b inner first)) ∙ ap (λ n. Some n) (omega arith))

-- the text up to a first end, and what follows
pub record BlockAt (bytes : List ℕ) (len : ℕ) : Type 0 where
  pub inner : List ℕ
  pub after : List ℕ
  pub spelled : bytes ≡ (inner ++ block_end) ++ after
  pub long : len ≡ length inner + 3
  pub first : EndsFirst inner

end_alone : EndsFirst []
end_alone front back e =
    nil_of_length back (omega (arith, ap length e, length-append front (block_end ++ back), length-append block_end back))

ends_first_more : (b : ℕ) (inner after : List ℕ) → starts_with nat_eq (((b ∷ inner) ++ block_end) ++ after) block_end ≡ false → EndsFirst inner → EndsFirst (b ∷ inner)
ends_first_more b inner after no_end first [] back e =
    let here : true ≡ false = sym (starts_with-append block_end (back ++ after)) ∙ ap (λ t. starts_with nat_eq t block_end) (sym (append_assoc block_end back after) ∙ ap (λ t. t ++ after) (sym e)) ∙ no_end in
    cc
ends_first_more b inner after no_end first (x ∷ front) back e = first front back (tail_same b x _ _ e)

block_of_next : (len : Option ℕ) (n : ℕ) → option_map (λ k. k + 1) len ≡ Some n → (m : ℕ) × (len ≡ Some m) × (n ≡ m + 1)
block_of_next None n e = cc
block_of_next (Some m) n e = (m, refl, cc)

-- what is found is a first end
pub block_len-some : (bytes : List ℕ) (len : ℕ) → block_len bytes ≡ Some len → BlockAt bytes len
block_len-some [] len some = cc
block_len-some (b ∷ bs) len some =
    ⊎_elim
    (λ here. record {
      inner = [];
      after = drop 3 (b ∷ bs);
      spelled = starts_with-begins (b ∷ bs) block_end here.0;
      long = cc (here.1);
      first = end_alone;
    })
    (λ miss.
    let next = block_of_next (block_len bs) len miss.1 in
    let rest = block_len-some bs next.0 next.1 in
    let spelled : b ∷ bs ≡ ((b ∷ rest.inner) ++ block_end) ++ rest.after = ap (λ t. b ∷ t) rest.spelled in
    record {
      inner = b ∷ rest.inner;
      after = rest.after;
      spelled = spelled;
      long = omega (arith, next.2, rest.long);
      first = ends_first_more b rest.inner rest.after (subst (λ t. starts_with nat_eq t block_end ≡ false) spelled miss.0) rest.first;
    })
    (chosen_by (starts_with nat_eq (b ∷ bs) block_end) (Some 3) (option_map (λ k. k + 1) (block_len bs)) (Some len) some)

none_of_next : (len : Option ℕ) → option_map (λ k. k + 1) len ≡ None → len ≡ None
none_of_next None e = refl
none_of_next (Some m) e = cc

-- where none is found, there is none
pub block_len-none : (bytes front back : List ℕ) → block_len bytes ≡ None → bytes ≡ front ++ (block_end ++ back) → ⊥
block_len-none [] front back none spelled = absurd (omega (arith, ap length spelled, length-append front (block_end ++ back), length-append block_end back))
block_len-none (b ∷ bs) [] back none spelled =
    let found : block_len (b ∷ bs) ≡ Some 3 = ap block_len spelled in cc
block_len-none (b ∷ bs) (x ∷ front) back none spelled =
    ⊎_elim
    (λ here. let clash : Some 3 ≡ None = here.1 in cc)
    (λ miss. block_len-none bs front back (none_of_next (block_len bs) miss.1) (tail_same b x bs (front ++ (block_end ++ back)) spelled))
    (chosen_by (starts_with nat_eq (b ∷ bs) block_end) (Some 3) (option_map (λ k. k + 1) (block_len bs)) None none)
