-- Lexemes that are read to the end spell the causes that are read.
use Rattle.std.proofs.Common.{◌≡◌, ℕ, Bool, true, false, List, [], ◌∷◌, ◌++◌, Option, Some, None, refl, sym, ◌∙◌, ap, subst}
use Rattle.std.specs.Prelude.{codes}
use Rattle.std.proofs.lemmas.List.{append-nil, append_assoc}
use Rattle.smv_lexer.specs.declared.token.TokenKind.TheVariants as k
use Rattle.smv_language.specs.Language.{Text, Path, Lexeme, word, num, sign, is_reserved, SpellsDotted, one_name, more_names, SpellsCommas, last_one, one_comma, no_more, one_more}
use Rattle.smv_expression_reader.specs.TreeBuilder.{name_in, number_in}
use Rattle.smv_expression_reader.specs.Places.{is_word}
use Rattle.smv_expression_reader.specs.Marks.{mark_of}
use Rattle.smv_expression_reader.proofs.Marks.{Marked, marked, word_there}
use Rattle.fault_cause_laws.specs.CausesText.{WrittenCause, SpellsCause, a_cause, SpellsCauses}
use Rattle.fault_causes_reader.specs.CauseStages.{Stage, start, named, within, first, dots, last, strikes, part, after, ReadSoFar, so_far, where_so, name_read, first_read, is_dots, last_read, part_read, cause_read, after_read, stepped, run}
use Rattle.fault_causes_reader.proofs.CausesReads.{run_none}
use Rattle.std.proofs.lemmas.Option.{same_Some as some_same}
use Rattle.smv_expression_reader.specs.declared.mark.Mark.{Mark}
use Rattle.smv_expression_reader.specs.declared.mark.Mark.TheVariants as mark

-- the rest of a fault's name, with the names behind it
data PartLeft : List Lexeme → Path → List Path → Type 0 where
  last_part : {ts : List Lexeme} {p : Path} → SpellsDotted ts p → PartLeft ts p []
  part_comma : {ts us : List Lexeme} {p : Path} {ps : List Path} → SpellsDotted ts p → SpellsCommas SpellsDotted us ps → PartLeft (ts ++ sign k.Comma ∷ us) p ps

-- and behind a part of it
data AfterLeft : List Lexeme → Path → List Path → Type 0 where
  no_part : AfterLeft [] [] []
  dot_part : {ts : List Lexeme} {p : Path} {ps : List Path} → PartLeft ts p ps → AfterLeft (sign k.Dot ∷ ts) p ps
  comma_part : {ts : List Lexeme} {ps : List Path} → SpellsCommas SpellsDotted ts ps → AfterLeft (sign k.Comma ∷ ts) [] ps

commas_of : {ts : List Lexeme} {p : Path} {ps : List Path} → PartLeft ts p ps → SpellsCommas SpellsDotted ts (p ∷ ps)
commas_of (last_part d) = last_one d
commas_of (part_comma d q) = one_comma d q

with_name : {y : Text} {ts : List Lexeme} {p : Path} {ps : List Path} → is_reserved y ≡ false → AfterLeft ts p ps → PartLeft (word y ∷ ts) (y ∷ p) ps
with_name h no_part = last_part (one_name h)
with_name h (dot_part (last_part d)) = last_part (more_names h d)
with_name h (dot_part (part_comma d q)) = part_comma (more_names h d) q
with_name h (comma_part q) = part_comma (one_name h) q

module _ (all : List WrittenCause) where
  -- the causes that are left, behind those before
  record StartRest (bs : List WrittenCause) (ts : List Lexeme) : Type 0 where
    causes : List WrittenCause
    spelled : SpellsCauses ts causes
    whole : all ≡ bs ++ causes

  record AfterRest (x : Text) (a b : ℕ) (done : List Path) (path : Path) (bs : List WrittenCause) (ts : List Lexeme) : Type 0 where
    front : List Lexeme
    rest : List Lexeme
    more : Path
    others : List Path
    left : AfterLeft front more others
    in_order : ts ≡ front ++ sign k.Semicolon ∷ rest
    behind : StartRest (bs ++ cause_read x a b (done ++ (path ++ more) ∷ others) ∷ []) rest

  record PartRest (x : Text) (a b : ℕ) (done : List Path) (path : Path) (bs : List WrittenCause) (ts : List Lexeme) : Type 0 where
    front : List Lexeme
    rest : List Lexeme
    more : Path
    others : List Path
    left : PartLeft front more others
    in_order : ts ≡ front ++ sign k.Semicolon ∷ rest
    behind : StartRest (bs ++ cause_read x a b (done ++ (path ++ more) ∷ others) ∷ []) rest

  record StrikesRest (x : Text) (a b : ℕ) (bs : List WrittenCause) (ts : List Lexeme) : Type 0 where
    rest : List Lexeme
    in_order : ts ≡ word (codes "STRIKES") ∷ rest
    behind : PartRest x a b [] [] bs rest

  record LastRest (x : Text) (a : ℕ) (bs : List WrittenCause) (ts : List Lexeme) : Type 0 where
    number : ℕ
    digits : List ℕ
    rest : List Lexeme
    in_order : ts ≡ num number digits ∷ rest
    behind : StrikesRest x a number bs rest

  record DotsRest (x : Text) (a : ℕ) (bs : List WrittenCause) (ts : List Lexeme) : Type 0 where
    rest : List Lexeme
    in_order : ts ≡ sign k.Dots ∷ rest
    behind : LastRest x a bs rest

  record FirstRest (x : Text) (bs : List WrittenCause) (ts : List Lexeme) : Type 0 where
    number : ℕ
    digits : List ℕ
    rest : List Lexeme
    in_order : ts ≡ num number digits ∷ rest
    behind : DotsRest x number bs rest

  record WithinRest (x : Text) (bs : List WrittenCause) (ts : List Lexeme) : Type 0 where
    rest : List Lexeme
    in_order : ts ≡ word (codes "WITHIN") ∷ rest
    behind : FirstRest x bs rest

  record NamedRest (bs : List WrittenCause) (ts : List Lexeme) : Type 0 where
    name : Text
    plain : is_reserved name ≡ false
    rest : List Lexeme
    in_order : ts ≡ word name ∷ rest
    behind : WithinRest name bs rest

  -- what is left at each stage
  abbrev Left : Stage → List WrittenCause → List Lexeme → Type 0
  Left start bs ts = StartRest bs ts
  Left named bs ts = NamedRest bs ts
  Left (within x) bs ts = WithinRest x bs ts
  Left (first x) bs ts = FirstRest x bs ts
  Left (dots x a) bs ts = DotsRest x a bs ts
  Left (last x a) bs ts = LastRest x a bs ts
  Left (strikes x a b) bs ts = StrikesRest x a b bs ts
  Left (part x a b done path) bs ts = PartRest x a b done path bs ts
  Left (after x a b done path) bs ts = AfterRest x a b done path bs ts

  -- reading ends with all causes
  abbrev Ends : Option ReadSoFar → List Lexeme → Type 0
  Ends o ts = run o ts ≡ Some (so_far start all)

  never : (ts : List Lexeme) → Ends None ts → ⊥
  never ts e = let clash : None ≡ Some (so_far start all) = sym (run_none ts) ∙ e in cc

  where_left : (c : Bool) (s : Stage) (bs : List WrittenCause) (ts : List Lexeme) → Ends (where_so c s bs) ts → (c ≡ true) × Ends (Some (so_far s bs)) ts
  where_left true s bs ts e = (refl, e)
  where_left false s bs ts e = absurd (never ts e)

  name_left : (c : Mark) (t : Lexeme) (bs : List WrittenCause) (ts : List Lexeme) → Marked c t → Ends (name_read c t bs) ts →
      (x : Text) × (t ≡ word x) × (is_reserved x ≡ false) × Ends (Some (so_far (within x) bs)) ts
  unfolding Marked
  name_left mark.Name t bs ts m e = (m.0, m.1, m.2, subst (λ z. Ends (Some (so_far (within z) bs)) ts) (ap name_in m.1) e)
  name_left c t bs ts m e = absurd (never ts e)

  first_left : (c : Mark) (x : Text) (t : Lexeme) (bs : List WrittenCause) (ts : List Lexeme) → Marked c t → Ends (first_read c x t bs) ts →
      (n : ℕ) × (d : List ℕ) × (t ≡ num n d) × Ends (Some (so_far (dots x n) bs)) ts
  unfolding Marked
  first_left mark.Number x t bs ts m e = (m.0, m.1, m.2, subst (λ z. Ends (Some (so_far (dots x z) bs)) ts) (ap number_in m.2) e)
  first_left c x t bs ts m e = absurd (never ts e)

  last_left : (c : Mark) (x : Text) (a : ℕ) (t : Lexeme) (bs : List WrittenCause) (ts : List Lexeme) → Marked c t → Ends (last_read c x a t bs) ts →
      (n : ℕ) × (d : List ℕ) × (t ≡ num n d) × Ends (Some (so_far (strikes x a n) bs)) ts
  unfolding Marked
  last_left mark.Number x a t bs ts m e = (m.0, m.1, m.2, subst (λ z. Ends (Some (so_far (strikes x a z) bs)) ts) (ap number_in m.2) e)
  last_left c x a t bs ts m e = absurd (never ts e)

  dots_there : (c : Mark) (t : Lexeme) → Marked c t → is_dots c ≡ true → t ≡ sign k.Dots
  unfolding Marked
  dots_there mark.Dots t m h = m
  dots_there c t m h = cc

  module _ (x : Text) (a b : ℕ) (done : List Path) (path : Path) (bs : List WrittenCause) (ts : List Lexeme) where
    part_left : (c : Mark) (t : Lexeme) → Marked c t → Ends (part_read c x a b done path t bs) ts →
        (y : Text) × (t ≡ word y) × (is_reserved y ≡ false) × Ends (Some (so_far (after x a b done (path ++ y ∷ [])) bs)) ts
    unfolding Marked
    part_left mark.Name t m e = (m.0, m.1, m.2, subst (λ z. Ends (Some (so_far (after x a b done (path ++ z ∷ [])) bs)) ts) (ap name_in m.1) e)
    part_left c t m e = absurd (never ts e)

    -- behind a part of a name
    data AfterStep (t : Lexeme) : Type 0 where
      at_dot : t ≡ sign k.Dot → Ends (Some (so_far (part x a b done path) bs)) ts → AfterStep t
      at_comma : t ≡ sign k.Comma → Ends (Some (so_far (part x a b (done ++ path ∷ []) []) bs)) ts → AfterStep t
      at_end : t ≡ sign k.Semicolon → Ends (Some (so_far start (bs ++ cause_read x a b (done ++ path ∷ []) ∷ []))) ts → AfterStep t

    after_left : (c : Mark) (t : Lexeme) → Marked c t → Ends (after_read c x a b done path bs) ts → AfterStep t
    unfolding Marked
    after_left mark.Dot t m e = at_dot m e
    after_left mark.Comma t m e = at_comma m e
    after_left mark.Semicolon t m e = at_end m e
    after_left c t m e = absurd (never ts e)

    -- the list of strikes when the part's name is done
    same_strikes : (p q : List Path) → p ≡ q → {rest : List Lexeme} → StartRest (bs ++ cause_read x a b p ∷ []) rest → StartRest (bs ++ cause_read x a b q ∷ []) rest
    same_strikes p q e {rest} h = subst (λ z. StartRest (bs ++ cause_read x a b z ∷ []) rest) e h

    dot_rest : PartRest x a b done path bs ts → AfterRest x a b done path bs (sign k.Dot ∷ ts)
    dot_rest r = record {
      front = sign k.Dot ∷ r.front;
      rest = r.rest;
      more = r.more;
      others = r.others;
      left = dot_part r.left;
      in_order = ap (λ z. sign k.Dot ∷ z) r.in_order;
      behind = r.behind;
    }

    comma_rest : PartRest x a b (done ++ path ∷ []) [] bs ts → AfterRest x a b done path bs (sign k.Comma ∷ ts)
    comma_rest r = record {
      front = sign k.Comma ∷ r.front;
      rest = r.rest;
      more = [];
      others = r.more ∷ r.others;
      left = comma_part (commas_of r.left);
      in_order = ap (λ z. sign k.Comma ∷ z) r.in_order;
      behind = same_strikes ((done ++ path ∷ []) ++ r.more ∷ r.others) (done ++ (path ++ []) ∷ r.more ∷ r.others)
          (append_assoc done (path ∷ []) (r.more ∷ r.others) ∙ ap (λ z. done ++ z ∷ r.more ∷ r.others) (sym (append-nil path))) r.behind;
    }

    end_rest : StartRest (bs ++ cause_read x a b (done ++ path ∷ []) ∷ []) ts → AfterRest x a b done path bs (sign k.Semicolon ∷ ts)
    end_rest r = record {
      front = [];
      rest = ts;
      more = [];
      others = [];
      left = no_part;
      in_order = refl;
      behind = same_strikes (done ++ path ∷ []) (done ++ (path ++ []) ∷ []) (ap (λ z. done ++ z ∷ []) (sym (append-nil path))) r;
    }

    name_rest : (y : Text) → is_reserved y ≡ false → AfterRest x a b done (path ++ y ∷ []) bs ts → PartRest x a b done path bs (word y ∷ ts)
    name_rest y h r = record {
      front = word y ∷ r.front;
      rest = r.rest;
      more = y ∷ r.more;
      others = r.others;
      left = with_name h r.left;
      in_order = ap (λ z. word y ∷ z) r.in_order;
      behind = same_strikes (done ++ ((path ++ y ∷ []) ++ r.more) ∷ r.others) (done ++ (path ++ y ∷ r.more) ∷ r.others) (ap (λ z. done ++ z ∷ r.others) (append_assoc path (y ∷ []) r.more)) r.behind;
    }

  -- a cause, from its name on, and the causes behind it
  cause_rest : (bs : List WrittenCause) (ts : List Lexeme) → NamedRest bs ts → StartRest bs (word (codes "CAUSE") ∷ ts)
  cause_rest bs ts n =
      let w = n.behind in let f = w.behind in let d = f.behind in let l = d.behind in let s = l.behind in let p = s.behind in let r = p.behind in
      let c : WrittenCause = cause_read n.name f.number l.number (p.more ∷ p.others) in
      let one : SpellsCause (word (codes "CAUSE") ∷ word n.name ∷ word (codes "WITHIN") ∷ num f.number f.digits ∷ sign k.Dots ∷ num l.number l.digits ∷ word (codes "STRIKES") ∷ (p.front ++ sign k.Semicolon ∷ [])) c =
      a_cause n.plain (commas_of p.left) in
      let behind : p.front ++ sign k.Semicolon ∷ p.rest ≡ (p.front ++ sign k.Semicolon ∷ []) ++ p.rest = sym (append_assoc p.front (sign k.Semicolon ∷ []) p.rest) in
      let order : ts ≡ word n.name ∷ word (codes "WITHIN") ∷ num f.number f.digits ∷ sign k.Dots ∷ num l.number l.digits ∷ word (codes "STRIKES") ∷ ((p.front ++ sign k.Semicolon ∷ []) ++ p.rest) =
      n.in_order ∙ ap (λ z. word n.name ∷ z) (w.in_order ∙ ap (λ z. word (codes "WITHIN") ∷ z) (f.in_order ∙ ap (λ z. num f.number f.digits ∷ z) (d.in_order ∙ ap (λ z. sign k.Dots ∷ z)
      (l.in_order ∙ ap (λ z. num l.number l.digits ∷ z) (s.in_order ∙ ap (λ z. word (codes "STRIKES") ∷ z) (p.in_order ∙ behind)))))) in
      record {
        causes = c ∷ r.causes;
        spelled = subst (λ z. SpellsCauses (word (codes "CAUSE") ∷ z) (c ∷ r.causes)) (sym order) (one_more one r.spelled);
        whole = r.whole ∙ append_assoc bs (c ∷ []) r.causes;
      }

  -- one lexeme, and what is left behind it
  left_step : (s : Stage) (bs : List WrittenCause) (t : Lexeme) (ts : List Lexeme) → ((r : Stage) (cs : List WrittenCause) → Ends (Some (so_far r cs)) ts → Left r cs ts) →
      Ends (stepped s bs t) ts → Left s bs (t ∷ ts)
  left_step start bs t ts rest e =
      let h = where_left (is_word t (codes "CAUSE")) named bs ts e in
      subst (λ z. StartRest bs (z ∷ ts)) (sym (word_there t (codes "CAUSE") h.0)) (cause_rest bs ts (rest named bs h.1))
  left_step named bs t ts rest e =
      let h = name_left (mark_of t) t bs ts (marked t) e in
      record { name = h.0; plain = h.2; rest = ts; in_order = ap (λ z. z ∷ ts) h.1; behind = rest (within h.0) bs h.3 }
  left_step (within x) bs t ts rest e =
      let h = where_left (is_word t (codes "WITHIN")) (first x) bs ts e in
      record { rest = ts; in_order = ap (λ z. z ∷ ts) (word_there t (codes "WITHIN") h.0); behind = rest (first x) bs h.1 }
  left_step (first x) bs t ts rest e =
      let h = first_left (mark_of t) x t bs ts (marked t) e in
      record { number = h.0; digits = h.1; rest = ts; in_order = ap (λ z. z ∷ ts) h.2; behind = rest (dots x h.0) bs h.3 }
  left_step (dots x a) bs t ts rest e =
      let h = where_left (is_dots (mark_of t)) (last x a) bs ts e in
      record { rest = ts; in_order = ap (λ z. z ∷ ts) (dots_there (mark_of t) t (marked t) h.0); behind = rest (last x a) bs h.1 }
  left_step (last x a) bs t ts rest e =
      let h = last_left (mark_of t) x a t bs ts (marked t) e in
      record { number = h.0; digits = h.1; rest = ts; in_order = ap (λ z. z ∷ ts) h.2; behind = rest (strikes x a h.0) bs h.3 }
  left_step (strikes x a b) bs t ts rest e =
      let h = where_left (is_word t (codes "STRIKES")) (part x a b [] []) bs ts e in
      record { rest = ts; in_order = ap (λ z. z ∷ ts) (word_there t (codes "STRIKES") h.0); behind = rest (part x a b [] []) bs h.1 }
  left_step (part x a b done path) bs t ts rest e =
      let h = part_left x a b done path bs ts (mark_of t) t (marked t) e in
      subst (λ z. PartRest x a b done path bs (z ∷ ts)) (sym h.1) (name_rest x a b done path bs ts h.0 h.2 (rest (after x a b done (path ++ h.0 ∷ [])) bs h.3))
  left_step (after x a b done path) bs t ts rest e = go (after_left x a b done path bs ts (mark_of t) t (marked t) e)
    where
      go : AfterStep x a b done path bs ts t → AfterRest x a b done path bs (t ∷ ts)
      go (at_dot is more) = subst (λ z. AfterRest x a b done path bs (z ∷ ts)) (sym is) (dot_rest x a b done path bs ts (rest (part x a b done path) bs more))
      go (at_comma is more) = subst (λ z. AfterRest x a b done path bs (z ∷ ts)) (sym is) (comma_rest x a b done path bs ts (rest (part x a b (done ++ path ∷ []) []) bs more))
      go (at_end is more) = subst (λ z. AfterRest x a b done path bs (z ∷ ts)) (sym is) (end_rest x a b done path bs ts (rest start (bs ++ cause_read x a b (done ++ path ∷ []) ∷ []) more))

  -- at the end of the list
  ended_at : (s : Stage) (bs : List WrittenCause) → s ≡ start → bs ≡ all → Left s bs []
  ended_at start bs e same = record { causes = []; spelled = no_more; whole = sym same ∙ sym (append-nil bs) }
  ended_at named bs e same = cc
  ended_at (within x) bs e same = cc
  ended_at (first x) bs e same = cc
  ended_at (dots x a) bs e same = cc
  ended_at (last x a) bs e same = cc
  ended_at (strikes x a b) bs e same = cc
  ended_at (part x a b done path) bs e same = cc
  ended_at (after x a b done path) bs e same = cc

  left_end : (s : Stage) (bs : List WrittenCause) → Some (so_far s bs) ≡ Some (so_far start all) → Left s bs []
  left_end s bs e = let is = some_same (so_far s bs) (so_far start all) e in ended_at s bs (ap (λ z. z.stage) is) (ap (λ z. z.causes) is)

  left_of : (s : Stage) (bs : List WrittenCause) (ts : List Lexeme) → Ends (Some (so_far s bs)) ts → Left s bs ts
  left_of s bs [] e = left_end s bs e
  left_of s bs (t ∷ ts) e = left_step s bs t ts (λ r cs h. left_of r cs ts h) e

  pub spelled_of : (ts : List Lexeme) → Ends (Some (so_far start [])) ts → SpellsCauses ts all
  spelled_of ts e = let r = left_of start [] ts e in subst (SpellsCauses ts) (sym r.whole) r.spelled
