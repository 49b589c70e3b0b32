-- What is read of lexemes that spell causes: these causes.
use Rattle.std.proofs.Common.{◌≡◌, ℕ, false, List, [], ◌∷◌, ◌++◌, Option, Some, None, refl, sym, ◌∙◌, ap}
use Rattle.std.specs.Prelude.{codes}
use Rattle.std.proofs.lemmas.List.{append-nil, append_assoc}
use Rattle.smv_lexer.specs.declared.token.TokenKind.TheVariants as k
use Rattle.smv_language.specs.Language.{Text, Path, Lexeme, word, num, sign, is_reserved, SpellsDotted, one_name, more_names, SpellsCommas, last_one, one_comma, no_more, one_more}
use Rattle.smv_expression_reader.proofs.Marks.{mark_of_name}
use Rattle.fault_cause_laws.specs.CausesText.{WrittenCause, SpellsCause, a_cause, SpellsCauses}
use Rattle.fault_causes_reader.specs.CauseStages.{start, named, within, part, after, ReadSoFar, so_far, name_read, part_read, cause_read, read_more, run}

-- reading, one list after another
pub run_append : (o : Option ReadSoFar) (xs ys : List Lexeme) → run o (xs ++ ys) ≡ run (run o xs) ys
run_append o [] ys = refl
run_append o (x ∷ xs) ys = run_append (read_more o x) xs ys

pub run_none : (ts : List Lexeme) → run None ts ≡ None
run_none [] = refl
run_none (t ∷ ts) = run_none ts

module _ (x : Text) (a b : ℕ) (cs : List WrittenCause) where
  name_part : (done : List Path) (path : Path) (y : Text) → is_reserved y ≡ false →
      read_more (Some (so_far (part x a b done path) cs)) (word y) ≡ Some (so_far (after x a b done (path ++ y ∷ [])) cs)
  name_part done path y h = ap (λ m. part_read m x a b done path (word y) cs) (mark_of_name y h)

  -- a fault's name, behind the parts before it
  dotted_read : (done : List Path) (path : Path) {ts : List Lexeme} {p : Path} → SpellsDotted ts p → (us : List Lexeme) →
      run (Some (so_far (part x a b done path) cs)) (ts ++ us) ≡ run (Some (so_far (after x a b done (path ++ p)) cs)) us
  dotted_read done path (one_name {x = y} h) us = ap (λ o. run o us) (name_part done path y h)
  dotted_read done path (more_names {x = y} {ts = ts} {p = p} h d) us =
      ap (λ o. run o (sign k.Dot ∷ (ts ++ us))) (name_part done path y h)
      ∙ dotted_read done (path ++ y ∷ []) d us
      ∙ ap (λ q. run (Some (so_far (after x a b done q) cs)) us) (append_assoc path (y ∷ []) p)

  -- the names of faults up to the semicolon
  commas_read : (done : List Path) {ts : List Lexeme} {ps : List Path} → SpellsCommas SpellsDotted ts ps → (us : List Lexeme) →
      run (Some (so_far (part x a b done []) cs)) (ts ++ sign k.Semicolon ∷ us) ≡ run (Some (so_far start (cs ++ cause_read x a b (done ++ ps) ∷ []))) us
  commas_read done (last_one d) us = dotted_read done [] d (sign k.Semicolon ∷ us)
  commas_read done (one_comma {ts = ts} {us = vs} {a = p} {more = ps} d q) us =
      ap (run (Some (so_far (part x a b done []) cs))) (append_assoc ts (sign k.Comma ∷ vs) (sign k.Semicolon ∷ us))
      ∙ dotted_read done [] d (sign k.Comma ∷ (vs ++ sign k.Semicolon ∷ us))
      ∙ commas_read (done ++ p ∷ []) q us
      ∙ ap (λ z. run (Some (so_far start (cs ++ cause_read x a b z ∷ []))) us) (append_assoc done (p ∷ []) ps)

name_cause : (cs : List WrittenCause) (x : Text) → is_reserved x ≡ false → read_more (Some (so_far named cs)) (word x) ≡ Some (so_far (within x) cs)
name_cause cs x h = ap (λ m. name_read m (word x) cs) (mark_of_name x h)

-- a cause
cause_is_read : (cs : List WrittenCause) {ts : List Lexeme} {c : WrittenCause} → SpellsCause ts c → (us : List Lexeme) →
    run (Some (so_far start cs)) (ts ++ us) ≡ run (Some (so_far start (cs ++ c ∷ []))) us
cause_is_read cs (a_cause {x} {a} {b} {from} {to} {ts} {strikes} h q) us =
    ap (λ o. run o (word (codes "WITHIN") ∷ num from a ∷ sign k.Dots ∷ num to b ∷ word (codes "STRIKES") ∷ ((ts ++ sign k.Semicolon ∷ []) ++ us))) (name_cause cs x h)
    ∙ ap (run (Some (so_far (part x from to [] []) cs))) (append_assoc ts (sign k.Semicolon ∷ []) us)
    ∙ commas_read x from to cs [] q us

-- causes, behind those before them
pub causes_are_read : (cs : List WrittenCause) {ts : List Lexeme} {ds : List WrittenCause} → SpellsCauses ts ds → run (Some (so_far start cs)) ts ≡ Some (so_far start (cs ++ ds))
causes_are_read cs no_more = ap (λ z. Some (so_far start z)) (sym (append-nil cs))
causes_are_read cs (one_more {ts = ts} {us = us} {a = d} {more = ds} p q) =
    cause_is_read cs p us ∙ causes_are_read (cs ++ d ∷ []) q ∙ ap (λ z. Some (so_far start z)) (append_assoc cs (d ∷ []) ds)
