-- A text that is said piece by piece.
use Rattle.std.proofs.Common.{◌≡◌, ℕ, ◌+◌, List, ◌++◌, length, take, Option, Some, None, sym, ap, ◌∙◌, refl, arith, append_assoc, length-append}
use Rattle.std.proofs.Math.Seq.{take-append-add}
use Rattle.std.proofs.lemmas.List.{take-append-le}
use Rattle.base_files.specs.Desk.{said_more, SaysPrefix}

-- these bytes are said, and the rest is left
pub record IsSaid (old new : Option (List ℕ)) (bytes rest : List ℕ) : Type 0 where
  pub done : List ℕ
  pub split : bytes ≡ done ++ rest
  pub told : new ≡ said_more old done

-- what is said in two parts
pub said_more-said_more : (told : Option (List ℕ)) (done more : List ℕ) → said_more (said_more told done) more ≡ said_more told (done ++ more)
said_more-said_more None done more = refl
said_more-said_more (Some said) done more = ap (λ s. Some s) (append_assoc said done more)

pub IsSaid-more : (old mid new : Option (List ℕ)) (bytes rest piece after : List ℕ) → IsSaid old mid bytes rest → rest ≡ piece ++ after → new ≡ said_more mid piece → IsSaid old new bytes after
IsSaid-more old mid new bytes rest piece after said cut more =
    record {
      done = said.done ++ piece;
      split = said.split ∙ ap (λ r. said.done ++ r) cut ∙ sym (append_assoc said.done piece after);
      told = more ∙ ap (λ told. said_more told piece) said.told ∙ said_more-said_more old said.done piece;
    }

-- a refusal in mid-text leaves a prefix of the bytes
pub SaysPrefix-refused : (old mid new : Option (List ℕ)) (bytes rest piece after : List ℕ) → IsSaid old mid bytes rest → rest ≡ piece ++ after → SaysPrefix mid new piece → SaysPrefix old new bytes
SaysPrefix-refused old mid new bytes rest piece after said cut (kept, fits, more) =
    let prefix : take (length said.done + kept) bytes ≡ said.done ++ take kept piece =
    ap (take (length said.done + kept)) (said.split ∙ ap (λ r. said.done ++ r) cut) ∙ take-append-add said.done (piece ++ after) kept ∙ ap (λ p. said.done ++ p) (take-append-le kept piece after fits)
    in
    (length said.done + kept, omega (arith, ap length said.split, ap length cut, length-append said.done rest, length-append piece after), more ∙ ap (λ told. said_more told (take kept piece)) said.told ∙ said_more-said_more old said.done (take kept piece) ∙ ap (said_more old) (sym prefix))
