-- A file that is written piece by piece.
use Rattle.std.proofs.Common.{◌≡◌, ℕ, ◌+◌, Bool, true, false, cond, List, [], ◌∷◌, ◌++◌, length, take, Option, Some, None, sym, ap, ◌∙◌, refl, inl, inr, arith, append_assoc, length-append}
use Rattle.std.specs.Str.{bytes_eq}
use Rattle.std.proofs.lemmas.List.{take-append-le}
use Rattle.std.proofs.Math.Seq.{take-append-add, take-append_seam}
use Rattle.base_files.specs.declared.files.NamedFile.{NamedFile}
use Rattle.base_files.specs.Files.{file_of, with_file}
use Rattle.base_files.specs.Desk.{told_with, told_longer, AppendsPrefix, WritesPrefix}
use Rattle.base_values.proofs.ListLaws.{bytes_eq-refl}

-- these bytes of the file are written, and the rest is left
pub record IsWritten (old new : Option (List NamedFile)) (name bytes rest : List ℕ) : Type 0 where
  pub done : List ℕ
  pub split : bytes ≡ done ++ rest
  pub told : new ≡ told_with old name done

file_of-at_test : (test : Bool) (file : NamedFile) (files : List NamedFile) (name bytes : List ℕ) → bytes_eq file.name name ≡ test → file_of (with_file files name bytes) name ≡ Some bytes → file_of (cond test (record { name = file.name; bytes = bytes } ∷ files) (file ∷ with_file files name bytes)) name ≡ Some bytes
file_of-at_test true file files name bytes same later = rw same refl
file_of-at_test false file files name bytes other later = rw other later

-- a file that was written has its bytes
pub file_of-with_file : (files : List NamedFile) (name bytes : List ℕ) → file_of (with_file files name bytes) name ≡ Some bytes
file_of-with_file [] name bytes = rw (bytes_eq-refl name) refl
file_of-with_file (file ∷ files) name bytes =
    file_of-at_test (bytes_eq file.name name) file files name bytes refl (file_of-with_file files name bytes)

with_file-at_test : (test : Bool) (file : NamedFile) (files : List NamedFile) (name first then : List ℕ) → bytes_eq file.name name ≡ test → with_file (with_file files name first) name then ≡ with_file files name then → with_file (cond test (record { name = file.name; bytes = first } ∷ files) (file ∷ with_file files name first)) name then ≡ cond test (record { name = file.name; bytes = then } ∷ files) (file ∷ with_file files name then)
with_file-at_test true file files name first then same later = rw same refl
with_file-at_test false file files name first then other later = rw other (ap (λ fs. file ∷ fs) later)

-- the last bytes that were written stand
pub with_file-with_file : (files : List NamedFile) (name first then : List ℕ) → with_file (with_file files name first) name then ≡ with_file files name then
with_file-with_file [] name first then = rw (bytes_eq-refl name) refl
with_file-with_file (file ∷ files) name first then =
    with_file-at_test (bytes_eq file.name name) file files name first then refl (with_file-with_file files name first then)

-- what is appended to a written file follows its bytes
pub told_longer-told_with : (told : Option (List NamedFile)) (name done more : List ℕ) → told_longer (told_with told name done) name more ≡ told_with told name (done ++ more)
told_longer-told_with None name done more = refl
told_longer-told_with (Some files) name done more =
    rw (file_of-with_file files name done, with_file-with_file files name done (done ++ more)) refl

pub IsWritten-more : (old mid new : Option (List NamedFile)) (name bytes rest piece after : List ℕ) → IsWritten old mid name bytes rest → rest ≡ piece ++ after → new ≡ told_longer mid name piece → IsWritten old new name bytes after
IsWritten-more old mid new name bytes rest piece after written cut appended =
    record {
      done = written.done ++ piece;
      split = written.split ∙ ap (λ r. written.done ++ r) cut ∙ sym (append_assoc written.done piece after);
      told = appended ∙ ap (λ told. told_longer told name piece) written.told ∙ told_longer-told_with old name written.done piece;
    }

-- a refusal in mid-file leaves a prefix of the bytes
pub WritesPrefix-refused : (old mid new : Option (List NamedFile)) (name bytes rest piece after : List ℕ) → IsWritten old mid name bytes rest → rest ≡ piece ++ after → AppendsPrefix mid new name piece → WritesPrefix old new name bytes
WritesPrefix-refused old mid new name bytes rest piece after written cut (inl same) =
    inr (length written.done, omega (arith, ap length written.split, length-append written.done rest), same ∙ written.told ∙ ap (told_with old name) (sym (ap (take (length written.done)) written.split ∙ take-append_seam written.done rest)))
WritesPrefix-refused old mid new name bytes rest piece after written cut (inr (kept, fits, appended)) =
    let prefix : take (length written.done + kept) bytes ≡ written.done ++ take kept piece =
    ap (take (length written.done + kept)) (written.split ∙ ap (λ r. written.done ++ r) cut) ∙ take-append-add written.done (piece ++ after) kept ∙ ap (λ p. written.done ++ p) (take-append-le kept piece after fits)
    in
    inr (length written.done + kept, omega (arith, ap length written.split, ap length cut, length-append written.done rest, length-append piece after), appended ∙ ap (λ told. told_longer told name (take kept piece)) written.told ∙ told_longer-told_with old name written.done (take kept piece) ∙ ap (told_with old name) (sym prefix))
