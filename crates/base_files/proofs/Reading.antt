-- A file that is read piece by piece.
use Rattle.std.proofs.Common.{◌≡◌, ℕ, ◌+◌, ◌≤◌, List, [], ◌++◌, length, take, drop, Option, Some, None, unwrap_or, sym, ap, ◌∙◌, arith, length-append, length-take-le}
use Rattle.std.specs.Prelude.{IfSome, IsSomeAnd}
use Rattle.std.proofs.Math.Seq.{take-add}
use Rattle.base_files.specs.declared.files.NamedFile.{NamedFile}
use Rattle.base_files.specs.Files.{file_of, content_of}
use Rattle.base_files.specs.Desk.{Reads, ReadsFrom}

-- these bytes are the prefix of the told file
abbrev pub IsPrefixOf : Option (List NamedFile) → List ℕ → List ℕ → Type 0
IsPrefixOf told name bytes = IfSome told (λ files. bytes ≡ take (length bytes) (content_of files name))

more_of_file : (file : Option (List ℕ)) (bytes buffer : List ℕ) (count : ℕ) → count ≤ length buffer → bytes ≡ take (length bytes) (unwrap_or file []) → IsSomeAnd file (λ whole. Reads whole (length bytes) buffer count) → bytes ++ take count buffer ≡ take (length (bytes ++ take count buffer)) (unwrap_or file [])
more_of_file None bytes buffer count fits prefix reads = absurd reads
more_of_file (Some whole) bytes buffer count fits prefix reads =
    let longer : length (bytes ++ take count buffer) ≡ length bytes + count = omega (arith, length-append bytes (take count buffer), length-take-le count buffer fits) in
    let joined : bytes ++ take count buffer ≡ take (length bytes) whole ++ take count (drop (length bytes) whole) = cc (prefix, reads.same) in
    joined ∙ sym (take-add (length bytes) count whole) ∙ ap (λ n. take n whole) (sym longer)

-- what was read next makes the prefix longer
pub IsPrefixOf-more : (told : Option (List NamedFile)) (name bytes buffer : List ℕ) (count : ℕ) → count ≤ length buffer → IsPrefixOf told name bytes → ReadsFrom told name (length bytes) buffer count → IsPrefixOf told name (bytes ++ take count buffer)
IsPrefixOf-more None name bytes buffer count fits prefix reads = tt
IsPrefixOf-more (Some files) name bytes buffer count fits prefix reads = more_of_file (file_of files name) bytes buffer count fits prefix reads
