-- Files by their names, in a list in which the first of two entries with one name counts.
use Rattle.std.specs.Prelude.{ℕ, ◌+◌, List, [], ◌∷◌, Option, Some, None, if◌then◌else◌, unwrap_or}
use Rattle.std.specs.Option.{option_map}
use Rattle.std.specs.Str.{bytes_eq}
use Rattle.base_files.specs.declared.files.NamedFile.{NamedFile}

-- the bytes of the file with this name, if there is one
abbrev pub file_of : List NamedFile → List ℕ → Option (List ℕ)
file_of [] name = None
file_of (file ∷ files) name = if bytes_eq file.name name then Some file.bytes else file_of files name

-- the bytes of the file with this name, and none where there is no such file
abbrev pub content_of : List NamedFile → List ℕ → List ℕ
content_of files name = unwrap_or (file_of files name) []

-- where the file with this name stands
abbrev pub place_of : List NamedFile → List ℕ → Option ℕ
place_of [] name = None
place_of (file ∷ files) name =
    if bytes_eq file.name name then Some 0 else option_map (λ place. place + 1) (place_of files name)

-- the files after this one was written, in its old place or else at the end
abbrev pub with_file : List NamedFile → List ℕ → List ℕ → List NamedFile
with_file [] name bytes = record { name = name; bytes = bytes } ∷ []
with_file (file ∷ files) name bytes =
    if bytes_eq file.name name then record { name = file.name; bytes = bytes } ∷ files
    else file ∷ with_file files name bytes
