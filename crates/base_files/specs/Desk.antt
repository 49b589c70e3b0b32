-- What the calls of a desk do to what it tells. A desk that doesn't tell its files, or what was said, has none.
use Rattle.std.specs.Prelude.{◌≡◌, ◌⊎◌, ℕ, ◌+◌, ◌-◌, ◌^◌, ◌<◌, ◌≤◌, min, List, ◌++◌, length, take, drop, Option, None, IfSome, IsSomeAnd}
use Rattle.std.specs.Option.{option_map}
use Rattle.base_files.specs.declared.files.NamedFile.{NamedFile}
use Rattle.base_files.specs.Files.{file_of, content_of, with_file}

-- what a desk tells: its files and what was said, where it tells them; how often a call has failed, up to the end of a 64-bit number;
-- and that no call fails from here on
pub record Told : Type 1 where
  pub files : Option (List NamedFile)
  pub said : Option (List ℕ)
  pub faults : ℕ
  pub quiet : Type 0

-- what calls that only read leave of it: files and what was said; and where no call fails any more, none has failed
pub record OnlyReads (old new : Told) : Type 0 where
  pub files : new.files ≡ old.files
  pub said : new.said ≡ old.said
  pub later : old.faults ≤ new.faults
  pub quiet : old.quiet → new.quiet × (new.faults ≡ old.faults)

-- what calls leave that write to files and say nothing
pub record OnlyWrites (old new : Told) : Type 0 where
  pub said : new.said ≡ old.said
  pub later : old.faults ≤ new.faults
  pub quiet : old.quiet → new.quiet × (new.faults ≡ old.faults)

-- what calls leave that say something and write to no file
pub record OnlySays (old new : Told) : Type 0 where
  pub files : new.files ≡ old.files
  pub later : old.faults ≤ new.faults
  pub quiet : old.quiet → new.quiet × (new.faults ≡ old.faults)

-- what calls of any kind leave: it tells of no fewer failures than before, and where no call fails any more, of no more
pub record IsLater (old new : Told) : Type 0 where
  pub later : old.faults ≤ new.faults
  pub quiet : old.quiet → new.quiet × (new.faults ≡ old.faults)

-- the count rose, or stands at the end of its type
abbrev pub Rose : ℕ → ℕ → Type 0
Rose before now = min (before + 1) (2 ^ 64 - 1) ≤ now

-- so many bytes at the start of the buffer are those of the file from this place on, and none only at or past its end
pub record Reads (bytes : List ℕ) (at : ℕ) (buffer : List ℕ) (count : ℕ) : Type 0 where
  pub same : take count buffer ≡ take count (drop at bytes)
  pub within : count ≤ length bytes - at
  pub some : 0 < length buffer → at < length bytes → 0 < count

-- the told files have a file with this name, and the buffer has these bytes of it
abbrev pub ReadsFrom : Option (List NamedFile) → List ℕ → ℕ → List ℕ → ℕ → Type 0
ReadsFrom told name at buffer count =
    IfSome told (λ files. IsSomeAnd (file_of files name) (λ bytes. Reads bytes at buffer count))

-- the told files have no file with this name
abbrev pub HasNoFile : Option (List NamedFile) → List ℕ → Type 0
HasNoFile told name = IfSome told (λ files. file_of files name ≡ None)

-- what is told once the file has these bytes
abbrev pub told_with : Option (List NamedFile) → List ℕ → List ℕ → Option (List NamedFile)
told_with told name bytes = option_map (λ files. with_file files name bytes) told

-- what is told once these bytes were appended to the file, an empty one where there was none
abbrev pub told_longer : Option (List NamedFile) → List ℕ → List ℕ → Option (List NamedFile)
told_longer told name bytes = option_map (λ files. with_file files name (content_of files name ++ bytes)) told

-- a prefix of these bytes was appended to the file, or nothing was done
abbrev pub AppendsPrefix : Option (List NamedFile) → Option (List NamedFile) → List ℕ → List ℕ → Type 0
AppendsPrefix old new name bytes =
    (new ≡ old) ⊎ ((kept : ℕ) × (kept ≤ length bytes) × (new ≡ told_longer old name (take kept bytes)))

-- what is told to be said once these bytes were said too
abbrev pub said_more : Option (List ℕ) → List ℕ → Option (List ℕ)
said_more told bytes = option_map (λ said. said ++ bytes) told

-- a prefix of these bytes was said
abbrev pub SaysPrefix : Option (List ℕ) → Option (List ℕ) → List ℕ → Type 0
SaysPrefix old new bytes = (kept : ℕ) × (kept ≤ length bytes) × (new ≡ said_more old (take kept bytes))

-- the file has a prefix of these bytes, or nothing was done
abbrev pub WritesPrefix : Option (List NamedFile) → Option (List NamedFile) → List ℕ → List ℕ → Type 0
WritesPrefix old new name bytes =
    (new ≡ old) ⊎ ((kept : ℕ) × (kept ≤ length bytes) × (new ≡ told_with old name (take kept bytes)))
