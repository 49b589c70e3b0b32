-- What the definitions give for small values.
use Rattle.std.proofs.Common.{◌≡◌, List, [], ◌∷◌, Some, None, refl}
use Rattle.std.specs.Prelude.{codes}
use Rattle.base_files.specs.declared.files.NamedFile.{NamedFile}
use Rattle.base_files.specs.declared.fails.CallKind.TheVariants.{Read, Append}
use Rattle.base_files.specs.declared.fails.Fail.{Fail}
use Rattle.base_files.specs.Files.{file_of, with_file}
use Rattle.base_files.specs.Desk.{told_longer, said_more}
use Rattle.base_files.specs.Memory.{kept_at}

abbrev two_files : List NamedFile
two_files = record { name = codes "a"; bytes = codes "x" } ∷ record { name = codes "a"; bytes = codes "y" } ∷ []

abbrev two_fails : List Fail
two_fails = record { call = Append; nth = 2; kept = 5 } ∷ record { call = Append; nth = 2; kept = 9 } ∷ []

-- of two files with one name the first counts
first_file : file_of two_files (codes "a") ≡ Some (codes "x")
first_file = refl

-- a file keeps its place
same_place : with_file two_files (codes "a") (codes "z") ≡ record { name = codes "a"; bytes = codes "z" } ∷ record { name = codes "a"; bytes = codes "y" } ∷ []
same_place = refl

-- what is appended to no file makes one
new_file : told_longer (Some []) (codes "b") (codes "z") ≡ Some (record { name = codes "b"; bytes = codes "z" } ∷ [])
new_file = refl

-- a desk that tells nothing goes on telling nothing
untold : said_more None (codes "z") ≡ None
untold = refl

-- the first fail that names the call counts, and no other call fails
first_fail : kept_at two_fails Append 2 ≡ Some 5
first_fail = refl

no_fail : kept_at two_fails Read 2 ≡ None
no_fail = refl
