-- Where a file stands in a list of files.
use Rattle.std.proofs.Common.{◌≡◌, ℕ, ◌+◌, ◌<◌, Bool, true, false, cond, List, [], ◌∷◌, ◌++◌, length, get_or, set, Option, Some, None, sym, ap, ◌∙◌, refl, subst, arith, add-one}
use Rattle.std.specs.Option.{option_map}
use Rattle.std.specs.Str.{bytes_eq}
use Rattle.base_files.specs.declared.files.NamedFile.{NamedFile}
use Rattle.base_files.specs.Files.{file_of, place_of, with_file}

-- the file with this name is the one at this place
pub record StandsAt (files : List NamedFile) (name : List ℕ) (place : ℕ) (file : NamedFile) : Type 0 where
  pub within : place < length files
  pub found : file_of files name ≡ Some file.bytes
  pub written : (bytes : List ℕ) → with_file files name bytes ≡ set files place (record { name = file.name; bytes = bytes })

before_next : (o : Option ℕ) (place : ℕ) → option_map (λ p. p + 1) o ≡ Some place → (p : ℕ) × (o ≡ Some p) × (place ≡ p + 1)
before_next None place same = cc
before_next (Some p) place same = (p, refl, cc)

stands_first : (first file : NamedFile) (files : List NamedFile) (name : List ℕ) → bytes_eq first.name name ≡ true → file ≡ first → StandsAt (first ∷ files) name 0 file
stands_first first file files name same is = record {
  within = omega arith;
  found = rw (same, is) refl;
  written = λ bytes. rw (same, is) refl;
}

stands_later : (first file : NamedFile) (files : List NamedFile) (name : List ℕ) (p : ℕ) → bytes_eq first.name name ≡ false → StandsAt files name p file → StandsAt (first ∷ files) name (p + 1) file
stands_later first file files name p other stands = record {
  within = omega (arith, stands.within);
  found = rw other stands.found;
  written = λ bytes. rw (other, add-one) (ap (λ fs. first ∷ fs) (stands.written bytes));
}

stands_by_test : (test : Bool) (first file : NamedFile) (files : List NamedFile) (name : List ℕ) (place : ℕ) → bytes_eq first.name name ≡ test → cond test (Some 0) (option_map (λ p. p + 1) (place_of files name)) ≡ Some place → file ≡ get_or (first ∷ files) place file → ((p : ℕ) → place_of files name ≡ Some p → file ≡ get_or files p file → StandsAt files name p file) → StandsAt (first ∷ files) name place file
stands_by_test true first file files name place same found is later =
    let here : 0 ≡ place = cc in
    subst (λ p. StandsAt (first ∷ files) name p file) here (stands_first first file files name same (subst (λ p. file ≡ get_or (first ∷ files) p file) (sym here) is))
stands_by_test false first file files name place other found is later =
    let next = before_next (place_of files name) place found in
    let there : file ≡ get_or files next.0 file = is ∙ ap (λ p. get_or (first ∷ files) p file) (next.2 ∙ add-one next.0) in
    subst (λ p. StandsAt (first ∷ files) name p file) (sym next.2) (stands_later first file files name next.0 other (later next.0 next.1 there))

-- what a place that was found says
pub StandsAt-found : (files : List NamedFile) (name : List ℕ) (place : ℕ) (file : NamedFile) → place_of files name ≡ Some place → file ≡ get_or files place file → StandsAt files name place file
StandsAt-found [] name place file found is = cc
StandsAt-found (first ∷ files) name place file found is =
    stands_by_test (bytes_eq first.name name) first file files name place refl found is (λ p found is. StandsAt-found files name p file found is)

place_within_by_test : (test : Bool) (files : List NamedFile) (name : List ℕ) (place : ℕ) → cond test (Some 0) (option_map (λ p. p + 1) (place_of files name)) ≡ Some place → ((p : ℕ) → place_of files name ≡ Some p → p < length files) → place < length files + 1
place_within_by_test true files name place found later = let here : 0 ≡ place = cc in omega arith
place_within_by_test false files name place found later =
    let next = before_next (place_of files name) place found in omega (arith, next.2, later next.0 next.1)

-- a place that was found is one of the list
pub place_of-within : (files : List NamedFile) (name : List ℕ) (place : ℕ) → place_of files name ≡ Some place → place < length files
place_of-within [] name place found = cc
place_of-within (first ∷ files) name place found =
    omega (arith, place_within_by_test (bytes_eq first.name name) files name place found (place_of-within files name))

-- no file has this name
pub record StandsNowhere (files : List NamedFile) (name : List ℕ) : Type 0 where
  pub absent : file_of files name ≡ None
  pub written : (bytes : List ℕ) → with_file files name bytes ≡ files ++ record { name = name; bytes = bytes } ∷ []

nowhere_by_test : (test : Bool) (first : NamedFile) (files : List NamedFile) (name : List ℕ) → bytes_eq first.name name ≡ test → cond test (Some 0) (option_map (λ p. p + 1) (place_of files name)) ≡ None → (place_of files name ≡ None → StandsNowhere files name) → StandsNowhere (first ∷ files) name
nowhere_by_test true first files name same found later = cc
nowhere_by_test false first files name other found later =
    let there = later (no_next (place_of files name) found) in
    record {
      absent = rw other there.absent;
      written = λ bytes. rw other (ap (λ fs. first ∷ fs) (there.written bytes));
    }
  where
    no_next : (o : Option ℕ) → option_map (λ p. p + 1) o ≡ None → o ≡ None
    no_next None same = refl
    no_next (Some p) same = cc

pub StandsNowhere-absent : (files : List NamedFile) (name : List ℕ) → place_of files name ≡ None → StandsNowhere files name
StandsNowhere-absent [] name found = record { absent = refl; written = λ bytes. refl }
StandsNowhere-absent (first ∷ files) name found =
    nowhere_by_test (bytes_eq first.name name) first files name refl found (StandsNowhere-absent files name)
