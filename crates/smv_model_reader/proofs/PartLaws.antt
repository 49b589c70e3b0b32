-- What is passed over, one lexeme after another, and sections one after another.
use Rattle.std.proofs.Common.{◌≡◌, ℕ, suc, ◌+◌, ◌-◌, ◌<◌, ◌≤◌, true, false, List, [], ◌∷◌, ◌++◌, length, map, refl, sym, ap, ◌∙◌, arith, append-nil}
use Rattle.std.specs.Prelude.{if◌then◌else◌}
use Rattle.std.proofs.lemmas.List.{map-append}
use Rattle.smv_language.specs.declared.program.Section.{Section}
use Rattle.smv_language.specs.Language.{SectionTree, section_tree, Lexeme}
use Rattle.smv_expression_reader.specs.SecondPass.{Read, got, deep, none, and_then, with_front, mark_at, rest_of, has_next, is_past}
use Rattle.smv_model_reader.specs.ProgramParts.{past_skipped, section_at, is_kept, sections_at}
use Rattle.smv_expression_reader.proofs.ReadLaws.{front_next}
use Rattle.smv_expression_reader.specs.declared.mark.Mark.TheVariants as mark

-- one lexeme more is passed over
pub skipped_more : (ts : List Lexeme) → is_past ts ≡ false → past_skipped (rest_of ts) ≡ past_skipped ts
skipped_more [] h = refl
skipped_more (t ∷ ts) h = sym (ap (λ b. if b then t ∷ ts else past_skipped ts) h)

pub skipped_end : (ts : List Lexeme) → is_past ts ≡ true → past_skipped ts ≡ ts
skipped_end [] h = refl
skipped_end (t ∷ ts) h = ap (λ b. if b then t ∷ ts else past_skipped ts) h

pub skipped_spent : (ts : List Lexeme) (i most : ℕ) → length ts + i ≤ most → most ≤ i → past_skipped ts ≡ ts
skipped_spent [] i most h e = refl
skipped_spent (t ∷ ts) i most h e = absurd (omega (arith, h, e))

sections_more : (n i : ℕ) (ts : List Lexeme) → i < n → sections_at (n - i) ts ≡
    (if has_next mark.Skipped ts then sections_at (n - (i + 1)) (past_skipped (rest_of ts)) else
    (if is_kept (mark_at ts) then and_then (section_at (mark_at ts) (rest_of ts)) (λ a r. and_then (sections_at (n - (i + 1)) r) (λ more s. got (a ∷ more) s)) else got [] ts))
sections_more n i ts h = let e : n - i ≡ suc (n - (i + 1)) = omega (arith, h) in ap (λ m. sections_at m ts) e

-- a section is passed over
pub sections_skip : (whole : Read (List SectionTree)) (xs : List SectionTree) (n i : ℕ) (ts r : List Lexeme) → whole ≡ with_front xs (sections_at (n - i) ts) → i < n →
    has_next mark.Skipped ts ≡ true → r ≡ past_skipped (rest_of ts) → whole ≡ with_front xs (sections_at (n - (i + 1)) r)
sections_skip whole xs n i ts r before h skip left =
    before ∙ ap (with_front xs) (sections_more n i ts h
    ∙ ap (λ b. if b then sections_at (n - (i + 1)) (past_skipped (rest_of ts)) else
    (if is_kept (mark_at ts) then and_then (section_at (mark_at ts) (rest_of ts)) (λ a r. and_then (sections_at (n - (i + 1)) r) (λ more s. got (a ∷ more) s)) else got [] ts)) skip
    ∙ ap (sections_at (n - (i + 1))) (sym left))

section_reads : (whole : Read (List SectionTree)) (xs : List SectionTree) (n i : ℕ) (ts : List Lexeme) (y : Read SectionTree) → whole ≡ with_front xs (sections_at (n - i) ts) → i < n →
    has_next mark.Skipped ts ≡ false → is_kept (mark_at ts) ≡ true → section_at (mark_at ts) (rest_of ts) ≡ y →
    whole ≡ with_front xs (and_then y (λ a r. and_then (sections_at (n - (i + 1)) r) (λ more s. got (a ∷ more) s)))
section_reads whole xs n i ts y before h plain kept read =
    before ∙ ap (with_front xs) (sections_more n i ts h
    ∙ ap (λ b. if b then sections_at (n - (i + 1)) (past_skipped (rest_of ts)) else
    (if is_kept (mark_at ts) then and_then (section_at (mark_at ts) (rest_of ts)) (λ a r. and_then (sections_at (n - (i + 1)) r) (λ more s. got (a ∷ more) s)) else got [] ts)) plain
    ∙ ap (λ b. if b then and_then (section_at (mark_at ts) (rest_of ts)) (λ a r. and_then (sections_at (n - (i + 1)) r) (λ more s. got (a ∷ more) s)) else got [] ts) kept
    ∙ ap (λ y. and_then y (λ a r. and_then (sections_at (n - (i + 1)) r) (λ more s. got (a ∷ more) s))) read)

-- a section is read
pub sections_next : (whole : Read (List SectionTree)) (xs ys : List Section) (n i : ℕ) (ts r : List Lexeme) (v : Section) → whole ≡ with_front (map section_tree xs) (sections_at (n - i) ts) → i < n →
    has_next mark.Skipped ts ≡ false → is_kept (mark_at ts) ≡ true → section_at (mark_at ts) (rest_of ts) ≡ got (section_tree v) r → ys ≡ xs ++ v ∷ [] →
    whole ≡ with_front (map section_tree ys) (sections_at (n - (i + 1)) r)
sections_next whole xs ys n i ts r v before h plain kept read more =
    section_reads whole (map section_tree xs) n i ts (got (section_tree v) r) before h plain kept read
    ∙ front_next (map section_tree xs) (section_tree v) (sections_at (n - (i + 1)) r)
    ∙ ap (λ zs. with_front zs (sections_at (n - (i + 1)) r)) (sym (ap (map section_tree) more ∙ map-append section_tree xs (v ∷ [])))

-- no section begins
pub sections_end : (whole : Read (List SectionTree)) (xs : List SectionTree) (n i : ℕ) (ts : List Lexeme) → whole ≡ with_front xs (sections_at (n - i) ts) → i < n →
    has_next mark.Skipped ts ≡ false → is_kept (mark_at ts) ≡ false → whole ≡ got xs ts
sections_end whole xs n i ts before h plain stops =
    before ∙ ap (with_front xs) (sections_more n i ts h
    ∙ ap (λ b. if b then sections_at (n - (i + 1)) (past_skipped (rest_of ts)) else
    (if is_kept (mark_at ts) then and_then (section_at (mark_at ts) (rest_of ts)) (λ a r. and_then (sections_at (n - (i + 1)) r) (λ more s. got (a ∷ more) s)) else got [] ts)) plain
    ∙ ap (λ b. if b then and_then (section_at (mark_at ts) (rest_of ts)) (λ a r. and_then (sections_at (n - (i + 1)) r) (λ more s. got (a ∷ more) s)) else got [] ts) stops)
    ∙ ap (λ z. got z ts) (append-nil xs)

pub sections_deep : (whole : Read (List SectionTree)) (xs : List SectionTree) (n i : ℕ) (ts : List Lexeme) → whole ≡ with_front xs (sections_at (n - i) ts) → i < n →
    has_next mark.Skipped ts ≡ false → is_kept (mark_at ts) ≡ true → section_at (mark_at ts) (rest_of ts) ≡ deep → whole ≡ deep
sections_deep whole xs n i ts before h plain kept read = section_reads whole xs n i ts deep before h plain kept read

pub sections_none : (whole : Read (List SectionTree)) (xs : List SectionTree) (n i : ℕ) (ts : List Lexeme) → whole ≡ with_front xs (sections_at (n - i) ts) → i < n →
    has_next mark.Skipped ts ≡ false → is_kept (mark_at ts) ≡ true → section_at (mark_at ts) (rest_of ts) ≡ none → whole ≡ none
sections_none whole xs n i ts before h plain kept read = section_reads whole xs n i ts none before h plain kept read
