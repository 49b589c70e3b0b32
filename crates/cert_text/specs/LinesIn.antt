-- The lines of a text.
use Rattle.std.specs.Prelude.{◌≡◌, ℕ, List, [], ◌∷◌, length, nat_eq, codes, if◌then◌else◌, refl}
use Rattle.cut_text_laws.specs.Lines.{Line, fed}
use Rattle.cert_text.specs.declared.line_list.LineList.TheInside.{Inside}

-- the lines, with one more byte at the front of the first of them; where there is no line, none
abbrev pub begun_with : ℕ → List Line → List Line
begun_with b [] = []
begun_with b (line ∷ lines) = (b ∷ line) ∷ lines

-- the lines of a text, without their line feeds; bytes after the last line feed are no line
abbrev pub lines_in : List ℕ → List Line
lines_in [] = []
lines_in (b ∷ bytes) = if nat_eq b 10 then [] ∷ lines_in bytes else begun_with b (lines_in bytes)

-- two lines and an empty one between them, and no third without its line feed
example : lines_in (codes "moment 0\n\non = TRUE\nx") ≡ codes "moment 0" ∷ [] ∷ codes "on = TRUE" ∷ []
example = refl

-- the text is its lines, each with its line feed, and their number is kept
pub record IsWhole (l : Inside) : Type 0 where
  pub whole : l.text.items ≡ fed (lines_in l.text.items)
  pub count : l.count ≡ length (lines_in l.text.items)
