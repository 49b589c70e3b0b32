-- What is read of causes so far, and what one more lexeme makes of it.
use Rattle.std.specs.Prelude.{ℕ, Bool, true, false, List, [], ◌∷◌, ◌++◌, Option, Some, None, codes}
use Rattle.smv_language.specs.Language.{Text, Path, Lexeme}
use Rattle.smv_expression_reader.specs.TreeBuilder.{name_in, number_in}
use Rattle.smv_expression_reader.specs.Places.{is_word}
use Rattle.smv_expression_reader.specs.Marks.{mark_of}
use Rattle.fault_cause_laws.specs.CausesText.{WrittenCause, SpellsCauses}
use Rattle.smv_expression_reader.specs.declared.mark.Mark.{Mark}
use Rattle.smv_expression_reader.specs.declared.mark.Mark.TheVariants as mark

-- what comes next, with what is read of a cause so far: its name, its window, the faults named, and the parts of a name
pub data Stage : Type 0 where
  start : Stage
  named : Stage
  within : Text → Stage
  first : Text → Stage
  dots : Text → ℕ → Stage
  last : Text → ℕ → Stage
  strikes : Text → ℕ → ℕ → Stage
  part : Text → ℕ → ℕ → List Path → Path → Stage
  after : Text → ℕ → ℕ → List Path → Path → Stage

-- with the causes that are read as a whole
pub record ReadSoFar : Type 0 where
  pub stage : Stage
  pub causes : List WrittenCause

-- a stage with the causes that are read as a whole
abbrev pub so_far : Stage → List WrittenCause → ReadSoFar
so_far s cs = record { stage = s; causes = cs }

-- a stage with these causes, where there is one
abbrev pub keep : List WrittenCause → Option Stage → Option ReadSoFar
keep cs None = None
keep cs (Some s) = Some (so_far s cs)

-- a stage, where a token leads to it
abbrev pub stage_where : Bool → Stage → Option Stage
stage_where true s = Some s
stage_where false s = None

-- the stage after a cause's name
abbrev pub name_stage : Mark → Lexeme → Option Stage
name_stage mark.Name t = Some (within (name_in t))
name_stage c t = None

-- the stage after the window's first number
abbrev pub first_stage : Mark → Text → Lexeme → Option Stage
first_stage mark.Number x t = Some (dots x (number_in t))
first_stage c x t = None

-- whether a lexeme is the two dots
abbrev pub is_dots : Mark → Bool
is_dots mark.Dots = true
is_dots _ = false

-- the stage after the window's last number
abbrev pub last_stage : Mark → Text → ℕ → Lexeme → Option Stage
last_stage mark.Number x a t = Some (strikes x a (number_in t))
last_stage c x a t = None

-- the stage after a part of a fault's name
abbrev pub part_stage : Mark → Text → ℕ → ℕ → List Path → Path → Lexeme → Option Stage
part_stage mark.Name x a b done path t = Some (after x a b done (path ++ name_in t ∷ []))
part_stage c x a b done path t = None

-- what is read after a token that must be a certain one
abbrev pub where_so : Bool → Stage → List WrittenCause → Option ReadSoFar
where_so b s cs = keep cs (stage_where b s)

-- what is read after a cause's name
abbrev pub name_read : Mark → Lexeme → List WrittenCause → Option ReadSoFar
name_read c t cs = keep cs (name_stage c t)

-- what is read after the window's first number
abbrev pub first_read : Mark → Text → Lexeme → List WrittenCause → Option ReadSoFar
first_read c x t cs = keep cs (first_stage c x t)

-- what is read after the window's last number
abbrev pub last_read : Mark → Text → ℕ → Lexeme → List WrittenCause → Option ReadSoFar
last_read c x a t cs = keep cs (last_stage c x a t)

-- what is read after a part of a fault's name
abbrev pub part_read : Mark → Text → ℕ → ℕ → List Path → Path → Lexeme → List WrittenCause → Option ReadSoFar
part_read c x a b done path t cs = keep cs (part_stage c x a b done path t)

-- the cause of these parts
abbrev pub cause_read : Text → ℕ → ℕ → List Path → WrittenCause
cause_read x a b done = record { name = x; from = a; to = b; strikes = done }

-- what is read after the dot, the comma or the semicolon behind a part
abbrev pub after_read : Mark → Text → ℕ → ℕ → List Path → Path → List WrittenCause → Option ReadSoFar
after_read mark.Dot x a b done path cs = Some (so_far (part x a b done path) cs)
after_read mark.Comma x a b done path cs = Some (so_far (part x a b (done ++ path ∷ []) []) cs)
after_read mark.Semicolon x a b done path cs = Some (so_far start (cs ++ cause_read x a b (done ++ path ∷ []) ∷ []))
after_read c x a b done path cs = None

-- what one more lexeme makes of it, and nothing where no causes go on with it
abbrev pub stepped : Stage → List WrittenCause → Lexeme → Option ReadSoFar
stepped start cs t = where_so (is_word t (codes "CAUSE")) named cs
stepped named cs t = name_read (mark_of t) t cs
stepped (within x) cs t = where_so (is_word t (codes "WITHIN")) (first x) cs
stepped (first x) cs t = first_read (mark_of t) x t cs
stepped (dots x a) cs t = where_so (is_dots (mark_of t)) (last x a) cs
stepped (last x a) cs t = last_read (mark_of t) x a t cs
stepped (strikes x a b) cs t = where_so (is_word t (codes "STRIKES")) (part x a b [] []) cs
stepped (part x a b done path) cs t = part_read (mark_of t) x a b done path t cs
stepped (after x a b done path) cs t = after_read (mark_of t) x a b done path cs

-- what is read after one more lexeme
abbrev pub read_more : Option ReadSoFar → Lexeme → Option ReadSoFar
read_more None t = None
read_more (Some r) t = stepped r.stage r.causes t

-- what is read of lexemes, one after another
abbrev pub run : Option ReadSoFar → List Lexeme → Option ReadSoFar
run o [] = o
run o (t ∷ ts) = run (read_more o t) ts

-- what is read of all lexemes, from the start on
abbrev pub read_of : List Lexeme → Option ReadSoFar
read_of ts = run (Some (so_far start [])) ts

-- the list spells some causes
abbrev pub IsCauses : List Lexeme → Type 0
IsCauses ts = (cs : List WrittenCause) × SpellsCauses ts cs
