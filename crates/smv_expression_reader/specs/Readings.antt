-- How far a list can be read, for any grammar in which one lexeme decides.
use Rattle.std.specs.Prelude.{◌≡◌, ◌+◌, ◌<◌, Bool, true, false, List, [], ◌∷◌, Option, Some, None, take, length}
use Rattle.smv_language.specs.Lexemes.{Lexeme}
use Rattle.smv_expression_reader.specs.declared.reading.ReadExtent.{ReadExtent}
use Rattle.smv_expression_reader.specs.declared.reading.ReadExtent.TheVariants as reading
use Rattle.smv_expression_reader.specs.PredictiveReader.{Grammar, step, run, all_empty}

module _ (Sym : Type 0) (g : Grammar Sym) where
  -- what is expected after one more lexeme, where the list goes on
  abbrev pub stepped : Option (List Sym) → Lexeme → Option (List Sym)
  stepped None t = None
  stepped (Some s) t = step Sym g s t

  -- what is expected after these lexemes
  abbrev pub expected_after : Sym → List Lexeme → Option (List Sym)
  expected_after x ts = run Sym g (Some (x ∷ [])) ts

  -- some list goes on
  abbrev pub Goes : Option (List Sym) → Type 0
  Goes o = (s : List Sym) × (o ≡ Some s)

  -- reading goes on, and may end here or not
  abbrev pub Ends : Bool → Sym → List Lexeme → Type 0
  Ends may x ts = (s : List Sym) × (expected_after x ts ≡ Some s) × (all_empty Sym g s ≡ may)

  -- the reading is how far the list can be read: whole, unfinished, or up to the place of the first lexeme that none goes on with
  abbrev pub ReadsTo : Sym → List Lexeme → ReadExtent → Type 0
  ReadsTo x ts reading.Whole = Ends true x ts
  ReadsTo x ts reading.Unfinished = Ends false x ts
  ReadsTo x ts (reading.Stopped i) = (i < length ts) × Goes (expected_after x (take i ts)) × (expected_after x (take (i + 1) ts) ≡ None)
