-- A reader with a stack of what is still expected, for any grammar in which one lexeme decides.
use Rattle.std.specs.Prelude.{◌≡◌, Bool, true, false, List, [], ◌∷◌, ◌++◌, Option, Some, None, ◌&&◌, ◌||◌, if◌then◌else◌}
use Rattle.smv_language.specs.Lexemes.{Lexeme}

-- a grammar by its symbols
pub record Grammar (Sym : Type 0) : Type 1 where
  -- which lists a symbol stands for
  pub Spelled : Sym → List Lexeme → Type 0
  -- whether it may be nothing
  pub empty : Sym → Bool
  -- what is still expected of it after a lexeme
  pub next : Sym → Lexeme → Option (List Sym)
  -- which lexemes may follow it
  pub follow : Sym → Lexeme → Bool
  -- a list that it stands for
  pub shortest : Sym → List Lexeme

module _ (Sym : Type 0) (g : Grammar Sym) where
  -- the list is made of what the symbols stand for, one after another
  abbrev pub Means : List Sym → List Lexeme → Type 0
  Means [] = λ ts. ts ≡ []
  Means (x ∷ s) = λ ts. (xs : List Lexeme) × (ys : List Lexeme) × (ts ≡ xs ++ ys) × g.Spelled x xs × Means s ys

  -- what is chosen for the top of the stack, and else the answer of the rest
  abbrev pub taken : Option (List Sym) → List Sym → Option (List Sym) → Option (List Sym)
  taken (Some new) s o = Some (new ++ s)
  taken None s o = o

  -- the top symbol that goes on with the lexeme takes it, where those above it may be nothing
  abbrev pub step : List Sym → Lexeme → Option (List Sym)
  step [] t = None
  step (x ∷ s) t = taken (g.next x t) s (if g.empty x then step s t else None)

  -- what is expected after a list of lexemes
  abbrev pub run : Option (List Sym) → List Lexeme → Option (List Sym)
  run o [] = o
  run None (t ∷ ts) = None
  run (Some s) (t ∷ ts) = run (step s t) ts

  -- nothing more needs to come
  abbrev pub all_empty : List Sym → Bool
  all_empty [] = true
  all_empty (x ∷ s) = g.empty x && all_empty s

  -- something was chosen
  abbrev pub is_some : Option (List Sym) → Bool
  is_some (Some s) = true
  is_some None = false

  -- the symbols may begin with the lexeme
  abbrev pub can_start : List Sym → Lexeme → Bool
  can_start [] t = false
  can_start (x ∷ s) t = is_some (g.next x t) || (g.empty x && can_start s t)

  -- what stands after each symbol of a list may follow it, where the list is followed by what a test lets through
  abbrev pub Fits : List Sym → (Lexeme → Bool) → Type 0
  Fits [] f = Unit {0}
  Fits (x ∷ s) f = ((t : Lexeme) → (can_start s t || (all_empty s && f t)) ≡ true → g.follow x t ≡ true) × Fits s f

-- the laws of a grammar, one symbol at a time
pub record IsPredictable (Sym : Type 0) (g : Grammar Sym) : Type 0 where
  pub empty_spelled : (x : Sym) → g.empty x ≡ true → g.Spelled x []
  pub spelled_empty : (x : Sym) → g.Spelled x [] → g.empty x ≡ true
  pub sound : (x : Sym) (t : Lexeme) (s : List Sym) → g.next x t ≡ Some s → (ts : List Lexeme) → Means Sym g s ts → g.Spelled x (t ∷ ts)
  pub complete : (x : Sym) (t : Lexeme) (ts : List Lexeme) → g.Spelled x (t ∷ ts) →
      (s : List Sym) × (g.next x t ≡ Some s) × Means Sym g s ts
  pub apart : (x : Sym) (t : Lexeme) → g.empty x ≡ true → g.follow x t ≡ true → g.next x t ≡ None
  pub inner : (x : Sym) (t : Lexeme) (s : List Sym) → g.next x t ≡ Some s → Fits Sym g s (g.follow x)
  pub completes : (x : Sym) → g.Spelled x (g.shortest x)
