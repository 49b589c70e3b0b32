-- What is still expected at a position of a text, for any grammar in which one lexeme decides.
use Rattle.std.specs.Prelude.{◌≡◌, refl, false, List, [], ◌∷◌, Option, Some, None, map}
use Rattle.smv_language.specs.Lexemes.{Lexeme}
use Rattle.smv_expression_reader.specs.declared.frames.OpenFrame.{OpenFrame as Frame}
use Rattle.smv_expression_reader.specs.declared.expected.Position.{Position}
use Rattle.smv_expression_reader.specs.declared.expected.Position.TheVariants as p
use Rattle.smv_expression_reader.specs.declared.expected.Taking.{Taking}
use Rattle.smv_expression_reader.specs.declared.expected.Taking.TheVariants as comes
use Rattle.smv_expression_reader.specs.Recogniser.{State, stuck, role_of, is_whole, is_stuck, start}
use Rattle.smv_expression_reader.specs.Recogniser as machine
use Rattle.smv_expression_reader.specs.Views.{state_with}
use Rattle.smv_expression_reader.specs.PredictiveReader.{Grammar, taken}

-- an expression in this state before other symbols, where it goes on
abbrev pub live : {Sym : Type 0} → ((st : State) → is_stuck st ≡ false → Sym) → State → List Sym → Option (List Sym)
live formula stuck s = None
live formula st s = Some (formula st refl ∷ s)

-- expressions in the grammar are read by their own recogniser
pub record HasFormulas {Sym : Type 0} (g : Grammar Sym) (formula : (st : State) → is_stuck st ≡ false → Sym) : Type 0 where
  pub whole : (st : State) (h : is_stuck st ≡ false) → g.empty (formula st h) ≡ is_whole st
  pub next : (st : State) (h : is_stuck st ≡ false) (t : Lexeme) → g.next (formula st h) t ≡ live formula (machine.step st (role_of t)) []

-- what is open at a position: nothing, or an expression that goes on
abbrev pub Fits : Position → List Frame → Type 0
Fits p.Between frames = frames ≡ []
Fits (p.Inside mode) frames = is_stuck (state_with mode frames) ≡ false

module _ {S Sym : Type 0} (formula : (st : State) → is_stuck st ≡ false → Sym) (view : S → Sym) where
  -- what is still expected of a symbol after a lexeme
  abbrev pub taking_view : Taking S → Lexeme → Option (List Sym)
  taking_view comes.Nothing t = None
  taking_view (comes.Then behind) t = Some (map view behind.now)
  taking_view (comes.Begins behind) t = live formula (machine.step start (role_of t)) (map view behind.now)

  -- what is expected at a position
  abbrev pub position_view : Position → List Frame → List S → Option (List Sym)
  position_view p.Between frames syms = Some (map view syms)
  position_view (p.Inside mode) frames syms = live formula (state_with mode frames) (map view syms)

  -- the same after a step, where the text went on
  abbrev pub after_view : Option Position → List Frame → List S → Option (List Sym)
  after_view None frames syms = None
  after_view (Some position) frames syms = position_view position frames syms

-- a symbol goes on with what comes of it before what was expected, or nothing comes of it and all is as before
abbrev pub Taken : {S Sym : Type 0} → Grammar Sym → ((st : State) → is_stuck st ≡ false → Sym) → (S → Sym) →
    Option Position → Option (List Sym) → List S → List Frame → List S → Type 0
Taken g formula view None o old frames new = (o ≡ None) × (new ≡ old) × (frames ≡ [])
Taken {Sym = Sym} g formula view (Some position) o old frames new =
    position_view formula view position frames new ≡ taken Sym g o (map view old) None
