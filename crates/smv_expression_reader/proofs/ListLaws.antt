-- What is expected at each place of a list of expressions.
use Rattle.std.proofs.Common.{◌≡◌, Bool, true, false, List, [], ◌∷◌, Option, Some, None, refl, sym, ap, ◌∙◌}
use Rattle.std.specs.Prelude.{◌&&◌, if◌then◌else◌}
use Rattle.smv_language.specs.Lexemes.{Lexeme}
use Rattle.smv_expression_reader.specs.Recogniser.{State, stuck, role_of, is_stuck, is_whole, start}
use Rattle.smv_expression_reader.specs.Recogniser as machine
use Rattle.smv_expression_reader.specs.PredictiveReader.{taken, step, all_empty}
use Rattle.smv_expression_reader.specs.Formulas.{Sym, formula, more, again, expressions, live, formulas}
use Rattle.smv_expression_reader.specs.Lists.{place_view, Fits, stepped}
use Rattle.smv_expression_reader.specs.Readings.{Goes}
use Rattle.smv_expression_reader.specs.declared.list.ListPlace.{ListPlace}
use Rattle.smv_expression_reader.specs.declared.list.ListPlace.TheVariants as p
use Rattle.smv_expression_reader.specs.Views.{state_with}
use Rattle.smv_expression_reader.specs.declared.frames.OpenFrame.{OpenFrame as Frame}
use Rattle.smv_expression_reader.specs.declared.machine.TokenRole.{TokenRole as Role}

pub live_stuck : (st : State) (s : List Sym) → is_stuck st ≡ true → live st s ≡ None
live_stuck stuck s h = refl
live_stuck st s h = cc

alone : (st : State) → taken Sym formulas (live st (more ∷ [])) [] None ≡ live st (more ∷ [])
alone stuck = refl
alone st = refl

pub begins_first : (t : Lexeme) → stepped (Some (expressions ∷ [])) t ≡ live (machine.step start (role_of t)) (more ∷ [])
begins_first t = alone (machine.step start (role_of t))

pub begins_again : (t : Lexeme) → stepped (Some (again ∷ [])) t ≡ live (machine.step start (role_of t)) (more ∷ [])
begins_again t = alone (machine.step start (role_of t))

inside : (st : State) (t : Lexeme) → is_stuck st ≡ false →
    stepped (live st (more ∷ [])) t ≡ taken Sym formulas (live (machine.step st (role_of t)) []) (more ∷ []) (if is_whole st then step Sym formulas (more ∷ []) t else None)
inside stuck t h = cc
inside st t h = refl

goes : (new : State) (o : Option (List Sym)) → is_stuck new ≡ false → taken Sym formulas (live new []) (more ∷ []) o ≡ live new (more ∷ [])
goes stuck o h = cc
goes new o h = refl

pub goes_inside : (st new : State) (r : Role) (t : Lexeme) → is_stuck st ≡ false → r ≡ role_of t → new ≡ machine.step st r → is_stuck new ≡ false → live new (more ∷ []) ≡ stepped (live st (more ∷ [])) t
goes_inside st new r t h role path on =
    let here : new ≡ machine.step st (role_of t) = path ∙ ap (machine.step st) role in
    sym (inside st t h ∙ ap (λ z. taken Sym formulas (live z []) (more ∷ []) (if is_whole st then step Sym formulas (more ∷ []) t else None)) (sym here)
    ∙ goes new (if is_whole st then step Sym formulas (more ∷ []) t else None) on)

and_true : (b : Bool) → b ≡ (b && (true && true))
and_true true = refl
and_true false = refl

pub inside_ends : (st : State) (s : List Sym) → live st (more ∷ []) ≡ Some s → is_whole st ≡ all_empty Sym formulas s
inside_ends stuck s e = cc
inside_ends st s e = let same : formula st refl ∷ more ∷ [] ≡ s = cc in and_true (is_whole st) ∙ ap (all_empty Sym formulas) same

live_some : (st : State) (s : List Sym) → is_stuck st ≡ false → Goes Sym formulas (live st s)
live_some stuck s h = cc
live_some st s h = (formula st refl ∷ s, refl)

-- something is expected at each place
pub fits_goes : (place : ListPlace) (s : List Frame) → Fits place s → Goes Sym formulas (place_view place s)
fits_goes p.First s h = (expressions ∷ [], refl)
fits_goes p.Again s h = (again ∷ [], refl)
fits_goes (p.Inside mode) s h = live_some (state_with mode s) (more ∷ []) h
