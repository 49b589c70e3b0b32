-- What the step of a first pass says of what is expected, for any grammar in which one lexeme decides.
use Rattle.std.proofs.Common.{◌≡◌, Bool, true, false, List, [], ◌∷◌, ◌++◌, Option, Some, None, map, refl, sym, ap, ◌∙◌}
use Rattle.std.specs.Prelude.{◌&&◌, if◌then◌else◌}
use Rattle.std.proofs.lemmas.List.{reverse-append, map-append}
use mathlib.Core.List.{reverse}
use Rattle.smv_language.specs.Lexemes.{Lexeme}
use Rattle.smv_expression_reader.specs.declared.expected.Position.{Position}
use Rattle.smv_expression_reader.specs.declared.expected.Position.TheVariants as p
use Rattle.smv_expression_reader.specs.declared.frames.OpenFrame.{OpenFrame as Frame}
use Rattle.smv_expression_reader.specs.declared.machine.TokenRole.{TokenRole as Role}
use Rattle.smv_expression_reader.specs.Recogniser.{State, stuck, role_of, is_stuck, is_whole, start}
use Rattle.smv_expression_reader.specs.Recogniser as machine
use Rattle.smv_expression_reader.specs.Views.{state_with}
use Rattle.smv_expression_reader.specs.PredictiveReader.{Grammar, taken, step, all_empty}
use Rattle.smv_expression_reader.specs.Readings.{stepped, Goes}
use Rattle.smv_expression_reader.specs.Expected.{live, HasFormulas, position_view, Taken, Fits}

-- a vector as a stack, whose top is the vector's last
pub pushed : {A : Type 0} (xs : List A) (x : A) → reverse (xs ++ x ∷ []) ≡ x ∷ reverse xs
pushed xs x = reverse-append xs (x ∷ [])

-- the state after the first lexeme of an expression
pub begun : (st : State) (frames : List Frame) (r : Role) (t : Lexeme) → frames ≡ [] → r ≡ role_of t → st ≡ machine.step (machine.wants frames) r → st ≡ machine.step start (role_of t)
begun st frames r t e role path = path ∙ ap (λ z. machine.step (machine.wants z) r) e ∙ ap (machine.step start) role

module _ {Sym : Type 0} (g : Grammar Sym) (formula : (st : State) → is_stuck st ≡ false → Sym) where
  pub live_stuck : (st : State) (s : List Sym) → is_stuck st ≡ true → live formula st s ≡ None
  live_stuck stuck s h = refl
  live_stuck st s h = cc

  live_taken : (st : State) (new old : List Sym) → taken Sym g (live formula st new) old None ≡ live formula st (new ++ old)
  live_taken stuck new old = refl
  live_taken st new old = refl

  live_some : (st : State) (s : List Sym) → is_stuck st ≡ false → Goes Sym g (live formula st s)
  live_some stuck s h = cc
  live_some st s h = (formula st refl ∷ s, refl)

  goes : (new : State) (s : List Sym) (o : Option (List Sym)) → is_stuck new ≡ false → taken Sym g (live formula new []) s o ≡ live formula new s
  goes stuck s o h = cc
  goes new s o h = refl

module _ {Sym : Type 0} (g : Grammar Sym) (formula : (st : State) → is_stuck st ≡ false → Sym) (law : HasFormulas g formula) where
  -- an expression takes the lexeme, or what is expected behind it
  pub inside : (st : State) (s : List Sym) (t : Lexeme) → is_stuck st ≡ false →
      stepped Sym g (live formula st s) t ≡ taken Sym g (live formula (machine.step st (role_of t)) []) s (if is_whole st then step Sym g s t else None)
  inside stuck s t h = cc
  inside st s t h =
      ap (λ o. taken Sym g o s (if g.empty (formula st refl) then step Sym g s t else None)) (law.next st refl t)
      ∙ ap (λ b. taken Sym g (live formula (machine.step st (role_of t)) []) s (if b then step Sym g s t else None)) (law.whole st refl)

  -- an expression goes on
  pub goes_inside : (st new : State) (r : Role) (s : List Sym) (t : Lexeme) → is_stuck st ≡ false → r ≡ role_of t → new ≡ machine.step st r → is_stuck new ≡ false →
      live formula new s ≡ stepped Sym g (live formula st s) t
  goes_inside st new r s t h role path on =
      let here : new ≡ machine.step st (role_of t) = path ∙ ap (machine.step st) role in
      sym (inside st s t h ∙ ap (λ z. taken Sym g (live formula z []) s (if is_whole st then step Sym g s t else None)) (sym here)
      ∙ goes g formula new s (if is_whole st then step Sym g s t else None) on)

  -- an expression does not go on
  pub goes_past : (st new : State) (r : Role) (s : List Sym) (t : Lexeme) (whole : Bool) → is_stuck st ≡ false → r ≡ role_of t → new ≡ machine.step st r → is_stuck new ≡ true → is_whole st ≡ whole →
      (if whole then step Sym g s t else None) ≡ stepped Sym g (live formula st s) t
  goes_past st new r s t whole h role path off here =
      let stop : live formula (machine.step st (role_of t)) [] ≡ None = live_stuck g formula (machine.step st (role_of t)) [] (ap is_stuck (sym (path ∙ ap (machine.step st) role)) ∙ off) in
      sym (inside st s t h ∙ ap (λ o. taken Sym g o s (if is_whole st then step Sym g s t else None)) stop ∙ ap (λ b. if b then step Sym g s t else None) here)

  pub inside_ends : (st : State) (s syms : List Sym) → live formula st s ≡ Some syms → (is_whole st && all_empty Sym g s) ≡ all_empty Sym g syms
  inside_ends stuck s syms e = cc
  inside_ends st s syms e = let same : formula st refl ∷ s ≡ syms = cc in ap (λ b. b && all_empty Sym g s) (sym (law.whole st refl)) ∙ ap (all_empty Sym g) same

module _ {S Sym : Type 0} (g : Grammar Sym) (formula : (st : State) → is_stuck st ≡ false → Sym) (view : S → Sym) where
  -- what comes of a symbol stands before what was expected
  pub before_others : (behind old new : List S) → new ≡ behind ++ old → Some (map view new) ≡ taken Sym g (Some (map view behind)) (map view old) None
  before_others behind old new e = ap (λ z. Some (map view z)) e ∙ ap Some (map-append view behind old)

  -- the same behind an expression
  pub behind_formula : (st here : State) (behind old new : List S) → here ≡ st → new ≡ behind ++ old →
      live formula here (map view new) ≡ taken Sym g (live formula st (map view behind)) (map view old) None
  behind_formula st here behind old new at e =
      ap (λ z. live formula z (map view new)) at ∙ ap (λ z. live formula st (map view z)) e ∙ ap (live formula st) (map-append view behind old)
      ∙ sym (live_taken g formula st (map view behind) (map view old))

  -- something is expected at each position
  pub fits_goes : (position : Position) (frames : List Frame) (s : List S) → Fits position frames → Goes Sym g (position_view formula view position frames s)
  fits_goes p.Between frames s h = (map view s, refl)
  fits_goes (p.Inside mode) frames s h = live_some g formula (state_with mode frames) (map view s) h

  -- where a symbol goes on, it decides
  pub symbol_goes : (x : Sym) (s new : List S) (t : Lexeme) (position : Position) (frames : List Frame) → Fits position frames → Taken g formula view (Some position) (g.next x t) s frames new →
      position_view formula view position frames new ≡ step Sym g (x ∷ map view s) t
  symbol_goes x s new t position frames fits is = go (g.next x t) refl is
    where
      some : Goes Sym g (position_view formula view position frames new)
      some = fits_goes position frames new fits

      go : (o : Option (List Sym)) → g.next x t ≡ o → position_view formula view position frames new ≡ taken Sym g o (map view s) None →
          position_view formula view position frames new ≡ taken Sym g (g.next x t) (map view s) (if g.empty x then step Sym g (map view s) t else None)
      go None e f = let clash : Some some.0 ≡ None = sym some.1 ∙ f in cc
      go (Some made) e f = f ∙ ap (λ o. taken Sym g o (map view s) (if g.empty x then step Sym g (map view s) t else None)) (sym e)

  -- where it does not, those behind it decide, if it may be nothing
  pub symbol_passes : (x : Sym) (s : List S) (t : Lexeme) (b : Bool) → g.next x t ≡ None → b ≡ g.empty x →
      step Sym g (x ∷ map view s) t ≡ (if b then step Sym g (map view s) t else None)
  symbol_passes x s t b e h =
      ap (λ o. taken Sym g o (map view s) (if g.empty x then step Sym g (map view s) t else None)) e ∙ ap (λ z. if z then step Sym g (map view s) t else None) (sym h)
