-- The laws of the grammar of instructions.
use Rattle.std.proofs.Common.{◌≡◌, Bool, true, false, List, [], ◌∷◌, Option, Some, None, refl, ◌∙◌, ap}
use Rattle.std.specs.Prelude.{◌&&◌, ◌||◌, codes, if◌then◌else◌}
use Rattle.std.specs.Option.{option_map}
use Rattle.smv_lexer.specs.declared.token.TokenKind.TheVariants as k
use Rattle.smv_language.specs.Language.{Text, Value, Lexeme, word, num, sign, plain_int, no_more}
use Rattle.fault_instructions.specs.declared.instructions.Dynamics.{Dynamics}
use Rattle.fault_instructions.specs.declared.instructions.Dynamics.TheVariants.{Permanent}
use Rattle.fault_instructions.specs.declared.effects.PlainEffect.TheVariants.{Frozen}
use Rattle.fault_instructions.specs.declared.effects.EffectKind.{EffectKind}
use Rattle.fault_instructions.specs.declared.effects.EffectKind.TheVariants as kind
use Rattle.fault_instructions.specs.Instructions.{EffectTree, plain, ModeTree}
use Rattle.fault_instructions.specs.SpellsInstructions.{SpellsConst, const_true, const_false, const_int, const_name, no_argument, SpellsEffect, an_effect, SpellsDynamics, d_permanent, d_transient, no_guard, SpellsMark, no_mark, a_mark, SpellsMode, a_mode, at_nominal, unnamed}
use Rattle.smv_expression_reader.specs.Recogniser.{role_of, by_number, by_name, by_other, State, had, stuck, is_whole}
use Rattle.smv_expression_reader.specs.Recogniser as machine
use Rattle.smv_expression_reader.specs.Places.{is_word}
use Rattle.smv_expression_reader.specs.PredictiveReader.{Fits, IsPredictable, is_some}
use Rattle.smv_expression_reader.specs.Marks.{mark_of}
use Rattle.smv_expression_reader.proofs.Exact.{completes}
use Rattle.smv_expression_reader.proofs.FormulasRead.{whole_stops}
use Rattle.smv_expression_reader.proofs.Marks.{word_there}
use Rattle.fault_reader.specs.InstructionGrammar.{Sym, is_single, spelled, empty, expr, live, where_so, after_extensions, after_mark, after_in_mark, after_int, after_constant, effect_in, arguments, next, follow, shortest, shortest_mode, instructions}
use Rattle.fault_reader.specs.InstructionGrammar as s
use Rattle.fault_reader.proofs.Through.{That, that}
use Rattle.fault_reader.proofs.InstructionSound.{sounds}
use Rattle.fault_reader.proofs.InstructionComplete.{completed}
use Rattle.smv_expression_reader.proofs.Meanings.{leads_some, some_leads, FitsAll, some_fits}
use Rattle.smv_language.proofs.SpelledLaws.{some_int}
use Rattle.smv_expression_reader.specs.declared.mark.Mark.{Mark}
use Rattle.smv_expression_reader.specs.declared.machine.TokenRole.TheVariants as role
use Rattle.smv_expression_reader.specs.declared.mark.Mark.TheVariants as marks
use Rattle.fault_reader.specs.declared.symbols.Single.TheVariants as the

-- what may be nothing
empties : (x : Sym) → empty x ≡ true → spelled x []
empties (s.formula st q) e = e
empties s.file e = (_, unnamed no_more)
empties s.extensions e = (_, no_more)
empties s.slices e = (_, no_more)
empties s.slice_start e = (_, at_nominal)
empties s.modes e = (_, no_more)
empties s.mark e = (_, no_mark)
empties s.guard e = (_, no_guard)
empties x e = cc

some_mode : (us : List Lexeme) (m : ModeTree) → SpellsMode us m → us ≡ [] → ⊥
some_mode us m (a_mode n pm pd pe pg) e = cc

some_mode_rest : (us : List Lexeme) (m : ModeTree) → SpellsMode us m → us ≡ word (codes "MODE") ∷ [] → ⊥
some_mode_rest us m (a_mode n pm pd pe pg) e = cc

open_mark : (us : List Lexeme) (m : Option (List Text)) → SpellsMark us m → us ≡ sign k.OpenBrace ∷ [] → ⊥
open_mark us m no_mark e = cc
open_mark us m (a_mark {ts = []} many) e = cc
open_mark us m (a_mark {ts = t ∷ ts} many) e = cc

some_dynamics : (us : List Lexeme) (d : Dynamics) → SpellsDynamics us d → us ≡ [] → ⊥
some_dynamics us d d_permanent e = cc
some_dynamics us d d_transient e = cc

some_effect : (us : List Lexeme) (x : EffectTree) → SpellsEffect us x → us ≡ [] → ⊥
some_effect us x (an_effect p) e = cc

some_constant : (us : List Lexeme) (c : Value) → SpellsConst us c → us ≡ [] → ⊥
some_constant us c const_true e = cc
some_constant us c const_false e = cc
some_constant us c (const_int {n = n} p) e = some_int us n p e
some_constant us c (const_name n) e = cc

emptied : (x : Sym) → spelled x [] → empty x ≡ true
emptied (s.single w) d = let e = d.1 in cc
emptied (s.keyword w) d = cc
emptied (s.formula st q) d = d
emptied s.mode d = absurd (some_mode [] d.0 d.1 refl)
emptied s.mode_rest d = absurd (some_mode_rest (word (codes "MODE") ∷ []) d.0 d.1 refl)
emptied s.in_mark d = absurd (open_mark (sign k.OpenBrace ∷ []) d.0 d.1 refl)
emptied s.dynamics d = absurd (some_dynamics [] d.0 d.1 refl)
emptied s.effect d = absurd (some_effect [] d.0 d.1 refl)
emptied s.constant d = absurd (some_constant [] d.0 d.1 refl)
emptied s.int d = absurd (some_int [] d.0 d.1 refl)
emptied x d = refl

-- what may follow a symbol does not begin it
pub closes_stop : (st : State) → is_whole st ≡ true → machine.step st role.Closes ≡ stuck
closes_stop (had by_number []) h = refl
closes_stop (had by_name []) h = refl
closes_stop (had by_other []) h = refl
closes_stop st h = cc

formula_parted : (st : State) (t : Lexeme) → is_whole st ≡ true → (is_single the.Semicolon (mark_of t) || is_single the.Close (mark_of t)) ≡ true → live (machine.step st (role_of t)) [] ≡ None
unfolding That
formula_parted st t w f = go (is_single the.Semicolon (mark_of t)) refl f
  where
    go : (b : Bool) → is_single the.Semicolon (mark_of t) ≡ b → (b || is_single the.Close (mark_of t)) ≡ true → live (machine.step st (role_of t)) [] ≡ None
    go true e f = let there : t ≡ sign k.Semicolon = that the.Semicolon t e in ap (λ z. live (machine.step st (role_of z)) []) there ∙ ap (λ z. live z []) (whole_stops st w)
    go false e f = let there : t ≡ sign k.Close = that the.Close t f in ap (λ z. live (machine.step st (role_of z)) []) there ∙ ap (λ z. live z []) (closes_stop st w)

modes_parted : (t : Lexeme) → (is_word t (codes "SLICE") || is_word t (codes "EXTENSION")) ≡ true → next s.modes t ≡ None
modes_parted t f = go (is_word t (codes "SLICE")) refl f
  where
    go : (b : Bool) → is_word t (codes "SLICE") ≡ b → (b || is_word t (codes "EXTENSION")) ≡ true → next s.modes t ≡ None
    go true e f = ap (next s.modes) (word_there t (codes "SLICE") e)
    go false e f = ap (next s.modes) (word_there t (codes "EXTENSION") f)

mark_parted : (c : Mark) → is_single the.Colon c ≡ true → after_mark c ≡ None
mark_parted marks.Colon h = refl
mark_parted c h = cc

apart_from : (x : Sym) (t : Lexeme) → empty x ≡ true → follow x t ≡ true → next x t ≡ None
unfolding That
apart_from (s.formula st q) t e f = formula_parted st t e f
apart_from s.file t e f = cc
apart_from s.extensions t e f = cc
apart_from s.slices t e f = ap (next s.slices) (word_there t (codes "EXTENSION") f)
apart_from s.slice_start t e f = ap (next s.slice_start) (word_there t (codes "WITH") f)
apart_from s.modes t e f = modes_parted t f
apart_from s.mark t e f = mark_parted (mark_of t) f
apart_from s.guard t e f = let there : t ≡ sign k.Semicolon = that the.Semicolon t f in ap (next s.guard) there
apart_from x t e f = cc

-- what follows each symbol of a choice
abbrev FitsOf : Option (List Sym) → (Lexeme → Bool) → Type 0
FitsOf = FitsAll instructions

fits_where : (b : Bool) (syms : List Sym) (f : Lexeme → Bool) → Fits Sym instructions syms f → FitsOf (where_so b syms) f
unfolding FitsAll
fits_where true syms f h = h
fits_where false syms f h = tt

fits_if : (b : Bool) (a o : Option (List Sym)) (f : Lexeme → Bool) → FitsOf a f → FitsOf o f → FitsOf (if b then a else o) f
fits_if true a o f h m = h
fits_if false a o f h m = m

-- what begins a list of symbols, as tests
starts_extension : (b : Bool) (syms : List Sym) → ((is_some Sym instructions (where_so b syms) || (true && false)) || ((true && true) && false)) ≡ true → b ≡ true
starts_extension true syms h = refl
starts_extension false syms h = cc

starts_slice : (a b : Bool) (syms : List Sym) → ((is_some Sym instructions (where_so a syms) || (true && false)) || ((true && true) && b)) ≡ true → (a || b) ≡ true
starts_slice true b syms h = refl
starts_slice false true syms h = refl
starts_slice false false syms h = cc

starts_single : (b : Bool) → ((is_some Sym instructions (where_so b []) || (false && false)) || ((false && true) && false)) ≡ true → b ≡ true
starts_single true h = refl
starts_single false h = cc

-- what ends an expression
ends_formula : (a b : Bool) → ((is_some Sym instructions (where_so b []) || (false && false)) || ((false && true) && false)) ≡ true → (a || b) ≡ true
ends_formula true b h = refl
ends_formula false true h = refl
ends_formula false false h = cc

ends_guard : (a b : Bool) → (false || (true && a)) ≡ true → (a || b) ≡ true
ends_guard true b h = refl
ends_guard false b h = cc

fits_extensions : (t : Lexeme) → FitsOf (after_extensions t) (λ u. false)
fits_extensions t =
    fits_where (is_word t (codes "EXTENSION")) (s.keyword (codes "OF") ∷ s.keyword (codes "MODULE") ∷ s.single the.Name ∷ s.slices ∷ s.extensions ∷ []) (λ u. false)
    (λ u h. refl, (λ u h. refl, (λ u h. refl, (λ u h. starts_extension (is_word u (codes "EXTENSION")) _ h, (λ u h. h, tt)))))

fits_file : (t : Lexeme) → FitsOf (next s.file t) (follow s.file)
unfolding FitsAll
fits_file t =
    fits_if (is_word t (codes "FAULT")) (Some (s.keyword (codes "EXTENSION") ∷ s.single the.Name ∷ s.extensions ∷ [])) (after_extensions t) (follow s.file)
    (λ u h. refl, (λ u h. refl, (λ u h. h, tt))) (fits_extensions t)

starts_with : (a : Bool) → ((is_some Sym instructions (where_so a []) || (false && false)) || ((false && false) && false)) ≡ true → a ≡ true
starts_with true h = refl
starts_with false h = cc

fits_slices : (t : Lexeme) → FitsOf (next s.slices t) (follow s.slices)
fits_slices t =
    fits_where (is_word t (codes "SLICE")) (s.single the.Name ∷ s.keyword (codes "AFFECTS") ∷ s.single the.Name ∷ s.slice_start ∷ s.keyword (codes "WITH") ∷ s.mode ∷ s.modes ∷ s.slices ∷ []) (follow s.slices) (
      λ u h. refl,
      (
        λ u h. refl,
        (
          λ u h. refl,
          (
            λ u h. starts_with (is_word u (codes "WITH")) h,
            (λ u h. refl, (λ u h. refl, (λ u h. starts_slice (is_word u (codes "SLICE")) (is_word u (codes "EXTENSION")) _ h, (λ u h. h, tt)))),
          ),
        ),
      ),
    )

fits_mode_rest : (t : Lexeme) → FitsOf (next s.mode_rest t) (follow s.mode_rest)
fits_mode_rest t =
    fits_where (is_single the.Name (mark_of t)) (s.mark ∷ s.single the.Colon ∷ s.dynamics ∷ s.effect ∷ s.guard ∷ s.single the.Semicolon ∷ []) (follow s.mode_rest)
    (λ u h. starts_single (is_single the.Colon (mark_of u)) h, (λ u h. refl, (λ u h. refl, (λ u h. refl, (λ u h. starts_single (is_single the.Semicolon (mark_of u)) h, (λ u h. refl, tt))))))

fits_mark : (c : Mark) → FitsOf (after_mark c) (follow s.mark)
unfolding FitsAll
fits_mark marks.OpenBrace = (λ u h. refl, tt)
fits_mark c = tt

fits_in_mark : (c : Mark) → FitsOf (after_in_mark c) (follow s.in_mark)
unfolding FitsAll
fits_in_mark marks.CloseBrace = tt
fits_in_mark c = (λ u h. refl, tt)

fits_int : (c : Mark) (f : Lexeme → Bool) → FitsOf (after_int c) f
unfolding FitsAll
fits_int marks.Minus f = (λ u h. refl, tt)
fits_int marks.Number f = tt
fits_int c f = tt

fits_constant : (c : Mark) → FitsOf (after_constant c) (follow s.constant)
unfolding FitsAll
fits_constant marks.Name = tt
fits_constant c = fits_int c (follow s.constant)

fits_arguments : (o : Option EffectKind) → FitsOf (option_map arguments o) (follow s.effect)
unfolding FitsAll
fits_arguments None = tt
fits_arguments (Some (kind.Plain of)) = tt
fits_arguments (Some (kind.OfConstant of)) = (λ u h. refl, (λ u h. refl, (λ u h. refl, tt)))
fits_arguments (Some (kind.OfExpression of)) = (λ u h. refl, (λ u h. ends_formula (is_single the.Semicolon (mark_of u)) (is_single the.Close (mark_of u)) h, (λ u h. refl, tt)))
fits_arguments (Some (kind.OfNumber of)) = (λ u h. refl, (λ u h. refl, (λ u h. refl, tt)))
fits_arguments (Some (kind.OfNumbers of)) = (λ u h. refl, (λ u h. refl, (λ u h. refl, (λ u h. refl, (λ u h. refl, tt)))))

fits_live : (st : State) (f : Lexeme → Bool) →
    ((u : Lexeme) → (false || (true && f u)) ≡ true → (is_single the.Semicolon (mark_of u) || is_single the.Close (mark_of u)) ≡ true) → FitsOf (live st []) f
unfolding FitsAll
fits_live stuck f h = tt
fits_live st f h = (h, tt)

fits : (x : Sym) (t : Lexeme) → FitsOf (next x t) (follow x)
unfolding FitsAll
fits (s.single w) t = fits_where (is_single w (mark_of t)) [] (follow (s.single w)) tt
fits (s.keyword w) t = fits_where (is_word t w) [] (follow (s.keyword w)) tt
fits (s.formula st q) t = fits_live (machine.step st (role_of t)) (follow (s.formula st q)) (λ u h. h)
fits s.file t = fits_file t
fits s.extensions t = fits_extensions t
fits s.slices t = fits_slices t
fits s.slice_start t = fits_where (is_word t (codes "INITIALLY")) (s.keyword (codes "ANY") ∷ []) (follow s.slice_start) (λ u h. refl, tt)
fits s.mode t = fits_where (is_word t (codes "MODE")) (s.mode_rest ∷ []) (follow s.mode) (λ u h. refl, tt)
fits s.modes t = fits_where (is_word t (codes "MODE")) (s.mode_rest ∷ s.modes ∷ []) (follow s.modes) (λ u h. refl, (λ u h. h, tt))
fits s.mode_rest t = fits_mode_rest t
fits s.mark t = fits_mark (mark_of t)
fits s.in_mark t = fits_in_mark (mark_of t)
fits s.dynamics t = fits_where (is_word t (codes "Permanent") || is_word t (codes "Transient")) [] (follow s.dynamics) tt
fits s.effect t = fits_arguments (effect_in t)
fits s.constant t = fits_if (is_word t (codes "TRUE") || is_word t (codes "FALSE")) (Some []) (after_constant (mark_of t)) (follow s.constant) tt (fits_constant (mark_of t))
fits s.int t = fits_int (mark_of t) (follow s.int)
fits s.guard t =
    fits_where (is_word t (codes "WHEN")) (expr ∷ []) (follow s.guard) (λ u h. ends_guard (is_single the.Semicolon (mark_of u)) (is_single the.Close (mark_of u)) h, tt)

-- a list that each symbol stands for
short_mode : SpellsMode (word (codes "MODE") ∷ shortest_mode) (record { name = codes "x"; mark = None; dynamics = Permanent; effect = plain Frozen; guard = None })
short_mode = a_mode refl no_mark d_permanent (an_effect no_argument) no_guard

completing : (x : Sym) → spelled x (shortest x)
completing (s.single the.Name) = (word (codes "x"), refl, refl)
completing (s.single the.Number) = (num 0 [], refl, refl)
completing (s.single the.Open) = (sign k.Open, refl, refl)
completing (s.single the.Close) = (sign k.Close, refl, refl)
completing (s.single the.Comma) = (sign k.Comma, refl, refl)
completing (s.single the.Colon) = (sign k.Colon, refl, refl)
completing (s.single the.Semicolon) = (sign k.Semicolon, refl, refl)
completing (s.keyword w) = refl
completing (s.formula st q) = completes st q
completing s.mode = (_, short_mode)
completing s.mode_rest = (_, short_mode)
completing s.in_mark = (Some [], a_mark {ts = []} no_more)
completing s.dynamics = (_, d_permanent)
completing s.effect = (plain Frozen, an_effect no_argument)
completing s.constant = (_, const_int plain_int)
completing s.int = (_, plain_int)
completing s.file = (_, unnamed no_more)
completing s.extensions = (_, no_more)
completing s.slices = (_, no_more)
completing s.slice_start = (_, at_nominal)
completing s.modes = (_, no_more)
completing s.mark = (_, no_mark)
completing s.guard = (_, no_guard)

pub instructions_predictable : IsPredictable Sym instructions
instructions_predictable = record {
  empty_spelled = empties;
  spelled_empty = emptied;
  sound = λ x t syms e ts m. sounds x t ts (some_leads instructions (next x t) syms ts e m);
  complete = λ x t ts d. leads_some instructions (next x t) ts (completed x t ts d);
  apart = apart_from;
  inner = λ x t syms e. some_fits instructions (next x t) syms (follow x) e (fits x t);
  completes = completing;
}
