-- A list goes on exactly where something after it makes it spell an expression.
use Rattle.std.proofs.Common.{◌≡◌, true, false, List, [], ◌∷◌, ◌++◌, refl, sym, ◌∙◌, ap}
use Rattle.smv_language.specs.Language.{Tree, Lexeme, Path, at_expr, Spells}
use Rattle.smv_expression_reader.specs.Recogniser.{Ended, by_number, by_name, by_other, State, wants, wants_not, wants_low, wants_dots, wants_high, wants_digits, wants_name, wants_open, wants_branch, had, stuck, run, is_whole, is_stuck, start}
use Rattle.smv_expression_reader.specs.Complete.{close_all, completion}
use Rattle.smv_expression_reader.proofs.Accepted.{run_append, run_stuck, spelled_accepted}
use Rattle.smv_expression_reader.proofs.Rest.{accepted_spelled}
use Rattle.smv_expression_reader.specs.declared.frames.OpenFrame.{OpenFrame as Frame}
use Rattle.smv_expression_reader.specs.declared.frames.OpenFrame.TheVariants as frame

closes_all : (e : Ended) (s : List Frame) → is_whole (run (had e s) (close_all s)) ≡ true
closes_all e [] = refl
closes_all by_number (frame.Group ∷ s) = closes_all by_other s
closes_all by_name (frame.Group ∷ s) = closes_all by_other s
closes_all by_other (frame.Group ∷ s) = closes_all by_other s
closes_all by_number (frame.Moment ∷ s) = closes_all by_other s
closes_all by_name (frame.Moment ∷ s) = closes_all by_other s
closes_all by_other (frame.Moment ∷ s) = closes_all by_other s
closes_all by_number (frame.Members ∷ s) = closes_all by_other s
closes_all by_name (frame.Members ∷ s) = closes_all by_other s
closes_all by_other (frame.Members ∷ s) = closes_all by_other s
closes_all by_number (frame.FirstChoice ∷ s) = closes_all by_number s
closes_all by_name (frame.FirstChoice ∷ s) = closes_all by_number s
closes_all by_other (frame.FirstChoice ∷ s) = closes_all by_number s
closes_all by_number (frame.Condition ∷ s) = closes_all by_other s
closes_all by_name (frame.Condition ∷ s) = closes_all by_other s
closes_all by_other (frame.Condition ∷ s) = closes_all by_other s
closes_all by_number (frame.Outcome ∷ s) = closes_all by_other s
closes_all by_name (frame.Outcome ∷ s) = closes_all by_other s
closes_all by_other (frame.Outcome ∷ s) = closes_all by_other s

pub completes : (st : State) → is_stuck st ≡ false → is_whole (run st (completion st)) ≡ true
completes (wants s) h = closes_all by_number s
completes (wants_not s) h = closes_all by_number s
completes (wants_low s) h = closes_all by_other s
completes (wants_dots s) h = closes_all by_other s
completes (wants_high s) h = closes_all by_other s
completes (wants_digits s) h = closes_all by_other s
completes (wants_name s) h = closes_all by_name s
completes (wants_open s) h = closes_all by_other s
completes (wants_branch s) h = closes_all by_other s
completes (had e s) h = closes_all e s
completes stuck h = cc

-- the list is the front of one that spells an expression
abbrev pub IsFront : List Lexeme → Type 0
IsFront ts = (us : List Lexeme) × (t : Tree Path) × Spells at_expr (ts ++ us) t

pub goes_on : (ts : List Lexeme) → is_stuck (run start ts) ≡ false → IsFront ts
goes_on ts h =
    let us = completion (run start ts) in
    let accepted : is_whole (run start (ts ++ us)) ≡ true = ap is_whole (run_append start ts us) ∙ completes (run start ts) h in
    let made = accepted_spelled (ts ++ us) accepted in
    (us, made.0, made.1)

pub front_goes_on : (ts : List Lexeme) → IsFront ts → is_stuck (run start ts) ≡ false
front_goes_on ts f = go (run start ts) refl
  where
    go : (st : State) → run start ts ≡ st → is_stuck st ≡ false
    go stuck e =
        let whole : is_whole (run start (ts ++ f.0)) ≡ true = spelled_accepted f.2 in
        let shown : run start (ts ++ f.0) ≡ stuck = run_append start ts f.0 ∙ ap (λ z. run z f.0) e ∙ run_stuck f.0 in
        let clash : false ≡ true = ap is_whole (sym shown) ∙ whole in cc
    go st e = refl
