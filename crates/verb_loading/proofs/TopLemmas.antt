-- From what is wrong with the text of a top event to its refusal.
use Rattle.std.proofs.Common.{◌≡◌}
use Rattle.smv_language.specs.ProgramTree.{Text, ProgramTree}
use Rattle.verb_loading.specs.declared.status.InputFault.{InputFault}
use Rattle.verb_loading.specs.declared.status.Refusal.{Refusal}
use Rattle.verb_loading.specs.declared.status.Refusal.TheVariants as refusal
use Rattle.verb_loading.specs.declared.wrong.Wrong.{Wrong}
use Rattle.verb_loading.specs.declared.wrong.Wrong.TheVariants as wrong
use Rattle.verb_loading.specs.declared.input.Stop.TheVariants as stop
use Rattle.verb_loading.specs.Wrongs.{IfRefused}
use Rattle.verb_loading.specs.Cases.{IsWrongWord, too_long, not_spelled}
use Rattle.verb_loading.specs.LoadedCases.{IsWrongTopText, too_long_top, not_a_top}
use Rattle.verb_loading.specs.declared.input.Input.TheVariants as input
use Rattle.verb_loading.specs.Inputs.{stop_at}

pub wrong_text : (p : ProgramTree) (bytes : Text) (told : InputFault) → IsWrongTopText bytes told → IsWrongWord p bytes told
wrong_text p bytes told (too_long_top more is) = too_long more is
wrong_text p bytes told (not_a_top f few means is) = not_spelled f few means is

pub refuses_top : (P : InputFault → Type 0) (w : Wrong) (r : Refusal) → stop.Refused r ≡ stop_at input.Top w → IfRefused P w → (told : InputFault) × (r ≡ refusal.Top told) × P told
refuses_top P (wrong.Refused told) r is bad = let same : r ≡ refusal.Top told = cc in (told, same, bad)
refuses_top P wrong.Memory r is bad = cc

pub no_desk_at_top : (w : Wrong) → stop.Desk ≡ stop_at input.Top w → ⊥
no_desk_at_top (wrong.Refused told) is = cc
no_desk_at_top wrong.Memory is = cc
