-- One part of a look-up.
use Rattle.std.proofs.Common.{◌≡◌, ◌∷◌, sym, ◌∙◌, ap, subst}
use Rattle.smv_language.specs.ProgramTree.{Text, Path}
use Rattle.smv_scope.specs.SceneTree.{program_of}
use Rattle.smv_scope.specs.Steps.{known_at}
use Rattle.smv_scope.specs.KnownFormals.{rows}
use Rattle.smv_scope.specs.WaitingLookUps.{IsProgress}
use Rattle.smv_scope.proofs.Frames.{advance_waits, advance_last, advance_more, first_is, tail_taken, last_empty, some_more}
use Rattle.smv_scope.proofs.names.Scene.advance.Goals as goal

pub returns-in-Waits : goal.returns-in-Waits
returns-in-Waits c =
    let is = c.requires.frame in
    advance_waits c.args.self.now c.requires.ready c.args.frame is c.in-Waits.formal
    (ap (known_at c.args.self.now c.args.frame.here) (sym (first_is c.args.frame.rest.now is.part is.more c.part-item.result is.rest c.part-item.is)) ∙ sym c.in-Waits.ensures)

pub returns-then-is_empty : goal.returns-then-is_empty
returns-then-is_empty c =
    let is = c.requires.frame in
    advance_last c.args.self.now c.requires.ready c.args.frame is c.in-Known.found
    (ap (known_at c.args.self.now c.args.frame.here) (sym (first_is c.args.frame.rest.now is.part is.more c.part-item.result is.rest c.part-item.is)) ∙ sym c.in-Known.ensures)
    (last_empty c.args.frame.rest.now is.part is.more is.rest c.if-is_empty.ensures)

pub returns-else-is_empty : goal.returns-else-is_empty
returns-else-is_empty c =
    let is = c.requires.frame in
    let next : (y : Text) × (rest : Path) × (is.more ≡ y ∷ rest) = some_more c.args.frame.rest.now is.part is.more is.rest c.if-is_empty.ensures in
    subst (IsProgress (program_of c.args.self.now) (rows c.args.self.now) c.args.frame) (sym c.go_inside.ensures)
    (advance_more c.args.self.now c.requires.ready c.args.frame is next.0 next.1 next.2 c.in-Known.found
    (ap (known_at c.args.self.now c.args.frame.here) (sym (first_is c.args.frame.rest.now is.part is.more c.part-item.result is.rest c.part-item.is)) ∙ sym c.in-Known.ensures)
    _ (tail_taken c.args.frame.rest.now is.part is.more is.rest ∙ next.2))
