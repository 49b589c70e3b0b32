use Rattle.std.proofs.Common.{◌≡◌, ◌∷◌, ◌++◌, [], List, true, subst, sym, ap, ◌∙◌}
use Rattle.sat_clauses.specs.Literal.{Literal, opposite}
use Rattle.cut_frames.specs.GuardedSearch.{HasPut, AddsBad}
use Rattle.cut_frames.proofs.GuardedLaws.{plain_guard, with_simple}
use Rattle.cut_frames.proofs.HeldMore.{adds_bad}
use Rattle.cut_frames.proofs.guarded.Guarded.add_bad.Goals as goal

pub returns : goal.returns
returns c =
    let s = c.args.self.now in
    let under : c.in_ok-under.under ≡ record { var = s.bad.var; negated = true } ∷ c.args.clause.now =
    c.in_ok-under.ensures ∙ ap (λ (ls : List Literal). opposite s.bad ∷ ls) c.lits.ensures ∙ ap (λ (b : Literal). opposite b ∷ c.args.clause.now) (plain_guard s.bad c.requires.well.bad.positive) in
    let bads : c.push_lits.new.self ≡ c.put.new.self.simple.bad ++ c.args.clause.now ∷ [] =
    c.in_ok-push_lits.ensures.ok ∙ ap (λ (d : List Literal). c.put.new.self.simple.bad ++ d ∷ []) c.lits-2.ensures in
    subst (λ (ls : List (List Literal)). AddsBad s (with_simple c.put.new.self (record c.put.new.self.simple { bad = ls })) c.args.clause.now) (sym bads)
    (adds_bad s c.put.new.self c.args.clause.now c.requires.well c.requires.up_to (subst (λ (d : List Literal). HasPut s c.put.new.self (d ∷ [])) under c.in_ok-put.ensures))
