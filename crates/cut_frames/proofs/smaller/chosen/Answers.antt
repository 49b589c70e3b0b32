use Rattle.std.proofs.Common.{◌≡◌, ◌<◌, ◌+◌, ℕ, true, false, List, All, sym, ◌∙◌, ap, subst, arith, length, slice_index_or}
use Rattle.std.proofs.lemmas.Grind.{common_steps}
use Rattle.sat_clauses.specs.Literal.{Literal}
use Rattle.cut_frames.proofs.PartLemmas.{part_all, chosen_has, chosen_part}
use Rattle.std.specs.Prelude.{filter}
use Rattle.cut_frames.proofs.smaller.chosen.Goals as goal

pub mark-requires : goal.mark-requires
mark-requires c =
    let room : length c.resize.new.self.items ≡ c.args.bits + 2 = grind (arith, common_steps) in
    subst (λ (ls : List Literal). All (λ (l : Literal). l.var < length c.resize.new.self.items) ls) (sym c.lits.ensures)
    (subst (λ (m : ℕ). All (λ (l : Literal). l.var < m) c.args.one.now) (sym room) (part_all (λ (l : Literal). l.var < c.args.bits + 2) c.args.one.now c.args.clause.now c.requires.one c.requires.over))

pub mark-requires-2 : goal.mark-requires-2
mark-requires-2 c =
    let room : length c.resize.new.self.items ≡ c.args.bits + 2 = grind (arith, common_steps) in
    subst (λ (ls : List Literal). All (λ (l : Literal). l.var < length c.mark.new.marks.items) ls) (sym c.lits-2.ensures)
    (subst (λ (m : ℕ). All (λ (l : Literal). l.var < m) c.args.other.now) (sym (c.mark.ensures.same ∙ room)) (part_all (λ (l : Literal). l.var < c.args.bits + 2) c.args.other.now c.args.clause.now c.requires.other c.requires.over))

pub returns-clause-part : goal.returns-clause-part
returns-clause-part c =
    let is : c.in_ok-kept.kept ≡ filter (λ (l : Literal). slice_index_or c.mark-2.new.marks.items l.var false) c.args.clause.now = c.in_ok-kept.ensures ∙ ap (filter (λ (l : Literal). slice_index_or c.mark-2.new.marks.items l.var false)) c.lits-3.ensures in
    chosen_part (λ (l : Literal). slice_index_or c.mark-2.new.marks.items l.var false) c.args.clause.now c.in_ok-kept.kept is

pub returns-clause-one : goal.returns-clause-one
returns-clause-one c =
    let is : c.in_ok-kept.kept ≡ filter (λ (l : Literal). slice_index_or c.mark-2.new.marks.items l.var false) c.args.clause.now = c.in_ok-kept.ensures ∙ ap (filter (λ (l : Literal). slice_index_or c.mark-2.new.marks.items l.var false)) c.lits-3.ensures in
    let set = subst (All (λ (l : Literal). slice_index_or c.mark.new.marks.items l.var false ≡ true)) c.lits.ensures c.mark.ensures.marked in
    chosen_has c.mark.new.marks.items c.mark-2.new.marks.items c.args.one.now c.args.clause.now c.in_ok-kept.kept c.requires.one set c.mark-2.ensures.stay is

pub returns-clause-other : goal.returns-clause-other
returns-clause-other c =
    let is : c.in_ok-kept.kept ≡ filter (λ (l : Literal). slice_index_or c.mark-2.new.marks.items l.var false) c.args.clause.now = c.in_ok-kept.ensures ∙ ap (filter (λ (l : Literal). slice_index_or c.mark-2.new.marks.items l.var false)) c.lits-3.ensures in
    let set = subst (All (λ (l : Literal). slice_index_or c.mark-2.new.marks.items l.var false ≡ true)) c.lits-2.ensures c.mark-2.ensures.marked in
    chosen_has c.mark-2.new.marks.items c.mark-2.new.marks.items c.args.other.now c.args.clause.now c.in_ok-kept.kept c.requires.other set (λ x h. h) is
