use Rattle.std.proofs.Common.{rules, ◌≡◌, ◌∙◌, ap, subst, not, filter, List, [], ◌∷◌, ◌++◌}
use Rattle.std.proofs.lemmas.Fn.{filter_same}
use Rattle.cut_frames.specs.Levels.{outdone}
use Rattle.cut_frames.specs.declared.levels.Held.{Held}
use Rattle.cut_frames.proofs.levels.Levels.put.Goals as goal

pub returns-clause-ok : goal.returns-clause-ok
returns-clause-ok c =
    let left : c.retain.new.self.items ≡ filter (λ (h : Held). not (outdone c.args.highest c.args.clause h)) c.reserve.new.self.items = filter_same _ _ _ (λ x b f' k. search rules) _ _ c.retain.ensures.filtered in
    let all : c.retain.new.self.items ≡ filter (λ (h : Held). not (outdone c.args.highest c.args.clause h)) c.args.self.now.held.items = subst (λ (hs : List Held). c.retain.new.self.items ≡ filter (λ (h : Held). not (outdone c.args.highest c.args.clause h)) hs) c.reserve.ensures.items left in
    c.push_reserved.ensures.items ∙ ap (λ (hs : List Held). hs ++ record { clause = c.args.clause; highest = c.args.highest } ∷ []) all
