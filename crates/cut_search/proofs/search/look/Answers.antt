use Rattle.std.proofs.Common.{◌∷◌, ◌++◌, [], sym, ap, ◌∙◌, subst, length}
use Rattle.cut_frames.specs.Chain.{IsOverBits}
use Rattle.sat_encoding_laws.specs.FlatTraces.{IsNumbered}
use Rattle.cut_search_laws.specs.FoundSets.{sets_of}
use Rattle.cut_search_laws.specs.FlatSearch.{IsClauseOf}
use Rattle.cut_search.proofs.search.look.Goals as goal
use Rattle.cut_search.proofs.SearchLemmas.{lawful_path, found_path, looks_along}

pub clear-requires : goal.clear-requires
clear-requires g c = record {
  history = record {
    over_bits = subst (λ s. IsOverBits s c.history.result.now) (sym c.requires.system) c.history.ensures.over_bits;
    positive = c.history.ensures.positive;
  };
}

pub show-requires-clause-lawful : goal.show-requires-clause-lawful
show-requires-clause-lawful g c =
    lawful_path (g.E.Encoded.problem c.args.model.now) c.args.bounds.size (sets_of c.args.found.items) c.args.frames.now.system c.args.frames.now.bad c.clear.new.self.frames c.args.bounds.depth c.in_ok-clear.field-0 c.in-Path.path
    c.is_searched.ensures c.requires.bad c.requires.system c.in-Path.is c.in_ok-clear.ensures.cleared

pub set_clause-requires : goal.set_clause-requires
set_clause-requires g c =
    subst (IsNumbered (length (g.E.Encoded.problem c.args.model.now).modes)) (sym c.set.ensures)
    (found_path (g.E.Encoded.problem c.args.model.now) c.args.bounds.size c.args.found.items c.args.frames.now.system c.args.frames.now.bad c.clear.new.self.frames c.args.bounds.depth c.in_ok-clear.field-0 c.in-Path.path c.in_ok-new-in-Path.new
    c.is_searched.ensures c.requires.listed c.requires.bad c.requires.system c.in-Path.is c.in_ok-clear.ensures.cleared c.in_ok-new-in-Path.ensures).0.numbered

pub returns-in_ok-list_found-in-Path-clause-looked : goal.returns-in_ok-list_found-in-Path-clause-looked
returns-in_ok-list_found-in-Path-clause-looked g c =
    looks_along (g.E.Encoded.problem c.args.model.now) c.args.bounds.size c.args.found.items c.list_found.new.found.items c.args.frames.now.system c.args.frames.now.bad c.clear.new.self.frames c.args.bounds.depth c.in_ok-clear.field-0 c.in-Path.path
    c.in_ok-new-in-Path.new c.in_ok-clause-in-Path.clause c.add_bad.new.self
    c.is_searched.ensures c.requires.listed c.requires.bad c.requires.system c.in-Path.is c.in_ok-clear.ensures.cleared c.in_ok-new-in-Path.ensures
    (subst (λ set. IsClauseOf (g.E.Encoded.problem c.args.model.now) set c.in_ok-clause-in-Path.clause) c.set.ensures c.in_ok-clause-in-Path.ensures)
    c.in_ok-list_found-in-Path.ensures (c.in_ok-add_bad-in-Path.ensures.bad ∙ ap (λ b. b ++ c.in_ok-clause-in-Path.clause ∷ []) c.clear.ensures.bad)
