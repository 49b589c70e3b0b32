use Rattle.std.proofs.Common.{◌≡◌, ◌++◌, All, List, refl, sym, subst, arith}
use Rattle.std.proofs.lemmas.Grind.{common_steps}
use Rattle.sat_clauses.specs.Derivation.{IsUpTo}
use Rattle.sat_clauses.specs.Hints.{HasNoOpposites}
use Rattle.sat_clauses.specs.Literal.{Literal}
use Rattle.sat_solver.specs.LearnedClauses.{IsAnswer}
use Rattle.sat_solver.specs.Search.{IsSolution}
use Rattle.cut_frames.specs.declared.guarded.Guarded.{Guarded}
use Rattle.cut_frames.specs.GuardedSearch.{added_in, lone_guards}
use Rattle.cut_frames.proofs.GuardedSteps.{asked_well}
use Rattle.cut_frames.proofs.GuardedLaws.{asks}
use Rattle.cut_frames.proofs.GuardedVerdicts.{finds_sat, lone_up_to, lone_apart}
use Rattle.cut_frames.proofs.guarded.Guarded.find.Goals as goal

pub ask-requires : goal.ask-requires
ask-requires g c =
    let s = c.args.self.now in
    let under : c.as_slice.result.now ≡ lone_guards s c.args.beside ++ c.args.assumptions.now = grind (arith, common_steps) in
    record {
      can_assume = record {
        in_range = subst (All (IsUpTo s.search.kept.vars)) (sym under) (lone_up_to s c.args.beside c.args.assumptions.now c.requires.well c.requires.up_to);
        apart = subst HasNoOpposites (sym under) (lone_apart s c.args.beside c.args.assumptions.now c.requires.well c.requires.up_to c.requires.apart);
      };
    }

pub returns-in-Sat-clause-asked : goal.returns-in-Sat-clause-asked
returns-in-Sat-clause-asked g c =
    let s = c.args.self.now in
    let t : Guarded = record { search = c.ask.new.self; vars = s.vars; places = s.places; step = s.step; bad = s.bad; frames = s.frames; simple = s.simple; past = s.past } in
    asks s t (asked_well s t _ _ _ c.requires.well (record { places = refl; simple = refl; step = refl; bad = refl; frames = refl }) refl c.in_ok-values.ensures.vars c.in_ok-values.ensures.learned)

pub returns-in-Sat-clause-found : goal.returns-in-Sat-clause-found
returns-in-Sat-clause-found g c =
    let s = c.args.self.now in
    let under : c.as_slice.result.now ≡ lone_guards s c.args.beside ++ c.args.assumptions.now = grind (arith, common_steps) in
    let answer = subst (IsAnswer s.search.cores s.search.kept.vars (added_in s) c.ask.new.self.kept.clauses c.as_slice.result.now) c.in-Sat.is c.in_ok-values.ensures.answer in
    finds_sat s c.args.beside s.search.kept.vars c.args.assumptions.now c.in-Sat.values c.requires.well (subst (λ (ls : List Literal). IsSolution s.search.kept.vars (added_in s) ls c.in-Sat.values) under answer)

pub returns-clause-asked : goal.returns-clause-asked
returns-clause-asked g c =
    let s = c.args.self.now in
    let t : Guarded = record { search = c.ask.new.self; vars = s.vars; places = s.places; step = s.step; bad = s.bad; frames = s.frames; simple = s.simple; past = s.past } in
    asks s t (asked_well s t _ _ _ c.requires.well (record { places = refl; simple = refl; step = refl; bad = refl; frames = refl }) refl c.in_ok-values.ensures.vars c.in_ok-values.ensures.learned)
