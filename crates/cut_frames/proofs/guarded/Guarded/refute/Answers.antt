use Rattle.std.proofs.Common.{◌≡◌, ◌++◌, All, List, refl, sym, subst, arith}
use Rattle.std.proofs.lemmas.Grind.{common_steps}
use Rattle.sat_clauses.specs.Derivation.{IsUpTo}
use Rattle.sat_clauses.specs.Hints.{HasNoOpposites}
use Rattle.sat_clauses.specs.Literal.{Literal}
use Rattle.sat_solver.specs.LearnedClauses.{IsAnswer, IsRefuted}
use Rattle.sat_solver.specs.declared.solve.Verdict.TheVariants.{Unsat}
use Rattle.cut_frames.specs.declared.guarded.Guarded.{Guarded}
use Rattle.cut_frames.specs.GuardedSearch.{added_in, asked_guards, Tells}
use Rattle.cut_frames.proofs.GuardedSteps.{asked_well}
use Rattle.cut_frames.proofs.GuardedLaws.{asks}
use Rattle.cut_frames.proofs.PartLemmas.{some_of}
use Rattle.cut_frames.proofs.GuardedVerdicts.{tells_unsat, asked_up_to, asked_apart}
use Rattle.cut_frames.proofs.guarded.Guarded.refute.Goals as goal

pub refute-requires : goal.refute-requires
refute-requires g c =
    let s = c.args.self.now in
    let under : c.as_slice.result.now ≡ asked_guards s c.args.beside c.args.frame ++ c.args.assumptions.now = grind (arith, common_steps) in
    record {
      can_assume = record {
        in_range = subst (All (IsUpTo s.search.kept.vars)) (sym under) (asked_up_to s c.args.beside c.args.frame c.args.assumptions.now c.requires.well c.requires.frame c.requires.up_to);
        apart = subst HasNoOpposites (sym under) (asked_apart s c.args.beside c.args.frame c.args.assumptions.now c.requires.well c.requires.frame c.requires.up_to c.requires.apart);
      };
    }

pub returns-in-None-clause-asked : goal.returns-in-None-clause-asked
returns-in-None-clause-asked g c =
    let s = c.args.self.now in
    let t : Guarded = record { search = c.refute.new.self; vars = s.vars; places = s.places; step = s.step; bad = s.bad; frames = s.frames; simple = s.simple; past = s.past } in
    asks s t (asked_well s t _ _ _ c.requires.well (record { places = refl; simple = refl; step = refl; bad = refl; frames = refl }) refl c.in_ok-refute.ensures.vars c.in_ok-refute.ensures.learned)

pub returns-clause-asked : goal.returns-clause-asked
returns-clause-asked g c =
    let s = c.args.self.now in
    let t : Guarded = record { search = c.refute.new.self; vars = s.vars; places = s.places; step = s.step; bad = s.bad; frames = s.frames; simple = s.simple; past = s.past } in
    asks s t (asked_well s t _ _ _ c.requires.well (record { places = refl; simple = refl; step = refl; bad = refl; frames = refl }) refl c.in_ok-refute.ensures.vars c.in_ok-refute.ensures.learned)

pub returns-clause-core : goal.returns-clause-core
returns-clause-core g c =
    let s = c.args.self.now in
    let under : c.as_slice.result.now ≡ asked_guards s c.args.beside c.args.frame ++ c.args.assumptions.now = grind (arith, common_steps) in
    let answer = some_of c.in_ok-refute.field-0 c.in-Some.core (λ core. IsAnswer s.search.cores s.search.kept.vars (added_in s) c.refute.new.self.kept.clauses c.as_slice.result.now (Unsat core)) c.in-Some.is c.in_ok-refute.ensures.answer in
    subst (λ (core : List Literal). Tells s c.args.beside c.args.frame c.args.assumptions.now (Unsat core)) (sym c.in_ok-without_guards-in-Some.ensures)
    (tells_unsat s s.search.cores c.args.beside c.args.frame c.refute.new.self.kept.clauses c.args.assumptions.now c.in-Some.core c.requires.well c.requires.frame c.requires.up_to
    (subst (λ (ls : List Literal). IsRefuted s.search.cores (added_in s) c.refute.new.self.kept.clauses ls c.in-Some.core) under answer))
