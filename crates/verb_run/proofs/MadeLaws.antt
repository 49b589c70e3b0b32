-- From a generated case to what the words that ask for it come to, and from an answered run to the case that it has made.
use Rattle.std.proofs.Common.{◌≡◌, ℕ, List, Option, Some, None, IfSome, IsSomeAnd, refl, sym, ap, subst, ◌∙◌}
use Rattle.std.specs.Prelude.{codes}
use Rattle.base_files.specs.declared.files.NamedFile.{NamedFile}
use Rattle.base_files.specs.Files.{with_file}
use Rattle.base_files.proofs.Writing.{file_of-with_file}
use Rattle.smv_language.specs.Language.{Text, program_text}
use Rattle.fault_instructions.specs.InstructionText.{instructions_text}
use Rattle.verb_command_line.specs.declared.verb.Verb.TheVariants as verb
use Rattle.verb_command_line.specs.Commands.{make}
use Rattle.verb_command_line.specs.Table.{options_of}
use Rattle.verb_command_line.specs.Meaning.{AreDifferent, Makes, generates as makes_case}
use Rattle.verb_command_line.proofs.ReadingLaws.{one_command}
use Rattle.verb_loading.specs.declared.status.Status.{Status}
use Rattle.verb_run.specs.Requests.{AsksToMake}
use Rattle.verb_loading.specs.Cases.{Case}
use Rattle.verb_run.specs.GeneratedCase.{IsGenerated, HasMade, IsMade}
use Rattle.verb_run.specs.Runs.{Outcome, MakeComesTo, is_made, CommandComesTo, Means, refuses_words, asked, IsAnswer, IsFinished, IsDelivered, HasAnswered}
use Rattle.verb_run.proofs.AnalysedLaws.{apart}
use Rattle.verb_run.proofs.HeadlineLaws.{other_file}
use Rattle.verb_run.proofs.ExtensionLemmas.{refused_not_asked}
use Rattle.verb_run.proofs.TabulatedLaws.{finished_answers}

options_differ : codes "--model" ≡ codes "--faults" → ⊥
options_differ e = cc

-- the two files of a generated case have different names
made_files_differ : (words : List Text) (number stages depth : ℕ) (model faults : Text) → AsksToMake words number stages depth model faults → model ≡ faults → ⊥
made_files_differ words number stages depth model faults asks same = by_verb asks.verb asks.makes asks.different
  where
    by_verb : (v : _) → Makes asks.pairs v (make number stages depth model faults) → AreDifferent (options_of v) asks.pairs → ⊥
    by_verb v (makes_case _ _ _ _ _ n s d m f) different = apart (options_of verb.Make) (codes "--model") (codes "--faults") options_differ refl refl asks.pairs model faults same different m f

module _ (files : List NamedFile) (said now : Option (List ℕ)) (number stages depth : ℕ) (model faults : Text) (s : Status) (differ : model ≡ faults → ⊥) where
  case_made : (c : Case) (after : Option (List NamedFile)) → IsGenerated number stages c → HasMade c stages depth model faults s (Some files) after said now →
      IsSomeAnd after (λ new. IsMade new said now number stages depth model faults s)
  case_made c after g h =
      let m = program_text c.program in
      let i = instructions_text c.instructions in
      let both = with_file (with_file files model m) faults i in
      subst (λ told. IsSomeAnd told (λ new. IsMade new said now number stages depth model faults s)) (sym h.written)
      (record {
        c = c;
        generated = g;
        has_model = other_file (with_file files model m) faults model i (λ e. differ (sym e)) ∙ file_of-with_file files model m ∙ ap (λ p. Some (program_text p)) g.program;
        has_faults = file_of-with_file (with_file files model m) faults i ∙ ap (λ j. Some (instructions_text j)) g.instructions;
        event = h.event;
        is_event = h.is_event;
        analysis = h.analysis;
        found = h.found;
        ends = h.ends;
        reported = h.reported;
      })

  comes_made : (o : Outcome) (after : Option (List NamedFile)) → MakeComesTo number stages depth model faults o → IsDelivered o s (Some files) after said now →
      IsSomeAnd after (λ new. IsMade new said now number stages depth model faults s)
  comes_made o after (is_made c g) stands = case_made c after g stands

-- a run that answers that it has finished has made the case
pub finished_makes : (told after : Option (List NamedFile)) (said now : Option (List ℕ)) (words : List Text) (s : Status) (number stages depth : ℕ) (model faults : Text) →
    (IsAnswer s → IfSome told (λ files. HasAnswered files words s told after said now)) → IsFinished s → AsksToMake words number stages depth model faults →
    IfSome told (λ files. IsSomeAnd after (λ new. IsMade new said now number stages depth model faults s))
finished_makes None after said now words s number stages depth model faults answered done asks = tt
finished_makes (Some files) after said now words s number stages depth model faults answered done asks =
    let answer = answered (finished_answers s done) in
    by_means answer.outcome answer.means answer.delivered
  where
    by_means : (o : Outcome) → Means files words o → IsDelivered o s (Some files) after said now → IsSomeAnd after (λ new. IsMade new said now number stages depth model faults s)
    by_means o (refuses_words f refused) stands = absurd (refused_not_asked words f (make number stages depth model faults) refused asks)
    by_means o (asked c o' named comes) stands =
        comes_made files said now number stages depth model faults s (made_files_differ words number stages depth model faults asks) o' after
        (subst (λ d. CommandComesTo files d o') (one_command words c (make number stages depth model faults) named asks) comes) stands
