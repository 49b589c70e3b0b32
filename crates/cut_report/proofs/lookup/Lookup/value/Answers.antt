use Rattle.std.proofs.Common.{Result, Ok, Err, subst, IfOk}
use Rattle.smv_language.specs.ModelTree.{model_tree}
use Rattle.cut_report.specs.Lookups.{IsFoundAt}
use Rattle.cut_report.specs.ValueReading.{IsReadIn}
use Rattle.cut_report.proofs.LookupLaws.{value_found}
use Rattle.cut_report.proofs.lookup.Lookup.value.Goals as goal

if_ok : {A E : Type 0} (P Q : A → Type 0) (r : Result A E) → ((x : A) → P x → Q x) → IfOk r P → IfOk r Q
if_ok P Q (Ok x) f h = f x h
if_ok P Q (Err e) f h = tt

pub returns : goal.returns
returns c =
    if_ok (IsReadIn c.args.self.now.symbols.texts.now c.domain.result.now c.args.text.now) (IsFoundAt (model_tree c.args.self.now.typed.now.model) c.args.place c.args.text.now) c.value_of.result
    (λ o read.
    value_found c.args.self.now.typed.now.model c.args.place c.domain.result.now c.requires.within c.requires.printable c.requires.symbols c.domain.ensures.values c.args.text.now o
    (subst (λ ts. IsReadIn ts c.domain.result.now c.args.text.now o) c.args.self.now.own read))
    c.value_of.ensures
