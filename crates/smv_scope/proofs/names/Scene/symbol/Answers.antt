-- The place of a text among the symbols.
use lib.Pointwise.{pointwise}
use Rattle.std.proofs.Common.{ℕ, List, ap, ◌∙◌, Bor}
use Rattle.std.specs.Prelude.{nat_eq, position}
use Rattle.smv_scope.specs.TableLookUps.{symbol_or}
use Rattle.smv_scope.proofs.Tables.{placed}
use Rattle.smv_scope.proofs.names.Scene.symbol.Goals as goal

pub returns-in-Some : goal.returns-in-Some
returns-in-Some c =
    let keys = c.args.self.now.symbols.keys in
    record {
      symbol =
          c.symbol_of.ensures
          ∙ ap symbol_or (c.in-Some.ensures.index ∙ ap (λ (x : List ℕ). position (λ (y : Bor (List ℕ)). pointwise nat_eq x y.now) keys) c.text.ensures ∙ placed c.args.part.now keys);
    }

pub returns-in-None : goal.returns-in-None
returns-in-None c =
    let keys = c.args.self.now.symbols.keys in
    record {
      symbol = ap symbol_or (c.in-None.ensures.index ∙ ap (λ (x : List ℕ). position (λ (y : Bor (List ℕ)). pointwise nat_eq x y.now) keys) c.text.ensures ∙ placed c.args.part.now keys);
    }
