use Rattle.std.proofs.Common.{◌<◌, refl, sym, ◌∙◌, arith}
use Rattle.sat_clauses.specs.Code.{code_of}
use Rattle.cert_derivations.proofs.MarkLaws.{places, in_list, in_table}
use Rattle.cert_derivations.proofs.covering.is_needed.Goals as goal

pub is_marked-requires : goal.is_marked-requires
is_marked-requires c = places 4096 c.args.needed.now c.args.marks.now c.requires refl

pub returns-then-code-lt-WINDOW : goal.returns-then-code-lt-WINDOW
returns-then-code-lt-WINDOW c =
    let small : code_of c.args.lit < 4096 = grind (arith, c.code.ensures.value, c.if-code-lt-WINDOW.true) in (
      (λ e. in_list 4096 c.args.needed.now c.args.marks.now c.requires refl c.args.lit (sym c.is_marked.ensures ∙ e)),
      (λ has. c.is_marked.ensures ∙ in_table 4096 c.args.needed.now c.args.marks.now c.requires refl c.args.lit small has),
    )
