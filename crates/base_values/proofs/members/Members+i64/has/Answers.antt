use Rattle.std.proofs.Common.{int_cmp}
use Rattle.std.proofs.lemmas.Cmp.{int_cmp_total}
use Rattle.std.proofs.lemmas.Map.Lookups.{exact_signed}
use Rattle.base_values.proofs.Searching.{found}
use Rattle.base_values.proofs.members.Members+i64.has.Goals as goal

pub returns : goal.returns
returns c =
    let facts = c.binary_search.ensures in
    rw (c.is_ok.ensures.value, ← c.self.view_is) (found int_cmp int_cmp_total exact_signed c.self.inside.listed c.deref.result.now (rw c.deref.ensures.value c.self.invariant) c.args.number.now c.binary_search.result facts.bound facts.position)
