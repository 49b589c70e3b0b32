use Rattle.std.proofs.Common.{◌≡◌, ◌∙◌, List, [], ◌∷◌, ap}
use Rattle.sat_clauses.specs.Literal.{Literal, plain}
use Rattle.sat_circuits.specs.Circuit.{Circuit, with_gate}
use Rattle.sat_circuits.specs.Gates.{and_gate}
use Rattle.sat_circuits.proofs.Extension.{OnOk-free}
use Rattle.sat_circuits.proofs.Rows.{gate_exact, gate_value, gate_err, and_gate-free, and_gate-gives}
use Rattle.sat_circuits.proofs.gates.Gates.and.Goals as goal

pub returns : goal.returns
unfolding and_gate
returns c =
    let s : Circuit = c.args.self.now in
    let g : Literal = c.new-g.result in
    let at : g ≡ plain s.free = c.new-g.ensures ∙ ap (λ (t : Circuit). plain t.free) c.self.view_is in
    let cs : List (List Literal) = (c.neg.result ∷ c.args.a ∷ []) ∷ (c.neg-2.result ∷ c.args.b ∷ []) ∷ (g ∷ c.neg-3.result ∷ c.neg-4.result ∷ []) ∷ [] in
    let is : and_gate c.args.a c.args.b s ≡ (with_gate s cs, g) = cc in
    let exact : _ = gate_exact c.define.result s c.define.new.self g cs _ is c.define.ensures.state c.define.ensures.literal in
    record {
      exact = exact;
      value = gate_value _ s _ _ _ exact (and_gate-gives s c.args.a c.args.b c.requires.left c.requires.right);
      next = OnOk-free _ _ _ _ exact (and_gate-free c.args.a c.args.b s);
      err = gate_err _ s _ g cs _ is c.define.ensures.err;
    }
