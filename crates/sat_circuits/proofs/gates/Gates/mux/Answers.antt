use Rattle.std.proofs.Common.{◌≡◌, ◌∙◌, List, [], ◌∷◌, ap}
use Rattle.sat_clauses.specs.Literal.{Literal, plain}
use Rattle.sat_circuits.specs.Circuit.{Circuit, with_gate}
use Rattle.sat_circuits.specs.Gates.{mux_gate}
use Rattle.sat_circuits.proofs.Extension.{OnOk-free}
use Rattle.sat_circuits.proofs.Rows.{gate_exact, gate_value, gate_err, mux_gate-free, mux_gate-gives}
use Rattle.sat_circuits.proofs.gates.Gates.mux.Goals as goal

pub returns : goal.returns
unfolding mux_gate
returns c =
    let s : Circuit = c.args.self.now in
    let g : Literal = c.new-g.result in
    let at : g ≡ plain s.free = c.new-g.ensures ∙ ap (λ (t : Circuit). plain t.free) c.self.view_is in
    let cs : List (List Literal) = (c.neg.result ∷ c.neg-2.result ∷ c.args.a ∷ []) ∷ (c.neg-3.result ∷ c.args.c ∷ c.args.b ∷ []) ∷ (g ∷ c.neg-4.result ∷ c.neg-5.result ∷ []) ∷ (g ∷ c.args.c ∷ c.neg-6.result ∷ []) ∷ [] in
    let is : mux_gate c.args.c c.args.a c.args.b s ≡ (with_gate s cs, g) = cc in
    let exact : _ = gate_exact c.define.result s c.define.new.self g cs _ is c.define.ensures.state c.define.ensures.literal in
    record {
      exact = exact;
      value = gate_value _ s _ _ _ exact (mux_gate-gives s c.args.c c.args.a c.args.b c.requires.choice c.requires.left c.requires.right);
      next = OnOk-free _ _ _ _ exact (mux_gate-free c.args.c c.args.a c.args.b s);
      err = gate_err _ s _ g cs _ is c.define.ensures.err;
    }
