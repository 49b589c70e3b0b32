use Rattle.test_encoding.proofs.bad.top_of.Goals as goal

pub judged-requires-clause-closed : goal.judged-requires-clause-closed
judged-requires-clause-closed g c = c.in_ok-made.ensures

pub judged-requires-clause-definitions : goal.judged-requires-clause-definitions
judged-requires-clause-definitions g c = c.check_plain.ensures.definitions

pub judged-requires-clause-inputs : goal.judged-requires-clause-inputs
judged-requires-clause-inputs g c = c.check_plain.ensures.inputs

pub returns : goal.returns
returns g c = c.in_ok-top.ensures
