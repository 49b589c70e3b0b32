use Rattle.test_encoding.proofs.models.flat_of.Goals as goal

pub returns-clause-accepted : goal.returns-clause-accepted
returns-clause-accepted g c = c.in_ok-model.ensures.accepted

pub returns-clause-flat : goal.returns-clause-flat
returns-clause-flat g c = c.in_ok-model.ensures.flat

pub returns-clause-few : goal.returns-clause-few
returns-clause-few g c = c.check_small.ensures.few

pub returns-clause-members : goal.returns-clause-members
returns-clause-members g c = c.check_small.ensures.members
