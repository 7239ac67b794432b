-- `proof::asking::draw_choices` meets its contract: the operation passes its tests.
-- Assumes nothing.
use Rattle.proof.proofs.Askings.{challenge-drawn}
use Rattle.proof.proofs.asking.draw_choices.Goals as goal

pub returns : goal.returns
returns c =
    let x = c.args in
    challenge-drawn x.s.now x.m x.tau x.n x.hstar.now x.salt.now x.y.now x.message.now x.choices.now c.requires.0 c.requires.1 _ _ c.challenge.result c.sha3_256-digest.ensures c.challenge.ensures
