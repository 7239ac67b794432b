-- `proving::room` meets its contract.
-- Assumes nothing.
use Rattle.mpc.proofs.Asks.{broadcasts-small}
use Rattle.proving.proofs.Rooms.{all_fit, room_fits, room-made}
use Rattle.proving.proofs.room.Goals as goal

pub overflow_add-ands : goal.overflow_add-ands
overflow_add-ands c = broadcasts-small _ _ _ _ _ c.requires.0

pub overflow_mul-result-2 : goal.overflow_mul-result-2
overflow_mul-result-2 c = let p = c.requires in all_fit _ _ _ _ _ p.0 c.args.k.instances _ _ _ _ _ _ p.1.0 p.1.1.0 p.1.1.1 c.oct.ensures c.oct-2.ensures c.oct-3.ensures

pub overflow_add-result-2 : goal.overflow_add-result-2
overflow_add-result-2 c = let p = c.requires in room_fits _ _ _ _ _ p.0 _ _ _ _ _ _ _ p.1.0 p.1.1.0 p.1.1.1 c.oct.ensures c.oct-2.ensures c.oct-3.ensures

pub returns : goal.returns
returns c = let p = c.requires in room-made _ _ _ _ _ p.0 _ _ _ _ _ _ _ p.1.0 p.1.1.0 p.1.1.1 c.oct.ensures c.oct-2.ensures c.oct-3.ensures
