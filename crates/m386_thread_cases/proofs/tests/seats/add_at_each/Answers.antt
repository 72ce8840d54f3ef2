use denote.Param.Send.{sendable}
use Rattle.m386_arbiter.proofs.Gathering.{seat_at}
use Rattle.m386_arbiter.proofs.Sent.{bus_seat_send, arbiter_sync}
use Rattle.m386_thread_cases.proofs.tests.seats.add_at_each.Goals as goal

pub map_vec-requires-after_bounds : goal.map_vec-requires-after_bounds
map_vec-requires-after_bounds g c κs within = λ i x l e. (seat_at _ _ c.args.seats.items i x c.requires l e).0

-- a seat is sent there, and comes back
pub map_vec-requires-send-J : goal.map_vec-requires-send-J
map_vec-requires-send-J g c κs within = search (sendable, bus_seat_send) depth 12

pub map_vec-requires-send-X : goal.map_vec-requires-send-X
map_vec-requires-send-X g c κs within = search (sendable, bus_seat_send) depth 12

-- the arbiter is shared
pub map_vec-requires-sync-F : goal.map_vec-requires-sync-F
map_vec-requires-sync-F g c κs within = let r = c.type_bounds.sync-R in search (sendable, arbiter_sync) depth 30
