-- A seat may go to another thread, and threads may share an arbiter.
use denote.Param.Send.{IsSend, IsSync, sendable, view_send}
use denote.Param.SendFields.{declared_send, declared_sync}
use Rattle.std.proofs.Crossing.{crosses}
use Rattle.std.proofs.alloc.Global.TheSendSync as heap
use Rattle.atomic_table.proofs.owned.Table.TheSendSync as table
use Rattle.atomic_table.proofs.shared.Seat.TheSendSync as seat
use Rattle.m386_base.proofs.ask.Cycle.TheSendSync.{the_send as cycle_send}
use Rattle.m386_memory.specs.contracts.history.Record as Record
use Rattle.m386_memory.specs.contracts.history.Record.TheInside as inside
use Rattle.m386_memory.proofs.store.Store.TheSendSync.{the_send as store_send}
use Rattle.m386_arbiter.specs.contracts.seats.BusSeat as BusSeat
use Rattle.m386_arbiter.specs.contracts.seats.Arbiter as Arbiter

-- ---- the record

fields_send : IsSend inside.the_row
fields_send = declared_send inside.the_type (store_send, (search (sendable, crosses, cycle_send) depth 20, (search (sendable, crosses) depth 20, tt)))

pub record_send : IsSend Record.the_row
record_send = view_send inside.the_row _ _ _ _ fields_send

-- ---- a seat

pub bus_seat_send : IsSend BusSeat.the_row
bus_seat_send = declared_send BusSeat.the_type (search sendable depth 20, (seat.the_send Record.the_row _ record_send, tt))

-- ---- the arbiter

pub arbiter_sync : IsSync Arbiter.the_row
arbiter_sync = declared_sync Arbiter.the_type (search (sendable, crosses, table.the_sync, record_send, heap.the_send, heap.the_sync) depth 30, (search sendable depth 20, tt))
