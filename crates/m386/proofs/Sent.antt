-- A machine that counts may go to another thread.
use denote.Ref.{NamedLft}
use denote.Param.Send.{IsSend, sendable, view_send}
use denote.Param.SendFields.{declared_send}
use Rattle.std.proofs.Crossing.{crosses}
use Rattle.m386_base.proofs.ask.Cycle.TheSendSync.{the_send as cycle_send}
use Rattle.m386_memory.specs.contracts.history.Record as Record
use Rattle.m386_memory.specs.contracts.history.Record.TheInside as record_inside
use Rattle.m386_memory.proofs.store.Store.TheSendSync.{the_send as store_send}
use Rattle.m386_memory.proofs.ended.ProcEnd.TheSendSync as end
use Rattle.m386_image.proofs.image.Image.TheSendSync as image
use Rattle.m386_state.proofs.proc.Proc.TheSendSync as proc
use Rattle.m386_core.proofs.unfinished.Unfinished.TheSendSync as unfinished
use Rattle.m386_core.specs.contracts.machine.Machine as Machine
use Rattle.m386_core.specs.contracts.machine.Machine.TheInside as machine_inside
use Rattle.m386_core.specs.contracts.counted.Counted as Counted
use Rattle.m386_core.specs.contracts.counted.Counted.TheInside as counted_inside

-- ---- the record

record_fields_send : IsSend record_inside.the_row
record_fields_send = declared_send record_inside.the_type (store_send, (search (sendable, crosses, cycle_send) depth 20, (search (sendable, crosses) depth 20, tt)))

record_send : IsSend Record.the_row
record_send = view_send record_inside.the_row _ _ _ _ record_fields_send

-- ---- the machine

machine_fields_send : (κ : NamedLft) → IsSend (machine_inside.the_row κ)
machine_fields_send κ = declared_send (machine_inside.the_type κ) (
  search (sendable, crosses, image.the_sync) depth 30,
  (
    search sendable depth 20,
    (
      search sendable depth 20,
      (
        record_send,
        (
          search (sendable, crosses, end.the_send, proc.the_send) depth 30,
          (
            search (sendable, crosses, unfinished.the_send) depth 30,
            (search (sendable, crosses) depth 20, tt),
          ),
        ),
      ),
    ),
  ),
)

machine_send : (κ : NamedLft) → IsSend (Machine.the_row κ)
machine_send κ = view_send (machine_inside.the_row κ) _ _ _ _ (machine_fields_send κ)

-- ---- and with its numbers

counted_fields_send : (κ : NamedLft) → IsSend (counted_inside.the_row κ)
counted_fields_send κ = declared_send (counted_inside.the_type κ) (machine_send κ, (search (sendable, crosses) depth 20, tt))

pub counted_send : (κ : NamedLft) → IsSend (Counted.the_row κ)
counted_send κ = view_send (counted_inside.the_row κ) _ _ _ _ (counted_fields_send κ)
