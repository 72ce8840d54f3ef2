-- The transfers of this crate by their names.
use Rattle.std.specs.Prelude.{Option, Some, None}
use Rattle.m386_base.specs.Phrase.{Phrase}
use Rattle.m386_opmap.specs.declared.name.Name.{Name}
use Rattle.m386_opmap.specs.declared.name.Name.TheVariants as names
use Rattle.m386_opmap.specs.declared.op.Op.{Op}
use Rattle.m386_state.specs.declared.proc.Proc.{Proc}
use Rattle.m386_transfer.specs.declared.executed.Executed.{Executed}
use Rattle.m386_transfer.specs.Executed.{simply}
use Rattle.m386_gates.specs.declared.far.Far.TheVariants as fars
use Rattle.m386_gates.specs.declared.near.Near.{Near}
use Rattle.m386_gates.specs.declared.transfer.Transfer.{Transfer}
use Rattle.m386_gates.specs.declared.transfer.Transfer.TheVariants as transfers
use Rattle.m386_gates.specs.Calls.{call_phrase, return_phrase}
use Rattle.m386_gates.specs.Far.{far_phrase}
use Rattle.m386_gates.specs.Near.{near_of, near_phrase}
use Rattle.m386_gates.specs.Returns.{far_return_phrase}

-- A transfer that is no near jump.
-- Source: Intel 80386 PRM 17.2.2.11, CALL, JMP, RET
abbrev pub transfer_named : Name → Option Transfer
transfer_named names.Call = Some transfers.Call
transfer_named names.Ret = Some transfers.Return
transfer_named names.Jmpf = Some (transfers.Far fars.Jump)
transfer_named names.Callf = Some (transfers.Far fars.Call)
transfer_named names.Retf = Some transfers.FarReturn
transfer_named _ = None

abbrev pub near_or_named : Option Near → Name → Option Transfer
near_or_named (Some near) name = Some (transfers.Near near)
near_or_named None name = transfer_named name

-- What the operation of a name does, where it is a transfer.
-- Source: Intel 80386 PRM 17.2.2.11
unfoldable pub transfer_of : Name → Option Transfer
transfer_of name = near_or_named (near_of name) name

-- a transfer
abbrev pub transfer_phrase : Transfer → Op → Proc → Phrase Executed
transfer_phrase (transfers.Near near) op p = simply (near_phrase near op p)
transfer_phrase transfers.Call op p = simply (call_phrase p op)
transfer_phrase transfers.Return op p = simply (return_phrase p op)
transfer_phrase (transfers.Far far) op p = far_phrase p far op
transfer_phrase transfers.FarReturn op p = simply (far_return_phrase p op)
