use Rattle.std.proofs.Common.{◌∷◌, ap, sym, ◌∙◌, subst}
use Rattle.atomic_table.specs.Table.{rest}
use Rattle.m386_arbiter.specs.Seats.{EndsIn}
use Rattle.m386_arbiter.proofs.Turns.{put_of, put_busy, put_own, put_ends}
use Rattle.m386_arbiter.proofs.arbiter.write.Goals as goal

pub slot_mut-record-requires : goal.slot_mut-record-requires
slot_mut-record-requires c = let b = c.requires.busy in (c.requires.board, (b.held, b.slot ∙ ap (λ l. (0, b.held) ∷ rest l) (sym b.slot)))

pub put-requires-clause-joined : goal.put-requires-clause-joined
put-requires-clause-joined c = λ e. subst (EndsIn c.args.number) c.slot_mut-record.ensures.value (c.requires.joined e)

pub returns-clause-busy : goal.returns-clause-busy
returns-clause-busy c =
    put_busy c.args.number c.args.ask c.put.result c.args.seat.now.me c.slot_mut-record.result.now c.put.new.self c.requires.busy c.slot_mut-record.ensures.value
    (put_of c.args.number c.args.ask c.put.result c.slot_mut-record.result.now c.put.new.self c.put.ensures.made c.put.ensures.err)

pub returns-clause-own : goal.returns-clause-own
returns-clause-own c =
    put_own c.args.number c.args.ask c.put.result c.args.seat.now.me c.slot_mut-record.result.now c.put.new.self c.requires.busy c.slot_mut-record.ensures.value
    (put_of c.args.number c.args.ask c.put.result c.slot_mut-record.result.now c.put.new.self c.put.ensures.made c.put.ensures.err)

pub returns-clause-ends : goal.returns-clause-ends
returns-clause-ends c =
    put_ends c.args.number c.args.ask c.put.result c.slot_mut-record.result.now c.put.new.self
    (put_of c.args.number c.args.ask c.put.result c.slot_mut-record.result.now c.put.new.self c.put.ensures.made c.put.ensures.err)
