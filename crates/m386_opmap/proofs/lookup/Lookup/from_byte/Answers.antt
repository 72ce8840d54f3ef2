-- The count of the byte's opcode is that of the rows below it.
use Rattle.std.proofs.Common.{◌∙◌, arith}
use Rattle.m386_opmap.proofs.Below.{count_within, passed_over}
use Rattle.m386_opmap.proofs.lookup.Lookup.from_byte.Goals as goal

pub behind-requires : goal.behind-requires
behind-requires c =
    rw c.from.ensures (count_within 0 c.args.byte c.args.byte c.args.self.now.below.now c.args.self.now.rows.now
    c.ranges.byte.fits (omega arith) c.args.self.now.counted)

pub returns : goal.returns
returns c =
    c.behind.ensures ∙ rw c.from.ensures (passed_over 0 c.args.byte c.args.byte c.args.self.now.below.now c.args.self.now.rows.now
    c.ranges.byte.fits (omega arith) c.args.self.now.counted)
