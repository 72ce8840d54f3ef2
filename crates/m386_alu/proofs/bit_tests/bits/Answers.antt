use Rattle.m386_base.specs.declared.flags.Flag.TheVariants.{Carry}
use Rattle.m386_alu.proofs.Keeping.{keeps_flag}
use Rattle.m386_alu.proofs.bit_tests.bits.Goals as goal

pub returns-clause-others : goal.returns-clause-others
returns-clause-others c = rw c.put_flag.ensures (keeps_flag Carry _ c.args.flags tt)
