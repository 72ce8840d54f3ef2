use Rattle.m386_lines.specs.Seen.{directive_seen}
use Rattle.m386_asm.proofs.Made.{direct_made}
use Rattle.m386_asm.proofs.bytes.put_line.Goals as goal

pub returns-in-Direct : goal.returns-in-Direct
returns-in-Direct c = rw c.in-Direct.is (direct_made c.args.names.now c.args.place c.args.out.now c.put_directive.new.out c.put_directive.result (directive_seen c.in-Direct.directive) c.put_directive.ensures)
