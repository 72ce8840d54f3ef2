use Rattle.std.proofs.Common.{◌≡◌, ℕ, ◌+◌, ◌/◌, ◌%◌, sym, ◌∙◌, ap, arith}
use Rattle.m386_base.specs.Bytes.{bytes_of}
use Rattle.m386_base.specs.declared.ask.Space.TheVariants.{Memory}
use Rattle.m386_memory.specs.Contents.{Stand, byte_in}
use Rattle.m386_trace.proofs.task.byte.Goals as goal

pub returns : goal.returns
unfolding Stand bytes_of
returns c =
    let value : c.read.result ≡ c.read.result / 1 = omega arith in
    let place : c.args.addr + 0 ≡ c.args.addr = omega arith in
    ap (λ (n : ℕ). n % 256) value ∙ (sym c.read.ensures.bytes.0 ∙ ap (λ (a : ℕ). byte_in c.args.store.now Memory a) place)
