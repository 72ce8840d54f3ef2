-- So many bytes that are 0 stand behind those before.
use Rattle.std.proofs.Common.{◌≡◌, ◌++◌, replicate}
use Rattle.m386_asm.proofs.bytes.put_zeros.Given as goal

abbrev pub invariant-loop-done : goal.invariant-loop-done
invariant-loop-done l = l.out ≡ l.initial.out ++ replicate l._done 0
