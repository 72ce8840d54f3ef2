use Rattle.std.proofs.Common.{◌≡◌, refl, sym, codes}
use Rattle.m386_edge.proofs.Edge.{grown-nil}
use Rattle.m386.specs.Status.{status_line, fault_line}
use Rattle.m386.proofs.tell.tell.Goals as goal

pub returns-in-Done-clause-ok : goal.returns-in-Done-clause-ok
unfolding status_line
returns-in-Done-clause-ok g c = rw (c.in-Done.is) (sym (grown-nil _))

pub returns-in-WriteFault-clause-ok : goal.returns-in-WriteFault-clause-ok
unfolding status_line
returns-in-WriteFault-clause-ok g c = rw c.in-WriteFault.is c.write_whole-in-WriteFault.ensures.ok

pub returns-in-WriteFault-clause-err : goal.returns-in-WriteFault-clause-err
unfolding status_line
returns-in-WriteFault-clause-err g c = rw c.in-WriteFault.is c.write_whole-in-WriteFault.ensures.err

pub returns-in-TooLong-clause-ok : goal.returns-in-TooLong-clause-ok
unfolding status_line
returns-in-TooLong-clause-ok g c = rw c.in-TooLong.is c.write_whole-in-TooLong.ensures.ok

pub returns-in-TooLong-clause-err : goal.returns-in-TooLong-clause-err
unfolding status_line
returns-in-TooLong-clause-err g c = rw c.in-TooLong.is c.write_whole-in-TooLong.ensures.err

pub returns-in-Usage-clause-ok : goal.returns-in-Usage-clause-ok
unfolding status_line
returns-in-Usage-clause-ok g c =
    let e : status_line c.args.status ≡ fault_line (codes "m386: usage fault ") c.number.result c.as_bytes-name.result.now = rw (c.in-Usage.is, c.number.ensures, c.as_bytes-name.ensures.value, c.name.ensures) refl in
    rw e c.write_fault.ensures.ok

pub returns-in-Usage-clause-err : goal.returns-in-Usage-clause-err
unfolding status_line
returns-in-Usage-clause-err g c =
    let e : status_line c.args.status ≡ fault_line (codes "m386: usage fault ") c.number.result c.as_bytes-name.result.now = rw (c.in-Usage.is, c.number.ensures, c.as_bytes-name.ensures.value, c.name.ensures) refl in
    rw e c.write_fault.ensures.err

pub returns-in-Image-clause-ok : goal.returns-in-Image-clause-ok
unfolding status_line
returns-in-Image-clause-ok g c =
    let e : status_line c.args.status ≡ fault_line (codes "m386: image fault ") c.number-in-Image.result c.as_bytes-name-in-Image.result.now = rw (c.in-Image.is, c.number-in-Image.ensures, c.as_bytes-name-in-Image.ensures.value, c.name-in-Image.ensures) refl in
    rw e c.write_fault-in-Image.ensures.ok

pub returns-in-Image-clause-err : goal.returns-in-Image-clause-err
unfolding status_line
returns-in-Image-clause-err g c =
    let e : status_line c.args.status ≡ fault_line (codes "m386: image fault ") c.number-in-Image.result c.as_bytes-name-in-Image.result.now = rw (c.in-Image.is, c.number-in-Image.ensures, c.as_bytes-name-in-Image.ensures.value, c.name-in-Image.ensures) refl in
    rw e c.write_fault-in-Image.ensures.err

pub returns-in-Asm-clause-ok : goal.returns-in-Asm-clause-ok
unfolding status_line
returns-in-Asm-clause-ok g c = rw c.in-Asm.is c.write_asm.ensures.ok

pub returns-in-Asm-clause-err : goal.returns-in-Asm-clause-err
unfolding status_line
returns-in-Asm-clause-err g c = rw c.in-Asm.is c.write_asm.ensures.err
