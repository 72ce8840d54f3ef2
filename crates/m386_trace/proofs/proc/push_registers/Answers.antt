use Rattle.m386_trace.proofs.Lines.{unchanged, pushed}
use Rattle.m386_trace.proofs.proc.push_registers.Goals as goal

pub returns-clause-bytes : goal.returns-clause-bytes
returns-clause-bytes c =
    let line = unchanged c.args.line.now.bytes in
    let eip = pushed _ _ line c.push_register.ensures.bytes in
    let efl = pushed _ _ eip c.push_register-2.ensures.bytes in
    let eax = pushed _ _ efl c.push_register-3.ensures.bytes in
    let ecx = pushed _ _ eax c.push_register-4.ensures.bytes in
    let edx = pushed _ _ ecx c.push_register-5.ensures.bytes in
    let ebx = pushed _ _ edx c.push_register-6.ensures.bytes in
    let esp = pushed _ _ ebx c.push_register-7.ensures.bytes in
    let ebp = pushed _ _ esp c.push_register-8.ensures.bytes in
    let esi = pushed _ _ ebp c.push_register-9.ensures.bytes in
    let edi = pushed _ _ esi c.push_register-10.ensures.bytes in
    edi.text
