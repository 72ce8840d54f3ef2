use Rattle.m386_trace.proofs.Lines.{unchanged, pushed}
use Rattle.m386_trace.proofs.proc.push_selectors.Goals as goal

pub returns-clause-bytes : goal.returns-clause-bytes
returns-clause-bytes c =
    let line = unchanged c.args.line.now.bytes in
    let es = pushed _ _ line (rw c.selector.ensures at c.push_selector.ensures.bytes) in
    let cs = pushed _ _ es (rw c.selector-2.ensures at c.push_selector-2.ensures.bytes) in
    let ss = pushed _ _ cs (rw c.selector-3.ensures at c.push_selector-3.ensures.bytes) in
    let ds = pushed _ _ ss (rw c.selector-4.ensures at c.push_selector-4.ensures.bytes) in
    let fs = pushed _ _ ds (rw c.selector-5.ensures at c.push_selector-5.ensures.bytes) in
    let gs = pushed _ _ fs (rw c.selector-6.ensures at c.push_selector-6.ensures.bytes) in
    let ldt = pushed _ _ gs c.push_selector-7.ensures.bytes in
    let tr = pushed _ _ ldt c.push_selector-8.ensures.bytes in
    tr.text
