use Rattle.std.proofs.Common.{arith}
use Rattle.m386_image.proofs.Judging.{has_sections, image_read}
use Rattle.m386_image.proofs.reading.image_in.Goals as goal

pub returns : goal.returns
returns c =
    let image = c.requires in
    let ss = c.in_ok-sections.sections in
    let r = c.in_ok-sections.ensures in
    let h = has_sections c.args.bytes.now c.plan_end_of-at.result c.read_u32.result ss r.0 c.plan_end_of-at.ensures c.read_u32.ensures (omega (arith, c.plan_end_of-at.ensures, image.1.sections.plan)) r.1 in
    rw (c.read_u32-2.ensures, c.read_u32-3.ensures, c.read_u16.ensures, c.read_u32-4.ensures, c.read_u16-2.ensures, c.read_starts.ensures, c.in_ok-plan.ensures) (image_read c.args.bytes.now image.0 ss r.0 image.1 h)
