use Rattle.m386_image.proofs.writing.text_of.Goals as goal

pub put_sections-requires : goal.put_sections-requires
put_sections-requires c = rw c.as_slice-2.ensures c.requires.sections
