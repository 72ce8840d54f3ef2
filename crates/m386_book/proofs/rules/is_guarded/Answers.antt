use Rattle.std.proofs.Common.{◌≡◌, inl, inr}
use Rattle.std.proofs.lemmas.Bool.{iff_false}
use Rattle.m386_book.proofs.Guarded.{iff_then, of_some_tss, or_else}
use Rattle.m386_book.proofs.rules.is_guarded.Goals as goal

pub returns-else-is_of_table : goal.returns-else-is_of_table
returns-else-is_of_table c =
    or_else (iff_false c.is_of_table.ensures c.if-is_of_table.false)
    (iff_then (rw c.deref.ensures.value at c.meets.ensures) (of_some_tss c.args.image.now c.args.segments.now.bases.items c.args.segments.now.shared c.args.segments.now.busy c.requires c.args.place))
