-- A number is written byte by byte.
use Rattle.m386_encode.proofs.parts.+write_number.Given as goal

abbrev pub decreases-write_number : goal.decreases-write_number
decreases-write_number l = l.count
