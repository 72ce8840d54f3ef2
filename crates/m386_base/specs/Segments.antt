-- The numbers of the segment registers.
use Rattle.std.specs.Prelude.{ℕ}

-- ES, CS, SS, DS, FS and GS.
-- Source: Intel 80386 PRM 2.3.2, 17.2.1
abbrev pub es : ℕ
es = 0

abbrev pub cs : ℕ
cs = 1

abbrev pub ss : ℕ
ss = 2

abbrev pub ds : ℕ
ds = 3

abbrev pub fs : ℕ
fs = 4

abbrev pub gs : ℕ
gs = 5
