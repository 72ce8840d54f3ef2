-- What the assembler answers.
use Rattle.std.specs.Prelude.{ℕ, ◌≡◌, List, Result, Ok, Err, Vec}
use Rattle.std.specs.declared.alloc.Global.{Global}
use Rattle.m386_lines.specs.declared.kind.AsmKind.{AsmKind}
use Rattle.m386_asm.specs.declared.stop.AsmStop.{AsmStop}
use Rattle.m386_asm.specs.declared.stop.AsmStop.TheVariants.{Memory, Bad}

-- The answer is this layout, or there was no memory for it.
abbrev pub IsAnswer : Result (Vec ℕ Global) AsmStop → Result (List ℕ) (ℕ × AsmKind) → Type 0
IsAnswer (Ok bytes) layout = layout ≡ Ok bytes.items
IsAnswer (Err Memory) layout = Unit {0}
IsAnswer (Err (Bad line kind)) layout = layout ≡ Err (line, kind)
