-- The machine code of an image that is made from a number, each instruction by its bytes.
use Rattle.std.specs.Prelude.{ℕ, ◌+◌, ◌-◌, ◌*◌, ◌^◌, List, [], ◌∷◌, ◌++◌}
use Rattle.std.specs.List.{flat_map, range_with_len}
use Rattle.m386_image.specs.Format.{u16_bytes, u32_bytes}

-- LOCK INC of the doubleword at an address
-- Source: Intel 80386 PRM 17.2.2, INC and LOCK
abbrev pub locked_inc : ℕ → List ℕ
locked_inc addr = (0xf0 ∷ 0xff ∷ 0x05 ∷ []) ++ u32_bytes addr

-- CALL of a selector, with an offset of 0
-- Source: Intel 80386 PRM 17.2.2, CALL
abbrev pub far_call : ℕ → List ℕ
far_call selector = (0x9a ∷ []) ++ (u32_bytes 0 ++ u16_bytes selector)

-- JMP to the place that lies so many bytes before the end of the jump, with a distance of four bytes
-- Source: Intel 80386 PRM 17.2.2, JMP
abbrev pub jump_back : ℕ → List ℕ
jump_back distance = (0xe9 ∷ []) ++ u32_bytes (2 ^ 32 - distance)

-- IRET
-- Source: Intel 80386 PRM 17.2.2, IRET
abbrev pub iret : List ℕ
iret = 0xcf ∷ []

-- The code of a scheduler: it counts at an address, calls the tasks with these selectors, and begins again. Its first instruction has seven
-- bytes, and so has each call; the jump has five.
-- Own choice: docs/DECISIONS.md, "Images from a number"
abbrev pub scheduler_code : ℕ → (ℕ → ℕ) → ℕ → List ℕ
scheduler_code counter selector calls = locked_inc counter ++ (flat_map (λ i. far_call (selector i)) (range_with_len 0 calls) ++ jump_back (7 + 7 * calls + 5))

-- The code of a worker: it counts at an address, goes back to its caller, and when it is called again it begins again.
-- Own choice: docs/DECISIONS.md, "Images from a number"
abbrev pub worker_code : ℕ → List ℕ
worker_code counter = locked_inc counter ++ (iret ++ jump_back (7 + 1 + 5))

-- The code that takes a general protection fault of a CALL whose task is busy: it drops the error code, steps over the seven bytes of the CALL,
-- and goes back. ADD ESP, 4; ADD doubleword [ESP], 7; IRET.
-- Own choice: docs/DECISIONS.md, "Images from a number"
abbrev pub fault_code : List ℕ
fault_code = (0x83 ∷ 0xc4 ∷ 0x04 ∷ []) ++ ((0x83 ∷ 0x04 ∷ 0x24 ∷ 0x07 ∷ []) ++ iret)
