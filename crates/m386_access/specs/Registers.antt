-- The numbers of the general registers that operations name by themselves.
use Rattle.std.specs.Prelude.{ℕ}

-- EAX, and its low parts AX and AL.
-- Source: Intel 80386 PRM 2.3.1, 17.2.1
abbrev pub eax : ℕ
eax = 0

-- ECX.
-- Source: Intel 80386 PRM 2.3.1, 17.2.1
abbrev pub ecx : ℕ
ecx = 1

-- EDX, and its low parts DX and DL.
-- Source: Intel 80386 PRM 2.3.1, 17.2.1
abbrev pub edx : ℕ
edx = 2

-- ESP, and AH among the registers of 8 bits.
-- Source: Intel 80386 PRM 2.3.1, 17.2.1
abbrev pub esp : ℕ
esp = 4

abbrev pub ah : ℕ
ah = 4

-- EBP.
-- Source: Intel 80386 PRM 2.3.1, 17.2.1
abbrev pub ebp : ℕ
ebp = 5

-- ESI and EDI.
-- Source: Intel 80386 PRM 2.3.1, 17.2.1
abbrev pub esi : ℕ
esi = 6

abbrev pub edi : ℕ
edi = 7
