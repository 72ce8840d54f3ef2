-- The law of each kind of work.
use Rattle.std.proofs.Common.{◌≡◌, ℕ, ◌+◌, ◌-◌, ◌*◌, ◌/◌, ◌%◌, ◌^◌, ◌<◌, ◌==◌, ◌⊎◌, refl, ap, arith, nat_le, inl, inr, List, [], ◌∷◌, length, Bool, true, false, Option, Some, None}
use Rattle.m386_base.specs.declared.ask.Ask.{Ask}
use Rattle.m386_base.specs.declared.ask.Role.{Role}
use Rattle.m386_base.specs.declared.number.Width.{Width}
use Rattle.m386_base.specs.declared.split.Piece.{Piece}
use Rattle.m386_base.specs.Bus.{cycle_of}
use Rattle.m386_base.specs.Flags.{with_flag, put_bit, has_bit}
use Rattle.m386_base.specs.Phrase.{◌>>=◌, role_number}
use Rattle.m386_base.specs.Plain.{Plain}
use Rattle.m386_base.proofs.Plain.{plain_bind, plain_done, plain_faults, plain_if, plain_within}
use Rattle.m386_opmap.specs.declared.op.Addr.{Addr}
use Rattle.m386_opmap.specs.declared.op.Op.{Op}
use Rattle.m386_state.specs.declared.proc.Proc.{Proc}
use Rattle.m386_state.specs.declared.segment.Seg.{Seg}
use Rattle.m386_state.specs.declared.segment.TableReg.{TableReg}
use Rattle.m386_state.specs.Start.{seg_at, cpl_of}
use Rattle.m386_access.specs.Access.{memory_pieces, reads, read_phrase}
use Rattle.m386_access.specs.Address.{segment_number, offset_of, may_read, linear_of}
use Rattle.m386_access.specs.Operands.{operands_of}
use Rattle.m386_access.specs.Ordinary.{Ordinary, Reads, Keeps, PlainFrom, has_role, is_read_role}
use Rattle.m386_access.specs.declared.operands.Operands.{Operands}
use Rattle.m386_access.proofs.Phrases.{plain, Stays, few_pieces, some_pieces, read_then}
use Rattle.m386_segload.proofs.Loads.{local_table_then}
use Rattle.m386_system.specs.Claims.{loads_task, is_task_load}
use Rattle.m386_system.specs.Control.{load_control_phrase, load_status_phrase, load_status_operand_phrase, store_word_phrase, with_control}
use Rattle.m386_system.specs.Coprocessor.{wait_phrase, escape_phrase}
use Rattle.m386_system.specs.Exec.{privileged_phrase, at_level_0_phrase, unprivileged_phrase, work_phrase, exec_phrase}
use Rattle.m386_system.specs.Interrupts.{put_interrupts_phrase, interrupts_put}
use Rattle.m386_system.specs.Tables.{table_operand_phrase, load_table_phrase, load_phrase, store_table_phrase, store_phrase, local_operand_phrase, load_local_phrase, with_table, with_local_table, table_of, table_role_of}
use Rattle.m386_system.specs.Work.{work_of}
use Rattle.m386_system.specs.declared.work.Privileged.{Privileged}
use Rattle.m386_system.specs.declared.work.Privileged.TheVariants as privileged
use Rattle.m386_system.specs.declared.work.SystemWord.{SystemWord}
use Rattle.m386_system.specs.declared.work.Table.{Table}
use Rattle.m386_system.specs.declared.work.Table.TheVariants.{Global, Interrupts}
use Rattle.m386_system.specs.declared.work.Unprivileged.{Unprivileged}
use Rattle.m386_system.specs.declared.work.Unprivileged.TheVariants as unprivileged
use Rattle.m386_system.specs.declared.work.Work.{Work}
use Rattle.m386_system.specs.declared.work.Work.TheVariants as kinds

-- a cycle of the role is among those that were made
abbrev Made : {A : Type 0} → Role → List Ask → A → Type 0
Made role us a = has_role role us ≡ true

same_role : (role : Role) → (role_number role == role_number role) ≡ true
same_role role = go (role_number role)
  where
    go : (n : ℕ) → (n == n) ≡ true
    go n = grind (arith)

all_made : (gdt : TableReg) (role : Role) (ps : List Piece) (value : ℕ) (ts : List Ask) → is_read_role role ≡ true → (has_role role ts ≡ true) ⊎ (0 < length ps) → Plain (length ps) (Ordinary gdt) (Made role) ts (reads role value ps)
unfolding reads ◌>>=◌ Plain cycle_of
all_made gdt role [] value ts h (inl m) = m
all_made gdt role [] value ts h (inr l) = absurd (omega arith)
all_made gdt role (p ∷ ps) value ts h some = (Reads refl h refl, λ v. all_made gdt role ps _ _ h (inl (rw (same_role role) refl)))

two_made : (gdt : TableReg) (p : Proc) (role : Role) (seg offset len : ℕ) (ts : List Ask) → is_read_role role ≡ true → Plain 2 (Ordinary gdt) (Made role) ts (read_phrase p role seg offset len)
unfolding read_phrase
two_made gdt p role seg offset len ts h =
    let s = seg_at p seg in
    let groups = memory_pieces (linear_of s offset) len in
    plain_if 2 (Ordinary gdt) (Made role) ts (may_read s offset len) _ _
    (plain_within _ 2 (Ordinary gdt) (Made role) ts (reads role 0 groups) (few_pieces (linear_of s offset) len) (all_made gdt role groups 0 ts h (inr (some_pieces (linear_of s offset) len))))
    (plain_faults 2 (Ordinary gdt) (Made role) ts _)

-- the second read of the operand is of the role
four_made : (gdt : TableReg) (p : Proc) (role : Role) (width : Width) (a : Addr) (ts : List Ask) → is_read_role role ≡ true → Plain 4 (Ordinary gdt) (Made role) ts (table_operand_phrase p role width a)
unfolding table_operand_phrase
four_made gdt p role width a ts h =
    read_then gdt 4 (Made role) ts p role (segment_number a.seg a.base) (offset_of p a) 2 _ refl h (λ us limit.
    plain_bind 2 2 (Ordinary gdt) (Made role) (Made role) us _ _ (omega arith) (two_made gdt p role (segment_number a.seg a.base) ((offset_of p a + 2) % 2 ^ 32) 4 us h) (λ vs base m. plain_done 0 (Ordinary gdt) (Made role) vs (table_of width limit base) m))

keeps_table : (p : Proc) (table : Table) (us : List Ask) (r : TableReg) → has_role (table_role_of table) us ≡ true → Keeps p us (with_table p table r)
keeps_table p Global us r m = record { tr = refl; gdtr = inr m; nested = λ h. inl h }
keeps_table p Interrupts us r m = record { tr = refl; gdtr = inl refl; nested = λ h. inl h }

table_role_reads : (table : Table) → is_read_role (table_role_of table) ≡ true
table_role_reads Global = refl
table_role_reads Interrupts = refl

load_table_plain : (n : ℕ) (p : Proc) (table : Table) (width : Width) (a : Addr) (ts : List Ask) → nat_le 4 n ≡ true → Plain n (Ordinary p.gdtr) (Keeps p) ts (load_table_phrase p table width a)
unfolding load_table_phrase
load_table_plain n p table width a ts l =
    plain_bind 4 n (Ordinary p.gdtr) (Made (table_role_of table)) (Keeps p) ts (table_operand_phrase p (table_role_of table) width a) _ (grind (arith, l)) (four_made p.gdtr p (table_role_of table) width a ts (table_role_reads table)) (λ us r m. plain_done (n - 4) (Ordinary p.gdtr) (Keeps p) us _ (keeps_table p table us r m))

load_plain : (p : Proc) (table : Table) (width : Width) (operands : Operands) → PlainFrom 6 p (load_phrase p table width operands)
unfolding load_phrase
load_plain p table width operands = search (plain, load_table_plain)

store_plain : (p : Proc) (table : Table) (operands : Operands) → PlainFrom 6 p (store_phrase p table operands)
unfolding store_phrase store_table_phrase
store_plain p table operands = search plain depth 9

stays_local : (p : Proc) (s : Seg) → Stays p (with_local_table p s)
stays_local p s = record { tr = refl; gdtr = refl; nested = refl }

load_local_plain : (p : Proc) (operands : Operands) → PlainFrom 6 p (load_local_phrase p operands)
unfolding load_local_phrase local_operand_phrase
load_local_plain p operands = search (plain, local_table_then, stays_local)

stays_control : (p : Proc) (cr0 : ℕ) → Stays p (with_control p cr0)
stays_control p cr0 = record { tr = refl; gdtr = refl; nested = refl }

load_control_plain : (p : Proc) (register : ℕ) → PlainFrom 6 p (load_control_phrase p register)
unfolding load_control_phrase
load_control_plain p register = search (plain, stays_control)

load_status_plain : (p : Proc) (operands : Operands) → PlainFrom 6 p (load_status_phrase p operands)
unfolding load_status_phrase load_status_operand_phrase
load_status_plain p operands = search (plain, stays_control)

store_word_plain : (p : Proc) (word : SystemWord) (operands : Operands) → PlainFrom 6 p (store_word_phrase p word operands)
unfolding store_word_phrase
store_word_plain p word operands = search plain

-- IF is bit 9, and NT is bit 14
same_nested : (n : ℕ) (b : Bool) → has_bit (put_bit n 9 b) 14 ≡ has_bit n 14
unfolding put_bit
same_nested n true = let e : (n / 2 ^ 10 * 2 ^ 10 + 2 ^ 9 + n % 2 ^ 9) / 2 ^ 14 % 2 ≡ n / 2 ^ 14 % 2 = omega arith in ap (λ x. x == 1) e
same_nested n false = let e : (n / 2 ^ 10 * 2 ^ 10 + 0 + n % 2 ^ 9) / 2 ^ 14 % 2 ≡ n / 2 ^ 14 % 2 = omega arith in ap (λ x. x == 1) e

stays_interrupts : (p : Proc) (value : Bool) → Stays p (interrupts_put p value)
unfolding interrupts_put with_flag
stays_interrupts p value = record { tr = refl; gdtr = refl; nested = same_nested p.eflags.0 value }

put_interrupts_plain : (p : Proc) (value : Bool) → PlainFrom 6 p (put_interrupts_phrase p value)
unfolding put_interrupts_phrase
put_interrupts_plain p value = search (plain, stays_interrupts)

wait_plain : (p : Proc) → PlainFrom 6 p (wait_phrase p)
unfolding wait_phrase
wait_plain p = search plain

escape_plain : (p : Proc) → PlainFrom 6 p escape_phrase
unfolding escape_phrase
escape_plain p = search plain

-- each privileged operation but LTR, one line
privileged_plain : (what : Privileged) (op : Op) (p : Proc) → loads_task (Some (kinds.Privileged what)) ≡ false → PlainFrom 6 p (privileged_phrase what op p)
privileged_plain privileged.Halt op p e = search plain
privileged_plain (privileged.LoadTable table) op p e = load_plain p table op.width (operands_of op)
privileged_plain privileged.LoadLocalTable op p e = load_local_plain p (operands_of op)
privileged_plain privileged.LoadTask op p e = absurd cc
privileged_plain privileged.LoadStatus op p e = load_status_plain p (operands_of op)
privileged_plain (privileged.LoadControl register) op p e = load_control_plain p register
privileged_plain (privileged.StoreControl register) op p e = search plain
privileged_plain privileged.ClearTaskSwitched op p e = search (plain, stays_control)

at_level_0_plain : (what : Privileged) (op : Op) (p : Proc) → loads_task (Some (kinds.Privileged what)) ≡ false → PlainFrom 6 p (at_level_0_phrase what op p)
unfolding at_level_0_phrase
at_level_0_plain what op p e = plain_if 6 (Ordinary p.gdtr) (Keeps p) [] (cpl_of p == 0) _ _ (privileged_plain what op p e) (plain_faults 6 (Ordinary p.gdtr) (Keeps p) [] _)

-- each other operation, one line
unprivileged_plain : (what : Unprivileged) (op : Op) (p : Proc) → PlainFrom 6 p (unprivileged_phrase what op p)
unprivileged_plain (unprivileged.StoreTable table) op p = store_plain p table (operands_of op)
unprivileged_plain (unprivileged.StoreWord word) op p = store_word_plain p word (operands_of op)
unprivileged_plain (unprivileged.PutInterrupts value) op p = put_interrupts_plain p value
unprivileged_plain unprivileged.Wait op p = wait_plain p
unprivileged_plain unprivileged.Escape op p = escape_plain p

pub work_plain : (work : Option Work) (op : Op) (p : Proc) → loads_task work ≡ false → PlainFrom 6 p (work_phrase work op p)
work_plain (Some (kinds.Privileged what)) op p e = at_level_0_plain what op p e
work_plain (Some (kinds.Unprivileged what)) op p e = unprivileged_plain what op p
work_plain None op p e = search plain

pub exec_plain : (op : Op) (p : Proc) → is_task_load op ≡ false → PlainFrom 6 p (exec_phrase op p)
unfolding exec_phrase is_task_load
exec_plain op p e = work_plain (work_of op.name op.args.items) op p e
