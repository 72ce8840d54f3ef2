-- The law of IN and OUT: at most two cycles for the base of the map, one for each of two bytes of it, and two on the ports.
use Rattle.std.proofs.Common.{◌≡◌, ℕ, ◌+◌, ◌-◌, ◌%◌, ◌≤◌, List, [], ◌∷◌, length, refl, arith, Bool, true, false, nat_le, Option, Some, None}
use Rattle.m386_base.specs.declared.ask.Ask.{Ask}
use Rattle.m386_base.specs.declared.ask.Role.TheVariants as roles
use Rattle.m386_base.specs.declared.ask.Space.TheVariants.{Memory, Port}
use Rattle.m386_base.specs.declared.number.Width.{Width}
use Rattle.m386_base.specs.declared.split.Piece.{Piece}
use Rattle.m386_base.specs.Phrase.{Phrase, ◌>>=◌}
use Rattle.m386_base.specs.Plain.{Plain}
use Rattle.m386_base.specs.Split.{pieces, pieces_from, wrapped}
use Rattle.m386_base.proofs.Plain.{plain_bind, plain_done, plain_faults, plain_if, plain_within}
use Rattle.m386_desc.specs.Offsets.{limit_of}
use Rattle.m386_opmap.specs.declared.op.Op.{Op}
use Rattle.m386_state.specs.declared.proc.Proc.{Proc}
use Rattle.m386_state.specs.declared.segment.Seg.{Seg}
use Rattle.m386_state.specs.declared.segment.TableReg.{TableReg}
use Rattle.m386_access.specs.Access.{memory_pieces, reads}
use Rattle.m386_access.specs.After.{len_of, register_at, with_register_at}
use Rattle.m386_access.specs.Operands.{operands_of}
use Rattle.m386_access.specs.Ordinary.{Ordinary, Reads, Writes, Keeps, PlainFrom}
use Rattle.m386_access.proofs.Phrases.{Anything, keeps_stays, stays_same, stays_register}
use Rattle.m386_switch.proofs.Plain.{field_then}
use Rattle.m386_iomap.specs.Exec.{has_io_privilege, map_test_phrase, test_phrase, in_phrase, out_phrase, directed_phrase, transfer_phrase, named_phrase, exec_phrase}
use Rattle.m386_iomap.specs.Map.{map_bytes, has_map_base, map_byte_phrase, has_clear_bits_phrase, is_clear_phrase, are_clear_phrase, allows_phrase, map_phrase, may_use_phrase}
use Rattle.m386_iomap.specs.Ports.{port_reads, port_writes, ports_read_phrase, ports_write_phrase}
use Rattle.m386_iomap.specs.Transfer.{direction_of, transfer_of}
use Rattle.m386_iomap.specs.declared.map.MapByte.{MapByte}
use Rattle.m386_iomap.specs.declared.map.MapBytes.{MapBytes}
use Rattle.m386_iomap.specs.declared.map.MapBytes.TheVariants.{One, Two}
use Rattle.m386_iomap.specs.declared.transfer.Direction.{Direction}
use Rattle.m386_iomap.specs.declared.transfer.Direction.TheVariants.{In, Out}
use Rattle.m386_iomap.specs.declared.transfer.Transfer.{Transfer}

-- a byte has one group
one_piece : (at : ℕ) → length (memory_pieces at 1) ≤ 1
unfolding pieces
one_piece at = go (nat_le (wrapped Memory at % 4 + 1) 4) refl
  where
    go : (b : Bool) → nat_le (wrapped Memory at % 4 + 1) 4 ≡ b → length (pieces_from Memory (wrapped Memory at) 1) ≤ 1
    go true e = rw e (omega arith)
    go false e = absurd (grind (arith, e))

few_ports : (port len : ℕ) → length (pieces Port port len) ≤ 2
unfolding pieces
few_ports port len = go (nat_le (wrapped Port port % 4 + len) 4) refl
  where
    go : (b : Bool) → nat_le (wrapped Port port % 4 + len) 4 ≡ b → length (pieces_from Port (wrapped Port port) len) ≤ 2
    go true e = rw e (omega arith)
    go false e = rw e (omega arith)

all_reads : (gdt : TableReg) (ps : List Piece) (value : ℕ) (ts : List Ask) → Plain (length ps) (Ordinary gdt) Anything ts (reads roles.Map value ps)
unfolding reads ◌>>=◌ Plain
all_reads gdt [] value ts = tt
all_reads gdt (p ∷ ps) value ts = (Reads refl refl refl, λ v. all_reads gdt ps _ _)

all_ports_read : (gdt : TableReg) (ps : List Piece) (value : ℕ) (ts : List Ask) → Plain (length ps) (Ordinary gdt) Anything ts (port_reads value ps)
unfolding port_reads ◌>>=◌ Plain
all_ports_read gdt [] value ts = tt
all_ports_read gdt (p ∷ ps) value ts = (Reads refl refl refl, λ v. all_ports_read gdt ps _ _)

all_ports_written : (gdt : TableReg) (ps : List Piece) (value : ℕ) (ts : List Ask) → Plain (length ps) (Ordinary gdt) Anything ts (port_writes value ps)
unfolding port_writes ◌>>=◌ Plain
all_ports_written gdt [] value ts = tt
all_ports_written gdt (p ∷ ps) value ts = (Writes refl refl refl, λ v. all_ports_written gdt ps value _)

one_byte : (gdt : TableReg) (at : ℕ) (ts : List Ask) → Plain 1 (Ordinary gdt) Anything ts (map_byte_phrase at)
unfolding map_byte_phrase
one_byte gdt at ts = plain_within _ 1 (Ordinary gdt) Anything ts (reads roles.Map 0 (memory_pieces at 1)) (one_piece at) (all_reads gdt (memory_pieces at 1) 0 ts)

one_clear_bits : (gdt : TableReg) (tr : Seg) (offset bits : ℕ) (ts : List Ask) → Plain 1 (Ordinary gdt) Anything ts (has_clear_bits_phrase tr offset bits)
unfolding has_clear_bits_phrase
one_clear_bits gdt tr offset bits ts = plain_bind 1 1 (Ordinary gdt) Anything Anything ts _ _ (omega arith) (one_byte gdt _ ts) (λ us v o. plain_done 0 (Ordinary gdt) Anything us _ tt)

one_clear : (gdt : TableReg) (tr : Seg) (base : ℕ) (b : MapByte) (ts : List Ask) → Plain 1 (Ordinary gdt) Anything ts (is_clear_phrase tr base b)
unfolding is_clear_phrase
one_clear gdt tr base b ts = plain_if 1 (Ordinary gdt) Anything ts (nat_le (base + b.number) (limit_of tr.desc)) _ _ (one_clear_bits gdt tr (base + b.number) b.bits ts) (plain_done 1 (Ordinary gdt) Anything ts false tt)

two_clear : (gdt : TableReg) (tr : Seg) (base : ℕ) (first second : MapByte) (ts : List Ask) → Plain 2 (Ordinary gdt) Anything ts (are_clear_phrase tr base first second)
unfolding are_clear_phrase
two_clear gdt tr base first second ts =
    plain_bind 1 2 (Ordinary gdt) Anything Anything ts _ _ (omega arith) (one_clear gdt tr base first ts)
    (λ us clear o. plain_if 1 (Ordinary gdt) Anything us clear _ _ (one_clear gdt tr base second us) (plain_done 1 (Ordinary gdt) Anything us false tt))

two_allows : (gdt : TableReg) (tr : Seg) (base : ℕ) (bytes : MapBytes) (ts : List Ask) → Plain 2 (Ordinary gdt) Anything ts (allows_phrase tr base bytes)
two_allows gdt tr base (One b) ts = plain_within 1 2 (Ordinary gdt) Anything ts (is_clear_phrase tr base b) (omega arith) (one_clear gdt tr base b ts)
two_allows gdt tr base (Two first second) ts = two_clear gdt tr base first second ts

four_map : (gdt : TableReg) (tr : Seg) (bytes : MapBytes) (ts : List Ask) → Plain 4 (Ordinary gdt) Anything ts (map_phrase tr bytes)
unfolding map_phrase
four_map gdt tr bytes ts = field_then gdt 4 Anything ts roles.Map tr.desc.base 26 _ refl refl (λ us base. two_allows gdt tr _ bytes us)

four_may_use : (gdt : TableReg) (p : Proc) (port len : ℕ) (ts : List Ask) → Plain 4 (Ordinary gdt) Anything ts (may_use_phrase p port len)
unfolding may_use_phrase
four_may_use gdt p port len ts = plain_if 4 (Ordinary gdt) Anything ts (has_map_base p.tr) _ _ (four_map gdt p.tr (map_bytes port len) ts) (plain_done 4 (Ordinary gdt) Anything ts false tt)

four_map_test : (gdt : TableReg) (p : Proc) (port len : ℕ) (ts : List Ask) → Plain 4 (Ordinary gdt) Anything ts (map_test_phrase p port len)
unfolding map_test_phrase
four_map_test gdt p port len ts =
    plain_bind 4 4 (Ordinary gdt) Anything Anything ts _ _ (omega arith) (four_may_use gdt p port len ts)
    (λ us allowed o. plain_if 0 (Ordinary gdt) Anything us allowed _ _ (plain_done 0 (Ordinary gdt) Anything us tt tt) (plain_faults 0 (Ordinary gdt) Anything us _))

four_test : (gdt : TableReg) (p : Proc) (port len : ℕ) (ts : List Ask) → Plain 4 (Ordinary gdt) Anything ts (test_phrase p port len)
unfolding test_phrase
four_test gdt p port len ts = plain_if 4 (Ordinary gdt) Anything ts (has_io_privilege p) _ _ (plain_done 4 (Ordinary gdt) Anything ts tt tt) (four_map_test gdt p port len ts)

two_ports_read : (gdt : TableReg) (port len : ℕ) (ts : List Ask) → Plain 2 (Ordinary gdt) Anything ts (ports_read_phrase port len)
unfolding ports_read_phrase
two_ports_read gdt port len ts = plain_within _ 2 (Ordinary gdt) Anything ts (port_reads 0 (pieces Port port len)) (few_ports port len) (all_ports_read gdt (pieces Port port len) 0 ts)

two_ports_written : (gdt : TableReg) (port len value : ℕ) (ts : List Ask) → Plain 2 (Ordinary gdt) Anything ts (ports_write_phrase port len value)
unfolding ports_write_phrase
two_ports_written gdt port len value ts = plain_within _ 2 (Ordinary gdt) Anything ts (port_writes value (pieces Port port len)) (few_ports port len) (all_ports_written gdt (pieces Port port len) value ts)

two_in : (w : Width) (p : Proc) (register port : ℕ) (ts : List Ask) → Plain 2 (Ordinary p.gdtr) (Keeps p) ts (in_phrase w p register port)
unfolding in_phrase
two_in w p register port ts =
    plain_bind 2 2 (Ordinary p.gdtr) Anything (Keeps p) ts _ _ (omega arith) (two_ports_read p.gdtr port (len_of w) ts)
    (λ us v o. plain_done 0 (Ordinary p.gdtr) (Keeps p) us _ (keeps_stays p us (with_register_at w p register v) (stays_register w p p register v (stays_same p))))

two_out : (w : Width) (p : Proc) (register port : ℕ) (ts : List Ask) → Plain 2 (Ordinary p.gdtr) (Keeps p) ts (out_phrase w p register port)
unfolding out_phrase
two_out w p register port ts =
    plain_bind 2 2 (Ordinary p.gdtr) Anything (Keeps p) ts _ _ (omega arith) (two_ports_written p.gdtr port (len_of w) (register_at w p register) ts)
    (λ us v o. plain_done 0 (Ordinary p.gdtr) (Keeps p) us p (keeps_stays p us p (stays_same p)))

two_directed : (direction : Direction) (w : Width) (p : Proc) (register port : ℕ) (ts : List Ask) → Plain 2 (Ordinary p.gdtr) (Keeps p) ts (directed_phrase direction w p register port)
two_directed In w p register port ts = two_in w p register port ts
two_directed Out w p register port ts = two_out w p register port ts

transfer_plain : (w : Width) (p : Proc) (t : Transfer) → PlainFrom 6 p (transfer_phrase w p t)
unfolding transfer_phrase
transfer_plain w p t =
    plain_bind 4 6 (Ordinary p.gdtr) Anything (Keeps p) [] _ _ (omega arith) (four_test p.gdtr p t.port (len_of w) [])
    (λ us u o. two_directed t.direction w p t.register t.port us)

named_plain : (w : Width) (p : Proc) (t : Option Transfer) → PlainFrom 6 p (named_phrase w p t)
named_plain w p (Some t) = transfer_plain w p t
named_plain w p None = plain_faults 6 (Ordinary p.gdtr) (Keeps p) [] _

pub exec_plain : (op : Op) (p : Proc) → PlainFrom 6 p (exec_phrase op p)
unfolding exec_phrase
exec_plain op p = named_plain op.width p (transfer_of p (direction_of op.name) (operands_of op))
