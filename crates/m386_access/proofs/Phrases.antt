-- The law of the phrases from which operations are made.
use Rattle.std.proofs.Common.{◌≡◌, ℕ, ◌+◌, ◌-◌, ◌%◌, ◌≤◌, ◌<◌, List, [], ◌∷◌, length, refl, sym, ◌∙◌, arith, Bool, true, false, nat_le, inl, inr, cond, ◌⊎◌, ◌/◌, ◌==◌}
use Rattle.m386_base.specs.declared.ask.Ask.{Ask}
use Rattle.m386_base.specs.declared.ask.Role.{Role}
use Rattle.m386_base.specs.declared.ask.Role.TheVariants as roles
use Rattle.m386_base.specs.declared.ask.Space.TheVariants.{Memory}
use Rattle.m386_base.specs.declared.split.Piece.{Piece}
use Rattle.m386_base.specs.Phrase.{Phrase, ◌>>=◌}
use Rattle.m386_base.specs.Bus.{cycle_of}
use Rattle.m386_base.specs.Split.{pieces, pieces_from, wrapped}
use Rattle.m386_state.specs.declared.proc.Proc.{Proc}
use Rattle.m386_state.specs.declared.segment.TableReg.{TableReg}
use Rattle.m386_state.specs.Start.{seg_at}
use Rattle.m386_base.specs.declared.number.Width.{Width}
use Rattle.m386_base.specs.declared.number.Width.TheVariants.{W8, W16, W32}
use Rattle.m386_access.specs.Access.{memory_pieces, read_ask, reads, writes, read_phrase, write_phrase}
use Rattle.m386_access.specs.Address.{segment_number, offset_of, may_read, may_write, linear_of}
use Rattle.m386_access.specs.After.{len_of, with_register, with_register_at}
use Rattle.m386_access.specs.Modify.{linked_reads, linked_writes, modify_groups_phrase, modify_phrase, inspect_phrase}
use Rattle.m386_access.specs.Operands.{value_phrase, store_phrase, put_phrase, on_register, on_memory, on_one, on_two, on_three}
use Rattle.m386_access.specs.declared.operands.Operands.{Operands}
use Rattle.m386_access.specs.declared.operands.Operands.TheVariants.{Absent, One, Two, Three, Others}
use Rattle.m386_opmap.specs.declared.op.Addr.{Addr}
use Rattle.m386_access.specs.Ordinary.{Ordinary, Reads, Writes, is_read_role, is_write_role, is_behind, is_nested, Keeps}
use Rattle.m386_access.specs.declared.operands.Place.{Place}
use Rattle.m386_access.specs.declared.operands.Place.TheVariants.{Register, Number, Other}
use Rattle.m386_access.specs.declared.operands.Place.TheVariants as operands
use Rattle.m386_base.specs.Plain.{Plain}
use Rattle.m386_base.proofs.Plain.{plain_done, plain_faults, plain_if, plain_bind, plain_within, plain_ends}

-- whatever it ends in
abbrev pub Anything : {A : Type 0} → List Ask → A → Type 0
Anything us a = Unit {0}

pub few_pieces : (offset len : ℕ) → length (memory_pieces offset len) ≤ 2
unfolding pieces
few_pieces offset len = go (nat_le (wrapped Memory offset % 4 + len) 4) refl
  where
    go : (b : Bool) → nat_le (wrapped Memory offset % 4 + len) 4 ≡ b → length (pieces_from Memory (wrapped Memory offset) len) ≤ 2
    go true e = rw e (omega arith)
    go false e = rw e (omega arith)

-- an access has a group
pub some_pieces : (addr len : ℕ) → 0 < length (memory_pieces addr len)
unfolding pieces
some_pieces addr len = go (nat_le (wrapped Memory addr % 4 + len) 4) refl
  where
    go : (b : Bool) → nat_le (wrapped Memory addr % 4 + len) 4 ≡ b → 0 < length (pieces_from Memory (wrapped Memory addr) len)
    go true e = rw e (omega arith)
    go false e = rw e (omega arith)

all_reads : (gdt : TableReg) (role : Role) (ps : List Piece) (value : ℕ) (ts : List Ask) → is_read_role role ≡ true → Plain (length ps) (Ordinary gdt) Anything ts (reads role value ps)
unfolding reads ◌>>=◌ Plain
all_reads gdt role [] value ts h = tt
all_reads gdt role (p ∷ ps) value ts h = (Reads refl h refl, λ v. all_reads gdt role ps _ _ h)

all_writes : (gdt : TableReg) (role : Role) (ps : List Piece) (value : ℕ) (ts : List Ask) → is_write_role role ≡ true → Plain (length ps) (Ordinary gdt) Anything ts (writes role value ps)
unfolding writes ◌>>=◌ Plain
all_writes gdt role [] value ts h = tt
all_writes gdt role (p ∷ ps) value ts h = (Writes refl h refl, λ v. all_writes gdt role ps value _ h)

pub two_reads : (gdt : TableReg) (role : Role) (at len value : ℕ) (ts : List Ask) → is_read_role role ≡ true → Plain 2 (Ordinary gdt) Anything ts (reads role value (memory_pieces at len))
two_reads gdt role at len value ts h = plain_within _ 2 (Ordinary gdt) Anything ts (reads role value (memory_pieces at len)) (few_pieces at len) (all_reads gdt role (memory_pieces at len) value ts h)

pub two_writes : (gdt : TableReg) (role : Role) (at len value : ℕ) (ts : List Ask) → is_write_role role ≡ true → Plain 2 (Ordinary gdt) Anything ts (writes role value (memory_pieces at len))
two_writes gdt role at len value ts h = plain_within _ 2 (Ordinary gdt) Anything ts (writes role value (memory_pieces at len)) (few_pieces at len) (all_writes gdt role (memory_pieces at len) value ts h)

-- An operand's groups read, and what follows.
pub reads_then : (gdt : TableReg) → {B : Type 0} (n : ℕ) (ends : List Ask → B → Type 0) (ts : List Ask) (role : Role) (at len value : ℕ) (f : ℕ → Phrase B) → nat_le 2 n ≡ true → is_read_role role ≡ true → ((us : List Ask) (v : ℕ) → Plain (n - 2) (Ordinary gdt) ends us (f v)) → Plain n (Ordinary gdt) ends ts (reads role value (memory_pieces at len) >>= f)
reads_then gdt n ends ts role at len value f l h k = plain_bind 2 n (Ordinary gdt) Anything ends ts _ f (grind (arith, l)) (two_reads gdt role at len value ts h) (λ us v o. k us v)

-- An operand's groups written, and what follows.
pub writes_then : (gdt : TableReg) → {B : Type 0} (n : ℕ) (ends : List Ask → B → Type 0) (ts : List Ask) (role : Role) (at len value : ℕ) (f : Unit {0} → Phrase B) → nat_le 2 n ≡ true → is_write_role role ≡ true → ((us : List Ask) (u : Unit {0}) → Plain (n - 2) (Ordinary gdt) ends us (f u)) → Plain n (Ordinary gdt) ends ts (writes role value (memory_pieces at len) >>= f)
writes_then gdt n ends ts role at len value f l h k = plain_bind 2 n (Ordinary gdt) Anything ends ts _ f (grind (arith, l)) (two_writes gdt role at len value ts h) (λ us u o. k us u)

two_read : (gdt : TableReg) (p : Proc) (role : Role) (seg offset len : ℕ) (ts : List Ask) → is_read_role role ≡ true → Plain 2 (Ordinary gdt) Anything ts (read_phrase p role seg offset len)
unfolding read_phrase
two_read gdt p role seg offset len ts h =
    let s = seg_at p seg in
    plain_if 2 (Ordinary gdt) Anything ts (may_read s offset len) _ _ (two_reads gdt role (linear_of s offset) len 0 ts h) (plain_faults 2 (Ordinary gdt) Anything ts _)

-- Bytes read through a segment register, and what follows.
pub read_then : (gdt : TableReg) → {B : Type 0} (n : ℕ) (ends : List Ask → B → Type 0) (ts : List Ask) (p : Proc) (role : Role) (seg offset len : ℕ) (f : ℕ → Phrase B) → nat_le 2 n ≡ true → is_read_role role ≡ true → ((us : List Ask) (v : ℕ) → Plain (n - 2) (Ordinary gdt) ends us (f v)) → Plain n (Ordinary gdt) ends ts (read_phrase p role seg offset len >>= f)
read_then gdt n ends ts p role seg offset len f l h k = plain_bind 2 n (Ordinary gdt) Anything ends ts _ f (grind (arith, l)) (two_read gdt p role seg offset len ts h) (λ us v o. k us v)

two_write : (gdt : TableReg) (p : Proc) (role : Role) (seg offset len value : ℕ) (ts : List Ask) → is_write_role role ≡ true → Plain 2 (Ordinary gdt) Anything ts (write_phrase p role seg offset len value)
unfolding write_phrase
two_write gdt p role seg offset len value ts h =
    let s = seg_at p seg in
    plain_if 2 (Ordinary gdt) Anything ts (may_write s offset len) _ _ (two_writes gdt role (linear_of s offset) len value ts h) (plain_faults 2 (Ordinary gdt) Anything ts _)

-- Bytes written through a segment register, and what follows.
pub write_then : (gdt : TableReg) → {B : Type 0} (n : ℕ) (ends : List Ask → B → Type 0) (ts : List Ask) (p : Proc) (role : Role) (seg offset len value : ℕ) (f : Unit {0} → Phrase B) → nat_le 2 n ≡ true → is_write_role role ≡ true → ((us : List Ask) (u : Unit {0}) → Plain (n - 2) (Ordinary gdt) ends us (f u)) → Plain n (Ordinary gdt) ends ts (write_phrase p role seg offset len value >>= f)
write_then gdt n ends ts p role seg offset len value f l h k = plain_bind 2 n (Ordinary gdt) Anything ends ts _ f (grind (arith, l)) (two_write gdt p role seg offset len value ts h) (λ us u o. k us u)

-- Each cycle behind the first of a locked group is joined to one before it.
Behind : {A : Type 0} → List Ask → A → Type 0
Behind us a = is_behind us ≡ true

joined_behind : (lock : Bool) (us : List Ask) → is_behind us ≡ true → cond lock (is_behind us) true ≡ true
joined_behind true us h = h
joined_behind false us h = refl

all_linked_reads : (gdt : TableReg) (ps : List Piece) (lock joined : Bool) (value : ℕ) (ts : List Ask) → (cond joined (is_behind ts) true ≡ true) → (is_behind ts ≡ true) ⊎ (0 < length ps) → Plain (length ps) (Ordinary gdt) Behind ts (linked_reads lock joined value ps)
unfolding linked_reads ◌>>=◌ Plain Behind
all_linked_reads gdt [] lock joined value ts h (inl b) = b
all_linked_reads gdt [] lock joined value ts h (inr l) = absurd (omega arith)
all_linked_reads gdt (p ∷ ps) lock joined value ts h some = (Reads refl refl h, λ v. all_linked_reads gdt ps lock lock _ _ (joined_behind lock (cycle_of (read_ask roles.Operand joined p) v ∷ ts) refl) (inl refl))

all_linked_writes : (gdt : TableReg) (ps : List Piece) (lock : Bool) (value : ℕ) (ts : List Ask) → is_behind ts ≡ true → Plain (length ps) (Ordinary gdt) Anything ts (linked_writes lock value ps)
unfolding linked_writes ◌>>=◌ Plain
all_linked_writes gdt [] lock value ts h = tt
all_linked_writes gdt (p ∷ ps) lock value ts h = (Writes refl refl (joined_behind lock ts h), λ v. all_linked_writes gdt ps lock value _ refl)

two_linked_reads : (gdt : TableReg) (lock : Bool) (at len : ℕ) (ts : List Ask) → Plain 2 (Ordinary gdt) Behind ts (linked_reads lock false 0 (memory_pieces at len))
two_linked_reads gdt lock at len ts = plain_within _ 2 (Ordinary gdt) Behind ts (linked_reads lock false 0 (memory_pieces at len)) (few_pieces at len) (all_linked_reads gdt (memory_pieces at len) lock false 0 ts refl (inr (some_pieces at len)))

four_modify_groups : (gdt : TableReg) (lock : Bool) (change : ℕ → ℕ) (at len : ℕ) (ts : List Ask) → Plain 4 (Ordinary gdt) Anything ts (modify_groups_phrase lock change (memory_pieces at len))
unfolding modify_groups_phrase Behind
four_modify_groups gdt lock change at len ts =
    let groups = memory_pieces at len in
    plain_bind 2 4 (Ordinary gdt) Behind Anything ts _ _ (omega arith) (two_linked_reads gdt lock at len ts)
    (λ us old b. plain_bind 2 2 (Ordinary gdt) Anything Anything us _ _ (omega arith) (plain_within _ 2 (Ordinary gdt) Anything us (linked_writes lock (change old) groups) (few_pieces at len) (all_linked_writes gdt groups lock (change old) us b)) (λ vs u o. plain_done 0 (Ordinary gdt) Anything vs old tt))

four_modify : (gdt : TableReg) (p : Proc) (seg offset len : ℕ) (lock : Bool) (change : ℕ → ℕ) (ts : List Ask) → Plain 4 (Ordinary gdt) Anything ts (modify_phrase p seg offset len lock change)
unfolding modify_phrase
four_modify gdt p seg offset len lock change ts =
    let s = seg_at p seg in
    plain_if 4 (Ordinary gdt) Anything ts (may_write s offset len) _ _ (four_modify_groups gdt lock change (linear_of s offset) len ts) (plain_faults 4 (Ordinary gdt) Anything ts _)

-- Bytes changed through a segment register, and what follows.
pub modify_then : (gdt : TableReg) → {B : Type 0} (n : ℕ) (ends : List Ask → B → Type 0) (ts : List Ask) (p : Proc) (seg offset len : ℕ) (lock : Bool) (change : ℕ → ℕ) (f : ℕ → Phrase B) → nat_le 4 n ≡ true → ((us : List Ask) (v : ℕ) → Plain (n - 4) (Ordinary gdt) ends us (f v)) → Plain n (Ordinary gdt) ends ts (modify_phrase p seg offset len lock change >>= f)
modify_then gdt n ends ts p seg offset len lock change f l k = plain_bind 4 n (Ordinary gdt) Anything ends ts _ f (grind (arith, l)) (four_modify gdt p seg offset len lock change ts) (λ us v o. k us v)

two_inspect : (gdt : TableReg) (p : Proc) (seg offset len : ℕ) (lock : Bool) (ts : List Ask) → Plain 2 (Ordinary gdt) Anything ts (inspect_phrase p seg offset len lock)
unfolding inspect_phrase Behind
two_inspect gdt p seg offset len lock ts =
    let s = seg_at p seg in
    plain_if 2 (Ordinary gdt) Anything ts (may_read s offset len) _ _
    (plain_ends 2 (Ordinary gdt) Behind Anything ts _ (λ us v b. tt) (two_linked_reads gdt lock (linear_of s offset) len ts))
    (plain_faults 2 (Ordinary gdt) Anything ts _)

-- Bytes read through a segment register, in a locked group if need be, and what follows.
pub inspect_then : (gdt : TableReg) → {B : Type 0} (n : ℕ) (ends : List Ask → B → Type 0) (ts : List Ask) (p : Proc) (seg offset len : ℕ) (lock : Bool) (f : ℕ → Phrase B) → nat_le 2 n ≡ true → ((us : List Ask) (v : ℕ) → Plain (n - 2) (Ordinary gdt) ends us (f v)) → Plain n (Ordinary gdt) ends ts (inspect_phrase p seg offset len lock >>= f)
inspect_then gdt n ends ts p seg offset len lock f l k = plain_bind 2 n (Ordinary gdt) Anything ends ts _ f (grind (arith, l)) (two_inspect gdt p seg offset len lock ts) (λ us v o. k us v)

two_value : (gdt : TableReg) (w : Width) (p : Proc) (operand : Place) (ts : List Ask) → Plain 2 (Ordinary gdt) Anything ts (value_phrase w p operand)
unfolding value_phrase
two_value gdt w p (Register register) ts = plain_done 2 (Ordinary gdt) Anything ts _ tt
two_value gdt w p (Number number) ts = plain_done 2 (Ordinary gdt) Anything ts _ tt
two_value gdt w p (operands.Memory a) ts = two_read gdt p roles.Operand (segment_number a.seg a.base) (offset_of p a) (len_of w) ts refl
two_value gdt w p Other ts = plain_faults 2 (Ordinary gdt) Anything ts _

pub on_register_plain : {B : Type 0} (gdt : TableReg) (n : ℕ) (ends : List Ask → B → Type 0) (ts : List Ask) (operand : Place) (f : ℕ → Phrase B) → ((register : ℕ) → Plain n (Ordinary gdt) ends ts (f register)) → Plain n (Ordinary gdt) ends ts (on_register operand f)
on_register_plain gdt n ends ts (Register register) f k = k register
on_register_plain gdt n ends ts (Number number) f k = plain_faults n (Ordinary gdt) ends ts _
on_register_plain gdt n ends ts (operands.Memory a) f k = plain_faults n (Ordinary gdt) ends ts _
on_register_plain gdt n ends ts Other f k = plain_faults n (Ordinary gdt) ends ts _

pub on_memory_plain : {B : Type 0} (gdt : TableReg) (n : ℕ) (ends : List Ask → B → Type 0) (ts : List Ask) (operand : Place) (f : Addr → Phrase B) → ((a : Addr) → Plain n (Ordinary gdt) ends ts (f a)) → Plain n (Ordinary gdt) ends ts (on_memory operand f)
on_memory_plain gdt n ends ts (Register register) f k = plain_faults n (Ordinary gdt) ends ts _
on_memory_plain gdt n ends ts (Number number) f k = plain_faults n (Ordinary gdt) ends ts _
on_memory_plain gdt n ends ts (operands.Memory a) f k = k a
on_memory_plain gdt n ends ts Other f k = plain_faults n (Ordinary gdt) ends ts _

pub on_one_plain : {B : Type 0} (gdt : TableReg) (n : ℕ) (ends : List Ask → B → Type 0) (ts : List Ask) (os : Operands) (f : Place → Phrase B) → ((a : Place) → Plain n (Ordinary gdt) ends ts (f a)) → Plain n (Ordinary gdt) ends ts (on_one os f)
on_one_plain gdt n ends ts Absent f k = plain_faults n (Ordinary gdt) ends ts _
on_one_plain gdt n ends ts (One a) f k = k a
on_one_plain gdt n ends ts (Two a b) f k = plain_faults n (Ordinary gdt) ends ts _
on_one_plain gdt n ends ts (Three a b c) f k = plain_faults n (Ordinary gdt) ends ts _
on_one_plain gdt n ends ts Others f k = plain_faults n (Ordinary gdt) ends ts _

pub on_two_plain : {B : Type 0} (gdt : TableReg) (n : ℕ) (ends : List Ask → B → Type 0) (ts : List Ask) (os : Operands) (f : Place → Place → Phrase B) → ((a b : Place) → Plain n (Ordinary gdt) ends ts (f a b)) → Plain n (Ordinary gdt) ends ts (on_two os f)
on_two_plain gdt n ends ts Absent f k = plain_faults n (Ordinary gdt) ends ts _
on_two_plain gdt n ends ts (One a) f k = plain_faults n (Ordinary gdt) ends ts _
on_two_plain gdt n ends ts (Two a b) f k = k a b
on_two_plain gdt n ends ts (Three a b c) f k = plain_faults n (Ordinary gdt) ends ts _
on_two_plain gdt n ends ts Others f k = plain_faults n (Ordinary gdt) ends ts _

pub on_three_plain : {B : Type 0} (gdt : TableReg) (n : ℕ) (ends : List Ask → B → Type 0) (ts : List Ask) (os : Operands) (f : Place → Place → Place → Phrase B) → ((a b c : Place) → Plain n (Ordinary gdt) ends ts (f a b c)) → Plain n (Ordinary gdt) ends ts (on_three os f)
on_three_plain gdt n ends ts Absent f k = plain_faults n (Ordinary gdt) ends ts _
on_three_plain gdt n ends ts (One a) f k = plain_faults n (Ordinary gdt) ends ts _
on_three_plain gdt n ends ts (Two a b) f k = plain_faults n (Ordinary gdt) ends ts _
on_three_plain gdt n ends ts (Three a b c) f k = k a b c
on_three_plain gdt n ends ts Others f k = plain_faults n (Ordinary gdt) ends ts _

-- An operand's value, and what follows.
pub value_then : (gdt : TableReg) → {B : Type 0} (n : ℕ) (ends : List Ask → B → Type 0) (ts : List Ask) (w : Width) (p : Proc) (operand : Place) (f : ℕ → Phrase B) → nat_le 2 n ≡ true → ((us : List Ask) (v : ℕ) → Plain (n - 2) (Ordinary gdt) ends us (f v)) → Plain n (Ordinary gdt) ends ts (value_phrase w p operand >>= f)
value_then gdt n ends ts w p operand f l k = plain_bind 2 n (Ordinary gdt) Anything ends ts _ f (grind (arith, l)) (two_value gdt w p operand ts) (λ us v o. k us v)

-- A state with NT as it was, and TR and the GDT register, is kept.
pub keeps_rest : (p : Proc) (ts : List Ask) (after : Proc) → after.tr ≡ p.tr → after.gdtr ≡ p.gdtr → is_nested after ≡ is_nested p → Keeps p ts after
keeps_rest p ts after t g n = record { tr = t; gdtr = inl g; nested = λ h. inl (sym n ∙ h) }

-- The same of what an operation leaves: TR, the GDT register and NT as they were.
pub record Stays (p after : Proc) : Type 0 where
  pub tr : after.tr ≡ p.tr
  pub gdtr : after.gdtr ≡ p.gdtr
  pub nested : is_nested after ≡ is_nested p

pub keeps_stays : (p : Proc) (ts : List Ask) (after : Proc) → Stays p after → Keeps p ts after
keeps_stays p ts after s = keeps_rest p ts after s.tr s.gdtr s.nested

pub stays_same : (p : Proc) → Stays p p
stays_same p = record { tr = refl; gdtr = refl; nested = refl }

-- either of two states
pub stays_if : (p : Proc) (b : Bool) (x y : Proc) → Stays p x → Stays p y → Stays p (cond b x y)
stays_if p true x y h k = h
stays_if p false x y h k = k

whole_register : (p q : Proc) (register value : ℕ) → Stays p q → Stays p (with_register q register value)
whole_register p q register value s = record { tr = s.tr; gdtr = s.gdtr; nested = s.nested }

-- a register changed besides, by its width
pub stays_register : (w : Width) (p q : Proc) (register value : ℕ) → Stays p q → Stays p (with_register_at w q register value)
stays_register W32 p q register value s = whole_register p q register _ s
stays_register W16 p q register value s = whole_register p q register _ s
stays_register W8 p q register value s = stays_if p (register / 4 % 2 == 0) _ _ (whole_register p q _ _ s) (whole_register p q _ _ s)

-- An operand put to a value, at the end of an operation.
pub put_plain : (n : ℕ) (w : Width) (p q : Proc) (operand : Place) (value : ℕ) (ts : List Ask) → nat_le 2 n ≡ true → Stays p q → Plain n (Ordinary p.gdtr) (Keeps p) ts (put_phrase w q operand value)
unfolding put_phrase store_phrase
put_plain n w p q (Register register) value ts l s = plain_done n (Ordinary p.gdtr) (Keeps p) ts _ (keeps_stays p ts _ (stays_register w p q register value s))
put_plain n w p q (Number number) value ts l s = plain_faults n (Ordinary p.gdtr) (Keeps p) ts _
put_plain n w p q Other value ts l s = plain_faults n (Ordinary p.gdtr) (Keeps p) ts _
put_plain n w p q (operands.Memory a) value ts l s =
    write_then p.gdtr n (Keeps p) ts q roles.Operand (segment_number a.seg a.base) (offset_of q a) (len_of w) value _ l refl
    (λ us u. plain_done (n - 2) (Ordinary p.gdtr) (Keeps p) us q (keeps_stays p us q s))

-- how an operation's phrase is made of others
pub ruleset plain = (plain_done, plain_faults, plain_if, reads_then, writes_then, read_then, write_then, modify_then, inspect_then, value_then, put_plain, on_register_plain, on_memory_plain, on_one_plain, on_two_plain, on_three_plain, keeps_rest, keeps_stays, stays_same, stays_if, stays_register, refl)
