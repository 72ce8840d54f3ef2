-- What a loop of a switch has yet to do: groups of a field, fields, segment registers.
use Rattle.std.proofs.Common.{◌≡◌, ℕ, ◌+◌, ◌-◌, ◌<◌, ◌≤◌, Bool, true, false, List, length, drop, get_or, refl, add-one, drop-cons, bit_or, nat_le, nat_lt, ◌&&◌, arith, slice_set, if◌then◌else◌, cond}
use Rattle.std.proofs.lemmas.Bool.{and_parts}
use Rattle.std.proofs.lemmas.List.{drop_all}
use Rattle.m386_base.specs.declared.ask.Role.{Role}
use Rattle.m386_base.specs.declared.ask.Role.TheVariants as roles
use Rattle.m386_base.specs.declared.kind.SwitchKind.{SwitchKind}
use Rattle.m386_base.specs.declared.split.Piece.{Piece}
use Rattle.m386_base.specs.Bus.{BusView}
use Rattle.m386_base.specs.Split.{gather_of}
use Rattle.m386_base.specs.Phrase.{Phrase, Done, ◌>>=◌, one, Continues, Completes}
use Rattle.m386_base.proofs.Finite.{all_below, each_below}
use Rattle.m386_base.proofs.Groups.{no_piece}
use Rattle.m386_base.proofs.Phrases.{continues_on}
use Rattle.m386_checks.specs.declared.facts.Facts.{Facts}
use Rattle.m386_checks.specs.First.{first_fail_of}
use Rattle.m386_state.specs.declared.proc.Proc.{Proc}
use Rattle.m386_state.specs.declared.segment.TableReg.{TableReg}
use Rattle.m386_tss.specs.Orders.{saved_fields, loaded_fields}
use Rattle.m386_switch.specs.Fields.{field_ask, field_reads, field_write_ask, field_writes, field_phrase, field_write_phrase}
use Rattle.m386_switch.specs.Later.{segments, segment_phrase, segment_order, stops_at}
use Rattle.m386_switch.specs.Parts.{saves, saved_value, loads}

pub field_reads_next : (role : Role) (n value : ℕ) (ps : List Piece) (i : ℕ) → i < length ps → field_reads role n value (drop i ps) ≡ (one (field_ask role n (get_or ps i no_piece)) >>= (λ found. field_reads role n (bit_or value (gather_of (get_or ps i no_piece) found)) (drop (i + 1) ps)))
unfolding field_reads
field_reads_next role n value ps i h = rw (drop-cons ps i no_piece h) (rw (add-one i) refl)

pub field_reads_end : (role : Role) (n value : ℕ) (ps : List Piece) (i : ℕ) → length ps ≤ i → field_reads role n value (drop i ps) ≡ Done value
unfolding field_reads
field_reads_end role n value ps i h = rw (drop_all i ps h) refl

pub ruleset field_steps = (field_reads_next, field_reads_end)

pub field_writes_next : (role : Role) (n value : ℕ) (ps : List Piece) (i : ℕ) → i < length ps → field_writes role n value (drop i ps) ≡ (one (field_write_ask role n (get_or ps i no_piece) value) >>= (λ _. field_writes role n value (drop (i + 1) ps)))
unfolding field_writes
field_writes_next role n value ps i h = rw (drop-cons ps i no_piece h) (rw (add-one i) refl)

pub field_writes_end : (role : Role) (n value : ℕ) (ps : List Piece) (i : ℕ) → length ps ≤ i → field_writes role n value (drop i ps) ≡ Done tt
unfolding field_writes
field_writes_end role n value ps i h = rw (drop_all i ps h) refl

pub ruleset field_write_steps = (field_writes_next, field_writes_end)

pub saves_next : (kind : SwitchKind) (p : Proc) (ns : List ℕ) (i : ℕ) → i < length ns → saves kind p (drop i ns) ≡ (field_write_phrase roles.Save p.tr.desc.base (get_or ns i 0) (saved_value kind p (get_or ns i 0)) >>= (λ _. saves kind p (drop (i + 1) ns)))
unfolding saves
saves_next kind p ns i h = rw (drop-cons ns i 0 h) (rw (add-one i) refl)

pub saves_end : (kind : SwitchKind) (p : Proc) (ns : List ℕ) (i : ℕ) → length ns ≤ i → saves kind p (drop i ns) ≡ Done tt
unfolding saves
saves_end kind p ns i h = rw (drop_all i ns h) refl

pub loads_next : (base : ℕ) (loaded ns : List ℕ) (i : ℕ) → i < length ns → loads base loaded (drop i ns) ≡ (field_phrase roles.Load base (get_or ns i 0) >>= (λ v. loads base (slice_set loaded (get_or ns i 0 - 8) v) (drop (i + 1) ns)))
unfolding loads
loads_next base loaded ns i h = rw (drop-cons ns i 0 h) (rw (add-one i) refl)

pub loads_end : (base : ℕ) (loaded ns : List ℕ) (i : ℕ) → length ns ≤ i → loads base loaded (drop i ns) ≡ Done loaded
unfolding loads
loads_end base loaded ns i h = rw (drop_all i ns h) refl

is_saved : ℕ → Bool
is_saved i = nat_le 8 (get_or saved_fields i 0) && nat_lt (get_or saved_fields i 0) 24

all_saved : (i : ℕ) → i < 16 → is_saved i ≡ true
unfolding all_below is_saved saved_fields
all_saved i h = each_below 16 is_saved refl i h

is_loaded : ℕ → Bool
is_loaded i = nat_le 8 (get_or loaded_fields i 0) && nat_lt (get_or loaded_fields i 0) 26

all_loaded : (i : ℕ) → i < 18 → is_loaded i ≡ true
unfolding all_below is_loaded loaded_fields
all_loaded i h = each_below 18 is_loaded refl i h

pub saved_from : (i : ℕ) → i < length saved_fields → 8 ≤ get_or saved_fields i 0
unfolding is_saved saved_fields
saved_from i h = let e : nat_le 8 (get_or saved_fields i 0) ≡ true = (and_parts _ _ (all_saved i h)).0 in grind (arith, e)

pub saved_to : (i : ℕ) → i < length saved_fields → get_or saved_fields i 0 < 24
unfolding is_saved saved_fields
saved_to i h = let e : nat_lt (get_or saved_fields i 0) 24 ≡ true = (and_parts (nat_le 8 (get_or saved_fields i 0)) _ (all_saved i h)).1 in grind (arith, e)

pub loaded_from : (i : ℕ) → i < length loaded_fields → 8 ≤ get_or loaded_fields i 0
unfolding is_loaded loaded_fields
loaded_from i h = let e : nat_le 8 (get_or loaded_fields i 0) ≡ true = (and_parts _ _ (all_loaded i h)).0 in grind (arith, e)

pub loaded_to : (i : ℕ) → i < length loaded_fields → get_or loaded_fields i 0 < 26
unfolding is_loaded loaded_fields
loaded_to i h = let e : nat_lt (get_or loaded_fields i 0) 26 ≡ true = (and_parts (nat_le 8 (get_or loaded_fields i 0)) _ (all_loaded i h)).1 in grind (arith, e)

pub ruleset save_steps = (saves_next, saves_end, saved_from, saved_to)

pub ruleset load_steps = (loads_next, loads_end, loaded_from, loaded_to)

pub segments_next : (g : TableReg) (f : Facts) (ns : List ℕ) (i : ℕ) → i < length ns → segments g f (drop i ns) ≡ (segment_phrase g f (get_or ns i 0) >>= (λ f2. if stops_at (get_or ns i 0) (first_fail_of f2) then Done f2 else segments g f2 (drop (i + 1) ns)))
unfolding segments
segments_next g f ns i h = rw (drop-cons ns i 0 h) (rw (add-one i) refl)

pub segments_end : (g : TableReg) (f : Facts) (ns : List ℕ) (i : ℕ) → length ns ≤ i → segments g f (drop i ns) ≡ Done f
unfolding segments
segments_end g f ns i h = rw (drop_all i ns h) refl

-- a turn of the loop whose rows hold
pub segments_on : (g : TableReg) (f f2 : Facts) (ns : List ℕ) (i : ℕ) {whole : Phrase Facts} {old now next : BusView} → i < length ns → Continues whole old (segments g f (drop i ns)) now
    → Completes (segment_phrase g f (get_or ns i 0)) now next f2 → stops_at (get_or ns i 0) (first_fail_of f2) ≡ false → Continues whole old (segments g f2 (drop (i + 1) ns)) next
segments_on g f f2 ns i {whole = whole} {old = old} {next = next} l h p e =
    let rest : Facts → Phrase Facts = λ x. if stops_at (get_or ns i 0) (first_fail_of x) then Done x else segments g x (drop (i + 1) ns) in
    let c : Continues whole old (cond (stops_at (get_or ns i 0) (first_fail_of f2)) (Done f2) (segments g f2 (drop (i + 1) ns))) next = continues_on (segment_phrase g f (get_or ns i 0)) rest h (segments_next g f ns i l) p in
    rw e at c

all_segments : (i : ℕ) → i < 6 → nat_lt (get_or segment_order i 0) 6 ≡ true
unfolding all_below
all_segments i h = each_below 6 (λ k. nat_lt (get_or segment_order k 0) 6) refl i h

pub segment_below : (i : ℕ) → i < 6 → get_or segment_order i 0 < 6
segment_below i h = let e : nat_lt (get_or segment_order i 0) 6 ≡ true = all_segments i h in grind (arith, e)

pub ruleset segment_steps = (segments_next, segments_end, segment_below)
