-- The lines of tasks: the descriptors of a table that are of a 386 TSS, and what stands in their segments.
use Rattle.std.specs.Prelude.{ℕ, zero, suc, ◌+◌, ◌-◌, ◌*◌, ◌/◌, ◌%◌, ◌^◌, ◌==◌, Bool, true, false, List, [], ◌∷◌, ◌++◌, Option, Some, None, option_map, unwrap_or, slice_index_or, codes, if◌then◌else◌}
use Rattle.std.specs.Int.{w16, w32, from_le_bytes}
use Rattle.m386_base.specs.declared.desc.Desc.{Desc}
use Rattle.m386_desc.specs.Access.{kind_of}
use Rattle.m386_desc.specs.Bytes.{descriptor_in, two_doublewords}
use Rattle.m386_desc.specs.Offsets.{limit_of}
use Rattle.m386_desc.specs.Selector.{place_in}
use Rattle.m386_desc.specs.declared.kind.Kind.{Kind}
use Rattle.m386_desc.specs.declared.kind.Kind.TheVariants as kinds
use Rattle.m386_image.specs.declared.image.TableAt.{TableAt}
use Rattle.m386_tss.specs.Fields.{field_at}
use Rattle.m386_tss.specs.declared.fields.Field.{Field}
use Rattle.m386_trace.specs.Line.{line_text, hex4, hex8}

-- ---- what stands in memory, of which these are the bytes

-- so many bytes from a linear address on, which comes round at 2^32
abbrev pub bytes_at : (ℕ → ℕ) → ℕ → ℕ → List ℕ
bytes_at byte addr zero = []
bytes_at byte addr (suc n) = byte addr ∷ bytes_at byte ((addr + 1) % 2 ^ 32) n

-- the word and the doubleword at a linear address, the lowest byte first
unfoldable pub word_at : (ℕ → ℕ) → ℕ → ℕ
word_at byte addr = from_le_bytes w16 (bytes_at byte addr 2)

unfoldable pub doubleword_at : (ℕ → ℕ) → ℕ → ℕ
doubleword_at byte addr = from_le_bytes w32 (bytes_at byte addr 4)

-- The descriptor of a number in a table. Its selector, with RPL 0, is eight times the number.
-- Source: Intel 80386 PRM 5.1.1
unfoldable pub descriptor_at : (ℕ → ℕ) → TableAt → ℕ → Desc
descriptor_at byte table number =
    let at = place_in table.base (number * 8) in descriptor_in (two_doublewords (doubleword_at byte at) (doubleword_at byte ((at + 4) % 2 ^ 32)))

-- ---- its line

-- the name of each field of a TSS, at the place of its number
abbrev pub field_names : List (List ℕ)
field_names =
    codes "link" ∷ codes "esp0" ∷ codes "ss0" ∷ codes "esp1" ∷ codes "ss1" ∷ codes "esp2" ∷ codes "ss2" ∷ codes "cr3" ∷ codes "eip"
    ∷ codes "efl" ∷ codes "eax" ∷ codes "ecx" ∷ codes "edx" ∷ codes "ebx" ∷ codes "esp" ∷ codes "ebp" ∷ codes "esi" ∷ codes "edi"
    ∷ codes "es" ∷ codes "cs" ∷ codes "ss" ∷ codes "ds" ∷ codes "fs" ∷ codes "gs" ∷ codes "ldt" ∷ codes "trap" ∷ codes "map" ∷ []

unfoldable pub field_name : ℕ → List ℕ
field_name number = slice_index_or field_names number []

-- The value of a field in the segment at a base: eight digits of one with four bytes, else four.
-- Own choice: docs/DECISIONS.md, "The report"
unfoldable pub field_digits : (ℕ → ℕ) → ℕ → Field → List ℕ
field_digits byte base field =
    let at = (base + field.offset) % 2 ^ 32 in if field.len == 4 then hex8 (doubleword_at byte at) else hex4 (word_at byte at)

-- name and value of each of the first n fields of the segment at a base
unfoldable pub fields_below : (ℕ → ℕ) → ℕ → ℕ → List (List ℕ)
fields_below byte base zero = []
fields_below byte base (suc n) = fields_below byte base n ++ (field_name n ∷ field_digits byte base (field_at n) ∷ [])

-- whether a task is marked as being in it, of a descriptor of a 386 TSS
abbrev pub tss_busy : Kind → Option Bool
tss_busy (kinds.Tss busy) = Some busy
tss_busy _ = None

abbrev pub busy_word : Bool → List ℕ
busy_word true = codes "busy"
busy_word false = codes "free"

-- the fields of a task behind its letter
abbrev pub task_fields : (ℕ → ℕ) → ℕ → Desc → Bool → List (List ℕ)
task_fields byte number desc busy =
    (hex4 (number * 8) ∷ busy_word busy ∷ codes "base" ∷ hex8 desc.base ∷ codes "limit" ∷ hex8 (limit_of desc) ∷ []) ++ fields_below byte desc.base 27

-- The line of the descriptor of a number, where it is of a 386 TSS, present or not.
-- Own choice: docs/DECISIONS.md, "The report"
unfoldable pub task_text : (ℕ → ℕ) → TableAt → ℕ → Option (List ℕ)
task_text byte table number =
    let desc = descriptor_at byte table number in option_map (λ busy. line_text (codes "t") (task_fields byte number desc busy)) (tss_busy (kind_of desc))

-- ---- the lines of a table

-- the lines of the descriptors with the numbers 1 to n
unfoldable pub tasks_below : (ℕ → ℕ) → TableAt → ℕ → List ℕ
tasks_below byte table zero = []
tasks_below byte table (suc n) = tasks_below byte table n ++ unwrap_or (task_text byte table (n + 1)) []

-- how many descriptors a table has beside the null one
abbrev pub described : TableAt → ℕ
described table = (table.limit + 1) / 8 - 1

-- The lines of the tasks of a table, rising by number.
-- Own choice: docs/DECISIONS.md, "The report"
unfoldable pub tasks_text : (ℕ → ℕ) → TableAt → List ℕ
tasks_text byte table = tasks_below byte table (described table)
