-- The fields of a task, and the lines of tasks, one after another.
use Rattle.std.proofs.Common.{◌≡◌, ℕ, zero, suc, ◌+◌, ◌<◌, List, [], ◌∷◌, ◌++◌, Bool, true, false, eqb, Option, None, refl, ap, sym, subst, ◌∙◌, append_assoc, append-nil, add-one, arith}
use Rattle.std.specs.Prelude.{unwrap_or}
use Rattle.std.proofs.lemmas.Bool.{eqb-true, eqb-false}
use Rattle.m386_base.specs.declared.ask.Cycle.{Cycle}
use Rattle.m386_base.specs.declared.ask.Space.{Space}
use Rattle.m386_base.specs.declared.ask.Space.TheVariants.{Memory}
use Rattle.m386_desc.specs.Access.{kind_of}
use Rattle.m386_memory.specs.Contents.{Contents, byte_in}
use Rattle.m386_memory.specs.History.{byte_after, past}
use Rattle.m386_edge.specs.Edge.{Grows, GrowsByFront}
use Rattle.m386_edge.proofs.Edge.{grows_then, front_later, front_now}
use Rattle.m386_image.specs.declared.image.TableAt.{TableAt}
use Rattle.m386_tss.specs.Fields.{field_at}
use Rattle.m386_trace.specs.Line.{spaced}
use Rattle.m386_trace.specs.Report.{left_at}
use Rattle.m386_trace.specs.Tasks.{descriptor_at, field_digits, field_name, fields_below, task_text, tasks_below, tss_busy}
use Rattle.m386_trace.proofs.Lines.{HasFields, pushed}

-- ---- fields

pub no_fields : (byte : ℕ → ℕ) (base : ℕ) (line : List ℕ) → line ≡ line ++ spaced (fields_below byte base 0)
unfolding fields_below spaced
no_fields byte base line = sym (append-nil line)

pub fields_next : (byte : ℕ → ℕ) (base n : ℕ) (first line new : List ℕ) → line ≡ first ++ spaced (fields_below byte base n) → new ≡ line ++ spaced (field_name n ∷ field_digits byte base (field_at n) ∷ [])
    → new ≡ first ++ spaced (fields_below byte base (n + 1))
unfolding fields_below
fields_next byte base n first line new before step =
    let before : HasFields first (fields_below byte base n) line = record { text = before } in
    rw add-one (pushed (field_name n ∷ field_digits byte base (field_at n) ∷ []) new before step).text

-- ---- lines

-- the line of a number, if it has one
abbrev pub line_at : (ℕ → ℕ) → TableAt → ℕ → List ℕ
line_at byte table number = unwrap_or (task_text byte table number) []

-- the lines of some numbers, that behind them, and the rest
record Parted (byte : ℕ → ℕ) (table : TableAt) (i n : ℕ) : Type 0 where
  pub rest : List ℕ
  pub are : tasks_below byte table n ≡ (tasks_below byte table i ++ line_at byte table (i + 1)) ++ rest

parted_by : (last : Bool) (byte : ℕ → ℕ) (table : TableAt) (i n : ℕ) → eqb i n ≡ last → (last ≡ false → Parted byte table i n) → Parted byte table i (suc n)
unfolding tasks_below
parted_by true byte table i n e before =
    let P : ℕ → Type 0 = λ k. tasks_below byte table (suc n) ≡ tasks_below byte table k ++ line_at byte table (k + 1) in
    let here : P n = refl in
    record { rest = []; are = subst P (sym (eqb-true i n e)) here ∙ sym (append-nil (tasks_below byte table i ++ line_at byte table (i + 1))) }
parted_by false byte table i n e before =
    let b = before refl in
    record {
      rest = b.rest ++ line_at byte table (n + 1);
      are = ap (λ (t : List ℕ). t ++ line_at byte table (n + 1)) b.are ∙ append_assoc (tasks_below byte table i ++ line_at byte table (i + 1)) b.rest (line_at byte table (n + 1));
    }

parted : (byte : ℕ → ℕ) (table : TableAt) (i n : ℕ) → i < n → Parted byte table i n
parted byte table i zero lt = absurd (omega (arith, lt))
parted byte table i (suc n) lt = parted_by (eqb i n) byte table i n refl (λ e. let other = eqb-false i n e in parted byte table i n (below i n lt other))
  where
    below : (i n : ℕ) → i < suc n → (i ≡ n → ⊥) → i < n
    below i n lt other = omega (arith, lt, other)

-- no line
pub no_line : (byte : ℕ → ℕ) (table : TableAt) (number : ℕ) → tss_busy (kind_of (descriptor_at byte table number)) ≡ None → task_text byte table number ≡ None
unfolding task_text
no_line byte table number e = rw e refl

-- what stands in memory is what the cycles left there
pub store_left : (store first : Contents) (history : List Cycle) → ((s : Space) (a : ℕ) → byte_in store s a ≡ byte_after first (past history) s a) → byte_in store Memory ≡ left_at first history
store_left store first history h = λ i place. h Memory place i

pub tasks_more : (first old new : Option (List ℕ)) (byte : ℕ → ℕ) (table : TableAt) (i : ℕ) → Grows first old (tasks_below byte table i) → Grows old new (line_at byte table (i + 1)) → Grows first new (tasks_below byte table (i + 1))
unfolding tasks_below
tasks_more first old new byte table i before step = rw add-one (grows_then first old new _ _ before step)

pub tasks_front : (first old new : Option (List ℕ)) (byte : ℕ → ℕ) (table : TableAt) (i n : ℕ) → i < n → Grows first old (tasks_below byte table i) → GrowsByFront old new (line_at byte table (i + 1)) → GrowsByFront first new (tasks_below byte table n)
tasks_front first old new byte table i n lt before step =
    let parts = parted byte table i n lt in
    rw parts.are (front_now first new _ _ (front_later first old new _ _ before step))
