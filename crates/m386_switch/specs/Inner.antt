-- The change to the stack of an inner level.
use Rattle.std.specs.Prelude.{ℕ, Bool, ◌+◌, ◌*◌, ◌%◌, ◌^◌}
use Rattle.m386_base.specs.declared.ask.Role.TheVariants as roles
use Rattle.m386_base.specs.Phrase.{Phrase, Done, ◌>>=◌}
use Rattle.m386_desc.specs.Selector.{code_of}
use Rattle.m386_state.specs.declared.proc.Proc.{Proc}
use Rattle.m386_segload.specs.declared.rules.Candidate.{Candidate}
use Rattle.m386_segload.specs.Load.{candidate_for, take_phrase}
use Rattle.m386_segload.specs.Rules.{first_broken, need, task_stack_rules, inner_stack_rules}
use Rattle.m386_segload.specs.Segments.{usable_seg}
use Rattle.m386_segload.specs.Tables.{held}
use Rattle.m386_switch.specs.Fields.{field_phrase}
use Rattle.m386_switch.specs.declared.inner.InnerStack.{InnerStack}

-- the task state segment that TR holds
abbrev pub task_candidate : Proc → ℕ → Bool → Candidate
task_candidate p level ext = candidate_for level (code_of p.tr.selector ext) p.tr.selector (held p.tr)

-- the stack that was named, tested and marked
unfoldable pub named_inner_phrase : Proc → ℕ → Bool → ℕ → ℕ → Phrase InnerStack
named_inner_phrase p level ext esp ss =
    take_phrase inner_stack_rules p level ext ss >>= (λ d. Done (record { esp = esp; ss = usable_seg ss d }))

-- ESPn and SSn, which are the fields 1 + 2n and 2 + 2n
unfoldable pub inner_fields_phrase : Proc → ℕ → Bool → Phrase InnerStack
inner_fields_phrase p level ext = do
  esp ← field_phrase roles.Inner p.tr.desc.base (1 + 2 * level)
  ss ← field_phrase roles.Inner p.tr.desc.base (2 + 2 * level)
  named_inner_phrase p level ext esp (ss % 2 ^ 16)

-- The stack of level n: the rules of the TSS, ESPn and SSn, the rules of SSn and its accessed byte.
-- Source: Intel 80386 PRM 6.3.4.1, 7.1
unfoldable pub inner_phrase : Proc → ℕ → Bool → Phrase InnerStack
inner_phrase p level ext = need (first_broken task_stack_rules (task_candidate p level ext)) (inner_fields_phrase p level ext)
