-- A seat that still stands for several numbers, or for all again.
use Rattle.std.specs.Prelude.{◌≡◌, ℕ, ◌<◌, List, [], length, slice_index_or}
use Rattle.atomic_table.specs.Table.{Me}
use Rattle.m386_base.specs.declared.ask.Ask.{Ask}
use Rattle.m386_base.specs.declared.ask.Cycle.{Cycle}
use Rattle.m386_memory.specs.History.{RecordView, cycles_of}
use Rattle.m386_arbiter.specs.declared.rule.View.{View}
use Rattle.m386_arbiter.specs.declared.rule.Stage.TheVariants.{Idle}

-- it stands for the numbers from n on, which have made no cycle
pub record IsDealer (n : ℕ) (me : Me RecordView View) : Type 0 where
  pub low : me.0.low ≡ n
  pub idle : me.0.stage ≡ Idle
  pub empty : me.1 ≡ []
  pub none_yet : (i : ℕ) → slice_index_or me.0.turns i [] ≡ []
  pub some : 0 < length me.0.turns

-- it stands for the numbers from n on, whose cycles are these
pub record IsGathered (n : ℕ) (turns : List (List Ask)) (me : Me RecordView View) : Type 0 where
  pub low : me.0.low ≡ n
  pub idle : me.0.stage ≡ Idle
  pub empty : me.1 ≡ []
  pub whole : me.0.turns ≡ turns
