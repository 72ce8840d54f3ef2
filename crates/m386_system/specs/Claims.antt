-- What the operations of this crate may ask and what they keep, LTR among them.
use Rattle.std.specs.Prelude.{◌≡◌, ◌⊎◌, Bool, true, false, List, Option, Some, None}
use Rattle.m386_base.specs.declared.ask.Ask.{Ask}
use Rattle.m386_base.specs.declared.ask.Role.TheVariants as roles
use Rattle.m386_opmap.specs.declared.op.Op.{Op}
use Rattle.m386_state.specs.declared.proc.Proc.{Proc}
use Rattle.m386_state.specs.declared.segment.TableReg.{TableReg}
use Rattle.m386_access.specs.Ordinary.{Ordinary, has_role, is_nested, popped}
use Rattle.m386_system.specs.Work.{work_of}
use Rattle.m386_system.specs.declared.work.Privileged.TheVariants as privileged
use Rattle.m386_system.specs.declared.work.Work.{Work}
use Rattle.m386_system.specs.declared.work.Work.TheVariants as kinds

abbrev pub loads_task : Option Work → Bool
loads_task (Some (kinds.Privileged privileged.LoadTask)) = true
loads_task _ = false

-- the operation is LTR
unfoldable pub is_task_load : Op → Bool
is_task_load op = loads_task (work_of op.name op.args.items)

-- What an ordinary operation may ask, or the write that claims a task for LTR.
-- Own choice: docs/DECISIONS.md, "What an operation owes"
abbrev pub MayClaim : TableReg → List Ask → Ask → Type 0
MayClaim gdt ts q = Ordinary gdt ts q ⊎ ((q.write ≡ true) × (q.role ≡ roles.ClaimLtr))

-- What an ordinary operation keeps, but TR where LTR claimed a task.
-- Own choice: docs/DECISIONS.md, "What an operation owes"
pub record KeepsButClaimed (p : Proc) (ts : List Ask) (after : Proc) : Type 0 where
  pub tr : (after.tr ≡ p.tr) ⊎ (has_role roles.ClaimLtr ts ≡ true)
  pub gdtr : (after.gdtr ≡ p.gdtr) ⊎ (has_role roles.Lgdt ts ≡ true)
  pub nested : is_nested after ≡ true → (is_nested p ≡ true) ⊎ (popped ts ≡ true)
