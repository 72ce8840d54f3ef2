-- Which operations this crate has, and at which level they may be done.
use Rattle.std.specs.Prelude.{Option, Some, None, true, false, List, [], ◌∷◌}
use Rattle.m386_opmap.specs.declared.name.Name.{Name}
use Rattle.m386_opmap.specs.declared.name.Name.TheVariants as names
use Rattle.m386_opmap.specs.declared.op.Arg.{Arg}
use Rattle.m386_opmap.specs.declared.op.Arg.TheVariants.{Cr0, Reg}
use Rattle.m386_system.specs.declared.work.Privileged.TheVariants as privileged
use Rattle.m386_system.specs.declared.work.SystemWord.TheVariants as words
use Rattle.m386_system.specs.declared.work.Table.TheVariants.{Global, Interrupts}
use Rattle.m386_system.specs.declared.work.Unprivileged.TheVariants as unprivileged
use Rattle.m386_system.specs.declared.work.Work.{Work}
use Rattle.m386_system.specs.declared.work.Work.TheVariants.{Privileged, Unprivileged}

-- MOV with CR0.
-- Source: Intel 80386 PRM 17.2.2.11, MOV
abbrev pub control_move_of : List Arg → Option Work
control_move_of (Cr0 ∷ Reg register ∷ []) = Some (Privileged (privileged.LoadControl register))
control_move_of (Reg register ∷ Cr0 ∷ []) = Some (Privileged (privileged.StoreControl register))
control_move_of _ = None

-- The work of a name with its operands, where this crate has it.
-- Source: Intel 80386 PRM 6.3.5.1, 17.2.2.11
abbrev pub work_of : Name → List Arg → Option Work
work_of names.Hlt args = Some (Privileged privileged.Halt)
work_of names.Lgdt args = Some (Privileged (privileged.LoadTable Global))
work_of names.Lidt args = Some (Privileged (privileged.LoadTable Interrupts))
work_of names.Lldt args = Some (Privileged privileged.LoadLocalTable)
work_of names.Ltr args = Some (Privileged privileged.LoadTask)
work_of names.Lmsw args = Some (Privileged privileged.LoadStatus)
work_of names.Clts args = Some (Privileged privileged.ClearTaskSwitched)
work_of names.Sgdt args = Some (Unprivileged (unprivileged.StoreTable Global))
work_of names.Sidt args = Some (Unprivileged (unprivileged.StoreTable Interrupts))
work_of names.Sldt args = Some (Unprivileged (unprivileged.StoreWord words.LocalTable))
work_of names.Str args = Some (Unprivileged (unprivileged.StoreWord words.Task))
work_of names.Smsw args = Some (Unprivileged (unprivileged.StoreWord words.Status))
work_of names.Cli args = Some (Unprivileged (unprivileged.PutInterrupts false))
work_of names.Sti args = Some (Unprivileged (unprivileged.PutInterrupts true))
work_of names.Wait args = Some (Unprivileged unprivileged.Wait)
work_of names.Esc args = Some (Unprivileged unprivileged.Escape)
work_of names.Mov args = control_move_of args
work_of _ args = None
