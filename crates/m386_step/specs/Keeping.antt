-- What a step keeps in which no attempt at a task switch is made.
use Rattle.std.specs.Prelude.{◌≡◌, ◌⊎◌, true, List}
use Rattle.m386_base.specs.declared.ask.Ask.{Ask}
use Rattle.m386_base.specs.declared.ask.Role.TheVariants as roles
use Rattle.m386_state.specs.declared.proc.Proc.{Proc}
use Rattle.m386_access.specs.Ordinary.{has_role, is_nested, popped}

-- TR is as before but for the claim of LTR, and the GDT register but for a cycle of LGDT; and NT isn't set where it wasn't, but behind
-- a flags cycle that read it set.
-- Source: Intel 80386 PRM 7.3, 2.3.4.1
pub record KeepsTask (p : Proc) (ts : List Ask) (after : Proc) : Type 0 where
  pub tr : (after.tr ≡ p.tr) ⊎ (has_role roles.ClaimLtr ts ≡ true)
  pub gdtr : (after.gdtr ≡ p.gdtr) ⊎ (has_role roles.Lgdt ts ≡ true)
  pub nested : is_nested after ≡ true → (is_nested p ≡ true) ⊎ (popped ts ≡ true)
