-- The check table of a task switch, and what its columns say.
use Rattle.std.specs.Prelude.{ℕ, List, [], ◌∷◌, Some}
use Rattle.m386_desc.specs.Selector.{code_of}
use Rattle.m386_checks.specs.declared.facts.Context.{Context}
use Rattle.m386_checks.specs.declared.facts.Context.TheVariants.{Old, New}
use Rattle.m386_checks.specs.declared.facts.Fail.{Fail}
use Rattle.m386_checks.specs.declared.facts.Facts.{Facts}
use Rattle.m386_base.specs.declared.kind.SwitchKind.{SwitchKind}
use Rattle.m386_base.specs.declared.kind.SwitchKind.TheVariants as switches
use Rattle.m386_base.specs.declared.exception.Exception.{Exception}
use Rattle.m386_base.specs.declared.exception.Exception.TheVariants as exceptions
use Rattle.m386_base.specs.Exceptions.{coded_fault_of}
use Rattle.m386_base.specs.Segments.{cs, ss}
use Rattle.m386_checks.specs.declared.table.Raises.{Raises}
use Rattle.m386_checks.specs.declared.table.Raises.TheVariants as raises
use Rattle.m386_checks.specs.declared.table.Check.{Check}
use Rattle.m386_checks.specs.declared.table.Subject.{Subject}
use Rattle.m386_checks.specs.declared.table.Subject.TheVariants as names
use Rattle.m386_checks.specs.declared.table.Test.{Test}
use Rattle.m386_checks.specs.declared.table.Test.TheVariants as tests
use Rattle.m386_checks.specs.Holds.{selector_at}

abbrev pub row : ℕ → Test → Raises → Subject → Context → Check
row number test exception subject context =
    record { number = number; test = test; exception = exception; subject = subject; context = context }

-- The rows: number, test, exception, the selector that the error code names, and the task that is told.
-- Source: Intel 80386 PRM 7.5; the rows: docs/DECISIONS.md, "The check table of a task switch"
abbrev pub check_table : List Check
check_table =
    row 1 tests.TrUsable raises.Gp names.Nothing Old
    ∷ row 2 tests.TssInGdt raises.ByKind names.Tss Old
    ∷ row 3 tests.TssOf386 raises.ByKind names.Tss Old
    ∷ row 4 tests.TssPrivilege raises.ByKind names.Tss Old
    ∷ row 5 tests.TssState raises.ByKind names.Tss Old
    ∷ row 6 tests.TssPresent raises.Np names.Tss Old
    ∷ row 7 tests.TssLimit raises.Ts names.Tss Old
    ∷ row 8 tests.LdtInGdt raises.Ts names.Ldt New
    ∷ row 9 tests.LdtPresent raises.Ts names.Ldt New
    ∷ row 10 tests.CsCode raises.Ts names.Cs New
    ∷ row 11 tests.CsPrivilege raises.Ts names.Cs New
    ∷ row 12 tests.CsPresent raises.Np names.Cs New
    ∷ row 13 tests.SsWritable raises.Ts names.Ss New
    ∷ row 14 tests.SsPrivilege raises.Ts names.Ss New
    ∷ row 15 tests.SsPresent raises.Ss names.Ss New
    ∷ row 16 tests.DataReadable raises.Ts names.Data New
    ∷ row 17 tests.DataPrivilege raises.Ts names.Data New
    ∷ row 18 tests.DataPresent raises.Np names.Data New
    ∷ row 19 tests.EipInLimit raises.Gp names.Nothing New ∷ []

-- the exception where it depends on what makes the switch
abbrev pub exception_by_kind : SwitchKind → Exception
exception_by_kind switches.Jmp = exceptions.GeneralProtection
exception_by_kind switches.Call = exceptions.GeneralProtection
exception_by_kind switches.Event = exceptions.InvalidTss
exception_by_kind switches.Iret = exceptions.InvalidTss
exception_by_kind switches.Start = exceptions.InvalidTss

-- The exception that a row raises.
-- Source: Intel 80386 PRM 7.5; the column: docs/DECISIONS.md, "The check table of a task switch"
abbrev pub exception_of : Raises → SwitchKind → Exception
exception_of raises.Ts kind = exceptions.InvalidTss
exception_of raises.Np kind = exceptions.SegmentNotPresent
exception_of raises.Ss kind = exceptions.StackFault
exception_of raises.Gp kind = exceptions.GeneralProtection
exception_of raises.ByKind kind = exception_by_kind kind

-- the segment register that a row speaks of, where `turn` is the data segment register whose turn it is
abbrev pub seg_of : Subject → ℕ → ℕ
seg_of names.Nothing turn = 0
seg_of names.Tss turn = 0
seg_of names.Ldt turn = 0
seg_of names.Cs turn = cs
seg_of names.Ss turn = ss
seg_of names.Data turn = turn

-- The error code: it names the selector that the row speaks of, and has EXT as bit 0. Where it names none it is 0.
-- Source: Intel 80386 PRM 9.7; the code 0: docs/DECISIONS.md, "Fault codes"
abbrev pub error_code_of : Subject → Facts → ℕ → ℕ
error_code_of names.Nothing f turn = 0
error_code_of names.Tss f turn = code_of f.selector f.ext
error_code_of names.Ldt f turn = code_of f.ldt f.ext
error_code_of names.Cs f turn = code_of (selector_at f cs) f.ext
error_code_of names.Ss f turn = code_of (selector_at f ss) f.ext
error_code_of names.Data f turn = code_of (selector_at f turn) f.ext

-- how a row fails
abbrev pub fail_of : Facts → Check → ℕ → Fail
fail_of f row turn = record {
  row = row.number;
  seg = seg_of row.subject turn;
  fault = coded_fault_of (exception_of row.exception f.kind) (error_code_of row.subject f turn);
  context = row.context;
}
