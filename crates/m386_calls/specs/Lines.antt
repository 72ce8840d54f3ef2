-- Which words stand behind each command: what a simple command of `clap` takes, and the values that it finds.
use Rattle.std.specs.Prelude.{◌≡◌, List, [], ◌∷◌, true, Result, Ok, Err, Option, Some, codes}
use Rattle.clap.specs.Faults.{fault_of}
use Rattle.clap.specs.Kinds.{Kinds}
use Rattle.clap.specs.Matches.{found_of}
use Rattle.clap.specs.Simple.{App, matches_of, new_rule, new_shape}
use Rattle.clap.specs.Walk.{Rule, Text, first_of, rows_of}
use Rattle.clap.specs.declared.builder.action.ArgAction.TheVariants.{Set}
use Rattle.clap.specs.declared.parser.matches.ArgMatches.{ArgMatches}
use Rattle.m386_calls.specs.declared.stop.CallStop.{CallStop}
use Rattle.m386_calls.specs.declared.stop.CallStop.TheVariants.{Memory, Refused}
use Rattle.m386_calls.specs.declared.usage.UsageKind.TheVariants.{Line}

-- an option of this name, which takes one value
abbrev pub option_of : Text → Rule
option_of name = record (new_rule name) { long = Some name; action = Some Set }

-- The line of this name with these options: the words behind it are no name of a program, and none of them asks for help.
-- Own choice: docs/DECISIONS.md, "The words of a call"
abbrev pub line_of : Text → List Rule → App
line_of name options = record {
  top = record (new_shape name) { rules = options; no_binary_name = true; disable_help_flag = true };
  subs = [];
}

unfoldable pub run_line : App
run_line = line_of (codes "run") (option_of (codes "cpus") ∷ option_of (codes "steps") ∷ option_of (codes "order") ∷ option_of (codes "seed") ∷ [])

unfoldable pub asm_line : App
asm_line = line_of (codes "asm") []

unfoldable pub soak_line : App
soak_line = line_of (codes "soak") (option_of (codes "seed") ∷ [])

-- the words fit a line
abbrev pub Fits : App → List Text → Type 0
Fits line words = fault_of line words ≡ []

-- the value that an option has among words that fit a line
abbrev pub value_of : App → List Text → Text → Option Text
value_of line words name = first_of name (matches_of line words)

-- why words are nothing in a line whose faults are these
abbrev pub IsRefusal : Kinds → CallStop → Type 0
IsRefusal faults Memory = Unit {0}
IsRefusal faults (Refused kind) = (kind ≡ Line) × ¬ (faults ≡ [])

-- what the words are in a line, or why they are nothing
abbrev pub IsParse : App → List Text → Result ArgMatches CallStop → Type 0
IsParse line words (Ok matches) = Fits line words × (rows_of (found_of matches) ≡ matches_of line words)
IsParse line words (Err stop) = IsRefusal (fault_of line words) stop
