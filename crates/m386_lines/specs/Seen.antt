-- What the code's instructions, directives and lines are.
use Rattle.std.specs.Prelude.{ℕ, List, ◌++◌, map, Option, Some, None, Result, Ok, Err}
use Rattle.std.specs.Borrow.{Bor}
use Rattle.arrayvec.specs.ArrayVec.{ArrayVec}
use Rattle.m386_opmap.specs.Forms.{width_bits}
use Rattle.m386_words.specs.declared.token.Token.{Token as SeenToken}
use Rattle.m386_words.specs.Text.{Token}
use Rattle.m386_words.specs.Tokens.{seen}
use Rattle.m386_words.specs.Seen.{word_seen, expression_seen, place_seen}
use Rattle.m386_words.specs.Expressions.{Expression}
use Rattle.m386_lines.specs.declared.instruction.Argument.{Argument as SeenArgument}
use Rattle.m386_lines.specs.declared.instruction.Argument.TheVariants as arguments
use Rattle.m386_lines.specs.declared.instruction.Instruction.{Instruction as SeenInstruction}
use Rattle.m386_lines.specs.declared.directive.Directive.{Directive as SeenDirective}
use Rattle.m386_lines.specs.declared.directive.Directive.TheVariants as seens
use Rattle.m386_lines.specs.declared.directive.Setting.{Setting}
use Rattle.m386_lines.specs.declared.directive.Form.{Form}
use Rattle.m386_lines.specs.declared.directive.Form.TheVariants as forms
use Rattle.m386_lines.specs.declared.kind.AsmKind.{AsmKind}
use Rattle.m386_lines.specs.declared.shape.Shape.{Shape as SeenShape}
use Rattle.m386_lines.specs.declared.shape.Shape.TheVariants as shapes
use Rattle.m386_lines.specs.declared.line.Statement.{Statement as SeenStatement}
use Rattle.m386_lines.specs.declared.line.Statement.TheVariants as statements
use Rattle.m386_lines.specs.declared.line.Meaning.{Meaning as SeenMeaning}
use Rattle.m386_lines.specs.Instructions.{Argument, Fixed, Immediate, Target, Far, At, Instruction}
use Rattle.m386_lines.specs.Directives.{Directive, SetsMemory, SetsCpus, SetsGdt, SetsIdt, StartsBare, StartsTask, Plans, Begins, Values, Bytes, Zeros, Describes, Gates, Fields, of_one, of_two, of_three, of_four, one, two, three, four, number_alone, values, digits, fields}
use Rattle.m386_lines.specs.Lines.{Shape, Empty, Assigns, Directs, Operates, Other, Statement, Nothing, Assign, Direct, Operate, Meaning}

abbrev pub argument_seen : SeenArgument → Argument
argument_seen (arguments.Fixed a) = Fixed a
argument_seen (arguments.Immediate w e) = Immediate (width_bits w) (expression_seen e)
argument_seen (arguments.Target e) = Target (expression_seen e)
argument_seen (arguments.Far s o) = Far (expression_seen s) (expression_seen o)
argument_seen (arguments.At p) = At (place_seen p)

abbrev pub instruction_seen : SeenInstruction → Instruction
instruction_seen i = record { name = i.name; width = i.width; args = map argument_seen i.args.items; lock = i.lock; rep = i.rep }

-- the operands, if there are any
abbrev pub args_seen : Option (ArrayVec SeenArgument) → Option (List Argument)
args_seen None = None
args_seen (Some args) = Some (map argument_seen args.items)

-- operands behind these, if there are any
unfoldable pub behind : List SeenArgument → Option (List Argument) → Option (List Argument)
behind before None = None
behind before (Some args) = Some (map argument_seen before ++ args)

abbrev pub field_seen : Setting → ℕ × Expression
field_seen f = (f.number, expression_seen f.value)

abbrev pub directive_seen : SeenDirective → Directive
directive_seen (seens.SetsMemory n) = SetsMemory (expression_seen n)
directive_seen (seens.SetsCpus n) = SetsCpus (expression_seen n)
directive_seen (seens.SetsGdt b l) = SetsGdt (expression_seen b) (expression_seen l)
directive_seen (seens.SetsIdt b l) = SetsIdt (expression_seen b) (expression_seen l)
directive_seen (seens.StartsBare p e) = StartsBare (expression_seen p) (expression_seen e)
directive_seen (seens.StartsTask p s) = StartsTask (expression_seen p) (expression_seen s)
directive_seen (seens.Plans p s v) = Plans (expression_seen p) (expression_seen s) (expression_seen v)
directive_seen (seens.Begins n) = Begins n
directive_seen (seens.Values w es) = Values (width_bits w) (map expression_seen es)
directive_seen (seens.Bytes bs) = Bytes bs
directive_seen (seens.Zeros n) = Zeros n
directive_seen (seens.Describes b l a f) = Describes (expression_seen b) (expression_seen l) (expression_seen a) (expression_seen f)
directive_seen (seens.Gates s o a c) = Gates (expression_seen s) (expression_seen o) (expression_seen a) (expression_seen c)
directive_seen (seens.Fields fs) = Fields (map field_seen fs)

abbrev pub shape_seen : SeenShape → Shape
shape_seen shapes.Empty = Empty
shape_seen (shapes.Assigns w ts) = Assigns w.now (map seen ts.now)
shape_seen (shapes.Directs w) = Directs w.now
shape_seen (shapes.Operates p w ts) = Operates p w.now (map seen ts.now)
shape_seen shapes.Other = Other

abbrev pub statement_seen : SeenStatement → Statement
statement_seen statements.Nothing = Nothing
statement_seen (statements.Assign w n) = Assign w.now n
statement_seen (statements.Direct d) = Direct (directive_seen d)
statement_seen (statements.Operate i) = Operate (instruction_seen i)

abbrev pub meaning_seen : SeenMeaning → Meaning
meaning_seen m = record { label = word_seen m.label; statement = statement_seen m.statement }

-- the tokens of a part
abbrev pub part_seen : Bor (List SeenToken) → List Token
part_seen p = map seen p.now

-- a name and what stands behind it, if there are any
abbrev pub assigned_seen : Option (Bor (List ℕ) × Bor (List SeenToken)) → Option (List ℕ × List Token)
assigned_seen None = None
assigned_seen (Some a) = Some (a.0.now, map seen a.1.now)

-- what so many expressions mean, of a directive that has expressions between blanks
abbrev pub fixed_means : Form → List Expression → Option Directive
fixed_means forms.Memory es = of_one SetsMemory es
fixed_means forms.Cpus es = of_one SetsCpus es
fixed_means forms.Gdt es = of_two SetsGdt es
fixed_means forms.Idt es = of_two SetsIdt es
fixed_means forms.Bare es = of_two StartsBare es
fixed_means forms.Task es = of_two StartsTask es
fixed_means forms.Plan es = of_three Plans es
fixed_means forms.Desc es = of_four Describes es
fixed_means forms.Gate es = of_four Gates es
fixed_means _ es = None

-- what a directive's arguments mean
abbrev pub form_means : Form → List Token → Option Directive
form_means forms.Memory = one SetsMemory
form_means forms.Cpus = one SetsCpus
form_means forms.Gdt = two SetsGdt
form_means forms.Idt = two SetsIdt
form_means forms.Bare = two StartsBare
form_means forms.Task = two StartsTask
form_means forms.Plan = three Plans
form_means forms.Org = number_alone Begins
form_means forms.Byte = values 8
form_means forms.Word = values 16
form_means forms.Long = values 32
form_means forms.Hex = digits
form_means forms.Zero = number_alone Zeros
form_means forms.Desc = four Describes
form_means forms.Gate = four Gates
form_means forms.Tss = fields

-- a row of the table of directives
abbrev pub row_means : Bor (List ℕ) × Form → List ℕ × (List Token → Option Directive)
row_means r = (r.0.now, form_means r.1)

-- words of a table
abbrev pub words_seen : List (Bor (List ℕ)) → List (List ℕ)
words_seen ws = map (λ (w : Bor (List ℕ)). w.now) ws

-- a directive's word, if it is one
abbrev pub form_seen : Option Form → Option (List Token → Option Directive)
form_seen None = None
form_seen (Some f) = Some (form_means f)

-- a line's meaning, or its kind
abbrev pub judged_seen : Result SeenMeaning AsmKind → Result Meaning AsmKind
judged_seen (Ok m) = Ok (meaning_seen m)
judged_seen (Err kind) = Err kind
