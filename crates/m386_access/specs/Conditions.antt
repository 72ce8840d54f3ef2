-- Conditions on the flags.
use Rattle.std.specs.Prelude.{Bool, true, false, not, ◌||◌, if◌then◌else◌}
use Rattle.m386_base.specs.declared.flags.Flag.TheVariants as flags
use Rattle.m386_base.specs.declared.number.Flags.{Flags}
use Rattle.m386_base.specs.Flags.{has_flag}
use Rattle.m386_access.specs.declared.conditions.Condition.{Condition}
use Rattle.m386_access.specs.declared.conditions.Relation.{Relation}
use Rattle.m386_access.specs.declared.conditions.Relation.TheVariants.{Overflow, Below, Equal, BelowOrEqual, Sign, Parity, Less, LessOrEqual}

-- just one of two is true
abbrev pub differ : Bool → Bool → Bool
differ true b = not b
differ false b = b

-- What the flags say of a relation.
-- Source: Intel 80386 PRM 3.5.2, appendix D
abbrev pub holds : Relation → Flags → Bool
holds Overflow f = has_flag flags.Overflow f
holds Below f = has_flag flags.Carry f
holds Equal f = has_flag flags.Zero f
holds BelowOrEqual f = has_flag flags.Carry f || has_flag flags.Zero f
holds Sign f = has_flag flags.Sign f
holds Parity f = has_flag flags.Parity f
holds Less f = differ (has_flag flags.Sign f) (has_flag flags.Overflow f)
holds LessOrEqual f = has_flag flags.Zero f || differ (has_flag flags.Sign f) (has_flag flags.Overflow f)

-- the condition that a relation holds
abbrev pub when : Relation → Condition
when relation = record { relation = relation; negated = false }

-- the condition that it doesn't
abbrev pub unless : Relation → Condition
unless relation = record { relation = relation; negated = true }

-- Whether the flags meet a condition.
-- Source: Intel 80386 PRM appendix D
abbrev pub meets : Condition → Flags → Bool
meets condition f = if condition.negated then not (holds condition.relation f) else holds condition.relation f
