-- Descriptors by their numbers.
use Rattle.std.specs.Prelude.{ℕ, ◌%◌, ◌^◌, ◌<◌}
use Rattle.std.proofs.Common.{arith}
use Rattle.m386_base.specs.declared.desc.Desc.{Desc}

pub below_limits : (n : ℕ) → n % 2 ^ 20 < 2 ^ 20
below_limits n = omega arith

pub below_flags : (n : ℕ) → n % 16 < 16
below_flags n = omega arith

-- The descriptor of a base, a limit of 20 bits, an access byte and four flags. Of longer numbers the low bits count.
-- Source: Intel 80386 PRM 5.1.1
abbrev pub descriptor : ℕ → ℕ → ℕ → ℕ → Desc
descriptor base raw_limit access flags = record {
  base = base;
  raw_limit = raw_limit % 2 ^ 20;
  access = access;
  flags = flags % 16;
  limit_fits = below_limits raw_limit;
  flags_fit = below_flags flags;
}

-- the descriptor of a segment that can't be used
abbrev pub no_descriptor : Desc
no_descriptor = descriptor 0 0 0 0
