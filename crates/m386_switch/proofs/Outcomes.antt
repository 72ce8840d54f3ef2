-- What an outcome tells is the row that failed.
use Rattle.std.proofs.Common.{◌≡◌, Option, Some, None, refl}
use Rattle.m386_checks.specs.declared.facts.Context.TheVariants as contexts
use Rattle.m386_checks.specs.declared.facts.Context.{Context}
use Rattle.m386_checks.specs.declared.facts.Fail.{Fail}
use Rattle.m386_switch.specs.Switch.{fail_in, outcome_of, told_in}

told_back : (c : Context) (x : Fail) → fail_in (told_in c x) ≡ Some x
told_back contexts.Old x = refl
told_back contexts.New x = refl

pub fail_back : (o : Option Fail) → fail_in (outcome_of o) ≡ o
fail_back None = refl
fail_back (Some x) = told_back x.context x

pub ruleset found = (fail_back)
