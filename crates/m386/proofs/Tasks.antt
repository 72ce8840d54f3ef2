-- How many tasks the image of a number has.
use Rattle.std.proofs.Common.{◌≡◌, ℕ, zero, suc, ◌+◌, ◌/◌, ◌%◌, ◌<◌, arith, refl}
use Rattle.m386_desc.specs.Access.{kind_of}
use Rattle.m386_desc.specs.Bytes.{descriptor_bytes, descriptor_in, two_doublewords}
use Rattle.m386_gen.specs.Generated.{generated, image_with, schedulers_of, workers_of}
use Rattle.m386_trace.specs.Soak.{tasks_of, tasks_among}
use Rattle.m386_trace.specs.Tasks.{descriptor_at, doubleword_at}

-- each of the twelve images
tasks_with : (a b : ℕ) → a < 3 → b < 4 → tasks_of (image_with (2 + a) (1 + b)) ≡ (2 + a) + (1 + b)
unfolding image_with tasks_among descriptor_at doubleword_at two_doublewords descriptor_in descriptor_bytes kind_of
tasks_with zero zero la lb = refl
tasks_with zero (suc zero) la lb = refl
tasks_with zero (suc (suc zero)) la lb = refl
tasks_with zero (suc (suc (suc zero))) la lb = refl
tasks_with zero (suc (suc (suc (suc b)))) la lb = absurd (omega (arith, lb))
tasks_with (suc zero) zero la lb = refl
tasks_with (suc zero) (suc zero) la lb = refl
tasks_with (suc zero) (suc (suc zero)) la lb = refl
tasks_with (suc zero) (suc (suc (suc zero))) la lb = refl
tasks_with (suc zero) (suc (suc (suc (suc b)))) la lb = absurd (omega (arith, lb))
tasks_with (suc (suc zero)) zero la lb = refl
tasks_with (suc (suc zero)) (suc zero) la lb = refl
tasks_with (suc (suc zero)) (suc (suc zero)) la lb = refl
tasks_with (suc (suc zero)) (suc (suc (suc zero))) la lb = refl
tasks_with (suc (suc zero)) (suc (suc (suc (suc b)))) la lb = absurd (omega (arith, lb))
tasks_with (suc (suc (suc a))) b la lb = absurd (omega (arith, la))

pub tasks_are : (number : ℕ) → tasks_of (generated number) ≡ schedulers_of number + workers_of number
tasks_are number = tasks_with (number % 3) (number / 3 % 4) (omega arith) (omega arith)
