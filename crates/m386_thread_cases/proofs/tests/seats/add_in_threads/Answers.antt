use Rattle.std.proofs.Common.{◌≡◌, ◌<◌, ℕ, length, rules, sym, ◌∙◌, vec_len, arith, get_or}
use Rattle.m386_arbiter.specs.declared.seats.BusSeat.{BusSeat}
use Rattle.m386_arbiter.specs.Ends.{IsOf}
use Rattle.m386_arbiter.proofs.Gathering.{same_seats}
use Rattle.m386_thread_cases.proofs.tests.seats.add_in_threads.Goals as goal

pub returns : goal.returns
returns g c =
    let e = c.in_ok-done.ensures in
    let new : vec_len c.in_ok-done.done ≡ length c.in_ok-done.done.items = search rules in
    let old : vec_len c.args.seats ≡ length c.args.seats.items = search rules in
    let l : length c.in_ok-done.done.items ≡ length c.args.seats.items = sym new ∙ e.len ∙ old in
    let each : (i : ℕ) (d : BusSeat) → i < length c.args.seats.items → IsOf (get_or c.args.seats.items i d) (get_or c.in_ok-done.done.items i d) = λ i d b. let b' : i < vec_len c.args.seats = omega arith in e.each i d b' in
    (l, same_seats _ 0 c.args.seats.items c.in_ok-done.done.items c.requires l each)
