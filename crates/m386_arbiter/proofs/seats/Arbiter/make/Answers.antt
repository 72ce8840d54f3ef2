use Rattle.std.proofs.Common.{rules, sym, ap}
use Rattle.m386_arbiter.proofs.Closing.{begins_as}
use Rattle.m386_arbiter.proofs.seats.Arbiter.make.Goals as goal

pub new-requires : goal.new-requires
new-requires c =
    begins_as (record { count = c.from.result; first = c.of.result }) c.args.first c.args.cpus c.new-slots.result.items c.push.new.self.items c.new-slots.ensures.items c.in_ok-push.ensures.items (search rules) c.requires.cpus.0 c.requires.cpus.1 c.requires.empty (sym (ap (λ r. r.first) c.of.ensures))
