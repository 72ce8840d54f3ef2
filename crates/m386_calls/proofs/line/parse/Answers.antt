use Rattle.std.proofs.Common.{true, ◌&&◌, Bool, ◌≡◌, refl, false}
use Rattle.clap.specs.Faults.{is_free_app}
use Rattle.clap.specs.Simple.{app_of, built, is_simple}
use Rattle.m386_calls.proofs.Lines.{simple_of}
use Rattle.m386_calls.proofs.line.parse.Goals as goal

pub returns-in-Ok : goal.returns-in-Ok
returns-in-Ok c = (c.in-Ok.ensures.kinds c.requires, (c.in-Ok.ensures.matches (simple_of (app_of c.args.line) c.requires)).0)
