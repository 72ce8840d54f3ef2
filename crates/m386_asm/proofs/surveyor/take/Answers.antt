use Rattle.std.proofs.Common.{◌+◌, refl, sym, ◌∙◌, ap}
use Rattle.m386_lines.specs.Lines.{Meaning}
use Rattle.m386_lines.specs.Seen.{meaning_seen}
use Rattle.m386_asm.specs.Knows.{found}
use Rattle.m386_asm.specs.Layout.{cpus_set, memory_set}
use Rattle.m386_asm.specs.Surveys.{given_by, seen_at}
use Rattle.m386_asm.proofs.Surveyed.{defined_behind, made_at, value_behind, walk_behind}
use Rattle.m386_asm.proofs.surveyor.take.Goals as goal

pub returns-clause-behind : goal.returns-clause-behind
returns-clause-behind c = λ ns before l e laid at.
    let m = meaning_seen c.args.meaning.now in
    let len = c.line_len-len.ensures.length ns l.text l.bytes (ap (λ (x : Meaning). x.statement) (sym (e ∙ laid.meaning))) (made_at ns before l c.args.walk.now.place m e laid at.place) in
    walk_behind before l c.args.walk.now _ m e at refl (c.moved-walk.ensures.moved l (ap (λ (x : Meaning). x.statement) (sym e)) len)
    (λ w. defined_behind (seen_at (found c.args.walk.now.names w)) (seen_at (found c.name_place.new.names w)) (seen_at (found c.name_number.new.names w)) c.args.walk.now.place m (c.args.walk.now.lines + 1) w
    (c.in_ok-name_place.ensures w) (c.in_ok-name_number.ensures w))
    (value_behind c.args.walk.now.memory c.memory_in.result c.or-walk.result (given_by memory_set m.statement) c.or-walk.ensures c.memory_in.ensures)
    (value_behind c.args.walk.now.cpus c.cpus_in.result c.or-walk-2.result (given_by cpus_set m.statement) c.or-walk-2.ensures c.cpus_in.ensures)
