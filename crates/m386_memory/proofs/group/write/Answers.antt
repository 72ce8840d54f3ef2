use Rattle.std.proofs.Common.{◌+◌, ◌/◌, ◌%◌, ◌^◌, false, bit_and, refl, sym, add-zero, ap, ◌∙◌, div-one}
use Rattle.std.proofs.lemmas.Nat.{and_mask}
use Rattle.m386_base.specs.declared.ask.Ask.{Ask}
use Rattle.m386_base.specs.declared.ask.Role.TheVariants as roles
use Rattle.m386_base.specs.declared.ask.Space.TheVariants as spaces
use Rattle.m386_memory.proofs.Groups.{put_one, put_all}
use Rattle.m386_memory.proofs.group.write.Goals as goal

pub returns : goal.returns
returns c =
    let a : Ask = record { space = spaces.Memory; write = false; joined = false; role = roles.Fetch; part = 0; addr = c.args.addr; enables = c.args.enables; value = c.args.value } in
    put_all c.args.bytes.now c.put.new.bytes c.put-2.new.bytes c.put-3.new.bytes c.put-4.new.bytes a (put_one _ _ a 3 (c.args.addr + 3) (bit_and (c.args.value / 2 ^ 24) 255) _ refl refl (and_mask (c.args.value / 2 ^ 24) 8) c.put.ensures) (put_one _ _ a 2 (c.args.addr + 2) (bit_and (c.args.value / 2 ^ 16) 255) _ refl refl (and_mask (c.args.value / 2 ^ 16) 8) c.put-2.ensures) (put_one _ _ a 1 (c.args.addr + 1) (bit_and (c.args.value / 2 ^ 8) 255) _ refl refl (and_mask (c.args.value / 2 ^ 8) 8) c.put-3.ensures) (put_one _ _ a 0 c.args.addr (bit_and c.args.value 255) _ refl (sym (add-zero c.args.addr)) (and_mask c.args.value 8 ∙ sym (ap (λ n. n % 256) (div-one c.args.value))) c.put-4.ensures)
