use Rattle.std.proofs.Common.{rules, ◌≡◌, Bool, true, false, cond, refl, subst}
use Rattle.std.specs.Prelude.{Option, Some, None, is_some, if◌then◌else◌}
use Rattle.std.proofs.lemmas.Map.Text.{btree_map_updates_str}
use Rattle.std.proofs.lemmas.Slice.Eq.{bytes_eq-Decides}
use Rattle.m386_words.specs.Words.{same_word}
use Rattle.m386_asm.specs.declared.named.Named.{Named}
use Rattle.m386_asm.specs.Knows.{found}
use Rattle.m386_asm.proofs.value.Names.define.Goals as goal

-- what is there stays, and the word that is put in wasn't there
kept : (old new : Option Named) (same : Bool) (n : Named) → (same ≡ true → old ≡ None) → new ≡ cond same (Some n) old → new ≡ (if is_some old then old else if same then Some n else old)
kept None new same n absent e = e
kept (Some m) new true n absent e = (let h : Some m ≡ None = absent refl in cc)
kept (Some m) new false n absent e = e

pub returns-in_ok-insert : goal.returns-in_ok-insert
returns-in_ok-insert c =
    let word = c.args.word.now in
    let absent : found c.args.self.now word ≡ None = search rules in
    λ w. kept (found c.args.self.now w) _ (same_word word w) c.args.named
    (λ t. subst (λ v. found c.args.self.now v ≡ None) ((bytes_eq-Decides word w).0 t) absent)
    (btree_map_updates_str word c.args.self.now.map c.insert.new.self _ c.in_ok-insert.ensures.updates w)
