use Rattle.std.proofs.Common.{◌≡◌, ℕ, true, false, List, [], ◌∷◌, ◌++◌, sym, ◌∙◌, subst}
use Rattle.m386_lines.specs.Seen.{statement_seen}
use Rattle.m386_asm.specs.Drafts.{IsDraft}
use Rattle.m386_asm.specs.Layout.{Makes}
use Rattle.m386_asm.specs.declared.walk.Walk.{Walk}
use Rattle.m386_asm.proofs.judge.pass.Goals as goal
use Rattle.m386_asm.proofs.judge.pass.Goals.{then-walk+in_ok-take, else-walk}

pub returns-clause-draft : goal.returns-clause-draft
returns-clause-draft c = elim c.if-walk.branch [
  | then-walk+in_ok-take w ↦ λ makes ns ls knows draft meaning same text.
      subst (λ (x : Walk). (bytes : List ℕ) × Makes ns c.args.walk.now.place (statement_seen c.args.statement.now) bytes × IsDraft ns (ls ++ record { text = text; meaning = meaning; bytes = bytes } ∷ []) x.draft) (sym w.walk-is)
      (w.in_ok-take.ensures ns ls knows draft meaning same text)
  | else-walk w ↦ λ makes. absurd (let both : true ≡ false = sym makes ∙ w.if-walk.false in cc)
]
