-- An answer is the text's layout, and no other.
use Rattle.std.proofs.Common.{◌≡◌, ℕ, List, refl, sym, ◌∙◌, subst}
use Rattle.std.specs.Prelude.{IfOk, Result, Ok, Err, Vec}
use Rattle.std.specs.declared.alloc.Global.{Global}
use Rattle.m386_lines.specs.declared.kind.AsmKind.{AsmKind}
use Rattle.m386_asm.specs.declared.stop.AsmStop.{AsmStop}
use Rattle.m386_asm.specs.declared.stop.AsmStop.TheVariants.{Memory, Bad}
use Rattle.m386_asm.specs.Answered.{IsAnswer}
use Rattle.m386_asm.specs.Layout.{Layout}
use Rattle.m386_asm.proofs.Unique.{lays_out_once}

pub answer_once : (text : List ℕ) (answer : Result (Vec ℕ Global) AsmStop) (layout : Result (List ℕ) (ℕ × AsmKind)) → ((bytes : Vec ℕ Global) → answer ≡ Ok bytes → Layout text (Ok bytes.items)) →
    ((line : ℕ) (kind : AsmKind) → answer ≡ Err (Bad line kind) → Layout text (Err (line, kind))) → Layout text layout → IsAnswer answer layout
answer_once text (Ok bytes) layout ok bad p = lays_out_once text layout (Ok bytes.items) p (ok bytes refl)
answer_once text (Err Memory) layout ok bad p = tt
answer_once text (Err (Bad line kind)) layout ok bad p = lays_out_once text layout (Err (line, kind)) p (bad line kind refl)

pub stopped : {A : Type 0} (stop : AsmStop) (number : ℕ) (kind : AsmKind) → ◌≡◌ {A = Result A AsmStop} (Err stop) (Err (Bad number kind)) → stop ≡ Bad number kind
stopped stop number kind h = cc

apart : {A : Type 0} (number : ℕ) (kind : AsmKind) → ◌≡◌ {A = Result A AsmStop} (Err Memory) (Err (Bad number kind)) → ⊥
apart number kind g = cc

pub memory_not : {A : Type 0} {P : Type 0} (number : ℕ) (kind : AsmKind) (answer : Result A AsmStop) → answer ≡ Err Memory → answer ≡ Err (Bad number kind) → P
memory_not {A = A} number kind answer e h = absurd (apart {A = A} number kind (sym e ∙ h))

-- no memory is an answer to each text
pub memory_answers : (answer : Result (Vec ℕ Global) AsmStop) (layout : Result (List ℕ) (ℕ × AsmKind)) → answer ≡ Err Memory → IsAnswer answer layout
memory_answers answer layout e = subst (λ a. IsAnswer a layout) (sym e) tt

-- what stops a walk stops the whole
pub stop_answers : (text : List ℕ) (answer : Result (Vec ℕ Global) AsmStop) (stop : AsmStop) (layout : Result (List ℕ) (ℕ × AsmKind)) → answer ≡ Err stop → ((line : ℕ) (kind : AsmKind) → stop ≡ Bad line kind → Layout text (Err (line, kind))) →
    Layout text layout → IsAnswer answer layout
stop_answers text answer stop layout e bad p =
    answer_once text answer layout (λ bytes h. absurd (mixed stop bytes (sym e ∙ h))) (λ line kind h. bad line kind (stopped stop line kind (sym e ∙ h))) p
  where
    mixed : (stop : AsmStop) (bytes : Vec ℕ Global) → ◌≡◌ {A = Result (Vec ℕ Global) AsmStop} (Err stop) (Ok bytes) → ⊥
    mixed stop bytes g = cc

pub when_ok : {T E : Type 0} {P : T → Type 0} (r : Result T E) → ((x : T) → r ≡ Ok x → P x) → IfOk r P
when_ok (Ok x) h = h x refl
when_ok (Err e) h = tt

pub from_ok : {T E : Type 0} (P : T → Type 0) (r : Result T E) (x : T) → IfOk r P → r ≡ Ok x → P x
from_ok P r x p e = subst (λ s. IfOk s P) e p
