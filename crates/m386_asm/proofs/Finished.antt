-- Behind the last line stands the image, or a header is missing.
use Rattle.std.proofs.Common.{◌≡◌, ℕ, ◌+◌, ◌%◌, ◌^◌, true, false, List, [], length, sym, ◌∙◌, ap, subst}
use Rattle.std.specs.Prelude.{is_some}
use Rattle.m386_image.specs.declared.image.Image.{Image}
use Rattle.m386_image.specs.Format.{image_text}
use Rattle.m386_lines.specs.declared.kind.AsmKind.{AsmKind}
use Rattle.m386_lines.specs.declared.kind.AsmKind.TheVariants as kinds
use Rattle.m386_asm.specs.declared.stop.AsmStop.TheVariants.{Bad}
use Rattle.m386_asm.specs.declared.survey.Survey.{Survey}
use Rattle.m386_asm.specs.declared.walk.Walk.{Walk}
use Rattle.m386_asm.specs.Drafts.{IsDraft}
use Rattle.m386_asm.specs.Layout.{Laid, names_of, memory_of, cpus_of, number_in, EachLine, IsFaultless, IsFirstFault, at_end, image_of, lacks_header}
use Rattle.m386_asm.specs.Surveys.{IsSurveyOf}
use Rattle.m386_asm.specs.Turns.{IsWalk}
use Rattle.m386_asm.proofs.Headed.{IsHeadedBy, headed_by, lacks_memory, lacks_cpus}

at_last : (ls : List Laid) (n number : ℕ) (kind : AsmKind) → EachLine (IsFaultless ls) [] ls → lacks_header ls ≡ true → n ≡ length ls → Bad (n + 1) kinds.HeaderMissing ≡ Bad number kind → IsFirstFault ls number kind
at_last ls n number kind p h e b =
    let line : n + 1 ≡ number = cc in
    let is : kinds.HeaderMissing ≡ kind = cc in
    subst (λ k. IsFirstFault ls number k) is (subst (λ m. IsFirstFault ls m kinds.HeaderMissing) (sym (ap (λ m. m + 1) e) ∙ line) (at_end p h))

pub no_memory : (ls : List Laid) (survey : Survey) (walk : Walk) (number : ℕ) (kind : AsmKind) → IsSurveyOf ls survey → EachLine (IsFaultless ls) [] ls → IsWalk ls ls walk → is_some survey.memory ≡ false →
    Bad (walk.lines + 1) kinds.HeaderMissing ≡ Bad number kind → IsFirstFault ls number kind
no_memory ls survey walk number kind s p w h b = at_last ls walk.lines number kind p (lacks_memory ls p (ap is_some (sym s.memory) ∙ h)) w.lines b

pub no_cpus : (ls : List Laid) (survey : Survey) (walk : Walk) (number : ℕ) (kind : AsmKind) → IsSurveyOf ls survey → EachLine (IsFaultless ls) [] ls → IsWalk ls ls walk → is_some survey.cpus ≡ false →
    Bad (walk.lines + 1) kinds.HeaderMissing ≡ Bad number kind → IsFirstFault ls number kind
no_cpus ls survey walk number kind s p w h b = at_last ls walk.lines number kind p (lacks_cpus ls p (ap is_some (sym s.cpus) ∙ h)) w.lines b

pub whole : (ls : List Laid) (survey : Survey) (walk : Walk) (memory cpus : ℕ) (image : Image) → IsSurveyOf ls survey → EachLine (IsFaultless ls) [] ls → IsWalk ls ls walk → is_some survey.memory ≡ true → is_some survey.cpus ≡ true →
    memory ≡ number_in survey.memory → cpus ≡ number_in survey.cpus % 2 ^ 8 →
    ((ms : List Laid) → IsDraft (names_of ms) ms walk.draft → number_in (memory_of ms) ≡ memory → number_in (cpus_of ms) ≡ cpus → image ≡ image_of ms) →
    (lacks_header ls ≡ false) × (image_text image ≡ image_text (image_of ls))
whole ls survey walk memory cpus image s p w m c x y go =
    let headed : IsHeadedBy ls = headed_by ls p (ap is_some (sym s.memory) ∙ m) (ap is_some (sym s.cpus) ∙ c) in
    let draft : IsDraft (names_of ls) ls walk.draft = w.draft (w.makes ∙ headed.size) in
    let count : number_in (cpus_of ls) ≡ cpus = sym headed.count ∙ ap (λ v. number_in v % 2 ^ 8) (sym s.cpus) ∙ sym y in
    (headed.all, ap image_text (go ls draft (ap number_in (sym s.memory) ∙ sym x) count))
