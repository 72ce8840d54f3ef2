-- What the verdict's rules give: of a valid image that keeps the rules 1 to 4, and of a cycle that keeps the rules 6 to 9.
use Rattle.std.proofs.Common.{arith, ◌≡◌, ℕ, ◌+◌, ◌*◌, ◌/◌, ◌%◌, ◌^◌, ◌<◌, ◌≤◌, ◌==◌, ◌∙◌, ◌⊎◌, inl, inr, refl, sym, ap, subst, Bool, true, false, ◌||◌, Option, Some, None, List, [], ◌∷◌, length, get_or, eq-eqb}
use Rattle.std.proofs.lemmas.Bool.{cases_lt, lt-ltb, and_from}
use Rattle.std.proofs.lemmas.List.{get_or_default, get_or_past}
use Rattle.m386_base.specs.declared.ask.Cycle.{Cycle}
use Rattle.m386_base.specs.declared.ask.Role.{Role}
use Rattle.m386_base.specs.declared.ask.Role.TheVariants as roles
use Rattle.m386_base.specs.declared.ask.Space.{Space}
use Rattle.m386_base.specs.declared.ask.Space.TheVariants as spaces
use Rattle.m386_base.specs.Bytes.{Has, bytes_of, bytes_in}
use Rattle.m386_book.specs.Book.{Book, IsLive, book_after}
use Rattle.m386_book.specs.Rules.{FailsAt, IsFreeWrite}
use Rattle.m386_book.specs.Tss.{IsTss, IsOfTss, descriptor_byte, is_tss_access, tss_base}
use Rattle.m386_book.specs.Verdict.{AreClean, NoneStatic}
use Rattle.m386_image.specs.declared.image.TableAt.{TableAt}
use Rattle.m386_image.specs.Format.{IsValid}
use Rattle.m386_image.specs.Memory.{byte_of_image}
use Rattle.m386_image.proofs.Numbers.{u16_at_lt}
use Rattle.m386_image.proofs.Valid.{valid_memory}
use Rattle.m386_memory.specs.Contents.{Contents, byte_in, holds_byte}
use Rattle.m386_access.specs.Ordinary.{desc_byte}
use Rattle.m386_stages.specs.Stages.{is_lgdt, is_store, segment_byte}
use Rattle.m386_exclusion.specs.Table.{InGdt, IsTssByte, image_base}
use Rattle.m386_exclusion.specs.World.{Setting, IsTask, IsClean, IsTidy, gdt_reg, seg}
use Rattle.m386_exclusion.specs.Histories.{BeginsAs, AreJudged}
use Rattle.m386_exclusion.proofs.Bytes.{image_byte}
use Rattle.m386_exclusion.proofs.Places.{task_some, task_limit, task_number, base_number}

-- ---- the image

-- what the image's rules say of its parts
pub record Parts (I : Setting) : Type 0 where
  pub valid : IsValid I.image
  pub begins : BeginsAs I
  pub kept : NoneStatic I.image

most : (I : Setting) → Parts I → I.image.memory ≤ 2 ^ 24
most I k = let m = valid_memory I.image k.valid in omega (arith, m.1)

limit_below : (I : Setting) → Parts I → I.image.gdt.limit < 2 ^ 16
limit_below I k = subst (λ (t : TableAt). t.limit < 2 ^ 16) (sym k.valid.1.gdt) (u16_at_lt 16 k.valid.0 k.valid.1.are_bytes)

table_inside : (I : Setting) → Parts I → I.image.gdt.base + I.image.gdt.limit < I.image.memory
table_inside I k = elim (cases_lt (I.image.gdt.base + I.image.gdt.limit) I.image.memory) [
  | inl lt ↦ lt
  | inr le ↦ absurd (k.kept 1 (inl (refl, le)))
]

small_bytes : (I : Setting) (a : ℕ) → Parts I → byte_in I.first spaces.Memory a < 256
small_bytes I a k = elim (cases_lt a (length I.first.memory)) [
  | inl lt ↦
      (let size = k.begins.size in
      let is : get_or I.first.memory a 255 ≡ byte_of_image I.image a = get_or_default I.first.memory a 255 0 lt ∙ k.begins.bytes a (omega (arith, size, lt)) in
      subst (λ b. b < 256) (sym is) (image_byte I.image a k.valid))
  | inr le ↦ subst (λ b. b < 256) (sym (get_or_past I.first.memory a 255 le)) (omega arith)
]

-- the place of byte k of a descriptor
desc_place : (b m l x k : ℕ) → b + l < m → m ≤ 2 ^ 24 → x * 8 + 7 ≤ l → k < 8 → ((b + x * 8 / 8 * 8) % 2 ^ 32 + k) % 2 ^ 32 ≡ b + (x * 8 + k)
desc_place b m l x k i s h lt = omega (arith, i, s, h, lt)

desc_in : (b m l x k : ℕ) → b + l < m → x * 8 + 7 ≤ l → k < 8 → b + (x * 8 + k) < m
desc_in b m l x k i h lt = omega (arith, i, h, lt)

byte_at : (I : Setting) (x k : ℕ) → Parts I → x * 8 + 7 ≤ I.image.gdt.limit → k < 8 → byte_in I.first spaces.Memory (desc_byte (gdt_reg I) (x * 8) k) ≡ descriptor_byte I.image x k
unfolding descriptor_byte
byte_at I x k p h lt =
    let i = table_inside I p in
    let inside : I.image.gdt.base + (x * 8 + k) < I.image.memory = desc_in I.image.gdt.base I.image.memory I.image.gdt.limit x k i h lt in
    let size = p.begins.size in
    ap (byte_in I.first spaces.Memory) (desc_place I.image.gdt.base I.image.memory I.image.gdt.limit x k i (most I p) h lt)
    ∙ get_or_default I.first.memory (I.image.gdt.base + (x * 8 + k)) 255 0 (omega (arith, size, inside))
    ∙ p.begins.bytes (I.image.gdt.base + (x * 8 + k)) inside

nine : (b : ℕ) → b / 2 ^ 4 % 2 ≡ 0 → b / 2 ^ 2 % 4 ≡ 2 → b % 2 ≡ 1 → (b % 2 ^ 5 ≡ 9) ⊎ (b % 2 ^ 5 ≡ 11)
nine b s t e = elim (half (b / 2)) [ inl z ↦ inl (omega (arith, s, t, e, z)) | inr o ↦ inr (omega (arith, s, t, e, o)) ]
  where
    half : (n : ℕ) → (n % 2 ≡ 0) ⊎ (n % 2 ≡ 1)
    half n = grind arith

either_test : (a b : Bool) → (a ≡ true) ⊎ (b ≡ true) → a || b ≡ true
either_test true b h = refl
either_test false true h = refl
either_test false false (inl h) = h
either_test false false (inr h) = h

tss_access : (b : ℕ) → b < 256 → IsTssByte b → is_tss_access b ≡ true
tss_access b small t =
    let p : b / 2 ^ 7 ≡ 1 = (let q = t.0 in omega (arith, q, small)) in
    and_from (b / 2 ^ 7 == 1) ((b % 2 ^ 5 == 9) || (b % 2 ^ 5 == 11)) (eq-eqb (b / 2 ^ 7) 1 p) (either_test (b % 2 ^ 5 == 9) (b % 2 ^ 5 == 11) (elim (nine b t.1 t.2 t.3) [
      | inl n ↦ inl (eq-eqb (b % 2 ^ 5) 9 n)
      | inr e ↦ inr (eq-eqb (b % 2 ^ 5) 11 e)
    ]))

-- a task is a TSS of the image
is_tss : (I : Setting) (x : ℕ) → Parts I → IsTask I x → IsTss I.image x
is_tss I x k h =
    let l = task_limit I x h in
    let e = byte_at I x 5 k l (omega arith) in
    record { within = (task_some I x h, l); access = tss_access (descriptor_byte I.image x 5) (subst (λ b. b < 256) e (small_bytes I _ k)) (subst IsTssByte e h.1) }

bases : (I : Setting) (x : ℕ) → Parts I → IsTask I x → image_base I.first (gdt_reg I) (x * 8) ≡ tss_base I.image x
bases I x k h =
    let l = task_limit I x h in
    let at : (j : ℕ) → j < 8 → byte_in I.first spaces.Memory (desc_byte (gdt_reg I) (x * 8) j) ≡ descriptor_byte I.image x j = λ j lt. byte_at I x j k l lt in
    let a2 = at 2 (omega arith) in
    let a3 = at 3 (omega arith) in
    let a4 = at 4 (omega arith) in
    let a7 = at 7 (omega arith) in
    λ i. a2 i + a3 i * 2 ^ 8 + a4 i * 2 ^ 16 + a7 i * 2 ^ 24

segment_inside : (I : Setting) (x : ℕ) → Parts I → IsTask I x → tss_base I.image x + 104 ≤ I.image.memory
segment_inside I x k h = elim (cases_lt I.image.memory (tss_base I.image x + 104)) [
  | inl lt ↦ absurd (k.kept 2 (inr (inl (refl, (x, is_tss I x k h, lt)))))
  | inr le ↦ le
]

seg_unwrapped : (b m j : ℕ) → b + 104 ≤ m → m ≤ 2 ^ 24 → j < 104 → (b + j) % 2 ^ 32 ≡ b + j
seg_unwrapped b m j i s lt = omega (arith, i, s, lt)

seg_place : (I : Setting) (x j : ℕ) → Parts I → IsTask I x → j < 104 → seg I x j ≡ tss_base I.image x + j
unfolding seg
seg_place I x j k h lt = ap (λ b. segment_byte b j) (bases I x k h) ∙ seg_unwrapped (tss_base I.image x) I.image.memory j (segment_inside I x k h) (most I k) lt

-- each byte of a task's segment is of its TSS
of_tss : (I : Setting) (x j a : ℕ) → Parts I → IsTask I x → j < 104 → a ≡ seg I x j → IsOfTss I.image x a
of_tss I x j a k h lt e =
    let f : a ≡ tss_base I.image x + j = e ∙ seg_place I x j k h lt in
    record { tss = is_tss I x k h; at = record { from = omega (arith, f); before = omega (arith, f, lt) } }

holds : (c : Contents) (a : ℕ) → a < length c.memory → holds_byte c spaces.Memory a ≡ true
holds c a lt = lt-ltb a (length c.memory) lt

apart_from_table : (I : Setting) (x j a : ℕ) → Parts I → IsTask I x → j < 104 → a ≡ seg I x j → InGdt (gdt_reg I) a → ⊥
apart_from_table I x j a k h lt e i = k.kept 3 (inr (inr (inl (refl, (x, a, of_tss I x j a k h lt e, record { from = i.0; upto = i.1 })))))

apart_from_each : (I : Setting) (x y j l : ℕ) → Parts I → x < y → IsTask I x → IsTask I y → j < 104 → l < 104 → seg I x j ≡ seg I y l → ⊥
apart_from_each I x y j l k lt hx hy hj hl e = k.kept 4 (inr (inr (inr (inl (refl, (x, y, seg I x j, lt, of_tss I x j (seg I x j) k hx hj refl, of_tss I y l (seg I x j) k hy hl e))))))

pub tidy_of : (I : Setting) → IsValid I.image → BeginsAs I → NoneStatic I.image → IsTidy I
unfolding seg
tidy_of I v b none =
    let k : Parts I = record { valid = v; begins = b; kept = none } in
    let i = table_inside I k in
    let m = most I k in
    let size = b.size in
    record {
      table = record {
        small = λ a. small_bytes I a k;
        fits = omega (arith, i, m);
        apart = λ s j h lt g.
            let same : segment_byte (image_base I.first (gdt_reg I) s) j ≡ seg I (s / 8) j = ap (λ z. segment_byte z j) (base_number I.first (gdt_reg I) s) in
            apart_from_table I (s / 8) j _ k (task_number I s h) lt same g;
      };
      limit = limit_below I k;
      inside = λ a h. (let u : a ≤ I.image.gdt.base + I.image.gdt.limit = h.1 in holds I.first a (omega (arith, size, i, u)));
      segments = λ x j h lt. (let p = seg_place I x j k h lt in let s = segment_inside I x k h in holds I.first (seg I x j) (omega (arith, size, p, s, lt)));
      separate = λ x y j l hx hy hj hl e. elim (cases_lt x y) [
        | inl lt ↦ absurd (apart_from_each I x y j l k lt hx hy hj hl e)
        | inr le ↦ elim (cases_lt y x) [
          | inl lt ↦ absurd (apart_from_each I y x l j k lt hy hx hl hj (sym e))
          | inr ge ↦ omega (arith, le, ge)
        ]
      ];
    }

-- ---- a cycle

lgdt_test : (r : Role) → (r ≡ roles.Lgdt → ⊥) → is_lgdt r ≡ false
lgdt_test roles.Lgdt n = absurd (n refl)
lgdt_test _ n = refl

free_write : (r : Role) → is_store r ≡ true → IsFreeWrite r
free_write roles.Operand h = inl refl
free_write roles.Push h = inr (inl refl)
free_write roles.LdtAcc h = inr (inr refl)
free_write _ h = absurd cc

heard_bytes : (s : Space) (bs : List (ℕ × ℕ)) (a b : ℕ) → Has (bytes_in s bs) a b → (s ≡ spaces.Memory) × Has bs a b
heard_bytes spaces.Memory bs a b h = (refl, h)
heard_bytes spaces.Port bs a b h = absurd h

live_or_not : (b : Book) (o : Option ℕ) → IsLive b o ⊎ (IsLive b o → ⊥)
live_or_not b None = inr (λ h. h)
live_or_not b (Some t) = go (b.live t) refl
  where
    go : (l : Bool) → b.live t ≡ l → (b.live t ≡ true) ⊎ (b.live t ≡ true → ⊥)
    go true e = inl e
    go false e = inr (λ h. (let f : true ≡ false = sym h ∙ e in cc))

pub clean_of : (I : Setting) (x : Cycle) (b : Book) → IsValid I.image → BeginsAs I → NoneStatic I.image → ((rule : ℕ) → ¬ FailsAt I.image b x rule) → IsClean I x.cpu b x.ask
clean_of I x b v begins none clean =
    let k : Parts I = record { valid = v; begins = begins; kept = none } in
    record {
      lgdt = lgdt_test x.ask.role (λ e. clean 6 (inl (refl, e)));
      table = λ w r a i c h. (let m = heard_bytes x.ask.space (bytes_of x.ask) a c h in clean 7 (inr (inl (refl, record { write = w; space = m.0; role = free_write x.ask.role r; touches = (a, c, m.1, inl (record { from = i.0; upto = i.1 })) }))));
      segments = λ w r t j ht lt c h. (let m = heard_bytes x.ask.space (bytes_of x.ask) (seg I t j) c h in clean 7 (inr (inl (refl, record { write = w; space = m.0; role = free_write x.ask.role r; touches = (seg I t j, c, m.1, inr (t, of_tss I t j (seg I t j) k ht lt refl)) }))));
      flags = λ w r n. elim (live_or_not b (b.held x.cpu)) [
        | inl l ↦ l
        | inr d ↦ absurd (clean 8 (inr (inr (inl (refl, (record { role = r; read = w; set = n }, d))))))
      ];
      ltr = λ w r l. clean 9 (inr (inr (inr (refl, (record { role = r; write = w }, l)))));
    }

pub judged_of : (I : Setting) (older : List Cycle) → IsValid I.image → BeginsAs I → NoneStatic I.image → AreClean I.image older → AreJudged I older
unfolding AreClean AreJudged
judged_of I [] v b n c = tt
judged_of I (x ∷ older) v b n c = (clean_of I x (book_after I.image older) v b n c.0, judged_of I older v b n c.1)
