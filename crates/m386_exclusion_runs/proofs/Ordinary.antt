-- What an operation asks that owes the law of ordinary ones is a turn from one stage to another.
use Rattle.std.proofs.Common.{◌≡◌, ℕ, zero, suc, ◌==◌, ◌&&◌, ◌||◌, ◌++◌, ◌∙◌, refl, sym, ap, subst, List, [], ◌∷◌, Bool, true, false, cond, if◌then◌else◌, inl, inr}
use Rattle.std.proofs.lemmas.Bool.{and_left, and_parts}
use Rattle.m386_base.specs.declared.ask.Ask.{Ask}
use Rattle.m386_base.specs.declared.ask.Role.{Role}
use Rattle.m386_base.specs.declared.ask.Role.TheVariants as roles
use Rattle.m386_base.specs.declared.fault.Fault.{Fault}
use Rattle.m386_base.specs.Bus.{cycle_of}
use Rattle.m386_base.specs.Bytes.{Has, heard, has_nt}
use Rattle.m386_base.specs.Laws.{Turns}
use Rattle.m386_base.specs.Phrase.{Phrase, Done, Faults, Asks, Begins, ◌>>=◌, either, role_number}
use Rattle.m386_base.specs.Plain.{Plain}
use Rattle.m386_access.specs.Ordinary.{Ordinary, Reads, Writes, Accesses, Keeps, WasRead, has_role, is_write_role, popped}
use Rattle.m386_state.specs.declared.proc.Proc.{Proc}
use Rattle.m386_state.specs.declared.segment.TableReg.{TableReg}
use Rattle.m386_stages.specs.Stages.{Stage, Phase, Free, Turn, Hears, Stores, Touches, Pops_set, EndsIn, MayNest, hears, shut, is_lgdt, is_store, on, task_of}
use Rattle.m386_stages.proofs.Chains.{has_left, has_right}
use Rattle.m386_exclusion.specs.Histories.{Stands}

-- what cycles have read in the locked group that is open is in the stage's group
abbrev pub IsGrouped : List Ask → Stage → Type 0
IsGrouped ts g = (a b : ℕ) → WasRead ts a b → Has g.group a b

-- Where an operation that began in p stands behind its ordinary cycles ts, the newest first: TR is its task, and NT may be set where it
-- was or was popped.
pub record Behind (p : Proc) (ts : List Ask) (g : Stage) : Type 0 where
  pub nt : Bool
  pub phase : g.phase ≡ Free (task_of p.tr) nt
  pub nested : MayNest p nt
  pub popped : popped ts ≡ true → nt ≡ true
  pub group : IsGrouped ts g
  pub lgdt : has_role roles.Lgdt ts ≡ true → g.lgdt ≡ true

-- the old state stands where its stage says
abbrev pub StandsBefore : Proc → Stage → Fault → Type 0
StandsBefore p g fault = EndsIn p g.phase

-- no cycle was made yet
pub behind_none : (p : Proc) (nt : Bool) (g : Stage) → g.phase ≡ Free (task_of p.tr) nt → MayNest p nt → Behind p [] g
behind_none p nt g e m = record { nt = nt; phase = e; nested = m; popped = λ h. (let c : false ≡ true = h in absurd cc); group = λ a b h. absurd h; lgdt = λ h. (let c : false ≡ true = h in absurd cc) }

pub before_stands : (p : Proc) (ts : List Ask) (g : Stage) → Behind p ts g → EndsIn p g.phase
before_stands p ts g h = subst (EndsIn p) (sym h.phase) (refl, h.nested)

-- ---- one cycle

is_flags : (role : Role) → (role_number role == role_number roles.Flags) ≡ true → role ≡ roles.Flags
is_flags roles.Flags e = refl
is_flags _ e = absurd cc

shows_lgdt : (role : Role) → (role_number role == role_number roles.Lgdt) ≡ is_lgdt role
shows_lgdt roles.Lgdt = refl
shows_lgdt _ = refl

write_stores : (role : Role) → is_write_role role ≡ true → is_store role ≡ true
write_stores roles.Operand e = refl
write_stores roles.Push e = refl
write_stores roles.LdtAcc e = refl
write_stores _ e = absurd cc

write_pops_none : (role : Role) → is_write_role role ≡ true → (role_number role == role_number roles.Flags) ≡ false
write_pops_none roles.Flags e = absurd cc
write_pops_none _ e = refl

write_loads_none : (role : Role) → is_write_role role ≡ true → (role_number role == role_number roles.Lgdt) ≡ false
write_loads_none roles.Lgdt e = absurd cc
write_loads_none _ e = refl

-- what is so of the newest cycle or of those before
or-past : (a b : Bool) → a ≡ false → a || b ≡ true → b ≡ true
or-past true b f h = absurd cc
or-past false b f h = h

or-same : (a b c d : Bool) → a ≡ c → (b ≡ true → d ≡ true) → a || b ≡ true → c || d ≡ true
or-same true b c d e f h = rw (← e) refl
or-same false b c d e f h = rw (← e) (f h)

never : {A : Type 0} (b : Bool) → b ≡ true → b ≡ false → A
never b t f = absurd (let k : true ≡ false = sym t ∙ f in cc)

-- a read goes on with a locked group where it is joined
heard_group : (b : Bool) (xs ys : List (ℕ × ℕ)) (x y : ℕ) → b ≡ true → Has ys x y → Has (xs ++ (if b then ys else [])) x y
heard_group true xs ys x y e h = has_right xs ys x y h
heard_group false xs ys x y e h = absurd cc

read_group : (ts : List Ask) (g : Stage) (c : Ask) → IsGrouped ts g → (a b : ℕ) → WasRead (c ∷ ts) a b → Has (heard c ++ (if c.joined then g.group else [])) a b
read_group ts g c h a b (w, inl x) = has_left (heard c) _ a b x
read_group ts g c h a b (w, inr x) = heard_group c.joined (heard c) g.group a b x.0 (h a b x.1)

read_lgdt : (p : Proc) (ts : List Ask) (g : Stage) (c : Ask) → Behind p ts g → has_role roles.Lgdt (c ∷ ts) ≡ true → is_lgdt c.role || g.lgdt ≡ true
read_lgdt p ts g c h x = or-same _ _ _ _ (shows_lgdt c.role) h.lgdt x

-- a cycle that was made leads on
abbrev Leads : Proc → List Ask → Stage → Ask → Type 0
Leads p ts g c = (g2 : Stage) × Turn p.gdtr g c g2 × Behind p (c ∷ ts) g2

read_leads : (p : Proc) (ts : List Ask) (g : Stage) (c : Ask) → Behind p ts g → c.write ≡ false → Leads p ts g c
read_leads p ts g c h w = go ((role_number c.role == role_number roles.Flags) && has_nt c) refl
  where
    go : (b : Bool) → ((role_number c.role == role_number roles.Flags) && has_nt c) ≡ b → Leads p ts g c
    go true e = (
      hears g c (Free (task_of p.tr) true),
      Pops_set (task_of p.tr) h.nt h.phase w (is_flags c.role (and_parts _ _ e).0) (and_parts (role_number c.role == role_number roles.Flags) _ e).1 refl,
      record { nt = true; phase = refl; nested = λ n. refl; popped = λ n. refl; group = read_group ts g c h.group; lgdt = read_lgdt p ts g c h },
    )
    go false e = (
      hears g c g.phase,
      Hears w refl,
      record { nt = h.nt; phase = h.phase; nested = h.nested; popped = λ n. h.popped (or-past _ _ e n); group = read_group ts g c h.group; lgdt = read_lgdt p ts g c h },
    )

-- behind a write, which pops no flags and loads no register
shut_behind : (p : Proc) (ts : List Ask) (g : Stage) (c : Ask) → Behind p ts g → c.write ≡ true → (role_number c.role == role_number roles.Flags) ≡ false → (role_number c.role == role_number roles.Lgdt) ≡ false → Behind p (c ∷ ts) (shut g g.phase)
shut_behind p ts g c h w f l = record {
  nt = h.nt;
  phase = h.phase;
  nested = h.nested;
  popped = λ n. h.popped (or-past _ _ (and_left _ (has_nt c) f) n);
  group = λ a b r. never c.write w r.0;
  lgdt = λ n. h.lgdt (or-past _ _ l n);
}

write_leads : (p : Proc) (ts : List Ask) (g : Stage) (c : Ask) → Behind p ts g → c.write ≡ true → is_write_role c.role ≡ true → Leads p ts g c
write_leads p ts g c h w r = (shut g g.phase, Stores w (write_stores c.role r) refl, shut_behind p ts g c h w (write_pops_none c.role r) (write_loads_none c.role r))

-- the cycle that an ask makes
written_as : (q : Ask) (v : ℕ) → q.write ≡ true → q ≡ cycle_of q v
unfolding cycle_of
written_as q v w = rw w refl

read_as : (q : Ask) (v : ℕ) → q.write ≡ false → record q { value = v } ≡ cycle_of q v
unfolding cycle_of
read_as q v w = rw w refl

-- An ordinary ask is a turn, whatever is answered.
pub ordinary_leads : (p : Proc) (ts : List Ask) (g : Stage) (q : Ask) (v : ℕ) → Behind p ts g → Ordinary p.gdtr ts q → Leads p ts g (cycle_of q v)
ordinary_leads p ts g q v h (Reads w r j) = subst (Leads p ts g) (read_as q v w) (read_leads p ts g (record q { value = v }) h w)
ordinary_leads p ts g q v h (Writes w r j) = subst (Leads p ts g) (written_as q v w) (write_leads p ts g q h w r)
ordinary_leads p ts g q v h (Accesses selector b n was s i) = subst (Leads p ts g) (written_as q v i.write) (
  shut g g.phase,
  Touches selector b n (h.group _ b was) s i refl,
  shut_behind p ts g q h i.write (ap (λ r. role_number r == role_number roles.Flags) i.role) (ap (λ r. role_number r == role_number roles.Lgdt) i.role),
)

-- ---- cycles after which the stage stands where it stood

-- a cycle that was made leads on in the same phase
abbrev Remains : TableReg → List Ask → Stage → Ask → Type 0
Remains gdt ts g c = (g2 : Stage) × Turn gdt g c g2 × (g2.phase ≡ g.phase) × IsGrouped (c ∷ ts) g2

remains_ordinary : (gdt : TableReg) (ts : List Ask) (g : Stage) (q : Ask) (v : ℕ) → IsGrouped ts g → Ordinary gdt ts q → Remains gdt ts g (cycle_of q v)
remains_ordinary gdt ts g q v h (Reads w r j) =
    let c : Ask = record q { value = v } in
    subst (Remains gdt ts g) (read_as q v w) (hears g c g.phase, Hears w refl, refl, read_group ts g c h)
remains_ordinary gdt ts g q v h (Writes w r j) =
    subst (Remains gdt ts g) (written_as q v w) (shut g g.phase, Stores w (write_stores q.role r) refl, refl, λ a b x. never q.write w x.0)
remains_ordinary gdt ts g q v h (Accesses selector b n was s i) =
    subst (Remains gdt ts g) (written_as q v i.write) (shut g g.phase, Touches selector b n (h _ b was) s i refl, refl, λ a b2 x. never q.write i.write x.0)

-- Behind a claim, too, each ordinary ask is a turn in the phase that stands.
pub remaining_turns : {A : Type 0} (n : ℕ) (gdt : TableReg) (ends : A → Type 0) (ph : Phase) (ts : List Ask) (g : Stage) (t : Phrase A) → g.phase ≡ ph → IsGrouped ts g → Plain n (Ordinary gdt) (λ us a. ends a) ts t → Turns (on gdt) (λ g2 a. (g2.phase ≡ ph) × ends a) (λ g2 f. g2.phase ≡ ph) g t
unfolding Plain Turns
remaining_turns n gdt ends ph ts g (Done a) e h k = (e, k)
remaining_turns n gdt ends ph ts g (Faults f) e h k = e
remaining_turns n gdt ends ph ts g (Begins m t) e h k = absurd k
remaining_turns zero gdt ends ph ts g (Asks q c) e h k = absurd k
remaining_turns (suc n) gdt ends ph ts g (Asks q c) e h k = λ v.
    let l = remains_ordinary gdt ts g q v h k.0 in
    (l.0, l.1, remaining_turns n gdt ends ph (cycle_of q v ∷ ts) l.0 (c v) (l.2 ∙ e) l.3 (k.1 v))

-- ---- whole operations

-- what is kept stands where the stage says
pub keeps_stands : (p : Proc) (ts : List Ask) (g : Stage) (after : Proc) → Behind p ts g → Keeps p ts after → Stands p g after
keeps_stands p ts g after h k = record {
  phase = subst (EndsIn after) (sym h.phase) (ap task_of k.tr, λ n. elim (k.nested n) [ inl i ↦ h.nested i | inr i ↦ h.popped i ]);
  gdtr = elim k.gdtr [ inl e ↦ inl e | inr e ↦ inr (h.lgdt e) ];
}

-- Each ask of a phrase that owes the law is a turn; what its end keeps is known there.
pub plain_turns : {A : Type 0} (n : ℕ) (p : Proc) (ends : List Ask → A → Type 0) (Q : Stage → A → Type 0) (ts : List Ask) (g : Stage) (t : Phrase A) → ((us : List Ask) (g2 : Stage) (a : A) → Behind p us g2 → ends us a → Q g2 a) → Behind p ts g → Plain n (Ordinary p.gdtr) ends ts t → Turns (on p.gdtr) Q (StandsBefore p) g t
unfolding Plain Turns
plain_turns n p ends Q ts g (Done a) w h k = w ts g a h k
plain_turns n p ends Q ts g (Faults f) w h k = before_stands p ts g h
plain_turns n p ends Q ts g (Begins m t) w h k = absurd k
plain_turns zero p ends Q ts g (Asks q c) w h k = absurd k
plain_turns (suc n) p ends Q ts g (Asks q c) w h k = λ v.
    let l = ordinary_leads p ts g q v h k.0 in
    (l.0, l.1, plain_turns n p ends Q (cycle_of q v ∷ ts) l.0 (c v) w l.2 (k.1 v))

-- So is each ask of what stands in front of such a phrase.
pub front_turns : {A B : Type 0} (n : ℕ) (p : Proc) (ends : List Ask → B → Type 0) (ts : List Ask) (g : Stage) (t : Phrase A) (f : A → Phrase B) → Behind p ts g → Plain n (Ordinary p.gdtr) ends ts (t >>= f) → Turns (on p.gdtr) (λ g2 a. (us : List Ask) × Behind p us g2) (StandsBefore p) g t
unfolding Plain Turns ◌>>=◌
front_turns n p ends ts g (Done a) f h k = (ts, h)
front_turns n p ends ts g (Faults x) f h k = before_stands p ts g h
front_turns n p ends ts g (Begins m t) f h k = absurd k
front_turns zero p ends ts g (Asks q c) f h k = absurd k
front_turns (suc n) p ends ts g (Asks q c) f h k = λ v.
    let l = ordinary_leads p ts g q v h k.0 in
    (l.0, l.1, front_turns n p ends (cycle_of q v ∷ ts) l.0 (c v) f l.2 (k.1 v))

-- ---- phrases in turns

-- one phrase, and what follows from its end or from its fault
pub turns_either : {A B S : Type 0} (T : S → Ask → ℕ → S → Type 0) (P : S → A → Type 0) (Q : S → B → Type 0) (F G : S → Fault → Type 0) (s : S) (t : Phrase A) (f : A → Phrase B) (caught : Fault → Phrase B) → Turns T P F s t → ((a : A) (s2 : S) → P s2 a → Turns T Q G s2 (f a)) → ((x : Fault) (s2 : S) → F s2 x → Turns T Q G s2 (caught x)) → Turns T Q G s (either t f caught)
unfolding Turns either
turns_either T P Q F G s (Done a) f caught h k l = k a s h
turns_either T P Q F G s (Faults x) f caught h k l = l x s h
turns_either T P Q F G s (Begins m t) f caught h k l = turns_either T P Q F G s t f caught h k l
turns_either T P Q F G s (Asks q c) f caught h k l = λ v. ((h v).0, (h v).1, turns_either T P Q F G (h v).0 (c v) f caught (h v).2 k l)

-- less is said at a fault
pub turns_excuse : {A S : Type 0} (T : S → Ask → ℕ → S → Type 0) (P : S → A → Type 0) (F G : S → Fault → Type 0) (s : S) (t : Phrase A) → ((x : Fault) (s2 : S) → F s2 x → G s2 x) → Turns T P F s t → Turns T P G s t
unfolding Turns
turns_excuse T P F G s (Done a) k h = h
turns_excuse T P F G s (Faults x) k h = k x s h
turns_excuse T P F G s (Begins m t) k h = turns_excuse T P F G s t k h
turns_excuse T P F G s (Asks q c) k h = λ v. ((h v).0, (h v).1, turns_excuse T P F G (h v).0 (c v) k (h v).2)

-- where it ends in no fault, any fault is excused
pub turns_soundly : {A S : Type 0} (T : S → Ask → ℕ → S → Type 0) (P : S → A → Type 0) (F : S → Fault → Type 0) (s : S) (t : Phrase A) → Turns T P (λ s2 x. ⊥) s t → Turns T P F s t
turns_soundly T P F s t h = turns_excuse T P (λ s2 x. ⊥) F s t (λ x s2 n. absurd n) h

pub turns_done : {A S : Type 0} (T : S → Ask → ℕ → S → Type 0) (P : S → A → Type 0) (F : S → Fault → Type 0) (s : S) (a : A) → P s a → Turns T P F s (Done a)
unfolding Turns
turns_done T P F s a h = h

pub turns_faults : (A : Type 0) {S : Type 0} (T : S → Ask → ℕ → S → Type 0) (P : S → A → Type 0) (F : S → Fault → Type 0) (s : S) (x : Fault) → F s x → Turns T P F s (Faults x)
unfolding Turns
turns_faults A T P F s x h = h

pub turns_if : {A S : Type 0} (T : S → Ask → ℕ → S → Type 0) (P : S → A → Type 0) (F : S → Fault → Type 0) (s : S) (b : Bool) (t u : Phrase A) → (b ≡ true → Turns T P F s t) → (b ≡ false → Turns T P F s u) → Turns T P F s (cond b t u)
turns_if T P F s true t u h k = h refl
turns_if T P F s false t u h k = k refl
