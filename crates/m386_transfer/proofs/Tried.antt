-- The combinators of the law of an instruction that may end in a task switch.
use Rattle.std.proofs.Common.{◌≡◌, ℕ, zero, suc, ◌+◌, ◌-◌, ◌≤◌, List, [], ◌∷◌, refl, subst, sym, arith, cond, Bool, true, false, Option, Some, None, nat_le}
use Rattle.m386_base.specs.declared.ask.Ask.{Ask}
use Rattle.m386_base.specs.declared.ask.Role.{Role}
use Rattle.m386_base.specs.declared.fault.Fault.{Fault}
use Rattle.m386_base.specs.declared.kind.SwitchKind.TheVariants.{Iret}
use Rattle.m386_base.specs.declared.split.Piece.{Piece}
use Rattle.m386_base.specs.Bus.{cycle_of}
use Rattle.m386_base.specs.Phrase.{Phrase, Done, Faults, Asks, Begins, ◌>>=◌}
use Rattle.m386_base.specs.Plain.{Plain}
use Rattle.m386_base.proofs.Plain.{plain_bind, plain_done}
use Rattle.m386_access.specs.Access.{memory_pieces, reads, read_phrase}
use Rattle.m386_access.specs.Address.{may_read}
use Rattle.m386_access.specs.Ordinary.{Ordinary, Keeps, is_nested}
use Rattle.m386_checks.specs.Holds.{is_start}
use Rattle.m386_segload.specs.Descriptors.{word_reads, descriptor_phrase}
use Rattle.m386_segload.specs.Load.{load_desc_phrase}
use Rattle.m386_segload.specs.Rules.{need}
use Rattle.m386_segload.specs.Tables.{is_there, place_for}
use Rattle.m386_state.specs.declared.proc.Proc.{Proc}
use Rattle.m386_switch.specs.Switch.{switch_phrase, work_phrase}
use Rattle.m386_transfer.specs.declared.executed.Brief.{Brief}
use Rattle.m386_transfer.specs.declared.executed.Executed.{Executed}
use Rattle.m386_transfer.specs.Executed.{simply, ran_whole, came_whole, switching_phrase}
use Rattle.m386_transfer.specs.Tried.{AreReads, IsSwitching, Tried, KeepsRun, switch_bound}

pub tried_done : (n : ℕ) (may : List Ask → Ask → Type 0) (ends : List Ask → Executed → Type 0) (p : Proc) (ts : List Ask) (e : Executed) → ends ts e → Tried n may ends p ts (Done e)
unfolding Tried
tried_done n may ends p ts e h = h

pub tried_faults : (n : ℕ) (may : List Ask → Ask → Type 0) (ends : List Ask → Executed → Type 0) (p : Proc) (ts : List Ask) (f : Fault) → Tried n may ends p ts (Faults f)
unfolding Tried
tried_faults n may ends p ts f = tt

pub tried_if : (n : ℕ) (may : List Ask → Ask → Type 0) (ends : List Ask → Executed → Type 0) (p : Proc) (ts : List Ask) (b : Bool) (t u : Phrase Executed) → Tried n may ends p ts t → Tried n may ends p ts u → Tried n may ends p ts (cond b t u)
tried_if n may ends p ts true t u h k = h
tried_if n may ends p ts false t u h k = k

-- what follows where no rule is broken
pub tried_need : (n : ℕ) (may : List Ask → Ask → Type 0) (ends : List Ask → Executed → Type 0) (p : Proc) (ts : List Ask) (o : Option Fault) (t : Phrase Executed) → Tried n may ends p ts t → Tried n may ends p ts (need o t)
tried_need n may ends p ts (Some f) t h = tried_faults n may ends p ts f
tried_need n may ends p ts None t h = h

-- a phrase that comes to no switch
pub tried_plain : (n : ℕ) (may : List Ask → Ask → Type 0) (ends : List Ask → Executed → Type 0) (p : Proc) (ts : List Ask) (t : Phrase Executed) → Plain n may ends ts t → Tried n may ends p ts t
unfolding Tried Plain
tried_plain n may ends p ts (Done e) h = h
tried_plain n may ends p ts (Faults f) h = tt
tried_plain n may ends p ts (Begins m t) h = absurd h
tried_plain zero may ends p ts (Asks q k) h = absurd h
tried_plain (suc n) may ends p ts (Asks q k) h = (h.0, λ v. tried_plain n may ends p (cycle_of q v ∷ ts) (k v) (h.1 v))

-- more cycles are allowed
pub tried_more : (m n : ℕ) (may : List Ask → Ask → Type 0) (ends : List Ask → Executed → Type 0) (p : Proc) (ts : List Ask) (t : Phrase Executed) → Tried m may ends p ts t → Tried (m + n) may ends p ts t
unfolding Tried
tried_more m n may ends p ts (Done e) h = h
tried_more m n may ends p ts (Faults f) h = tt
tried_more m n may ends p ts (Begins x t) h = let l : switch_bound ≤ m = h.0 in (omega arith, h.1, h.2)
tried_more zero n may ends p ts (Asks q k) h = absurd h
tried_more (suc m) n may ends p ts (Asks q k) h =
    let e : suc m + n ≡ suc (m + n) = omega arith in rw e (h.0, λ v. tried_more m n may ends p (cycle_of q v ∷ ts) (k v) (h.1 v))

pub tried_within : (m n : ℕ) (may : List Ask → Ask → Type 0) (ends : List Ask → Executed → Type 0) (p : Proc) (ts : List Ask) (t : Phrase Executed) → m ≤ n → Tried m may ends p ts t → Tried n may ends p ts t
tried_within m n may ends p ts t l h = let e : n ≡ m + (n - m) = omega arith in rw e (tried_more m (n - m) may ends p ts t h)

-- a front that comes to no switch, and what follows from what it found
tried_next : {A : Type 0} (m n : ℕ) (may : List Ask → Ask → Type 0) (P : List Ask → A → Type 0) (ends : List Ask → Executed → Type 0) (p : Proc) (ts : List Ask) (t : Phrase A) (f : A → Phrase Executed) → Plain m may P ts t → ((us : List Ask) (a : A) → P us a → Tried n may ends p us (f a)) → Tried (m + n) may ends p ts (t >>= f)
unfolding Tried Plain ◌>>=◌
tried_next m n may P ends p ts (Done a) f h k =
    let e : m + n ≡ n + m = omega arith in rw e (tried_more n m may ends p ts (f a) (k ts a h))
tried_next m n may P ends p ts (Faults x) f h k = tt
tried_next m n may P ends p ts (Begins x t) f h k = absurd h
tried_next zero n may P ends p ts (Asks q c) f h k = absurd h
tried_next (suc m) n may P ends p ts (Asks q c) f h k =
    let e : suc m + n ≡ suc (m + n) = omega arith in rw e (h.0, λ v. tried_next m n may P ends p (cycle_of q v ∷ ts) (c v) f (h.1 v) k)

-- a front of at most m cycles that comes to no switch, and at most the others of n behind it
pub tried_bind : {A : Type 0} (m n : ℕ) (may : List Ask → Ask → Type 0) (P : List Ask → A → Type 0) (ends : List Ask → Executed → Type 0) (p : Proc) (ts : List Ask) (t : Phrase A) (f : A → Phrase Executed) → m ≤ n → Plain m may P ts t → ((us : List Ask) (a : A) → P us a → Tried (n - m) may ends p us (f a)) → Tried n may ends p ts (t >>= f)
tried_bind m n may P ends p ts t f l h k = let e : n ≡ m + (n - m) = omega arith in rw e (tried_next m (n - m) may P ends p ts t f h k)

-- an ordinary operation, which comes to no switch
pub tried_simply : (m n : ℕ) (p : Proc) (ts : List Ask) (t : Phrase Proc) → m ≤ n → Plain m (Ordinary p.gdtr) (Keeps p) ts t → Tried n (Ordinary p.gdtr) (KeepsRun p) p ts (simply t)
unfolding simply
tried_simply m n p ts t l h =
    tried_bind m n (Ordinary p.gdtr) (Keeps p) (KeepsRun p) p ts t ran_whole l h (λ us after k. tried_done (n - m) (Ordinary p.gdtr) (KeepsRun p) p us _ k)

-- a switch behind reads alone
pub tried_switch : (n : ℕ) (may : List Ask → Ask → Type 0) (ends : List Ask → Executed → Type 0) (p : Proc) (b : Brief) (ts : List Ask) → is_start b.kind ≡ false → (b.kind ≡ Iret → is_nested p ≡ true) → switch_bound ≤ n → AreReads ts → Tried n may ends p ts (switching_phrase p b)
unfolding Tried switching_phrase switch_phrase ◌>>=◌
tried_switch n may ends p b ts way back l r = (l, r, record { brief = b; way = way; back = back; known = refl; work = refl })

-- each ask of a phrase is a read
unfoldable pub ReadsAlone : {A : Type 0} → Phrase A → Type 0
ReadsAlone (Done a) = Unit {0}
ReadsAlone (Faults f) = Unit {0}
ReadsAlone (Begins m t) = ⊥
ReadsAlone (Asks q k) = (q.write ≡ false) × ((v : ℕ) → ReadsAlone (k v))

read_made : (q : Ask) (v : ℕ) → q.write ≡ false → (cycle_of q v).write ≡ false
unfolding cycle_of
read_made q v h = go q.write h
  where
    go : (b : Bool) → q.write ≡ false → (cond b q (record q { value = v })).write ≡ false
    go true e = e
    go false e = e

-- behind reads it leaves reads
pub reads_since : {A : Type 0} (n : ℕ) (may : List Ask → Ask → Type 0) (ends : List Ask → A → Type 0) (ts : List Ask) (t : Phrase A) → AreReads ts → ReadsAlone t → Plain n may ends ts t → Plain n may (λ us a. ends us a × AreReads us) ts t
unfolding Plain ReadsAlone
reads_since n may ends ts (Done a) r h p = (p, r)
reads_since n may ends ts (Faults f) r h p = tt
reads_since n may ends ts (Begins m t) r h p = absurd p
reads_since zero may ends ts (Asks q k) r h p = absurd p
reads_since (suc n) may ends ts (Asks q k) r h p = (p.0, λ v. reads_since n may ends (cycle_of q v ∷ ts) (k v) (read_made q v h.0, r) (h.1 v) (p.1 v))

pub reads_then : {A B : Type 0} (t : Phrase A) (f : A → Phrase B) → ReadsAlone t → ((a : A) → ReadsAlone (f a)) → ReadsAlone (t >>= f)
unfolding ReadsAlone ◌>>=◌
reads_then (Done a) f h k = k a
reads_then (Faults x) f h k = tt
reads_then (Begins m t) f h k = absurd h
reads_then (Asks q c) f h k = (h.0, λ v. reads_then (c v) f (h.1 v) k)

pub reads_done : {A : Type 0} (a : A) → ReadsAlone (Done a)
unfolding ReadsAlone
reads_done a = tt

pub reads_faults : (A : Type 0) (f : Fault) → ReadsAlone {A = A} (Faults f)
unfolding ReadsAlone
reads_faults A f = tt

reads_if : {A : Type 0} (b : Bool) (t u : Phrase A) → ReadsAlone t → ReadsAlone u → ReadsAlone (cond b t u)
reads_if true t u h k = h
reads_if false t u h k = k

-- an operand
groups_alone : (role : Role) (ps : List Piece) (value : ℕ) → ReadsAlone (reads role value ps)
unfolding reads ReadsAlone ◌>>=◌
groups_alone role [] value = tt
groups_alone role (p ∷ ps) value = (refl, λ v. groups_alone role ps _)

pub read_alone : (p : Proc) (role : Role) (seg offset len : ℕ) → ReadsAlone (read_phrase p role seg offset len)
unfolding read_phrase
read_alone p role seg offset len = reads_if _ _ _ (groups_alone role _ 0) (reads_faults _ _)

-- a descriptor
words_alone : (role : Role) (ps : List Piece) (joined : Bool) (value : ℕ) → ReadsAlone (word_reads role joined value ps)
unfolding word_reads ReadsAlone ◌>>=◌
words_alone role [] joined value = tt
words_alone role (p ∷ ps) joined value = (refl, λ v. words_alone role ps true _)

pub descriptor_alone : (role : Role) (at : ℕ) → ReadsAlone (descriptor_phrase role at)
unfolding descriptor_phrase
descriptor_alone role at = reads_then _ _ (words_alone role _ false 0) (λ lo. reads_then _ _ (words_alone role _ true 0) (λ hi. reads_done _))

pub load_desc_alone : (p : Proc) (selector : ℕ) (role : Role) → ReadsAlone (load_desc_phrase p selector role)
unfolding load_desc_phrase
load_desc_alone p selector role = reads_if (is_there p selector) _ _ (reads_then _ _ (descriptor_alone role (place_for p selector)) (λ d. reads_done _)) (reads_done None)
