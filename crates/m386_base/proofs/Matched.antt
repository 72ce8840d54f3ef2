-- The cycle that was made is the one that the ask and its answer make.
use Rattle.std.proofs.Common.{◌≡◌, ℕ, refl, sym, ◌∙◌, ap, if◌then◌else◌, Bool, true, false, cond, ◌&&◌, ◌==◌, eqb, bit_and}
use Rattle.std.proofs.lemmas.Bool.{and_parts, eqb-true}
use Rattle.m386_base.specs.declared.ask.Ask.{Ask}
use Rattle.m386_base.specs.declared.ask.Space.{Space}
use Rattle.m386_base.specs.declared.ask.Space.TheVariants as spaces
use Rattle.m386_base.specs.declared.ask.Role.{Role}
use Rattle.m386_base.specs.declared.ask.Role.TheVariants as roles
use Rattle.m386_base.specs.Bus.{cycle_of, mask}
use Rattle.m386_base.specs.Phrase.{matches, answer_of, agree, space_number, role_number}

-- the role of a number
role_of : ℕ → Role
role_of n =
    if n == 0 then roles.Fetch else if n == 1 then roles.Operand else if n == 2 then roles.Push else if n == 3 then roles.Pop
    else if n == 4 then roles.Flags else if n == 5 then roles.Gdt else if n == 6 then roles.Ldt else if n == 7 then roles.Idt
    else if n == 8 then roles.GdtAcc else if n == 9 then roles.LdtAcc else if n == 10 then roles.Tss else if n == 11 then roles.ClaimJmp
    else if n == 12 then roles.ClaimCall else if n == 13 then roles.ClaimStart else if n == 14 then roles.ClaimLtr
    else if n == 15 then roles.Save else if n == 16 then roles.Link else if n == 17 then roles.Back else if n == 18 then roles.RelJmp
    else if n == 19 then roles.RelRet else if n == 20 then roles.Load else if n == 21 then roles.Inner else if n == 22 then roles.Map
    else if n == 23 then roles.Lgdt else roles.Lidt

role_back : (r : Role) → role_of (role_number r) ≡ r
unfolding role_of
role_back roles.Fetch = refl
role_back roles.Operand = refl
role_back roles.Push = refl
role_back roles.Pop = refl
role_back roles.Flags = refl
role_back roles.Gdt = refl
role_back roles.Ldt = refl
role_back roles.Idt = refl
role_back roles.GdtAcc = refl
role_back roles.LdtAcc = refl
role_back roles.Tss = refl
role_back roles.ClaimJmp = refl
role_back roles.ClaimCall = refl
role_back roles.ClaimStart = refl
role_back roles.ClaimLtr = refl
role_back roles.Save = refl
role_back roles.Link = refl
role_back roles.Back = refl
role_back roles.RelJmp = refl
role_back roles.RelRet = refl
role_back roles.Load = refl
role_back roles.Inner = refl
role_back roles.Map = refl
role_back roles.Lgdt = refl
role_back roles.Lidt = refl

pub same_role : (r s : Role) → role_number r ≡ role_number s → r ≡ s
same_role r s e = sym (role_back r) ∙ ap role_of e ∙ role_back s

same_space : (r s : Space) → space_number r ≡ space_number s → r ≡ s
same_space spaces.Memory spaces.Memory e = refl
same_space spaces.Port spaces.Port e = refl
same_space spaces.Memory spaces.Port e = cc
same_space spaces.Port spaces.Memory e = cc

same_bool : (a b : Bool) → agree a b ≡ true → a ≡ b
same_bool true true e = refl
same_bool false false e = refl
same_bool true false e = cc
same_bool false true e = cc

-- an ask by its fields
abbrev ask : Space → Bool → Bool → Role → ℕ → ℕ → ℕ → ℕ → Ask
ask s w j r p a n v = record { space = s; write = w; joined = j; role = r; part = p; addr = a; enables = n; value = v }

same_ask : (q t : Ask) → q.space ≡ t.space → q.write ≡ t.write → q.joined ≡ t.joined → q.role ≡ t.role → q.part ≡ t.part → q.addr ≡ t.addr → q.enables ≡ t.enables → q.value ≡ t.value → q ≡ t
same_ask q t a b c d e f g h = fields a b c d e f g h
  where
    fields : {s s2 : Space} {w w2 j j2 : Bool} {r r2 : Role} {p p2 a a2 n n2 v v2 : ℕ} → s ≡ s2 → w ≡ w2 → j ≡ j2 → r ≡ r2 → p ≡ p2 → a ≡ a2 → n ≡ n2 → v ≡ v2 → ask s w j r p a n v ≡ ask s2 w2 j2 r2 p2 a2 n2 v2
    fields a b c d e f g h = rw (a, b, c, d, e, f, g, h) refl

pub cycle_matched : (q t : Ask) → matches q t ≡ true → cycle_of q (answer_of t) ≡ t
unfolding matches cycle_of answer_of
cycle_matched q t m =
    let m7 = and_parts _ _ m in
    let m6 = and_parts _ _ m7.0 in
    let m5 = and_parts _ _ m6.0 in
    let m4 = and_parts _ _ m5.0 in
    let m3 = and_parts _ _ m4.0 in
    let m2 = and_parts _ _ m3.0 in
    let m1 = and_parts _ _ m2.0 in
    go q.write t.write refl refl (same_space _ _ (eqb-true _ _ m1.0)) (same_bool _ _ m1.1) (same_bool _ _ m2.1) (same_role _ _ (eqb-true _ _ m3.1)) (eqb-true _ _ m4.1) (eqb-true _ _ m5.1) (eqb-true _ _ m6.1) m7.1
  where
    go : (b c : Bool) → q.write ≡ b → t.write ≡ c → q.space ≡ t.space → q.write ≡ t.write → q.joined ≡ t.joined → q.role ≡ t.role → q.part ≡ t.part → q.addr ≡ t.addr → q.enables ≡ t.enables → cond b (eqb q.value t.value) (eqb (bit_and t.value (mask t.enables)) t.value) ≡ true → cond b q (record q { value = cond c 0 t.value }) ≡ t
    go true c e f s w j r p a n v = same_ask q t s w j r p a n (eqb-true _ _ v)
    go false true e f s w j r p a n v = let d : false ≡ true = sym e ∙ w ∙ f in cc
    go false false e f s w j r p a n v = same_ask (record q { value = t.value }) t s w j r p a n refl
