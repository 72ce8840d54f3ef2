-- How a history grows by one cycle, and what its fronts keep.
use Rattle.std.proofs.Common.{◌≡◌, ◌≢◌, ℕ, ◌+◌, Bool, true, false, cond, eqb, List, [], ◌∷◌, ◌++◌, map, filter, Some, refl, sym, ◌∙◌, ap, arith, append-nil, eq-eqb, ◌&&◌}
use Rattle.std.specs.Option.{unwrap_or}
use Rattle.std.proofs.lemmas.List.{reverse-append}
use Rattle.m386_base.specs.declared.ask.Ask.{Ask}
use Rattle.m386_base.specs.declared.ask.Cycle.{Cycle}
use Rattle.m386_base.specs.declared.ask.Space.{Space}
use Rattle.m386_base.specs.Bus.{IsAsk, IsEnabled, cycle_of}
use Rattle.m386_base.specs.Bytes.{bytes_of, byte_at_place}
use Rattle.m386_base.specs.Phrase.{space_number}
use Rattle.m386_memory.specs.Contents.{Contents, byte_in, holds_byte, group_of, Stand, SameSize, with_written}
use Rattle.m386_memory.specs.History.{past, byte_then, byte_after, Consistent, last_cpu, Unsplit, WellFormed, IsHistory, IsRecord, cycles_of}
use Rattle.m386_memory.proofs.Places.{byte_in-written, SameSize-written, is_inside-same}

-- one more cycle
pub past-push : (H : List Cycle) (x : Cycle) → past (H ++ x ∷ []) ≡ x ∷ past H
past-push H x = reverse-append H (x ∷ [])

-- the bytes that stand by one rule of places stand by another that agrees
pub stand-same : (byte other : ℕ → ℕ) (bs : List (ℕ × ℕ)) → ((a : ℕ) → byte a ≡ other a) → Stand byte bs → Stand other bs
unfolding Stand
stand-same byte other [] e h = tt
stand-same byte other (b ∷ bs) e h = (sym (e b.0) ∙ h.0, stand-same byte other bs e h.1)

-- an ask that was answered may still be asked
pub IsAsk-answered : (ask : Ask) (v : ℕ) → IsAsk ask → IsEnabled ask.enables v → IsAsk (cycle_of ask v)
unfolding cycle_of
IsAsk-answered ask v h e = go ask.write
  where
    go : (w : Bool) → IsAsk (cond w ask (record ask { value = v }))
    go true = h
    go false = record { aligned = h.aligned; inside = h.inside; some = h.some; group = h.group; part = h.part; value = e }

-- a history goes on by a cycle that may be made where it ends
pub IsHistory-push : (first : Contents) (H : List Cycle) (x : Cycle) → IsHistory first H → IsAsk x.ask → (x.ask.joined ≡ true → last_cpu (past H) ≡ Some x.cpu) → (x.ask.write ≡ false → Stand (byte_after first (past H) x.ask.space) (bytes_of x.ask)) → IsHistory first (H ++ x ∷ [])
unfolding Consistent Unsplit WellFormed
IsHistory-push first H x h i j k =
    record {
      formed = rw (past-push H x) (i, h.formed);
      consistent = rw (past-push H x) (k, h.consistent);
      unsplit = rw (past-push H x) (j, h.unsplit);
    }

-- what a cycle leaves at each place, where the bytes stood as the cycles before it left them
bytes-push : (first now new : Contents) (H : List Cycle) (x : Cycle) → SameSize first now → ((s : Space) (a : ℕ) → byte_in now s a ≡ byte_after first (past H) s a) → new ≡ cond x.ask.write (with_written now x.ask.space (bytes_of x.ask)) now → (s : Space) (a : ℕ) → byte_in new s a ≡ byte_after first (past (H ++ x ∷ [])) s a
unfolding byte_after bytes_of
bytes-push first now new H x z h e s a = rw (past-push H x) (go x.ask.write refl)
  where
    go : (w : Bool) → x.ask.write ≡ w → byte_in new s a ≡ byte_then first x s a (byte_after first (past H) s a)
    go true w =
        let n : new ≡ with_written now x.ask.space (bytes_of x.ask) = rw w at e in
        rw (n, w, ← h s a, ← is_inside-same first now s a z) (byte_in-written now x.ask.space (bytes_of x.ask) s a)
    go false w =
        let n : new ≡ now = rw w at e in
        rw (n, w) (h s a)

-- what an ask does to the bytes, its cycle does
effect-answered : (now : Contents) (ask : Ask) (v : ℕ) → cond ask.write (with_written now ask.space (bytes_of ask)) now ≡ cond (cycle_of ask v).write (with_written now (cycle_of ask v).space (bytes_of (cycle_of ask v))) now
unfolding cycle_of
effect-answered now ask v = go ask.write refl
  where
    go : (w : Bool) → ask.write ≡ w → cond ask.write (with_written now ask.space (bytes_of ask)) now ≡ cond (cond ask.write ask (record ask { value = v })).write (with_written now (cond ask.write ask (record ask { value = v })).space (bytes_of (cond ask.write ask (record ask { value = v })))) now
    go true w = rw w refl
    go false w = rw w refl

-- the parts of an ask that an answer leaves
pub same-answered : (ask : Ask) (v : ℕ) → ((cycle_of ask v).write ≡ ask.write) × ((cycle_of ask v).joined ≡ ask.joined) × ((cycle_of ask v).space ≡ ask.space)
unfolding cycle_of
same-answered ask v = go ask.write
  where
    go : (w : Bool) → ((cond w ask (record ask { value = v })).write ≡ ask.write) × ((cond w ask (record ask { value = v })).joined ≡ ask.joined) × ((cond w ask (record ask { value = v })).space ≡ ask.space)
    go true = (refl, refl, refl)
    go false = (refl, refl, refl)

-- a record of no cycle
pub IsRecord-empty : (first : Contents) → IsRecord first [] first
unfolding Consistent Unsplit WellFormed byte_after
IsRecord-empty first = record {
  history = record { formed = tt; consistent = tt; unsplit = tt };
  size = record { memory = refl; ports = refl };
  bytes = λ s a. refl;
}

-- a record goes on by one cycle
pub IsRecord-push : (first now new : Contents) (H : List Cycle) (cpu : ℕ) (ask : Ask) (v : ℕ) → IsRecord first H now → IsAsk ask → (ask.joined ≡ true → last_cpu (past H) ≡ Some cpu) → IsEnabled ask.enables v → (ask.write ≡ false → Stand (byte_in now ask.space) (bytes_of (cycle_of ask v))) → new ≡ cond ask.write (with_written now ask.space (bytes_of ask)) now → IsRecord first (H ++ record { cpu = cpu; ask = cycle_of ask v } ∷ []) new
unfolding cycle_of
IsRecord-push first now new H cpu ask v r i j e k n =
    let p = same-answered ask v in
    let x : Cycle = record { cpu = cpu; ask = cycle_of ask v } in
    let m : new ≡ cond x.ask.write (with_written now x.ask.space (bytes_of x.ask)) now = n ∙ effect-answered now ask v in
    record {
      history = IsHistory-push first H x r.history (IsAsk-answered ask v i e) (λ h. j (sym p.1 ∙ h)) (λ h. rw p.2 (stand-same (byte_in now ask.space) (byte_after first (past H) ask.space) _ (r.bytes ask.space) (k (sym p.0 ∙ h))));
      size = size-push ask.write n;
      bytes = bytes-push first now new H x r.size r.bytes m;
    }
  where
    size-push : (w : Bool) → new ≡ cond w (with_written now ask.space (bytes_of ask)) now → SameSize first new
    size-push true e = rw e (SameSize-written first now ask.space (bytes_of ask) r.size)
    size-push false e = rw e r.size

-- an aligned group has one value by two rules of places that agree
pub group_of-same : (byte other : ℕ → ℕ) (addr enables : ℕ) → ((a : ℕ) → byte a ≡ other a) → group_of byte addr enables ≡ group_of other addr enables
unfolding group_of
group_of-same byte other addr enables e = rw (e addr, e (addr + 1), e (addr + 2), e (addr + 3)) refl

-- The cycles of one processor, one cycle on.
pub cycles_of-append : (p : ℕ) (H G : List Cycle) → cycles_of p (H ++ G) ≡ cycles_of p H ++ cycles_of p G
cycles_of-append p [] G = refl
cycles_of-append p (x ∷ H) G = go (eqb x.cpu p) (cycles_of-append p H G)
  where
    go : (b : Bool) → cycles_of p (H ++ G) ≡ cycles_of p H ++ cycles_of p G → map (λ (c : Cycle). c.ask) (cond b (x ∷ filter (λ (c : Cycle). eqb c.cpu p) (H ++ G)) (filter (λ (c : Cycle). eqb c.cpu p) (H ++ G))) ≡ map (λ (c : Cycle). c.ask) (cond b (x ∷ filter (λ (c : Cycle). eqb c.cpu p) H) (filter (λ (c : Cycle). eqb c.cpu p) H)) ++ cycles_of p G
    go true ih = ap (λ l. x.ask ∷ l) ih
    go false ih = ih

-- its own cycle stands at the end
pub cycles_of-own : (p : ℕ) (H : List Cycle) (x : Cycle) → x.cpu ≡ p → cycles_of p (H ++ x ∷ []) ≡ cycles_of p H ++ x.ask ∷ []
cycles_of-own p H x e = cycles_of-append p H (x ∷ []) ∙ ap (λ l. cycles_of p H ++ l) (go (eqb x.cpu p) (eq-eqb x.cpu p e))
  where
    go : (b : Bool) → b ≡ true → map (λ (c : Cycle). c.ask) (cond b (x ∷ []) []) ≡ x.ask ∷ []
    go true h = refl
    go false h = cc

-- another's cycle changes nothing
pub cycles_of-other : (p : ℕ) (H : List Cycle) (x : Cycle) → x.cpu ≢ p → cycles_of p (H ++ x ∷ []) ≡ cycles_of p H
cycles_of-other p H x e = cycles_of-append p H (x ∷ []) ∙ ap (λ l. cycles_of p H ++ l) (go (eqb x.cpu p) refl) ∙ append-nil (cycles_of p H)
  where
    go : (b : Bool) → eqb x.cpu p ≡ b → map (λ (c : Cycle). c.ask) (cond b (x ∷ []) []) ≡ []
    go true h = absurd (e (grind (arith, h)))
    go false h = refl

-- the newest cycle's processor, one cycle on
pub last_cpu-push : (H : List Cycle) (x : Cycle) → last_cpu (past (H ++ x ∷ [])) ≡ Some x.cpu
last_cpu-push H x = rw (past-push H x) refl
