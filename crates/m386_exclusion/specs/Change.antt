-- What one cycle may change of the world, and what is shown of each kind of cycle.
use Rattle.std.specs.Prelude.{◌≡◌, ◌≢◌, ℕ, ◌/◌, ◌%◌, ◌<◌, ◌≤◌, Bool, true, false, ◌∷◌, Some, ◌⊎◌}
use Rattle.m386_base.specs.declared.ask.Cycle.{Cycle}
use Rattle.m386_memory.specs.History.{Consistent, Unsplit}
use Rattle.m386_stages.specs.Stages.{Stage}
use Rattle.m386_book.specs.Book.{claimed, released, returned, linked}
use Rattle.m386_exclusion.specs.Held.{holds}
use Rattle.m386_exclusion.specs.Invariant.{entries, bys, FlagsOk, unsaved, pending, Owes, Lives, Good, Gdt, Links}
use Rattle.m386_exclusion.specs.Table.{at_cpu}
use Rattle.m386_exclusion.specs.World.{Setting, World, IsTask, mem, flag, seg, IsBusy, IsIdle, IsTidy, IsClean, book}

-- memory is the same but for one place, or but for the fields of a task that are saved
abbrev pub But : Setting → World → World → ℕ → Type 0
But I H G b = (a : ℕ) → a ≢ b → mem I H a ≡ mem I G a

abbrev pub Area : Setting → World → World → ℕ → Type 0
Area I H G o = (a : ℕ) → ((j : ℕ) → 32 ≤ j → j < 96 → a ≢ seg I o j) → mem I H a ≡ mem I G a

-- the places that the invariant speaks of are the same
pub record Same (I : Setting) (H G : World) : Type 0 where
  pub flags : (t : ℕ) → IsTask I t → (IsBusy (mem I G (flag I t)) → IsBusy (mem I H (flag I t)))
  pub nts : (t : ℕ) → IsTask I t → mem I H (seg I t 37) ≡ mem I G (seg I t 37)
  pub links : (t : ℕ) → IsTask I t → mem I H (seg I t 0) ≡ mem I G (seg I t 0)
  pub highs : (t : ℕ) → IsTask I t → mem I H (seg I t 1) ≡ mem I G (seg I t 1)

-- nothing of a switch is yet to be written
abbrev pub Calm : World → ℕ → Type 0
Calm G p = (unsaved G p ≡ false) × (pending G p ≡ false)

-- the other processors stand where they stood
abbrev pub Others : ℕ → World → World → Type 0
Others p H G = (q : ℕ) → q ≢ p → H.at q ≡ G.at q

-- What one cycle of a processor does to the world.
pub data Change (I : Setting) (p : ℕ) (H G : World) : Type 0 where
  Silent : book I H ≡ book I G → Same I H G → (unsaved H p ≡ unsaved G p) × (pending H p ≡ pending G p) → Change I p H G
  -- the flags of a task that waits, and of one that is held, are saved
  Saved : (o t : ℕ) → IsTask I o → (book I G).held p ≡ Some t → 1 ≤ entries (book I G).waiting o t → Area I H G o → book I H ≡ book I G → FlagsOk I H o × (pending G p ≡ false) → Change I p H G
  Spoilt : (o : ℕ) → IsTask I o → (book I G).held p ≡ Some o → Calm G p → Area I H G o → book I H ≡ book I G → Change I p H G
  Claim : (w : Bool) → (t : ℕ) → IsTask I t → Calm G p → (w ≡ true → unsaved H p ≡ true) → IsIdle (mem I G (flag I t)) → IsBusy (mem I H (flag I t)) → But I H G (flag I t) → book I H ≡ claimed w p t (book I G) → Change I p H G
  -- the link is written: its first byte, its second, or both
  Link : (o t : ℕ) → IsTask I t → (book I G).held p ≡ Some t → Calm G p → 1 ≤ entries (book I G).waiting o t → (mem I H (seg I t 0) / 8 ≡ o % 32) × (pending H p ≡ true ⊎ (mem I H (seg I t 1) ≡ o / 32 % 256)) → ((a : ℕ) → a ≢ seg I t 0 → a ≢ seg I t 1 → mem I H a ≡ mem I G a) → book I H ≡ linked (Some t) (book I G) → Change I p H G
  LinkOn : (o t : ℕ) → IsTask I t → (book I G).held p ≡ Some t → unsaved G p ≡ false → 1 ≤ entries (book I G).waiting o t → (book I G).live t ≡ true → mem I H (seg I t 1) ≡ o / 32 % 256 → But I H G (seg I t 1) → book I H ≡ linked (Some t) (book I G) → Change I p H G
  Release : (o t : ℕ) → IsTask I o → (book I G).held p ≡ Some t → Calm G p → 1 ≤ entries (book I G).waiting o t → (book I G).live t ≡ false → But I H G (flag I o) → book I H ≡ released o (book I G) → Change I p H G
  Return : (o x : ℕ) → IsTask I o → (book I G).held p ≡ Some o → Calm G p → 1 ≤ entries (book I G).waiting x o → bys (book I G).waiting o ≤ 1 → But I H G (flag I o) → book I H ≡ returned p o (book I G) → Change I p H G

-- the world after a cycle that leads its processor to a stage
abbrev pub after : World → Cycle → Stage → World
after G x g2 = record { cycles = x ∷ G.cycles; at = at_cpu G.at x.cpu g2 }

-- what is known where a processor makes a cycle
pub record Known (I : Setting) (n : ℕ) (x : Cycle) (G : World) : Type 0 where
  pub below : x.cpu < n
  pub tidy : IsTidy I
  pub gdt : Gdt I n G
  pub links : Links I n G
  pub good : Good I x.cpu G
  pub consistent : Consistent I.first (x ∷ G.cycles)
  pub unsplit : Unsplit (x ∷ G.cycles)
  pub clean : IsClean I x.cpu (book I G) x.ask

-- what is shown of the cycle: what it changes, and its own processor's part of the invariant
pub record Move (I : Setting) (x : Cycle) (G : World) (g2 : Stage) : Type 0 where
  pub change : Change I x.cpu (after G x g2) G
  pub held : (book I (after G x g2)).held x.cpu ≡ holds g2.phase
  pub owes : Owes (book I (after G x g2)) g2.phase
  pub lives : Lives I (after G x g2) g2.phase
