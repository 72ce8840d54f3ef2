-- What the saves and the loads of a switch show.
use Rattle.std.proofs.Common.{◌≡◌, ℕ, ◌-◌, ◌<◌, Bool, List, [], ◌∷◌, refl, arith, slice_set}
use Rattle.m386_base.specs.declared.ask.Ask.{Ask}
use Rattle.m386_base.specs.declared.ask.Role.TheVariants as roles
use Rattle.m386_base.specs.Phrase.{Phrase, ◌>>=◌}
use Rattle.m386_base.specs.declared.kind.SwitchKind.{SwitchKind}
use Rattle.m386_state.specs.declared.proc.Proc.{Proc}
use Rattle.m386_tss.specs.Fields.{field_at}
use Rattle.m386_tss.specs.Orders.{saved_fields, loaded_fields}
use Rattle.m386_switch.specs.Fields.{field_phrase, field_write_phrase}
use Rattle.m386_switch.specs.Parts.{saves, loads, load_phrase, saved_value}
use Rattle.m386_switch.specs.Seen.{Seen, Part, nothing, at_number}
use Rattle.m386_switch.specs.Ends.{field_written}
use Rattle.m386_switch.proofs.Shows.{Shows, shows_later, shows_bind}
use Rattle.m386_switch.proofs.FieldShows.{shows_load, shows_save, whole_part}

load_step : {A : Type 0} (P : Seen → A → Type 0) (g : Seen) (base n : ℕ) (ns l : List ℕ) (k : List ℕ → Phrase A) → (field_at n).len < 5 → g.loads n ≡ nothing
    → ((v : ℕ) → Shows P (record g { loads = at_number g.loads n (whole_part (field_at n).len v) }) (loads base (slice_set l (n - 8) v) ns >>= k))
    → Shows P g (loads base l (n ∷ ns) >>= k)
unfolding loads
load_step P g base n ns l k s z h = shows_later P g (field_phrase roles.Load base n) _ k (shows_load P g base n _ s z h)

load_end : {A : Type 0} (P : Seen → A → Type 0) (g : Seen) (base : ℕ) (l : List ℕ) (k : List ℕ → Phrase A) → Shows P g (k l) → Shows P g (loads base l [] >>= k)
unfolding loads
load_end P g base l k h = shows_bind P g l k h

save_step : {A : Type 0} (P : Seen → A → Type 0) (g : Seen) (kind : SwitchKind) (p : Proc) (n : ℕ) (ns : List ℕ) (k : Unit {0} → Phrase A) → g.saves n ≡ []
    → ((w : Bool) → Shows P (record g { wrote = w; saves = at_number g.saves n (field_written roles.Save p.tr.desc.base n (saved_value kind p n)) }) (saves kind p ns >>= k))
    → Shows P g (saves kind p (n ∷ ns) >>= k)
unfolding saves
save_step P g kind p n ns k z h = shows_later P g (field_write_phrase roles.Save p.tr.desc.base n (saved_value kind p n)) _ k (shows_save P g p.tr.desc.base n _ _ z h)

save_end : {A : Type 0} (P : Seen → A → Type 0) (g : Seen) (kind : SwitchKind) (p : Proc) (k : Unit {0} → Phrase A) → Shows P g (k tt) → Shows P g (saves kind p [] >>= k)
unfolding saves
save_end P g kind p k h = shows_bind P g tt k h

-- the loads of fields 8 to 25, by what each gave
abbrev pub loaded_parts : ℕ → ℕ → ℕ → ℕ → ℕ → ℕ → ℕ → ℕ → ℕ → ℕ → ℕ → ℕ → ℕ → ℕ → ℕ → ℕ → ℕ → ℕ → ℕ → Part
loaded_parts v8 v9 v10 v11 v12 v13 v14 v15 v16 v17 v18 v19 v20 v21 v22 v23 v24 v25 =
    at_number (at_number (at_number (at_number (at_number (at_number (at_number (at_number (at_number (at_number (at_number (at_number (at_number (at_number (at_number (at_number (at_number (at_number ((λ n. nothing)) 8 (whole_part (field_at 8).len v8)) 9 (whole_part (field_at 9).len v9)) 10 (whole_part (field_at 10).len v10)) 11 (whole_part (field_at 11).len v11)) 12 (whole_part (field_at 12).len v12)) 13 (whole_part (field_at 13).len v13)) 14 (whole_part (field_at 14).len v14)) 15 (whole_part (field_at 15).len v15)) 16 (whole_part (field_at 16).len v16)) 17 (whole_part (field_at 17).len v17)) 18 (whole_part (field_at 18).len v18)) 19 (whole_part (field_at 19).len v19)) 20 (whole_part (field_at 20).len v20)) 21 (whole_part (field_at 21).len v21)) 22 (whole_part (field_at 22).len v22)) 23 (whole_part (field_at 23).len v23)) 24 (whole_part (field_at 24).len v24)) 25 (whole_part (field_at 25).len v25)

pub shows_loads : {A : Type 0} (P : Seen → A → Type 0) (g : Seen) (base : ℕ) (k : List ℕ → Phrase A) → ((v8 v9 v10 v11 v12 v13 v14 v15 v16 v17 v18 v19 v20 v21 v22 v23 v24 v25 : ℕ) → Shows P (record g { loads = loaded_parts v8 v9 v10 v11 v12 v13 v14 v15 v16 v17 v18 v19 v20 v21 v22 v23 v24 v25 }) (k (v8 ∷ v9 ∷ v10 ∷ v11 ∷ v12 ∷ v13 ∷ v14 ∷ v15 ∷ v16 ∷ v17 ∷ v18 ∷ v19 ∷ v20 ∷ v21 ∷ v22 ∷ v23 ∷ v24 ∷ v25 ∷ [])))
    → Shows P (record g { loads = λ n. nothing }) (load_phrase base >>= k)
unfolding load_phrase field_at loaded_fields
shows_loads P g base k h =
    load_step P _ base 8 _ _ k (omega arith) refl (λ v8.
    load_step P _ base 9 _ _ k (omega arith) refl (λ v9.
    load_step P _ base 10 _ _ k (omega arith) refl (λ v10.
    load_step P _ base 11 _ _ k (omega arith) refl (λ v11.
    load_step P _ base 12 _ _ k (omega arith) refl (λ v12.
    load_step P _ base 13 _ _ k (omega arith) refl (λ v13.
    load_step P _ base 14 _ _ k (omega arith) refl (λ v14.
    load_step P _ base 15 _ _ k (omega arith) refl (λ v15.
    load_step P _ base 16 _ _ k (omega arith) refl (λ v16.
    load_step P _ base 17 _ _ k (omega arith) refl (λ v17.
    load_step P _ base 18 _ _ k (omega arith) refl (λ v18.
    load_step P _ base 19 _ _ k (omega arith) refl (λ v19.
    load_step P _ base 20 _ _ k (omega arith) refl (λ v20.
    load_step P _ base 21 _ _ k (omega arith) refl (λ v21.
    load_step P _ base 22 _ _ k (omega arith) refl (λ v22.
    load_step P _ base 23 _ _ k (omega arith) refl (λ v23.
    load_step P _ base 24 _ _ k (omega arith) refl (λ v24.
    load_step P _ base 25 _ _ k (omega arith) refl (λ v25.
    load_end P _ base _ k (h v8 v9 v10 v11 v12 v13 v14 v15 v16 v17 v18 v19 v20 v21 v22 v23 v24 v25)))))))))))))))))))

-- the saves of fields 8 to 23
abbrev pub saved_parts : SwitchKind → Proc → ℕ → List Ask
saved_parts kind p = at_number (at_number (at_number (at_number (at_number (at_number (at_number (at_number (at_number (at_number (at_number (at_number (at_number (at_number (at_number (at_number ((λ n. [])) 8 (field_written roles.Save p.tr.desc.base 8 (saved_value kind p 8))) 9 (field_written roles.Save p.tr.desc.base 9 (saved_value kind p 9))) 10 (field_written roles.Save p.tr.desc.base 10 (saved_value kind p 10))) 11 (field_written roles.Save p.tr.desc.base 11 (saved_value kind p 11))) 12 (field_written roles.Save p.tr.desc.base 12 (saved_value kind p 12))) 13 (field_written roles.Save p.tr.desc.base 13 (saved_value kind p 13))) 14 (field_written roles.Save p.tr.desc.base 14 (saved_value kind p 14))) 15 (field_written roles.Save p.tr.desc.base 15 (saved_value kind p 15))) 16 (field_written roles.Save p.tr.desc.base 16 (saved_value kind p 16))) 17 (field_written roles.Save p.tr.desc.base 17 (saved_value kind p 17))) 18 (field_written roles.Save p.tr.desc.base 18 (saved_value kind p 18))) 19 (field_written roles.Save p.tr.desc.base 19 (saved_value kind p 19))) 20 (field_written roles.Save p.tr.desc.base 20 (saved_value kind p 20))) 21 (field_written roles.Save p.tr.desc.base 21 (saved_value kind p 21))) 22 (field_written roles.Save p.tr.desc.base 22 (saved_value kind p 22))) 23 (field_written roles.Save p.tr.desc.base 23 (saved_value kind p 23))

pub shows_all_saves : {A : Type 0} (P : Seen → A → Type 0) (g : Seen) (kind : SwitchKind) (p : Proc) (k : Unit {0} → Phrase A)
    → ((w : Bool) → Shows P (record g { wrote = w; saves = saved_parts kind p }) (k tt))
    → Shows P (record g { saves = λ n. [] }) (saves kind p saved_fields >>= k)
unfolding saved_fields
shows_all_saves P g kind p k h =
    save_step P _ kind p 8 _ k refl (λ w8.
    save_step P _ kind p 9 _ k refl (λ w9.
    save_step P _ kind p 10 _ k refl (λ w10.
    save_step P _ kind p 11 _ k refl (λ w11.
    save_step P _ kind p 12 _ k refl (λ w12.
    save_step P _ kind p 13 _ k refl (λ w13.
    save_step P _ kind p 14 _ k refl (λ w14.
    save_step P _ kind p 15 _ k refl (λ w15.
    save_step P _ kind p 16 _ k refl (λ w16.
    save_step P _ kind p 17 _ k refl (λ w17.
    save_step P _ kind p 18 _ k refl (λ w18.
    save_step P _ kind p 19 _ k refl (λ w19.
    save_step P _ kind p 20 _ k refl (λ w20.
    save_step P _ kind p 21 _ k refl (λ w21.
    save_step P _ kind p 22 _ k refl (λ w22.
    save_step P _ kind p 23 _ k refl (λ w23.
    save_end P _ kind p k (h w23)))))))))))))))))
