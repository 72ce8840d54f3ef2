-- Each byte that the source gives stands behind those before it.
use Rattle.std.proofs.Common.{ℕ, List, rules, refl, sym, ◌∙◌, subst}
use Rattle.m386_opmap.specs.Readings.{reading_of}
use Rattle.m386_opmap.specs.Sure.{IsSure}
use Rattle.m386_decode.specs.Decoding.{WantsMore}
use Rattle.m386_decode.proofs.Wanting.{sure_none}
use Rattle.m386_decode.proofs.Concluding.{wants_nothing}
use Rattle.m386_decode.proofs.decode.decode.Goals as goal

pub loop-bytes-init : goal.loop-bytes-init
loop-bytes-init g c =
    let G : List ℕ → Type 0 = λ x. g.S.ByteSource.gave c.args.source.now c.args.source.now x in
    let W : List ℕ → Type 0 = WantsMore in
    record {
      gave = subst G (sym c.new-bytes.ensures) (g.met.S.ByteSource.gave_nothing c.args.source.now);
      wants = subst W (sym c.new-bytes.ensures) wants_nothing;
      sure = sure_none reading_of c.new-bytes.result.items;
      few = search rules;
      newer = refl;
    }

pub loop-bytes-preserved : goal.loop-bytes-preserved
loop-bytes-preserved g c =
    let G : List ℕ → Type 0 = λ x. g.S.ByteSource.gave c.args.source.now c.next.new.self x in
    let W : List ℕ → Type 0 = WantsMore in
    record {
      gave = subst G (sym c.push.ensures.items) (g.met.S.ByteSource.gave_more c.args.source.now c.loop-bytes.source c.next.new.self c.loop-bytes.bytes.items _ c.loop-bytes.invariant.gave c.in_ok-next.ensures.gave);
      wants = subst W c.as_slice.ensures.value (c.conclusion.ensures.none c.in_default.is);
      sure = subst (λ (x : List ℕ). IsSure reading_of x c.conclusion.new.lack) c.as_slice.ensures.value (c.conclusion.ensures.sure c.in_default.is);
      few = search rules;
      newer = c.next.ensures.newer ∙ c.loop-bytes.invariant.newer;
    }
