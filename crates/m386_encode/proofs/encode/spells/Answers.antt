-- Bytes spell an operation where it is read from them, whole.
use Rattle.std.proofs.Common.{◌≡◌, subst, length}
use Rattle.m386_opmap.specs.declared.outcome.Reading.{Reading}
use Rattle.m386_opmap.specs.declared.outcome.Reading.TheVariants.{Spelled}
use Rattle.m386_opmap.specs.Spelling.{IsReadingOf}
use Rattle.m386_encode.proofs.Read.{whole_is_spelling, whole_read}
use Rattle.m386_encode.proofs.encode.spells.Goals as goal

pub returns-then-len-bytes-clause-yes : goal.returns-then-len-bytes-clause-yes
returns-then-len-bytes-clause-yes c r =
    let P : Reading → Type 0 = λ x. IsReadingOf c.args.bytes.now x in
    whole_is_spelling _ c.in-Spelled.read _ c.in-Spelled.len (subst P c.in-Spelled.is c.reading.ensures.says) c.if-len-bytes.true (c.same_op.ensures.yes r)

pub returns-then-len-bytes-clause-no : goal.returns-then-len-bytes-clause-no
returns-then-len-bytes-clause-no c s =
    let e : c.reading.result ≡ Spelled c.args.op.now (length c.args.bytes.now) = whole_read _ _ _ c.reading.ensures.spelled s in
    let same : c.in-Spelled.read ≡ c.args.op.now = cc in
    c.same_op.ensures.no same

pub returns-else-len-bytes-clause-no : goal.returns-else-len-bytes-clause-no
returns-else-len-bytes-clause-no c s =
    let e : c.reading.result ≡ Spelled c.args.op.now (length c.args.bytes.now) = whole_read _ _ _ c.reading.ensures.spelled s in
    let same : c.in-Spelled.len ≡ length c.args.bytes.now = cc in
    absurd (c.if-len-bytes.false same)

pub returns-in_default : goal.returns-in_default
returns-in_default c = record {
  yes = λ e. cc;
  no = λ s.
      let e : c.reading.result ≡ Spelled c.args.op.now (length c.args.bytes.now) = whole_read _ _ _ c.reading.ensures.spelled s in
      absurd (c.in_default.not-Spelled _ _ e);
}
