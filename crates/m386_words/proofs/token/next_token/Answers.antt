use Rattle.std.proofs.Common.{rules}
use Rattle.m386_words.proofs.Tokens.{no_tokens, mark_first}
use Rattle.m386_words.proofs.token.next_token.Goals as goal

pub returns-in_default-clause-none : goal.returns-in_default-clause-none
returns-in_default-clause-none c = no_tokens c.args.line.now c.in_default.len_below

pub returns-then-not-is_word_byte-clause-some : goal.returns-then-not-is_word_byte-clause-some
returns-then-not-is_word_byte-clause-some c = rw c.mark.ensures (mark_first c.args.line.now c.in-len1-up.len_at_least c.if-first-eq59.false (search (rules, c.if-not-is_word_byte, c.is_word_byte.ensures)))
