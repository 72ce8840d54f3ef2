-- The walk stands behind the lines before the rest.
use Rattle.std.proofs.Common.{◌≡◌, ◌+◌, ◌*◌, ◌^◌, ◌≤◌, List, length}
use Rattle.m386_words.specs.Text.{lines_of}
use Rattle.m386_asm.specs.Layout.{AreLaid, Laid}
use Rattle.m386_asm.specs.Surveys.{IsSurveyOf}
use Rattle.m386_asm.proofs.Walked.{Stands}
use Rattle.m386_asm.proofs.assemble.walk_over.Given as goal

abbrev pub invariant-loop-split : goal.invariant-loop-split
invariant-loop-split l =
    (l.walk.lines + length (lines_of l.rest) ≡ length (lines_of l.text)) × (l.walk.place ≤ l.walk.lines * 2 ^ 70)
    × ((ls : List Laid) → AreLaid l.text ls → IsSurveyOf ls l.survey → Stands ls l.rest l.walk)

abbrev pub decreases-loop-split : goal.decreases-loop-split
decreases-loop-split l = length l.rest
