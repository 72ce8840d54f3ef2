-- Sections that are short enough for a file.
use Rattle.std.proofs.Common.{◌≡◌, ℕ, ◌+◌, ◌<◌, List, [], ◌∷◌, ◌++◌, take, get_or, length, subst, sym}
use Rattle.std.proofs.lemmas.List.{take_more}
use Rattle.std.specs.List.{AllByRecursion}
use Rattle.m386_image.specs.declared.image.Section.{Section}
use Rattle.m386_image.specs.Format.{HasText}

shorter : (ss : List Section) (s : Section) → AllByRecursion HasText ss → HasText s → AllByRecursion HasText (ss ++ s ∷ [])
shorter [] s h p = (p, tt)
shorter (t ∷ ss) s h p = (h.0, shorter ss s h.1 p)

pub next : (ss : List Section) (i : ℕ) (s : Section) → i < length ss → s ≡ get_or ss i s → AllByRecursion HasText (take i ss) → HasText s → AllByRecursion HasText (take (i + 1) ss)
next ss i s h e a p = subst (AllByRecursion HasText) (sym (take_more ss i s h)) (shorter (take i ss) (get_or ss i s) a (subst HasText e p))
