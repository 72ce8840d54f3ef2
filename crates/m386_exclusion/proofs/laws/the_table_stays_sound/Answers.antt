use Rattle.m386_exclusion.proofs.Runs.{all_sound_next}
use Rattle.m386_exclusion.proofs.laws.the_table_stays_sound.Goals as goal

pub returns : goal.returns
returns c = all_sound_next
