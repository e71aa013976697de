use Rattle.site_memory.proofs.SoundLinks as sound
use Rattle.site_memory.proofs.laws.links_hold.Goals as goal

pub returns : goal.returns
returns c = sound.links_hold
