use Rattle.site_memory.proofs.ChosenImages.{chosen_are_images}
use Rattle.site_memory.proofs.laws.chosen_are_images.Goals as goal

pub returns : goal.returns
returns c = chosen_are_images
