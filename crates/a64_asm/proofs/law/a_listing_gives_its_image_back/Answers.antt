use Rattle.a64_asm.proofs.Listed.{reads_back}
use Rattle.a64_asm.proofs.law.a_listing_gives_its_image_back.Goals as goal

pub returns : goal.returns
returns c = reads_back
