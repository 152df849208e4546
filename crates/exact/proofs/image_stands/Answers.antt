use Rattle.exact.proofs.Shown.{image_is_product, images_near}
use Rattle.exact.proofs.image_stands.Goals as goal

pub returns : goal.returns
returns c = record { product = image_is_product; near = images_near }
