use Rattle.drift.proofs.Floats.{product_law}
use Rattle.drift.proofs.Normalize.{normal_law}
use Rattle.drift.proofs.Step.{turned_law}
use Rattle.drift.proofs.About.{turn_law}
use Rattle.drift.proofs.Images.{image_law}
use Rattle.drift.proofs.laws_stand.Goals as goal

pub returns : goal.returns
returns c = record { product = product_law; normal = normal_law; turned = turned_law; turn = turn_law; image = image_law }
